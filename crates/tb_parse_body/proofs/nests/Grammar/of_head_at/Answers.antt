use Rattle.std.proofs.Common.{arith, true, ap, refl, ◌+◌}
use Rattle.tb_tree.proofs.Ends.{found_from, found_left, found_as, lacks_from, both}
use Rattle.tb_parse_body.specs.Rules.{ExprUpto, InExpr}
use Rattle.tb_parse_body.proofs.FirstSymbols.{lacking, reading}
use Rattle.tb_parse_body.proofs.ForHeads.{of_found, of_lacks_subject, of_lacks_close, of_head_as, stepped, same_place}
use Rattle.tb_parse_body.proofs.ForLoops.{for_shallow}
use Rattle.tb_parse_type.specs.Reading.{rest}
use Rattle.tb_parse_body.proofs.nests.Grammar.of_head_at.Goals as goal

pub returns-in_default-2 : goal.returns-in_default-2
returns-in_default-2 g c =
    let k = c.in-Some.ensures in
    let r = c.args.self.now.reader in
    let n = stepped (same_place r {i = c.args.at + 1 + 1} (omega arith)) c.in-Some-name_at.ensures.1.2 (same_place r {j = c.args.at + 3} (omega arith)) in
    let w = stepped {a = rest r (c.args.at + 3)} refl c.if-not-is_word.ensures.2 (same_place r {j = c.args.at + 4} (omega arith)) in
    of_lacks_subject c.args.limit c.in-Some.kind k.0 c.in-Some-name_at._word _ _ _ _ _ _ _ c.if-not-is_mark.ensures.2 k.2.2 n w
    (lacking (ExprUpto true c.args.limit) (InExpr true) c.args.self.now.reader (c.args.at + 4) _ c.in_default-2.is c.in_ok-subject.ensures)

pub returns-then-not-is_mark-2 : goal.returns-then-not-is_mark-2
returns-then-not-is_mark-2 g c =
    let k = c.in-Some.ensures in
    let r = c.args.self.now.reader in
    let n = stepped (same_place r {i = c.args.at + 1 + 1} (omega arith)) c.in-Some-name_at.ensures.1.2 (same_place r {j = c.args.at + 3} (omega arith)) in
    let w = stepped {a = rest r (c.args.at + 3)} refl c.if-not-is_word.ensures.2 (same_place r {j = c.args.at + 4} (omega arith)) in
    let f = reading (ExprUpto true c.args.limit) (InExpr true) c.args.self.now.reader (c.args.at + 4) _ c.in-Some-2.subject c.in-Some-2.is c.in_ok-subject.ensures in
    of_lacks_close c.args.limit c.in-Some.kind k.0 c.in-Some-name_at._word _ _ _ _ _ _ _ c.if-not-is_mark.ensures.2 k.2.2 n w f.1 c.if-not-is_mark-2.ensures

pub returns : goal.returns
returns g c =
    let k = c.in-Some.ensures in
    let r = c.args.self.now.reader in
    let n = stepped (same_place r {i = c.args.at + 1 + 1} (omega arith)) c.in-Some-name_at.ensures.1.2 (same_place r {j = c.args.at + 3} (omega arith)) in
    let w = stepped {a = rest r (c.args.at + 3)} refl c.if-not-is_word.ensures.2 (same_place r {j = c.args.at + 4} (omega arith)) in
    let x = c.in-Some-2.subject in
    let f = reading (ExprUpto true c.args.limit) (InExpr true) c.args.self.now.reader (c.args.at + 4) _ x c.in-Some-2.is c.in_ok-subject.ensures in (
      omega (arith, c.if-not-is_mark-2.ensures.0),
      found_as (both (of_head_as refl c.start_at.ensures c.in_ok-name.ensures refl) refl)
          (of_found c.args.limit c.in-Some.kind k.0 c.in-Some-name_at._word _ _ _ _ _ _ _ _ c.if-not-is_mark.ensures.2 k.2.2 n w k.1 c.in-Some-name_at.ensures.0 (found_left c.if-not-is_mark-2.ensures.2 f.1)),
    )
