use Rattle.std.proofs.Common.{arith, ap, refl, sym, ◌+◌, ◌-◌, ◌∙◌, ℕ, true, false, max}
use Rattle.std.specs.Prelude.{Some, None, Option}
use Rattle.tb_tree.specs.Longest.{Never}
use Rattle.tb_tree.proofs.Ends.{found_from, found_left, found_as, lacks_from, both, ap_both}
use Rattle.tb_tree.specs.Exprs.{a_loop}
use Rattle.tb_tree.specs.declared.marks.Mark.TheVariants as m
use Rattle.tb_parse_body.specs.Rules.{around_of, VarUpto, OfHeadUpto, ForHeadUpto, ForStartUpto, EndedUpto}
use Rattle.tb_parse_body.specs.Elses.{unboxed}
use Rattle.tb_parse_body.proofs.FirstSymbols.{lacking, reading}
use Rattle.tb_parse_body.proofs.Loops.{read_as}
use Rattle.tb_parse_body.proofs.Plain.{boxed_in, no_boxed_in}
use Rattle.tb_parse_body.proofs.ForHeads.{start_var, start_ended, start_lacks, head_lacks_open, head_lacks_start, head_lacks_condition, head_lacks_update, head_found}
use Rattle.tb_parse_body.proofs.ForLoops.{each_tree, for_tree, for_shallow, for_lacks_head, each_lacks_body, for_lacks_body, each_reads, for_reads}
use Rattle.tb_parse_body.proofs.nests.Grammar.for_head_at.Goals as goal

pub returns-then-not-is_mark : goal.returns-then-not-is_mark
returns-then-not-is_mark g c = head_lacks_open c.args.limit _ c.if-not-is_mark.ensures

pub returns-in_default : goal.returns-in_default
returns-in_default g c =
    lacks_from c.if-not-is_mark.ensures.2 (head_lacks_start c.args.limit _ (lacking (ForStartUpto c.args.limit) Never c.args.self.now.reader (c.args.at + 1) _ c.in_default.is c.in_ok-start.ensures))

pub returns-in_default-2 : goal.returns-in_default-2
returns-in_default-2 g c =
    let x = c.in-Some.start in
    let f = reading (ForStartUpto c.args.limit) Never c.args.self.now.reader (c.args.at + 1) _ x c.in-Some.is c.in_ok-start.ensures in
    let n = lacking (EndedUpto m.Semicolon c.args.limit) Never c.args.self.now.reader x.next _ c.in_default-2.is c.in_ok-condition.ensures in
    lacks_from c.if-not-is_mark.ensures.2 (head_lacks_condition c.args.limit _ f.1 n)

pub returns-in_default-3 : goal.returns-in_default-3
returns-in_default-3 g c =
    let x = c.in-Some.start in
    let y = c.in-Some-2.condition in
    let f = reading (ForStartUpto c.args.limit) Never c.args.self.now.reader (c.args.at + 1) _ x c.in-Some.is c.in_ok-start.ensures in
    let k = reading (EndedUpto m.Semicolon c.args.limit) Never c.args.self.now.reader x.next _ y c.in-Some-2.is c.in_ok-condition.ensures in
    let n = lacking (EndedUpto m.CloseParen c.args.limit) Never c.args.self.now.reader y.next _ c.in_default-3.is c.in_ok-update.ensures in
    lacks_from c.if-not-is_mark.ensures.2 (head_lacks_update c.args.limit _ f.1 k.1 n)

pub returns : goal.returns
returns g c =
    let x = c.in-Some.start in
    let y = c.in-Some-2.condition in
    let z = c.in-Some-3.update in
    let f = reading (ForStartUpto c.args.limit) Never c.args.self.now.reader (c.args.at + 1) _ x c.in-Some.is c.in_ok-start.ensures in
    let k = reading (EndedUpto m.Semicolon c.args.limit) Never c.args.self.now.reader x.next _ y c.in-Some-2.is c.in_ok-condition.ensures in
    let l = reading (EndedUpto m.CloseParen c.args.limit) Never c.args.self.now.reader y.next _ z c.in-Some-3.is c.in_ok-update.ensures in
    (l.0, found_as (both refl (c.larger-2.ensures ∙ ap (λ (n : ℕ). max x.depth n) c.larger.ensures)) (found_from c.if-not-is_mark.ensures.2 (head_found c.args.limit _ f.1 k.1 l.1)))
