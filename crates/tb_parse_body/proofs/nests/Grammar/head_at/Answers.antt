use Rattle.std.proofs.Common.{arith, true, ap, refl, ◌+◌, ◌-◌, ◌∙◌, ℕ}
use Rattle.std.specs.Prelude.{Some, None, Option}
use Rattle.tb_tree.specs.Longest.{Never}
use Rattle.tb_tree.proofs.Ends.{found_from, found_left, found_as, lacks_from, both}
use Rattle.tb_tree.specs.Exprs.{a_loop}
use Rattle.tb_parse_body.specs.Rules.{around_of, ExprUpto, HeadUpto, InExpr}
use Rattle.tb_parse_body.proofs.FirstSymbols.{lacking, reading, lacking_stmt, reading_stmt}
use Rattle.tb_parse_body.proofs.StmtHeads.{head_lacks_open, head_lacks_inside, head_lacks_close, head_found, ended_bare, ended_lacks, ended_lacks_close, ended_found, sentence_lacks, sentence_lacks_close, sentence_found}
use Rattle.tb_parse_body.proofs.nests.Grammar.head_at.Goals as goal

pub returns-then-not-is_mark-2 : goal.returns-then-not-is_mark-2
returns-then-not-is_mark-2 g c =
    let f = reading (ExprUpto true c.args.limit) (InExpr true) c.args.self.now.reader (c.args.at + 1) _ c.in-Some.of c.in-Some.is c.in_ok-of.ensures in
    lacks_from c.if-not-is_mark.ensures.2 (head_lacks_close c.args.limit _ f.1 c.if-not-is_mark-2.ensures)

pub returns-in_default : goal.returns-in_default
returns-in_default g c =
    lacks_from c.if-not-is_mark.ensures.2 (head_lacks_inside c.args.limit _ (lacking (ExprUpto true c.args.limit) (InExpr true) c.args.self.now.reader (c.args.at + 1) _ c.in_default.is c.in_ok-of.ensures))

pub returns-then-not-is_mark : goal.returns-then-not-is_mark
returns-then-not-is_mark g c = head_lacks_open c.args.limit _ c.if-not-is_mark.ensures

pub returns : goal.returns
returns g c =
    let f = reading (ExprUpto true c.args.limit) (InExpr true) c.args.self.now.reader (c.args.at + 1) _ c.in-Some.of c.in-Some.is c.in_ok-of.ensures in
    (omega (arith, c.if-not-is_mark-2.ensures.0), found_from c.if-not-is_mark.ensures.2 (found_as (both c.in_ok-new.ensures refl) (head_found c.args.limit _ _ (found_left c.if-not-is_mark-2.ensures.2 f.1))))
