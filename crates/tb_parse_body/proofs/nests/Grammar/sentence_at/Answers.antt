use Rattle.std.proofs.Common.{arith, true, ap, refl, ◌+◌, ◌-◌, ◌∙◌, ℕ}
use Rattle.std.specs.Prelude.{Some, None, Option}
use Rattle.tb_tree.specs.Longest.{Never}
use Rattle.tb_tree.proofs.Ends.{found_from, found_left, found_as, lacks_from, both}
use Rattle.tb_tree.specs.Exprs.{a_loop}
use Rattle.tb_parse_body.specs.Rules.{around_of, ExprUpto, HeadUpto, InExpr}
use Rattle.tb_parse_body.proofs.FirstSymbols.{lacking, reading, lacking_stmt, reading_stmt}
use Rattle.tb_parse_body.proofs.StmtHeads.{head_lacks_open, head_lacks_inside, head_lacks_close, head_found, ended_bare, ended_lacks, ended_lacks_close, ended_found, sentence_lacks, sentence_lacks_close, sentence_found}
use Rattle.tb_parse_body.proofs.nests.Grammar.sentence_at.Goals as goal

pub returns-in_default : goal.returns-in_default
returns-in_default g c = sentence_lacks c.args.limit (lacking (ExprUpto true c.args.limit) (InExpr true) c.args.self.now.reader c.args.at _ c.in_default.is c.in_ok-of.ensures)

pub returns-then-not-is_mark : goal.returns-then-not-is_mark
returns-then-not-is_mark g c =
    let f = reading (ExprUpto true c.args.limit) (InExpr true) c.args.self.now.reader c.args.at _ c.in-Some.of c.in-Some.is c.in_ok-of.ensures in
    sentence_lacks_close c.args.limit f.1 c.if-not-is_mark.ensures

pub returns : goal.returns
returns g c =
    let f = reading (ExprUpto true c.args.limit) (InExpr true) c.args.self.now.reader c.args.at _ c.in-Some.of c.in-Some.is c.in_ok-of.ensures in
    (omega (arith, c.if-not-is_mark.ensures.0), sentence_found c.args.limit _ (found_left c.if-not-is_mark.ensures.2 f.1))
