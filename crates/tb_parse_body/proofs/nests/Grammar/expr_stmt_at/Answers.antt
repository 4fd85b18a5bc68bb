use Rattle.std.proofs.Common.{arith, ap, refl, sym, ◌+◌, ◌-◌, ◌∙◌, ◌≡◌, ℕ, true, false, max}
use Rattle.std.specs.Prelude.{Some, None, Option}
use Rattle.tb_tree.specs.Longest.{Never}
use Rattle.tb_tree.proofs.Ends.{found_from, found_left, found_as, lacks_from, both, ap_both}
use Rattle.tb_tree.specs.Exprs.{a_loop}
use Rattle.tb_tree.specs.declared.marks.Mark.TheVariants as m
use Rattle.tb_tree.specs.declared.exprs.Stmt.TheVariants as stmt
use Rattle.tb_tree.specs.declared.exprs.Expr.{Expr}
use Rattle.tb_tree.specs.declared.exprs.Block.{Block}
use Rattle.tb_parse_body.specs.Elses.{unboxed}
use Rattle.tb_parse_body.specs.Rules.{around_of, ExprUpto, HeadUpto, SentenceUpto, EndedUpto, BlockUpto, InExpr}
use Rattle.tb_parse_body.proofs.FirstSymbols.{lacking, reading, lacking_stmt, reading_stmt}
use Rattle.tb_parse_body.proofs.Loops.{read_as, if_tree, if_shallow, if_lacks_head, if_lacks_then, if_reads, if_else_reads}
use Rattle.tb_parse_body.proofs.Plain.{else_none, else_some, boxed_in, no_boxed_in, block_reads, block_lacks, sentence_reads, sentence_lacking, return_outside, return_lacks, return_reads, break_outside, break_lacks, break_reads, continue_outside, continue_lacks, continue_reads, throw_lacks, throw_reads, empty_reads, start_is}
use Rattle.tb_parse_body.proofs.nests.Grammar.expr_stmt_at.Goals as goal

pub returns-in_default : goal.returns-in_default
returns-in_default g c =
    sentence_lacking (around_of c.args.around) c.args.limit _ c.requires.other (lacking (SentenceUpto c.args.limit) Never c.args.self.now.reader c.args.at _ c.in_default.is c.in_ok-value.ensures)

pub returns : goal.returns
returns g c =
    let a = around_of c.args.around in
    let b = c.in-Some.value in
    let f = reading (SentenceUpto c.args.limit) Never c.args.self.now.reader c.args.at _ b c.in-Some.is c.in_ok-value.ensures in
    read_as a c.args.limit c.args.self.now.reader c.args.at b.next true
    (ap_both (λ (o : ℕ) (x : Expr). stmt.Expr o x) (c.start_at.ensures ∙ start_is c.args.self.now.reader c.args.at) c.in_ok-new.ensures) refl
    (sentence_reads a c.args.limit c.args.self.now.reader c.args.at (b.tree, b.depth) b.next c.requires.other f.0 f.1)
