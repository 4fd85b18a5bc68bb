use Rattle.std.proofs.Common.{arith, ap, refl, sym, ◌+◌, ◌-◌, ◌∙◌, ℕ, true, false, max}
use Rattle.std.specs.Prelude.{Some, None, Option}
use Rattle.tb_tree.specs.Longest.{Never}
use Rattle.tb_tree.proofs.Ends.{found_from, found_left, found_as, lacks_from, both, ap_both}
use Rattle.tb_tree.specs.Exprs.{a_loop}
use Rattle.tb_tree.specs.declared.marks.Mark.TheVariants as m
use Rattle.tb_parse_body.specs.Rules.{around_of, ExprUpto, HeadUpto, SentenceUpto, EndedUpto, BlockUpto, InExpr}
use Rattle.tb_parse_body.proofs.FirstSymbols.{lacking, reading, lacking_stmt, reading_stmt}
use Rattle.tb_parse_body.proofs.Loops.{read_as, if_shallow, if_lacks_head, if_lacks_then, if_reads, if_else_reads, while_shallow, while_lacks_head, while_lacks_body, while_reads, do_shallow, do_lacks_body, do_lacks_word, do_lacks_head, do_lacks_close, do_reads}
use Rattle.tb_parse_body.proofs.Plain.{else_open, else_absent, else_reads, reading_in, lacking_in, block_reads, block_lacks, sentence_reads, sentence_lacking, return_outside, return_lacks, return_reads, break_outside, break_lacks, break_reads, continue_outside, continue_lacks, continue_reads, throw_lacks, throw_reads, empty_reads, start_is}
use Rattle.tb_parse_body.proofs.nests.Grammar.else_at.Goals as goal

pub returns-then-not-closed : goal.returns-then-not-closed
returns-then-not-closed g c = else_open (around_of c.args.around) c.args.limit c.args.closed _ c.if-not-closed.true

pub returns-then-not-is_word : goal.returns-then-not-is_word
returns-then-not-is_word g c = else_absent (around_of c.args.around) c.args.limit c.args.closed _ c.if-not-is_word.ensures

pub returns : goal.returns
returns g c = else_reads (around_of c.args.around) c.args.limit c.args.closed c.args.self.now.reader c.args.at _ c.if-not-closed.false c.if-not-is_word.ensures c.in_ok-otherwise.ensures
