use Rattle.std.proofs.Common.{arith, ap, refl, sym, ◌+◌, ◌-◌, ◌∙◌, ℕ, true, false, max}
use Rattle.std.specs.Prelude.{Some, None, Option}
use Rattle.tb_tree.specs.Longest.{Never}
use Rattle.tb_tree.proofs.Ends.{found_from, found_left, found_as, lacks_from, both, ap_both}
use Rattle.tb_tree.specs.Exprs.{a_loop}
use Rattle.tb_tree.specs.declared.marks.Mark.TheVariants as m
use Rattle.tb_parse_body.specs.Rules.{around_of, ExprUpto, HeadUpto, SentenceUpto, EndedUpto, BlockUpto, InExpr}
use Rattle.tb_parse_body.specs.Elses.{unboxed}
use Rattle.tb_parse_body.proofs.FirstSymbols.{lacking, reading, lacking_stmt, reading_stmt}
use Rattle.tb_parse_body.proofs.Loops.{read_as, if_tree, while_tree, do_tree, if_shallow, if_lacks_head, if_lacks_then, if_reads, if_else_reads, while_shallow, while_lacks_head, while_lacks_body, while_reads, do_shallow, do_lacks_body, do_lacks_word, do_lacks_head, do_lacks_close, do_reads}
use Rattle.tb_parse_body.proofs.Plain.{boxed_in, no_boxed_in, else_open, else_absent, else_reads, reading_in, lacking_in, block_reads, block_lacks, sentence_reads, sentence_lacking, return_outside, return_lacks, return_reads, break_outside, break_lacks, break_reads, continue_outside, continue_lacks, continue_reads, throw_lacks, throw_reads, empty_reads, start_is}
use Rattle.tb_parse_body.proofs.nests.Grammar.do_at.Goals as goal

pub returns-then-limit-eq0 : goal.returns-then-limit-eq0
returns-then-limit-eq0 g c = do_shallow (around_of c.args.around) c.args.limit _ _ c.requires.stands.2 c.if-limit-eq0.true

pub returns-in_default : goal.returns-in_default
returns-in_default g c =
    let n = no_boxed_in (around_of c.in_a_loop.result) (a_loop (around_of c.args.around)) (c.args.limit - 1) c.args.self.now.reader (c.args.at + 1) _ c.in_a_loop.ensures c.in_default.is c.in_ok-body.ensures in
    do_lacks_body (around_of c.args.around) c.args.limit _ _ c.requires.stands.2 n

pub returns-then-not-is_word : goal.returns-then-not-is_word
returns-then-not-is_word g c =
    let k = boxed_in (around_of c.in_a_loop.result) (a_loop (around_of c.args.around)) (c.args.limit - 1) c.args.self.now.reader (c.args.at + 1) _ c.in-Some.body c.in_a_loop.ensures c.in-Some.is c.in_ok-body.ensures in
    do_lacks_word (around_of c.args.around) c.args.limit _ _ c.requires.stands.2 k.0.1 c.if-not-is_word.ensures

pub returns-in_default-2 : goal.returns-in_default-2
returns-in_default-2 g c =
    let k = boxed_in (around_of c.in_a_loop.result) (a_loop (around_of c.args.around)) (c.args.limit - 1) c.args.self.now.reader (c.args.at + 1) _ c.in-Some.body c.in_a_loop.ensures c.in-Some.is c.in_ok-body.ensures in
    let n = lacking (HeadUpto (c.args.limit - 1)) Never c.args.self.now.reader (c.in-Some.body.next + 1) _ c.in_default-2.is c.in_ok-condition.ensures in
    do_lacks_head (around_of c.args.around) c.args.limit _ _ _ _ c.requires.stands.2 k.0.1 c.if-not-is_word.ensures.2 n

pub returns-then-not-is_mark : goal.returns-then-not-is_mark
returns-then-not-is_mark g c =
    let k = boxed_in (around_of c.in_a_loop.result) (a_loop (around_of c.args.around)) (c.args.limit - 1) c.args.self.now.reader (c.args.at + 1) _ c.in-Some.body c.in_a_loop.ensures c.in-Some.is c.in_ok-body.ensures in
    let f = reading (HeadUpto (c.args.limit - 1)) Never c.args.self.now.reader (c.in-Some.body.next + 1) _ c.in-Some-2.condition c.in-Some-2.is c.in_ok-condition.ensures in
    do_lacks_close (around_of c.args.around) c.args.limit _ _ _ _ c.requires.stands.2 k.0.1 c.if-not-is_word.ensures.2 f.1 c.if-not-is_mark.ensures

pub returns : goal.returns
returns g c =
    let s = c.in-Some.body in
    let h = c.in-Some-2.condition in
    let k = boxed_in (around_of c.in_a_loop.result) (a_loop (around_of c.args.around)) (c.args.limit - 1) c.args.self.now.reader (c.args.at + 1) _ s c.in_a_loop.ensures c.in-Some.is c.in_ok-body.ensures in
    let f = reading (HeadUpto (c.args.limit - 1)) Never c.args.self.now.reader (s.next + 1) _ h c.in-Some-2.is c.in_ok-condition.ensures in
    read_as (around_of c.args.around) c.args.limit c.args.self.now.reader c.args.at (h.next + 1) true (do_tree c.start_at.ensures refl refl) (ap (λ (n : ℕ). n + 1) c.larger.ensures)
    (do_reads (around_of c.args.around) c.args.limit _ _ c.args.self.now.reader c.args.at (unboxed s) _ _ _ (h.tree, h.depth) (h.next + 1) c.requires.stands.2 (omega arith) k
    c.if-not-is_word.ensures.2 (found_left c.if-not-is_mark.ensures.2 f.1) (omega (arith, c.if-not-is_mark.ensures.0)))
