use Rattle.std.proofs.Common.{arith, ap, refl, sym, ◌+◌, ◌-◌, ◌∙◌, ◌∷◌, ◌≡◌, ℕ, true, false, max}
use Rattle.std.specs.Prelude.{Some, None, Option}
use Rattle.tb_tree.specs.Longest.{Never}
use Rattle.tb_tree.proofs.Ends.{found_from, found_left, found_as, lacks_from, both, ap_both}
use Rattle.tb_tree.specs.Exprs.{a_loop}
use Rattle.tb_tree.specs.Sym.{Mark}
use Rattle.tb_parse_type.specs.Reading.{rest, start_at}
use Rattle.tb_tree.specs.declared.marks.Mark.TheVariants as m
use Rattle.tb_tree.specs.declared.exprs.Stmt.TheVariants as stmt
use Rattle.tb_tree.specs.declared.exprs.Expr.{Expr}
use Rattle.tb_tree.specs.declared.exprs.Block.{Block}
use Rattle.tb_parse_body.specs.Elses.{unboxed}
use Rattle.tb_parse_body.specs.Rules.{around_of, ExprUpto, HeadUpto, SentenceUpto, EndedUpto, BlockUpto, InExpr}
use Rattle.tb_parse_body.proofs.FirstSymbols.{lacking, reading, lacking_stmt, reading_stmt}
use Rattle.tb_parse_body.proofs.Loops.{read_as, if_tree, if_shallow, if_lacks_head, if_lacks_then, if_reads, if_else_reads}
use Rattle.tb_parse_body.proofs.Plain.{not_true, not_false, else_none, else_some, boxed_in, no_boxed_in, block_reads, block_lacks, sentence_reads, sentence_lacking, return_outside, return_lacks, return_reads, break_outside, break_lacks, break_reads, continue_outside, continue_lacks, continue_reads, throw_lacks, throw_reads, empty_reads, start_is}
use Rattle.tb_parse_body.proofs.nests.Grammar.break_at.Goals as goal

pub returns-then-not-takes_break : goal.returns-then-not-takes_break
returns-then-not-takes_break g c = break_outside (around_of c.args.around) c.args.limit _ _ c.requires.stands.2 (sym c.takes_break.ensures ∙ c.if-not-takes_break.true)

pub returns-then-not-is_mark : goal.returns-then-not-is_mark
returns-then-not-is_mark g c = break_lacks (around_of c.args.around) c.args.limit _ _ c.requires.stands.2 c.if-not-is_mark.ensures

pub returns : goal.returns
returns g c =
    let r = c.args.self.now.reader in
    let p : c.args.at + 1 + 1 ≡ c.args.at + 2 = omega arith in
    let behind = c.if-not-is_mark.ensures.2 ∙ ap (λ (n : ℕ). Mark m.Semicolon (start_at r (c.args.at + 1)) ∷ rest r n) p in
    read_as (around_of c.args.around) c.args.limit r c.args.at (c.args.at + 2) true (ap (λ (o : ℕ). stmt.Break o) c.start_at.ensures) refl
    (break_reads (around_of c.args.around) c.args.limit _ _ r c.args.at _ (c.args.at + 2) c.requires.stands.2 (sym c.takes_break.ensures ∙ c.if-not-takes_break.false) (omega (arith, c.if-not-is_mark.ensures.0)) behind)
