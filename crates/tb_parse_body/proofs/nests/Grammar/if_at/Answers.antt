use Rattle.std.proofs.Common.{arith, ap, refl, sym, ◌+◌, ◌-◌, ◌∙◌, ◌≡◌, ℕ, true, false, max}
use Rattle.std.specs.Prelude.{Some, None, Option}
use Rattle.tb_tree.specs.Longest.{Never}
use Rattle.tb_tree.proofs.Ends.{found_from, found_left, found_as, lacks_from, both, ap_both}
use Rattle.tb_tree.specs.Exprs.{a_loop}
use Rattle.tb_tree.specs.declared.marks.Mark.TheVariants as m
use Rattle.tb_tree.specs.declared.exprs.Stmt.TheVariants as stmt
use Rattle.tb_tree.specs.declared.exprs.Expr.{Expr}
use Rattle.tb_tree.specs.declared.exprs.Block.{Block}
use Rattle.tb_parse_body.specs.Elses.{unboxed}
use Rattle.tb_parse_body.specs.Rules.{around_of, ExprUpto, HeadUpto, SentenceUpto, EndedUpto, BlockUpto, InExpr}
use Rattle.tb_parse_body.proofs.FirstSymbols.{lacking, reading, lacking_stmt, reading_stmt}
use Rattle.tb_parse_body.proofs.Loops.{read_as, if_tree, if_shallow, if_lacks_head, if_lacks_then, if_reads, if_else_reads}
use Rattle.tb_parse_body.proofs.Plain.{else_none, else_some, boxed_in, no_boxed_in, block_reads, block_lacks, sentence_reads, sentence_lacking, return_outside, return_lacks, return_reads, break_outside, break_lacks, break_reads, continue_outside, continue_lacks, continue_reads, throw_lacks, throw_reads, empty_reads, start_is}
use Rattle.tb_parse_body.proofs.nests.Grammar.if_at.Goals as goal

pub returns-then-limit-eq0 : goal.returns-then-limit-eq0
returns-then-limit-eq0 g c = if_shallow (around_of c.args.around) c.args.limit _ _ c.requires.stands.2 c.if-limit-eq0.true

pub returns-in_default : goal.returns-in_default
returns-in_default g c =
    let n = lacking (HeadUpto (c.args.limit - 1)) Never c.args.self.now.reader (c.args.at + 1) _ c.in_default.is c.in_ok-condition.ensures in
    if_lacks_head (around_of c.args.around) c.args.limit _ _ c.requires.stands.2 n

pub returns-in_default-2 : goal.returns-in_default-2
returns-in_default-2 g c =
    let a = around_of c.args.around in
    let f = reading (HeadUpto (c.args.limit - 1)) Never c.args.self.now.reader (c.args.at + 1) _ c.in-Some.condition c.in-Some.is c.in_ok-condition.ensures in
    let n = no_boxed_in a a (c.args.limit - 1) c.args.self.now.reader c.in-Some.condition.next _ refl c.in_default-2.is c.in_ok-then.ensures in
    if_lacks_then a c.args.limit _ _ c.requires.stands.2 f.1 n

pub returns-in_default-3 : goal.returns-in_default-3
returns-in_default-3 g c =
    let a = around_of c.args.around in
    let r = c.args.self.now.reader in
    let h = c.in-Some.condition in
    let t = c.in-Some-2.then in
    let f = reading (HeadUpto (c.args.limit - 1)) Never r (c.args.at + 1) _ h c.in-Some.is c.in_ok-condition.ensures in
    let k = boxed_in a a (c.args.limit - 1) r h.next _ t refl c.in-Some-2.is c.in_ok-then.ensures in
    let l = else_none a (c.args.limit - 1) t.closed r t.next _ c.in_default-3.is c.in_ok-otherwise.ensures in
    read_as a c.args.limit r c.args.at t.next false (if_tree {o = None} c.start_at-start.ensures refl refl refl) (ap (λ (n : ℕ). n + 1) c.larger-depth.ensures)
    (if_reads a c.args.limit _ _ r c.args.at (h.tree, h.depth) h.next (unboxed t) c.requires.stands.2 (omega arith) f.1 k l)

pub returns : goal.returns
returns g c =
    let a = around_of c.args.around in
    let r = c.args.self.now.reader in
    let h = c.in-Some.condition in
    let t = c.in-Some-2.then in
    let s = c.in-Some-3.otherwise in
    let f = reading (HeadUpto (c.args.limit - 1)) Never r (c.args.at + 1) _ h c.in-Some.is c.in_ok-condition.ensures in
    let k = boxed_in a a (c.args.limit - 1) r h.next _ t refl c.in-Some-2.is c.in_ok-then.ensures in
    let l = else_some a (c.args.limit - 1) t.closed r t.next _ s c.in-Some-3.is c.in_ok-otherwise.ensures in
    let depth : c.larger.result + 1 ≡ max h.depth (max t.depth s.depth) + 1 = omega (arith, c.larger-depth.ensures, c.larger.ensures) in
    read_as a c.args.limit r c.args.at s.next s.closed (if_tree {o = Some s.tree} c.start_at-start.ensures refl refl refl) depth
    (if_else_reads a c.args.limit _ _ r c.args.at (h.tree, h.depth) h.next (unboxed t) s c.requires.stands.2 (omega arith) f.1 k l)
