use Rattle.std.proofs.Common.{◌≡◌, ◌+◌, ◌-◌, ◌∙◌, ℕ, true, refl, sym, ap, arith}
use Rattle.tb_tree.specs.declared.exprs.Expr.{Expr}
use Rattle.tb_tree.specs.declared.exprs.Expr.TheVariants as expr
use Rattle.tb_tree.specs.Longest.{Never}
use Rattle.tb_tree.proofs.Ends.{found_as, found_from, lacks_from, both}
use Rattle.tb_parse_type.specs.Reading.{rest}
use Rattle.tb_parse_body.specs.Rules.{PrimaryUpto, TargetUpto, UnaryUpto, InChain, InUnary}
use Rattle.tb_parse_body.proofs.Places.{lacking, reading}
use Rattle.tb_parse_body.proofs.Unaries.{unary_lacks_shallow, unary_prefix, unary_prefix_lacks, unary_before, unary_before_lacks, unary_lacks}
use Rattle.tb_parse_body.proofs.nests.Grammar.+prefixed_at.Goals as goal

pub returns-then-limit-eq0 : goal.returns-then-limit-eq0
returns-then-limit-eq0 g t c = unary_lacks_shallow c.args.limit (rest c.args.self.now.reader c.args.at) c.if-limit-eq0.true

pub returns-in_default-2 : goal.returns-in_default-2
returns-in_default-2 g t c =
    let s = c.in-Some.ensures in
    let n = lacking (UnaryUpto (c.args.limit - 1)) InUnary c.args.self.now.reader (c.args.at + 1) _ c.in_default-2.is c.in_ok-operand.ensures in
    lacks_from s.1.2 (unary_prefix_lacks s.0 (c.args.limit - 1) c.args.limit (omega (arith, c.if-limit-eq0.false)) s.2 n)

pub returns-in-Some : goal.returns-in-Some
returns-in-Some g t c =
    let s = c.in-Some.ensures in
    let x = c.in-Some-2.operand in
    let f = reading (UnaryUpto (c.args.limit - 1)) InUnary c.args.self.now.reader (c.args.at + 1) _ x c.in-Some-2.is c.in_ok-operand.ensures in
    let tree = c.in_ok-unary.ensures ∙ ap (λ (i : ℕ). expr.Unary i c.in-Some.operator x.tree) (c.start_at-start.ensures ∙ sym s.3) in
    (f.0, found_from s.1.2 (found_as (both tree refl) (unary_prefix s.0 (c.args.limit - 1) c.args.limit (omega (arith, c.if-limit-eq0.false)) s.2 f.1)))

pub returns-in_default-3 : goal.returns-in_default-3
returns-in_default-3 g t c =
    let s = c.in-Some-update_at.ensures in
    let n = lacking (TargetUpto (c.args.limit - 1)) InChain c.args.self.now.reader (c.args.at + 1) _ c.in_default-3.is c.in_ok-target.ensures in
    lacks_from s.1.2 (unary_before_lacks s.0 (c.args.limit - 1) c.args.limit (omega (arith, c.if-limit-eq0.false)) s.2 n)

pub returns-in-Some-update_at : goal.returns-in-Some-update_at
returns-in-Some-update_at g t c =
    let s = c.in-Some-update_at.ensures in
    let x = c.in-Some-3.target in
    let f = reading (TargetUpto (c.args.limit - 1)) InChain c.args.self.now.reader (c.args.at + 1) _ x c.in-Some-3.is c.in_ok-target.ensures in
    let tree = c.in_ok-update.ensures ∙ ap (λ (i : ℕ). expr.Update i c.in-Some-update_at.operator true x.tree) (c.start_at-start-in-Some-update_at.ensures ∙ sym s.3) in
    (f.0, found_from s.1.2 (found_as (both tree refl) (unary_before s.0 (c.args.limit - 1) c.args.limit (omega (arith, c.if-limit-eq0.false)) s.2 f.1)))

pub returns-in_default-4 : goal.returns-in_default-4
returns-in_default-4 g t c =
    let n = lacking (PrimaryUpto c.args.limit) Never c.args.self.now.reader c.args.at _ c.in_default-4.is c.in_ok-first.ensures in
    unary_lacks c.args.limit (λ s o vs h w. c.in_default.ensures s o h vs w) (λ s o vs h w. c.in_default-update_at.ensures s o h vs w) n
