use Rattle.std.proofs.Common.{refl, sym, ap, subst, ◌≡◌, ◌∙◌, ◌≤◌, true, false, length, ℕ}
use Rattle.tb_tree.specs.declared.exprs.Expr.{Expr}
use Rattle.tb_tree.specs.Exprs.{is_target}
use Rattle.tb_tree.specs.Longest.{Never}
use Rattle.tb_tree.proofs.Ends.{found_as}
use Rattle.tb_parse_body.specs.Rules.{PrimaryUpto}
use Rattle.tb_parse_body.proofs.Places.{lacking, reading}
use Rattle.tb_parse_body.proofs.Sequences.{deep_as}
use Rattle.tb_parse_body.proofs.Targets.{target_lacks_primary}
use Rattle.tb_parse_body.proofs.nests.Grammar.target_at.Goals as goal

pub returns-in_default : goal.returns-in_default
returns-in_default g c =
    let n = lacking (PrimaryUpto c.args.limit) Never c.args.self.now.reader c.args.at _ c.in_default.is c.in_ok-first.ensures in
    target_lacks_primary c.args.limit n

pub returns-then-not-is_target : goal.returns-then-not-is_target
returns-then-not-is_target g c =
    let s = c.in_ok-stem.ensures in
    s.none (sym (ap is_target c.without_calls-tree.ensures) ∙ sym c.is_target.ensures ∙ c.if-not-is_target.true)

pub returns : goal.returns
returns g c =
    let s = c.in_ok-stem.ensures in
    (s.within, found_as (deep_as c.without_calls-tree.ensures refl) (s.found (sym (ap is_target c.without_calls-tree.ensures) ∙ sym c.is_target.ensures ∙ c.if-not-is_target.false)))
