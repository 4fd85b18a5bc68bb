use Rattle.std.proofs.Common.{Bool, true, sym, subst}
use Rattle.std.specs.Prelude.{Option, None, false}
use Rattle.tb_tree.specs.declared.types.TypeExpr.{TypeExpr}
use Rattle.tb_tree.specs.Longest.{Found}
use Rattle.tb_parse_type.specs.Reading.{rest}
use Rattle.tb_parse_body.specs.Rules.{Deep, ResultUpto, InAnnotation}
use Rattle.tb_parse_body.proofs.ArrowStarts.{arrow_is_expr}
use Rattle.tb_parse_body.proofs.Defaults.{expr_lacks}
use Rattle.tb_parse_body.proofs.ArrowParts.{result_none, result_some}
use Rattle.tb_parse_body.proofs.arrows.result_at.Goals as goal

pub returns-then-not-typed : goal.returns-then-not-typed
returns-then-not-typed c =
    let xs = rest c.args.reader c.args.at in
    (c.requires, subst (λ (b : Bool). Found {X = Deep (Option TypeExpr)} (ResultUpto b c.args.limit) InAnnotation xs (None, 0) xs) (sym c.if-not-typed.true) (result_none c.args.limit xs))

pub returns : goal.returns
returns c =
    let f = c.in_ok-annotation.ensures in
    (f.0, subst (λ (b : Bool). Found {X = Deep (Option TypeExpr)} (ResultUpto b c.args.limit) InAnnotation (rest c.args.reader c.args.at) (c.in_ok-annotation.annotation.tree, c.in_ok-annotation.annotation.depth) (rest c.args.reader c.in_ok-annotation.annotation.next)) (sym c.if-not-typed.false) (result_some c.args.limit f.1))
