-- Literals as the definition of surfaces has them.
use Rattle.std.specs.Prelude.{ℕ, Option, None}
use Rattle.tb_tree.specs.declared.types.TypeKeyword.{TypeKeyword}
use Rattle.tb_tree.specs.declared.types.TypeExpr.{TypeExpr}
use Rattle.tb_tree.specs.declared.types.TypeExpr.TheVariants as t
use Rattle.tb_tree.specs.declared.exprs.Expr.{Expr, out-Expr}
use Rattle.tb_tree.specs.declared.exprs.UnaryOperator.{UnaryOperator}
use Rattle.tb_tree.specs.declared.exprs.UnaryOperator.TheVariants as unary
use Rattle.tb_layout.specs.Surface as spec
use Rattle.tb_surface.specs.declared.literals.Literal.{Literal}
use Rattle.tb_surface.specs.declared.literals.Literal.TheVariants as literal

abbrev pub seen : Literal → spec.Literal
seen (literal.Text at spelled) = spec.Text at spelled.now
seen (literal.Number at minus digits) = spec.Number at minus digits.now
seen (literal.Truth at value) = spec.Truth at value

abbrev pub negative_of : ℕ → Expr → Option spec.Literal
negative_of at of = spec.negative_at at (out-Expr of)

abbrev pub signed_at : ℕ → UnaryOperator → Expr → Option spec.Literal
signed_at at unary.Not of = None
signed_at at unary.Minus of = negative_of at of
signed_at at unary.Plus of = None
signed_at at unary.Typeof of = None

abbrev pub keyword_at : ℕ → TypeKeyword → TypeExpr
keyword_at at keyword = t.Keyword at keyword
