-- Readings by the grammar, as tests of it: each is derived, with the tree and the depth that are to be.
use Rattle.std.proofs.Common.{ℕ, Bool, true, false, List, [], ◌∷◌, Some, None, refl}
use Rattle.tb_tree.specs.declared.marks.Mark.TheVariants as m
use Rattle.tb_tree.specs.declared.words.Word.TheVariants as w
use Rattle.tb_tree.specs.declared.types.TypeExpr.TheVariants as t
use Rattle.tb_tree.specs.declared.exprs.BinaryOperator.TheVariants as binary
use Rattle.tb_tree.specs.declared.exprs.Expr.{Expr}
use Rattle.tb_tree.specs.declared.exprs.Expr.TheVariants as expr
use Rattle.tb_tree.specs.declared.exprs.Stmt.TheVariants as stmt
use Rattle.tb_tree.specs.Sym.{Sym, Mark}
use Rattle.tb_tree.specs.Shapes.{word}
use Rattle.tb_tree.specs.Types as types
use Rattle.tb_tree.specs.Exprs as g

-- the name `a`, and what it is
a : ℕ → Sym
a at = word w.Name (97 ∷ []) at

named : ℕ → Expr
named at = expr.Name at (97 ∷ [])

-- `readonly a[][]`: the outer array is read-only
read_only_array : types.IsElement
    (word w.Readonly [] 0 ∷ a 9 ∷ Mark m.OpenBracket 10 ∷ Mark m.CloseBracket 11 ∷ Mark m.OpenBracket 12 ∷ Mark m.CloseBracket 13 ∷ [])
    (t.Array 0 true (t.Array 9 false (t.Written 9 (97 ∷ []) []))) 3 3
unfolding a
read_only_array = types.read_only_element [] 0 (types.written_type (97 ∷ []) 9 refl) (types.brackets 10 11 (types.brackets 12 13 types.no_brackets))

module _ (ordered : Bool) where
  -- an operand of `<`, and an expression
  operand : (at : ℕ) → g.IsLevel ordered 5 (a at ∷ []) (named at) 1
  unfolding a named
  operand at = g.next_level (g.next_level (g.unary_operand refl (g.chain_expr (g.primary_expr (g.name_expr (97 ∷ []) at refl)))))

  whole : (at : ℕ) → g.IsExpr ordered true (a at ∷ []) (named at) 1
  whole at = g.cond_expr (g.or_expr (g.level_expr (g.next_level (g.next_level (g.next_level (g.next_level (operand at)))))))

  -- `a < a < a` groups to the left
  left_join : g.IsLevel ordered 4 (a 0 ∷ Mark m.Less 2 ∷ a 4 ∷ Mark m.Less 6 ∷ a 8 ∷ [])
      (expr.Binary 0 (expr.Binary 0 (named 0) binary.Less (named 4)) binary.Less (named 8)) 3
  unfolding a
  left_join = g.joined_expr (Mark m.Less 6) (g.joined_expr (Mark m.Less 2) (g.next_level (operand 0)) refl refl (operand 4)) refl refl (operand 8)

  -- `if (a) if (a) ; else ;`: the `else` belongs to the inner `if`
  nearest_else : g.IsStmt ordered g.no_body false
      (word w.If [] 0 ∷ Mark m.OpenParen 3 ∷ a 4 ∷ Mark m.CloseParen 5 ∷ word w.If [] 7 ∷ Mark m.OpenParen 10 ∷ a 11 ∷ Mark m.CloseParen 12 ∷ Mark m.Semicolon 14 ∷ word w.Else [] 16 ∷ Mark m.Semicolon 21 ∷ [])
      (stmt.If 0 (named 4) (stmt.If 7 (named 11) (stmt.Empty 14) (Some (stmt.Empty 21))) None) 3
  nearest_else = g.if_stmt [] 0 3 5 (whole 4) (g.if_else_stmt [] 7 10 12 [] 16 (whole 11) (g.empty_stmt 14) (g.empty_stmt 21))
