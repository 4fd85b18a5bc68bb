-- How an operator stands before an operand.
use Rattle.std.proofs.Common.{◌≡◌, ℕ, Bool, true, false, List, [], ◌∷◌, ◌++◌, Option, Some, None, refl, ◌∙◌, ap, sym}
use Rattle.tb_tree.specs.declared.marks.Mark.TheVariants as m
use Rattle.tb_tree.specs.declared.exprs.Expr.{Expr}
use Rattle.tb_tree.specs.declared.exprs.Expr.TheVariants as expr
use Rattle.tb_tree.specs.declared.exprs.UnaryOperator.{UnaryOperator}
use Rattle.tb_tree.specs.declared.exprs.UnaryOperator.TheVariants as unary
use Rattle.tb_layout.specs.Pieces.{Piece, Mark, mark, text_of}
use Rattle.tb_layout.specs.Js.{begins_with_minus, begins_with_plus, spaced_if, prefixed}
use Rattle.tb_layout.proofs.Written as w
use Rattle.tb_layout.proofs.Written.{js_expr}
use Rattle.tb_emit_js.specs.declared.signs.Sign.{Sign}
use Rattle.tb_emit_js.specs.declared.signs.Sign.TheVariants as sign
use Rattle.tb_emit_js.specs.Signs.{sign_of_piece, first_sign, prefix_text, BeginsWith}

abbrev is_minus : Sign → Bool
is_minus sign.Minus = true
is_minus sign.Plus = false
is_minus sign.Other = false

abbrev is_plus : Sign → Bool
is_plus sign.Plus = true
is_plus sign.Minus = false
is_plus sign.Other = false

minus_of : (of : Piece) (rest : List Piece) → begins_with_minus (of ∷ rest) ≡ is_minus (sign_of_piece of)
minus_of (Mark m.Plus) rest = refl
minus_of (Mark m.PlusPlus) rest = refl
minus_of (Mark m.Minus) rest = refl
minus_of (Mark m.MinusMinus) rest = refl
minus_of _ rest = refl

plus_of : (of : Piece) (rest : List Piece) → begins_with_plus (of ∷ rest) ≡ is_plus (sign_of_piece of)
plus_of (Mark m.Plus) rest = refl
plus_of (Mark m.PlusPlus) rest = refl
plus_of (Mark m.Minus) rest = refl
plus_of (Mark m.MinusMinus) rest = refl
plus_of _ rest = refl

same_sign : (a b : Sign) → Some a ≡ Some b → a ≡ b
same_sign a b is = cc

begins_minus : (pieces : List Piece) (of : Sign) → first_sign pieces ≡ Some of → begins_with_minus pieces ≡ is_minus of
begins_minus [] of is = absurd cc
begins_minus (x ∷ xs) of is = minus_of x xs ∙ ap is_minus (same_sign (sign_of_piece x) of is)

begins_plus : (pieces : List Piece) (of : Sign) → first_sign pieces ≡ Some of → begins_with_plus pieces ≡ is_plus of
begins_plus [] of is = absurd cc
begins_plus (x ∷ xs) of is = plus_of x xs ∙ ap is_plus (same_sign (sign_of_piece x) of is)

minus_text : (of : Sign) (pieces : List Piece) → text_of (mark m.Minus ++ spaced_if (is_minus of) ++ pieces) ≡ prefix_text unary.Minus of ++ text_of pieces
minus_text sign.Plus pieces = refl
minus_text sign.Minus pieces = refl
minus_text sign.Other pieces = refl

plus_text : (of : Sign) (pieces : List Piece) → text_of (mark m.Plus ++ spaced_if (is_plus of) ++ pieces) ≡ prefix_text unary.Plus of ++ text_of pieces
plus_text sign.Plus pieces = refl
plus_text sign.Minus pieces = refl
plus_text sign.Other pieces = refl

prefixed_text : (operator : UnaryOperator) (pieces : List Piece) (of : Sign) → first_sign pieces ≡ Some of → text_of (prefixed operator pieces) ≡ prefix_text operator of ++ text_of pieces
prefixed_text unary.Not pieces of is = refl
prefixed_text unary.Minus pieces of is = ap (λ b. text_of (mark m.Minus ++ spaced_if b ++ pieces)) (begins_minus pieces of is) ∙ minus_text of pieces
prefixed_text unary.Plus pieces of is = ap (λ b. text_of (mark m.Plus ++ spaced_if b ++ pieces)) (begins_plus pieces of is) ∙ plus_text of pieces
prefixed_text unary.Typeof pieces of is = refl

pub unary_text : (at : ℕ) (operator : UnaryOperator) (operand : Expr) (of : Sign) (n : ℕ) → BeginsWith of (js_expr operand)
    → text_of (js_expr (expr.Unary at operator operand) n) ≡ prefix_text operator of ++ text_of (js_expr operand n)
unary_text at operator operand of n is = ap text_of (w.unary_expr at operator operand n) ∙ prefixed_text operator (js_expr operand n) of (is n)
