-- What a layout begins with, and how an operator before it is written.
use Rattle.std.specs.Prelude.{◌≡◌, ℕ, Bool, true, false, List, [], ◌∷◌, codes, Option, Some, None}
use Rattle.tb_tree.specs.declared.marks.Mark.TheVariants as m
use Rattle.tb_tree.specs.declared.exprs.UnaryOperator.{UnaryOperator}
use Rattle.tb_tree.specs.declared.exprs.UnaryOperator.TheVariants as unary
use Rattle.tb_tree.specs.declared.exprs.UpdateOperator.{UpdateOperator}
use Rattle.tb_tree.specs.declared.exprs.UpdateOperator.TheVariants as update
use Rattle.tb_layout.specs.Pieces.{Piece, Mark, mark_text}
use Rattle.tb_layout.specs.Js.{Laid, update_mark}
use Rattle.tb_emit_js.specs.declared.signs.Sign.{Sign}
use Rattle.tb_emit_js.specs.declared.signs.Sign.TheVariants as sign

abbrev pub sign_of_piece : Piece → Sign
sign_of_piece (Mark m.Plus) = sign.Plus
sign_of_piece (Mark m.PlusPlus) = sign.Plus
sign_of_piece (Mark m.Minus) = sign.Minus
sign_of_piece (Mark m.MinusMinus) = sign.Minus
sign_of_piece _ = sign.Other

-- what pieces begin with, where there are any
abbrev pub first_sign : List Piece → Option Sign
first_sign [] = None
first_sign (of ∷ rest) = Some (sign_of_piece of)

abbrev pub BeginsWith : Sign → Laid → Type 0
BeginsWith of laid = (n : ℕ) → first_sign (laid n) ≡ Some of

abbrev pub sign_of_unary : UnaryOperator → Sign
sign_of_unary unary.Not = sign.Other
sign_of_unary unary.Minus = sign.Minus
sign_of_unary unary.Plus = sign.Plus
sign_of_unary unary.Typeof = sign.Other

-- an operator before its target stands first, and else the target does
abbrev pub sign_of_update : UpdateOperator → Bool → Sign → Sign
sign_of_update operator false target = target
sign_of_update update.Increment true target = sign.Plus
sign_of_update update.Decrement true target = sign.Minus

-- what is written before a target, and behind it
abbrev pub before_text : UpdateOperator → Bool → List ℕ
before_text operator true = mark_text (update_mark operator)
before_text operator false = []

abbrev pub behind_text : UpdateOperator → Bool → List ℕ
behind_text operator true = []
behind_text operator false = mark_text (update_mark operator)

-- before an operand that begins with the same character `+` and `-` have a space
abbrev pub prefix_text : UnaryOperator → Sign → List ℕ
prefix_text unary.Not operand = codes "!"
prefix_text unary.Typeof operand = codes "typeof "
prefix_text unary.Minus sign.Minus = codes "- "
prefix_text unary.Minus sign.Plus = codes "-"
prefix_text unary.Minus sign.Other = codes "-"
prefix_text unary.Plus sign.Plus = codes "+ "
prefix_text unary.Plus sign.Minus = codes "+"
prefix_text unary.Plus sign.Other = codes "+"
