-- What may follow an operand: an operator with a further operand, or `as` with a type.
use Rattle.std.specs.Prelude.{ℕ, suc, ◌≤◌, ◌≡◌, true, List, ◌∷◌, Option, Some, None}
use Rattle.tb_tree.specs.declared.marks.Mark.TheVariants as m
use Rattle.tb_tree.specs.declared.words.Word.TheVariants as w
use Rattle.tb_tree.specs.declared.types.TypeExpr.{TypeExpr}
use Rattle.tb_tree.specs.declared.exprs.BinaryOperator.{BinaryOperator}
use Rattle.tb_tree.specs.declared.exprs.BinaryOperator.TheVariants as binary
use Rattle.tb_tree.specs.declared.exprs.Expr.{Expr}
use Rattle.tb_tree.specs.declared.exprs.Expr.TheVariants as expr
use Rattle.tb_tree.specs.Sym.{Sym, Mark}
use Rattle.tb_tree.specs.Longest.{Lacks}
use Rattle.tb_tree.specs.Shapes.{max_depth, word}
use Rattle.tb_tree.specs.Types.{IsType}
use Rattle.tb_tree.specs.Exprs.{binary_of, strength, rel_level, eq_level, IsLevel}
use Rattle.tb_parse_type.specs.declared.reader.Reader.{Reader}
use Rattle.tb_parse_type.specs.Rules.{InType}
use Rattle.tb_parse_type.specs.Reading.{rest, FoundAt}
use Rattle.tb_parse_body.specs.declared.fronts.Front.{Front}
use Rattle.tb_parse_body.specs.declared.levels.Join.{Join}
use Rattle.tb_parse_body.specs.declared.levels.Join.TheVariants as j
use Rattle.tb_parse_body.specs.Rules.{Deep, InLevel}

-- an operand with what follows it
abbrev pub joined : ℕ → Expr → Join → Expr
joined at left (j.Operator operator right) = expr.Binary at left operator right
joined at left (j.As shape) = expr.As at left shape

-- `as Type`
abbrev pub IsCast : ℕ → List Sym → TypeExpr → ℕ → Type 0
IsCast level xs shape d = (spelled : List ℕ) × (at : ℕ) × (ys : List Sym) × (own : ℕ) × (xs ≡ word w.As spelled at ∷ ys) × (level ≡ rel_level) × IsType ys shape own d × (own ≤ max_depth)

-- an operator of a level, and the operand behind it
abbrev pub IsOperation : ℕ → List Sym → BinaryOperator × Expr → ℕ → Type 0
IsOperation level xs r d = (s : Sym) × (ys : List Sym) × (xs ≡ s ∷ ys) × (binary_of s ≡ Some r.0) × (strength r.0 ≡ level) × IsLevel true (suc level) ys r.1 d

-- `??`, and the operand behind it
abbrev pub IsNullishJoin : List Sym → Join → ℕ → Type 0
IsNullishJoin xs (j.Operator operator right) d = (at : ℕ) × (ys : List Sym) × (xs ≡ Mark m.Nullish at ∷ ys) × (operator ≡ binary.Nullish) × IsLevel true eq_level ys right d
IsNullishJoin xs (j.As shape) d = ⊥

abbrev pub IsJoin : ℕ → List Sym → Join → ℕ → Type 0
IsJoin level xs (j.Operator operator right) d = IsOperation level xs (operator, right) d
IsJoin level xs (j.As shape) d = IsCast level xs shape d

abbrev pub CastUpto : ℕ → ℕ → List Sym → Deep TypeExpr → Type 0
CastUpto level n xs r = IsCast level xs r.0 r.1 × (r.1 ≤ n)

abbrev pub OperationUpto : ℕ → ℕ → List Sym → Deep (BinaryOperator × Expr) → Type 0
OperationUpto level n xs r = IsOperation level xs r.0 r.1 × (r.1 ≤ n)

abbrev pub JoinUpto : ℕ → ℕ → List Sym → Deep Join → Type 0
JoinUpto level n xs r = IsJoin level xs r.0 r.1 × (r.1 ≤ n)

abbrev pub NullishUpto : ℕ → List Sym → Deep Join → Type 0
NullishUpto n xs r = IsNullishJoin xs r.0 r.1 × (r.1 ≤ n)

-- the symbols with which what follows an operand may go on behind a shorter one
abbrev pub InJoin : ℕ → Join → Sym → Type 0
InJoin level (j.Operator operator right) = InLevel (suc level)
InJoin level (j.As shape) = InType

abbrev pub ReadsJoin : ℕ → ℕ → Reader → ℕ → Option (Front Join) → Type 0
ReadsJoin level n r at None = Lacks (JoinUpto level n) (rest r at)
ReadsJoin level n r at (Some x) = FoundAt (JoinUpto level n) (InJoin level x.tree) r at (x.tree, x.depth) x.next
