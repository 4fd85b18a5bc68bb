-- Bodies behind a type that ends earlier than the longest one does.
use Rattle.std.specs.Prelude.{ℕ, ◌≡◌, ◌≤◌, ◌<◌, max, true, List, [], ◌∷◌, ◌++◌, length, Option}
use Rattle.tb_tree.specs.declared.words.Word.TheVariants as w
use Rattle.tb_tree.specs.declared.types.TypeExpr.{TypeExpr}
use Rattle.tb_tree.specs.declared.exprs.Block.{Block}
use Rattle.tb_tree.specs.Sym.{Sym}
use Rattle.tb_tree.specs.Shapes.{word}
use Rattle.tb_tree.specs.Exprs.{a_body, IsAnnotation, IsBlock}
use Rattle.tb_parse_body.specs.Rules.{Deep, ShapeUpto, BodyUpto}

-- `: Type` of so many symbols
abbrev pub CountedUpto : ℕ → ℕ → List Sym → Deep TypeExpr → Type 0
CountedUpto count n xs r = ShapeUpto n xs r × (length xs ≡ count)

-- `: Type` of so many symbols, of which the last is the name `readonly`, and a body behind it
abbrev pub ShorterUpto : ℕ → ℕ → List Sym → Deep (Option TypeExpr × Block) → Type 0
ShorterUpto count n xs r = (shape : List Sym) × (behind : List Sym) × (front : List Sym) × (spelled : List ℕ) × (at : ℕ) × (d : ℕ) × (e : ℕ) × (xs ≡ shape ++ behind)
    × (shape ≡ front ++ (word w.Readonly spelled at ∷ [])) × (length shape ≡ count) × IsAnnotation shape r.0.0 d × IsBlock true a_body behind r.0.1 e × (r.1 ≡ max d e) × (r.1 ≤ n)

-- each body at the front of a list is such a one, with fewer symbols than these before it
pub record OnlyShorter (count n : ℕ) (xs : List Sym) : Type 0 where
  pub only : (a : List Sym) (y : Deep (Option TypeExpr × Block)) (zs : List Sym) → BodyUpto n a y → xs ≡ a ++ zs → (k : ℕ) × (k < count) × ShorterUpto k n a y
