-- Names with commas between, as they are read one after the other.
use Rattle.std.specs.Prelude.{ℕ, ◌≡◌, List, ◌∷◌}
use Rattle.tb_tree.specs.declared.marks.Mark.TheVariants as m
use Rattle.tb_tree.specs.declared.items.Base.{Base}
use Rattle.tb_tree.specs.Sym.{Sym, Mark}
use Rattle.tb_tree.specs.Shapes.{IsJoined}
use Rattle.tb_tree.specs.Items.{IsBase}

-- `,` and a name
abbrev pub NextBaseRule : List Sym → Base → Type 0
NextBaseRule xs of = (comma : ℕ) × (ys : List Sym) × (xs ≡ Mark m.Comma comma ∷ ys) × IsBase ys of

-- names with commas between
abbrev pub BaseListRule : List Sym → List Base → Type 0
BaseListRule = IsJoined IsBase
