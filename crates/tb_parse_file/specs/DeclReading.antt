-- What reading an item of a declaration file, or all of them, answers.
use Rattle.std.specs.Prelude.{ℕ, ◌≡◌, Bool, true, false, List, [], ◌∷◌, map, Option, Some, None}
use Rattle.tb_tree.specs.declared.words.Word.{Word}
use Rattle.tb_tree.specs.declared.items.SurfaceItem.{SurfaceItem}
use Rattle.tb_tree.specs.Sym.{Sym}
use Rattle.tb_tree.specs.Shapes.{word}
use Rattle.tb_tree.specs.Longest.{Lacks, Any}
use Rattle.tb_tree.specs.Surfaces.{DerivesDeclItem}
use Rattle.tb_layout.specs.Quoted.{quoted_surface_item}
use Rattle.tb_parse_type.specs.declared.reader.Reader.{Reader}
use Rattle.tb_parse_type.specs.Reading.{rest, FoundAt}
use Rattle.tb_parse_file.specs.declared.fronts.Part.{Part}
use Rattle.tb_parse_file.specs.declared.decl_items.DeclReading.{DeclReading}
use Rattle.tb_parse_file.specs.declared.decl_items.DeclReading.TheVariants as reading
use Rattle.tb_parse_file.specs.Decls.{ReadsDeclItems, DeclStopsAt, all_kept}

-- a word stands before ys, or none does
abbrev pub Worded : Word → List Sym → Bool → List Sym → Type 0
Worded kind xs true ys = (spelled : List ℕ) × (at : ℕ) × (xs ≡ word kind spelled at ∷ ys)
Worded kind xs false ys = (xs ≡ ys) × ((spelled : List ℕ) (at : ℕ) (zs : List Sym) → xs ≡ word kind spelled at ∷ zs → ⊥)

-- what is kept of an item
abbrev pub at_most_one : Option SurfaceItem → List SurfaceItem
at_most_one None = []
at_most_one (Some of) = of ∷ []

abbrev pub ReadsItem : Reader → ℕ → Option (Part (Option SurfaceItem)) → Type 0
ReadsItem r at None = Lacks DerivesDeclItem (rest r at)
ReadsItem r at (Some x) = FoundAt DerivesDeclItem Any r at (at_most_one x.tree) x.next

-- what is kept of the items from the first token on, with the strings in their one spelling, or where they stop
abbrev pub ReadsAll : Reader → DeclReading → Type 0
ReadsAll r (reading.Items items) = (all : List (List SurfaceItem)) × ReadsDeclItems (rest r 0) all × (items ≡ map quoted_surface_item (all_kept all))
ReadsAll r (reading.StopsAt at) = DeclStopsAt (rest r 0) at
