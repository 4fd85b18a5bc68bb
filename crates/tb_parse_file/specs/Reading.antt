-- What reading a part, or all items, answers.
use Rattle.std.specs.Prelude.{ℕ, List, Option, Some, None}
use Rattle.tb_tree.specs.Sym.{Sym}
use Rattle.tb_tree.specs.Longest.{Lacks}
use Rattle.tb_parse_type.specs.declared.reader.Reader.{Reader}
use Rattle.tb_parse_type.specs.Reading.{rest, FoundAt}
use Rattle.tb_parse_file.specs.declared.fronts.Part.{Part}
use Rattle.tb_parse_file.specs.declared.items.Reading.{Reading}
use Rattle.tb_parse_file.specs.declared.items.Reading.TheVariants as reading
use Rattle.tb_parse_file.specs.Files.{ReadsItems, StopsAt}

-- what was read is the longest front at a place, and nothing where no front derives anything
abbrev pub ReadsPart : {X : Type 0} → (List Sym → X → Type 0) → (Sym → Type 0) → Reader → ℕ → Option (Part X) → Type 0
ReadsPart D C r at None = Lacks D (rest r at)
ReadsPart D C r at (Some x) = FoundAt D C r at x.tree x.next

-- what the items from the first token on are, or where they stop
abbrev pub ReadsAll : Reader → Reading → Type 0
ReadsAll r (reading.Items items) = ReadsItems (rest r 0) items
ReadsAll r (reading.StopsAt at) = StopsAt (rest r 0) at
