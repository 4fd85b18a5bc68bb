-- What is read of an item of a block.
use Rattle.std.specs.Prelude.{ℕ, ◌≡◌, ◌<◌, ◌++◌, length, List, Option, Some, None}
use Rattle.tb_tree.specs.declared.exprs.BlockItem.{BlockItem}
use Rattle.tb_tree.specs.Sym.{Sym}
use Rattle.tb_tree.specs.Longest.{Lacks}
use Rattle.tb_tree.specs.Exprs.{Around}
use Rattle.tb_parse_type.specs.declared.reader.Reader.{Reader}
use Rattle.tb_parse_type.specs.Reading.{rest, FoundAt}
use Rattle.tb_parse_body.specs.declared.fronts.Front.{Front}
use Rattle.tb_parse_body.specs.Rules.{BlockItemUpto, InItem}

-- behind a shorter front that derives an item than the one that leaves ys, no item begins
pub record Parted {X : Type 0} (D : List Sym → X → Type 0) (xs ys : List Sym) : Type 0 where
  pub parted : (a : List Sym) (x : X) (us : List Sym) → D a x → xs ≡ a ++ us → length ys < length us → Lacks D us

abbrev pub ReadsItem : Around → ℕ → Reader → ℕ → Option (Front BlockItem) → Type 0
ReadsItem around n r at None = Lacks (BlockItemUpto around n) (rest r at)
ReadsItem around n r at (Some x) = FoundAt (BlockItemUpto around n) InItem r at (x.tree, x.depth) x.next × Parted (BlockItemUpto around n) (rest r at) (rest r x.next)
