-- Which places are noted where a file is changed. This project's own.
use Rattle.std.specs.Prelude.{◌≡◌, ℕ, ◌<◌, true, List, length, slice_index, take}
use Rattle.std.specs.declared.string.String.{String}
use Rattle.std.specs.BTreeSet.{BTreeSet, contains_text}

module _ {A : Type 0} where
  -- the place is among them
  abbrev pub IsNoted : BTreeSet (String A) → List ℕ → Type 0
  IsNoted places place = contains_text places place ≡ true

  -- none is lost
  abbrev pub KeepsPlaces : BTreeSet (String A) → BTreeSet (String A) → Type 0
  KeepsPlaces old new = (place : List ℕ) → IsNoted old place → IsNoted new place

  -- so is each folder above the path: what stands before a "/", but for one at the start
  abbrev pub AreFoldersNoted : BTreeSet (String A) → List ℕ → Type 0
  AreFoldersNoted places path = (end : ℕ) → 0 < end → end < length path → slice_index path end ≡ 47 → IsNoted places (take end path)
