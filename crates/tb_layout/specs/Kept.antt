-- What of a file others see: the least set that holds exported declarations and what export lists name, and with each declaration also
-- the interfaces, aliases, classes and imported names whose name occurs in it. After TypeScript's declaration files. First as the least
-- relations that are closed so; then as lists of names, round by round.
use Rattle.std.specs.Prelude.{ℕ, zero, suc, ◌≡◌, Bool, true, false, ◌||◌, ◌&&◌, if◌then◌else◌, ◌⊎◌, ◌↔◌, List, [], length, flat_map, Contains}
use Rattle.tb_tree.specs.declared.items.Spec.{Spec}
use Rattle.tb_tree.specs.declared.items.Declaration.{Declaration}
use Rattle.tb_tree.specs.declared.items.Item.{Item}
use Rattle.tb_tree.specs.declared.items.Item.TheVariants as item
use Rattle.tb_tree.specs.declared.items.File.{File}
use Rattle.tb_layout.specs.Parts.{Part, parts_of, part_name, part_names, is_type_part, is_one_of, imported_name, listed_names}

-- ---- as least relations

-- the file declares this at its top level, with `export` or without
pub record Declares (file : File) (exported : Bool) (of : Part) : Type 0 where
  pub declaration : Declaration
  pub stands : Contains file.items (item.Declaration exported declaration)
  pub is_part : Contains (parts_of declaration) of

mutual
  -- what the file declares is kept: it is exported; an export list names it; or its name occurs in what is kept, and it is a type
  pub data IsKept (file : File) : Bool → Part → Type 0 where
    exported_itself : {of : Part} → IsKept file true of
    named_in_list : {exported : Bool} {of : Part} → Contains (listed_names file) (part_name of) → IsKept file exported of
    needed : {exported : Bool} {of : Part} → is_type_part of ≡ true → Occurs file (part_name of) → IsKept file exported of

  -- a name occurs in what the file keeps
  pub data Occurs (file : File) : List ℕ → Type 0 where
    occurs : {exported : Bool} {of : Part} {name : List ℕ} → Declares file exported of → IsKept file exported of → Contains (part_names of) name → Occurs file name

-- an imported name is kept: an export list names it, or it occurs
abbrev pub IsKeptSpec : File → Spec → Type 0
IsKeptSpec file of = Contains (listed_names file) (imported_name of) ⊎ Occurs file (imported_name of)

-- ---- as lists of names

-- the names in export lists, and names that occur
pub record Known : Type 0 where
  pub listed : List (List ℕ)
  pub occurring : List (List ℕ)

-- whether a variable or a function of this name is kept, and a class, an interface or an alias
abbrev pub keeps_value : Known → Bool → List ℕ → Bool
keeps_value known exported name = exported || is_one_of known.listed name

abbrev pub keeps_type : Known → Bool → List ℕ → Bool
keeps_type known exported name = keeps_value known exported name || is_one_of known.occurring name

abbrev pub keeps_part : Known → Bool → Part → Bool
keeps_part known exported of = keeps_value known exported (part_name of) || (is_type_part of && is_one_of known.occurring (part_name of))

abbrev pub keeps_spec : Known → Spec → Bool
keeps_spec known of = keeps_type known false (imported_name of)

-- the names that occur in what is kept
abbrev pub names_kept : Known → Bool → Part → List (List ℕ)
names_kept known exported of = if keeps_part known exported of then part_names of else []

abbrev pub item_names : Known → Item → List (List ℕ)
item_names known (item.Import of) = []
item_names known (item.ExportList of) = []
item_names known (item.Declaration exported of) = flat_map (names_kept known exported) (parts_of of)
item_names known (item.Stmt of) = []

-- A round finds the names that occur in what the names found before keep. Each round but the last keeps an item more, so that one round
-- more than there are items finds all.
abbrev pub next_round : File → Known → Known
next_round file known = record { listed = known.listed; occurring = flat_map (item_names known) file.items }

unfoldable pub rounds : File → ℕ → Known
rounds file zero = record { listed = listed_names file; occurring = [] }
rounds file (suc n) = next_round file (rounds file n)

abbrev pub known_names : File → Known
known_names file = rounds file (suc (length file.items))

-- ---- the law

-- these names occur in what the file keeps, and no others do
abbrev pub AreOccurring : File → List (List ℕ) → Type 0
AreOccurring file names = (name : List ℕ) → Contains names name ↔ Occurs file name

-- by these names what the file declares or imports is kept just where it is
abbrev pub KeepsDeclared : File → Known → Type 0
KeepsDeclared file known = (exported : Bool) (of : Part) → Declares file exported of → (keeps_part known exported of ≡ true) ↔ IsKept file exported of

abbrev pub KeepsImported : File → Known → Type 0
KeepsImported file known = (of : Spec) → (keeps_spec known of ≡ true) ↔ IsKeptSpec file of

abbrev pub RoundsFindAll : Type 0
RoundsFindAll = (file : File) →
    let known = known_names file in
    (known.listed ≡ listed_names file) × AreOccurring file known.occurring × KeepsDeclared file known × KeepsImported file known
