-- The search for the names that occur in what is kept: which names the declarations that are kept in any case have, and where each
-- name leads. Each name is followed once.
use Rattle.std.specs.Prelude.{ℕ, ◌≡◌, ◌↔◌, Bool, true, false, ◌||◌, ◌&&◌, if◌then◌else◌, List, [], ◌++◌, map, flat_map, Contains, Option, Some, None}
use Rattle.std.specs.Str.{bytes_eq}
use Rattle.std.specs.BTreeSet.{BTreeSet, contains}
use Rattle.std.specs.BTreeMap.{BTreeMap, get}
use Rattle.tb_text.specs.Bytes.{bytes_cmp}
use Rattle.tb_tree.specs.declared.exprs.Var.{Var, out-Var}
use Rattle.tb_tree.specs.declared.items.Item.{Item}
use Rattle.tb_tree.specs.declared.items.Item.TheVariants as item
use Rattle.tb_layout.specs.Parts.{Part, VariablePart, parts_of, part_name, part_names, is_type_part, is_one_of}
use Rattle.tb_layout.specs.Kept.{Known, names_kept}

-- ---- sets of names

-- the set has these names and no others
abbrev pub HasNames : BTreeSet (List ℕ) → List (List ℕ) → Type 0
HasNames set names = (name : List ℕ) → contains bytes_cmp set name ≡ is_one_of names name

-- it got these names
abbrev pub Gained : BTreeSet (List ℕ) → BTreeSet (List ℕ) → List (List ℕ) → Type 0
Gained old new names = (name : List ℕ) → contains bytes_cmp new name ≡ (contains bytes_cmp old name || is_one_of names name)

abbrev pub Knows : BTreeSet (List ℕ) → BTreeSet (List ℕ) → Known → Type 0
Knows listed occurring known = HasNames listed known.listed × HasNames occurring known.occurring

-- ---- where names lead

-- declarations, each with whether it is exported
abbrev pub Exported : Type 0
Exported = Bool × Part

abbrev pub paired : Bool → Part → Exported
paired exported of = (exported, of)

abbrev pub all_with : Bool → List Part → List Exported
all_with exported all = map (paired exported) all

abbrev pub variables_of : Var → List Part
variables_of of = let opened = out-Var of in map (VariablePart opened.kind) opened.declarators

abbrev pub item_parts : Item → List Exported
item_parts (item.Import of) = []
item_parts (item.ExportList of) = []
item_parts (item.Declaration exported of) = all_with exported (parts_of of)
item_parts (item.Stmt of) = []

-- the names in a declaration that is kept in any case
abbrev pub start_names : List (List ℕ) → Exported → List (List ℕ)
start_names listed of = names_kept (record { listed = listed; occurring = [] }) of.0 of.1

-- those in a class, an interface or an alias of this name
abbrev pub names_behind : List ℕ → Exported → List (List ℕ)
names_behind name of = if is_type_part of.1 && bytes_eq name (part_name of.1) then part_names of.1 else []

abbrev pub or_nothing : Option (List (List ℕ)) → List (List ℕ)
or_nothing None = []
or_nothing (Some names) = names

abbrev pub led_to : BTreeMap (List ℕ) (List (List ℕ)) → List ℕ → List (List ℕ)
led_to further name = or_nothing (get bytes_cmp further name)

-- these declarations start there and lead so
pub record Leads (listed : List (List ℕ)) (all : List Exported) (starts : List (List ℕ)) (further : BTreeMap (List ℕ) (List (List ℕ))) : Type 0 where
  pub begin : starts ≡ flat_map (start_names listed) all
  pub lead : (name : List ℕ) → led_to further name ≡ flat_map (names_behind name) all

-- with these declarations more
abbrev pub LeadsOn : BTreeSet (List ℕ) → List (List ℕ) → BTreeMap (List ℕ) (List (List ℕ)) → List (List ℕ) → BTreeMap (List ℕ) (List (List ℕ)) → List Exported → Type 0
LeadsOn listed starts further new_starts new_further more =
    (names : List (List ℕ)) (all : List Exported) → HasNames listed names → Leads names all starts further → Leads names (all ++ more) new_starts new_further

abbrev pub if_kept : BTreeSet (List ℕ) → Bool → List ℕ → List (List ℕ) → List (List ℕ)
if_kept listed exported name names = if exported || contains bytes_cmp listed name then names else []

-- the name leads to these names more, and any other where it led
abbrev pub LedOn : BTreeMap (List ℕ) (List (List ℕ)) → BTreeMap (List ℕ) (List (List ℕ)) → List ℕ → List (List ℕ) → Type 0
LedOn old new name names = (other : List ℕ) → led_to new other ≡ led_to old other ++ (if bytes_eq other name then names else [])

-- the name was taken out
abbrev pub LacksOnly : BTreeMap (List ℕ) (List (List ℕ)) → BTreeMap (List ℕ) (List (List ℕ)) → List ℕ → Type 0
LacksOnly old new name = (other : List ℕ) → get bytes_cmp new other ≡ (if bytes_eq other name then None else get bytes_cmp old other)

-- ---- the search

pub data Reaches (starts : List (List ℕ)) (further : BTreeMap (List ℕ) (List (List ℕ))) : List ℕ → Type 0 where
  starts_with : {name : List ℕ} → Contains starts name → Reaches starts further name
  goes_on : {name other : List ℕ} → Reaches starts further name → Contains (led_to further name) other → Reaches starts further other

abbrev pub AreReached : List (List ℕ) → BTreeMap (List ℕ) (List (List ℕ)) → BTreeSet (List ℕ) → Type 0
AreReached starts further reached = (name : List ℕ) → (contains bytes_cmp reached name ≡ true) ↔ Reaches starts further name

-- the names that wait to be met
abbrev pub waiting : List (List (List ℕ)) → List (List ℕ) → List (List ℕ)
waiting pending names = flat_map (λ (of : List (List ℕ)). of) pending ++ names

-- Where a search stands. Only what is reached was met or waits; what was met leads nowhere any more, and where it led was met or waits.
pub record IsSearch (starts : List (List ℕ)) (further left : BTreeMap (List ℕ) (List (List ℕ))) (met : BTreeSet (List ℕ)) (waits : List (List ℕ)) : Type 0 where
  pub sound : (name : List ℕ) → contains bytes_cmp met name ≡ true → Reaches starts further name
  pub ahead : (name : List ℕ) → is_one_of waits name ≡ true → Reaches starts further name
  pub gone : (name : List ℕ) → contains bytes_cmp met name ≡ true → get bytes_cmp left name ≡ None
  pub same : (name : List ℕ) → contains bytes_cmp met name ≡ false → get bytes_cmp left name ≡ get bytes_cmp further name
  pub closed : (name other : List ℕ) → contains bytes_cmp met name ≡ true → is_one_of (led_to further name) other ≡ true → (contains bytes_cmp met other || is_one_of waits other) ≡ true
  pub begun : (name : List ℕ) → is_one_of starts name ≡ true → (contains bytes_cmp met name || is_one_of waits name) ≡ true

-- a search goes on from one state to another
abbrev pub SearchesOn : BTreeMap (List ℕ) (List (List ℕ)) → BTreeSet (List ℕ) → List (List ℕ) → BTreeMap (List ℕ) (List (List ℕ)) → BTreeSet (List ℕ) → List (List ℕ) → Type 0
SearchesOn left met waits new_left new_met new_waits =
    (starts : List (List ℕ)) (further : BTreeMap (List ℕ) (List (List ℕ))) → IsSearch starts further left met waits → IsSearch starts further new_left new_met new_waits
