-- The rounds find what occurs in what a file keeps: they only grow, what they find occurs, and a round that keeps no item more is the
-- last that finds anything; so that as many rounds as there are items, and one, find all.
use Rattle.std.proofs.Common.{◌≡◌, ℕ, zero, suc, ◌+◌, ◌≤◌, ◌⊎◌, inl, inr, Bool, true, false, ◌||◌, ◌&&◌, if◌then◌else◌, List, [], ◌∷◌, length, flat_map, Contains, refl, sym, ap, subst, ◌∙◌, arith}
use Rattle.std.proofs.lemmas.Bool.{false≢true, or_cases, and_parts}
use Rattle.tb_tree.specs.declared.exprs.Var.{out-Var}
use Rattle.tb_tree.specs.declared.items.Declaration.{Declaration}
use Rattle.tb_tree.specs.declared.items.Declaration.TheVariants as declaration
use Rattle.tb_tree.specs.declared.items.Item.{Item}
use Rattle.tb_tree.specs.declared.items.Item.TheVariants as item
use Rattle.tb_tree.specs.declared.items.File.{File}
use Rattle.tb_tree.specs.declared.items.Spec.{Spec}
use Rattle.tb_layout.specs.Parts.{Part, VariablePart, ClassPart, InterfacePart, AliasPart, parts_of, part_name, part_names, is_type_part, is_one_of, imported_name, listed_names}
use Rattle.tb_layout.specs.Kept.{Declares, IsKept, exported_itself, named_in_list, needed, Occurs, occurs, Known, keeps_value, keeps_type, keeps_part, keeps_spec, names_kept, item_names, rounds, known_names, IsKeptSpec, KeepsDeclared, RoundsFindAll}
use Rattle.tb_layout.proofs.Members.{In, here, there, in_list, contained, in_flat, flat_in, in_map, or_true, one_of, is_one}

-- ---- what keeps a part

pub data Keeps (known : Known) (exported : Bool) (of : Part) : Type 0 where
  by_export : exported ≡ true → Keeps known exported of
  by_list : In (List ℕ) known.listed (part_name of) → Keeps known exported of
  by_name : is_type_part of ≡ true → In (List ℕ) known.occurring (part_name of) → Keeps known exported of

pub seen : (known : Known) (exported : Bool) (of : Part) → keeps_part known exported of ≡ true → Keeps known exported of
seen known exported of e = elim (or_cases (keeps_value known exported (part_name of)) (is_type_part of && is_one_of known.occurring (part_name of)) e) [
  | inl value ↦ elim (or_cases exported (is_one_of known.listed (part_name of)) value) [
    | inl a ↦ by_export a
    | inr b ↦ by_list (one_of known.listed (part_name of) b)
  ]
  | inr found ↦
      let both = and_parts (is_type_part of) (is_one_of known.occurring (part_name of)) found in
      by_name both.0 (one_of known.occurring (part_name of) both.1)
]

pub keeps : (known : Known) (exported : Bool) (of : Part) → Keeps known exported of → keeps_part known exported of ≡ true
keeps known exported of (by_export e) =
    ap (λ b. (b || is_one_of known.listed (part_name of)) || (is_type_part of && is_one_of known.occurring (part_name of))) e
keeps known exported of (by_list h) =
    ap (λ b. (exported || b) || (is_type_part of && is_one_of known.occurring (part_name of))) (is_one h)
    ∙ ap (λ b. b || (is_type_part of && is_one_of known.occurring (part_name of))) (or_true exported)
keeps known exported of (by_name t h) =
    ap (λ b. keeps_value known exported (part_name of) || (b && is_one_of known.occurring (part_name of))) t
    ∙ ap (λ b. keeps_value known exported (part_name of) || b) (is_one h)
    ∙ or_true (keeps_value known exported (part_name of))

or_false : (b : Bool) → (b || false) ≡ b
or_false true = refl
or_false false = refl

pub value_kept : (known : Known) (exported : Bool) (of : Part) → is_type_part of ≡ false → keeps_part known exported of ≡ keeps_value known exported (part_name of)
value_kept known exported of e =
    ap (λ b. keeps_value known exported (part_name of) || (b && is_one_of known.occurring (part_name of))) e ∙ or_false (keeps_value known exported (part_name of))

pub type_kept : (known : Known) (exported : Bool) (of : Part) → is_type_part of ≡ true → keeps_part known exported of ≡ keeps_type known exported (part_name of)
type_kept known exported of e = ap (λ b. keeps_value known exported (part_name of) || (b && is_one_of known.occurring (part_name of))) e

-- ---- one round

-- where a name that occurs comes from
pub record Source (file : File) (known : Known) (name : List ℕ) : Type 0 where
  pub exported : Bool
  pub part : Part
  pub declared : Declares file exported part
  pub kept : keeps_part known exported part ≡ true
  pub named : In (List ℕ) (part_names part) name

from_part : (keep : Bool) (names : List (List ℕ)) (name : List ℕ) → In (List ℕ) (if keep then names else []) name → (keep ≡ true) × In (List ℕ) names name
from_part true names name h = (refl, h)
from_part false names name h = elim h [ ]

record ItemSource (known : Known) (of : Item) (name : List ℕ) : Type 0 where
  exported : Bool
  declared : Declaration
  is : of ≡ item.Declaration exported declared
  part : Part
  stands : In Part (parts_of declared) part
  kept : keeps_part known exported part ≡ true
  named : In (List ℕ) (part_names part) name

from_item : (known : Known) (of : Item) (name : List ℕ) → In (List ℕ) (item_names known of) name → ItemSource known of name
from_item known (item.Import of) name h = elim h [ ]
from_item known (item.ExportList of) name h = elim h [ ]
from_item known (item.Stmt of) name h = elim h [ ]
from_item known (item.Declaration exported of) name h =
    let found = in_flat (names_kept known exported) (parts_of of) name h in
    let kept = from_part (keeps_part known exported found.0) (part_names found.0) name found.2 in
    record { exported = exported; declared = of; is = refl; part = found.0; stands = found.1; kept = kept.0; named = kept.1 }

found_by : (file : File) (known : Known) (name : List ℕ) → In (List ℕ) (flat_map (item_names known) file.items) name → Source file known name
found_by file known name h =
    let at = in_flat (item_names known) file.items name h in
    let from = from_item known at.0 name at.2 in
    let declares : Declares file from.exported from.part = record {
      declaration = from.declared;
      stands = subst (λ (z : Item). Contains file.items z) from.is (contained at.1);
      is_part = contained from.stands;
    } in
    record { exported = from.exported; part = from.part; declared = declares; kept = from.kept; named = from.named }

into_part : (keep : Bool) (names : List (List ℕ)) (name : List ℕ) → keep ≡ true → In (List ℕ) names name → In (List ℕ) (if keep then names else []) name
into_part true names name e h = h
into_part false names name e h = absurd (false≢true e)

into_item : (known : Known) (exported : Bool) (of : Declaration) (part : Part) (name : List ℕ) → In Part (parts_of of) part → keeps_part known exported part ≡ true
    → In (List ℕ) (part_names part) name → In (List ℕ) (item_names known (item.Declaration exported of)) name
into_item known exported of part name at kept named =
    flat_in (names_kept known exported) at (into_part (keeps_part known exported part) (part_names part) name kept named)

found_from : (file : File) (known : Known) (name : List ℕ) → Source file known name → In (List ℕ) (flat_map (item_names known) file.items) name
found_from file known name of =
    let declares = of.declared in
    let at = in_list file.items (item.Declaration of.exported declares.declaration) declares.stands in
    let part = in_list (parts_of declares.declaration) of.part declares.is_part in
    flat_in (item_names known) at (into_item known of.exported declares.declaration of.part name part of.kept of.named)

-- ---- rounds

pub listed_same : (file : File) (n : ℕ) → (rounds file n).listed ≡ listed_names file
unfolding rounds
listed_same file zero = refl
listed_same file (suc n) = listed_same file n

nothing_found : (file : File) → (rounds file zero).occurring ≡ []
unfolding rounds
nothing_found file = refl

next_found : (file : File) (n : ℕ) → (rounds file (suc n)).occurring ≡ flat_map (item_names (rounds file n)) file.items
unfolding rounds
next_found file n = refl

none_at_first : {P : Type 0} (file : File) (name : List ℕ) → In (List ℕ) (rounds file zero).occurring name → P
none_at_first {P = P} file name h = none (subst (λ (names : List (List ℕ)). In (List ℕ) names name) (nothing_found file) h) where
  none : In (List ℕ) [] name → P
  none gone = elim gone [ ]

pub step_out : (file : File) (n : ℕ) (name : List ℕ) → In (List ℕ) (rounds file (suc n)).occurring name → Source file (rounds file n) name
step_out file n name h = found_by file (rounds file n) name (subst (λ (names : List (List ℕ)). In (List ℕ) names name) (next_found file n) h)

pub step_in : (file : File) (n : ℕ) (name : List ℕ) → Source file (rounds file n) name → In (List ℕ) (rounds file (suc n)).occurring name
step_in file n name of = subst (λ (names : List (List ℕ)). In (List ℕ) names name) (sym (next_found file n)) (found_from file (rounds file n) name of)

-- ---- what is found occurs

kept_is : (file : File) (known : Known) → known.listed ≡ listed_names file → ((name : List ℕ) → In (List ℕ) known.occurring name → Occurs file name)
    → (exported : Bool) (of : Part) → Keeps known exported of → IsKept file exported of
kept_is file known same occurring exported of (by_export e) = subst (λ (b : Bool). IsKept file b of) (sym e) exported_itself
kept_is file known same occurring exported of (by_list h) =
    named_in_list (contained (subst (λ (names : List (List ℕ)). In (List ℕ) names (part_name of)) same h))
kept_is file known same occurring exported of (by_name t h) = needed t (occurring (part_name of) h)

pub sound : (file : File) (n : ℕ) (name : List ℕ) → In (List ℕ) (rounds file n).occurring name → Occurs file name
sound file zero name h = none_at_first file name h
sound file (suc n) name h =
    let from = step_out file n name h in
    let kept = kept_is file (rounds file n) (listed_same file n) (λ other held. sound file n other held) from.exported from.part (seen (rounds file n) from.exported from.part from.kept) in
    occurs from.declared kept (contained from.named)

-- ---- the rounds grow

widened : (a b : Known) → a.listed ≡ b.listed → ((name : List ℕ) → In (List ℕ) a.occurring name → In (List ℕ) b.occurring name)
    → (exported : Bool) (of : Part) → Keeps a exported of → Keeps b exported of
widened a b same wider exported of (by_export e) = by_export e
widened a b same wider exported of (by_list h) = by_list (subst (λ (names : List (List ℕ)). In (List ℕ) names (part_name of)) same h)
widened a b same wider exported of (by_name t h) = by_name t (wider (part_name of) h)

keeps_wider : (a b : Known) → a.listed ≡ b.listed → ((name : List ℕ) → In (List ℕ) a.occurring name → In (List ℕ) b.occurring name)
    → (exported : Bool) (of : Part) → keeps_part a exported of ≡ true → keeps_part b exported of ≡ true
keeps_wider a b same wider exported of e = keeps b exported of (widened a b same wider exported of (seen a exported of e))

next_listed : (file : File) (n : ℕ) → (rounds file n).listed ≡ (rounds file (suc n)).listed
next_listed file n = listed_same file n ∙ sym (listed_same file (suc n))

pub grows : (file : File) (n : ℕ) (name : List ℕ) → In (List ℕ) (rounds file n).occurring name → In (List ℕ) (rounds file (suc n)).occurring name
grows file zero name h = none_at_first file name h
grows file (suc n) name h =
    let from = step_out file n name h in
    let kept = keeps_wider (rounds file n) (rounds file (suc n)) (next_listed file n) (λ other held. grows file n other held) from.exported from.part from.kept in
    step_in file (suc n) name (record { exported = from.exported; part = from.part; declared = from.declared; kept = kept; named = from.named })

pub kept_on : (file : File) (n : ℕ) (exported : Bool) (of : Part) → keeps_part (rounds file n) exported of ≡ true → keeps_part (rounds file (suc n)) exported of ≡ true
kept_on file n exported of e = keeps_wider (rounds file n) (rounds file (suc n)) (next_listed file n) (grows file n) exported of e

-- ---- a round that keeps no more

abbrev pub Closed : File → ℕ → Type 0
Closed file n = (exported : Bool) (of : Part) → Declares file exported of → keeps_part (rounds file (suc n)) exported of ≡ true → keeps_part (rounds file n) exported of ≡ true

stays_closed : (file : File) (n : ℕ) → Closed file n → Closed file (suc n)
stays_closed file n closed exported of declares e =
    keeps_wider (rounds file (suc (suc n))) (rounds file (suc n)) (sym (next_listed file (suc n)))
    (λ name h.
    let from = step_out file (suc n) name h in
    step_in file n name (record { exported = from.exported; part = from.part; declared = from.declared; kept = closed from.exported from.part from.declared from.kept; named = from.named }))
    exported of e

-- ---- counting

abbrev held : Bool → ℕ
held true = 1
held false = 0

abbrev count : (Item → Bool) → List Item → ℕ
count test [] = 0
count test (x ∷ xs) = held (test x) + count test xs

held_le : (a b : Bool) → (a ≡ true → b ≡ true) → held a ≤ held b
held_le true true more = omega arith
held_le true false more = absurd (false≢true (more refl))
held_le false true more = omega arith
held_le false false more = omega arith

held_one : (a : Bool) → held a ≤ 1
held_one true = omega arith
held_one false = omega arith

at_most : (f : Item → Bool) (xs : List Item) → count f xs ≤ length xs
at_most f [] = omega arith
at_most f (x ∷ xs) = let rest = at_most f xs in let one = held_one (f x) in omega (arith, rest, one)

no_less : (f g : Item → Bool) → ((x : Item) → f x ≡ true → g x ≡ true) → (xs : List Item) → count f xs ≤ count g xs
no_less f g more [] = omega arith
no_less f g more (x ∷ xs) = let rest = no_less f g more xs in let one = held_le (f x) (g x) (more x) in omega (arith, rest, one)

compare : (a b : Bool) → (b ≡ true → a ≡ true) ⊎ ((a ≡ false) × (b ≡ true))
compare true b = inl (λ e. refl)
compare false true = inr (refl, refl)
compare false false = inl (λ e. e)

at_head : (f g : Item → Bool) (x : Item) (xs : List Item) → (g x ≡ true → f x ≡ true) → ((y : Item) → In Item xs y → g y ≡ true → f y ≡ true)
    → (y : Item) → In Item (x ∷ xs) y → g y ≡ true → f y ≡ true
at_head f g x xs same rest y here e = same e
at_head f g x xs same rest y (there h) e = rest y h e

no_more_or_more : (f g : Item → Bool) → ((x : Item) → f x ≡ true → g x ≡ true) → (xs : List Item)
    → ((x : Item) → In Item xs x → g x ≡ true → f x ≡ true) ⊎ (suc (count f xs) ≤ count g xs)
no_more_or_more f g more [] = inl (λ x h. elim h [ ])
no_more_or_more f g more (x ∷ xs) = elim (compare (f x) (g x)) [
  | inl same ↦ elim (no_more_or_more f g more xs) [
    | inl rest ↦ inl (at_head f g x xs same rest)
    | inr less ↦ let one = held_le (f x) (g x) (more x) in inr (omega (arith, less, one))
  ]
  | inr new ↦
      let rest = no_less f g more xs in
      let before : held (f x) ≡ 0 = ap held new.0 in
      let after : held (g x) ≡ 1 = ap held new.1 in
      inr (omega (arith, rest, before, after))
]

-- ---- items whose type is kept

abbrev declaration_keeps : Known → Bool → Declaration → Bool
declaration_keeps known exported (declaration.Var of) = false
declaration_keeps known exported (declaration.Function of) = false
declaration_keeps known exported (declaration.Class of) = keeps_part known exported (ClassPart of)
declaration_keeps known exported (declaration.Interface of) = keeps_part known exported (InterfacePart of)
declaration_keeps known exported (declaration.Alias of) = keeps_part known exported (AliasPart of)

abbrev item_keeps : Known → Item → Bool
item_keeps known (item.Import of) = false
item_keeps known (item.ExportList of) = false
item_keeps known (item.Declaration exported of) = declaration_keeps known exported of
item_keeps known (item.Stmt of) = false

declaration_kept_on : (file : File) (n : ℕ) (exported : Bool) (of : Declaration)
    → declaration_keeps (rounds file n) exported of ≡ true → declaration_keeps (rounds file (suc n)) exported of ≡ true
declaration_kept_on file n exported (declaration.Var of) e = e
declaration_kept_on file n exported (declaration.Function of) e = e
declaration_kept_on file n exported (declaration.Class of) e = kept_on file n exported (ClassPart of) e
declaration_kept_on file n exported (declaration.Interface of) e = kept_on file n exported (InterfacePart of) e
declaration_kept_on file n exported (declaration.Alias of) e = kept_on file n exported (AliasPart of) e

item_kept_on : (file : File) (n : ℕ) (of : Item) → item_keeps (rounds file n) of ≡ true → item_keeps (rounds file (suc n)) of ≡ true
item_kept_on file n (item.Import of) e = e
item_kept_on file n (item.ExportList of) e = e
item_kept_on file n (item.Declaration exported of) e = declaration_kept_on file n exported of e
item_kept_on file n (item.Stmt of) e = e

type_item : (known : Known) (exported : Bool) (of : Declaration) (part : Part) → In Part (parts_of of) part → is_type_part part ≡ true
    → declaration_keeps known exported of ≡ keeps_part known exported part
type_item known exported (declaration.Var of) part h t =
    let opened = out-Var of in
    let from = in_map (VariablePart opened.kind) opened.declarators part h in
    absurd (false≢true (ap is_type_part from.1 ∙ t))
type_item known exported (declaration.Function of) part here t = absurd (false≢true t)
type_item known exported (declaration.Function of) part (there h) t = elim h [ ]
type_item known exported (declaration.Class of) part here t = refl
type_item known exported (declaration.Class of) part (there h) t = elim h [ ]
type_item known exported (declaration.Interface of) part here t = refl
type_item known exported (declaration.Interface of) part (there h) t = elim h [ ]
type_item known exported (declaration.Alias of) part here t = refl
type_item known exported (declaration.Alias of) part (there h) t = elim h [ ]

closed_by : (file : File) (n : ℕ) → ((x : Item) → In Item file.items x → item_keeps (rounds file (suc n)) x ≡ true → item_keeps (rounds file n) x ≡ true)
    → (exported : Bool) (of : Part) → Declares file exported of → keeps_part (rounds file (suc n)) exported of ≡ true → Keeps (rounds file (suc n)) exported of
    → keeps_part (rounds file n) exported of ≡ true
closed_by file n same exported of declares e (by_export x) = keeps (rounds file n) exported of (by_export x)
closed_by file n same exported of declares e (by_list h) =
    keeps (rounds file n) exported of (by_list (subst (λ (names : List (List ℕ)). In (List ℕ) names (part_name of)) (sym (next_listed file n)) h))
closed_by file n same exported of declares e (by_name t h) =
    let at = in_list file.items (item.Declaration exported declares.declaration) declares.stands in
    let part = in_list (parts_of declares.declaration) of declares.is_part in
    sym (type_item (rounds file n) exported declares.declaration of part t)
    ∙ same (item.Declaration exported declares.declaration) at (type_item (rounds file (suc n)) exported declares.declaration of part t ∙ e)

closed_from : (file : File) (n : ℕ) → ((x : Item) → In Item file.items x → item_keeps (rounds file (suc n)) x ≡ true → item_keeps (rounds file n) x ≡ true) → Closed file n
closed_from file n same exported of declares e = closed_by file n same exported of declares e (seen (rounds file (suc n)) exported of e)

kept_more : (file : File) (n : ℕ)
    → ((x : Item) → In Item file.items x → item_keeps (rounds file (suc n)) x ≡ true → item_keeps (rounds file n) x ≡ true)
    ⊎ (suc (count (item_keeps (rounds file n)) file.items) ≤ count (item_keeps (rounds file (suc n))) file.items)
kept_more file n = no_more_or_more (item_keeps (rounds file n)) (item_keeps (rounds file (suc n))) (item_kept_on file n) file.items

closed_or_many : (file : File) (n : ℕ) → Closed file n ⊎ (suc n ≤ count (item_keeps (rounds file (suc n))) file.items)
closed_or_many file zero = elim (kept_more file zero) [
  | inl same ↦ inl (closed_from file zero same)
  | inr less ↦ inr (omega (arith, less))
]
closed_or_many file (suc n) = elim (closed_or_many file n) [
  | inl closed ↦ inl (stays_closed file n closed)
  | inr many ↦ elim (kept_more file (suc n)) [
    | inl same ↦ inl (closed_from file (suc n) same)
    | inr less ↦ inr (omega (arith, less, many))
  ]
]

pub closed_at_last : (file : File) → Closed file (length file.items)
closed_at_last file = elim (closed_or_many file (length file.items)) [
  | inl closed ↦ closed
  | inr many ↦ let most = at_most (item_keeps (rounds file (suc (length file.items)))) file.items in absurd (omega (arith, most, many))
]

-- ---- what occurs is found

mutual
  kept_found : (file : File) (n : ℕ) → Closed file n → (exported : Bool) (of : Part) → Declares file exported of → IsKept file exported of → keeps_part (rounds file n) exported of ≡ true
  kept_found file n closed exported of declares exported_itself = keeps (rounds file n) true of (by_export refl)
  kept_found file n closed exported of declares (named_in_list h) =
      keeps (rounds file n) exported of (by_list (subst (λ (names : List (List ℕ)). In (List ℕ) names (part_name of)) (sym (listed_same file n)) (in_list (listed_names file) (part_name of) h)))
  kept_found file n closed exported of declares (needed t h) =
      closed exported of declares (keeps (rounds file (suc n)) exported of (by_name t (occurs_found file n closed (part_name of) h)))

  occurs_found : (file : File) (n : ℕ) → Closed file n → (name : List ℕ) → Occurs file name → In (List ℕ) (rounds file (suc n)).occurring name
  occurs_found file n closed name (occurs {exported = exported} {of = of} declares kept named) =
      step_in file n name (record { exported = exported; part = of; declared = declares; kept = kept_found file n closed exported of declares kept; named = in_list (part_names of) name named })

-- ---- the law

declared_kept : (file : File) → KeepsDeclared file (known_names file)
declared_kept file exported of declares =
    let last = suc (length file.items) in (
      (λ e. kept_is file (rounds file last) (listed_same file last) (λ name held. sound file last name held) exported of (seen (rounds file last) exported of e)),
      (λ is. kept_found file last (stays_closed file (length file.items) (closed_at_last file)) exported of declares is),
    )

imported_seen : (file : File) (of : Spec) → keeps_spec (known_names file) of ≡ true → IsKeptSpec file of
imported_seen file of e =
    let last = suc (length file.items) in
    elim (or_cases (is_one_of (rounds file last).listed (imported_name of)) (is_one_of (rounds file last).occurring (imported_name of)) e) [
      | inl a ↦ inl (contained (subst (λ (names : List (List ℕ)). In (List ℕ) names (imported_name of)) (listed_same file last) (one_of (rounds file last).listed (imported_name of) a)))
      | inr c ↦ inr (sound file last (imported_name of) (one_of (rounds file last).occurring (imported_name of) c))
    ]

imported_kept : (file : File) (of : Spec) → IsKeptSpec file of → keeps_spec (known_names file) of ≡ true
imported_kept file of (inl h) =
    let last = suc (length file.items) in
    ap (λ b. b || is_one_of (rounds file last).occurring (imported_name of))
    (is_one (subst (λ (names : List (List ℕ)). In (List ℕ) names (imported_name of)) (sym (listed_same file last)) (in_list (listed_names file) (imported_name of) h)))
imported_kept file of (inr h) =
    let last = suc (length file.items) in
    ap (λ b. is_one_of (rounds file last).listed (imported_name of) || b) (is_one (occurs_found file (length file.items) (closed_at_last file) (imported_name of) h))
    ∙ or_true (is_one_of (rounds file last).listed (imported_name of))

pub rounds_find_all : RoundsFindAll
rounds_find_all file =
    let last = suc (length file.items) in (
      listed_same file last,
      (λ name. ((λ c. sound file last name (in_list (rounds file last).occurring name c)), (λ o. contained (occurs_found file (length file.items) (closed_at_last file) name o)))),
      declared_kept file,
      (λ of. (imported_seen file of, imported_kept file of)),
    )
