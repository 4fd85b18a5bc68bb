-- What the search reaches is what occurs in what the file keeps.
use Rattle.std.proofs.Common.{◌≡◌, ℕ, Bool, true, false, List, [], refl, sym, ap, subst, ◌∙◌, inl, inr}
use Rattle.std.specs.Prelude.{◌||◌, ◌&&◌, Contains}
use Rattle.std.specs.List.{flat_map}
use Rattle.std.specs.Str.{bytes_eq}
use Rattle.std.specs.BTreeSet.{BTreeSet, contains}
use Rattle.std.specs.BTreeMap.{BTreeMap}
use Rattle.tb_text.specs.Bytes.{bytes_cmp}
use Rattle.tb_tree.specs.declared.items.Declaration.{Declaration}
use Rattle.tb_tree.specs.declared.items.Item.{Item}
use Rattle.tb_tree.specs.declared.items.Item.TheVariants as item
use Rattle.tb_tree.specs.declared.items.File.{File}
use Rattle.tb_layout.specs.Parts.{Part, parts_of, part_name, part_names, is_type_part, is_one_of, listed_names}
use Rattle.tb_layout.specs.Kept.{Declares, IsKept, exported_itself, named_in_list, needed, Occurs, occurs, keeps_part, known_names, RoundsFindAll}
use Rattle.tb_surface.specs.Names.{HasNames, Knows, Exported, paired, item_parts, start_names, names_behind, led_to, Leads, Reaches, starts_with, goes_on, AreReached}
use Rattle.tb_surface.proofs.Members.{In, in_from, in_back, in_map, from_map, in_flat, from_flat}
use Rattle.tb_surface.proofs.Named.{or_left, or_right, or_cases, and_cases, and_both, and_false, same_truth, in_if, if_in, eq_itself, eq_same, one_in, in_one}

-- ---- the declarations of a file

record Declared (of : Item) (part : Exported) : Type 0 where
  declaration : Declaration
  whole : of ≡ item.Declaration part.0 declaration
  is_part : In (parts_of declaration) part.1

paired_is : (exported : Bool) (of : Part) (part : Exported) → paired exported of ≡ part → (exported ≡ part.0) × (of ≡ part.1)
paired_is exported of part e = (ap (λ (p : Exported). p.0) e, ap (λ (p : Exported). p.1) e)

declared_in : (of : Item) (part : Exported) → In (item_parts of) part → Declared of part
declared_in (item.Import of) part h = absurd h
declared_in (item.ExportList of) part h = absurd h
declared_in (item.Declaration exported of) part h =
    let r = from_map (paired exported) (parts_of of) part h in
    let e = paired_is exported r.0 part r.2 in
    record { declaration = of; whole = ap (λ b. item.Declaration b of) e.0; is_part = subst (In (parts_of of)) e.1 r.1 }
declared_in (item.Stmt of) part h = absurd h

module _ (file : File) where
  declares : (part : Exported) → In (flat_map item_parts file.items) part → Declares file part.0 part.1
  declares part h =
      let r = from_flat item_parts file.items part h in
      let d = declared_in r.0 part r.2 in
      record { declaration = d.declaration; stands = in_back file.items (item.Declaration part.0 d.declaration) (subst (In file.items) d.whole r.1); is_part = in_back (parts_of d.declaration) part.1 d.is_part }

  in_parts : (exported : Bool) (of : Part) → Declares file exported of → In (flat_map item_parts file.items) (paired exported of)
  in_parts exported of d =
      in_flat item_parts file.items (item.Declaration exported d.declaration) (paired exported of) (in_from file.items (item.Declaration exported d.declaration) d.stands)
      (in_map (paired exported) (parts_of d.declaration) of (in_from (parts_of d.declaration) of d.is_part))

  module _ (starts : List (List ℕ)) (further : BTreeMap (List ℕ) (List (List ℕ))) (leads : Leads (listed_names file) (flat_map item_parts file.items) starts further) where
    -- ---- what is reached occurs

    kept_start : (part : Exported) → keeps_part (record { listed = listed_names file; occurring = [] }) part.0 part.1 ≡ true → IsKept file part.0 part.1
    kept_start part e =
        elim (or_cases (part.0 || is_one_of (listed_names file) (part_name part.1)) (is_type_part part.1 && false) e) [
          | inl a ↦ elim (or_cases part.0 (is_one_of (listed_names file) (part_name part.1)) a) [
            | inl x ↦ subst (λ b. IsKept file b part.1) (sym x) exported_itself
            | inr l ↦ named_in_list (in_back (listed_names file) (part_name part.1) (one_in (listed_names file) (part_name part.1) l))
          ]
          | inr b ↦ absurd (cc (and_false (is_type_part part.1)))
        ]

    start_occurs : (name : List ℕ) → In (flat_map (start_names (listed_names file)) (flat_map item_parts file.items)) name → Occurs file name
    start_occurs name h =
        let r = from_flat (start_names (listed_names file)) (flat_map item_parts file.items) name h in
        let k = in_if (keeps_part (record { listed = listed_names file; occurring = [] }) r.0.0 r.0.1) (part_names r.0.1) name r.2 in
        occurs (declares r.0 r.1) (kept_start r.0 k.0) (in_back (part_names r.0.1) name k.1)

    further_occurs : (name other : List ℕ) → Occurs file name → In (flat_map (names_behind name) (flat_map item_parts file.items)) other → Occurs file other
    further_occurs name other o h =
        let r = from_flat (names_behind name) (flat_map item_parts file.items) other h in
        let k = in_if (is_type_part r.0.1 && bytes_eq name (part_name r.0.1)) (part_names r.0.1) other r.2 in
        let t = and_cases (is_type_part r.0.1) (bytes_eq name (part_name r.0.1)) k.0 in
        occurs (declares r.0 r.1) (needed t.0 (subst (Occurs file) (eq_same name (part_name r.0.1) t.1) o)) (in_back (part_names r.0.1) other k.1)

    reached_occurs : {name : List ℕ} → Reaches starts further name → Occurs file name
    reached_occurs (starts_with {name = name} c) = start_occurs name (subst (λ l. In l name) leads.begin (in_from starts name c))
    reached_occurs (goes_on {name = name} {other = other} r c) =
        further_occurs name other (reached_occurs r) (subst (λ l. In l other) (leads.lead name) (in_from (led_to further name) other c))

    -- ---- what occurs is reached

    start_reached : (exported : Bool) (of : Part) (name : List ℕ) → Declares file exported of → (exported || is_one_of (listed_names file) (part_name of)) ≡ true → Contains (part_names of) name → Reaches starts further name
    start_reached exported of name d k c =
        starts_with (in_back starts name (subst (λ l. In l name) (sym leads.begin)
        (in_flat (start_names (listed_names file)) (flat_map item_parts file.items) (paired exported of) name (in_parts exported of d)
        (if_in (keeps_part (record { listed = listed_names file; occurring = [] }) exported of) (part_names of) name
        (or_left (exported || is_one_of (listed_names file) (part_name of)) (is_type_part of && false) k) (in_from (part_names of) name c)))))

    further_reached : (exported : Bool) (of : Part) (name : List ℕ) → Declares file exported of → is_type_part of ≡ true → Reaches starts further (part_name of) → Contains (part_names of) name → Reaches starts further name
    further_reached exported of name d t r c =
        goes_on r (in_back (led_to further (part_name of)) name (subst (λ l. In l name) (sym (leads.lead (part_name of)))
        (in_flat (names_behind (part_name of)) (flat_map item_parts file.items) (paired exported of) name (in_parts exported of d)
        (if_in (is_type_part of && bytes_eq (part_name of) (part_name of)) (part_names of) name
        (and_both (is_type_part of) (bytes_eq (part_name of) (part_name of)) t (eq_itself (part_name of))) (in_from (part_names of) name c)))))

    mutual
      occurs_reached : {name : List ℕ} → Occurs file name → Reaches starts further name
      occurs_reached (occurs {exported = exported} {of = of} {name = name} d k c) = kept_reached k name d c

      kept_reached : {exported : Bool} {of : Part} → IsKept file exported of → (name : List ℕ) → Declares file exported of → Contains (part_names of) name → Reaches starts further name
      kept_reached (exported_itself {of = of}) name d c = start_reached true of name d refl c
      kept_reached (named_in_list {exported = exported} {of = of} l) name d c =
          start_reached exported of name d (or_right exported (is_one_of (listed_names file) (part_name of)) (in_one (listed_names file) (part_name of) (in_from (listed_names file) (part_name of) l))) c
      kept_reached (needed {exported = exported} {of = of} t o) name d c = further_reached exported of name d t (occurs_reached o) c

-- ---- the names of a file

pub knows_all : RoundsFindAll → (file : File) (listed occurring : BTreeSet (List ℕ)) (starts : List (List ℕ)) (further : BTreeMap (List ℕ) (List (List ℕ)))
    → HasNames listed (listed_names file) → Leads (listed_names file) (flat_map item_parts file.items) starts further → AreReached starts further occurring → Knows listed occurring (known_names file)
knows_all found file listed occurring starts further has leads reached =
    let all = found file in
    let names = known_names file in (
      (λ name. has name ∙ ap (λ l. is_one_of l name) (sym all.0)),
      (λ name. same_truth (contains bytes_cmp occurring name) (is_one_of names.occurring name)
          (λ e. in_one names.occurring name (in_from names.occurring name ((all.1 name).1 (reached_occurs file starts further leads ((reached name).0 e)))))
          (λ e. (reached name).1 (occurs_reached file starts further leads ((all.1 name).0 (in_back names.occurring name (one_in names.occurring name e)))))),
    )
