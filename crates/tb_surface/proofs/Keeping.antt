-- What is kept of an item, by the sets of names.
use Rattle.std.proofs.Common.{◌≡◌, ℕ, ◌+◌, ◌<◌, take, Bool, true, false, cond, List, [], ◌∷◌, ◌++◌, length, get_or, Option, refl, ap, sym, ◌∙◌, append-nil}
use Rattle.std.specs.Prelude.{◌||◌, ◌&&◌, if◌then◌else◌, map}
use Rattle.std.specs.Bool.{IsTrue}
use Rattle.std.specs.List.{filter, flat_map}
use Rattle.std.proofs.lemmas.Bool.{false≢true}
use Rattle.std.specs.BTreeSet.{BTreeSet, contains}
use Rattle.tb_text.specs.Bytes.{bytes_cmp}
use Rattle.tb_tree.specs.Surfaces as listed
use Rattle.tb_tree.specs.declared.exprs.Declarator.{Declarator}
use Rattle.tb_tree.specs.declared.exprs.Var.{Var, out-Var}
use Rattle.tb_tree.specs.declared.items.Spec.{Spec}
use Rattle.tb_tree.specs.declared.items.Specifier.{Specifier}
use Rattle.tb_tree.specs.declared.items.Import.TheVariants as import_form
use Rattle.tb_tree.specs.declared.items.ExportList.{ExportList}
use Rattle.tb_tree.specs.declared.items.Declared.{Declared}
use Rattle.tb_tree.specs.declared.items.Surface.{Surface}
use Rattle.tb_tree.specs.declared.items.SurfaceItem.{SurfaceItem}
use Rattle.tb_tree.specs.declared.items.SurfaceItem.TheVariants as surface_item
use Rattle.tb_layout.specs.Parts.{Part, VariablePart, part_name, is_type_part, is_one_of, imported_name}
use Rattle.tb_layout.specs.Quoted.{quoted_specifier, quoted_origin, quoted_surface_item}
use Rattle.tb_layout.specs.Kept.{Known, keeps_value, keeps_type, keeps_part, keeps_spec}
use Rattle.tb_layout.specs.Surface.{declared_part, surface_part, import_with}
use Rattle.tb_surface.specs.Names.{Knows, variables_of}
use Rattle.tb_surface.proofs.Named.{or_false}
use Rattle.tb_surface.proofs.Joins.{taken, filter_push}

pub value_known : (set occurring : BTreeSet (List ℕ)) (names : Known) (exported : Bool) (name : List ℕ) (kept : Bool) → Knows set occurring names
    → kept ≡ (exported || contains bytes_cmp set name) → kept ≡ keeps_value names exported name
value_known set occurring names exported name kept knows is = is ∙ ap (λ b. exported || b) (knows.0 name)

pub type_known : (set occurring : BTreeSet (List ℕ)) (names : Known) (exported : Bool) (name : List ℕ) (kept : Bool) → Knows set occurring names
    → kept ≡ ((exported || contains bytes_cmp set name) || contains bytes_cmp occurring name) → kept ≡ keeps_type names exported name
type_known set occurring names exported name kept knows is =
    is ∙ ap (λ b. (exported || b) || contains bytes_cmp occurring name) (knows.0 name) ∙ ap (λ b. keeps_value names exported name || b) (knows.1 name)

value_part : (names : Known) (exported : Bool) (of : Part) → is_type_part of ≡ false → keeps_value names exported (part_name of) ≡ keeps_part names exported of
value_part names exported of not_so =
    sym (ap (λ t. keeps_value names exported (part_name of) || (t && is_one_of names.occurring (part_name of))) not_so ∙ or_false (keeps_value names exported (part_name of)))

type_part : (names : Known) (exported : Bool) (of : Part) → is_type_part of ≡ true → keeps_type names exported (part_name of) ≡ keeps_part names exported of
type_part names exported of is_so = ap (λ t. keeps_value names exported (part_name of) || (t && is_one_of names.occurring (part_name of))) (sym is_so)

surface_if : Bool → Bool → Part → List SurfaceItem
surface_if kept exported of = if kept then (surface_item.Declaration exported (declared_part of) ∷ []) else []

module _ (set occurring : BTreeSet (List ℕ)) (names : Known) (knows : Knows set occurring names) (exported : Bool) (of : Part) (kept : Bool) where
  value_is : is_type_part of ≡ false → kept ≡ (exported || contains bytes_cmp set (part_name of)) → keeps_part names exported of ≡ kept
  value_is not_so is = sym (value_known set occurring names exported (part_name of) kept knows is ∙ value_part names exported of not_so)

  type_is : is_type_part of ≡ true → kept ≡ ((exported || contains bytes_cmp set (part_name of)) || contains bytes_cmp occurring (part_name of)) → keeps_part names exported of ≡ kept
  type_is is_so is = sym (type_known set occurring names exported (part_name of) kept knows is ∙ type_part names exported of is_so)

  gone : (items : List SurfaceItem) → kept ≡ false → keeps_part names exported of ≡ kept → items ≡ items ++ surface_part names exported of
  unfolding surface_if
  gone items not_so is = sym (append-nil items) ∙ ap (λ b. items ++ surface_if b exported of) (sym (is ∙ not_so))

  stays : (items after : List SurfaceItem) (declared : Declared) → kept ≡ true → keeps_part names exported of ≡ kept → declared ≡ declared_part of
      → after ≡ items ++ surface_item.Declaration exported declared ∷ [] → after ≡ items ++ surface_part names exported of
  unfolding surface_if
  stays items after declared is_so is same grew =
      grew ∙ ap (λ d. items ++ surface_item.Declaration exported d ∷ []) same ∙ ap (λ b. items ++ surface_if b exported of) (sym (is ∙ is_so))

  pub value_gone : (items : List SurfaceItem) → is_type_part of ≡ false → kept ≡ (exported || contains bytes_cmp set (part_name of)) → kept ≡ false → items ≡ items ++ surface_part names exported of
  value_gone items not_so is e = gone items e (value_is not_so is)

  pub type_gone : (items : List SurfaceItem) → is_type_part of ≡ true → kept ≡ ((exported || contains bytes_cmp set (part_name of)) || contains bytes_cmp occurring (part_name of)) → kept ≡ false
      → items ≡ items ++ surface_part names exported of
  type_gone items is_so is e = gone items e (type_is is_so is)

  pub value_stays : (items after : List SurfaceItem) (declared : Declared) → is_type_part of ≡ false → kept ≡ (exported || contains bytes_cmp set (part_name of)) → kept ≡ true → declared ≡ declared_part of
      → after ≡ items ++ surface_item.Declaration exported declared ∷ [] → after ≡ items ++ surface_part names exported of
  value_stays items after declared not_so is e same grew = stays items after declared e (value_is not_so is) same grew

  pub type_stays : (items after : List SurfaceItem) (declared : Declared) → is_type_part of ≡ true → kept ≡ ((exported || contains bytes_cmp set (part_name of)) || contains bytes_cmp occurring (part_name of)) → kept ≡ true
      → declared ≡ declared_part of → after ≡ items ++ surface_item.Declaration exported declared ∷ [] → after ≡ items ++ surface_part names exported of
  type_stays items after declared is_so is e same grew = stays items after declared e (type_is is_so is) same grew

-- ---- export lists

pub list_gone : (of : ExportList) (kept : Bool) (items : List SurfaceItem) → kept ≡ (listed.is_spec of.specs || listed.is_origin of.from) → kept ≡ false → items ≡ items ++ map quoted_surface_item (listed.kept of)
list_gone of kept items is not_so = sym (append-nil items) ∙ ap (λ b. items ++ map quoted_surface_item (listed.kept_list of b)) (sym not_so ∙ is)

pub list_stays : (of : ExportList) (kept : Bool) (items after : List SurfaceItem) (specs : List Spec) (from : Option Specifier) → kept ≡ (listed.is_spec of.specs || listed.is_origin of.from) → kept ≡ true
    → specs ≡ of.specs → from ≡ quoted_origin of.from
    → after ≡ items ++ surface_item.ExportList (record { at = of.at; type_only = of.type_only; specs = specs; from = from }) ∷ [] → after ≡ items ++ map quoted_surface_item (listed.kept of)
list_stays of kept items after specs from is is_so same origin grew =
    grew ∙ ap (λ (l : List Spec). items ++ surface_item.ExportList (record { at = of.at; type_only = of.type_only; specs = l; from = from }) ∷ []) same
    ∙ ap (λ (o : Option Specifier). items ++ surface_item.ExportList (record { at = of.at; type_only = of.type_only; specs = of.specs; from = o }) ∷ []) origin
    ∙ ap (λ b. items ++ map quoted_surface_item (listed.kept_list of b)) (sym is_so ∙ is)

-- ---- imports

spec_if : (b : Bool) (of : Spec) → (if b then (of ∷ []) else []) ≡ cond b (of ∷ []) []
spec_if true of = refl
spec_if false of = refl

pub specs_next : (set occurring : BTreeSet (List ℕ)) (names : Known) → Knows set occurring names → (all : List Spec) (i : ℕ) (of : Spec) (before after : List Spec) → i < length all → of ≡ get_or all i of
    → before ≡ filter (keeps_spec names) (take i all) → after ≡ before ++ (if keeps_spec names of then (of ∷ []) else []) → after ≡ filter (keeps_spec names) (take (i + 1) all)
specs_next set occurring names knows all i of before after lt is was grew =
    grew ∙ ap (λ l. l ++ (if keeps_spec names of then (of ∷ []) else [])) was ∙ ap (λ l. filter (keeps_spec names) (take i all) ++ l) (spec_if (keeps_spec names of) of)
    ∙ sym (ap (filter (keeps_spec names)) (taken all i of lt is) ∙ filter_push (keeps_spec names) (take i all) of)

pub spec_gone : (set occurring : BTreeSet (List ℕ)) (names : Known) → Knows set occurring names → (of : Spec) (name : List ℕ) (kept : Bool) (items : List Spec) → name ≡ imported_name of
    → kept ≡ ((false || contains bytes_cmp set name) || contains bytes_cmp occurring name) → kept ≡ false → items ≡ items ++ (if keeps_spec names of then (of ∷ []) else [])
spec_gone set occurring names knows of name kept items name_is is not_so =
    let known = type_known set occurring names false name kept knows is ∙ ap (keeps_type names false) name_is in
    sym (append-nil items) ∙ ap (λ b. items ++ (if b then (of ∷ []) else [])) (sym not_so ∙ known)

pub spec_stays : (set occurring : BTreeSet (List ℕ)) (names : Known) → Knows set occurring names → (of copy : Spec) (name : List ℕ) (kept : Bool) (items after : List Spec) → name ≡ imported_name of
    → kept ≡ ((false || contains bytes_cmp set name) || contains bytes_cmp occurring name) → kept ≡ true → copy ≡ of → after ≡ items ++ copy ∷ [] → after ≡ items ++ (if keeps_spec names of then (of ∷ []) else [])
spec_stays set occurring names knows of copy name kept items after name_is is is_so same grew =
    let known = type_known set occurring names false name kept knows is ∙ ap (keeps_type names false) name_is in
    grew ∙ ap (λ s. items ++ s ∷ []) same ∙ ap (λ b. items ++ (if b then (of ∷ []) else [])) (sym is_so ∙ known)

pub import_none : (at : ℕ) (type_only : Bool) (specs : List Spec) (from : Specifier) → specs ≡ [] → import_with at type_only specs from ≡ []
import_none at type_only specs from none = ap (λ all. import_with at type_only all from) none

pub import_some : (at : ℕ) (type_only : Bool) (specs : List Spec) (from : Specifier) → (specs ≡ [] → IsTrue false)
    → import_with at type_only specs from ≡ surface_item.Import (import_form.List at type_only specs (quoted_specifier from)) ∷ []
import_some at type_only [] from some = absurd (false≢true (some refl))
import_some at type_only (of ∷ rest) from some = refl

-- ---- variables

abbrev pub variable_items : Known → Bool → Var → Declarator → List SurfaceItem
variable_items names exported var of = let opened = out-Var var in surface_part names exported (VariablePart opened.kind of)

map_flat : {A B C : Type 0} (f : A → B) (g : B → List C) (xs : List A) → flat_map (λ x. g (f x)) xs ≡ flat_map g (map f xs)
map_flat f g [] = refl
map_flat f g (x ∷ xs) = ap (λ t. g (f x) ++ t) (map_flat f g xs)

pub variables_whole : (names : Known) (exported : Bool) (var : Var) (all : List Declarator) (o0 o1 : List SurfaceItem) → (all ≡ (let opened = out-Var var in opened.declarators))
    → o1 ≡ o0 ++ flat_map (variable_items names exported var) all → o1 ≡ o0 ++ flat_map (surface_part names exported) (variables_of var)
variables_whole names exported var all o0 o1 same is =
    is ∙ ap (λ l. o0 ++ flat_map (variable_items names exported var) l) same
    ∙ ap (λ l. o0 ++ l) (map_flat (let opened = out-Var var in VariablePart opened.kind) (surface_part names exported) (let opened = out-Var var in opened.declarators))

abbrev pub surface_of : List SurfaceItem → Surface
surface_of items = record { items = items }
