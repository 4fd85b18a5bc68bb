-- The rules of imports and export lists as they are read: Specs, of which it is known at the end whether each is named by a Name.
use Rattle.std.specs.Prelude.{ℕ, ◌≡◌, Bool, true, false, not, ◌&&◌, List, [], ◌∷◌, ◌++◌, Option}
use Rattle.tb_tree.specs.declared.marks.Mark.TheVariants as m
use Rattle.tb_tree.specs.declared.words.Word.{Word}
use Rattle.tb_tree.specs.declared.words.Word.TheVariants as w
use Rattle.tb_tree.specs.declared.words.Class.TheVariants as c
use Rattle.tb_tree.specs.declared.exprs.Identifier.{Identifier}
use Rattle.tb_tree.specs.declared.items.Specifier.{Specifier}
use Rattle.tb_tree.specs.declared.items.Spec.{Spec}
use Rattle.tb_tree.specs.declared.items.Import.{Import}
use Rattle.tb_tree.specs.declared.items.Import.TheVariants as import_form
use Rattle.tb_tree.specs.declared.items.ExportList.{ExportList}
use Rattle.tb_tree.specs.Sym.{Sym, Mark, Lex}
use Rattle.tb_tree.specs.Words.{is_name}
use Rattle.tb_tree.specs.Shapes.{word, IsWorded}
use Rattle.tb_tree.specs.Items.{IsSpec, is_as, IsFrom}
use Rattle.tb_parse_file.specs.declared.imports.SpecList.{SpecList}
use Rattle.tb_parse_file.specs.Rules.{is_close_brace}

-- A Spec, or all of a list, with the answer to whether each word that names is a Name, as in an export list without `from` it has to be.
abbrev pub Named : Type 0 → Type 0
Named X = X × Bool

abbrev pub agrees : Bool → Bool → Bool
agrees true named = named
agrees false named = not named

-- the local name of an import is a Name. In an export list, of which it is read later whether `from` follows, any word may stand there.
abbrev pub may_end : Bool → Word → Bool
may_end true last = is_name last
may_end false last = true

abbrev pub local_of : Bool → Bool → Word → Word → Bool
local_of imported named first last = may_end imported last && agrees named (is_name first)

abbrev pub SpecRule : Bool → Bool → List Sym → Named Spec → Type 0
SpecRule imported type_only xs r = IsSpec (local_of imported r.1) type_only xs r.0

-- `as` and the local name of an import, or any word
abbrev pub RenamedRule : Bool → List Sym → Identifier → Type 0
RenamedRule imported xs of = (kind : Word) × (as_spelled : List ℕ) × (as_at : ℕ)
    × (xs ≡ word w.As as_spelled as_at ∷ word kind of.name of.at ∷ []) × (may_end imported kind ≡ true)

-- a Spec behind the modifier `type`, which stands before no `as`
abbrev pub begins_as : List Sym → Bool
begins_as (Lex (c.Word kind) spelled at ∷ ss) = is_as kind
begins_as _ = false

abbrev pub modified : ℕ → Spec → Spec
modified at of = record { at = at; type_only = true; name = of.name; renamed = of.renamed }

abbrev pub ModifiedRule : Bool → List Sym → Named Spec → Type 0
ModifiedRule imported xs r = (spelled : List ℕ) × (at : ℕ) × (ys : List Sym) × (of : Spec) × (xs ≡ word w.Type spelled at ∷ ys) × (begins_as ys ≡ false)
    × SpecRule imported true ys (of, r.1) × (r.0 ≡ modified at of)

-- Spec,*, and whether each is named by a Name
module _ {X : Type 0} (D : List Sym → Named X → Type 0) where
  pub data IsNamedList : List Sym → List X → Bool → Type 0 where
    no_named : IsNamedList [] [] true
    last_named : {xs : List Sym} {of : X} {b : Bool} → D xs (of, b) → IsNamedList xs (of ∷ []) b
    more_named : (comma : ℕ) {xs ys : List Sym} {of : X} {rest : List X} {b later : Bool} → D xs (of, b) → IsNamedList ys rest later
        → IsNamedList (xs ++ Mark m.Comma comma ∷ ys) (of ∷ rest) (b && later)

abbrev pub SpecListRule : Bool → Bool → List Sym → Named (List Spec) → Type 0
SpecListRule imported type_only xs r = IsNamedList (SpecRule imported type_only) xs r.0 r.1

-- in braces
abbrev pub SpecsRule : Bool → Bool → List Sym → Named (List Spec) → Type 0
SpecsRule imported type_only xs r = (open_at : ℕ) × (close_at : ℕ) × (ys : List Sym)
    × (xs ≡ Mark m.OpenBrace open_at ∷ ys ++ Mark m.CloseBrace close_at ∷ []) × SpecListRule imported type_only ys r

-- Specs end before `}`.
abbrev pub InSpecs : Sym → Type 0
InSpecs s = is_close_brace s ≡ false

-- and behind `type` or none
abbrev pub TypedSpecsRule : Bool → List Sym → SpecList → Type 0
TypedSpecsRule imported xs r = (front : List Sym) × (behind : List Sym) × (xs ≡ front ++ behind) × IsWorded w.Type front r.type_only
    × SpecsRule imported r.type_only behind (r.specs, r.named)

-- `String ;`, and `from String ;`
abbrev pub BareRule : List Sym → Specifier → Type 0
BareRule xs of = (semicolon : ℕ) × (xs ≡ Lex c.String of.spelled of.at ∷ Mark m.Semicolon semicolon ∷ [])

abbrev pub EndedFromRule : List Sym → Specifier → Type 0
EndedFromRule xs of = (semicolon : ℕ) × (ys : List Sym) × (xs ≡ ys ++ Mark m.Semicolon semicolon ∷ []) × IsFrom ys of

-- what is read of all
abbrev pub import_of : ℕ → SpecList → Specifier → Import
import_of at l origin = import_form.List at l.type_only l.specs origin

abbrev pub export_of : ℕ → SpecList → Option Specifier → ExportList
export_of at l origin = record { at = at; type_only = l.type_only; specs = l.specs; from = origin }
