-- How a list of Specs is read, and what names the module behind it.
use Rattle.std.proofs.Common.{◌≡◌, ℕ, ◌≤◌, Bool, true, false, List, [], ◌∷◌, ◌++◌, length, refl, sym, ◌∙◌, ap, subst, inl, inr, arith, append_assoc}
use Rattle.std.specs.Prelude.{◌+◌, Option, Some, None, MatchOption}
use Rattle.tb_tree.specs.declared.marks.Mark.TheVariants as m
use Rattle.tb_tree.specs.declared.words.Word.{Word}
use Rattle.tb_tree.specs.declared.words.Word.TheVariants as words
use Rattle.tb_tree.specs.declared.words.Class.TheVariants as c
use Rattle.tb_tree.specs.declared.items.Specifier.{Specifier}
use Rattle.tb_tree.specs.declared.items.Spec.{Spec}
use Rattle.tb_tree.specs.Sym.{Sym, Mark, Lex}
use Rattle.tb_tree.specs.Longest.{Found, Lacks, Ends, Starts, Never}
use Rattle.tb_tree.specs.Shapes.{word, IsWorded, unworded, worded}
use Rattle.tb_tree.specs.Items.{IsSpec, IsFrom, from}
use Rattle.tb_tree.proofs.Ends.{ap_both, found_from, lacks_from}
use Rattle.tb_parse_type.specs.declared.reader.Reader.{Reader}
use Rattle.tb_parse_type.specs.Reading.{Stands, LacksSym}
use Rattle.tb_parse_body.proofs.Enclosed.{Encloses, enclosed_found, enclosed_lacks_close}
use Rattle.tb_parse_body.proofs.Sequences.{IsBack, found_by, lacks_by, ThenBy, Apart, apart_passes, then_found, then_lacks_second}
use Rattle.tb_parse_file.specs.declared.fronts.Part.{Part}
use Rattle.tb_parse_file.specs.declared.imports.SpecList.{SpecList}
use Rattle.tb_parse_file.specs.Lists.{Named, SpecRule, SpecListRule, SpecsRule, TypedSpecsRule, BareRule, EndedFromRule, InSpecs}
use Rattle.tb_parse_file.specs.Reading.{ReadsPart}
use Rattle.tb_parse_file.specs.Rules.{InSpec}
use Rattle.tb_parse_file.proofs.Behind.{IsBehind, behind_found, behind_lacks}
use Rattle.tb_parse_file.proofs.NamedLists.{Separates}
use Rattle.tb_parse_file.proofs.SpecReadings.{spec_begins}

-- ---- Specs with commas between

word_in_specs : (s : Sym) → InSpec s → InSpecs s
word_in_specs (Lex k w at) h = refl
word_in_specs (Mark k at) h = let n : false ≡ true = h in cc

spec_starts : {local : Word → Word → Bool} {type_only : Bool} {a : List Sym} {u : Spec} (us : List Sym) → IsSpec local type_only a u → Starts InSpecs (a ++ us)
spec_starts us d = let b = spec_begins d in subst (λ v. Starts InSpecs (v ++ us)) (sym b.4) refl

spec_long : {local : Word → Word → Bool} {type_only : Bool} {a : List Sym} {u : Spec} → IsSpec local type_only a u → 1 ≤ length a
spec_long d = let b = spec_begins d in omega (arith, ap length b.4)

pub specs_separate : (imported type_only : Bool) → Separates (SpecRule imported type_only) InSpec InSpecs
specs_separate imported type_only = record {
  separator = λ at h. let n : false ≡ true = h in cc;
  more = λ at. refl;
  wider = word_in_specs;
  starts = λ a x us d. spec_starts us d;
  long = λ a x d. spec_long d;
}

-- ---- in braces

abbrev itself : Named (List Spec) → Named (List Spec)
itself r = r

specs_enclosed : (imported type_only : Bool) (o : ℕ) (xs : List Sym) → Encloses m.CloseBrace itself (SpecListRule imported type_only) (SpecsRule imported type_only) (Mark m.OpenBrace o ∷ []) xs
specs_enclosed imported type_only o xs a u us d w =
    let i : Mark m.OpenBrace o ∷ xs ≡ Mark m.OpenBrace d.0 ∷ ((d.2 ++ Mark m.CloseBrace d.1 ∷ []) ++ us) = w ∙ ap (λ v. v ++ us) d.3 in
    let j : xs ≡ (d.2 ++ Mark m.CloseBrace d.1 ∷ []) ++ us = cc in
    (d.2, u, d.1, j ∙ append_assoc d.2 (Mark m.CloseBrace d.1 ∷ []) us, d.4, refl)

no_close : (at : ℕ) → InSpecs (Mark m.CloseBrace at) → ⊥
no_close at h = let n : true ≡ false = h in cc

pub specs_found : {xs ys : List Sym} {r : Named (List Spec)} (imported type_only : Bool) (o p : ℕ) → Found (SpecListRule imported type_only) InSpecs xs r (Mark m.CloseBrace p ∷ ys)
    → Found (SpecsRule imported type_only) Never (Mark m.OpenBrace o ∷ xs) r ys
specs_found {xs = xs} {ys = ys} imported type_only o p f =
    enclosed_found m.CloseBrace itself (Mark m.OpenBrace o ∷ []) p ys no_close (λ b d. (o, p, b, refl, d)) (specs_enclosed imported type_only o xs) f

pub specs_lacks_close : {xs ys : List Sym} {r : Named (List Spec)} (imported type_only : Bool) (o : ℕ) → Found (SpecListRule imported type_only) InSpecs xs r ys
    → ((at : ℕ) (zs : List Sym) → ys ≡ Mark m.CloseBrace at ∷ zs → ⊥) → Lacks (SpecsRule imported type_only) (Mark m.OpenBrace o ∷ xs)
specs_lacks_close {xs = xs} imported type_only o f n =
    enclosed_lacks_close m.CloseBrace itself (Mark m.OpenBrace o ∷ []) no_close (specs_enclosed imported type_only o xs) f n

pub specs_lacks_open : (imported type_only : Bool) (xs : List Sym) → ((at : ℕ) (zs : List Sym) → xs ≡ Mark m.OpenBrace at ∷ zs → ⊥) → Lacks (SpecsRule imported type_only) xs
specs_lacks_open imported type_only xs h = record {
  none = λ a u us d w. h d.0 ((d.2 ++ Mark m.CloseBrace d.1 ∷ []) ++ us) (w ∙ ap (λ v. v ++ us) d.3);
}

-- ---- `type` or none before them

pub type_found : (spelled : List ℕ) (at : ℕ) (ys : List Sym) → Found (IsWorded words.Type) InSpec (word words.Type spelled at ∷ ys) true ys
type_found spelled at ys = record {
  front = word words.Type spelled at ∷ [];
  whole = refl;
  derives = worded spelled at;
  longest = λ a u us d w. go us d w;
}
  where
    go : {a : List Sym} {u : Bool} (us : List Sym) → IsWorded words.Type a u → word words.Type spelled at ∷ ys ≡ a ++ us → Ends InSpec true ys u us
    go us unworded w = inr (omega (arith, ap length w), subst (λ v. Starts InSpec v) w refl)
    go us (worded s o) w = inl (refl, cc)

pub type_absent : (ys : List Sym) → ((spelled : List ℕ) (at : ℕ) (zs : List Sym) → ys ≡ word words.Type spelled at ∷ zs → ⊥) → Found (IsWorded words.Type) InSpec ys false ys
type_absent ys h = record {
  front = [];
  whole = refl;
  derives = unworded;
  longest = λ a u us d w. go us d w;
}
  where
    go : {a : List Sym} {u : Bool} (us : List Sym) → IsWorded words.Type a u → ys ≡ a ++ us → Ends InSpec false ys u us
    go us unworded w = inl (refl, w)
    go us (worded s o) w = absurd (h s o us w)

abbrev Typed : Bool → List Sym → Bool × Named (List Spec) → Type 0
Typed imported = ThenBy (IsWorded words.Type) (λ t. SpecsRule imported t)

abbrev list_of : Bool × Named (List Spec) → SpecList
list_of r = record { type_only = r.0; specs = r.1.0; named = r.1.1 }

braces_apart : (imported : Bool) → Apart InSpec (λ (t : Bool). SpecsRule imported t)
braces_apart imported t b y us d s = let n : false ≡ true = subst (λ v. Starts InSpec (v ++ us)) d.3 s in cc

typed_back : (imported : Bool) (xs : List Sym) → IsBack list_of (Typed imported) (TypedSpecsRule imported) xs
typed_back imported xs a u us d w = ((u.type_only, (u.specs, u.named)), (d.0, d.1, d.2, d.3, d.4), refl)

pub typed_found : {type_only : Bool} {xs ys zs : List Sym} {of : Named (List Spec)} (imported : Bool) → Found (IsWorded words.Type) InSpec xs type_only ys → Found (SpecsRule imported type_only) Never ys of zs
    → Found (TypedSpecsRule imported) Never xs (record { type_only = type_only; specs = of.0; named = of.1 }) zs
typed_found {xs = xs} imported f g =
    found_by list_of (λ a w d. (d.0, d.1, d.2, d.3, d.4)) (typed_back imported xs) (then_found (apart_passes Never (braces_apart imported)) f g)

pub typed_lacks : {type_only : Bool} {xs ys : List Sym} (imported : Bool) → Found (IsWorded words.Type) InSpec xs type_only ys → Lacks (SpecsRule imported type_only) ys → Lacks (TypedSpecsRule imported) xs
typed_lacks {xs = xs} imported f g = lacks_by list_of (typed_back imported xs) (then_lacks_second (braces_apart imported) f g)

-- such a list begins with a word or with a brace
pub typed_no_string : {a zs : List Sym} (imported : Bool) (l : SpecList) (spelled : List ℕ) (at : ℕ) (us : List Sym) → TypedSpecsRule imported a l → Lex c.String spelled at ∷ zs ≡ a ++ us → ⊥
typed_no_string {zs = zs} imported l spelled at us d w = go d.3 (w ∙ ap (λ v. v ++ us) d.2)
  where
    go : {a : List Sym} {t : Bool} → IsWorded words.Type a t → Lex c.String spelled at ∷ zs ≡ (a ++ d.1) ++ us → ⊥
    go unworded i = let j : Lex c.String spelled at ∷ zs ≡ Mark m.OpenBrace d.4.0 ∷ ((d.4.2 ++ Mark m.CloseBrace d.4.1 ∷ []) ++ us) = i ∙ ap (λ v. v ++ us) d.4.3 in cc
    go (worded s o) i = cc

-- ---- `String ;`, and `from` before it

-- what the reader of a string answers
abbrev SpecifierAnswer : Reader → ℕ → Option Specifier → Type 0
SpecifierAnswer r at o = MatchOption o ((spelled : List ℕ) (start : ℕ) → LacksSym r at (Lex c.String spelled start)) (λ of. Stands r at (Lex c.String of.spelled of.at))

pub no_specifier : (r : Reader) (at : ℕ) (o : Option Specifier) → o ≡ None → SpecifierAnswer r at o → (spelled : List ℕ) (start : ℕ) → LacksSym r at (Lex c.String spelled start)
no_specifier r at o e h = subst (λ v. SpecifierAnswer r at v) e h

pub a_specifier : (r : Reader) (at : ℕ) (o : Option Specifier) (of : Specifier) → o ≡ Some of → SpecifierAnswer r at o → Stands r at (Lex c.String of.spelled of.at)
a_specifier r at o of e h = subst (λ v. SpecifierAnswer r at v) e h

pub bare_found : (semicolon : ℕ) (of : Specifier) (ys : List Sym) → Found BareRule Never (Lex c.String of.spelled of.at ∷ Mark m.Semicolon semicolon ∷ ys) of ys
bare_found semicolon of ys = record {
  front = Lex c.String of.spelled of.at ∷ Mark m.Semicolon semicolon ∷ [];
  whole = refl;
  derives = (semicolon, refl);
  longest = λ a u us d w.
      let i : Lex c.String of.spelled of.at ∷ Mark m.Semicolon semicolon ∷ ys ≡ Lex c.String u.spelled u.at ∷ Mark m.Semicolon d.0 ∷ us = w ∙ ap (λ v. v ++ us) d.1 in
      let s : of.spelled ≡ u.spelled = cc in
      let o : of.at ≡ u.at = cc in
      inl (ap_both (λ (o : ℕ) (s : List ℕ). let x : Specifier = record { at = o; spelled = s } in x) o s, cc);
}

pub bare_lacks : (xs : List Sym) → ((spelled : List ℕ) (at : ℕ) (zs : List Sym) → xs ≡ Lex c.String spelled at ∷ zs → ⊥) → Lacks BareRule xs
bare_lacks xs h = record { none = λ a u us d w. h u.spelled u.at (Mark m.Semicolon d.0 ∷ us) (w ∙ ap (λ v. v ++ us) d.1) }

pub bare_lacks_end : (spelled : List ℕ) (at : ℕ) (ys : List Sym) → ((at : ℕ) (zs : List Sym) → ys ≡ Mark m.Semicolon at ∷ zs → ⊥) → Lacks BareRule (Lex c.String spelled at ∷ ys)
bare_lacks_end spelled at ys h = record {
  none = λ a u us d w.
      let i : Lex c.String spelled at ∷ ys ≡ Lex c.String u.spelled u.at ∷ Mark m.Semicolon d.0 ∷ us = w ∙ ap (λ v. v ++ us) d.1 in
      h d.0 us cc;
}

from_cases : {a : List Sym} {u : Specifier} (semicolon : ℕ) → IsFrom a u → (spelled : List ℕ) × (at : ℕ) × (b : List Sym) × (a ++ Mark m.Semicolon semicolon ∷ [] ≡ word words.From spelled at ∷ b) × BareRule b u
from_cases semicolon (from from_spelled from_at spelled at) = (from_spelled, from_at, Lex c.String spelled at ∷ Mark m.Semicolon semicolon ∷ [], refl, (semicolon, refl))

pub ended_cases : {a : List Sym} {u : Specifier} → EndedFromRule a u → (spelled : List ℕ) × (at : ℕ) × (b : List Sym) × (a ≡ word words.From spelled at ∷ b) × BareRule b u
ended_cases d = let q = from_cases d.0 d.3 in (q.0, q.1, q.2, d.2 ∙ q.3, q.4)

abbrev same : Specifier → Specifier
same of = of

from_behind : (spelled : List ℕ) (at : ℕ) (xs : List Sym) → IsBehind same BareRule EndedFromRule (word words.From spelled at) xs
from_behind spelled at xs a u us d w =
    let q = ended_cases d in
    let i : word words.From spelled at ∷ xs ≡ word words.From q.0 q.1 ∷ (q.2 ++ us) = w ∙ ap (λ v. v ++ us) q.3 in
    let j : xs ≡ q.2 ++ us = cc in
    (q.2, u, j, q.4, refl)

from_derives : {a : List Sym} {u : Specifier} (spelled : List ℕ) (at : ℕ) → BareRule a u → EndedFromRule (word words.From spelled at ∷ a) u
from_derives {u = u} spelled at d = (d.0, word words.From spelled at ∷ Lex c.String u.spelled u.at ∷ [], ap (λ v. word words.From spelled at ∷ v) d.1, from spelled at u.spelled u.at)

pub from_found : {xs ys : List Sym} {of : Specifier} (spelled : List ℕ) (at : ℕ) → Found BareRule Never xs of ys → Found EndedFromRule Never (word words.From spelled at ∷ xs) of ys
from_found {xs = xs} spelled at f = behind_found same (word words.From spelled at) (λ a d. from_derives spelled at d) (from_behind spelled at xs) f

pub from_lacks : {xs : List Sym} (spelled : List ℕ) (at : ℕ) → Lacks BareRule xs → Lacks EndedFromRule (word words.From spelled at ∷ xs)
from_lacks {xs = xs} spelled at f = behind_lacks same (word words.From spelled at) (from_behind spelled at xs) f

pub from_lacks_word : (xs : List Sym) → ((spelled : List ℕ) (at : ℕ) (zs : List Sym) → xs ≡ word words.From spelled at ∷ zs → ⊥) → Lacks EndedFromRule xs
from_lacks_word xs h = record { none = λ a u us d w. let q = ended_cases d in h q.0 q.1 (q.2 ++ us) (w ∙ ap (λ v. v ++ us) q.3) }

pub from_reads : {spelled : List ℕ} {start : ℕ} (r : Reader) (at : ℕ) (o : Option (Part Specifier)) → Stands r at (word words.From spelled start) → ReadsPart BareRule Never r (at + 1) o
    → ReadsPart EndedFromRule Never r at o
from_reads r at None s h = lacks_from s.2 (from_lacks _ _ h)
from_reads r at (Some x) s h = (h.0, found_from s.2 (from_found _ _ h.1))
