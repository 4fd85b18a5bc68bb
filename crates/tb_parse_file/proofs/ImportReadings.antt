-- How imports and export lists are read.
use Rattle.std.proofs.Common.{◌≡◌, ℕ, Bool, true, false, List, [], ◌∷◌, ◌++◌, refl, sym, ◌∙◌, ap, subst, inl, inr, append_assoc}
use Rattle.std.specs.Prelude.{◌⊎◌, ◌&&◌, not, Some, None}
use Rattle.tb_tree.specs.declared.marks.Mark.TheVariants as m
use Rattle.tb_tree.specs.declared.words.Word.{Word}
use Rattle.tb_tree.specs.declared.words.Word.TheVariants as words
use Rattle.tb_tree.specs.declared.words.Class.TheVariants as c
use Rattle.tb_tree.specs.declared.items.Specifier.{Specifier}
use Rattle.tb_tree.specs.declared.items.Spec.{Spec}
use Rattle.tb_tree.specs.declared.items.Import.{Import}
use Rattle.tb_tree.specs.declared.items.Import.TheVariants as import_form
use Rattle.tb_tree.specs.declared.items.ExportList.{ExportList}
use Rattle.tb_tree.specs.Sym.{Sym, Mark, Lex}
use Rattle.tb_tree.specs.Longest.{Found, Lacks, Never}
use Rattle.tb_tree.specs.Words.{is_name}
use Rattle.tb_tree.specs.Shapes.{word, IsListed, none_listed, last_listed, more_listed}
use Rattle.tb_tree.specs.Items.{IsSpec, plain_spec, renamed_spec, type_spec, renamed_type_spec, IsSpecs, specs, IsImport, import_list, import_bare, IsExportList, export_list, export_from, first_is_local}
use Rattle.tb_tree.proofs.Ends.{exact, never, ap_both}
use Rattle.tb_parse_type.specs.Rules.{MarkRule}
use Rattle.tb_parse_body.proofs.Sequences.{ThenBy}
use Rattle.tb_parse_file.specs.declared.imports.SpecList.{SpecList}
use Rattle.tb_parse_file.specs.Lists.{Named, may_end, local_of, SpecRule, IsNamedList, no_named, last_named, more_named, SpecsRule, TypedSpecsRule, BareRule, EndedFromRule, import_of, export_of}
use Rattle.tb_parse_file.proofs.SpecReadings.{two_true, local_true, local_is}
use Rattle.tb_parse_file.proofs.ListReadings.{typed_no_string, ended_cases}

-- ---- which words of a Spec are Names

recast : {local other : Word → Word → Bool} {type_only : Bool} {a : List Sym} {u : Spec} → ((first last : Word) → local first last ≡ true → other first last ≡ true) → IsSpec local type_only a u
    → IsSpec other type_only a u
recast h (plain_spec {kind = kind} spelled at e) = plain_spec spelled at (h kind kind e)
recast h (renamed_spec {kind = kind} {other = other} spelled at as_spelled as_at other_spelled other_at e) = renamed_spec spelled at as_spelled as_at other_spelled other_at (h kind other e)
recast h (type_spec {kind = kind} type_spelled type_at spelled at t n l) = type_spec type_spelled type_at spelled at t n (h kind kind l)
recast h (renamed_type_spec {kind = kind} {other = other} type_spelled type_at spelled at as_spelled as_at other_spelled other_at t n l) =
    renamed_type_spec type_spelled type_at spelled at as_spelled as_at other_spelled other_at t n (h kind other l)

naming : {type_only : Bool} {local : Word → Word → Bool} {a : List Sym} {u : Spec} (imported : Bool) → ((first last : Word) → local first last ≡ true → may_end imported last ≡ true) → IsSpec local type_only a u
    → (named : Bool) × SpecRule imported type_only a (u, named)
naming imported h (plain_spec {kind = kind} spelled at e) = (is_name kind, plain_spec spelled at (local_true imported kind kind (h kind kind e)))
naming imported h (renamed_spec {kind = kind} {other = other} spelled at as_spelled as_at other_spelled other_at e) =
    (is_name kind, renamed_spec spelled at as_spelled as_at other_spelled other_at (local_true imported kind other (h kind other e)))
naming imported h (type_spec {kind = kind} type_spelled type_at spelled at t n l) =
    (is_name kind, type_spec type_spelled type_at spelled at t n (local_true imported kind kind (h kind kind l)))
naming imported h (renamed_type_spec {kind = kind} {other = other} type_spelled type_at spelled at as_spelled as_at other_spelled other_at t n l) =
    (is_name kind, renamed_type_spec type_spelled type_at spelled at as_spelled as_at other_spelled other_at t n (local_true imported kind other (h kind other l)))

naming_list : {type_only : Bool} {local : Word → Word → Bool} {a : List Sym} {of : List Spec} (imported : Bool) → ((first last : Word) → local first last ≡ true → may_end imported last ≡ true)
    → IsListed (IsSpec local type_only) a of → (named : Bool) × IsNamedList (SpecRule imported type_only) a of named
naming_list imported h none_listed = (true, no_named)
naming_list imported h (last_listed d) = let q = naming imported h d in (q.0, last_named q.1)
naming_list imported h (more_listed comma d r) = let q = naming imported h d in let p = naming_list imported h r in (q.0 && p.0, more_named comma q.1 p.1)

-- a list where each is named by a Name
all_named : {type_only : Bool} {a : List Sym} {of : List Spec} → IsListed (IsSpec first_is_local type_only) a of → IsNamedList (SpecRule false type_only) a of true
all_named none_listed = no_named
all_named (last_listed d) = last_named (recast (λ first last e. e) d)
all_named (more_listed comma d r) = more_named comma {b = true} {later = true} (recast (λ first last e. e) d) (all_named r)

listed : (imported : Bool) {type_only named : Bool} {local : Word → Word → Bool} {a : List Sym} {of : List Spec}
    → ((b : Bool) (first last : Word) → local_of imported b first last ≡ true → local first last ≡ true) → IsNamedList (SpecRule imported type_only) a of named → IsListed (IsSpec local type_only) a of
listed imported h no_named = none_listed
listed imported h (last_named {b = b} d) = last_listed (recast (h b) d)
listed imported h (more_named comma {b = b} d r) = more_listed comma (recast (h b) d) (listed imported h r)

first_named : (b : Bool) (first last : Word) → b ≡ true → local_of false b first last ≡ true → first_is_local first last ≡ true
first_named b first last e h = sym (local_is false b first last h).1 ∙ e

listed_named : {type_only named : Bool} {a : List Sym} {of : List Spec} → IsNamedList (SpecRule false type_only) a of named → named ≡ true → IsListed (IsSpec first_is_local type_only) a of
listed_named no_named e = none_listed
listed_named (last_named {b = b} d) e = last_listed (recast (λ first last. first_named b first last e) d)
listed_named (more_named comma {b = b} {later = later} d r) e =
    let q = two_true b later e in
    more_listed comma (recast (λ first last. first_named b first last q.0) d) (listed_named r q.1)

-- ---- lists in braces

specs_back : {type_only : Bool} {local : Word → Word → Bool} {a : List Sym} {of : List Spec} (imported : Bool) → ((first last : Word) → local first last ≡ true → may_end imported last ≡ true)
    → IsSpecs local type_only a of → (named : Bool) × SpecsRule imported type_only a (of, named)
specs_back imported h (specs open_at close_at {xs = xs} d) = let q = naming_list imported h d in (q.0, (open_at, close_at, xs, refl, q.1))

specs_back_named : {type_only : Bool} {a : List Sym} {of : List Spec} → IsSpecs first_is_local type_only a of → SpecsRule false type_only a (of, true)
specs_back_named (specs open_at close_at {xs = xs} d) = (open_at, close_at, xs, refl, all_named d)

specs_forth : {local : Word → Word → Bool} {a : List Sym} (imported type_only : Bool) (r : Named (List Spec)) → ((b : Bool) (first last : Word) → local_of imported b first last ≡ true → local first last ≡ true)
    → SpecsRule imported type_only a r → IsSpecs local type_only a r.0
specs_forth {local = local} imported type_only r h d = subst (λ v. IsSpecs local type_only v r.0) (sym d.3) (specs d.0 d.1 (listed imported h d.4))

specs_forth_named : {a : List Sym} (type_only : Bool) (r : Named (List Spec)) → SpecsRule false type_only a r → r.1 ≡ true → IsSpecs first_is_local type_only a r.0
specs_forth_named type_only r d e = subst (λ v. IsSpecs first_is_local type_only v r.0) (sym d.3) (specs d.0 d.1 (listed_named d.4 e))

-- ---- imports

abbrev Listing : Bool → List Sym → SpecList × Specifier → Type 0
Listing imported = ThenBy (TypedSpecsRule imported) (λ l. EndedFromRule)

import_cases : {a : List Sym} {u : Import} → IsImport a u → (spelled : List ℕ) × (at : ℕ) × (b : List Sym) × (a ≡ word words.Import spelled at ∷ b)
    × (((of : Specifier) × BareRule b of × (u ≡ import_form.Bare at of)) ⊎ ((r : SpecList × Specifier) × Listing true b r × (u ≡ import_of at r.0 r.1)))
import_cases (import_list {type_only = type_only} spelled at semicolon {xs = xs} {ys = ys} {zs = zs} {of = of} {origin = origin} x y z) =
    let q = specs_back true (λ first last e. e) y in
    let l : SpecList = record { type_only = type_only; specs = of; named = q.0 } in (
      spelled,
      at,
      xs ++ ys ++ zs ++ Mark m.Semicolon semicolon ∷ [],
      refl,
      inr ((l, origin), (xs ++ ys, zs ++ Mark m.Semicolon semicolon ∷ [], append_assoc (xs ++ ys) zs (Mark m.Semicolon semicolon ∷ []), (xs, ys, refl, x, q.1), (semicolon, zs, refl, z)), refl),
    )
import_cases (import_bare spelled at from_spelled from_at semicolon) =
    (spelled, at, Lex c.String from_spelled from_at ∷ Mark m.Semicolon semicolon ∷ [], refl, inl (record { at = from_at; spelled = from_spelled }, (semicolon, refl), refl))

bare_derives : {a : List Sym} {of : Specifier} (spelled : List ℕ) (at : ℕ) → BareRule a of → IsImport (word words.Import spelled at ∷ a) (import_form.Bare at of)
bare_derives {of = of} spelled at d = subst (λ v. IsImport (word words.Import spelled at ∷ v) (import_form.Bare at of)) (sym d.1) (import_bare spelled at of.spelled of.at d.0)

-- what stands behind the first word, in the order in which it is written
in_line : {f t : List Sym} (xs ys zs : List Sym) (semicolon : ℕ) → f ≡ xs ++ ys → t ≡ zs ++ Mark m.Semicolon semicolon ∷ [] → f ++ t ≡ xs ++ ys ++ zs ++ Mark m.Semicolon semicolon ∷ []
in_line xs ys zs semicolon p q = ap_both (λ (a b : List Sym). a ++ b) p q ∙ sym (append_assoc (xs ++ ys) zs (Mark m.Semicolon semicolon ∷ []))

list_derives : {a b : List Sym} {of : Specifier} (l : SpecList) (spelled : List ℕ) (at : ℕ) → TypedSpecsRule true a l → EndedFromRule b of → IsImport (word words.Import spelled at ∷ (a ++ b)) (import_of at l of)
list_derives {a = a} {b = b} {of = of} l spelled at d e =
    subst (λ v. IsImport (word words.Import spelled at ∷ v) (import_of at l of)) (sym (in_line d.0 d.1 e.1 e.0 d.2 e.2))
    (import_list spelled at e.0 d.3 (specs_forth true l.type_only (l.specs, l.named) (λ b first last h. (local_is true b first last h).0) d.4) e.3)

pub import_bare_found : {xs ys : List Sym} {of : Specifier} (spelled : List ℕ) (at : ℕ) → Found BareRule Never xs of ys → Found IsImport Never (word words.Import spelled at ∷ xs) (import_form.Bare at of) ys
import_bare_found {xs = xs} {ys = ys} {of = of} spelled at f = record {
  front = word words.Import spelled at ∷ f.front;
  whole = ap (λ v. word words.Import spelled at ∷ v) f.whole;
  derives = bare_derives spelled at f.derives;
  longest = λ a u us d w.
      let q = import_cases d in
      let i : word words.Import spelled at ∷ xs ≡ word words.Import q.0 q.1 ∷ (q.2 ++ us) = w ∙ ap (λ v. v ++ us) q.3 in
      let j : xs ≡ q.2 ++ us = cc in
      let o : at ≡ q.1 = cc in
      elim q.4 [
        | inl p ↦
            let z = exact f q.2 p.0 us p.1 j (never us) in
            inl (ap_both (λ (o : ℕ) (s : Specifier). import_form.Bare o s) o z.0 ∙ sym p.2, z.1)
        | inr p ↦
            let t = p.1 in
            let k : Lex c.String of.spelled of.at ∷ (Mark m.Semicolon f.derives.0 ∷ ys) ≡ t.0 ++ (t.1 ++ us) =
            sym (f.whole ∙ ap (λ v. v ++ ys) f.derives.1) ∙ j ∙ ap (λ v. v ++ us) t.2 ∙ append_assoc t.0 t.1 us in
            absurd (typed_no_string true p.0.0 of.spelled of.at (t.1 ++ us) t.3 k)
      ];
}

pub import_list_found : {xs ys zs : List Sym} {l : SpecList} {of : Specifier} (spelled : List ℕ) (at : ℕ) → Lacks BareRule xs → Found (TypedSpecsRule true) Never xs l ys → Found EndedFromRule Never ys of zs
    → Found IsImport Never (word words.Import spelled at ∷ xs) (import_of at l of) zs
import_list_found {xs = xs} {ys = ys} {zs = zs} {l = l} {of = of} spelled at n f g = record {
  front = word words.Import spelled at ∷ (f.front ++ g.front);
  whole = ap (λ v. word words.Import spelled at ∷ v) (f.whole ∙ ap (λ v. f.front ++ v) g.whole ∙ sym (append_assoc f.front g.front zs));
  derives = list_derives l spelled at f.derives g.derives;
  longest = λ a u us d w.
      let q = import_cases d in
      let i : word words.Import spelled at ∷ xs ≡ word words.Import q.0 q.1 ∷ (q.2 ++ us) = w ∙ ap (λ v. v ++ us) q.3 in
      let j : xs ≡ q.2 ++ us = cc in
      let o : at ≡ q.1 = cc in
      elim q.4 [
        | inl p ↦ absurd (n.none q.2 p.0 us p.1 j)
        | inr p ↦
            let t = p.1 in
            let z = exact f t.0 p.0.0 (t.1 ++ us) t.3 (j ∙ ap (λ v. v ++ us) t.2 ∙ append_assoc t.0 t.1 us) (never (t.1 ++ us)) in
            let y = exact g t.1 p.0.1 us t.4 z.1 (never us) in
            let same : import_of at l of ≡ import_of q.1 p.0.0 p.0.1 = ap_both (λ (x : SpecList) (s : Specifier). import_of at x s) z.0 y.0 ∙ ap (λ (n : ℕ). import_of n p.0.0 p.0.1) o in
            inl (same ∙ sym p.2, y.1)
      ];
}

-- none, where neither follows
import_lacks : {xs : List Sym} (spelled : List ℕ) (at : ℕ) → Lacks BareRule xs → ((a : List Sym) (r : SpecList × Specifier) (us : List Sym) → Listing true a r → xs ≡ a ++ us → ⊥)
    → Lacks IsImport (word words.Import spelled at ∷ xs)
import_lacks {xs = xs} spelled at n h = record {
  none = λ a u us d w.
      let q = import_cases d in
      let i : word words.Import spelled at ∷ xs ≡ word words.Import q.0 q.1 ∷ (q.2 ++ us) = w ∙ ap (λ v. v ++ us) q.3 in
      let j : xs ≡ q.2 ++ us = cc in
      elim q.4 [
        | inl p ↦ n.none q.2 p.0 us p.1 j
        | inr p ↦ h q.2 p.0 us p.1 j
      ];
}

pub import_lacks_list : {xs : List Sym} (spelled : List ℕ) (at : ℕ) → Lacks BareRule xs → Lacks (TypedSpecsRule true) xs → Lacks IsImport (word words.Import spelled at ∷ xs)
import_lacks_list spelled at n l = import_lacks spelled at n (λ a r us t j. l.none t.0 r.0 (t.1 ++ us) t.3 (j ∙ ap (λ v. v ++ us) t.2 ∙ append_assoc t.0 t.1 us))

pub import_lacks_from : {xs ys : List Sym} {l : SpecList} (spelled : List ℕ) (at : ℕ) → Lacks BareRule xs → Found (TypedSpecsRule true) Never xs l ys → Lacks EndedFromRule ys
    → Lacks IsImport (word words.Import spelled at ∷ xs)
import_lacks_from spelled at n f g = import_lacks spelled at n (λ a r us t j.
    let z = exact f t.0 r.0 (t.1 ++ us) t.3 (j ∙ ap (λ v. v ++ us) t.2 ∙ append_assoc t.0 t.1 us) (never (t.1 ++ us)) in
    g.none t.1 r.1 us t.4 z.1)

pub import_lacks_word : (xs : List Sym) → ((spelled : List ℕ) (at : ℕ) (zs : List Sym) → xs ≡ word words.Import spelled at ∷ zs → ⊥) → Lacks IsImport xs
import_lacks_word xs h = record { none = λ a u us d w. let q = import_cases d in h q.0 q.1 (q.2 ++ us) (w ∙ ap (λ v. v ++ us) q.3) }

-- ---- export lists

pub not_true : (b : Bool) → not b ≡ true → b ≡ false
not_true true e = sym e
not_true false e = refl

pub not_false : (b : Bool) → not b ≡ false → b ≡ true
not_false true e = refl
not_false false e = sym e

abbrev Ended : List Sym → SpecList × ℕ → Type 0
Ended = ThenBy (TypedSpecsRule false) (λ l. MarkRule m.Semicolon)

export_cases : {a : List Sym} {u : ExportList} → IsExportList a u → (spelled : List ℕ) × (at : ℕ) × (b : List Sym) × (a ≡ word words.Export spelled at ∷ b)
    × (((r : SpecList × ℕ) × (r.0.named ≡ true) × Ended b r × (u ≡ export_of at r.0 None)) ⊎ ((r : SpecList × Specifier) × Listing false b r × (u ≡ export_of at r.0 (Some r.1))))
export_cases (export_list {type_only = type_only} spelled at semicolon {xs = xs} {ys = ys} {of = of} x y) =
    let l : SpecList = record { type_only = type_only; specs = of; named = true } in (
      spelled,
      at,
      xs ++ ys ++ Mark m.Semicolon semicolon ∷ [],
      refl,
      inl ((l, semicolon), refl, (xs ++ ys, Mark m.Semicolon semicolon ∷ [], refl, (xs, ys, refl, x, specs_back_named y), refl), refl),
    )
export_cases (export_from {type_only = type_only} spelled at semicolon {xs = xs} {ys = ys} {zs = zs} {of = of} {origin = origin} x y z) =
    let q = specs_back false (λ first last e. refl) y in
    let l : SpecList = record { type_only = type_only; specs = of; named = q.0 } in (
      spelled,
      at,
      xs ++ ys ++ zs ++ Mark m.Semicolon semicolon ∷ [],
      refl,
      inr ((l, origin), (xs ++ ys, zs ++ Mark m.Semicolon semicolon ∷ [], append_assoc (xs ++ ys) zs (Mark m.Semicolon semicolon ∷ []), (xs, ys, refl, x, q.1), (semicolon, zs, refl, z)), refl),
    )

ended_derives : {a : List Sym} (l : SpecList) (spelled : List ℕ) (at semicolon : ℕ) → l.named ≡ true → TypedSpecsRule false a l
    → IsExportList (word words.Export spelled at ∷ (a ++ Mark m.Semicolon semicolon ∷ [])) (export_of at l None)
ended_derives l spelled at semicolon e d =
    subst (λ v. IsExportList (word words.Export spelled at ∷ (v ++ Mark m.Semicolon semicolon ∷ [])) (export_of at l None)) (sym d.2) (export_list spelled at semicolon d.3 (specs_forth_named l.type_only (l.specs, l.named) d.4 e))

origin_derives : {a b : List Sym} {of : Specifier} (l : SpecList) (spelled : List ℕ) (at : ℕ) → TypedSpecsRule false a l → EndedFromRule b of
    → IsExportList (word words.Export spelled at ∷ (a ++ b)) (export_of at l (Some of))
origin_derives {a = a} {b = b} {of = of} l spelled at d e =
    subst (λ v. IsExportList (word words.Export spelled at ∷ v) (export_of at l (Some of))) (sym (in_line d.0 d.1 e.1 e.0 d.2 e.2))
    (export_from spelled at e.0 d.3 (specs_forth false l.type_only (l.specs, l.named) (λ b first last h. refl) d.4) e.3)

pub export_from_found : {xs ys zs : List Sym} {l : SpecList} {of : Specifier} (spelled : List ℕ) (at : ℕ) → Found (TypedSpecsRule false) Never xs l ys → Found EndedFromRule Never ys of zs
    → Found IsExportList Never (word words.Export spelled at ∷ xs) (export_of at l (Some of)) zs
export_from_found {xs = xs} {ys = ys} {zs = zs} {l = l} {of = of} spelled at f g = record {
  front = word words.Export spelled at ∷ (f.front ++ g.front);
  whole = ap (λ v. word words.Export spelled at ∷ v) (f.whole ∙ ap (λ v. f.front ++ v) g.whole ∙ sym (append_assoc f.front g.front zs));
  derives = origin_derives l spelled at f.derives g.derives;
  longest = λ a u us d w.
      let q = export_cases d in
      let i : word words.Export spelled at ∷ xs ≡ word words.Export q.0 q.1 ∷ (q.2 ++ us) = w ∙ ap (λ v. v ++ us) q.3 in
      let j : xs ≡ q.2 ++ us = cc in
      let o : at ≡ q.1 = cc in
      elim q.4 [
        | inl p ↦
            let t = p.2 in
            let z = exact f t.0 p.0.0 (t.1 ++ us) t.3 (j ∙ ap (λ v. v ++ us) t.2 ∙ append_assoc t.0 t.1 us) (never (t.1 ++ us)) in
            let e = ended_cases g.derives in
            let k : word words.From e.0 e.1 ∷ (e.2 ++ zs) ≡ Mark m.Semicolon p.0.1 ∷ us = sym (g.whole ∙ ap (λ v. v ++ zs) e.3) ∙ z.1 ∙ ap (λ v. v ++ us) t.4 in
            absurd cc
        | inr p ↦
            let t = p.1 in
            let z = exact f t.0 p.0.0 (t.1 ++ us) t.3 (j ∙ ap (λ v. v ++ us) t.2 ∙ append_assoc t.0 t.1 us) (never (t.1 ++ us)) in
            let y = exact g t.1 p.0.1 us t.4 z.1 (never us) in
            let same : export_of at l (Some of) ≡ export_of q.1 p.0.0 (Some p.0.1) =
            ap_both (λ (x : SpecList) (s : Specifier). export_of at x (Some s)) z.0 y.0 ∙ ap (λ (n : ℕ). export_of n p.0.0 (Some p.0.1)) o in
            inl (same ∙ sym p.2, y.1)
      ];
}

pub export_list_found : {xs ys : List Sym} {l : SpecList} (spelled : List ℕ) (at semicolon : ℕ) → Found (TypedSpecsRule false) Never xs l (Mark m.Semicolon semicolon ∷ ys) → l.named ≡ true
    → Found IsExportList Never (word words.Export spelled at ∷ xs) (export_of at l None) ys
export_list_found {xs = xs} {ys = ys} {l = l} spelled at semicolon f e = record {
  front = word words.Export spelled at ∷ (f.front ++ Mark m.Semicolon semicolon ∷ []);
  whole = ap (λ v. word words.Export spelled at ∷ v) (f.whole ∙ sym (append_assoc f.front (Mark m.Semicolon semicolon ∷ []) ys));
  derives = ended_derives l spelled at semicolon e f.derives;
  longest = λ a u us d w.
      let q = export_cases d in
      let i : word words.Export spelled at ∷ xs ≡ word words.Export q.0 q.1 ∷ (q.2 ++ us) = w ∙ ap (λ v. v ++ us) q.3 in
      let j : xs ≡ q.2 ++ us = cc in
      let o : at ≡ q.1 = cc in
      elim q.4 [
        | inl p ↦
            let t = p.2 in
            let z = exact f t.0 p.0.0 (t.1 ++ us) t.3 (j ∙ ap (λ v. v ++ us) t.2 ∙ append_assoc t.0 t.1 us) (never (t.1 ++ us)) in
            let k : Mark m.Semicolon semicolon ∷ ys ≡ Mark m.Semicolon p.0.1 ∷ us = z.1 ∙ ap (λ v. v ++ us) t.4 in
            let same : export_of at l None ≡ export_of q.1 p.0.0 None = ap_both (λ (n : ℕ) (x : SpecList). export_of n x None) o z.0 in
            inl (same ∙ sym p.3, cc)
        | inr p ↦
            let t = p.1 in
            let z = exact f t.0 p.0.0 (t.1 ++ us) t.3 (j ∙ ap (λ v. v ++ us) t.2 ∙ append_assoc t.0 t.1 us) (never (t.1 ++ us)) in
            let e = ended_cases t.4 in
            let k : Mark m.Semicolon semicolon ∷ ys ≡ word words.From e.0 e.1 ∷ (e.2 ++ us) = z.1 ∙ ap (λ v. v ++ us) e.3 in
            absurd cc
      ];
}

pub export_lacks : {xs : List Sym} (spelled : List ℕ) (at : ℕ) → Lacks (TypedSpecsRule false) xs → Lacks IsExportList (word words.Export spelled at ∷ xs)
export_lacks {xs = xs} spelled at n = record {
  none = λ a u us d w.
      let q = export_cases d in
      let i : word words.Export spelled at ∷ xs ≡ word words.Export q.0 q.1 ∷ (q.2 ++ us) = w ∙ ap (λ v. v ++ us) q.3 in
      let j : xs ≡ q.2 ++ us = cc in
      elim q.4 [
        | inl p ↦ let t = p.2 in n.none t.0 p.0.0 (t.1 ++ us) t.3 (j ∙ ap (λ v. v ++ us) t.2 ∙ append_assoc t.0 t.1 us)
        | inr p ↦ let t = p.1 in n.none t.0 p.0.0 (t.1 ++ us) t.3 (j ∙ ap (λ v. v ++ us) t.2 ∙ append_assoc t.0 t.1 us)
      ];
}

-- where no `from String ;` stands behind the list
pub export_lacks_end : {xs ys : List Sym} {l : SpecList} (spelled : List ℕ) (at : ℕ) → Found (TypedSpecsRule false) Never xs l ys → Lacks EndedFromRule ys
    → (l.named ≡ true → (at : ℕ) (zs : List Sym) → ys ≡ Mark m.Semicolon at ∷ zs → ⊥) → Lacks IsExportList (word words.Export spelled at ∷ xs)
export_lacks_end {xs = xs} {l = l} spelled at f g h = record {
  none = λ a u us d w.
      let q = export_cases d in
      let i : word words.Export spelled at ∷ xs ≡ word words.Export q.0 q.1 ∷ (q.2 ++ us) = w ∙ ap (λ v. v ++ us) q.3 in
      let j : xs ≡ q.2 ++ us = cc in
      elim q.4 [
        | inl p ↦
            let t = p.2 in
            let z = exact f t.0 p.0.0 (t.1 ++ us) t.3 (j ∙ ap (λ v. v ++ us) t.2 ∙ append_assoc t.0 t.1 us) (never (t.1 ++ us)) in
            h (ap (λ (x : SpecList). x.named) z.0 ∙ p.1) p.0.1 us (z.1 ∙ ap (λ v. v ++ us) t.4)
        | inr p ↦
            let t = p.1 in
            let z = exact f t.0 p.0.0 (t.1 ++ us) t.3 (j ∙ ap (λ v. v ++ us) t.2 ∙ append_assoc t.0 t.1 us) (never (t.1 ++ us)) in
            g.none t.1 p.0.1 us t.4 z.1
      ];
}

pub export_lacks_word : (xs : List Sym) → ((spelled : List ℕ) (at : ℕ) (zs : List Sym) → xs ≡ word words.Export spelled at ∷ zs → ⊥) → Lacks IsExportList xs
export_lacks_word xs h = record { none = λ a u us d w. let q = export_cases d in h q.0 q.1 (q.2 ++ us) (w ∙ ap (λ v. v ++ us) q.3) }
