-- How a Spec is read.
use Rattle.std.proofs.Common.{◌≡◌, ℕ, Bool, true, false, List, [], ◌∷◌, ◌++◌, length, refl, sym, ◌∙◌, ap, subst, inl, inr, arith, length-append}
use Rattle.std.specs.Prelude.{◌⊎◌, ◌&&◌, Option, Some, None}
use Rattle.tb_tree.specs.declared.words.Word.{Word}
use Rattle.tb_tree.specs.declared.words.Word.TheVariants as words
use Rattle.tb_tree.specs.declared.exprs.Identifier.{Identifier}
use Rattle.tb_tree.specs.declared.items.Spec.{Spec}
use Rattle.tb_tree.specs.Sym.{Sym}
use Rattle.tb_tree.specs.Longest.{Found, Lacks, Never}
use Rattle.tb_tree.specs.Words.{is_name}
use Rattle.tb_tree.specs.Shapes.{word}
use Rattle.tb_tree.specs.Items.{IsSpec, plain_spec, renamed_spec, type_spec, renamed_type_spec, is_as, identifier}
use Rattle.tb_tree.proofs.Ends.{exact, never, starts_by, ap_both, both}
use Rattle.tb_parse_type.specs.declared.reader.Reader.{Reader}
use Rattle.tb_parse_type.specs.Reading.{rest}
use Rattle.tb_parse_file.specs.declared.fronts.Part.{Part}
use Rattle.tb_parse_file.specs.Lists.{Named, agrees, may_end, local_of, SpecRule, RenamedRule, begins_as, modified, ModifiedRule}
use Rattle.tb_parse_file.specs.Reading.{ReadsPart}
use Rattle.tb_parse_file.specs.Rules.{InSpec}

-- ---- which words are Names

agrees_same : (b : Bool) → agrees b b ≡ true
agrees_same true = refl
agrees_same false = refl

agrees_is : (a b : Bool) → agrees a b ≡ true → a ≡ b
agrees_is true true h = refl
agrees_is true false h = let n : false ≡ true = h in cc
agrees_is false true h = let n : false ≡ true = h in cc
agrees_is false false h = refl

pub two_true : (a b : Bool) → (a && b) ≡ true → (a ≡ true) × (b ≡ true)
two_true true b h = (refl, h)
two_true false b h = let n : false ≡ true = h in absurd cc

pub local_true : (imported : Bool) (kind other : Word) → may_end imported other ≡ true → local_of imported (is_name kind) kind other ≡ true
local_true imported kind other e = ap_both (λ (a b : Bool). a && b) e (agrees_same (is_name kind))

pub local_is : (imported named : Bool) (kind other : Word) → local_of imported named kind other ≡ true → (may_end imported other ≡ true) × (named ≡ is_name kind)
local_is imported named kind other h =
    let p = two_true (may_end imported other) (agrees named (is_name kind)) h in
    (p.0, agrees_is named (is_name kind) p.1)

-- ---- each Spec begins with a word

abbrev Begins : List Sym → Type 0
Begins a = (kind : Word) × (spelled : List ℕ) × (at : ℕ) × (b : List Sym) × (a ≡ word kind spelled at ∷ b)

pub spec_begins : {local : Word → Word → Bool} {type_only : Bool} {a : List Sym} {u : Spec} → IsSpec local type_only a u → Begins a
spec_begins (plain_spec {kind = kind} spelled at e) = (kind, spelled, at, [], refl)
spec_begins (renamed_spec {kind = kind} {other = other} spelled at as_spelled as_at other_spelled other_at e) =
    (kind, spelled, at, word words.As as_spelled as_at ∷ word other other_spelled other_at ∷ [], refl)
spec_begins (type_spec {kind = kind} type_spelled type_at spelled at t n l) = (words.Type, type_spelled, type_at, word kind spelled at ∷ [], refl)
spec_begins (renamed_type_spec {kind = kind} {other = other} type_spelled type_at spelled at as_spelled as_at other_spelled other_at t n l) =
    (words.Type, type_spelled, type_at, word kind spelled at ∷ word words.As as_spelled as_at ∷ word other other_spelled other_at ∷ [], refl)

pub spec_lacks_word : (imported type_only : Bool) (xs : List Sym) → ((kind : Word) (spelled : List ℕ) (at : ℕ) (zs : List Sym) → xs ≡ word kind spelled at ∷ zs → ⊥)
    → Lacks (SpecRule imported type_only) xs
spec_lacks_word imported type_only xs h = record { none = λ a r us d w. let b = spec_begins d in h b.0 b.1 b.2 (b.3 ++ us) (w ∙ ap (λ v. v ++ us) b.4) }

-- ---- what a Spec without `type` before it is

abbrev pub spec_by : List ℕ → ℕ → Option Identifier → Spec
spec_by spelled at renamed = record { at = at; type_only = false; name = identifier spelled at; renamed = renamed }

abbrev named_by : Word → List ℕ → ℕ → Option Identifier → Named Spec
named_by kind spelled at renamed = (spec_by spelled at renamed, is_name kind)

named_as : {kind other : Word} {s t : List ℕ} {o p : ℕ} {x y : Option Identifier} → kind ≡ other → s ≡ t → o ≡ p → x ≡ y → named_by kind s o x ≡ named_by other t p y
named_as k s o x = cc

-- the tree of what stands at a place
pub same_spec : {at start : ℕ} {spelled : List ℕ} {name : Identifier} {named : Bool} (kind : Word) (renamed : Option Identifier) → at ≡ start → name ≡ identifier spelled start → named ≡ is_name kind
    → ◌≡◌ {A = Named Spec} (record { at = at; type_only = false; name = name; renamed = renamed }, named) (spec_by spelled start renamed, is_name kind)
same_spec kind renamed p q r =
    both (ap_both (λ (o : ℕ) (n : Identifier). let x : Spec = record { at = o; type_only = false; name = n; renamed = renamed } in x) p q) r

pub same_modified : {at start : ℕ} (r : Named Spec) → at ≡ start → ◌≡◌ {A = Named Spec} (modified at r.0, r.1) (modified start r.0, r.1)
same_modified r p = ap (λ (o : ℕ). let x : Named Spec = (modified o r.0, r.1) in x) p

-- ---- words beside `as`

as_is : (kind : Word) → is_as kind ≡ true → kind ≡ words.As
as_is words.As h = refl
as_is _ h = cc

not_true : (b : Bool) → (b ≡ true → ⊥) → b ≡ false
not_true true h = absurd (h refl)
not_true false h = refl

begins_of : {a : List Sym} (kind : Word) (spelled : List ℕ) (at : ℕ) (b : List Sym) → a ≡ word kind spelled at ∷ b → begins_as a ≡ is_as kind
begins_of kind spelled at b e = ap begins_as e

-- a Spec before which nothing shows that it begins with `as`, does not
no_as : {local : Word → Word → Bool} {type_only : Bool} {a : List Sym} {u : Spec} (us : List Sym) → IsSpec local type_only a u
    → ((spelled : List ℕ) (at : ℕ) (zs : List Sym) → a ++ us ≡ word words.As spelled at ∷ zs → ⊥) → begins_as a ≡ false
no_as us d h =
    let b = spec_begins d in
    begins_of b.0 b.1 b.2 b.3 b.4
    ∙ not_true (is_as b.0) (λ e. h b.1 b.2 (b.3 ++ us) (ap (λ v. v ++ us) b.4 ∙ ap (λ (k : Word). word k b.1 b.2 ∷ (b.3 ++ us)) (as_is b.0 e)))

-- where no modifier may stand, and where one may

free : {local : Word → Word → Bool} {a : List Sym} {u : Spec} → IsSpec local true a u → IsSpec local false a u
free (plain_spec spelled at e) = plain_spec spelled at e
free (renamed_spec spelled at as_spelled as_at other_spelled other_at e) = renamed_spec spelled at as_spelled as_at other_spelled other_at e
free (type_spec type_spelled type_at spelled at t n l) = let n : true ≡ false = t in absurd cc
free (renamed_type_spec type_spelled type_at spelled at as_spelled as_at other_spelled other_at t n l) = let n : true ≡ false = t in absurd cc

modify : {local : Word → Word → Bool} {a : List Sym} {u : Spec} (type_spelled : List ℕ) (type_at : ℕ) → IsSpec local true a u → begins_as a ≡ false
    → IsSpec local false (word words.Type type_spelled type_at ∷ a) (modified type_at u)
modify type_spelled type_at (plain_spec spelled at e) n = type_spec type_spelled type_at spelled at refl n e
modify type_spelled type_at (renamed_spec spelled at as_spelled as_at other_spelled other_at e) n =
    renamed_type_spec type_spelled type_at spelled at as_spelled as_at other_spelled other_at refl n e
modify type_spelled type_at (type_spec other_type other_place spelled at t n l) k = let n : true ≡ false = t in absurd cc
modify type_spelled type_at (renamed_type_spec other_type other_place spelled at as_spelled as_at other_spelled other_at t n l) k = let n : true ≡ false = t in absurd cc

module _ (imported : Bool) where
  -- ---- `as` and the last word

  pub renamed_found : {kind : Word} (as_spelled : List ℕ) (as_at : ℕ) (spelled : List ℕ) (at : ℕ) (ys : List Sym) → may_end imported kind ≡ true
      → Found (RenamedRule imported) Never (word words.As as_spelled as_at ∷ word kind spelled at ∷ ys) (identifier spelled at) ys
  renamed_found {kind = kind} as_spelled as_at spelled at ys e = record {
    front = word words.As as_spelled as_at ∷ word kind spelled at ∷ [];
    whole = refl;
    derives = (kind, as_spelled, as_at, refl, e);
    longest = λ a u us d w.
        let i : word words.As as_spelled as_at ∷ word kind spelled at ∷ ys ≡ word words.As d.1 d.2 ∷ word d.0 u.name u.at ∷ us = w ∙ ap (λ v. v ++ us) d.3 in
        let s : spelled ≡ u.name = cc in
        let o : at ≡ u.at = cc in
        inl (ap_both identifier s o, cc);
  }

  pub renamed_lacks_as : (xs : List Sym) → ((spelled : List ℕ) (at : ℕ) (zs : List Sym) → xs ≡ word words.As spelled at ∷ zs → ⊥) → Lacks (RenamedRule imported) xs
  renamed_lacks_as xs h = record { none = λ a u us d w. h d.1 d.2 (word d.0 u.name u.at ∷ us) (w ∙ ap (λ v. v ++ us) d.3) }

  pub renamed_lacks_word : (spelled : List ℕ) (at : ℕ) (ys : List Sym) → ((kind : Word) (spelled : List ℕ) (at : ℕ) (zs : List Sym) → ys ≡ word kind spelled at ∷ zs → ⊥)
      → Lacks (RenamedRule imported) (word words.As spelled at ∷ ys)
  renamed_lacks_word spelled at ys h = record {
    none = λ a u us d w.
        let i : word words.As spelled at ∷ ys ≡ word words.As d.1 d.2 ∷ word d.0 u.name u.at ∷ us = w ∙ ap (λ v. v ++ us) d.3 in
        h d.0 u.name u.at us cc;
  }

  pub renamed_lacks_end : {kind : Word} (as_spelled : List ℕ) (as_at : ℕ) (spelled : List ℕ) (at : ℕ) (ys : List Sym) → may_end imported kind ≡ false
      → Lacks (RenamedRule imported) (word words.As as_spelled as_at ∷ word kind spelled at ∷ ys)
  renamed_lacks_end {kind = kind} as_spelled as_at spelled at ys e = record {
    none = λ a u us d w.
        let i : word words.As as_spelled as_at ∷ word kind spelled at ∷ ys ≡ word words.As d.1 d.2 ∷ word d.0 u.name u.at ∷ us = w ∙ ap (λ v. v ++ us) d.3 in
        let k : kind ≡ d.0 = cc in
        let n : false ≡ true = sym e ∙ ap (may_end imported) k ∙ d.4 in
        cc;
  }

  -- ---- a Spec without `type` before it: one word, or one and `as` with another

  abbrev Alone : List Sym → Named Spec → Type 0
  Alone a r = (kind : Word) × (spelled : List ℕ) × (at : ℕ) × (a ≡ word kind spelled at ∷ []) × (may_end imported kind ≡ true) × (r ≡ named_by kind spelled at None)

  abbrev Renamed : List Sym → Named Spec → Type 0
  Renamed a r = (kind : Word) × (spelled : List ℕ) × (at : ℕ) × (b : List Sym) × (of : Identifier) × (a ≡ word kind spelled at ∷ b) × RenamedRule imported b of
      × (r ≡ named_by kind spelled at (Some of))

  plain_cases : {a : List Sym} {u : Spec} (named : Bool) → IsSpec (local_of imported named) true a u → Alone a (u, named) ⊎ Renamed a (u, named)
  plain_cases named (plain_spec {kind = kind} spelled at e) =
      let l = local_is imported named kind kind e in
      inl (kind, spelled, at, refl, l.0, both refl l.1)
  plain_cases named (renamed_spec {kind = kind} {other = other} spelled at as_spelled as_at other_spelled other_at e) =
      let l = local_is imported named kind other e in
      inr (kind, spelled, at, word words.As as_spelled as_at ∷ word other other_spelled other_at ∷ [], identifier other_spelled other_at, refl, (other, as_spelled, as_at, refl, l.0), both refl l.1)
  plain_cases named (type_spec type_spelled type_at spelled at t n l) = let n : true ≡ false = t in absurd cc
  plain_cases named (renamed_type_spec type_spelled type_at spelled at as_spelled as_at other_spelled other_at t n l) = let n : true ≡ false = t in absurd cc

  alone_derives : {kind : Word} (spelled : List ℕ) (at : ℕ) → may_end imported kind ≡ true → SpecRule imported true (word kind spelled at ∷ []) (named_by kind spelled at None)
  alone_derives {kind = kind} spelled at e = plain_spec spelled at (local_true imported kind kind e)

  renamed_derives : {b : List Sym} {of : Identifier} (kind : Word) (spelled : List ℕ) (at : ℕ) → RenamedRule imported b of
      → SpecRule imported true (word kind spelled at ∷ b) (named_by kind spelled at (Some of))
  renamed_derives {of = of} kind spelled at d =
      subst (λ v. SpecRule imported true (word kind spelled at ∷ v) (named_by kind spelled at (Some of))) (sym d.3)
      (renamed_spec spelled at d.1 d.2 of.name of.at (local_true imported kind d.0 d.4))

  pub plain_alone : {kind : Word} {ys : List Sym} (spelled : List ℕ) (at : ℕ) → may_end imported kind ≡ true → Lacks (RenamedRule imported) ys
      → Found (SpecRule imported true) InSpec (word kind spelled at ∷ ys) (spec_by spelled at None, is_name kind) ys
  plain_alone {kind = kind} {ys = ys} spelled at e l = record {
    front = word kind spelled at ∷ [];
    whole = refl;
    derives = alone_derives spelled at e;
    longest = λ a r us d w. elim (plain_cases r.1 d) [
      | inl p ↦
          let i : word kind spelled at ∷ ys ≡ word p.0 p.1 p.2 ∷ us = w ∙ ap (λ v. v ++ us) p.3 in
          let k : kind ≡ p.0 = cc in
          let s : spelled ≡ p.1 = cc in
          let o : at ≡ p.2 = cc in
          inl (named_as k s o refl ∙ sym p.5, cc)
      | inr q ↦
          let i : word kind spelled at ∷ ys ≡ word q.0 q.1 q.2 ∷ (q.3 ++ us) = w ∙ ap (λ v. v ++ us) q.5 in
          let j : ys ≡ q.3 ++ us = cc in
          absurd (l.none q.3 q.4 us q.6 j)
    ];
  }

  pub plain_renamed : {kind : Word} {of : Identifier} {ys zs : List Sym} (spelled : List ℕ) (at : ℕ) → Found (RenamedRule imported) Never ys of zs
      → Found (SpecRule imported true) InSpec (word kind spelled at ∷ ys) (spec_by spelled at (Some of), is_name kind) zs
  plain_renamed {kind = kind} {of = of} {ys = ys} {zs = zs} spelled at f = record {
    front = word kind spelled at ∷ f.front;
    whole = ap (λ v. word kind spelled at ∷ v) f.whole;
    derives = renamed_derives kind spelled at f.derives;
    longest = λ a r us d w. elim (plain_cases r.1 d) [
      | inl p ↦
          let i : word kind spelled at ∷ ys ≡ word p.0 p.1 p.2 ∷ us = w ∙ ap (λ v. v ++ us) p.3 in
          let j : ys ≡ us = cc in
          let q = f.derives in
          let k : ys ≡ word words.As q.1 q.2 ∷ word q.0 of.name of.at ∷ zs = f.whole ∙ ap (λ v. v ++ zs) q.3 in
          inr (omega (arith, ap length j, ap length k), starts_by InSpec (sym j ∙ k) refl)
      | inr q ↦
          let i : word kind spelled at ∷ ys ≡ word q.0 q.1 q.2 ∷ (q.3 ++ us) = w ∙ ap (λ v. v ++ us) q.5 in
          let j : ys ≡ q.3 ++ us = cc in
          let k : kind ≡ q.0 = cc in
          let s : spelled ≡ q.1 = cc in
          let o : at ≡ q.2 = cc in
          let z = exact f q.3 q.4 us q.6 j (never us) in
          inl (named_as k s o (ap Some z.0) ∙ sym q.7, z.1)
    ];
  }

  pub plain_lacks : {kind : Word} {ys : List Sym} (spelled : List ℕ) (at : ℕ) → may_end imported kind ≡ false → Lacks (RenamedRule imported) ys
      → Lacks (SpecRule imported true) (word kind spelled at ∷ ys)
  plain_lacks {kind = kind} {ys = ys} spelled at e l = record {
    none = λ a r us d w. elim (plain_cases r.1 d) [
      | inl p ↦
          let i : word kind spelled at ∷ ys ≡ word p.0 p.1 p.2 ∷ us = w ∙ ap (λ v. v ++ us) p.3 in
          let k : kind ≡ p.0 = cc in
          let n : false ≡ true = sym e ∙ ap (may_end imported) k ∙ p.4 in
          cc
      | inr q ↦
          let i : word kind spelled at ∷ ys ≡ word q.0 q.1 q.2 ∷ (q.3 ++ us) = w ∙ ap (λ v. v ++ us) q.5 in
          let j : ys ≡ q.3 ++ us = cc in
          l.none q.3 q.4 us q.6 j
    ];
  }

  -- ---- behind the modifier `type`

  pub modified_found : {ys zs : List Sym} {r : Named Spec} (spelled : List ℕ) (at : ℕ) → ((spelled : List ℕ) (at : ℕ) (zs : List Sym) → ys ≡ word words.As spelled at ∷ zs → ⊥)
      → Found (SpecRule imported true) InSpec ys r zs → Found (ModifiedRule imported) InSpec (word words.Type spelled at ∷ ys) (modified at r.0, r.1) zs
  modified_found {ys = ys} {zs = zs} {r = r} spelled at h f = record {
    front = word words.Type spelled at ∷ f.front;
    whole = ap (λ v. word words.Type spelled at ∷ v) f.whole;
    derives = (spelled, at, f.front, r.0, refl, no_as zs f.derives (λ s o vs e. h s o vs (f.whole ∙ e)), f.derives, refl);
    longest = λ a u us d w.
        let i : word words.Type spelled at ∷ ys ≡ word words.Type d.0 d.1 ∷ (d.2 ++ us) = w ∙ ap (λ v. v ++ us) d.4 in
        let j : ys ≡ d.2 ++ us = cc in
        let o : at ≡ d.1 = cc in
        elim (f.longest d.2 (d.3, u.1) us d.6 j) [
          | inl p ↦ inl (both (ap_both modified o (ap (λ (v : Named Spec). v.0) p.0) ∙ sym d.7) (ap (λ (v : Named Spec). v.1) p.0), p.1)
          | inr q ↦ inr q
        ];
  }

  pub modified_lacks : {ys : List Sym} (spelled : List ℕ) (at : ℕ) → Lacks (SpecRule imported true) ys → Lacks (ModifiedRule imported) (word words.Type spelled at ∷ ys)
  modified_lacks {ys = ys} spelled at l = record {
    none = λ a u us d w.
        let i : word words.Type spelled at ∷ ys ≡ word words.Type d.0 d.1 ∷ (d.2 ++ us) = w ∙ ap (λ v. v ++ us) d.4 in
        l.none d.2 (d.3, u.1) us d.6 cc;
  }

  pub modified_lacks_type : (xs : List Sym) → ((spelled : List ℕ) (at : ℕ) (zs : List Sym) → xs ≡ word words.Type spelled at ∷ zs → ⊥) → Lacks (ModifiedRule imported) xs
  modified_lacks_type xs h = record { none = λ a u us d w. h d.0 d.1 (d.2 ++ us) (w ∙ ap (λ v. v ++ us) d.4) }

  pub modified_lacks_as : (spelled : List ℕ) (at : ℕ) (as_spelled : List ℕ) (as_at : ℕ) (ys : List Sym)
      → Lacks (ModifiedRule imported) (word words.Type spelled at ∷ word words.As as_spelled as_at ∷ ys)
  modified_lacks_as spelled at as_spelled as_at ys = record {
    none = λ a u us d w.
        let b = spec_begins d.6 in
        let i : word words.Type spelled at ∷ word words.As as_spelled as_at ∷ ys ≡ word words.Type d.0 d.1 ∷ (d.2 ++ us) = w ∙ ap (λ v. v ++ us) d.4 in
        let j : d.2 ++ us ≡ word b.0 b.1 b.2 ∷ (b.3 ++ us) = ap (λ v. v ++ us) b.4 in
        let k : b.0 ≡ words.As = cc in
        let n : true ≡ false = sym (ap is_as k) ∙ sym (begins_of b.0 b.1 b.2 b.3 b.4) ∙ d.5 in
        cc;
  }

  -- ---- a Spec, with or without the modifier

  split : {a : List Sym} {u : Spec} (named : Bool) → IsSpec (local_of imported named) false a u → ModifiedRule imported a (u, named) ⊎ IsSpec (local_of imported named) true a u
  split named (plain_spec spelled at e) = inr (plain_spec spelled at e)
  split named (renamed_spec spelled at as_spelled as_at other_spelled other_at e) = inr (renamed_spec spelled at as_spelled as_at other_spelled other_at e)
  split named (type_spec {kind = kind} type_spelled type_at spelled at t n l) =
      inl (type_spelled, type_at, word kind spelled at ∷ [], spec_by spelled at None, refl, n, plain_spec spelled at l, refl)
  split named (renamed_type_spec {kind = kind} {other = other} type_spelled type_at spelled at as_spelled as_at other_spelled other_at t n l) =
      inl (
        type_spelled,
        type_at,
        word kind spelled at ∷ word words.As as_spelled as_at ∷ word other other_spelled other_at ∷ [],
        spec_by spelled at (Some (identifier other_spelled other_at)),
        refl,
        n,
        renamed_spec spelled at as_spelled as_at other_spelled other_at l,
        refl,
      )

  modified_derives : {a : List Sym} (r : Named Spec) → ModifiedRule imported a r → SpecRule imported false a r
  modified_derives r d =
      subst (λ v. IsSpec (local_of imported r.1) false v r.0) (sym d.4)
      (subst (λ (s : Spec). IsSpec (local_of imported r.1) false (word words.Type d.0 d.1 ∷ d.2) s) (sym d.7) (modify d.0 d.1 d.6 d.5))

  pub spec_modified : {xs ys : List Sym} {r : Named Spec} → Found (ModifiedRule imported) InSpec xs r ys → Found (SpecRule imported false) InSpec xs r ys
  spec_modified {xs = xs} {ys = ys} {r = r} f = record {
    front = f.front;
    whole = f.whole;
    derives = modified_derives r f.derives;
    longest = λ a u us d w. elim (split u.1 d) [
      | inl p ↦ f.longest a u us p w
      | inr p ↦
          let m = f.derives in
          let b = spec_begins m.6 in
          let i : xs ≡ word words.Type m.0 m.1 ∷ (m.2 ++ ys) = f.whole ∙ ap (λ v. v ++ ys) m.4 in
          let j : m.2 ++ ys ≡ word b.0 b.1 b.2 ∷ (b.3 ++ ys) = ap (λ v. v ++ ys) b.4 in
          elim (plain_cases u.1 p) [
            | inl q ↦
                let k : xs ≡ word q.0 q.1 q.2 ∷ us = w ∙ ap (λ v. v ++ us) q.3 in
                let l : us ≡ word b.0 b.1 b.2 ∷ (b.3 ++ ys) = cc in
                inr (omega (arith, ap length l, length-append b.3 ys), starts_by InSpec l refl)
            | inr q ↦
                let t = q.6 in
                let k : xs ≡ word q.0 q.1 q.2 ∷ (q.3 ++ us) = w ∙ ap (λ v. v ++ us) q.5 in
                let l : q.3 ++ us ≡ word words.As t.1 t.2 ∷ word t.0 q.4.name q.4.at ∷ us = ap (λ v. v ++ us) t.3 in
                let z : b.0 ≡ words.As = cc in
                let n : true ≡ false = sym (ap is_as z) ∙ sym (begins_of b.0 b.1 b.2 b.3 b.4) ∙ m.5 in
                absurd cc
          ]
    ];
  }

  pub spec_plain : {xs ys : List Sym} {r : Named Spec} → Lacks (ModifiedRule imported) xs → Found (SpecRule imported true) InSpec xs r ys → Found (SpecRule imported false) InSpec xs r ys
  spec_plain l f = record {
    front = f.front;
    whole = f.whole;
    derives = free f.derives;
    longest = λ a u us d w. elim (split u.1 d) [
      | inl p ↦ absurd (l.none a u us p w)
      | inr p ↦ f.longest a u us p w
    ];
  }

  pub spec_lacks : {xs : List Sym} → Lacks (ModifiedRule imported) xs → Lacks (SpecRule imported true) xs → Lacks (SpecRule imported false) xs
  spec_lacks l n = record {
    none = λ a u us d w. elim (split u.1 d) [
      | inl p ↦ l.none a u us p w
      | inr p ↦ n.none a u us p w
    ];
  }

  pub spec_from_modified : {xs ys : List Sym} {r : Named Spec} (type_only : Bool) → type_only ≡ false → Found (ModifiedRule imported) InSpec xs r ys → Found (SpecRule imported type_only) InSpec xs r ys
  spec_from_modified {xs = xs} {ys = ys} {r = r} type_only e f = subst (λ (t : Bool). Found (SpecRule imported t) InSpec xs r ys) (sym e) (spec_modified f)

  -- what is read where no modifier stands
  pub spec_reads : (type_only : Bool) (r : Reader) (at : ℕ) (o : Option (Part (Named Spec))) → type_only ≡ false → Lacks (ModifiedRule imported) (rest r at)
      → ReadsPart (SpecRule imported true) InSpec r at o → ReadsPart (SpecRule imported type_only) InSpec r at o
  spec_reads type_only r at o e l h = subst (λ (t : Bool). ReadsPart (SpecRule imported t) InSpec r at o) (sym e) (go o h)
    where
      go : (o : Option (Part (Named Spec))) → ReadsPart (SpecRule imported true) InSpec r at o → ReadsPart (SpecRule imported false) InSpec r at o
      go None n = spec_lacks l n
      go (Some x) f = (f.0, spec_plain l f.1)
