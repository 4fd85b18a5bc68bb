-- Aliases.
use Rattle.std.proofs.Common.{◌≡◌, ℕ, ◌+◌, ◌≤◌, true, false, List, [], ◌∷◌, ◌++◌, refl, ◌∙◌, ap, arith, append_assoc}
use Rattle.tb_tree.specs.declared.marks.Mark.TheVariants as m
use Rattle.tb_tree.specs.declared.words.Word.{Word}
use Rattle.tb_tree.specs.declared.words.Word.TheVariants as words
use Rattle.tb_tree.specs.declared.types.TypeExpr.{TypeExpr}
use Rattle.tb_tree.specs.declared.exprs.Identifier.{Identifier}
use Rattle.tb_tree.specs.declared.items.Alias.{Alias}
use Rattle.tb_tree.specs.Sym.{Sym, Mark}
use Rattle.tb_tree.specs.Words.{is_type_name}
use Rattle.tb_tree.specs.Longest.{Found, Lacks, Never}
use Rattle.tb_tree.specs.Shapes.{word, max_depth}
use Rattle.tb_tree.specs.Items.{IsAlias, alias}
use Rattle.tb_tree.proofs.Ends.{both, ap_both}
use Rattle.tb_parse_type.specs.declared.reader.Reader.{Reader}
use Rattle.tb_parse_type.specs.Reading.{rest}
use Rattle.tb_parse_type.specs.Rules.{Counted, limits, TypeUpto, InType}
use Rattle.tb_parse_body.specs.Rules.{Deep}
use Rattle.tb_parse_body.proofs.Enclosed.{Encloses, enclosed_found, enclosed_lacks, enclosed_lacks_close}
use Rattle.tb_parse_file.specs.Rules.{AliasUpto}
use Rattle.tb_parse_file.proofs.PartReadings.{two_at}

abbrev pub alias_of : ℕ → List ℕ → TypeExpr → Alias
alias_of at name shape = record { at = at; name = name; variables = []; shape = shape }

pub same_alias : {o at d : ℕ} {t s : List ℕ} {vs : List Identifier} (shape : TypeExpr) → o ≡ at → t ≡ s → vs ≡ []
    → ◌≡◌ {A = Deep Alias} (record { at = o; name = t; variables = vs; shape = shape }, d) (alias_of at s shape, d)
same_alias {at = at} {d = d} {t = t} {s = s} {vs = vs} shape e h i =
    ap (λ (x : ℕ). let y : Deep Alias = (record { at = x; name = t; variables = vs; shape = shape }, d) in y) e
    ∙ ap (λ (x : List ℕ). let y : Deep Alias = (record { at = at; name = x; variables = vs; shape = shape }, d) in y) h
    ∙ ap (λ (x : List Identifier). let y : Deep Alias = (record { at = at; name = s; variables = x; shape = shape }, d) in y) i

abbrev made : ℕ → List ℕ → Counted TypeExpr → Deep Alias
made at name r = (alias_of at name r.0, r.2)

abbrev head : Word → List ℕ → ℕ → List ℕ → ℕ → ℕ → List Sym
head k s o t p q = word words.Type s o ∷ word k t p ∷ Mark m.Assign q ∷ []

alias_back : (n : ℕ) (k : Word) (s : List ℕ) (o : ℕ) (t : List ℕ) (p q : ℕ) (xs : List Sym) → Encloses m.Semicolon (made p t) (TypeUpto (limits max_depth n)) (AliasUpto n) (head k s o t p q) xs
alias_back n k s o t p q xs a u us d w = go us d.0 d.1 w
  where
    go : {a : List Sym} {u : Alias} {e : ℕ} (us : List Sym) → IsAlias a u e → e ≤ n → word words.Type s o ∷ word k t p ∷ Mark m.Assign q ∷ xs ≡ a ++ us
        → (b : List Sym) × (r : Counted TypeExpr) × (c : ℕ) × (xs ≡ b ++ (Mark m.Semicolon c ∷ us)) × TypeUpto (limits max_depth n) b r × (made p t r ≡ (u, e))
    go us (alias s' o' t' p' q' c {xs = b} {of = of} {own = own} {depth = depth} i x h) fit v =
        let behind : xs ≡ (b ++ Mark m.Semicolon c ∷ []) ++ us = cc in
        let name : t ≡ t' = cc in
        let place : p ≡ p' = cc in
        (b, (of, own, depth), c, behind ∙ append_assoc b (Mark m.Semicolon c ∷ []) us, (x, (h, fit)), both (ap_both (λ (x : ℕ) (y : List ℕ). alias_of x y of) place name) refl)

type_end : (at : ℕ) → InType (Mark m.Semicolon at) → ⊥
type_end at h = let n : false ≡ true = h in cc

pub alias_found : {r : Counted TypeExpr} {xs ys : List Sym} (n : ℕ) (k : Word) (s : List ℕ) (o : ℕ) (t : List ℕ) (p q c : ℕ) → is_type_name k ≡ true
    → Found (TypeUpto (limits max_depth n)) InType xs r (Mark m.Semicolon c ∷ ys) → Found (AliasUpto n) Never (word words.Type s o ∷ word k t p ∷ Mark m.Assign q ∷ xs) (alias_of p t r.0, r.2) ys
alias_found {xs = xs} {ys = ys} n k s o t p q c h f =
    enclosed_found m.Semicolon (made p t) (head k s o t p q) c ys type_end (λ b d. (alias s o t p q c h d.0 d.1.0, d.1.1)) (alias_back n k s o t p q xs) f

pub alias_lacks_type : {xs : List Sym} (n : ℕ) (k : Word) (s : List ℕ) (o : ℕ) (t : List ℕ) (p q : ℕ) → Lacks (TypeUpto (limits max_depth n)) xs
    → Lacks (AliasUpto n) (word words.Type s o ∷ word k t p ∷ Mark m.Assign q ∷ xs)
alias_lacks_type {xs = xs} n k s o t p q f = enclosed_lacks m.Semicolon (made p t) (head k s o t p q) (alias_back n k s o t p q xs) f

pub alias_lacks_semicolon : {r : Counted TypeExpr} {xs ys : List Sym} (n : ℕ) (k : Word) (s : List ℕ) (o : ℕ) (t : List ℕ) (p q : ℕ) → Found (TypeUpto (limits max_depth n)) InType xs r ys
    → ((c : ℕ) (zs : List Sym) → ys ≡ Mark m.Semicolon c ∷ zs → ⊥) → Lacks (AliasUpto n) (word words.Type s o ∷ word k t p ∷ Mark m.Assign q ∷ xs)
alias_lacks_semicolon {xs = xs} n k s o t p q f h = enclosed_lacks_close m.Semicolon (made p t) (head k s o t p q) type_end (alias_back n k s o t p q xs) f h

pub alias_lacks_assign : (n : ℕ) (k : Word) (s : List ℕ) (o : ℕ) (t : List ℕ) (p : ℕ) (xs : List Sym) → ((q : ℕ) (zs : List Sym) → xs ≡ Mark m.Assign q ∷ zs → ⊥)
    → Lacks (AliasUpto n) (word words.Type s o ∷ word k t p ∷ xs)
alias_lacks_assign n k s o t p xs h = record { none = λ a u us d w. go us d.0 w }
  where
    go : {a : List Sym} {u : Alias} {e : ℕ} (us : List Sym) → IsAlias a u e → word words.Type s o ∷ word k t p ∷ xs ≡ a ++ us → ⊥
    go us (alias s' o' t' p' q c {xs = b} i x j) v = h q (b ++ Mark m.Semicolon c ∷ [] ++ us) cc

pub alias_lacks_name : (n : ℕ) (s : List ℕ) (o : ℕ) (xs : List Sym) → ((k : Word) (t : List ℕ) (p : ℕ) → is_type_name k ≡ true → (zs : List Sym) → xs ≡ word k t p ∷ zs → ⊥)
    → Lacks (AliasUpto n) (word words.Type s o ∷ xs)
alias_lacks_name n s o xs h = record { none = λ a u us d w. go us d.0 w }
  where
    go : {a : List Sym} {u : Alias} {e : ℕ} (us : List Sym) → IsAlias a u e → word words.Type s o ∷ xs ≡ a ++ us → ⊥
    go us (alias {kind = k} s' o' t p q c {xs = b} i x j) v = h k t p i (Mark m.Assign q ∷ b ++ Mark m.Semicolon c ∷ [] ++ us) cc

pub alias_lacks_word : (n : ℕ) (xs : List Sym) → ((s : List ℕ) (o : ℕ) (zs : List Sym) → xs ≡ word words.Type s o ∷ zs → ⊥) → Lacks (AliasUpto n) xs
alias_lacks_word n xs h = record { none = λ a u us d w. go us d.0 w }
  where
    go : {a : List Sym} {u : Alias} {e : ℕ} (us : List Sym) → IsAlias a u e → xs ≡ a ++ us → ⊥
    go us (alias {kind = k} s o t p q c {xs = b} i x j) v = h s o (word k t p ∷ Mark m.Assign q ∷ b ++ Mark m.Semicolon c ∷ [] ++ us) v

-- ---- three symbols that follow one another

pub three_at : (r : Reader) (at : ℕ) {s t u : Sym} → rest r at ≡ s ∷ rest r (at + 1) → rest r (at + 1) ≡ t ∷ rest r (at + 1 + 1) → rest r (at + 2) ≡ u ∷ rest r (at + 2 + 1)
    → rest r at ≡ s ∷ t ∷ u ∷ rest r (at + 3)
three_at r at {s = s} {t = t} {u = u} e i j =
    let p : at + 2 + 1 ≡ at + 3 = omega arith in
    two_at r at e i ∙ ap (λ v. s ∷ t ∷ v) (j ∙ ap (λ n. u ∷ rest r n) p)
