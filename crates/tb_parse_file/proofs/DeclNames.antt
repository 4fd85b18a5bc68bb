-- A word, a word that names, and what stands behind: variables, functions and classes.
use Rattle.std.proofs.Common.{◌≡◌, ℕ, true, false, List, [], ◌∷◌, ◌++◌, refl, sym, ◌∙◌, ap, subst, inl, inr}
use Rattle.std.specs.Prelude.{Option, Some, None}
use Rattle.tb_tree.specs.declared.words.Word.{Word}
use Rattle.tb_tree.specs.declared.words.Word.TheVariants as words
use Rattle.tb_tree.specs.declared.types.TypeExpr.{TypeExpr}
use Rattle.tb_tree.specs.declared.types.TypeParam.{TypeParam}
use Rattle.tb_tree.specs.declared.exprs.VarKind.{VarKind}
use Rattle.tb_tree.specs.declared.exprs.Identifier.{Identifier}
use Rattle.tb_tree.specs.declared.items.Base.{Base}
use Rattle.tb_tree.specs.declared.items.Declared.{Declared}
use Rattle.tb_tree.specs.declared.items.Declared.TheVariants as declared
use Rattle.tb_tree.specs.declared.items.DeclaredClass.{DeclaredClass}
use Rattle.tb_tree.specs.declared.items.DeclaredMember.{DeclaredMember}
use Rattle.tb_tree.specs.Sym.{Sym}
use Rattle.tb_tree.specs.Shapes.{word}
use Rattle.tb_tree.specs.Exprs.{kind_of}
use Rattle.tb_tree.specs.Longest.{Found, Lacks, Starts, Never}
use Rattle.tb_tree.proofs.Ends.{ap_both}
use Rattle.tb_parse_type.specs.Rules.{Then}
use Rattle.tb_parse_body.proofs.FirstSymbols.{Apart, then_found, then_lacks_second}
use Rattle.tb_parse_file.specs.Rules.{BasesRule, InBases}
use Rattle.tb_parse_file.specs.DeclRules.{NamedRule, IsKind, kind_by, IsFirst, BracedMembersRule}

-- ---- the rule

inside : {k k' n n' : Word} {ks ks' s s' : List ℕ} {ka ka' at at' : ℕ} {vs ws : List Sym} → word k ks ka ∷ word n s at ∷ vs ≡ word k' ks' ka' ∷ word n' s' at' ∷ ws
    → (k ≡ k') × (s ≡ s') × (at ≡ at') × (vs ≡ ws)
inside e = (cc, cc, cc, cc)

behind : {k k' : Word} {ks ks' : List ℕ} {ka ka' : ℕ} {vs ws : List Sym} → word k ks ka ∷ vs ≡ word k' ks' ka' ∷ ws → vs ≡ ws
behind e = cc

module _ {X Y : Type 0} (P Q : Word → Type 0) (make : Word → List ℕ → ℕ → X → Y) (D : List Sym → X → Type 0) where
  pub named_found : {C : Sym → Type 0} {ys zs : List Sym} {x : X} (k : Word) (ks : List ℕ) (ka : ℕ) (n : Word) (s : List ℕ) (at : ℕ) → P k → Q n → Found D C ys x zs
      → Found (NamedRule P Q make D) C (word k ks ka ∷ word n s at ∷ ys) (make k s at x) zs
  named_found {x = x} k ks ka n s at p q f = record {
    front = word k ks ka ∷ word n s at ∷ f.front;
    whole = ap (λ v. word k ks ka ∷ word n s at ∷ v) f.whole;
    derives = (k, ks, ka, n, s, at, f.front, x, refl, p, q, f.derives, refl);
    longest = λ a u us d w.
        let e = inside (w ∙ ap (λ v. v ++ us) d.8) in
        elim (f.longest d.6 d.7 us d.11 e.3) [
          | inl o ↦ inl (
            ap (λ (v : Word). make v s at x) e.0 ∙ ap (λ (v : List ℕ). make d.0 v at x) e.1 ∙ ap (λ (v : ℕ). make d.0 d.4 v x) e.2 ∙ ap (λ (v : X). make d.0 d.4 d.5 v) o.0 ∙ d.12,
            o.1,
          )
          | inr o ↦ inr o
        ];
  }

  pub named_lacks : {ys : List Sym} (k : Word) (ks : List ℕ) (ka : ℕ) (n : Word) (s : List ℕ) (at : ℕ) → Lacks D ys → Lacks (NamedRule P Q make D) (word k ks ka ∷ word n s at ∷ ys)
  named_lacks k ks ka n s at f = record { none = λ a u us d w. let e = inside (w ∙ ap (λ v. v ++ us) d.8) in f.none d.6 d.7 us d.11 e.3 }

  pub named_lacks_first : (xs : List Sym) → ((k : Word) (ks : List ℕ) (ka : ℕ) (zs : List Sym) → P k → xs ≡ word k ks ka ∷ zs → ⊥) → Lacks (NamedRule P Q make D) xs
  named_lacks_first xs h = record { none = λ a u us d w. h d.0 d.1 d.2 (word d.3 d.4 d.5 ∷ (d.6 ++ us)) d.9 (w ∙ ap (λ v. v ++ us) d.8) }

  pub named_lacks_name : (k : Word) (ks : List ℕ) (ka : ℕ) (xs : List Sym) → ((n : Word) (s : List ℕ) (at : ℕ) → Q n → (zs : List Sym) → xs ≡ word n s at ∷ zs → ⊥)
      → Lacks (NamedRule P Q make D) (word k ks ka ∷ xs)
  named_lacks_name k ks ka xs h = record { none = λ a u us d w. h d.3 d.4 d.5 d.10 (d.6 ++ us) (behind (w ∙ ap (λ v. v ++ us) d.8)) }

-- ---- the first word

pub not_first : (kind : Word) (xs : List Sym) → ((s : List ℕ) (o : ℕ) (zs : List Sym) → xs ≡ word kind s o ∷ zs → ⊥) → (k : Word) (ks : List ℕ) (ka : ℕ) (zs : List Sym) → IsFirst kind k → xs ≡ word k ks ka ∷ zs → ⊥
not_first kind xs h k ks ka zs p e = h ks ka zs (e ∙ ap (λ (v : Word). word v ks ka ∷ zs) p)

pub no_kind : (xs : List Sym) → ((k : Word) (s : List ℕ) (o : ℕ) (zs : List Sym) → xs ≡ word k s o ∷ zs → ⊥) → (k : Word) (ks : List ℕ) (ka : ℕ) (zs : List Sym) → IsKind k → xs ≡ word k ks ka ∷ zs → ⊥
no_kind xs h k ks ka zs p e = h k ks ka zs e

same_word : {k k' : Word} {s s' : List ℕ} {o o' : ℕ} {vs ws : List Sym} → word k s o ∷ vs ≡ word k' s' o' ∷ ws → k ≡ k'
same_word e = cc

-- a word that is neither `const` nor `let`
pub other_kind : {xs vs : List Sym} (word_kind : Word) (s : List ℕ) (o : ℕ) → xs ≡ word word_kind s o ∷ vs → None ≡ kind_of word_kind → (k : Word) (ks : List ℕ) (ka : ℕ) (zs : List Sym) → IsKind k
    → xs ≡ word k ks ka ∷ zs → ⊥
other_kind word_kind s o e n k ks ka zs p i =
    let same : word_kind ≡ k = same_word (sym e ∙ i) in
    let none : ◌≡◌ {A = Option VarKind} None (Some p.0) = n ∙ ap kind_of same ∙ p.1 in
    cc

-- ---- the trees that are made

pub same_variable : {at at' : ℕ} {s s' : List ℕ} {kind : VarKind} (word_kind : Word) (t : TypeExpr) → at ≡ at' → s ≡ s' → Some kind ≡ kind_of word_kind
    → ◌≡◌ {A = Declared} (declared.Variable at kind s t) (declared.Variable at' (kind_by (kind_of word_kind)) s' t)
same_variable {at' = at'} {s' = s'} {kind = kind} word_kind t p q i =
    ap_both (λ (x : ℕ) (y : List ℕ). declared.Variable x kind y t) p q ∙ ap (λ (v : Option VarKind). declared.Variable at' (kind_by v) s' t) i

pub same_function : {at at' : ℕ} {s s' : List ℕ} {vs : List Identifier} (ps : List TypeParam) (t : TypeExpr) → at ≡ at' → s ≡ s' → vs ≡ []
    → ◌≡◌ {A = Declared} (declared.Function at s vs ps t) (declared.Function at' s' [] ps t)
same_function {at' = at'} {s' = s'} {vs = vs} ps t p q i =
    ap_both (λ (x : ℕ) (y : List ℕ). declared.Function x y vs ps t) p q ∙ ap (λ (v : List Identifier). declared.Function at' s' v ps t) i

pub same_class : {at at' : ℕ} {s s' : List ℕ} (bases : List Base) (members : List DeclaredMember) → at ≡ at' → s ≡ s'
    → ◌≡◌ {A = DeclaredClass} (record { at = at; name = s; implements = bases; members = members }) (record { at = at'; name = s'; implements = bases; members = members })
same_class bases members p q = ap_both (λ (x : ℕ) (y : List ℕ). let c : DeclaredClass = record { at = x; name = y; implements = bases; members = members } in c) p q

-- ---- what stands behind the name of a class

braced_apart : Apart InBases BracedMembersRule
braced_apart b y us d s =
    let e : true ≡ false = subst (λ v. Starts InBases v) (ap (λ v. v ++ us) d.3) s in
    cc

pub class_rest_found : {xs ys zs : List Sym} {bases : List Base} {of : List DeclaredMember} → Found (BasesRule words.Implements) InBases xs bases ys → Found BracedMembersRule Never ys of zs
    → Found (Then (BasesRule words.Implements) BracedMembersRule) Never xs (bases, of) zs
class_rest_found f k = then_found braced_apart f k

pub class_rest_lacks : {xs ys : List Sym} {bases : List Base} → Found (BasesRule words.Implements) InBases xs bases ys → Lacks BracedMembersRule ys → Lacks (Then (BasesRule words.Implements) BracedMembersRule) xs
class_rest_lacks f k = then_lacks_second braced_apart f k
