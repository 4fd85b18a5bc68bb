-- What a field or a method begins with: a modifier is one exactly where a word follows it.
use Rattle.std.proofs.Common.{◌≡◌, ℕ, ◌+◌, ◌≤◌, ◌<◌, Bool, true, false, List, [], ◌∷◌, ◌++◌, length, refl, sym, ◌∙◌, ap, subst, inl, inr, arith, append_assoc, length-append}
use Rattle.tb_tree.specs.declared.words.Word.{Word}
use Rattle.tb_tree.specs.declared.words.Word.TheVariants as w
use Rattle.tb_tree.specs.declared.words.Class.TheVariants as c
use Rattle.tb_tree.specs.Sym.{Sym, Mark, Lex}
use Rattle.tb_tree.specs.Shapes.{word, IsWorded, unworded, worded}
use Rattle.tb_tree.specs.Longest.{Found, Lacks, Ends, Starts}
use Rattle.tb_tree.proofs.Ends.{shorter, both}
use Rattle.tb_parse_type.specs.Rules.{Then}
use Rattle.tb_parse_file.specs.Classes.{WordRule, HeadRule, Head, InHead, IsModified}

-- ---- the word

pub word_found : (k : Word) (s : List ℕ) (o : ℕ) {xs ys : List Sym} → xs ≡ word k s o ∷ ys → Found WordRule InHead xs (k, s, o) ys
word_found k s o {ys = ys} e = record {
  front = word k s o ∷ [];
  whole = e;
  derives = refl;
  longest = λ a x us d v. go x us (sym e ∙ v ∙ ap (λ u. u ++ us) d);
}
  where
    go : (x : Word × List ℕ × ℕ) (us : List Sym) → word k s o ∷ ys ≡ word x.0 x.1 x.2 ∷ us → Ends {X = Word × List ℕ × ℕ} InHead (k, s, o) ys x us
    go (i, t, p) us v = inl (cc, cc)

word_begins : (a : List Sym) (x : Word × List ℕ × ℕ) (us : List Sym) → WordRule a x → Starts InHead (a ++ us)
word_begins a x us d = subst (λ v. Starts InHead (v ++ us)) (sym d) refl

-- ---- a modifier, and what stands behind it

-- what D derives begins with a word, and where that is of a kind, it is the whole
pub record IsNamed {X : Type 0} (kind : Word) (D : List Sym → X → Type 0) : Type 0 where
  pub begins : (a : List Sym) (x : X) (us : List Sym) → D a x → Starts InHead (a ++ us)
  pub alone : (a : List Sym) (x : X) (us : List Sym) (s : List ℕ) (o : ℕ) (ys : List Sym) → D a x → word kind s o ∷ ys ≡ a ++ us → ys ≡ us

no_start : Starts InHead [] → ⊥
no_start h = h

module _ {X : Type 0} {kind : Word} {D : List Sym → X → Type 0} (named : IsNamed kind D) where
  -- what D derives is not empty
  long : (a : List Sym) (x : X) → D a x → 1 ≤ length a
  long [] x d = absurd (no_start (named.begins [] x [] d))
  long (s ∷ a) x d = omega arith

  pub modifier_found : {b : Bool} {xs ys zs : List Sym} {x : X} → IsModified kind xs b ys → Found D InHead ys x zs → Found (Then (IsWorded kind) D) InHead xs (b, x) zs
  modifier_found {b = false} {xs = xs} {ys = ys} {zs = zs} {x = x} m f = record {
    front = f.front;
    whole = m.0 ∙ f.whole;
    derives = ([], f.front, refl, unworded, f.derives);
    longest = λ a r us d v. go r.0 r.1 d.0 d.1 us d.3 d.4 (v ∙ ap (λ u. u ++ us) d.2 ∙ append_assoc d.0 d.1 us);
  }
    where
      go : (c : Bool) (y : X) (p q us : List Sym) → IsWorded kind p c → D q y → xs ≡ p ++ (q ++ us) → Ends {X = Bool × X} InHead (false, x) zs (c, y) us
      go c y p q us unworded d v = elim (f.longest q y us d (sym m.0 ∙ v)) [
        | inl e ↦ inl (both refl e.0, e.1)
        | inr e ↦ inr e
      ]
      go c y p q us (worded s o) d v = absurd (m.1 s o (q ++ us) v (named.begins q y us d))
  modifier_found {b = true} {xs = xs} {ys = ys} {zs = zs} {x = x} m f = record {
    front = word kind m.0 m.1 ∷ f.front;
    whole = m.2 ∙ ap (λ u. word kind m.0 m.1 ∷ u) f.whole;
    derives = (word kind m.0 m.1 ∷ [], f.front, refl, worded m.0 m.1, f.derives);
    longest = λ a r us d v. go r.0 r.1 d.0 d.1 us d.3 d.4 (v ∙ ap (λ u. u ++ us) d.2 ∙ append_assoc d.0 d.1 us);
  }
    where
      go : (c : Bool) (y : X) (p q us : List Sym) → IsWorded kind p c → D q y → xs ≡ p ++ (q ++ us) → Ends {X = Bool × X} InHead (true, x) zs (c, y) us
      go c y p q us unworded d v =
          let e = named.alone q y us m.0 m.1 ys d (sym m.2 ∙ v) in
          inr (omega (arith, long f.front x f.derives, ap length f.whole, length-append f.front zs, ap length e), subst (λ u. Starts InHead u) e m.3)
      go c y p q us (worded s o) d v =
          let e : word kind m.0 m.1 ∷ ys ≡ word kind s o ∷ (q ++ us) = sym m.2 ∙ v in
          let i : ys ≡ q ++ us = cc in
          elim (f.longest q y us d i) [
            | inl e ↦ inl (both refl e.0, e.1)
            | inr e ↦ inr e
          ]

  then_begins : (a : List Sym) (x : Bool × X) (us : List Sym) → Then (IsWorded kind) D a x → Starts InHead (a ++ us)
  then_begins a x us d = subst (λ v. Starts InHead v) (sym (ap (λ v. v ++ us) d.2 ∙ append_assoc d.0 d.1 us)) (go d.0 d.1 d.3 d.4)
    where
      go : (p q : List Sym) → IsWorded kind p x.0 → D q x.1 → Starts InHead (p ++ (q ++ us))
      go p q i d = begins p q x.0 x.1 i d
        where
          begins : (p q : List Sym) (c : Bool) (y : X) → IsWorded kind p c → D q y → Starts InHead (p ++ (q ++ us))
          begins p q c y unworded d = named.begins q y us d
          begins p q c y (worded s o) d = refl

-- ---- a head

word_named : (kind : Word) → IsNamed kind WordRule
word_named kind = record {
  begins = word_begins;
  alone = λ a x us s o ys d v. let e : word kind s o ∷ ys ≡ word x.0 x.1 x.2 ∷ us = v ∙ ap (λ u. u ++ us) d in cc;
}

read_only_named : IsNamed w.Static (Then (IsWorded w.Readonly) WordRule)
read_only_named = record {
  begins = then_begins (word_named w.Readonly);
  alone = λ a x us s o ys d v. go x.0 x.1 d.0 d.1 us s o ys d.3 d.4 (v ∙ ap (λ u. u ++ us) d.2 ∙ append_assoc d.0 d.1 us);
}
  where
    go : (c : Bool) (y : Word × List ℕ × ℕ) (p q us : List Sym) (s : List ℕ) (o : ℕ) (ys : List Sym) → IsWorded w.Readonly p c → WordRule q y → word w.Static s o ∷ ys ≡ p ++ (q ++ us) → ys ≡ us
    go c y p q us s o ys unworded d v = let e : word w.Static s o ∷ ys ≡ word y.0 y.1 y.2 ∷ us = v ∙ ap (λ u. u ++ us) d in cc
    go c y p q us s o ys (worded t i) d v = absurd (cc)

pub head_found : {b c : Bool} {xs zs vs : List Sym} (ys : List Sym) (k : Word) (s : List ℕ) (o : ℕ) → IsModified w.Static xs b ys → IsModified w.Readonly ys c zs → zs ≡ word k s o ∷ vs
    → Found HeadRule InHead xs (b, (c, (k, s, o))) vs
head_found ys k s o m n e = modifier_found read_only_named m (modifier_found (word_named w.Readonly) n (word_found k s o e))

pub head_begins : (a : List Sym) (h : Head) (us : List Sym) → HeadRule a h → Starts InHead (a ++ us)
head_begins = then_begins read_only_named

pub no_word : (zs : List Sym) → ((k : Word) (s : List ℕ) (o : ℕ) (vs : List Sym) → zs ≡ word k s o ∷ vs → ⊥) → Starts InHead zs → ⊥
no_word [] h s = s
no_word (Lex (c.Word k) t o ∷ vs) h s = h k t o vs refl
no_word (Lex c.Number t o ∷ vs) h s = let n : false ≡ true = s in cc
no_word (Lex c.String t o ∷ vs) h s = let n : false ≡ true = s in cc
no_word (Lex (c.Template p) t o ∷ vs) h s = let n : false ≡ true = s in cc
no_word (Lex c.Bad t o ∷ vs) h s = let n : false ≡ true = s in cc
no_word (Mark m o ∷ vs) h s = let n : false ≡ true = s in cc

unmodified : (kind : Word) (xs ys : List Sym) (b : Bool) → IsModified kind xs b ys → (Starts InHead ys → ⊥) → xs ≡ ys
unmodified kind xs ys false m h = m.0
unmodified kind xs ys true m h = absurd (h m.3)

pub head_lacks : (b c : Bool) (xs ys zs : List Sym) → IsModified w.Static xs b ys → IsModified w.Readonly ys c zs → ((k : Word) (s : List ℕ) (o : ℕ) (vs : List Sym) → zs ≡ word k s o ∷ vs → ⊥) → Lacks HeadRule xs
head_lacks b c xs ys zs m n h =
    let k = no_word zs h in
    let e : ys ≡ zs = unmodified w.Readonly ys zs c n k in
    let i : xs ≡ ys = unmodified w.Static xs ys b m (λ s. k (subst (λ v. Starts InHead v) e s)) in
    record { none = λ a x us d v. k (subst (λ v. Starts InHead v) (sym v ∙ i ∙ e) (head_begins a x us d)) }
