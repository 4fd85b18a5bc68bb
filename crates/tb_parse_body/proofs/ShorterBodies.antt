-- Bodies behind a type that ends earlier than the longest one does.
use Rattle.std.proofs.Common.{◌≡◌, ◌≢◌, ℕ, suc, ◌+◌, ◌-◌, ◌≤◌, ◌<◌, max, true, List, [], ◌∷◌, ◌++◌, length, take, drop, refl, sym, ◌∙◌, ap, subst, inl, inr, arith, append_assoc, length-append, append-nil, length-drop, length-take}
use Rattle.std.specs.Prelude.{Option, Some, None}
use Rattle.std.proofs.lemmas.List.{append_cancel_right, map-append, length-map, take-append-drop, drop-append-le}
use Rattle.std.proofs.lemmas.Bool.{cases_order, cases_lt}
use Rattle.tb_tree.specs.declared.marks.Mark.TheVariants as m
use Rattle.tb_tree.specs.declared.words.Word.TheVariants as w
use Rattle.tb_tree.specs.declared.types.TypeExpr.{TypeExpr}
use Rattle.tb_tree.specs.declared.exprs.Block.{Block}
use Rattle.tb_tree.specs.Sym.{Sym, Mark}
use Rattle.tb_tree.specs.Shapes.{word}
use Rattle.tb_tree.specs.Longest.{Found, Lacks, Ends, Starts, Never}
use Rattle.tb_tree.specs.Exprs as g
use Rattle.tb_tree.proofs.Ends.{found_left, exact, never, both, starts_by}
use Rattle.tb_scan.specs.declared.token.Token.{Token}
use Rattle.tb_parse_type.specs.Symbols.{symbols, seen}
use Rattle.tb_parse_type.specs.declared.reader.Reader.{Reader}
use Rattle.tb_parse_type.specs.Reading.{rest, FoundAt}
use Rattle.tb_parse_type.specs.Rules.{InType}
use Rattle.tb_parse_body.specs.declared.fronts.Front.{Front}
use Rattle.tb_parse_body.specs.Reading.{Reads}
use Rattle.tb_parse_body.specs.Rules.{Deep, ShapeUpto, AnnotationUpto, BlockUpto, BodyUpto, InAnnotation, InBody}
use Rattle.tb_parse_body.specs.Bodies.{CountedUpto, ShorterUpto, OnlyShorter}
use Rattle.tb_parse_body.proofs.Functions.{block_group, annotation_behind, body_behind, BehindBody, same_left}

-- ---- what an answer says

pub lacking : {X : Type 0} (D : List Sym → Deep X → Type 0) (C : Sym → Type 0) (r : Reader) (at : ℕ) (o : Option (Front X)) → o ≡ None → Reads D C r at o → Lacks D (rest r at)
lacking D C r at o e h = subst (λ v. Reads D C r at v) e h

pub reading : {X : Type 0} (D : List Sym → Deep X → Type 0) (C : Sym → Type 0) (r : Reader) (at : ℕ) (o : Option (Front X)) (x : Front X) → o ≡ Some x → Reads D C r at o
    → FoundAt D C r at (x.tree, x.depth) x.next
reading D C r at o x e h = subst (λ v. Reads D C r at v) e h

-- ---- lists that are cut

-- two fronts of one list with as many symbols are the same
same_front : (a b zs ws : List Sym) → a ++ zs ≡ b ++ ws → length a ≡ length b → (a ≡ b) × (zs ≡ ws)
same_front a b zs ws e h = same_left a b zs ws e (omega (arith, h, ap length e, length-append a zs, length-append b ws))

-- the symbols before a place, and those from there on
pub cut_at : (text : List ℕ) (ts : List Token) (at end : ℕ) → at ≤ end → end ≤ length ts
    → symbols text (drop at ts) ≡ symbols text (drop at (take end ts)) ++ symbols text (drop end ts)
cut_at text ts at end h k =
    let n : at ≤ length (take end ts) = simp length-take (omega arith) in
    ap (λ v. symbols text (drop at v)) (sym (take-append-drop end ts)) ∙ ap (symbols text) (drop-append-le at (take end ts) (drop end ts) n)
    ∙ map-append (seen text) (drop at (take end ts)) (drop end ts)

pub cut_length : (text : List ℕ) (ts : List Token) (at end : ℕ) → end ≤ length ts → length (symbols text (drop at (take end ts))) ≡ end - at
cut_length text ts at end k = simp (length-map, length-drop, length-take) (omega (arith, k))

pub cut_more : (text : List ℕ) (ts : List Token) (at end : ℕ) → end ≤ length ts → at ≤ length (take end ts) → at ≢ end → 0 < length (symbols text (drop at (take end ts)))
cut_more text ts at end k h n =
    let i : at ≤ end = omega (arith, h, length-take end ts) in
    let j = cut_length text ts at end k in omega (arith, j, n, i)

-- how many symbols stand between two places
pub between_length : (text : List ℕ) (ts : List Token) (at next : ℕ) → at ≤ length ts → next ≤ length ts → length (symbols text (drop next ts)) ≤ length (symbols text (drop at ts))
    → length (symbols text (drop at ts)) ≡ next - at + length (symbols text (drop next ts))
between_length text ts at next h k n =
    let a : length (symbols text (drop at ts)) ≡ length ts - at = simp (length-map, length-drop) in
    let b : length (symbols text (drop next ts)) ≡ length ts - next = simp (length-map, length-drop) in
    omega (arith, a, b)

-- ---- a type that ends before a place

pub counted_lacks : {cut : List Sym} (xs below : List Sym) (count n : ℕ) → xs ≡ cut ++ below → length cut ≡ count → Lacks (ShapeUpto n) cut → Lacks (CountedUpto count n) xs
counted_lacks {cut = cut} xs below count n e h f = record {
  none = λ a y zs d v.
      let i = same_front cut a below zs (sym e ∙ v) (h ∙ sym d.1) in
      f.none a y [] d.0 (i.0 ∙ sym (append-nil a));
}

pub counted_lacks_end : {cut ys : List Sym} {x : Deep TypeExpr} (xs below : List Sym) (count n : ℕ) → xs ≡ cut ++ below → length cut ≡ count → Found (ShapeUpto n) InType cut x ys → 0 < length ys
    → Lacks (CountedUpto count n) xs
counted_lacks_end {cut = cut} xs below count n e h f k = record {
  none = λ a y zs d v.
      let i = same_front cut a below zs (sym e ∙ v) (h ∙ sym d.1) in
      elim (f.longest a y [] d.0 (i.0 ∙ sym (append-nil a))) [
        | inl j ↦ absurd (omega (arith, k, ap length j.1))
        | inr j ↦ absurd (omega (arith, j.0))
      ];
}

pub counted_found : {cut : List Sym} {x : Deep TypeExpr} (xs below ys : List Sym) (count n : ℕ) → xs ≡ cut ++ below → length cut ≡ count → Found (ShapeUpto n) InType cut x ys → length ys ≡ 0
    → Found (CountedUpto count n) Never xs x below
counted_found {cut = cut} {x = x} xs below ys count n e h f k = record {
  front = f.front;
  whole = e ∙ ap (λ v. v ++ below) all;
  derives = (f.derives, sym (ap length all) ∙ h);
  longest = λ a y zs d v.
      let i = same_front cut a below zs (sym e ∙ v) (h ∙ sym d.1) in
      elim (f.longest a y [] d.0 (i.0 ∙ sym (append-nil a))) [
        | inl j ↦ inl (j.0, i.1)
        | inr j ↦ absurd (omega (arith, j.0))
      ];
}
  where
    empty : (v : List Sym) → length v ≡ 0 → v ≡ []
    empty [] i = refl
    empty (s ∷ v) i = absurd (omega (arith, i))

    all : cut ≡ f.front
    all = f.whole ∙ ap (λ v. f.front ++ v) (empty ys k) ∙ append-nil f.front

-- it leaves what stands from that place on
pub counted_at : {x : Deep TypeExpr} {ys : List Sym} (xs pre below : List Sym) (count n : ℕ) → xs ≡ pre ++ below → length pre ≡ count → Found (CountedUpto count n) Never xs x ys
    → Found (CountedUpto count n) Never xs x below
counted_at {ys = ys} xs pre below count n e h f = found_left (same_front f.front pre ys below (sym f.whole ∙ e) (f.derives.1 ∙ sym h)).1 f

-- ---- a body behind it

pub shorter_lacks_brace : (xs pre below : List Sym) (count n : ℕ) → xs ≡ pre ++ below → length pre ≡ count → ((o : ℕ) (zs : List Sym) → below ≡ Mark m.OpenBrace o ∷ zs → ⊥) → Lacks (ShorterUpto count n) xs
shorter_lacks_brace xs pre below count n e h f = record {
  none = λ a y zs d v.
      let i = same_front pre d.0 below (d.1 ++ zs) (sym e ∙ v ∙ ap (λ u. u ++ zs) d.7 ∙ append_assoc d.0 d.1 zs) (h ∙ sym d.9) in
      let b = block_group true d.11 in
      f b.0 (b.2 ++ Mark m.CloseBrace b.1 ∷ [] ++ zs) (i.1 ∙ ap (λ u. u ++ zs) b.4);
}

pub shorter_lacks_word : (xs pre below : List Sym) (count n : ℕ) → xs ≡ pre ++ below → suc (length pre) ≡ count → ((s : List ℕ) (o : ℕ) (zs : List Sym) → below ≡ word w.Readonly s o ∷ zs → ⊥)
    → Lacks (ShorterUpto count n) xs
shorter_lacks_word xs pre below count n e h f = record {
  none = λ a y zs d v.
      let whole : pre ++ below ≡ d.2 ++ (word w.Readonly d.3 d.4 ∷ (d.1 ++ zs)) =
      sym e ∙ v ∙ ap (λ u. u ++ zs) d.7 ∙ append_assoc d.0 d.1 zs ∙ ap (λ u. u ++ (d.1 ++ zs)) d.8 ∙ append_assoc d.2 (word w.Readonly d.3 d.4 ∷ []) (d.1 ++ zs) in
      let i = same_front pre d.2 below (word w.Readonly d.3 d.4 ∷ (d.1 ++ zs)) whole (omega (arith, h, d.9, ap length d.8, length-append d.2 (word w.Readonly d.3 d.4 ∷ []))) in
      f d.3 d.4 (d.1 ++ zs) i.1;
}

-- a type that ends in a word is no missing one
counted : {a : List Sym} {s : Option TypeExpr} {d : ℕ} (front : List Sym) (at : ℕ) (spelled : List ℕ) (count n : ℕ) → g.IsAnnotation a s d → a ≡ front ++ (word w.Readonly spelled at ∷ []) → length a ≡ count → d ≤ n
    → (u : TypeExpr) × CountedUpto count n a (u, d) × (s ≡ Some u)
counted front at spelled count n g.no_annotation e h k = absurd (omega (arith, ap length e, length-append front (word w.Readonly spelled at ∷ [])))
counted front at spelled count n (g.some_annotation {of = u} q) e h k = (u, ((q, k), h), refl)

pub shorter_lacks_shape : (xs : List Sym) (count n : ℕ) → Lacks (CountedUpto count n) xs → Lacks (ShorterUpto count n) xs
shorter_lacks_shape xs count n f = record {
  none = λ a y zs d v.
      let c = counted d.2 d.4 d.3 count n d.10 d.8 d.9 (omega (arith, d.12, d.13)) in
      f.none d.0 (c.0, d.5) (d.1 ++ zs) c.1 (v ∙ ap (λ u. u ++ zs) d.7 ∙ append_assoc d.0 d.1 zs);
}

pub shorter_lacks_block : (xs pre below : List Sym) (count n : ℕ) → xs ≡ pre ++ below → length pre ≡ count → Lacks (BlockUpto g.a_body n) below → Lacks (ShorterUpto count n) xs
shorter_lacks_block xs pre below count n e h f = record {
  none = λ a y zs d v.
      let i = same_front pre d.0 below (d.1 ++ zs) (sym e ∙ v ∙ ap (λ u. u ++ zs) d.7 ∙ append_assoc d.0 d.1 zs) (h ∙ sym d.9) in
      f.none d.1 (y.0.1, d.6) zs (d.11, omega (arith, d.12, d.13)) i.1;
}

pub shorter_found : {x : Deep TypeExpr} {b : Deep Block} {below ys : List Sym} (xs pre behind : List Sym) (s : List ℕ) (at count n : ℕ) → Found (CountedUpto count n) Never xs x below
    → xs ≡ pre ++ behind → behind ≡ word w.Readonly s at ∷ below → Found (BlockUpto g.a_body n) Never below b ys → Found (ShorterUpto count n) Never xs ((Some x.0, b.0), max x.1 b.1) ys
shorter_found {x = x} {b = b} {below = below} {ys = ys} xs pre behind s at count n f e o h = record {
  front = f.front ++ h.front;
  whole = f.whole ∙ ap (λ v. f.front ++ v) h.whole ∙ sym (append_assoc f.front h.front ys);
  derives = (f.front, h.front, pre, s, at, x.1, b.1, refl, last, f.derives.1, g.some_annotation f.derives.0.0, h.derives.0, refl, omega (arith, f.derives.0.1, h.derives.1));
  longest = λ a y zs d v.
      let c = counted d.2 d.4 d.3 count n d.10 d.8 d.9 (omega (arith, d.12, d.13)) in
      let i = exact f d.0 (c.0, d.5) (d.1 ++ zs) c.1 (v ∙ ap (λ u. u ++ zs) d.7 ∙ append_assoc d.0 d.1 zs) (never (d.1 ++ zs)) in
      let j = exact h d.1 (y.0.1, d.6) zs (d.11, omega (arith, d.12, d.13)) i.1 (never zs) in
      inl (same_body y d.5 d.6 c.0 i.0 j.0 c.2 d.12, j.1);
}
  where
    last : f.front ≡ pre ++ (word w.Readonly s at ∷ [])
    last = append_cancel_right f.front (pre ++ (word w.Readonly s at ∷ [])) below (sym f.whole ∙ e ∙ ap (λ v. pre ++ v) o ∙ sym (append_assoc pre (word w.Readonly s at ∷ []) below))

    same_body : (y : Deep (Option TypeExpr × Block)) (d e : ℕ) (u : TypeExpr) → ◌≡◌ {A = Deep TypeExpr} x (u, d) → ◌≡◌ {A = Deep Block} b (y.0.1, e) → y.0.0 ≡ Some u → y.1 ≡ max d e
        → ◌≡◌ {A = Deep (Option TypeExpr × Block)} ((Some x.0, b.0), max x.1 b.1) y
    same_body y d e u p q i j =
        let k : x.0 ≡ u = ap (λ (r : Deep TypeExpr). r.0) p in
        let l : x.1 ≡ d = ap (λ (r : Deep TypeExpr). r.1) p in
        let o : b.0 ≡ y.0.1 = ap (λ (r : Deep Block). r.0) q in
        let t : b.1 ≡ e = ap (λ (r : Deep Block). r.1) q in
        both (both (ap Some k ∙ sym i) o) (cc)

-- ---- the last body whose type is no longest one

-- a body derives an annotation and a block
shorter_depth : {count n : ℕ} {xs : List Sym} {y : Deep (Option TypeExpr × Block)} → ShorterUpto count n xs y → 0 < count
shorter_depth d = omega (arith, d.9, ap length d.8, length-append d.2 (word w.Readonly d.3 d.4 ∷ []))

halts_in : {us : List Sym} → BehindBody us → Starts InBody us
halts_in f = starts_by InBody f.3 refl

-- Where the longest annotation has no block behind it, each body has a shorter one.
pub only_shorter : {x : Deep (Option TypeExpr)} {below : List Sym} (xs : List Sym) (count n : ℕ) → Found (AnnotationUpto n) InAnnotation xs x below → Lacks (BlockUpto g.a_body n) below
    → length xs ≡ count + length below → OnlyShorter count n xs
only_shorter {below = below} xs count n f h k = record { only = λ a y zs d v. go a y zs d v }
  where
    go : (a : List Sym) (y : Deep (Option TypeExpr × Block)) (zs : List Sym) → BodyUpto n a y → xs ≡ a ++ zs → (k : ℕ) × (k < count) × ShorterUpto k n a y
    go a y zs d v =
        let whole : xs ≡ d.0 ++ (d.1 ++ zs) = v ∙ ap (λ u. u ++ zs) d.4 ∙ append_assoc d.0 d.1 zs in
        elim (f.longest d.0 (y.0.0, d.2) (d.1 ++ zs) (d.5, omega (arith, d.7, d.8)) whole) [
          | inl i ↦ absurd (h.none d.1 (y.0.1, d.3) zs (d.6, omega (arith, d.7, d.8)) i.1)
          | inr i ↦
              let b = block_group true d.6 in
              let l = ap (λ u. u ++ zs) b.4 ∙ ap (λ u. Mark m.OpenBrace b.0 ∷ u) (append_assoc b.2 (Mark m.CloseBrace b.1 ∷ []) zs) in
              let t = annotation_behind b.0 b.1 zs below d.5 f.derives.0 b.3 (ap (λ u. d.0 ++ u) (sym l) ∙ sym whole ∙ f.whole) (omega (arith, i.0, ap length l)) in
              (length d.0, omega (arith, k, i.0, ap length whole, length-append d.0 (d.1 ++ zs)), (d.0, d.1, t.0, t.1, t.2, d.2, d.3, d.4, t.6, refl, d.5, d.6, d.7, d.8))
        ]

-- no body where none of the shorter annotations has one
pub bodies_lack : (xs : List Sym) (count n : ℕ) → OnlyShorter count n xs → ((k : ℕ) → 0 < k → k < count → Lacks (ShorterUpto k n) xs) → Lacks (BodyUpto n) xs
bodies_lack xs count n h f = record {
  none = λ a y zs d v.
      let t = h.only a y zs d v in
      (f t.0 (shorter_depth t.2) t.1).none a y zs t.2 v;
}

into_body : {k n : ℕ} {a : List Sym} {y : Deep (Option TypeExpr × Block)} → ShorterUpto k n a y → BodyUpto n a y
into_body d = (d.0, d.1, d.5, d.6, d.7, d.10, d.11, d.12, d.13)

-- the last of the shorter ones is the longest reading
pub body_found : {y : Deep (Option TypeExpr × Block)} {ys : List Sym} (xs : List Sym) (k count n : ℕ) → OnlyShorter count n xs → ((j : ℕ) → k < j → j < count → Lacks (ShorterUpto j n) xs)
    → Found (ShorterUpto k n) Never xs y ys → Found (BodyUpto n) InBody xs y ys
body_found {y = y} {ys = ys} xs k count n h f q = record {
  front = q.front;
  whole = q.whole;
  derives = into_body q.derives;
  longest = λ a z zs d v. let t = h.only a z zs d v in go a z zs t.0 t.1 t.2 v;
}
  where
    go : (a : List Sym) (z : Deep (Option TypeExpr × Block)) (zs : List Sym) (j : ℕ) → j < count → ShorterUpto j n a z → xs ≡ a ++ zs → Ends InBody y ys z zs
    go a z zs j i d v = elim (cases_order j k) [
      | inl e ↦ inl (exact q a z zs (subst (λ (c : ℕ). ShorterUpto c n a z) e d) v (never zs))
      | inr o ↦ elim o [
        | inl e ↦
            let r = q.derives in
            let left : xs ≡ d.0 ++ (d.1 ++ zs) = v ∙ ap (λ u. u ++ zs) d.7 ∙ append_assoc d.0 d.1 zs in
            let right : xs ≡ r.0 ++ (r.1 ++ ys) = q.whole ∙ ap (λ u. u ++ ys) r.7 ∙ append_assoc r.0 r.1 ys in
            let more : length (r.1 ++ ys) < length (d.1 ++ zs) =
            omega (arith, e, d.9, r.9, ap length left, ap length right, length-append d.0 (d.1 ++ zs), length-append r.0 (r.1 ++ ys)) in
            let t = body_behind true zs ys d.10 d.11 r.10 r.11 (sym left ∙ right) more in
            inr (t.5, halts_in t.4)
        | inr e ↦ absurd ((f j e i).none a z zs d v)
      ]
    ]

-- the body behind the longest annotation is the longest reading
pub body_longest : {x : Deep (Option TypeExpr)} {b : Deep Block} {below ys : List Sym} (xs : List Sym) (n : ℕ) → Found (AnnotationUpto n) InAnnotation xs x below → Found (BlockUpto g.a_body n) Never below b ys
    → Found (BodyUpto n) InBody xs ((x.0, b.0), max x.1 b.1) ys
body_longest {x = x} {b = b} {below = below} {ys = ys} xs n f h = record {
  front = f.front ++ h.front;
  whole = f.whole ∙ ap (λ v. f.front ++ v) h.whole ∙ sym (append_assoc f.front h.front ys);
  derives = (f.front, h.front, x.1, b.1, refl, f.derives.0, h.derives.0, refl, omega (arith, f.derives.1, h.derives.1));
  longest = λ a y zs d v. go a y zs d (v ∙ ap (λ u. u ++ zs) d.4 ∙ append_assoc d.0 d.1 zs);
}
  where
    same_body : (y : Deep (Option TypeExpr × Block)) (d e : ℕ) → ◌≡◌ {A = Deep (Option TypeExpr)} x (y.0.0, d) → ◌≡◌ {A = Deep Block} b (y.0.1, e) → y.1 ≡ max d e
        → ◌≡◌ {A = Deep (Option TypeExpr × Block)} ((x.0, b.0), max x.1 b.1) y
    same_body y d e p q j =
        let k : x.0 ≡ y.0.0 = ap (λ (r : Deep (Option TypeExpr)). r.0) p in
        let l : x.1 ≡ d = ap (λ (r : Deep (Option TypeExpr)). r.1) p in
        let o : b.0 ≡ y.0.1 = ap (λ (r : Deep Block). r.0) q in
        let t : b.1 ≡ e = ap (λ (r : Deep Block). r.1) q in
        both (both k o) (cc)

    go : (a : List Sym) (y : Deep (Option TypeExpr × Block)) (zs : List Sym) (d : BodyUpto n a y) → xs ≡ d.0 ++ (d.1 ++ zs) → Ends {X = Deep (Option TypeExpr × Block)} InBody ((x.0, b.0), max x.1 b.1) ys y zs
    go a y zs d v =
        elim (f.longest d.0 (y.0.0, d.2) (d.1 ++ zs) (d.5, omega (arith, d.7, d.8)) v) [
          | inl i ↦
              let j = exact h d.1 (y.0.1, d.3) zs (d.6, omega (arith, d.7, d.8)) i.1 (never zs) in
              inl (same_body y d.2 d.3 i.0 j.0 d.7, j.1)
          | inr i ↦
              let t = body_behind true zs ys d.5 d.6 f.derives.0 h.derives.0 (sym v ∙ f.whole ∙ ap (λ u. f.front ++ u) h.whole) (omega (arith, i.0, ap length h.whole)) in
              inr (t.5, halts_in t.4)
        ]

-- ---- a loop from the last such type to the first

-- those whose type ends from a place on have no body
abbrev pub LackFrom : ℕ → ℕ → ℕ → ℕ → List Sym → Type 0
LackFrom at from end n xs = (k : ℕ) → end ≤ at + k → at + k < from → Lacks (ShorterUpto k n) xs

pub lack_start : (at from n : ℕ) (xs : List Sym) → LackFrom at from from n xs
lack_start at from n xs k h i = absurd (omega (arith, h, i))

pub lack_next : (at from end n : ℕ) (xs : List Sym) → at < end - 1 → LackFrom at from end n xs → Lacks (ShorterUpto (end - 1 - at) n) xs → LackFrom at from (end - 1) n xs
lack_next at from end n xs h f q k i j = elim (cases_lt k (end - at)) [
  | inl e ↦ let same : end - 1 - at ≡ k = omega (arith, h, i, e) in subst (λ (c : ℕ). Lacks (ShorterUpto c n) xs) same q
  | inr e ↦ f k (omega (arith, h, e)) j
]

pub lack_all : (at from end n : ℕ) (xs : List Sym) → end ≤ at + 1 → OnlyShorter (from - at) n xs → LackFrom at from end n xs → Lacks (BodyUpto n) xs
lack_all at from end n xs h o f = bodies_lack xs (from - at) n o (λ k i j. f k (omega (arith, h, i)) (omega (arith, j)))

pub lack_found : {y : Deep (Option TypeExpr × Block)} {ys : List Sym} (at from end n : ℕ) (xs : List Sym) → at < end - 1 → OnlyShorter (from - at) n xs → LackFrom at from end n xs
    → Found (ShorterUpto (end - 1 - at) n) Never xs y ys → Found (BodyUpto n) InBody xs y ys
lack_found at from end n xs h o f q = body_found xs (end - 1 - at) (from - at) n o (λ j i k. f j (omega (arith, h, i)) (omega (arith, k))) q
