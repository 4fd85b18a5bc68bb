-- Numbered paths, one path further.
use Rattle.std.proofs.Common.{◌≡◌, ℕ, ◌+◌, ◌<◌, true, false, cond, List, [], ◌∷◌, ◌++◌, length, take, refl, sym, ap, subst, ◌∙◌, inl, inr, arith, append_assoc, append-nil, length-append}
use Rattle.std.specs.Prelude.{All, map, Option, Some, None}
use Rattle.std.specs.BTreeMap.{BTreeMap, get, is_at}
use Rattle.std.specs.Ordering.{is_eq}
use Rattle.std.specs.declared.cmp.Ordering.{Ordering}
use Rattle.std.specs.declared.cmp.Ordering.TheVariants.{Less, Equal, Greater}
use Rattle.std.specs.Cmp.{tied_itself}
use Rattle.std.specs.Cmp.Lexicographic.{nat_list_cmp_total}
use Rattle.std.proofs.lemmas.Map.Lookups.{exact_bytes}
use Rattle.std.proofs.lemmas.Bool.{cases_lt}
use Rattle.std.proofs.lemmas.List.{length_push, get_or_push, get_or_append_left, map_push}
use Rattle.std.proofs.lemmas.List.Elements.{All-push, All-weaker, All-head, All-tail}
use Rattle.tb_text.specs.Bytes.{bytes_cmp}
use Rattle.tb_plan.specs.Orders.{Paths}
use Rattle.tb_plan.specs.Searches.{path_at, IsNumbering, AreNumbers, Grew}
use Rattle.tb_plan.proofs.Members.{in_from, in_back, in_left, in_right, in_append}

none_some : {X : Type 0} (o : Option X) (x : X) → o ≡ None → o ≡ Some x → ⊥
none_some o x e f = cc

pub some_same : (x y : ℕ) → Some x ≡ Some y → x ≡ y
some_same x y e = cc

equal_from : (r : Ordering) → is_eq r ≡ true → r ≡ Equal
equal_from Less e = absurd (cc)
equal_from Equal e = refl
equal_from Greater e = absurd (cc)

pub at_itself : (path : List ℕ) → is_at (bytes_cmp path) path ≡ true
at_itself path = ap is_eq (tied_itself nat_list_cmp_total path)

pub at_same : (path q : List ℕ) → is_at (bytes_cmp path) q ≡ true → path ≡ q
at_same path q e = exact_bytes path q (equal_from (bytes_cmp path q) e)

-- ---- a new path gets the next number

abbrev Puts : List ℕ → ℕ → BTreeMap (List ℕ) ℕ → BTreeMap (List ℕ) ℕ → Type 0
Puts path n old new = (q : List ℕ) → get bytes_cmp new q ≡ cond (is_at (bytes_cmp path) q) (Some n) (get bytes_cmp old q)

each_old : (paths : Paths) (old new : BTreeMap (List ℕ) ℕ) (path : List ℕ) → IsNumbering paths old → get bytes_cmp old path ≡ None → Puts path (length paths) old new
    → (n : ℕ) → n < length paths → get bytes_cmp new (path_at paths n) ≡ Some n
each_old paths old new path h none put n lt = put (path_at paths n)
    ∙ elim (is_at (bytes_cmp path) (path_at paths n)) as (λ b. is_at (bytes_cmp path) (path_at paths n) ≡ b → cond b (Some (length paths)) (get bytes_cmp old (path_at paths n)) ≡ Some n) [
      | true ↦ λ e. absurd (none_some (get bytes_cmp old path) n none (ap (get bytes_cmp old) (at_same path (path_at paths n) e) ∙ h.each n lt))
      | false ↦ λ e. h.each n lt
    ] refl

each_last : (paths : Paths) (old new : BTreeMap (List ℕ) ℕ) (path : List ℕ) → Puts path (length paths) old new → get bytes_cmp new path ≡ Some (length paths)
each_last paths old new path put = put path ∙ ap (λ b. cond b (Some (length paths)) (get bytes_cmp old path)) (at_itself path)

old_at : (paths : Paths) (path : List ℕ) (n : ℕ) → n < length paths → path_at (paths ++ path ∷ []) n ≡ path_at paths n
old_at paths path n lt = get_or_append_left paths (path ∷ []) [] n lt

last_at : (paths : Paths) (path : List ℕ) (n : ℕ) → length paths ≡ n → path_at (paths ++ path ∷ []) n ≡ path
last_at paths path n e = get_or_push paths path [] n e

pub numbered_push : (paths : Paths) (old new : BTreeMap (List ℕ) ℕ) (path : List ℕ) → IsNumbering paths old → get bytes_cmp old path ≡ None → Puts path (length paths) old new
    → IsNumbering (paths ++ path ∷ []) new
numbered_push paths old new path h none put = record {
  each = λ n lt. elim (cases_lt n (length paths)) [
    | inl a ↦ ap (get bytes_cmp new) (old_at paths path n a) ∙ each_old paths old new path h none put n a
    | inr b ↦
        let e : length paths ≡ n = omega (arith, length_push paths path) in
        ap (get bytes_cmp new) (last_at paths path n e) ∙ each_last paths old new path put ∙ ap Some e
  ];
  only = λ q n e. elim (is_at (bytes_cmp path) q) as (λ b. is_at (bytes_cmp path) q ≡ b → cond b (Some (length paths)) (get bytes_cmp old q) ≡ Some n → (n < length (paths ++ path ∷ [])) × (path_at (paths ++ path ∷ []) n ≡ q)) [
    | true ↦ λ here f.
        let m = some_same (length paths) n f in
        (omega (arith, length_push paths path, m), last_at paths path n m ∙ at_same path q here)
    | false ↦ λ here f.
        let r = h.only q n f in
        (omega (arith, length_push paths path, r.0), old_at paths path n r.0 ∙ r.1)
  ] refl (sym (put q) ∙ e);
}

-- ---- growth

pub grew_none : (paths named : Paths) → Grew paths paths named
grew_none paths named = record { more = []; whole = sym (append-nil paths); few = omega arith; from = λ p c. absurd (omega (arith, c.1)) }

pub grew_one : (paths : Paths) (path : List ℕ) → Grew paths (paths ++ path ∷ []) (path ∷ [])
grew_one paths path = record { more = path ∷ []; whole = refl; few = omega arith; from = λ p c. c }

pub grew_then : (a b c xs : Paths) (x : List ℕ) → Grew a b xs → Grew b c (x ∷ []) → Grew a c (xs ++ x ∷ [])
grew_then a b c xs x g h = record {
  more = g.more ++ h.more;
  whole = h.whole ∙ ap (λ (l : Paths). l ++ h.more) g.whole ∙ append_assoc a g.more h.more;
  few = omega (arith, length-append g.more h.more, length_push xs x, g.few, h.few);
  from = λ p k. elim (in_append g.more h.more p (in_from (g.more ++ h.more) p k)) [
    | inl l ↦ in_back (xs ++ x ∷ []) p (in_left xs (x ∷ []) p (in_from xs p (g.from p (in_back g.more p l))))
    | inr r ↦ in_back (xs ++ x ∷ []) p (in_right xs (x ∷ []) p (in_from (x ∷ []) p (h.from p (in_back h.more p r))))
  ];
}

map_agree : (f g : ℕ → List ℕ) (ns : List ℕ) → All (λ n. f n ≡ g n) ns → map f ns ≡ map g ns
map_agree f g [] all = refl
map_agree f g (n ∷ ns) all =
    ap (λ (p : List ℕ). p ∷ map f ns) (All-head (λ n. f n ≡ g n) n ns all) ∙ ap (λ (l : Paths). g n ∷ l) (map_agree f g ns (All-tail (λ n. f n ≡ g n) n ns all))

grown_at : (a b named : Paths) (n : ℕ) → Grew a b named → n < length a → path_at b n ≡ path_at a n
grown_at a b named n g lt = ap (λ (l : Paths). path_at l n) g.whole ∙ get_or_append_left a g.more [] n lt

pub length_grown : (a b named : Paths) (g : Grew a b named) → length b ≡ length a + length g.more
length_grown a b named g = ap length g.whole ∙ length-append a g.more

pub are_grown : (a b named : Paths) (ns : List ℕ) (xs : Paths) → Grew a b named → AreNumbers a ns xs → AreNumbers b ns xs
are_grown a b named ns xs g h = record {
  within = All-weaker (λ n. n < length a) (λ n. n < length b) (λ n lt. omega (arith, length_grown a b named g)) ns h.within;
  are = map_agree (path_at b) (path_at a) ns (All-weaker (λ n. n < length a) (λ n. path_at b n ≡ path_at a n) (λ n lt. grown_at a b named n g lt) ns h.within) ∙ h.are;
}

pub are_push : (a : Paths) (ns : List ℕ) (xs : Paths) (n : ℕ) (x : List ℕ) → AreNumbers a ns xs → n < length a → path_at a n ≡ x → AreNumbers a (ns ++ n ∷ []) (xs ++ x ∷ [])
are_push a ns xs n x h lt e = record {
  within = All-push (λ m. m < length a) ns n h.within lt;
  are = map_push (path_at a) ns n ∙ ap (λ (l : Paths). l ++ path_at a n ∷ []) h.are ∙ ap (λ (p : List ℕ). xs ++ p ∷ []) e;
}

pub are_none : (a : Paths) → AreNumbers a [] []
are_none a = record { within = λ k d lt. absurd (omega arith); are = refl }

-- ---- as the code goes

pub numbered_next : (paths after : Paths) (old new : BTreeMap (List ℕ) ℕ) (path key copy : List ℕ) (n : ℕ) → IsNumbering paths old → None ≡ get bytes_cmp old path → key ≡ path → copy ≡ path
    → n ≡ length paths → Puts key n old new → after ≡ paths ++ copy ∷ [] → IsNumbering after new
numbered_next paths after old new path key copy n h none k c e put is =
    let P : Paths → Type 0 = λ l. IsNumbering l new in
    subst P (sym is) (numbered_push paths old new copy h (ap (get bytes_cmp old) c ∙ sym none)
    (λ q. put q ∙ ap (λ (p : List ℕ). cond (is_at (bytes_cmp p) q) (Some n) (get bytes_cmp old q)) (k ∙ sym c) ∙ ap (λ (m : ℕ). cond (is_at (bytes_cmp copy) q) (Some m) (get bytes_cmp old q)) e))

pub number_step : (a b c xs : Paths) (i : ℕ) (ns : List ℕ) (n : ℕ) (x : List ℕ) → Grew a b (take i xs) → AreNumbers b ns (take i xs) → Grew b c (x ∷ []) → n < length c → path_at c n ≡ x
    → take (i + 1) xs ≡ take i xs ++ x ∷ [] → Grew a c (take (i + 1) xs) × AreNumbers c (ns ++ n ∷ []) (take (i + 1) xs)
number_step a b c xs i ns n x g h k lt at e =
    let P : Paths → Type 0 = λ l. Grew a c l × AreNumbers c (ns ++ n ∷ []) l in
    subst P (sym e) (grew_then a b c (take i xs) x g k, are_push c ns (take i xs) n x (are_grown b c (x ∷ []) ns (take i xs) k h) lt at)
