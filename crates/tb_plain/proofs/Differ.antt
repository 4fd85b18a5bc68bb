-- Texts that differ, one after the other.
use Rattle.std.proofs.Common.{◌≡◌, ◌+◌, ◌<◌, ℕ, Bool, true, false, List, [], ◌∷◌, refl, sym, ap, ◌∙◌, length, drop, drop-cons, add-one, get_or, Bor, BTreeSet}
use Rattle.std.specs.Ordering.{nat_cmp}
use Rattle.std.specs.Cmp.Lexicographic.{slice_cmp, texts_ties}
use Rattle.std.specs.declared.cmp.Ordering.{Ordering}
use Rattle.std.specs.BTreeMap.{is_at}
use Rattle.std.specs.BTreeSet.{contains}
use Rattle.std.specs.Prelude.{not, ◌&&◌, ◌||◌, cond, map}
use Rattle.std.specs.List.{list_all, list_any}
use Rattle.std.specs.Str.{bytes_eq}
use Rattle.tb_plain.specs.Plain.{all_differ}
use Rattle.tb_tree.proofs.Ends.{ap_both}

module _ {X : Type 0} (now : X → List ℕ) where
  -- no text was seen or occurs twice
  abbrev pub differ_from : (X → Bool) → List X → Bool
  differ_from seen [] = true
  differ_from seen (x ∷ xs) = not (seen x) && differ_from (λ q. bytes_eq (now x) (now q) || seen q) xs

  pub same_differ : (f g : X → Bool) → ((q : X) → f q ≡ g q) → (xs : List X) → differ_from f xs ≡ differ_from g xs
  same_differ f g h [] = refl
  same_differ f g h (x ∷ xs) = ap_both (λ a b. not a && b) (h x) (same_differ (λ q. bytes_eq (now x) (now q) || f q) (λ q. bytes_eq (now x) (now q) || g q) (λ q. ap (λ b. bytes_eq (now x) (now q) || b) (h q)) xs)

  step : (a b c d : Bool) → not (a || b) && (not c && d) ≡ not (a || c) && (not b && d)
  step true b c d = refl
  step false true true d = refl
  step false true false d = refl
  step false false true d = refl
  step false false false d = refl

  split : (x : X) (f : X → Bool) (xs : List X)
      → list_all (λ q. not (bytes_eq (now x) (now q) || f q)) xs ≡ not (list_any (λ y. bytes_eq (now x) y) (map now xs)) && list_all (λ q. not (f q)) xs
  split x f [] = refl
  split x f (y ∷ ys) = ap (λ v. not (bytes_eq (now x) (now y) || f y) && v) (split x f ys)
      ∙ step (bytes_eq (now x) (now y)) (f y) (list_any (λ z. bytes_eq (now x) z) (map now ys)) (list_all (λ q. not (f q)) ys)

  turn : (a b c d : Bool) → not a && ((not b && c) && d) ≡ (not a && c) && (not b && d)
  turn true b c d = refl
  turn false true true d = refl
  turn false true false d = refl
  turn false false true d = refl
  turn false false false d = refl

  differ_split : (f : X → Bool) (xs : List X) → differ_from f xs ≡ list_all (λ q. not (f q)) xs && all_differ (map now xs)
  differ_split f [] = refl
  differ_split f (x ∷ xs) =
      ap (λ v. not (f x) && v) (differ_split (λ q. bytes_eq (now x) (now q) || f q) xs ∙ ap (λ v. v && all_differ (map now xs)) (split x f xs))
      ∙ turn (f x) (list_any (λ y. bytes_eq (now x) y) (map now xs)) (list_all (λ q. not (f q)) xs) (all_differ (map now xs))

  none : (xs : List X) → list_all (λ q. not false) xs ≡ true
  none [] = refl
  none (x ∷ xs) = none xs

  pub differ_all : (f : X → Bool) → ((q : X) → f q ≡ false) → (xs : List X) → differ_from f xs ≡ all_differ (map now xs)
  differ_all f h xs = same_differ f (λ q. false) h xs ∙ differ_split (λ q. false) xs ∙ ap (λ v. v && all_differ (map now xs)) (none xs)

-- ---- a set of those that were seen

abbrev Text : Type 0
Text = Bor (List ℕ)

abbrev pub text_cmp : Text → Text → Ordering
text_cmp x y = slice_cmp nat_cmp x.now y.now

either : (b c : Bool) → cond b true c ≡ (b || c)
either true c = refl
either false c = refl

pub nothing_seen : (s : BTreeSet Text) → s.keys ≡ [] → (q : Text) → contains text_cmp s q ≡ false
nothing_seen s e q = ap (λ ks. list_any (is_at (text_cmp q)) ks) e

rest_at : (names : List Text) (i : ℕ) (d : Text) → i < length names → drop i names ≡ get_or names i d ∷ drop (i + 1) names
rest_at names i d h = rw add-one (drop-cons names i d h)

pub seen_on : (s n : BTreeSet Text) (names : List Text) (i : ℕ) (d : Text) (all : Bool) → i < length names → contains text_cmp s (get_or names i d) ≡ false
    → ((q : Text) → contains text_cmp n q ≡ cond (is_at (text_cmp (get_or names i d)) q) true (contains text_cmp s q))
    → differ_from (λ x. x.now) (λ q. contains text_cmp s q) (drop i names) ≡ all → differ_from (λ x. x.now) (λ q. contains text_cmp n q) (drop (i + 1) names) ≡ all
seen_on s n names i d all h new updates e =
    let x = get_or names i d in
    same_differ (λ (y : Text). y.now) (λ q. contains text_cmp n q) (λ q. bytes_eq x.now q.now || contains text_cmp s q)
    (λ q. updates q ∙ ap (λ b. cond b true (contains text_cmp s q)) (sym (texts_ties x.now q.now)) ∙ either (bytes_eq x.now q.now) (contains text_cmp s q)) (drop (i + 1) names)
    ∙ ap (λ b. not b && differ_from (λ (y : Text). y.now) (λ q. bytes_eq x.now q.now || contains text_cmp s q) (drop (i + 1) names)) (sym new)
    ∙ ap (λ ys. differ_from (λ (y : Text). y.now) (λ q. contains text_cmp s q) ys) (sym (rest_at names i d h))
    ∙ e

pub turned : (b : Bool) → not b ≡ true → b ≡ false
turned true e = cc
turned false e = refl
