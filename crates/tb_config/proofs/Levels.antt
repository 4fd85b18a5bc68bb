-- How often one can go on from configs depends on which they are, and not on their order or number.
use Rattle.std.proofs.Common.{ℕ, zero, suc, ◌≡◌, ◌+◌, ◌==◌, Bool, true, false, List, [], ◌∷◌, ◌||◌, length, cond, sym, ap, subst, ◌∙◌, refl, arith, ◌⊎◌, inl, inr}
use Rattle.std.proofs.lemmas.Bool.{eqb-true}
use Rattle.std.specs.List.{flat_map}
use Rattle.std.specs.Str.{bytes_eq}
use Rattle.tb_config.specs.Walks.{is_in, longest}
use Rattle.tb_config.proofs.Paths.{same_path, path_itself, is_in-append}

-- ---- truth values

either_true : (a b : Bool) → (a || b) ≡ true → (a ≡ true) ⊎ (b ≡ true)
either_true true b h = inl refl
either_true false b h = inr h

or_left : (a b : Bool) → a ≡ true → (a || b) ≡ true
or_left true b h = refl
or_left false b h = let no : false ≡ true = h in cc

or_right : (a b : Bool) → b ≡ true → (a || b) ≡ true
or_right true b h = refl
or_right false b h = h

same_truth : (a b : Bool) → (a ≡ true → b ≡ true) → (b ≡ true → a ≡ true) → a ≡ b
same_truth true true there back = refl
same_truth true false there back = sym (there refl)
same_truth false true there back = back refl
same_truth false false there back = refl

-- ---- all bases of configs

-- a base of one of them
pub record IsBase (bases : List ℕ → List (List ℕ)) (xs : List (List ℕ)) (q : List ℕ) : Type 0 where
  pub of : List ℕ
  pub there : is_in xs of ≡ true
  pub base : is_in (bases of) q ≡ true

base_of : (bases : List ℕ → List (List ℕ)) (xs : List (List ℕ)) (q : List ℕ) → is_in (flat_map bases xs) q ≡ true → IsBase bases xs q
base_of bases [] q h = let no : false ≡ true = h in absurd (grind arith)
base_of bases (x ∷ xs) q h = elim (either_true (is_in (bases x) q) (is_in (flat_map bases xs) q) (sym (is_in-append (bases x) (flat_map bases xs) q) ∙ h)) [
  | inl here ↦ record { of = x; there = or_left (bytes_eq x x) (is_in xs x) (path_itself x); base = here }
  | inr later ↦ let found = base_of bases xs q later in record { of = found.of; there = or_right (bytes_eq found.of x) (is_in xs found.of) found.there; base = found.base }
]

base_in : (bases : List ℕ → List (List ℕ)) (xs : List (List ℕ)) (q p : List ℕ) → is_in xs p ≡ true → is_in (bases p) q ≡ true → is_in (flat_map bases xs) q ≡ true
base_in bases [] q p there base = let no : false ≡ true = there in absurd (grind arith)
base_in bases (x ∷ xs) q p there base = is_in-append (bases x) (flat_map bases xs) q ∙ elim (either_true (bytes_eq p x) (is_in xs p) there) [
  | inl here ↦ or_left (is_in (bases x) q) (is_in (flat_map bases xs) q) (subst (λ y. is_in (bases y) q ≡ true) (same_path p x here) base)
  | inr later ↦ or_right (is_in (bases x) q) (is_in (flat_map bases xs) q) (base_in bases xs q p later base)
]

pub flat_same : (bases : List ℕ → List (List ℕ)) (xs ys : List (List ℕ)) → ((p : List ℕ) → is_in xs p ≡ is_in ys p) → (q : List ℕ) → is_in (flat_map bases xs) q ≡ is_in (flat_map bases ys) q
flat_same bases xs ys same q =
    same_truth (is_in (flat_map bases xs) q) (is_in (flat_map bases ys) q)
    (λ h. let b = base_of bases xs q h in base_in bases ys q b.of (sym (same b.of) ∙ b.there) b.base)
    (λ h. let b = base_of bases ys q h in base_in bases xs q b.of (same b.of ∙ b.there) b.base)

some_length : (n : ℕ) → (n ≡ 0 → ⊥) → (n == 0) ≡ false
some_length n some = by_test (n == 0) (λ e. some (eqb-true n 0 e))
  where
    by_test : (b : Bool) → (b ≡ true → ⊥) → b ≡ false
    by_test true bad = absurd (bad refl)
    by_test false _ = refl

pub none_same : (xs ys : List (List ℕ)) → ((p : List ℕ) → is_in xs p ≡ is_in ys p) → (length xs == 0) ≡ (length ys == 0)
none_same [] [] same = refl
none_same [] (y ∷ ys) same = let no : false ≡ true = same y ∙ or_left (bytes_eq y y) (is_in ys y) (path_itself y) in absurd (grind arith)
none_same (x ∷ xs) [] same = let no : true ≡ false = sym (or_left (bytes_eq x x) (is_in xs x) (path_itself x)) ∙ same x in absurd (grind arith)
none_same (x ∷ xs) (y ∷ ys) same = some_length (length (x ∷ xs)) (λ e. omega arith) ∙ sym (some_length (length (y ∷ ys)) (λ e. omega arith))

pub longest_same : (bases : List ℕ → List (List ℕ)) (n : ℕ) (xs ys : List (List ℕ)) → ((p : List ℕ) → is_in xs p ≡ is_in ys p) → longest bases n xs ≡ longest bases n ys
longest_same bases zero xs ys same = refl
longest_same bases (suc n) xs ys same =
    let next = flat_same bases xs ys same in
    ap (λ none. cond none 0 (longest bases n (flat_map bases xs) + 1)) (none_same (flat_map bases xs) (flat_map bases ys) next)
    ∙ ap (λ more. cond (length (flat_map bases ys) == 0) 0 (more + 1)) (longest_same bases n (flat_map bases xs) (flat_map bases ys) next)

-- ---- one level further, where `next` has just the bases of xs

pub longest_ends : (bases : List ℕ → List (List ℕ)) (n : ℕ) (xs next : List (List ℕ)) → ((p : List ℕ) → is_in next p ≡ is_in (flat_map bases xs) p) → length next ≡ 0 → longest bases n xs ≡ 0
longest_ends bases zero xs next same none = refl
longest_ends bases (suc n) xs next same none =
    ap (λ b. cond b 0 (longest bases n (flat_map bases xs) + 1)) (sym (none_same next (flat_map bases xs) same) ∙ ap (λ k. k == 0) none)

pub longest_on : (bases : List ℕ → List (List ℕ)) (n : ℕ) (xs next : List (List ℕ)) → ((p : List ℕ) → is_in next p ≡ is_in (flat_map bases xs) p) → (length next ≡ 0 → ⊥)
    → longest bases (suc n) xs ≡ longest bases n next + 1
longest_on bases n xs next same some =
    ap (λ b. cond b 0 (longest bases n (flat_map bases xs) + 1)) (sym (none_same next (flat_map bases xs) same) ∙ some_length (length next) some)
    ∙ ap (λ k. k + 1) (longest_same bases n (flat_map bases xs) next (λ p. sym (same p)))
