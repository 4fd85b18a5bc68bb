-- Loops that add faults, one step further.
use Rattle.std.proofs.Common.{◌≡◌, ℕ, ◌+◌, ◌-◌, ◌<◌, ◌≤◌, ◌^◌, Bool, true, false, cond, List, [], ◌∷◌, ◌++◌, length, get_or, take, min, refl, sym, ap, ◌∙◌, inl, inr, arith, append_assoc}
use Rattle.std.specs.Prelude.{map, sum_by, nat_lt}
use Rattle.std.specs.List.{filter, flat_map}
use Rattle.std.proofs.lemmas.Bool.{cases_lt, lt-ltb, ltb-true}
use Rattle.std.proofs.lemmas.List.{map-append}
use Rattle.std.proofs.lemmas.List.Elements.{filter-append}
use Rattle.std.proofs.lemmas.List.Sums.{sum_by-append, sum_by-cons}
use Rattle.tb_text.specs.declared.findings.Diag.{Diag}
use Rattle.tb_plan.proofs.Members.{taken}
use Rattle.tb_plan.proofs.Firsts.{flat_push}

map_cond : {X Y : Type 0} (f : X → Y) (b : Bool) (x : X) → map f (cond b (x ∷ []) []) ≡ cond b (f x ∷ []) []
map_cond f true x = refl
map_cond f false x = refl

-- what one more member adds, where it passes the test
pub where_more : {X Y : Type 0} (p : X → Bool) (f : X → Y) (xs : List X) (x : X) → map f (filter p (xs ++ x ∷ [])) ≡ map f (filter p xs) ++ cond (p x) (f x ∷ []) []
where_more p f xs x = ap (λ l. map f l) (filter-append p xs (x ∷ [])) ∙ map-append f (filter p xs) (filter p (x ∷ [])) ∙ ap (λ l. map f (filter p xs) ++ l) (map_cond f (p x) x)

pub where_step : {X : Type 0} (p : X → Bool) (f : X → Diag) (xs : List X) (i : ℕ) (x : X) (start so_far new : List Diag) → i < length xs → x ≡ get_or xs i x → so_far ≡ start ++ map f (filter p (take i xs))
    → new ≡ so_far ++ cond (p x) (f x ∷ []) [] → new ≡ start ++ map f (filter p (take (i + 1) xs))
where_step p f xs i x start so_far new lt at is e =
    e ∙ ap (λ (l : List Diag). l ++ cond (p x) (f x ∷ []) []) is ∙ append_assoc start (map f (filter p (take i xs))) (cond (p x) (f x ∷ []) [])
    ∙ ap (λ (l : List Diag). start ++ l) (sym (ap (λ l. map f (filter p l)) (taken xs i x lt at) ∙ where_more p f (take i xs) x))

pub flat_step : {X : Type 0} (f : X → List Diag) (xs : List X) (i : ℕ) (x : X) (start so_far new : List Diag) → i < length xs → x ≡ get_or xs i x → so_far ≡ start ++ flat_map f (take i xs) → new ≡ so_far ++ f x
    → new ≡ start ++ flat_map f (take (i + 1) xs)
flat_step f xs i x start so_far new lt at is e =
    e ∙ ap (λ (l : List Diag). l ++ f x) is ∙ append_assoc start (flat_map f (take i xs)) (f x)
    ∙ ap (λ (l : List Diag). start ++ l) (sym (ap (λ l. flat_map f l) (taken xs i x lt at) ∙ flat_push f (take i xs) x))

-- ---- sums that stay at the last value of u64

pub sum_step : {X : Type 0} (f : X → ℕ) (xs : List X) (i : ℕ) (x : X) (so_far more new : ℕ) → i < length xs → x ≡ get_or xs i x → so_far ≡ min (sum_by f (take i xs)) (2 ^ 64 - 1) → more ≡ min (f x) (2 ^ 64 - 1)
    → new ≡ min (so_far + more) (2 ^ 64 - 1) → new ≡ min (sum_by f (take (i + 1) xs)) (2 ^ 64 - 1)
sum_step f xs i x so_far more new lt at is m e =
    omega (arith, e, is, m, ap (λ l. sum_by f l) (taken xs i x lt at), sum_by-append f (take i xs) (x ∷ []), sum_by-cons f x [])

-- ---- pieces one after the other

pub two_pieces : (start one two a b : List Diag) → one ≡ start ++ a → two ≡ one ++ b → two ≡ start ++ (a ++ b)
two_pieces start one two a b e f = f ∙ ap (λ (l : List Diag). l ++ b) e ∙ append_assoc start a b

pub three_pieces : (start one two three a b c : List Diag) → one ≡ start ++ a → two ≡ one ++ b → three ≡ two ++ c → three ≡ start ++ ((a ++ b) ++ c)
three_pieces start one two three a b c e f g = two_pieces start two three (a ++ b) c (two_pieces start one two a b e f) g

-- ---- texts that are no path

conds : {X : Type 0} (a b c : Bool) (x y z : X) → cond a (x ∷ cond b (y ∷ cond c (z ∷ []) []) (cond c (z ∷ []) [])) (cond b (y ∷ cond c (z ∷ []) []) (cond c (z ∷ []) [])) ≡ (cond a (x ∷ []) [] ++ cond b (y ∷ []) []) ++ cond c (z ∷ []) []
conds true true c x y z = refl
conds true false c x y z = refl
conds false true c x y z = refl
conds false false c x y z = refl

map_conds : (f : List ℕ → Diag) (a b c : Bool) (x y z : List ℕ) → map f ((cond a (x ∷ []) [] ++ cond b (y ∷ []) []) ++ cond c (z ∷ []) []) ≡ (cond a (f x ∷ []) [] ++ cond b (f y ∷ []) []) ++ cond c (f z ∷ []) []
map_conds f a b c x y z = map-append f (cond a (x ∷ []) [] ++ cond b (y ∷ []) []) (cond c (z ∷ []) []) ∙ ap (λ (l : List Diag). l ++ map f (cond c (z ∷ []) [])) (map-append f (cond a (x ∷ []) []) (cond b (y ∷ []) []))
    ∙ ap (λ (l : List Diag). (l ++ map f (cond b (y ∷ []) [])) ++ map f (cond c (z ∷ []) [])) (map_cond f a x)
    ∙ ap (λ (l : List Diag). (cond a (f x ∷ []) [] ++ l) ++ map f (cond c (z ∷ []) [])) (map_cond f b y)
    ∙ ap (λ (l : List Diag). (cond a (f x ∷ []) [] ++ cond b (f y ∷ []) []) ++ l) (map_cond f c z)

pub three_tested : (p : List ℕ → Bool) (f : List ℕ → Diag) (x y z : List ℕ) → map f (filter p (x ∷ y ∷ z ∷ [])) ≡ (cond (p x) (f x ∷ []) [] ++ cond (p y) (f y ∷ []) []) ++ cond (p z) (f z ∷ []) []
three_tested p f x y z = ap (λ (l : List (List ℕ)). map f l) (conds (p x) (p y) (p z) x y z) ∙ map_conds f (p x) (p y) (p z) x y z

pub one_tested : (p : List ℕ → Bool) (f : List ℕ → Diag) (x : List ℕ) → map f (filter p (x ∷ [])) ≡ cond (p x) (f x ∷ []) []
one_tested p f x = map_cond f (p x) x

-- ---- limits

pub beyond_min : (m n : ℕ) → m < 2 ^ 64 - 1 → nat_lt m (min n (2 ^ 64 - 1)) ≡ nat_lt m n
beyond_min m n lt = elim (cases_lt m n) [
  | inl a ↦ lt-ltb m (min n (2 ^ 64 - 1)) (omega arith) ∙ sym (lt-ltb m n a)
  | inr b ↦ ge_ltb m (min n (2 ^ 64 - 1)) (omega arith) ∙ sym (ge_ltb m n b)
]
  where
    ge_ltb : (a b : ℕ) → b ≤ a → nat_lt a b ≡ false
    ge_ltb a b le = elim (nat_lt a b) as (λ t. nat_lt a b ≡ t → t ≡ false) [ true ↦ λ e. absurd (omega (arith, ltb-true a b e)) | false ↦ λ e. refl ] refl
