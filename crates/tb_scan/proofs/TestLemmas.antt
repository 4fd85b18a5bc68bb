-- Tests that pass or fail.
use Rattle.std.proofs.Common.{◌≡◌, ℕ, ◌+◌, ◌<◌, ◌≤◌, ◌^◌, ◌==◌, Bool, true, false, cond, List, [], ◌∷◌, ◌++◌, length, take, drop, get_or, ◌-◌, sym, ap, subst, ◌∙◌, refl, arith, lit<}
use Rattle.std.specs.Prelude.{◌&&◌}
use Rattle.std.specs.List.{list_all, prefix_len}
use Rattle.std.proofs.lemmas.Bool.{eqb-true}
use Rattle.std.proofs.lemmas.List.{length-drop, drop-drop}
use Rattle.std.proofs.Math.Seq.{take-length}
use Rattle.std.proofs.Math.Nat.{pow-le-pow_right}
use Rattle.tb_scan.specs.Characters.{begins_where}

pub low_power : (i : ℕ) → i ≤ 6 → 16 ^ i ≤ 16 ^ 6
low_power i h = pow-le-pow_right (lit< tt) h

pub and_left : (a b : Bool) → (a && b) ≡ true → a ≡ true
and_left true b h = refl
and_left false b h = h

pub and_right : (a b : Bool) → (a && b) ≡ true → b ≡ true
and_right true b h = h
and_right false b h = absurd (let no : false ≡ true = h in cc)

pub and_both : (a b : Bool) → a ≡ true → b ≡ true → (a && b) ≡ true
and_both true b h k = k
and_both false b h k = h

pub not_both : (b : Bool) → b ≡ true → b ≡ false → ⊥
not_both b h k = let no : true ≡ false = sym h ∙ k in cc

-- what passes a test is no element that fails it
pub differs : (p : ℕ → Bool) (k c : ℕ) → p k ≡ false → p c ≡ true → (c == k) ≡ false
differs p k c h t = by_cases (c == k) refl where
  by_cases : (b : Bool) → (c == k) ≡ b → b ≡ false
  by_cases false e = refl
  by_cases true e = absurd (not_both (p c) t (subst (λ x. p x ≡ false) (sym (eqb-true c k e)) h))

-- how many elements pass, over a front that passes and what follows
pub prefix_past : (p : ℕ → Bool) (ds ys : List ℕ) → list_all p ds ≡ true → prefix_len p (ds ++ ys) ≡ length ds + prefix_len p ys
prefix_past p [] ys h = omega arith
prefix_past p (d ∷ ds) ys h =
    let rest = prefix_past p ds ys (and_right (p d) (list_all p ds) h) in
    ap (λ b. cond b (1 + prefix_len p (ds ++ ys)) 0) (and_left (p d) (list_all p ds) h) ∙ omega (arith, rest)

-- where an element passes, it is the first
pub passes_first : (p : ℕ → Bool) (xs : List ℕ) → 0 < prefix_len p xs → begins_where p xs ≡ true
passes_first p [] h = absurd (omega (arith, h))
passes_first p (x ∷ xs) h = by_cases (p x) refl where
  by_cases : (b : Bool) → p x ≡ b → p x ≡ true
  by_cases true e = e
  by_cases false e = absurd (let none : prefix_len p (x ∷ xs) ≡ 0 = ap (λ b. cond b (1 + prefix_len p xs) 0) e in omega (arith, h, none))

-- `&xs[n..]`
pub rest_is : (n : ℕ) (xs : List ℕ) → take (length xs - n) (drop n xs) ≡ drop n xs
rest_is n xs = ap (λ m. take m (drop n xs)) (sym (length-drop n xs)) ∙ take-length (drop n xs)

pub two_first : (xs : List ℕ) → 2 ≤ length xs → xs ≡ get_or xs 0 0 ∷ get_or xs 1 0 ∷ drop 2 xs
two_first [] h = absurd (omega (arith, h))
two_first (a ∷ []) h = absurd (omega (arith, h))
two_first (a ∷ b ∷ xs) h = refl

pub after_one : (n : ℕ) (b text : List ℕ) → b ≡ text → take (length b - (n + 1)) (drop (n + 1) b) ≡ drop n (drop 1 text)
after_one n b text e =
    let turn : n + 1 ≡ 1 + n = omega arith in
    rest_is (n + 1) b ∙ ap (λ x. drop (n + 1) x) e ∙ ap (λ m. drop m text) turn ∙ sym (drop-drop n 1 text)
