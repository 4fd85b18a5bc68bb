-- Lines and columns, one byte further.
use Rattle.std.proofs.Common.{◌≡◌, ℕ, suc, ◌+◌, ◌==◌, Bool, true, false, cond, List, [], ◌∷◌, ◌++◌, refl, ap, ◌∙◌, take, arith}
use Rattle.std.specs.Prelude.{count_by, not, reverse, take_while}
use Rattle.std.proofs.lemmas.List.{reverse-append}
use Rattle.std.proofs.lemmas.List.Sums.{sum_by-append, sum_by-cons}
use Rattle.tb_text.specs.Lines.{begins_character, column_of_end, line_of_end}

abbrev flag : (lf : Bool) → ℕ
flag lf = cond lf 1 0

line_step : (t : List ℕ) (b : ℕ) → count_by (λ x. x == 10) (t ++ b ∷ []) ≡ count_by (λ x. x == 10) t + (0 + flag (b == 10))
line_step t b = sum_by-append (λ x. cond (x == 10) 1 0) t (b ∷ [])

pub line_lf : (t : List ℕ) (b : ℕ) → (b == 10) ≡ true → line_of_end (t ++ b ∷ []) ≡ line_of_end t + 1
line_lf t b e = let f : flag (b == 10) ≡ 1 = ap flag e in omega (arith, line_step t b, f)

pub line_other : (t : List ℕ) (b : ℕ) → (b == 10) ≡ false → line_of_end (t ++ b ∷ []) ≡ line_of_end t
line_other t b e = let f : flag (b == 10) ≡ 0 = ap flag e in omega (arith, line_step t b, f)

behind : List ℕ → List ℕ
behind = take_while (λ b. not (b == 10))

behind_lf : (r : List ℕ) (b : ℕ) → (b == 10) ≡ true → behind (b ∷ r) ≡ []
unfolding behind
behind_lf r b e = rw e refl

take_next : (b : ℕ) (r : List ℕ) (n : ℕ) → take (1 + n) (b ∷ r) ≡ b ∷ take n r
take_next b r n = let e : 1 + n ≡ suc n = omega arith in rw e refl

behind_other : (r : List ℕ) (b : ℕ) → (b == 10) ≡ false → behind (b ∷ r) ≡ b ∷ behind r
unfolding behind
behind_other r b e = rw e (take_next b r _)

pub column_lf : (t : List ℕ) (b : ℕ) → (b == 10) ≡ true → column_of_end (t ++ b ∷ []) ≡ 1
unfolding behind
column_lf t b e = ap (λ (r : List ℕ). count_by begins_character (behind r) + 1) (reverse-append t (b ∷ [])) ∙ ap (λ (r : List ℕ). count_by begins_character r + 1) (behind_lf (reverse t) b e)

column_step : (t : List ℕ) (b : ℕ) → (b == 10) ≡ false → column_of_end (t ++ b ∷ []) ≡ flag (begins_character b) + count_by begins_character (behind (reverse t)) + 1
unfolding behind
column_step t b e =
    ap (λ (r : List ℕ). count_by begins_character (behind r) + 1) (reverse-append t (b ∷ []))
    ∙ ap (λ (r : List ℕ). count_by begins_character r + 1) (behind_other (reverse t) b e)
    ∙ ap (λ (n : ℕ). n + 1) (sum_by-cons (λ x. cond (begins_character x) 1 0) b (behind (reverse t)))

pub column_one : (t : List ℕ) (b : ℕ) → (b == 10) ≡ false → begins_character b ≡ true → column_of_end (t ++ b ∷ []) ≡ column_of_end t + 1
unfolding behind
column_one t b e k = let f : flag (begins_character b) ≡ 1 = ap flag k in omega (arith, column_step t b e, f)

pub column_none : (t : List ℕ) (b : ℕ) → (b == 10) ≡ false → begins_character b ≡ false → column_of_end (t ++ b ∷ []) ≡ column_of_end t
unfolding behind
column_none t b e k = let f : flag (begins_character b) ≡ 0 = ap flag k in omega (arith, column_step t b e, f)
