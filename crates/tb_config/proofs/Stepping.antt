-- How a walk goes on, one step further.
use Rattle.std.proofs.Common.{ℕ, zero, suc, ◌≡◌, ◌≤◌, ◌<◌, ◌+◌, Bool, true, false, cond, List, [], ◌∷◌, ◌++◌, ◌||◌, length, ap, subst, ◌∙◌, refl, arith, ◌⊎◌, inl, inr, length-append}
use Rattle.std.proofs.lemmas.List.{length-map}
use Rattle.std.proofs.lemmas.List.Sums.{sum_by-cons}
use Rattle.std.specs.List.{sum_by}
use Rattle.std.specs.Str.{bytes_eq}
use Rattle.tb_config.specs.Walks.{Walk, Step, is_in, steps_from, walked, walk_from}
use Rattle.tb_config.specs.Going.{Goes, unmet, work}
use Rattle.tb_config.proofs.Paths.{same_path, path_itself, is_in-append}

-- ---- what is left to meet falls

cond_falls : (a b : Bool) (n : ℕ) → cond (a || b) 0 n ≤ cond a 0 n
cond_falls true b n = omega arith
cond_falls false true n = omega arith
cond_falls false false n = omega arith

unmet_falls : (bases : List ℕ → List (List ℕ)) (entered : List (List ℕ)) (path q : List ℕ) → unmet bases (entered ++ path ∷ []) q ≤ unmet bases entered q
unmet_falls bases entered path q = rw (is_in-append entered (path ∷ []) q) (cond_falls (is_in entered q) (is_in (path ∷ []) q) (length (bases q)))

sum_falls : (bases : List ℕ → List (List ℕ)) (entered : List (List ℕ)) (path : List ℕ) (qs : List (List ℕ)) → sum_by (unmet bases (entered ++ path ∷ [])) qs ≤ sum_by (unmet bases entered) qs
sum_falls bases entered path [] = omega arith
sum_falls bases entered path (q ∷ qs) =
    rw (sum_by-cons (unmet bases (entered ++ path ∷ [])) q qs, sum_by-cons (unmet bases entered) q qs)
    (omega (arith, unmet_falls bases entered path q, sum_falls bases entered path qs))

-- an entered config is met no more
or_true : (a : Bool) → (a || true) ≡ true
or_true true = refl
or_true false = refl

unmet_none : (bases : List ℕ → List (List ℕ)) (entered : List (List ℕ)) (path : List ℕ) → unmet bases (entered ++ path ∷ []) path ≡ 0
unmet_none bases entered path = rw (is_in-append entered (path ∷ []) path, path_itself path, or_true (is_in entered path)) refl

-- at the first path, which is the one that is entered, or another one
drops_first : (bases : List ℕ → List (List ℕ)) (entered : List (List ℕ)) (path q : List ℕ) (qs : List (List ℕ)) (b : Bool) → bytes_eq path q ≡ b → is_in entered path ≡ false
    → (b || is_in qs path) ≡ true → (is_in qs path ≡ true → sum_by (unmet bases (entered ++ path ∷ [])) qs + length (bases path) ≤ sum_by (unmet bases entered) qs)
    → unmet bases (entered ++ path ∷ []) q + sum_by (unmet bases (entered ++ path ∷ [])) qs + length (bases path) ≤ unmet bases entered q + sum_by (unmet bases entered) qs
drops_first bases entered path q qs true e new there later =
    let same = same_path path q e in
    let none : unmet bases (entered ++ path ∷ []) q ≡ 0 = subst (λ p. unmet bases (entered ++ path ∷ []) p ≡ 0) same (unmet_none bases entered path) in
    let whole : unmet bases entered path ≡ length (bases path) = ap (λ b. cond b 0 (length (bases path))) new in
    let all : unmet bases entered q ≡ length (bases path) = subst (λ p. unmet bases entered p ≡ length (bases path)) same whole in
    omega (arith, none, all, sum_falls bases entered path qs)
drops_first bases entered path q qs false e new there later = omega (arith, unmet_falls bases entered path q, later there)

sum_drops : (bases : List ℕ → List (List ℕ)) (entered : List (List ℕ)) (path : List ℕ) (qs : List (List ℕ)) → is_in entered path ≡ false → is_in qs path ≡ true
    → sum_by (unmet bases (entered ++ path ∷ [])) qs + length (bases path) ≤ sum_by (unmet bases entered) qs
sum_drops bases entered path [] new there = absurd (grind arith)
sum_drops bases entered path (q ∷ qs) new there =
    rw (sum_by-cons (unmet bases (entered ++ path ∷ [])) q qs, sum_by-cons (unmet bases entered) q qs)
    (drops_first bases entered path q qs (bytes_eq path q) refl new there (sum_drops bases entered path qs new))

-- ---- steps

steps_long : (bases : List ℕ → List (List ℕ)) (step : Step) (rest : List Step) → length (steps_from bases step ++ rest) ≡ length (bases step.1) + length rest
steps_long bases step rest = length-append (steps_from bases step) rest ∙ ap (λ n. n + length rest) (length-map (bases step.1) (λ base. (step.1 ∷ step.0, base)))

fewer_by : (bases : List ℕ → List (List ℕ)) (paths entered : List (List ℕ)) (path : List ℕ) → is_in entered path ≡ false → (is_in paths path ≡ true) ⊎ (bases path ≡ [])
    → sum_by (unmet bases (entered ++ path ∷ [])) paths + length (bases path) ≤ sum_by (unmet bases entered) paths
fewer_by bases paths entered path new there = elim there [
  | inl kept ↦ sum_drops bases entered path paths new kept
  | inr none ↦ let zero_long : length (bases path) ≡ 0 = ap length none in omega (arith, zero_long, sum_falls bases entered path paths)
]

module _ (bases : List ℕ → List (List ℕ)) (paths : List (List ℕ)) (end : Walk) where
  -- the config led here
  pub goes_round : (walk : Walk) (step : Step) (rest : List Step) → is_in step.0 step.1 ≡ true
      → Goes bases paths walk (step ∷ rest) end → Goes bases paths (record walk { circles = walk.circles ++ step.1 ∷ [] }) rest end
  goes_round walk step rest above goes = by_count goes.count goes.enough goes.ends
    where
      by_count : (n : ℕ) → work bases paths walk.entered (step ∷ rest) ≤ n → walked bases n walk (step ∷ rest) ≡ end → Goes bases paths (record walk { circles = walk.circles ++ step.1 ∷ [] }) rest end
      by_count zero enough ends = absurd (omega arith)
      by_count (suc n) enough ends = record { count = n; enough = omega arith; ends = rw above at ends }

  -- the config was entered elsewhere
  pub goes_past : (walk : Walk) (step : Step) (rest : List Step) → is_in step.0 step.1 ≡ false → is_in walk.entered step.1 ≡ true
      → Goes bases paths walk (step ∷ rest) end → Goes bases paths walk rest end
  goes_past walk step rest below old goes = by_count goes.count goes.enough goes.ends
    where
      by_count : (n : ℕ) → work bases paths walk.entered (step ∷ rest) ≤ n → walked bases n walk (step ∷ rest) ≡ end → Goes bases paths walk rest end
      by_count zero enough ends = absurd (omega arith)
      by_count (suc n) enough ends = record { count = n; enough = omega arith; ends = rw (below, old) at ends }

  -- the config is entered
  pub goes_in : (walk : Walk) (step : Step) (rest : List Step) → is_in step.0 step.1 ≡ false → is_in walk.entered step.1 ≡ false → (is_in paths step.1 ≡ true) ⊎ (bases step.1 ≡ [])
      → Goes bases paths walk (step ∷ rest) end → Goes bases paths (record walk { entered = walk.entered ++ step.1 ∷ [] }) (steps_from bases step ++ rest) end
  goes_in walk step rest below new there goes = by_count goes.count goes.enough goes.ends
    where
      by_count : (n : ℕ) → work bases paths walk.entered (step ∷ rest) ≤ n → walked bases n walk (step ∷ rest) ≡ end
          → Goes bases paths (record walk { entered = walk.entered ++ step.1 ∷ [] }) (steps_from bases step ++ rest) end
      by_count zero enough ends = absurd (omega arith)
      by_count (suc n) enough ends = record { count = n; enough = omega (arith, fewer_by bases paths walk.entered step.1 new there, steps_long bases step rest); ends = rw (below, new) at ends }

  pub goes_end : (walk : Walk) → Goes bases paths walk [] end → walk ≡ end
  goes_end walk goes = by_count goes.count goes.ends
    where
      by_count : (n : ℕ) → walked bases n walk [] ≡ end → walk ≡ end
      by_count zero ends = ends
      by_count (suc n) ends = ends

pub goes_start : (bases : List ℕ → List (List ℕ)) (paths : List (List ℕ)) (path : List ℕ)
    → Goes bases paths (record { entered = []; circles = [] }) (([], path) ∷ []) (walk_from bases paths path)
goes_start bases paths path = record { count = sum_by (λ p. length (bases p)) paths + 1; enough = omega arith; ends = refl }

-- how much less is left after a config was entered
pub work_in : (bases : List ℕ → List (List ℕ)) (paths entered : List (List ℕ)) (step : Step) (rest : List Step) → is_in entered step.1 ≡ false → (is_in paths step.1 ≡ true) ⊎ (bases step.1 ≡ [])
    → work bases paths (entered ++ step.1 ∷ []) (steps_from bases step ++ rest) < work bases paths entered (step ∷ rest)
work_in bases paths entered step rest new there =
    omega (arith, steps_long bases step rest, fewer_by bases paths entered step.1 new there)
