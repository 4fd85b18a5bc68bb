-- From a config to its bases and to theirs: depth first, each config once. This project's own.
use Rattle.std.specs.Prelude.{ℕ, zero, suc, ◌+◌, ◌==◌, Bool, if◌then◌else◌, List, [], ◌∷◌, ◌++◌, length, map}
use Rattle.std.specs.List.{flat_map, list_any, sum_by}
use Rattle.std.specs.Str.{bytes_eq}

abbrev pub is_in : List (List ℕ) → List ℕ → Bool
is_in paths path = list_any (bytes_eq path) paths

-- what a walk has found
pub record Walk : Type 0 where
  -- the configs that were entered, in order
  pub entered : List (List ℕ)
  -- the configs that were met on the way down from themselves
  pub circles : List (List ℕ)

-- a config that is to be met, behind the configs that led to it, of which the nearest comes first
abbrev pub Step : Type 0
Step = List (List ℕ) × List ℕ

-- the steps from a config to its bases
abbrev pub steps_from : (List ℕ → List (List ℕ)) → Step → List Step
steps_from bases step = map (λ base. (step.1 ∷ step.0, base)) (bases step.1)

-- at most so many steps: a config that led here is a circle; one that was entered elsewhere has given what it gives; any other
-- is entered, and its bases are met before the steps that are left
abbrev pub walked : (List ℕ → List (List ℕ)) → ℕ → Walk → List Step → Walk
walked bases zero walk steps = walk
walked bases (suc n) walk [] = walk
walked bases (suc n) walk (step ∷ rest) =
    if is_in step.0 step.1 then walked bases n (record walk { circles = walk.circles ++ step.1 ∷ [] }) rest
    else if is_in walk.entered step.1 then walked bases n walk rest
    else walked bases n (record walk { entered = walk.entered ++ step.1 ∷ [] }) (steps_from bases step ++ rest)

-- the walk from a config, where `paths` has all configs with bases: there is a step to each base of each of them at most
abbrev pub walk_from : (List ℕ → List (List ℕ)) → List (List ℕ) → List ℕ → Walk
walk_from bases paths path = walked bases (sum_by (λ p. length (bases p)) paths + 1) (record { entered = []; circles = [] }) (([], path) ∷ [])

-- how often one can go on from some of these configs to a base, at most n times
abbrev pub longest : (List ℕ → List (List ℕ)) → ℕ → List (List ℕ) → ℕ
longest bases zero configs = 0
longest bases (suc n) configs =
    let next = flat_map bases configs in
    if length next == 0 then 0 else longest bases n next + 1
