-- How a walk that was begun ends, and how many steps it takes at most. This project's own.
use Rattle.std.specs.Prelude.{ℕ, ◌≡◌, ◌≤◌, ◌+◌, if◌then◌else◌, List, length}
use Rattle.std.specs.List.{sum_by}
use Rattle.tb_config.specs.Walks.{Walk, Step, is_in, walked}

-- the bases of a config that is not entered yet
abbrev pub unmet : (List ℕ → List (List ℕ)) → List (List ℕ) → List ℕ → ℕ
unmet bases entered path = if is_in entered path then 0 else length (bases path)

-- how many steps there are at most, where these paths are all configs with bases
abbrev pub work : (List ℕ → List (List ℕ)) → List (List ℕ) → List (List ℕ) → List Step → ℕ
work bases paths entered steps = length steps + sum_by (unmet bases entered) paths

-- a walk with enough steps ends so
pub record Goes (bases : List ℕ → List (List ℕ)) (paths : List (List ℕ)) (walk : Walk) (steps : List Step) (end : Walk) : Type 0 where
  pub count : ℕ
  pub enough : work bases paths walk.entered steps ≤ count
  pub ends : walked bases count walk steps ≡ end
