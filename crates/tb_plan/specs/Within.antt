-- The files that `include` takes, found pattern by pattern within the pattern's folder. This project's own.
use Rattle.std.specs.Prelude.{ℕ, ◌≡◌, Bool, true, not, ◌&&◌, List, Contains}
use Rattle.std.specs.List.{list_any}
use Rattle.std.specs.Ordering.{is_lt}
use Rattle.tb_text.specs.Bytes.{bytes_cmp}
use Rattle.tb_globs.specs.Globs.{is_match}
use Rattle.tb_globs.specs.declared.parts.UseOf.TheVariants.{Include, Exclude}
use Rattle.tb_config.specs.declared.setting.Setting.{Setting}
use Rattle.tb_plan.specs.Orders.{Paths}

-- a pattern finds the path, and `exclude` does not take it out
abbrev pub is_taken : Setting → List ℕ × List ℕ → List ℕ → Bool
is_taken s pattern path = is_match pattern Include path && not (list_any (λ p. is_match p Exclude path) s.exclude)

-- some of the files, and among them all that pass a test
pub record HasAll (p : List ℕ → Bool) (some files : Paths) : Type 0 where
  pub from : (path : List ℕ) → Contains some path → Contains files path
  pub each : (path : List ℕ) → Contains files path → p path ≡ true → Contains some path

-- ---- by the order of the bytes

abbrev pub is_before : List ℕ → List ℕ → Bool
is_before text path = is_lt (bytes_cmp path text)

-- no earlier than the first text, and before the second
abbrev pub is_between : List ℕ → List ℕ → List ℕ → Bool
is_between from to path = not (is_before from path) && is_before to path
