-- Which project is named where a call of the disk failed.
use Rattle.std.specs.Prelude.{ℕ, ◌≡◌, ◌≢◌, ◌++◌, List, [], ◌∷◌, All, flat_map, map, take, slice_get, Some, IsTrue, IsPermutation, IsSortedByKey}
use Rattle.std.specs.List.{AllByRecursion}
use Rattle.tb_text.specs.Bytes.{bytes_cmp}
use Rattle.tb_text.specs.Paths.{is_inside}
use Rattle.tb_outside.specs.Disk.{Files, read_after_all}
use Rattle.tb_plan.specs.Plans.{plan_of, Sound}
use Rattle.tb_session.specs.Builds.{Pair, pairs_in, project_outputs}
use Rattle.tb_session.specs.Generations.{Tree}
use Rattle.tb_session.specs.Plans.{IsOutside}
use Rattle.tb_session.specs.Scripts.{write_of, in_order}
use Rattle.tb_session.specs.Sources.{Build, IsBuild, projects_in}

-- The outputs of a project were written in their order up to one place: but for the path of the output at that place, the output
-- folder reads as with those before it, and no other, written.
pub record WrittenUpTo (folder : List ℕ) (build : Build) (old new : Files) : Type 0 where
  -- its pairs by their stems
  pub ordered : List Pair
  pub same : IsPermutation (pairs_in build) ordered
  pub ascending : IsSortedByKey (λ pair. pair.stem) bytes_cmp ordered
  pub place : ℕ
  pub reads : (path : List ℕ) → IsTrue (is_inside folder path)
      → ((output : List ℕ × List ℕ) → slice_get (in_order folder build ordered) place ≡ Some output → path ≢ output.0)
      → new path ≡ read_after_all (map write_of (take place (in_order folder build ordered))) old path

-- the project of this config: those before it have all their outputs, and outside its output folder and theirs nothing was touched
pub record Blamed (texts : Tree) (roots : List (List ℕ)) (config : List ℕ) (old new : Files) : Type 0 where
  pub before : List Build
  pub build : Build
  pub after : List Build
  pub plan : plan_of texts roots ≡ Sound (record { projects = projects_in (before ++ build ∷ after) })
  pub are : All (IsBuild texts) (before ++ build ∷ after)
  pub named : config ≡ build.project.setting.config
  -- it is one that writes, into this folder
  pub folder : List ℕ
  pub writes : build.project.setting.folder ≡ Some folder
  pub done : AllByRecursion (λ output. new output.0 ≡ Some output.1) (flat_map project_outputs before)
  -- and what it writes is written in order
  pub so_far : WrittenUpTo folder build old new
  pub others : (path : List ℕ) → IsOutside (Sound (record { projects = projects_in (before ++ build ∷ []) })) path → new path ≡ old path
