-- What is done on the disk for a build: project after project, the outputs are written in ascending order of their stems, each
-- JavaScript before its declaration, and then the info. A source with a fault writes nothing. This project's own.
use Rattle.std.specs.Prelude.{ℕ, ◌≡◌, List, [], ◌∷◌, ◌++◌, Some, None, map, flat_map, IsPermutation, IsSortedByKey}
use Rattle.tb_outside.specs.declared.disks.DiskStep.{DiskStep}
use Rattle.tb_outside.specs.declared.disks.DiskStep.TheVariants.{Write}
use Rattle.tb_text.specs.Bytes.{bytes_cmp}
use Rattle.tb_session.specs.Builds.{Pair, pairs_in, outputs_of, info_output}
use Rattle.tb_session.specs.Sources.{Build}
use Rattle.tb_session.specs.declared.publishes.Script.{Script}

abbrev pub write_of : List ℕ × List ℕ → DiskStep
write_of output = Write output.0 output.1

-- its outputs in the order in which they are written, of pairs in the order of their stems: each JavaScript before its declaration, and the info last
abbrev pub in_order : List ℕ → Build → List Pair → List (List ℕ × List ℕ)
in_order folder build ordered = flat_map (outputs_of folder) ordered ++ info_output folder build ∷ []

-- the steps of one project with an output folder
pub record IsScript (folder : List ℕ) (build : Build) (steps : List DiskStep) : Type 0 where
  -- the outputs by their stems
  pub ordered : List Pair
  pub same : IsPermutation (pairs_in build) ordered
  pub ascending : IsSortedByKey (λ pair. pair.stem) bytes_cmp ordered
  pub are : steps ≡ map write_of (in_order folder build ordered)

-- the scripts of all projects that have an output folder, in plan order
pub data AreScripts : List Build → List Script → Type 0 where
  none : AreScripts [] []
  without : {build : Build} {builds : List Build} {scripts : List Script} → build.project.setting.folder ≡ None
      → AreScripts builds scripts → AreScripts (build ∷ builds) scripts
  more : {build : Build} {builds : List Build} {script : Script} {scripts : List Script} (folder : List ℕ) → build.project.setting.folder ≡ Some folder
      → script.config ≡ build.project.setting.config → IsScript folder build script.steps
      → AreScripts builds scripts → AreScripts (build ∷ builds) (script ∷ scripts)
