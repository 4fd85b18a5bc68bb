-- The outputs of a stem are paths: of a plan without faults, all are. This project's own.
use Rattle.std.specs.Prelude.{ℕ, ◌≡◌, List, IsTrue, Some, Contains, codes}
use Rattle.tb_text.specs.Paths.{is_path}
use Rattle.tb_face.specs.Outputs.{output_text, stem_text}

pub record HasOutputPaths (folder stem : List ℕ) : Type 0 where
  pub js : IsTrue (is_path (output_text folder stem (codes ".js")))
  pub declaration : IsTrue (is_path (output_text folder stem (codes ".d.ts")))

-- those of all inputs at these paths
abbrev pub HaveOutputPaths : List ℕ → List ℕ → List (List ℕ) → Type 0
HaveOutputPaths root folder paths = (path stem : List ℕ) → Contains paths path → stem_text root path ≡ Some stem → HasOutputPaths folder stem
