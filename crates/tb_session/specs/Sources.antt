-- The sources of a project: what each input reads as. This project's own.
use Rattle.std.specs.Prelude.{ℕ, ◌≡◌, Bool, true, false, List, [], Option, Some, None, map as each_of, codes, nat_eq}
use Rattle.std.specs.List.{AllZip, ends_with}
use Rattle.std.specs.FinMap as map
use Rattle.tb_text.specs.declared.findings.Finding.{Finding}
use Rattle.tb_face.specs.Outputs.{stem_text}
use Rattle.tb_tree.specs.declared.items.File.{File}
use Rattle.tb_parse_file.specs.Files.{ReadsFile, HasFault}
use Rattle.tb_parse_file.specs.Decls.{HasDeclFault}
use Rattle.tb_plain.specs.Plain.{IsPlain}
use Rattle.tb_plan.specs.declared.plans.Project.{Project}
use Rattle.tb_session.specs.Generations.{Tree}

-- what an input reads as: a plain file, whose outputs have this stem; or it has one syntax fault, and no outputs
pub data Reading : Type 0 where
  Plain : List ℕ → File → Reading
  Faulty : Finding → Reading

-- the path of a declaration file
abbrev pub is_declaration : List ℕ → Bool
is_declaration path = ends_with nat_eq path (codes ".d.ts")

-- The text of the input at a path reads so. The stem counts from the project's root. A text that reads as a file that is not plain, and a
-- declaration file that reads, have no such reading: they are not built yet.
pub data ReadsAs (root path text : List ℕ) : Reading → Type 0 where
  plain : {stem : List ℕ} {file : File} → is_declaration path ≡ false → stem_text root path ≡ Some stem → ReadsFile text file → IsPlain text file
      → ReadsAs root path text (Plain stem file)
  faulty : {finding : Finding} → is_declaration path ≡ false → HasFault text finding → ReadsAs root path text (Faulty finding)
  faulty_declaration : {finding : Finding} → is_declaration path ≡ true → HasDeclFault text finding → ReadsAs root path text (Faulty finding)

-- an input: its path, its text, and what the text reads as
pub record Source : Type 0 where
  pub path : List ℕ
  pub text : List ℕ
  pub reading : Reading

-- the file at a path has this text, which reads so
pub record HasFile (texts : Tree) (root path text : List ℕ) (reading : Reading) : Type 0 where
  pub found : map.get texts path ≡ Some text
  pub reads : ReadsAs root path text reading

-- the input at a path is this source
pub record IsSource (texts : Tree) (root path : List ℕ) (source : Source) : Type 0 where
  pub at : source.path ≡ path
  pub has_file : HasFile texts root path source.text source.reading

-- the inputs at these paths are these sources
abbrev pub AreSources : Tree → List ℕ → List (List ℕ) → List Source → Type 0
AreSources texts root paths sources = AllZip (IsSource texts root) paths sources

-- one source for each input; a project without an output folder has none
abbrev pub HasSources : Tree → Project → Option (List ℕ) → List Source → Type 0
HasSources texts project None sources = sources ≡ []
HasSources texts project (Some folder) sources = AreSources texts project.setting.root project.inputs sources

-- a project with its sources
pub record Build : Type 0 where
  pub project : Project
  pub sources : List Source

abbrev pub IsBuild : Tree → Build → Type 0
IsBuild texts build = HasSources texts build.project build.project.setting.folder build.sources

abbrev pub projects_in : List Build → List Project
projects_in builds = each_of (λ build. build.project) builds
