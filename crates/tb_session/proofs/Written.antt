-- What is written is read, and nothing else is changed.
use Rattle.std.proofs.Common.{◌≡◌, ◌≢◌, ◌⊎◌, inl, inr, ℕ, zero, suc, ◌<◌, List, [], ◌∷◌, ◌++◌, map, flat_map, take, take_all, get_or, refl, sym, ap, ◌∙◌, subst, codes, arith, Bool, true, false, IsTrue}
use Rattle.std.specs.Prelude.{All, Option, Some, None, cond, slice_get}
use Rattle.std.specs.List.{AllByRecursion}
use Rattle.std.specs.Str.{bytes_eq}
use Rattle.std.specs.Option.{option_to_list}
use Rattle.std.proofs.lemmas.Bool.{true≢false}
use Rattle.std.proofs.lemmas.List.Elements.{All-from_recursion, recursion_from_All}
use Rattle.std.proofs.lemmas.List.Sorted.{Contains-permutation}
use Rattle.tb_text.specs.Paths.{is_inside}
use Rattle.tb_outside.specs.Disk.{Files, put_at, read_after_all}
use Rattle.tb_outside.specs.Laws.{put_here, put_other, which_path}
use Rattle.tb_outside.specs.Playing.{IsElsewhere}
use Rattle.tb_outside.specs.declared.disks.DiskStep.{DiskStep}
use Rattle.tb_outside.specs.declared.disks.DiskStep.TheVariants.{Sync}
use Rattle.tb_plan.specs.Folders.{are_shared, is_shared}
use Rattle.tb_plan.specs.Laws.{PlanOk}
use Rattle.tb_plan.specs.Plans.{plan_of, Sound}
use Rattle.tb_plan.specs.declared.plans.Project.{Project}
use Rattle.tb_session.specs.Blamed.{Blamed, WrittenUpTo}
use Rattle.tb_session.specs.Builds.{Pair, pairs_by, pairs_of, pairs_in, js_output, declaration_output, outputs_of, info_output, outputs_in, project_outputs}
use Rattle.tb_face.specs.Outputs.{stem_text}
use Rattle.tb_session.specs.Generations.{Tree}
use Rattle.tb_session.specs.Plans.{IsOutside}
use Rattle.tb_session.specs.Publishes.{FailsAt, steps_of}
use Rattle.tb_session.specs.Scripts.{write_of, in_order, IsScript, AreScripts}
use Rattle.tb_session.specs.Sources.{Reading, Plain, Faulty, ReadsAs, Source, Build, IsSource, AreSources, HasSources, IsBuild, projects_in}
use Rattle.tb_session.specs.declared.publishes.Script.{Script}
use Rattle.tb_session.proofs.Members.{In, in_left, in_right, in_append, in_flat, flat_in, in_map, all_by, each_of, in_permuted, in_from, in_back}
use Rattle.tb_session.proofs.OneBuild.{one_source}
use Rattle.tb_session.proofs.Outputs.{one_stem, one_path, js_not_declaration, js_not_info, declaration_not_info, output_inside, info_inside, not_both}

abbrev pub Output : Type 0
Output = List ℕ × List ℕ

abbrev writes : List Output → List DiskStep
writes outputs = map write_of outputs

-- ---- one path

-- whatever else is written to this path is these bytes
abbrev Only : Output → List Output → Type 0
Only output outputs = (o : Output) → In outputs o → o.0 ≡ output.0 → o.1 ≡ output.1

read_back : (output : Output) (outputs : List Output) (files : Files) → Only output outputs → (files output.0 ≡ Some output.1) ⊎ In outputs output
    → read_after_all (writes outputs) files output.0 ≡ Some output.1
read_back output [] files only has = elim has [
  | inl there ↦ there
  | inr none ↦ absurd none
]
read_back output (o ∷ outputs) files only has =
    let rest : Only output outputs = λ p i. only p (inr i) in
    elim has [
      | inl there ↦ read_back output outputs (put_at o.0 (Some o.1) files) rest (elim (which_path output.0 o.0) [
        | inl same ↦ inl (ap (put_at o.0 (Some o.1) files) same ∙ put_here o.0 (Some o.1) files ∙ ap Some (only o (inl refl) (sym same)))
        | inr other ↦ inl (put_other o.0 (Some o.1) files output.0 other ∙ there)
      ])
      | inr named ↦ elim named [
        | inl is ↦ read_back output outputs (put_at o.0 (Some o.1) files) rest
            (inl (ap (put_at o.0 (Some o.1) files) (ap (λ (x : Output). x.0) (sym is)) ∙ put_here o.0 (Some o.1) files ∙ ap (λ (x : Output). Some x.1) is))
        | inr later ↦ read_back output outputs (put_at o.0 (Some o.1) files) rest (inr later)
      ]
    ]

pub left_alone : (path : List ℕ) (steps : List DiskStep) (outputs : List Output) (files : Files) → steps ≡ writes outputs → ((o : Output) → In outputs o → path ≢ o.0) → read_after_all steps files path ≡ files path
left_alone path steps outputs files are differ = ap (λ (ss : List DiskStep). read_after_all ss files path) are ∙ by outputs files differ
  where
    by : (outputs : List Output) (files : Files) → ((o : Output) → In outputs o → path ≢ o.0) → read_after_all (writes outputs) files path ≡ files path
    by [] files differ = refl
    by (o ∷ outputs) files differ = by outputs (put_at o.0 (Some o.1) files) (λ p i. differ p (inr i)) ∙ put_other o.0 (Some o.1) files path (differ o (inl refl))

pub elsewhere_of : (path : List ℕ) (steps : List DiskStep) (outputs : List Output) → steps ≡ writes outputs → ((o : Output) → In outputs o → path ≢ o.0) → All (IsElsewhere path) steps
elsewhere_of path steps outputs are differ = subst (λ (ss : List DiskStep). All (IsElsewhere path) ss) (sym are) (All-from_recursion (IsElsewhere path) (writes outputs) (by outputs differ))
  where
    by : (outputs : List Output) → ((o : Output) → In outputs o → path ≢ o.0) → AllByRecursion (IsElsewhere path) (writes outputs)
    by [] differ = tt
    by (o ∷ outputs) differ = (differ o (inl refl), by outputs (λ p i. differ p (inr i)))

-- ---- the outputs of a project

-- outputs at one path are one
abbrev pub Agree : List Output → Type 0
Agree outputs = (o p : Output) → In outputs o → In outputs p → o.0 ≡ p.0 → o.1 ≡ p.1

-- this is the source at its own path
abbrev IsAtPath : Tree → List ℕ → Source → Type 0
IsAtPath texts root source = IsSource texts root source.path source

all_at_paths : (texts : Tree) (root : List ℕ) (paths : List (List ℕ)) (sources : List Source) → AreSources texts root paths sources → AllByRecursion (IsAtPath texts root) sources
all_at_paths texts root [] [] are = tt
all_at_paths texts root [] (s ∷ sources) are = absurd are
all_at_paths texts root (p ∷ paths) [] are = absurd are
all_at_paths texts root (p ∷ paths) (s ∷ sources) are = (subst (λ (q : List ℕ). IsSource texts root q s) (sym are.0.at) are.0, all_at_paths texts root paths sources are.1)

-- a pair of outputs has the stem of its source's path
named_by : (root path text : List ℕ) (reading : Reading) (pair : Pair) → ReadsAs root path text reading → In (pairs_by reading) pair → stem_text root path ≡ Some pair.stem
named_by root path text (Plain stem file) pair (ReadsAs.plain source named reads plain) has = elim has [
  | inl e ↦ named ∙ ap (λ (x : Pair). Some x.stem) e
  | inr none ↦ absurd none
]
named_by root path text (Faulty finding) pair reads has = absurd has

named_at : (texts : Tree) (root : List ℕ) (source : Source) (pair : Pair) → IsAtPath texts root source → In (pairs_of source) pair → stem_text root source.path ≡ Some pair.stem
named_at texts root source pair is has = named_by root source.path source.text source.reading pair is.has_file.reads has

-- a source has one pair
only_pair : (reading : Reading) (p q : Pair) → In (pairs_by reading) p → In (pairs_by reading) q → p ≡ q
only_pair (Plain stem file) p q i j = elim i [
  | inl e ↦ elim j [ inl f ↦ sym e ∙ f | inr none ↦ absurd none ]
  | inr none ↦ absurd none
]
only_pair (Faulty finding) p q i j = absurd i

-- an output is the JavaScript or the declaration of a source, or the info
data Kind (folder : List ℕ) (build : Build) : Output → Type 0 where
  js : (pair : Pair) → In (pairs_in build) pair → Kind folder build (js_output folder pair)
  declaration : (pair : Pair) → In (pairs_in build) pair → Kind folder build (declaration_output folder pair)
  info : Kind folder build (info_output folder build)

kind_by : (folder : List ℕ) (build : Build) (pair : Pair) (o : Output) → In (pairs_in build) pair → In (outputs_of folder pair) o → Kind folder build o
kind_by folder build pair o there has = elim has [
  | inl e ↦ subst (Kind folder build) e (Kind.js pair there)
  | inr more ↦ elim more [
    | inl e ↦ subst (Kind folder build) e (Kind.declaration pair there)
    | inr none ↦ absurd none
  ]
]

kind_of : (folder : List ℕ) (build : Build) (o : Output) → In (outputs_in (Some folder) build) o → Kind folder build o
kind_of folder build o has = elim (in_append (flat_map (outputs_of folder) (pairs_in build)) (info_output folder build ∷ []) o has) [
  | inl some ↦ let at = in_flat (outputs_of folder) (pairs_in build) o some in kind_by folder build at.0 o at.1 at.2
  | inr last ↦ elim last [
    | inl e ↦ subst (Kind folder build) e Kind.info
    | inr none ↦ absurd none
  ]
]

-- it lies in the output folder
kind_inside : (folder : List ℕ) (build : Build) (o : Output) → Kind folder build o → is_inside folder o.0 ≡ true
kind_inside folder build o (Kind.js pair there) = output_inside folder pair.stem (codes ".js") (omega arith)
kind_inside folder build o (Kind.declaration pair there) = output_inside folder pair.stem (codes ".d.ts") (omega arith)
kind_inside folder build o Kind.info = info_inside folder

module _ (texts : Tree) (folder : List ℕ) (build : Build) (are : AllByRecursion (IsAtPath texts build.project.setting.root) build.sources) where
  -- pairs with one stem are one
  one_pair : (p q : Pair) → In (pairs_in build) p → In (pairs_in build) q → p.stem ≡ q.stem → p ≡ q
  one_pair p q i j e =
      let root : List ℕ = build.project.setting.root in
      let a = in_flat pairs_of build.sources p i in
      let b = in_flat pairs_of build.sources q j in
      let is : IsAtPath texts root a.0 = each_of (IsAtPath texts root) build.sources a.0 are a.1 in
      let other : IsAtPath texts root b.0 = each_of (IsAtPath texts root) build.sources b.0 are b.1 in
      let same : b.0.path ≡ a.0.path = one_path root b.0.path a.0.path p.stem (named_at texts root b.0 q other b.2 ∙ ap Some (sym e)) (named_at texts root a.0 p is a.2) in
      let one : a.0 ≡ b.0 = one_source texts root a.0.path a.0 b.0 is (subst (λ (path : List ℕ). IsSource texts root path b.0) same other) in
      only_pair a.0.reading p q a.2 (subst (λ (s : Source). In (pairs_of s) q) (sym one) b.2)

  kinds_agree : (o p : Output) → Kind folder build o → Kind folder build p → o.0 ≡ p.0 → o.1 ≡ p.1
  kinds_agree o p (Kind.js a i) (Kind.js b j) e = ap (λ (x : Pair). x.js) (one_pair a b i j (one_stem folder a.stem b.stem (codes ".js") e))
  kinds_agree o p (Kind.js a i) (Kind.declaration b j) e = absurd (js_not_declaration folder a.stem b.stem e)
  kinds_agree o p (Kind.js a i) Kind.info e = absurd (js_not_info folder a.stem e)
  kinds_agree o p (Kind.declaration a i) (Kind.js b j) e = absurd (js_not_declaration folder b.stem a.stem (sym e))
  kinds_agree o p (Kind.declaration a i) (Kind.declaration b j) e = ap (λ (x : Pair). x.declaration) (one_pair a b i j (one_stem folder a.stem b.stem (codes ".d.ts") e))
  kinds_agree o p (Kind.declaration a i) Kind.info e = absurd (declaration_not_info folder a.stem e)
  kinds_agree o p Kind.info (Kind.js b j) e = absurd (js_not_info folder b.stem (sym e))
  kinds_agree o p Kind.info (Kind.declaration b j) e = absurd (declaration_not_info folder b.stem (sym e))
  kinds_agree o p Kind.info Kind.info e = refl

-- an output of a project has a folder, in which it lies
in_own : (build : Build) (f : Option (List ℕ)) (o : Output) → In (outputs_in f build) o → (folder : List ℕ) × (f ≡ Some folder) × Kind folder build o
in_own build None o has = absurd has
in_own build (Some folder) o has = (folder, refl, kind_of folder build o has)

one_project : (texts : Tree) (build : Build) (f : Option (List ℕ)) → HasSources texts build.project f build.sources → Agree (outputs_in f build)
one_project texts build None has o p i j e = absurd i
one_project texts build (Some folder) has o p i j e =
    kinds_agree texts folder build (all_at_paths texts build.project.setting.root build.project.inputs build.sources has) o p (kind_of folder build o i) (kind_of folder build p j) e

-- ---- the outputs of all projects

abbrev pub all_outputs : List Build → List Output
all_outputs builds = flat_map project_outputs builds

-- the output folders of this project and of each later one are apart
abbrev pub Apart : List Build → Type 0
Apart [] = Unit {0}
Apart (build ∷ rest) = AllByRecursion (λ (other : Build). are_shared build.project.setting.folder other.project.setting.folder ≡ false) rest × Apart rest

shared_by : (f g : Option (List ℕ)) (a b : List ℕ) → f ≡ Some a → g ≡ Some b → are_shared f g ≡ false → is_shared a b ≡ false
shared_by f g a b e h apart = (λ i. are_shared (sym e i) (sym h i)) ∙ apart

-- no path is an output of two projects
differ : (build : Build) (rest : List Build) (o p : Output) → AllByRecursion (λ (other : Build). are_shared build.project.setting.folder other.project.setting.folder ≡ false) rest
    → In (project_outputs build) o → In (all_outputs rest) p → o.0 ≡ p.0 → ⊥
differ build rest o p apart i j e =
    let one = in_own build build.project.setting.folder o i in
    let at = in_flat project_outputs rest p j in
    let two = in_own at.0 at.0.project.setting.folder p at.2 in
    not_both one.0 two.0 o.0
    (shared_by build.project.setting.folder at.0.project.setting.folder one.0 two.0 one.1 two.1 (each_of (λ (other : Build). are_shared build.project.setting.folder other.project.setting.folder ≡ false) rest at.0 apart at.1))
    (kind_inside one.0 build o one.2)
    (ap (is_inside two.0) e ∙ kind_inside two.0 at.0 p two.2)

pub agree : (texts : Tree) (builds : List Build) → AllByRecursion (IsBuild texts) builds → Apart builds → Agree (all_outputs builds)
agree texts [] are apart o p i j e = absurd i
agree texts (build ∷ rest) are apart o p i j e = elim (in_append (project_outputs build) (all_outputs rest) o i) [
  | inl a ↦ elim (in_append (project_outputs build) (all_outputs rest) p j) [
    | inl b ↦ one_project texts build build.project.setting.folder are.0 o p a b e
    | inr b ↦ absurd (differ build rest o p apart.0 a b e)
  ]
  | inr a ↦ elim (in_append (project_outputs build) (all_outputs rest) p j) [
    | inl b ↦ absurd (differ build rest p o apart.0 b a (sym e))
    | inr b ↦ agree texts rest are.1 apart.1 o p a b e
  ]
]

-- by the places of projects in a plan
abbrev ApartAt : List Build → Type 0
ApartAt builds = (i j : ℕ) (p q : Project) → i < j → slice_get (projects_in builds) i ≡ Some p → slice_get (projects_in builds) j ≡ Some q → are_shared p.setting.folder q.setting.folder ≡ false

place_of : (builds : List Build) (build : Build) → In builds build → (j : ℕ) × (slice_get (projects_in builds) j ≡ Some build.project)
place_of [] build h = absurd h
place_of (b ∷ builds) build h = elim h [
  | inl e ↦ (0, ap (λ (x : Build). Some x.project) e)
  | inr t ↦ let at = place_of builds build t in (suc at.0, at.1)
]

apart_from : (builds : List Build) → ApartAt builds → Apart builds
apart_from [] at = tt
apart_from (build ∷ rest) at = (
  all_by (λ (other : Build). are_shared build.project.setting.folder other.project.setting.folder ≡ false) rest
      (λ other h. let place = place_of rest other h in at 0 (suc place.0) build.project other.project (omega arith) refl place.1),
  apart_from rest (λ i j p q lt a b. at (suc i) (suc j) p q (omega (arith, lt)) a b),
)

pub all_apart : (texts : Tree) (builds : List Build) → PlanOk texts (record { projects = projects_in builds }) → Apart builds
all_apart texts builds ok = apart_from builds (λ i j p q lt a b. (ok.apart i j p q lt a b).folders)

-- ---- what the scripts write

-- these outputs are written, in some order
pub record Wrote (target : List Output) (steps : List DiskStep) : Type 0 where
  pub outputs : List Output
  pub are : steps ≡ writes outputs
  pub into : (o : Output) → In outputs o → In target o
  pub back : (o : Output) → In target o → In outputs o

writes_append : (xs ys : List Output) → writes (xs ++ ys) ≡ writes xs ++ writes ys
writes_append [] ys = refl
writes_append (x ∷ xs) ys = ap (λ (ss : List DiskStep). write_of x ∷ ss) (writes_append xs ys)

swapped : (folder : List ℕ) (build : Build) (these those : List Pair) → ((p : Pair) → In these p → In those p) → (o : Output)
    → In (flat_map (outputs_of folder) these ++ info_output folder build ∷ []) o → In (flat_map (outputs_of folder) those ++ info_output folder build ∷ []) o
swapped folder build these those more o has = elim (in_append (flat_map (outputs_of folder) these) (info_output folder build ∷ []) o has) [
  | inl some ↦
      let at = in_flat (outputs_of folder) these o some in
      in_left (flat_map (outputs_of folder) those) (info_output folder build ∷ []) o (flat_in (outputs_of folder) those at.0 o (more at.0 at.1) at.2)
  | inr last ↦ in_right (flat_map (outputs_of folder) those) (info_output folder build ∷ []) o last
]

wrote_one : (folder : List ℕ) (build : Build) (steps : List DiskStep) → build.project.setting.folder ≡ Some folder → IsScript folder build steps → Wrote (project_outputs build) steps
wrote_one folder build steps placed script = record {
  outputs = flat_map (outputs_of folder) script.ordered ++ info_output folder build ∷ [];
  are = script.are;
  into = λ o i. subst (λ (f : Option (List ℕ)). In (outputs_in f build) o) (sym placed) (swapped folder build script.ordered (pairs_in build) (in_permuted (pairs_in build) script.ordered script.same) o i);
  back = λ o i. swapped folder build (pairs_in build) script.ordered (λ p h. in_from script.ordered p (Contains-permutation (pairs_in build) script.ordered p script.same (in_back (pairs_in build) p h))) o
      (subst (λ (f : Option (List ℕ)). In (outputs_in f build) o) placed i);
}

pub wrote : (builds : List Build) (scripts : List Script) → AreScripts builds scripts → Wrote (all_outputs builds) (steps_of scripts)
wrote builds scripts AreScripts.none = record { outputs = []; are = refl; into = λ o i. i; back = λ o i. i }
wrote builds scripts (AreScripts.without {build = build} {builds = rest} {scripts = more} e are) =
    let w = wrote rest more are in
    record {
      outputs = w.outputs;
      are = w.are;
      into = λ o i. in_right (project_outputs build) (all_outputs rest) o (w.into o i);
      back = λ o i. elim (in_append (project_outputs build) (all_outputs rest) o i) [
        | inl a ↦ absurd (subst (λ (f : Option (List ℕ)). In (outputs_in f build) o) e a)
        | inr b ↦ w.back o b
      ];
    }
wrote builds scripts (AreScripts.more {build = build} {builds = rest} {script = script} {scripts = more} folder e named is are) =
    let one = wrote_one folder build script.steps e is in
    let w = wrote rest more are in
    record {
      outputs = one.outputs ++ w.outputs;
      are = (λ i. one.are i ++ w.are i) ∙ sym (writes_append one.outputs w.outputs);
      into = λ o i. elim (in_append one.outputs w.outputs o i) [
        | inl a ↦ in_left (project_outputs build) (all_outputs rest) o (one.into o a)
        | inr b ↦ in_right (project_outputs build) (all_outputs rest) o (w.into o b)
      ];
      back = λ o i. elim (in_append (project_outputs build) (all_outputs rest) o i) [
        | inl a ↦ in_left one.outputs w.outputs o (one.back o a)
        | inr b ↦ in_right one.outputs w.outputs o (w.back o b)
      ];
    }

-- ---- all is read, and nothing else is changed

pub all_read : (target : List Output) (steps : List DiskStep) (files : Files) → Wrote target steps → Agree target → (o : Output) → In target o → read_after_all steps files o.0 ≡ Some o.1
all_read target steps files w agrees o i =
    ap (λ (ss : List DiskStep). read_after_all ss files o.0) w.are ∙ read_back o w.outputs files (λ p j e. agrees p o (w.into p j) i e) (inr (w.back o i))

pub untouched : (target : List Output) (steps : List DiskStep) (files : Files) (path : List ℕ) → Wrote target steps → ((o : Output) → In target o → path ≢ o.0) → read_after_all steps files path ≡ files path
untouched target steps files path w apart = left_alone path steps w.outputs files w.are (λ o i. apart o (w.into o i))

pub elsewhere : (target : List Output) (steps : List DiskStep) (path : List ℕ) → Wrote target steps → ((o : Output) → In target o → path ≢ o.0) → All (IsElsewhere path) steps
elsewhere target steps path w apart = elsewhere_of path steps w.outputs w.are (λ o i. apart o (w.into o i))

pub outputs_read : (texts : Tree) (builds : List Build) (scripts : List Script) (files : Files) → PlanOk texts (record { projects = projects_in builds }) → All (IsBuild texts) builds → AreScripts builds scripts
    → AllByRecursion (λ output. read_after_all (steps_of scripts) files output.0 ≡ Some output.1) (flat_map project_outputs builds)
outputs_read texts builds scripts files ok are script =
    all_by (λ (o : Output). read_after_all (steps_of scripts) files o.0 ≡ Some o.1) (all_outputs builds)
    (all_read (all_outputs builds) (steps_of scripts) files (wrote builds scripts script) (agree texts builds (recursion_from_All (IsBuild texts) builds are) (all_apart texts builds ok)))

-- what lies outside all output folders is no output
in_option : (f : Option (List ℕ)) (folder : List ℕ) → f ≡ Some folder → In (option_to_list f) folder
in_option f folder e = subst (λ (g : Option (List ℕ)). In (option_to_list g) folder) (sym e) (inl refl)

pub outside : (builds : List Build) (path : List ℕ) → IsOutside (Sound (record { projects = projects_in builds })) path → (o : Output) → In (all_outputs builds) o → path ≢ o.0
outside builds path apart o i e =
    let at = in_flat project_outputs builds o i in
    let own = in_own at.0 at.0.project.setting.folder o at.2 in
    let named = flat_in (λ (p : Project). option_to_list p.setting.folder) (projects_in builds) at.0.project own.0 (in_map (λ (b : Build). b.project) builds at.0 at.1) (in_option at.0.project.setting.folder own.0 own.1) in
    true≢false (sym (ap (is_inside own.0) e ∙ kind_inside own.0 at.0 o own.2) ∙ apart own.0 (in_back (flat_map (λ (p : Project). option_to_list p.setting.folder) (projects_in builds)) own.0 named))

-- ---- the project that is named where a call failed

-- the build of one of the scripts
record Split (builds : List Build) (before : List Script) (script : Script) : Type 0 where
  front : List Build
  build : Build
  back : List Build
  folder : List ℕ
  whole : builds ≡ front ++ build ∷ back
  scripts : AreScripts front before
  placed : build.project.setting.folder ≡ Some folder
  named : script.config ≡ build.project.setting.config
  is : IsScript folder build script.steps

head_or : Script → List Script → Script
head_or s [] = s
head_or s (t ∷ ts) = t

tail_of : List Script → List Script
tail_of [] = []
tail_of (t ∷ ts) = ts

split : (builds : List Build) (all : List Script) → AreScripts builds all → (before : List Script) (script : Script) (after : List Script) → all ≡ before ++ script ∷ after → Split builds before script
unfolding head_or tail_of
split builds all AreScripts.none [] script after e = absurd (cc)
split builds all AreScripts.none (b ∷ before) script after e = absurd (cc)
split builds all (AreScripts.without {build = build} {builds = rest} {scripts = some} f are) before script after e =
    let s = split rest some are before script after e in
    record {
      front = build ∷ s.front;
      build = s.build;
      back = s.back;
      folder = s.folder;
      whole = ap (λ (bs : List Build). build ∷ bs) s.whole;
      scripts = AreScripts.without f s.scripts;
      placed = s.placed;
      named = s.named;
      is = s.is;
    }
split builds all (AreScripts.more {build = build} {builds = rest} {script = own} {scripts = scripts} folder f named is are) [] script after e =
    let same : own ≡ script = ap (head_or own) e in
    record {
      front = [];
      build = build;
      back = rest;
      folder = folder;
      whole = refl;
      scripts = AreScripts.none;
      placed = f;
      named = ap (λ (x : Script). x.config) (sym same) ∙ named;
      is = subst (λ (x : Script). IsScript folder build x.steps) same is;
    }
split builds all (AreScripts.more {build = build} {builds = rest} {script = own} {scripts = scripts} folder f named is are) (b ∷ before) script after e =
    let s = split rest scripts are before script after (ap tail_of e) in
    let same : own ≡ b = ap (head_or own) e in
    record {
      front = build ∷ s.front;
      build = s.build;
      back = s.back;
      folder = s.folder;
      whole = ap (λ (bs : List Build). build ∷ bs) s.whole;
      scripts = subst (λ (x : Script). AreScripts (build ∷ s.front) (x ∷ before)) same (AreScripts.more folder f named is s.scripts);
      placed = s.placed;
      named = s.named;
      is = s.is;
    }

flat_left : {X Y : Type 0} (f : X → List Y) (xs ys : List X) (y : Y) → In (flat_map f xs) y → In (flat_map f (xs ++ ys)) y
flat_left f xs ys y h = let at = in_flat f xs y h in flat_in f (xs ++ ys) at.0 y (in_left xs ys at.0 at.1) at.2

flat_right : {X Y : Type 0} (f : X → List Y) (xs ys : List X) (y : Y) → In (flat_map f ys) y → In (flat_map f (xs ++ ys)) y
flat_right f xs ys y h = let at = in_flat f ys y h in flat_in f (xs ++ ys) at.0 y (in_right xs ys at.0 at.1) at.2

parts_apart : (front rest : List Build) → Apart (front ++ rest) → (o p : Output) → In (all_outputs front) o → In (all_outputs rest) p → o.0 ≡ p.0 → ⊥
parts_apart [] rest apart o p i j e = absurd i
parts_apart (b ∷ front) rest apart o p i j e = elim (in_append (project_outputs b) (all_outputs front) o i) [
  | inl a ↦ differ b (front ++ rest) o p apart.0 a (flat_right project_outputs front rest p j) e
  | inr a ↦ parts_apart front rest apart.1 o p a j e
]

-- ---- what it wrote

-- writes to other paths, and of the same bytes, part no files that read alike at a path
alike : (outputs : List Output) (f h : Files) (path : List ℕ) → f path ≡ h path → read_after_all (writes outputs) f path ≡ read_after_all (writes outputs) h path
alike [] f h path e = e
alike (o ∷ outputs) f h path e =
    alike outputs (put_at o.0 (Some o.1) f) (put_at o.0 (Some o.1) h) path (ap (λ (content : Option (List ℕ)). cond (bytes_eq path o.0) (Some o.1) content) e)

take_writes : (outputs : List Output) (n : ℕ) → take n (writes outputs) ≡ writes (take n outputs)
take_writes [] n = take_all n [] (omega arith) ∙ ap writes (sym (take_all n [] (omega arith)))
take_writes (o ∷ outputs) zero = refl
take_writes (o ∷ outputs) (suc n) = ap (λ (ss : List DiskStep). write_of o ∷ ss) (take_writes outputs n)

elsewhere_at : (outputs : List Output) (n : ℕ) (path : List ℕ) → ((o : Output) → slice_get outputs n ≡ Some o → path ≢ o.0) → IsElsewhere path (get_or (writes outputs) n Sync)
elsewhere_at [] n path apart = tt
elsewhere_at (o ∷ outputs) zero path apart = apart o refl
elsewhere_at (o ∷ outputs) (suc n) path apart = elsewhere_at outputs n path apart

-- no output of a project before it lies in its folder
front_apart : (front : List Build) (build : Build) (back : List Build) (folder path : List ℕ) → build.project.setting.folder ≡ Some folder → Apart (front ++ build ∷ back) → is_inside folder path ≡ true
    → (o : Output) → In (all_outputs front) o → path ≡ o.0 → ⊥
front_apart [] build back folder path placed apart within o i e = absurd i
front_apart (b ∷ front) build back folder path placed apart within o i e = elim (in_append (project_outputs b) (all_outputs front) o i) [
  | inl a ↦
      let one = in_own b b.project.setting.folder o a in
      not_both one.0 folder path
      (shared_by b.project.setting.folder build.project.setting.folder one.0 folder one.1 placed
      (each_of (λ (other : Build). are_shared b.project.setting.folder other.project.setting.folder ≡ false) (front ++ build ∷ back) build apart.0 (in_right front (build ∷ back) build (inl refl))))
      (ap (is_inside one.0) e ∙ kind_inside one.0 b o one.2) within
  | inr a ↦ front_apart front build back folder path placed apart.1 within o a e
]

-- what is no output was not touched
pub failed_elsewhere : (builds : List Build) (scripts : List Script) → AreScripts builds scripts → (disk_tells : Bool) (config : List ℕ) (old new : Files) → IsTrue disk_tells → FailsAt disk_tells scripts config old new
    → (path : List ℕ) → ((o : Output) → In (all_outputs builds) o → path ≢ o.0) → new path ≡ old path
failed_elsewhere builds scripts script disk_tells config old new told f path apart =
    let s = split builds scripts script f.before f.script f.after f.whole in
    let last : List Build = s.build ∷ s.back in
    let differs : (o : Output) → In (all_outputs (s.front ++ last)) o → path ≢ o.0 = subst (λ (bs : List Build). (o : Output) → In (all_outputs bs) o → path ≢ o.0) s.whole apart in
    f.reads told path (elsewhere (project_outputs s.build) f.script.steps path (wrote_one s.folder s.build f.script.steps s.placed s.is)
    (λ o i. differs o (flat_right project_outputs s.front last o (in_left (project_outputs s.build) (all_outputs s.back) o i))))
    ∙ untouched (all_outputs s.front) (steps_of f.before) old path (wrote s.front f.before s.scripts) (λ o i. differs o (flat_left project_outputs s.front last o i))

module _ (texts : Tree) (roots : List (List ℕ)) (builds : List Build) (scripts : List Script) (plan : plan_of texts roots ≡ Sound (record { projects = projects_in builds })) (ok : PlanOk texts (record { projects = projects_in builds }))
    (are : All (IsBuild texts) builds) (script : AreScripts builds scripts) where
  pub blamed : (disk_tells : Bool) (config : List ℕ) (old new : Files) → IsTrue disk_tells → FailsAt disk_tells scripts config old new → Blamed texts roots config old new
  blamed disk_tells config old new told f =
      let s = split builds scripts script f.before f.script f.after f.whole in
      let one : Wrote (project_outputs s.build) f.script.steps = wrote_one s.folder s.build f.script.steps s.placed s.is in
      let some : Wrote (all_outputs s.front) (steps_of f.before) = wrote s.front f.before s.scripts in
      let last : List Build = s.build ∷ s.back in
      let apart : Apart (s.front ++ last) = subst Apart s.whole (all_apart texts builds ok) in
      let agrees : Agree (all_outputs (s.front ++ last)) = subst (λ (bs : List Build). Agree (all_outputs bs)) s.whole (agree texts builds (recursion_from_All (IsBuild texts) builds are) (all_apart texts builds ok)) in
      record {
        before = s.front;
        build = s.build;
        after = s.back;
        plan = plan ∙ ap (λ (bs : List Build). Sound (record { projects = projects_in bs })) s.whole;
        are = subst (λ (bs : List Build). All (IsBuild texts) bs) s.whole are;
        named = f.named ∙ s.named;
        folder = s.folder;
        writes = s.placed;
        done = all_by (λ (o : Output). new o.0 ≡ Some o.1) (all_outputs s.front)
            (λ o i. f.reads told o.0 (elsewhere (project_outputs s.build) f.script.steps o.0 one (λ p j e. parts_apart s.front last apart o p i (in_left (project_outputs s.build) (all_outputs s.back) p j) e))
            ∙ all_read (all_outputs s.front) (steps_of f.before) old some (λ p q j k e. agrees p q (flat_left project_outputs s.front last p j) (flat_left project_outputs s.front last q k) e) o i);
        so_far =
            let n : ℕ = (f.stops told).0 in
            let outputs : List Output = in_order s.folder s.build s.is.ordered in
            record {
              ordered = s.is.ordered;
              same = s.is.same;
              ascending = s.is.ascending;
              place = n;
              reads = λ path within other.
                  (f.stops told).1 path (subst (λ (ss : List DiskStep). IsElsewhere path (get_or ss n Sync)) (sym s.is.are) (elsewhere_at outputs n path other))
                  ∙ ap (λ (ss : List DiskStep). read_after_all ss (read_after_all (steps_of f.before) old) path) (ap (take n) s.is.are ∙ take_writes outputs n)
                  ∙ alike (take n outputs) (read_after_all (steps_of f.before) old) old path
                  (untouched (all_outputs s.front) (steps_of f.before) old path some (λ o i e. front_apart s.front s.build s.back s.folder path s.placed apart within o i e));
            };
        others = λ path out.
            let differs : (o : Output) → In (all_outputs (s.front ++ s.build ∷ [])) o → path ≢ o.0 = outside (s.front ++ s.build ∷ []) path out in
            f.reads told path (elsewhere (project_outputs s.build) f.script.steps path one (λ o i. differs o (flat_right project_outputs s.front (s.build ∷ []) o (in_left (project_outputs s.build) [] o i))))
            ∙ untouched (all_outputs s.front) (steps_of f.before) old path some (λ o i. differs o (flat_left project_outputs s.front (s.build ∷ []) o i));
      }
