-- Scripts, one project further.
use Rattle.std.proofs.Common.{◌≡◌, ◌++◌, ◌<◌, ◌∙◌, ℕ, ◌+◌, Bool, true, arith, List, [], ◌∷◌, length, get_or, take, codes, refl, sym, ap, subst, append_assoc, length-append}
use Rattle.std.specs.Prelude.{All, Option, Some, None, ◌&&◌, nat_le}
use Rattle.std.specs.List.{AllByRecursion, list_all}
use Rattle.std.proofs.lemmas.Bool.{le-leb, leb-true}
use Rattle.std.proofs.lemmas.List.{append-nil, length-map, length-take-le, map_push}
use Rattle.std.proofs.lemmas.List.Elements.{All-from_recursion, recursion_from_All}
use Rattle.std.proofs.lemmas.List.Folds.{list_all-append}
use Rattle.tb_text.specs.Paths.{is_path, is_segment, segments}
use Rattle.tb_text.proofs.Segments.{and_both, split, split_append}
use Rattle.tb_face.specs.Outputs.{info_text, new_info_text}
use Rattle.tb_text.specs.declared.findings.Diag.{Diag}
use Rattle.tb_session.specs.Builds.{diags_from, project_diags}
use Rattle.tb_plan.specs.declared.plans.Project.{Project}
use Rattle.tb_session.specs.declared.publishes.Script.{Script}
use Rattle.tb_session.specs.Generations.{Tree}
use Rattle.tb_session.specs.Scripts.{AreScripts, IsScript}
use Rattle.tb_session.specs.Sources.{Source, Build, AreSources, HasSources, IsBuild, projects_in}
use Rattle.tb_session.proofs.Members.{taken}
use Rattle.tb_session.proofs.Writing.{get_map}

-- ---- where the info that is written first is a path, the info is one

name : List ℕ
name = codes "tsconfig.tsbuildinfo"

new_name : List ℕ
new_name = codes "tsconfig.tsbuildinfo.new"

both : {a b : Bool} → a ≡ true → b ≡ true → (a && b) ≡ true
both {b = b} p q = ap (λ v. v && b) p ∙ q

in_segments : (b : ℕ) (rest last : List ℕ) → segments ((b ∷ rest) ++ 47 ∷ last) ≡ split (b ∷ rest) ++ split last
in_segments b rest last = split_append (b ∷ rest) last

behind : (b : ℕ) (rest : List ℕ) → is_path ((b ∷ rest) ++ 47 ∷ new_name) ≡ true → is_path ((b ∷ rest) ++ 47 ∷ name) ≡ true
unfolding name new_name
behind b rest e =
    let folder : List ℕ = b ∷ rest in
    let parts = and_both (nat_le (length (folder ++ 47 ∷ new_name)) 1024) (list_all is_segment (segments (folder ++ 47 ∷ new_name))) e in
    let short = leb-true (length (folder ++ 47 ∷ new_name)) 1024 parts.0 in
    let all : list_all is_segment (split folder ++ split new_name) ≡ true = ap (list_all is_segment) (sym (in_segments b rest new_name)) ∙ parts.1 in
    let front = (and_both (list_all is_segment (split folder)) (list_all is_segment (split new_name)) (sym (list_all-append is_segment (split folder) (split new_name)) ∙ all)).0 in
    both
    (le-leb (length (folder ++ 47 ∷ name)) 1024 (omega (arith, short, length-append folder (47 ∷ name), length-append folder (47 ∷ new_name))))
    (ap (list_all is_segment) (in_segments b rest name) ∙ list_all-append is_segment (split folder) (split name) ∙ both front refl)

pub info_is_path : (folder : List ℕ) → is_path (new_info_text folder) ≡ true → is_path (info_text folder) ≡ true
unfolding name new_name
info_is_path [] e = refl
info_is_path (b ∷ rest) e =
    ap is_path (append_assoc (b ∷ rest) (codes "/") name) ∙ behind b rest (ap is_path (sym (append_assoc (b ∷ rest) (codes "/") new_name)) ∙ e)

-- ---- one project further

pub has_sources : (texts : Tree) (project : Project) (o : Option (List ℕ)) (folder : List ℕ) (sources : List Source) → o ≡ Some folder → AreSources texts project.setting.root project.inputs sources → HasSources texts project o sources
has_sources texts project o folder sources e are = subst (λ f. HasSources texts project f sources) (sym e) are

pub are_sources : (texts : Tree) (project : Project) (o : Option (List ℕ)) (folder : List ℕ) (sources : List Source) → o ≡ Some folder → HasSources texts project o sources → AreSources texts project.setting.root project.inputs sources
are_sources texts project o folder sources e has = subst (λ f. HasSources texts project f sources) e has

more_script : (builds : List Build) (scripts : List Script) (build : Build) (script : Script) (folder : List ℕ) → AreScripts builds scripts → build.project.setting.folder ≡ Some folder → script.config ≡ build.project.setting.config
    → IsScript folder build script.steps → AreScripts (builds ++ build ∷ []) (scripts ++ script ∷ [])
more_script builds scripts build script folder AreScripts.none e named is = AreScripts.more folder e named is AreScripts.none
more_script builds scripts build script folder (AreScripts.without f rest) e named is = AreScripts.without f (more_script _ _ build script folder rest e named is)
more_script builds scripts build script folder (AreScripts.more g f c s rest) e named is = AreScripts.more g f c s (more_script _ _ build script folder rest e named is)

no_script : (builds : List Build) (scripts : List Script) (build : Build) → AreScripts builds scripts → build.project.setting.folder ≡ None → AreScripts (builds ++ build ∷ []) scripts
no_script builds scripts build AreScripts.none e = AreScripts.without e AreScripts.none
no_script builds scripts build (AreScripts.without f rest) e = AreScripts.without f (no_script _ _ build rest e)
no_script builds scripts build (AreScripts.more g f c s rest) e = AreScripts.more g f c s (no_script _ _ build rest e)

all_push : {X : Type 0} (P : X → Type 0) (xs : List X) (x : X) → AllByRecursion P xs → P x → AllByRecursion P (xs ++ x ∷ [])
all_push P [] x all is = (is, tt)
all_push P (y ∷ xs) x all is = (all.0, all_push P xs x all.1 is)

-- ---- what is found

diags_push : (n : ℕ) (builds : List Build) (build : Build) → diags_from n (builds ++ build ∷ []) ≡ diags_from n builds ++ project_diags (n + length builds) build
diags_push n [] build = append-nil (project_diags n build) ∙ ap (λ m. project_diags m build) (omega arith)
diags_push n (b ∷ builds) build =
    ap (λ rest. project_diags n b ++ rest) (diags_push (n + 1) builds build ∙ ap (λ m. diags_from (n + 1) builds ++ project_diags m build) (omega arith))
    ∙ sym (append_assoc (project_diags n b) (diags_from (n + 1) builds) (project_diags (n + length (b ∷ builds)) build))

from_zero : (n : ℕ) → n ≡ 0 + n
from_zero n = omega arith

module _ (texts : Tree) where
  -- what was made of these projects, and what was found in them
  abbrev pub AreBuilt : List Project → List Script → List Diag → Type 0
  AreBuilt projects scripts diags = (builds : List Build) × (projects_in builds ≡ projects) × All (IsBuild texts) builds × AreScripts builds scripts × (diags ≡ diags_from 0 builds)

  one_built : (projects : List Project) (i : ℕ) (project : Project) (build : Build) (scripts : List Script) (builds : List Build) (diags new : List Diag) → i < length projects → project ≡ get_or projects i project
      → build.project ≡ project → projects_in builds ≡ take i projects → All (IsBuild texts) builds → IsBuild texts build → AreScripts (builds ++ build ∷ []) scripts
      → diags ≡ diags_from 0 builds → new ≡ diags ++ project_diags i build → AreBuilt (take (i + 1) projects) scripts new
  one_built projects i project build scripts builds diags new lt at same are all is script found added =
      let count : length builds ≡ i = sym (length-map builds (λ (b : Build). b.project)) ∙ ap length are ∙ length-take-le i projects (omega (arith, lt)) in (
        builds ++ build ∷ [],
        map_push (λ (b : Build). b.project) builds build ∙ (λ j. are j ++ same j ∷ []) ∙ sym (taken projects i project lt at),
        All-from_recursion (IsBuild texts) (builds ++ build ∷ []) (all_push (IsBuild texts) builds build (recursion_from_All (IsBuild texts) builds all) is),
        script,
        added ∙ (λ j. found j ++ project_diags (sym count j) build) ∙ ap (λ n. diags_from 0 builds ++ project_diags n build) (from_zero (length builds)) ∙ sym (diags_push 0 builds build),
      )

  pub one_more : (projects : List Project) (i number : ℕ) (project : Project) (folder : List ℕ) (script : Script) (scripts new : List Script) (diags more : List Diag) → i < length projects → number ≡ i
      → project ≡ get_or projects i project → project.setting.folder ≡ Some folder → AreBuilt (take i projects) scripts diags
      → (sources : List Source) × AreSources texts project.setting.root project.inputs sources × (script.config ≡ project.setting.config) × IsScript folder (record { project = project; sources = sources }) script.steps
      × (more ≡ diags ++ project_diags number (record { project = project; sources = sources }))
      → new ≡ scripts ++ script ∷ [] → AreBuilt (take (i + 1) projects) new more
  one_more projects i number project folder script scripts new diags more lt here at e built is pushed =
      let build : Build = record { project = project; sources = is.0 } in
      one_built projects i project build new built.0 diags more lt at refl built.1 built.2 (has_sources texts project project.setting.folder folder is.0 e is.1)
      (subst (AreScripts (built.0 ++ build ∷ [])) (sym pushed) (more_script built.0 scripts build script folder built.3 e is.2 is.3))
      built.4 (is.4 ∙ ap (λ n. diags ++ project_diags n build) here)

  pub one_without : (projects : List Project) (i : ℕ) (project : Project) (scripts : List Script) (diags : List Diag) → i < length projects → project ≡ get_or projects i project → project.setting.folder ≡ None
      → AreBuilt (take i projects) scripts diags → AreBuilt (take (i + 1) projects) scripts diags
  one_without projects i project scripts diags lt at e built =
      let build : Build = record { project = project; sources = [] } in
      one_built projects i project build scripts built.0 diags diags lt at refl built.1 built.2 (subst (λ f. HasSources texts project f []) (sym e) refl) (no_script built.0 scripts build built.3 e)
      built.4 (sym (append-nil diags))

  -- each project with an output folder is built of its sources
  pub sources_at : (projects : List Project) (i : ℕ) (project : Project) (folder : List ℕ) (builds : List Build) → i < length projects → project ≡ get_or projects i project → project.setting.folder ≡ Some folder
      → projects_in builds ≡ projects → All (IsBuild texts) builds → (sources : List Source) × AreSources texts project.setting.root project.inputs sources
  sources_at projects i project folder builds lt at e are all =
      let none : Build = record { project = project; sources = [] } in
      let build : Build = get_or builds i none in
      let same : build.project ≡ project = sym (get_map (λ (b : Build). b.project) builds i none) ∙ ap (λ (ps : List Project). get_or ps i project) are ∙ sym at in
      let is : IsBuild texts build = all i none (omega (arith, lt, ap length are, length-map builds (λ (b : Build). b.project))) in
      (build.sources, are_sources texts project project.setting.folder folder build.sources e (subst (λ (p : Project). HasSources texts p p.setting.folder build.sources) same is))
