-- The texts in which something is found are those of inputs, and so are small enough to be counted in.
use Rattle.std.proofs.Common.{◌≡◌, ℕ, ◌+◌, ◌≤◌, Bool, true, false, cond, List, [], ◌∷◌, map, length, drop, refl, sym, ap, ◌∙◌, subst, arith, inl, inr}
use Rattle.std.specs.Prelude.{All, Contains, Option, Some, None, unwrap_or, nat_eq}
use Rattle.std.specs.List.{AllByRecursion, starts_with}
use Rattle.std.specs.FinMap.{get}
use Rattle.std.proofs.lemmas.List.{length-drop}
use Rattle.std.proofs.lemmas.List.Elements.{recursion_from_All}
use Rattle.tb_text.specs.Messages.{mark, without_mark}
use Rattle.tb_text.specs.declared.findings.Diag.{Diag}
use Rattle.tb_text.specs.declared.findings.Finding.{Finding}
use Rattle.tb_outside.specs.Told.{bytes_at}
use Rattle.tb_plan.specs.Laws.{PlanOk}
use Rattle.tb_plan.specs.Limits.{most_bytes, length_of, size_of}
use Rattle.tb_plan.specs.declared.plans.Project.{Project}
use Rattle.tb_session.specs.Builds.{diag_of, diags_from, findings_of, project_diags, source_diags}
use Rattle.tb_session.specs.Generations.{Tree}
use Rattle.tb_session.specs.Sources.{Source, Build, AreSources, HasSources, IsBuild, projects_in}
use Rattle.tb_session.proofs.Members.{In, in_append, in_flat, in_map, in_from, in_back}

unmarked : (text : List ℕ) (b : Bool) → length (cond b (drop 3 text) text) ≤ length text
unmarked text true = omega (arith, length-drop 3 text)
unmarked text false = omega arith

sized : (o : Option (List ℕ)) → length (unwrap_or o []) ≡ length_of o
sized None = refl
sized (Some text) = refl

shorter : (texts : Tree) (path : List ℕ) → length (without_mark (bytes_at texts path)) ≤ size_of texts path
shorter texts path =
    let text : List ℕ = bytes_at texts path in
    subst (λ n. length (without_mark text) ≤ n) (sized (get texts path)) (unmarked text (starts_with nat_eq text mark))

-- ---- the places of what is found

path_of : (number : ℕ) (path : List ℕ) (findings : List Finding) (diag : Diag) → In (map (diag_of number path) findings) diag → path ≡ diag.path
path_of number path [] diag h = absurd h
path_of number path (finding ∷ rest) diag h = elim h [ inl e ↦ ap (λ (d : Diag). d.path) e | inr more ↦ path_of number path rest diag more ]

module _ (texts : Tree) where
  source_path : (root : List ℕ) (paths : List (List ℕ)) (sources : List Source) (source : Source) → AreSources texts root paths sources → In sources source → In paths source.path
  source_path root [] [] source are h = absurd h
  source_path root [] (s ∷ sources) source are h = absurd are
  source_path root (p ∷ paths) [] source are h = absurd h
  source_path root (p ∷ paths) (s ∷ sources) source are h = elim h [
    | inl e ↦ inl (sym are.0.at ∙ ap (λ (x : Source). x.path) e)
    | inr more ↦ inr (source_path root paths sources source are.1 more)
  ]

  input_of : (project : Project) (folder : Option (List ℕ)) (sources : List Source) (source : Source) → HasSources texts project folder sources → In sources source → In project.inputs source.path
  input_of project None sources source none h = absurd (subst (λ (ss : List Source). In ss source) none h)
  input_of project (Some folder) sources source are h = source_path project.setting.root project.inputs sources source are h

  found_in : (number : ℕ) (build : Build) (diag : Diag) → IsBuild texts build → In (project_diags number build) diag → In build.project.inputs diag.path
  found_in number build diag is h =
      let at = in_flat (source_diags number) build.sources diag h in
      subst (In build.project.inputs) (path_of number at.0.path (findings_of at.0.reading) diag at.2) (input_of build.project build.project.setting.folder build.sources at.0 is at.1)

  found_of : (number : ℕ) (builds : List Build) (diag : Diag) → AllByRecursion (IsBuild texts) builds → In (diags_from number builds) diag → (build : Build) × In builds build × In build.project.inputs diag.path
  found_of number [] diag are h = absurd h
  found_of number (build ∷ rest) diag are h = elim (in_append (project_diags number build) (diags_from (number + 1) rest) diag h) [
    | inl here ↦ (build, inl refl, found_in number build diag are.0 here)
    | inr later ↦ let at = found_of (number + 1) rest diag are.1 later in (at.0, inr at.1, at.2)
  ]

  pub all_small : (projects : List Project) (builds : List Build) (diags : List Diag) (diag : Diag) → projects_in builds ≡ projects → All (IsBuild texts) builds → diags ≡ diags_from 0 builds
      → PlanOk texts (record { projects = projects }) → Contains diags diag → length (without_mark (bytes_at texts diag.path)) ≤ most_bytes
  all_small projects builds diags diag same are found ok there =
      let at = found_of 0 builds diag (recursion_from_All (IsBuild texts) builds are) (in_from (diags_from 0 builds) diag (subst (λ (ds : List Diag). Contains ds diag) found there)) in
      let one : Contains projects at.0.project = subst (λ (ps : List Project). Contains ps at.0.project) same (in_back (projects_in builds) at.0.project (in_map (λ (b : Build). b.project) builds at.0 at.1)) in
      omega (arith, shorter texts diag.path, ((ok.each at.0.project one).inputs diag.path (in_back at.0.project.inputs diag.path at.2)).small)
