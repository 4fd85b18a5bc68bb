-- Texts have one clean build from these roots.
use Rattle.std.proofs.Common.{◌≡◌, ℕ, List, [], ◌∷◌, refl, sym, ap, ◌∙◌, subst}
use Rattle.std.specs.Prelude.{Option, Some, None, Err}
use Rattle.std.specs.List.{AllByRecursion}
use Rattle.std.proofs.lemmas.Bool.{true≢false}
use Rattle.std.proofs.lemmas.List.Elements.{recursion_from_All}
use Rattle.tb_text.specs.declared.findings.Diag.{Diag}
use Rattle.tb_text.specs.declared.statuses.Status.{Status}
use Rattle.tb_parse_file.specs.declared.FileFault.TheVariants as fault
use Rattle.tb_parse_file.proofs.OneDecl.{fault_answer}
use Rattle.tb_parse_file.proofs.OneFile.{one_file, one_fault, reads_or_faults}
use Rattle.tb_plan.specs.Plans.{Planned, Sound, Faulted}
use Rattle.tb_plan.specs.declared.plans.Plan.{Plan}
use Rattle.tb_plan.specs.declared.plans.Project.{Project}
use Rattle.tb_session.specs.Builds.{Clean, IsClean, build_of, faulted_of}
use Rattle.tb_session.specs.Generations.{Tree}
use Rattle.tb_session.specs.Sources.{Reading, Plain, Faulty, ReadsAs, Source, Build, IsSource, AreSources, HasSources, IsBuild, projects_in}

some_or : List ℕ → Option (List ℕ) → List ℕ
some_or d None = d
some_or d (Some x) = x

-- ---- a text has one reading

one_stem : (o : Option (List ℕ)) (stem other : List ℕ) → o ≡ Some stem → o ≡ Some other → stem ≡ other
unfolding some_or
one_stem o stem other p q = ap (some_or []) (sym p ∙ q)

one_reading : {root path text : List ℕ} {a b : Reading} → ReadsAs root path text a → ReadsAs root path text b → a ≡ b
one_reading (ReadsAs.plain d n r p) (ReadsAs.plain e m q o) = λ i. Plain (one_stem _ _ _ n m i) (one_file r q i)
one_reading (ReadsAs.plain d n r p) (ReadsAs.faulty e h) = absurd (reads_or_faults r h)
one_reading (ReadsAs.plain d n r p) (ReadsAs.faulty_declaration e h) = absurd (true≢false (sym e ∙ d))
one_reading (ReadsAs.faulty d g) (ReadsAs.plain e m q o) = absurd (reads_or_faults q g)
one_reading (ReadsAs.faulty d g) (ReadsAs.faulty e h) = ap Faulty (one_fault g h)
one_reading (ReadsAs.faulty d g) (ReadsAs.faulty_declaration e h) = absurd (true≢false (sym e ∙ d))
one_reading (ReadsAs.faulty_declaration d g) (ReadsAs.plain e m q o) = absurd (true≢false (sym d ∙ e))
one_reading (ReadsAs.faulty_declaration d g) (ReadsAs.faulty e h) = absurd (true≢false (sym d ∙ e))
one_reading (ReadsAs.faulty_declaration {finding = found} d g) (ReadsAs.faulty_declaration e h) = ap Faulty (fault_answer (Err (fault.Syntax found)) g h)

-- ---- an input is one source

module _ (texts : Tree) (root path : List ℕ) (a b : Source) (p : IsSource texts root path a) (q : IsSource texts root path b) where
  texts_same : a.text ≡ b.text
  unfolding some_or
  texts_same = ap (some_or []) (sym p.has_file.found ∙ q.has_file.found)

  readings : a.reading ≡ b.reading
  readings = one_reading p.has_file.reads (subst (λ (t : List ℕ). ReadsAs root path t b.reading) (sym texts_same) q.has_file.reads)

  pub one_source : a ≡ b
  one_source = λ i. record { path = (p.at ∙ sym q.at) i; text = texts_same i; reading = readings i }

pub one_list : (texts : Tree) (root : List ℕ) (paths : List (List ℕ)) (these those : List Source) → AreSources texts root paths these → AreSources texts root paths those → these ≡ those
one_list texts root [] [] [] p q = refl
one_list texts root [] [] (b ∷ those) p q = absurd q
one_list texts root [] (a ∷ these) those p q = absurd p
one_list texts root (path ∷ paths) [] those p q = absurd p
one_list texts root (path ∷ paths) (a ∷ these) [] p q = absurd q
one_list texts root (path ∷ paths) (a ∷ these) (b ∷ those) p q = λ i. one_source texts root path a b p.0 q.0 i ∷ one_list texts root paths these those p.1 q.1 i

-- ---- a project is one build

same_sources : (texts : Tree) (project : Project) (folder : Option (List ℕ)) (these those : List Source) → HasSources texts project folder these → HasSources texts project folder those → these ≡ those
same_sources texts project None these those p q = p ∙ sym q
same_sources texts project (Some folder) these those p q = one_list texts project.setting.root project.inputs these those p q

same_build : (texts : Tree) (a b : Build) → a.project ≡ b.project → IsBuild texts a → IsBuild texts b → a ≡ b
same_build texts a b e p q =
    let there : HasSources texts b.project b.project.setting.folder a.sources = subst (λ (x : Project). HasSources texts x x.setting.folder a.sources) e p in
    λ i. record { project = e i; sources = same_sources texts b.project b.project.setting.folder a.sources b.sources there q i }

head_or : Project → List Project → Project
head_or p [] = p
head_or p (q ∷ qs) = q

tail_of : List Project → List Project
tail_of [] = []
tail_of (q ∷ qs) = qs

same_builds : (texts : Tree) (these those : List Build) → projects_in these ≡ projects_in those → AllByRecursion (IsBuild texts) these → AllByRecursion (IsBuild texts) those → these ≡ those
unfolding head_or tail_of
same_builds texts [] [] e p q = refl
same_builds texts [] (b ∷ those) e p q = absurd (cc)
same_builds texts (a ∷ these) [] e p q = absurd (cc)
same_builds texts (a ∷ these) (b ∷ those) e p q =
    λ i. same_build texts a b (ap (head_or a.project) e) p.0 q.0 i ∷ same_builds texts these those (ap tail_of e) p.1 q.1 i

-- ---- one clean build

projects_or : Planned → List Project
projects_or (Sound plan) = plan.projects
projects_or (Faulted diags status) = []

diags_or : Planned → List Diag
diags_or (Sound plan) = []
diags_or (Faulted diags status) = diags

status_or : Status → Planned → Status
status_or s (Sound plan) = s
status_or s (Faulted diags status) = status

not_both : (plan : Plan) (diags : List Diag) (status : Status) → Sound plan ≡ Faulted diags status → ⊥
not_both plan diags status e = cc

pub one_build : (texts : Tree) (roots : List (List ℕ)) (a b : Clean) → IsClean texts roots a → IsClean texts roots b → a ≡ b
unfolding projects_or diags_or status_or
one_build texts roots a b (IsClean.built these e p) (IsClean.built those f q) =
    ap build_of (same_builds texts these those (ap projects_or (sym e ∙ f)) (recursion_from_All (IsBuild texts) these p) (recursion_from_All (IsBuild texts) those q))
one_build texts roots a b (IsClean.built these e p) (IsClean.faulted diags status f) = absurd (not_both _ diags status (sym e ∙ f))
one_build texts roots a b (IsClean.faulted diags status e) (IsClean.built those f q) = absurd (not_both _ diags status (sym f ∙ e))
one_build texts roots a b (IsClean.faulted diags status e) (IsClean.faulted more other f) =
    λ i. faulted_of (ap diags_or (sym e ∙ f) i) (ap (status_or status) (sym e ∙ f) i)
