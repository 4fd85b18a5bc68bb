-- What was prepared is ready.
use Rattle.std.proofs.Common.{◌≡◌, ◌++◌, ℕ, Bool, true, false, cond, not, if◌then◌else◌, List, [], ◌∷◌, length, map, refl, sym, ap, ◌∙◌, subst}
use Rattle.std.specs.Prelude.{None, count_by, sum_by, nat_eq}
use Rattle.std.specs.List.{concat}
use Rattle.std.proofs.lemmas.List.{append-nil}
use Rattle.tb_text.specs.Messages.{diag_line}
use Rattle.tb_text.specs.declared.findings.Diag.{Diag}
use Rattle.tb_text.specs.declared.statuses.Status.{Status}
use Rattle.tb_plan.specs.Laws.{PlanOk}
use Rattle.tb_plan.specs.Plans.{plan_of, Sound, Faulted}
use Rattle.tb_plan.specs.declared.plans.Plan.{Plan}
use Rattle.tb_plan.specs.declared.plans.Project.{Project}
use Rattle.tb_session.specs.Builds.{build_of, faulted_of}
use Rattle.tb_session.specs.Generations.{Tree}
use Rattle.tb_session.specs.Ready.{IsReady, Writes}
use Rattle.tb_session.specs.Reports.{diag_report, project_lines, last_line, status_by}
use Rattle.tb_session.specs.Sources.{projects_in}
use Rattle.tb_session.specs.declared.publishes.Publication.{Publication}
use Rattle.tb_session.proofs.Building.{AreBuilt}

module _ (texts : Tree) (roots : List (List ℕ)) (verbose : Bool) (p : Publication) where
  abbrev report_by : List Diag → List Project → List ℕ
  report_by diags projects = concat (map (diag_report None texts) diags) ++ (if verbose then project_lines 0 diags projects else []) ++ last_line 0 (length diags) (length projects)

  pub ready_plan : (plan : Plan) (projects : List Project) (diags : List Diag) → plan_of texts roots ≡ Sound plan → PlanOk texts plan → projects ≡ plan.projects → AreBuilt texts projects p.scripts diags
      → p.report ≡ report_by diags projects → p.status ≡ status_by None diags → p.settled ≡ 0 ∷ []
      → p.checked ≡ sum_by (λ project. length project.inputs) projects → p.built ≡ count_by (λ project. not (nat_eq (length project.inputs) 0)) projects
      → IsReady texts roots verbose p
  ready_plan plan projects diags is ok same built report status settled checked counted =
      let all : plan.projects ≡ projects_in built.0 = sym same ∙ sym built.1 in
      let whole : plan ≡ record { projects = projects_in built.0 } = λ i. record { projects = all i } in
      record {
        clean = build_of built.0;
        writes = Writes.built built.0 (is ∙ ap Sound whole) (subst (PlanOk texts) whole ok) built.2 built.3;
        report = report ∙ (λ i. report_by (built.4 i) (sym built.1 i));
        status = status ∙ ap (status_by None) built.4;
        settled = settled;
        checked = checked ∙ ap (λ (ps : List Project). sum_by (λ project. length project.inputs) ps) (sym built.1);
        built = counted ∙ ap (λ (ps : List Project). count_by (λ project. not (nat_eq (length project.inputs) 0)) ps) (sym built.1);
      }

  no_lines : (diags : List Diag) → (if verbose then project_lines 0 diags [] else []) ≡ []
  no_lines diags = elim verbose as (λ b. cond b (project_lines 0 diags []) [] ≡ []) [ true ↦ refl | false ↦ refl ]

  pub ready_faults : (diags : List Diag) (s : Status) → plan_of texts roots ≡ Faulted diags s → p.scripts ≡ []
      → p.report ≡ concat (map (λ fault. diag_line fault [] ++ 10 ∷ []) diags) ++ last_line 0 (length diags) 0 → p.status ≡ s → p.settled ≡ 0 ∷ [] → p.checked ≡ 0 → p.built ≡ 0
      → IsReady texts roots verbose p
  ready_faults diags s is none report same settled checked counted =
      let lines : List ℕ = concat (map (λ fault. diag_line fault [] ++ 10 ∷ []) diags) in
      record {
        clean = faulted_of diags s;
        writes = subst (Writes texts roots (faulted_of diags s)) (sym none) (Writes.faulted diags s is);
        report = report ∙ (λ i. sym (append-nil lines) i ++ last_line 0 (length diags) 0) ∙ (λ i. (lines ++ sym (no_lines diags) i) ++ last_line 0 (length diags) 0);
        status = same;
        settled = settled;
        checked = checked;
        built = counted;
      }
