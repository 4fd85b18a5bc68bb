-- What a publication is ready to do: the clean build of the texts. This project's own.
use Rattle.std.specs.Prelude.{ℕ, ◌≡◌, Bool, List, [], ◌∷◌, All}
use Rattle.tb_text.specs.declared.findings.Diag.{Diag}
use Rattle.tb_text.specs.declared.statuses.Status.{Status}
use Rattle.tb_plan.specs.Plans.{plan_of, Sound, Faulted}
use Rattle.tb_plan.specs.Laws.{PlanOk}
use Rattle.tb_session.specs.declared.publishes.Publication.{Publication}
use Rattle.tb_session.specs.declared.publishes.Script.{Script}
use Rattle.tb_session.specs.Builds.{Clean, build_of, faulted_of, checks_of, builds_of}
use Rattle.tb_session.specs.Generations.{Tree}
use Rattle.tb_session.specs.Reports.{report_text, status_of}
use Rattle.tb_session.specs.Scripts.{AreScripts}
use Rattle.tb_session.specs.Sources.{Build, IsBuild, projects_in}

-- the scripts write the clean build; of a plan with faults nothing is written
pub data Writes (texts : Tree) (roots : List (List ℕ)) : Clean → List Script → Type 0 where
  built : (builds : List Build) {scripts : List Script} → plan_of texts roots ≡ Sound (record { projects = projects_in builds })
      → PlanOk texts (record { projects = projects_in builds }) → All (IsBuild texts) builds → AreScripts builds scripts
      → Writes texts roots (build_of builds) scripts
  faulted : (diags : List Diag) (status : Status) → plan_of texts roots ≡ Faulted diags status → Writes texts roots (faulted_of diags status) []

pub record IsReady (texts : Tree) (roots : List (List ℕ)) (verbose : Bool) (p : Publication) : Type 0 where
  pub clean : Clean
  pub writes : Writes texts roots clean p.scripts
  pub report : p.report ≡ report_text 0 verbose texts clean
  pub status : p.status ≡ status_of clean
  pub settled : p.settled ≡ 0 ∷ []
  pub checked : p.checked ≡ checks_of clean
  pub built : p.built ≡ builds_of clean
