-- What holds of a publication that is ready.
use Rattle.std.proofs.Common.{◌≡◌, ◌++◌, ℕ, Bool, true, false, cond, List, [], ◌∷◌, ◌⊎◌, inl, inr, refl, subst, arith, IsTrue}
use Rattle.std.specs.Prelude.{Option, Some, None}
use Rattle.std.specs.List.{AllByRecursion, list_any}
use Rattle.tb_text.specs.declared.findings.Diag.{Diag}
use Rattle.tb_text.specs.declared.statuses.Status.{Status}
use Rattle.tb_text.specs.declared.statuses.Status.TheVariants.{Skipped, InvalidProject}
use Rattle.tb_outside.specs.Disk.{Files, read_after_all}
use Rattle.tb_plan.specs.Orders.{visited}
use Rattle.tb_plan.specs.Plans.{Planned, Sound, Faulted, plan_of, first_faults, unless_faulty, status_by, is_lost}
use Rattle.tb_plan.specs.declared.plans.Plan.{Plan}
use Rattle.tb_session.specs.Blamed.{Blamed}
use Rattle.tb_session.specs.Builds.{Clean, IsClean, IsNoOutput, diags_from}
use Rattle.tb_session.specs.Ends.{IsSettled}
use Rattle.tb_session.specs.Generations.{Tree}
use Rattle.tb_session.specs.Plans.{IsOutside}
use Rattle.tb_session.specs.Publishes.{FailsAt, steps_of}
use Rattle.tb_session.specs.Ready.{Writes}
use Rattle.tb_session.specs.Reports.{status_of, status_by as by_diags}
use Rattle.tb_session.specs.declared.publishes.Script.{Script}
use Rattle.tb_session.proofs.Members.{in_from, in_back}
use Rattle.tb_session.proofs.Written as written

-- ---- the status of a plan with faults is that of a settled generation

faulty_by : (faults : List Diag) (s : Status) (planned : Planned) (diags : List Diag) (status : Status) → unless_faulty faults s planned ≡ Faulted diags status → (s ≡ status) ⊎ (planned ≡ Faulted diags status)
faulty_by [] s planned diags status e = inr e
faulty_by (d ∷ faults) s planned diags status e = inl (cc)

not_sound : (plan : Plan) (diags : List Diag) (status : Status) → Sound plan ≡ Faulted diags status → ⊥
not_sound plan diags status e = cc

first_settles : (tree : Tree) (roots : List (List ℕ)) (cycle : Option (List (List ℕ))) → IsSettled (status_by tree roots cycle)
first_settles tree roots (Some cycle) = omega arith
first_settles tree roots None = elim (list_any (is_lost tree) roots) as (λ b. IsSettled (cond b InvalidProject Skipped)) [ true ↦ omega arith | false ↦ omega arith ]

settles_by : (tree : Tree) (roots : List (List ℕ)) (first second : List Diag) (cycle : Option (List (List ℕ))) (plan : Plan) (diags : List Diag) (status : Status)
    → unless_faulty first (status_by tree roots cycle) (unless_faulty second Skipped (Sound plan)) ≡ Faulted diags status → IsSettled status
settles_by tree roots first second cycle plan diags status e = elim (faulty_by first (status_by tree roots cycle) (unless_faulty second Skipped (Sound plan)) diags status e) [
  | inl one ↦ subst IsSettled one (first_settles tree roots cycle)
  | inr then ↦ elim (faulty_by second Skipped (Sound plan) diags status then) [
    | inl two ↦ subst IsSettled two (omega arith)
    | inr sound ↦ absurd (not_sound plan diags status sound)
  ]
]

faulted_settles : (tree : Tree) (roots : List (List ℕ)) (diags : List Diag) (status : Status) → plan_of tree roots ≡ Faulted diags status → IsSettled status
unfolding plan_of
faulted_settles tree roots diags status e = settles_by tree roots (first_faults tree (visited tree roots)) _ (visited tree roots).cycle _ diags status e

-- ---- what is ready

no_script : (before after : List Script) (script : Script) → [] ≡ before ++ script ∷ after → ⊥
no_script [] after script e = cc
no_script (b ∷ before) after script e = cc

built_settles : (diags : List Diag) → IsSettled (by_diags None diags)
built_settles [] = omega arith
built_settles (diag ∷ rest) = omega arith

module _ (texts : Tree) (roots : List (List ℕ)) where
  pub is_clean : (clean : Clean) (scripts : List Script) → Writes texts roots clean scripts → IsClean texts roots clean
  is_clean clean scripts (Writes.built builds plan ok are script) = IsClean.built builds plan are
  is_clean clean scripts (Writes.faulted diags status plan) = IsClean.faulted diags status plan

  pub settles : (clean : Clean) (scripts : List Script) → Writes texts roots clean scripts → IsSettled (status_of clean)
  settles clean scripts (Writes.built builds plan ok are script) = built_settles (diags_from 0 builds)
  settles clean scripts (Writes.faulted diags status plan) = faulted_settles texts roots diags status plan

  pub all_read : (clean : Clean) (scripts : List Script) → Writes texts roots clean scripts → (files : Files) → AllByRecursion (λ output. read_after_all (steps_of scripts) files output.0 ≡ Some output.1) clean.outputs
  all_read clean scripts (Writes.built builds plan ok are script) files = written.outputs_read texts builds scripts files ok are script
  all_read clean scripts (Writes.faulted diags status plan) files = tt

  -- what lies outside all output folders is no output
  pub outside : (clean : Clean) (scripts : List Script) → Writes texts roots clean scripts → (path : List ℕ) → IsOutside (plan_of texts roots) path → IsNoOutput clean path
  outside clean scripts (Writes.built builds plan ok are script) path out =
      λ o has. written.outside builds path (subst (λ (p : Planned). IsOutside p path) plan out) o (in_from (written.all_outputs builds) o has)
  outside clean scripts (Writes.faulted diags status plan) path out = λ o has. absurd (in_from [] o has)

  pub untouched : (clean : Clean) (scripts : List Script) → Writes texts roots clean scripts → (files : Files) (path : List ℕ) → IsNoOutput clean path → read_after_all (steps_of scripts) files path ≡ files path
  untouched clean scripts (Writes.built builds plan ok are script) files path apart =
      written.untouched (written.all_outputs builds) (steps_of scripts) files path (written.wrote builds scripts script) (λ o i. apart o (in_back (written.all_outputs builds) o i))
  untouched clean scripts (Writes.faulted diags status plan) files path apart = refl

  pub blamed : (clean : Clean) (scripts : List Script) → Writes texts roots clean scripts → (disk_tells : Bool) (config : List ℕ) (old new : Files) → IsTrue disk_tells → FailsAt disk_tells scripts config old new → Blamed texts roots config old new
  blamed clean scripts (Writes.built builds plan ok are script) disk_tells config old new told f = written.blamed texts roots builds scripts plan ok are script disk_tells config old new told f
  blamed clean scripts (Writes.faulted diags status plan) disk_tells config old new told f = absurd (no_script f.before f.after f.script f.whole)

  pub failed_elsewhere : (clean : Clean) (scripts : List Script) → Writes texts roots clean scripts → (disk_tells : Bool) (config : List ℕ) (old new : Files) → IsTrue disk_tells → FailsAt disk_tells scripts config old new
      → (path : List ℕ) → IsNoOutput clean path → new path ≡ old path
  failed_elsewhere clean scripts (Writes.built builds plan ok are script) disk_tells config old new told f path apart =
      written.failed_elsewhere builds scripts script disk_tells config old new told f path (λ o i. apart o (in_back (written.all_outputs builds) o i))
  failed_elsewhere clean scripts (Writes.faulted diags status plan) disk_tells config old new told f path apart = absurd (no_script f.before f.after f.script f.whole)
