use Rattle.std.proofs.Common.{sym, ap, ◌∙◌}
use Rattle.std.specs.Prelude.{slice_get, List, ℕ}
use Rattle.tb_plan.specs.declared.readings.Reading.{Reading}
use Rattle.tb_plan.proofs.Firsts.{config_faults_step, numbers_missing, not_there}
use Rattle.tb_plan.proofs.first.add_config_faults.Goals as goal

pub returns-in_default : goal.returns-in_default
returns-in_default c = λ tree is.
    absurd (not_there tree c.args.reach.now c.args.number is c.requires (sym (c.in_default.ensures ∙ ap (λ (l : List Reading). slice_get l c.args.number) c.as_slice.ensures.value)))

pub returns-in_default-member_at : goal.returns-in_default-member_at
returns-in_default-member_at c = λ tree is.
    absurd (numbers_missing tree c.args.reach.now c.args.number is c.requires (sym (c.in_default-member_at.ensures ∙ ap (λ (l : List (List ℕ)). slice_get l c.args.number) c.as_slice-2.ensures.value)))

pub returns : goal.returns
returns c = λ tree is. config_faults_step tree c.args.reach.now c.args.number c.in-Some.reading.now c.in-Some-member_at.numbers.now _ _ _ c.requires
    (c.in-Some.ensures ∙ ap (λ (l : List Reading). slice_get l c.args.number) c.as_slice.ensures.value) (c.in-Some-member_at.ensures ∙ ap (λ (l : List (List ℕ)). slice_get l c.args.number) c.as_slice-2.ensures.value)
    c.as_slice-3.ensures c.in_ok-add_reading_faults.ensures is
