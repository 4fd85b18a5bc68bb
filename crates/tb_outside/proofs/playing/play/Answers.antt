use Rattle.std.proofs.Common.{◌≡◌, ℕ, ◌+◌, ◌<◌, false, length, get_or, List, [], ◌∷◌, ◌++◌, take, refl, sym, ap, subst, ◌∙◌}
use Rattle.std.specs.Prelude.{All}
use Rattle.tb_outside.specs.Playing.{IsElsewhere}
use Rattle.std.proofs.lemmas.List.{take_more}
use Rattle.tb_outside.specs.declared.disks.DiskStep.{DiskStep}
use Rattle.tb_outside.specs.Laws.{goes_on}
use Rattle.tb_outside.proofs.Steps.{next_reads, next_left, one_moment, moments_on}
use Rattle.tb_outside.proofs.playing.play.Goals as goal

one_more : (steps : List DiskStep) (i : ℕ) (step : DiskStep) → i < length steps → step ≡ get_or steps i step → take (i + 1) steps ≡ take i steps ++ step ∷ []
one_more steps i step lt is = take_more steps i step lt ∙ ap (λ (s : DiskStep). take i steps ++ s ∷ []) (sym is)

at_item : (P : DiskStep → Type 0) (steps : List DiskStep) (i : ℕ) (step : DiskStep) → i < length steps → step ≡ get_or steps i step → All P steps → P step
at_item P steps i step lt is all = subst P (sym is) (all i step lt)

pub returns-in_err-do_step-clause-others : goal.returns-in_err-do_step-clause-others
returns-in_err-do_step-clause-others g c = λ told q apart.
    c.do_step.ensures.others told q (at_item (IsElsewhere q) c.args.steps.now c.loop-step.step-index c.step-item.result c.loop-step-test.true c.step-item.is apart) ∙ c.loop-step.invariant.others told q apart

pub returns-in_err-do_step-clause-any_moment : goal.returns-in_err-do_step-clause-any_moment
returns-in_err-do_step-clause-any_moment g c = λ told.
    let inv = c.loop-step.invariant in
    let more = one_more c.args.steps.now c.loop-step.step-index c.step-item.result c.loop-step-test.true c.step-item.is in
    moments_on _ _ _ _ _ _ _ _ c.do_step.ensures.time (inv.moments told)
    (λ k from to. one_moment _ _ _ _ _ more _ (inv.reads told) _ _ c.loop-step-test.true (inv.left told) (c.do_step.ensures.any_moment told k from to))

pub loop-step-preserved : goal.loop-step-preserved
loop-step-preserved g c =
    let inv = c.loop-step.invariant in
    let more = one_more c.args.steps.now c.loop-step.step-index c.step-item.result c.loop-step-test.true c.step-item.is in
    let D = g.D.Disk in
    let old = D.left c.args.disk.now (D.clock c.args.disk.now) in
    let now = D.left c.loop-step.disk (D.clock c.loop-step.disk) in
    let next = D.left c.do_step.new.disk (D.clock c.do_step.new.disk) in
    record {
      time = goes_on _ _ _ _ _ _ inv.time c.do_step.ensures.time;
      count = c.in_ok-do_step.ensures.cause.still (refl {a = false}) ∙ inv.count;
      reads = λ told. next_reads _ _ old _ _ more _ (inv.reads told) _ (c.in_ok-do_step.ensures.done told);
      left = λ told. next_left _ _ old _ _ more _ (inv.reads told) now next (inv.left told) (c.in_ok-do_step.ensures.now told);
      others = λ told q apart. c.do_step.ensures.others told q (at_item (IsElsewhere q) c.args.steps.now c.loop-step.step-index c.step-item.result c.loop-step-test.true c.step-item.is apart) ∙ inv.others told q apart;
      moments = λ told. moments_on _ _ _ _ _ _ _ _ c.do_step.ensures.time (inv.moments told)
          (λ k from to. one_moment _ _ _ _ _ more _ (inv.reads told) _ _ c.loop-step-test.true (inv.left told) (c.do_step.ensures.any_moment told k from to));
    }
