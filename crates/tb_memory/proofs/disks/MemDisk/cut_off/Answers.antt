use Rattle.std.proofs.Common.{Bool, List, sym, ap, subst, ◌∙◌}
use Rattle.std.specs.Prelude.{IsTrue}
use Rattle.tb_outside.specs.declared.disks.DiskStep.{DiskStep}
use Rattle.tb_memory.specs.Crashes.{DiskState, read_of, done_of, front}
use Rattle.tb_memory.specs.Laws.{front_of}
use Rattle.tb_memory.specs.Plans.{reaches}
use Rattle.tb_memory.proofs.disks.MemDisk.cut_off.Goals as goal

pub invariant_of-self-in-Ok-push : goal.invariant_of-self-in-Ok-push
invariant_of-self-in-Ok-push c = (
  λ q. c.self.invariant.0 q
      ∙ ap (λ (cut : Bool). read_of (done_of c.self.inside.log.items cut) q) c.if-self.false
      ∙ sym (ap (λ (l : List DiskStep). read_of (front l) q) c.in-Ok-push.ensures.items ∙ ap (λ (l : List DiskStep). read_of l q) (front_of c.self.inside.log.items c.in-Ok.step)),
  λ cut. subst (λ (s : DiskState). IsTrue (reaches s.plan.stop s.plan.calls)) (sym c.self.view_is) c.requires,
)
