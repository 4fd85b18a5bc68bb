use Rattle.std.proofs.Common.{sym, ap, ◌∙◌}
use Rattle.std.specs.Prelude.{IsTrue}
use Rattle.tb_memory.specs.Crashes.{DiskState}
use Rattle.tb_memory.specs.Plans.{is_stop}
use Rattle.tb_memory.proofs.Stops.{number_reaches}
use Rattle.tb_memory.proofs.disks.MemDisk.take.Goals as goal

pub cut_off-requires : goal.cut_off-requires
cut_off-requires c =
    let now = c.args.self.now.plan in
    let is : IsTrue (is_stop now) = ap (λ (s : DiskState). is_stop s.plan) (sym c.self.view_is) ∙ sym c.is_stop-is_stop.ensures ∙ c.if-is_stop.true in
    c.begin.ensures.stopped (number_reaches now.stop now.calls is)
