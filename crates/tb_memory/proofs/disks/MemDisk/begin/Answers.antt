use Rattle.tb_memory.proofs.disks.MemDisk.begin.Goals as goal

pub invariant_of-self : goal.invariant_of-self
invariant_of-self c = (c.self.invariant.0, λ cut. c.begin.ensures.stopped (c.self.invariant.1 cut))
