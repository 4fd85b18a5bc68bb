use Rattle.std.proofs.Common.{arith}
use Rattle.tb_layout.specs.Parts.{exported_name}
use Rattle.tb_surface.proofs.Named.{gained_none, gained_one_more}
use Rattle.tb_surface.proofs.known.add_specs.Goals as goal

pub loop-of-init : goal.loop-of-init
loop-of-init c = gained_none _

pub loop-of-preserved : goal.loop-of-preserved
loop-of-preserved c =
    gained_one_more exported_name c.args.specs.now c.loop-of.of-index c.of-item.result _ _ _ _ (omega arith) c.of-item.is c.loop-of.invariant c.in_ok-clone.ensures.cases c.in_ok-insert.ensures.updates.0
