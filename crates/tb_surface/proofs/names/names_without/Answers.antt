use Rattle.std.proofs.Common.{arith}
use Rattle.tb_surface.proofs.Named.{without_next}
use Rattle.tb_surface.proofs.names.names_without.Goals as goal

pub loop-name-preserved : goal.loop-name-preserved
loop-name-preserved c =
    without_next _ c.args.names.now c.loop-name.name-index c.name-item.result _ _ (omega arith) c.name-item.is c.loop-name.invariant c.in_ok-add_unless.ensures
