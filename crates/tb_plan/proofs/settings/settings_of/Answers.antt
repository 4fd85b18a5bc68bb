use Rattle.tb_plan.proofs.Placed.{settings_so}
use Rattle.tb_plan.proofs.settings.settings_of.Goals as goal

pub returns-in_ok-settings-in-Order : goal.returns-in_ok-settings-in-Order
returns-in_ok-settings-in-Order c = λ tree visit is none.
    settings_so tree visit c.args.visited.now c.in-Order.numbers _ _ _ is c.in-Order.is c.as_slice-readings.ensures.value c.as_slice.ensures c.in_ok-settings-in-Order.ensures
