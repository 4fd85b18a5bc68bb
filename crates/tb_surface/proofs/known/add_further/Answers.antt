use Rattle.tb_surface.proofs.Leading.{led_on}
use Rattle.tb_surface.proofs.known.add_further.Goals as goal

pub returns : goal.returns
returns c =
    led_on c.args.further.now c.taken-all.new.further c.insert.new.self c.args.name.now _ _ c.args.names.now _ c.taken-all.ensures.led c.taken-all.ensures.others c.in_ok-add_names.ensures c.in_ok-clone.ensures.cases c.in_ok-insert.ensures.updates.0
