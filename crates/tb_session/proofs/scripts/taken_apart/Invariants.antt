use Rattle.std.proofs.Common.{◌≡◌, map, flat_map}
use Rattle.tb_session.specs.Emitted.{outputs_made}
use Rattle.tb_session.proofs.scripts.taken_apart.Given as goal

abbrev pub invariant-loop-each : goal.invariant-loop-each
invariant-loop-each l = record { entries : l.entries ≡ map (λ each. each.entry) l.yielded; outputs : l.outputs.items ≡ flat_map outputs_made l.yielded }
