use Rattle.std.proofs.Common.{◌≡◌, ◌++◌, drop, flat_map}
use Rattle.tb_session.specs.Emitted.{entry_diags}
use Rattle.tb_session.proofs.scripts.push_diags.Given as goal

abbrev pub invariant-loop-each : goal.invariant-loop-each
invariant-loop-each l = l.diags ++ flat_map (λ each. entry_diags l.number each.entry) (drop l.each-index l.emitted) ≡ l.initial.diags ++ flat_map (λ each. entry_diags l.number each.entry) l.emitted
