use Rattle.std.proofs.Common.{◌≡◌, [], drop}
use Rattle.tb_graph.specs.Visits.{Outcome, Visits}
use Rattle.tb_graph.specs.Stacks.{IsSound}
use Rattle.tb_graph.proofs.orders.order.Given as goal

abbrev pub invariant-loop-root : goal.invariant-loop-root
invariant-loop-root l = record {
  sound : IsSound l.refs l.visit.marks.items [] l.visit.finished.items;
  start : l.visit.frames.items ≡ [];
  goes : (outcome : Outcome) → Visits l.refs [] l.visit.finished.items (drop l.root-index l.roots) outcome → Visits l.refs [] [] l.roots outcome;
}
