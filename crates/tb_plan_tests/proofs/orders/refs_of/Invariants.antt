use Rattle.std.proofs.Common.{◌<◌, ◌≡◌, length}
use Rattle.std.specs.Prelude.{All}
use Rattle.tb_plan_tests.proofs.orders.refs_of.Given as goal

abbrev pub invariant-loop-node : goal.invariant-loop-node
invariant-loop-node l = (length l.refs.items ≡ l.node-index) × All (All (λ node. node < length l.nodes)) l.refs.items
