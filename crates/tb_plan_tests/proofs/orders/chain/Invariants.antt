use Rattle.std.proofs.Common.{◌<◌, ◌≡◌, length}
use Rattle.std.specs.Prelude.{All}
use Rattle.tb_plan_tests.proofs.orders.chain.Given as goal

abbrev pub invariant-loop-at : goal.invariant-loop-at
invariant-loop-at l = (length l.refs.items ≡ l.at) × All (All (λ node. node < l.count)) l.refs.items
