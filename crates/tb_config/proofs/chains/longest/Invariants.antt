use Rattle.std.proofs.Common.{◌≡◌, ◌+◌, ◌-◌, ◌≤◌, ℕ, List, [], ◌∷◌}
use Rattle.tb_config.specs.Bases.{bases_at}
use Rattle.tb_config.specs.Seen.{AreRead, IsKept}
use Rattle.tb_config.specs.Walks.{longest}
use Rattle.tb_config.proofs.chains.longest.Given as goal

abbrev pub invariant-loop-i : goal.invariant-loop-i
invariant-loop-i l = record {
  read : AreRead l.tree l.configs;
  kept : (p : List ℕ) → IsKept l.initial.configs p → IsKept l.configs p;
  within : l.chain ≤ l.i;
  longest : longest (bases_at l.tree) l.count (l.path ∷ []) ≡ l.chain + longest (bases_at l.tree) (l.count - l.i) l.level.keys;
}
