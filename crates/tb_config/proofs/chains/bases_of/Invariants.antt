use Rattle.std.proofs.Common.{◌≡◌, ◌||◌, ℕ, List}
use Rattle.std.specs.BTreeSet.{contains}
use Rattle.std.specs.List.{flat_map}
use Rattle.tb_text.specs.Bytes.{bytes_cmp}
use Rattle.tb_config.specs.Bases.{bases_at}
use Rattle.tb_config.specs.Seen.{AreRead, IsKept}
use Rattle.tb_config.specs.Walks.{is_in}
use Rattle.tb_config.proofs.chains.bases_of.Given as goal

abbrev pub invariant-loop-path : goal.invariant-loop-path
invariant-loop-path l = record {
  read : AreRead l.tree l.configs;
  kept : (p : List ℕ) → IsKept l.initial.configs p → IsKept l.configs p;
  bases : (p : List ℕ) → is_in (flat_map (bases_at l.tree) l.level.keys) p ≡ (contains bytes_cmp l.all p || is_in (flat_map (bases_at l.tree) l.path-iterator) p);
}
