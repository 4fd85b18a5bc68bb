use Rattle.std.proofs.Common.{All}
use Rattle.std.specs.FinMap as map
use Rattle.tb_config.specs.Seen.{AreRead, IsKept}
use Rattle.tb_config.specs.Stacks.{GoesOn, IsSound, effort, found, steps_of, taken}
use Rattle.tb_config.specs.Walks.{walk_from}
use Rattle.tb_config.proofs.walks.walk_from.Given as goal

abbrev pub invariant-loop-frame : goal.invariant-loop-frame
invariant-loop-frame l = record {
  sound : IsSound l.walk.known l.walk.opened l.walk.entered.items l.walk.frames.items;
  read : AreRead l.tree l.configs;
  kept : All (IsKept l.configs) l.walk.entered.items;
  goes : GoesOn l.order l.tree (found l.walk) (steps_of l.walk.frames.items) (walk_from (taken l.order l.tree) (map.keys l.tree) l.path);
}

abbrev pub decreases-loop-frame : goal.decreases-loop-frame
decreases-loop-frame l = effort l.order l.tree l.walk.entered.items (steps_of l.walk.frames.items) l.walk.frames.items
