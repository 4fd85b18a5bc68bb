-- All that was met is numbered and reached; the first configs were read.
use Rattle.std.proofs.Common.{length}
use Rattle.tb_plan.specs.Searches.{IsNumbering, AreNumbers, IsSearch, AreReached, left}
use Rattle.tb_plan.proofs.reach.reached_from.Given as goal

abbrev pub invariant-unread : goal.invariant-unread
invariant-unread l =
    IsNumbering l.reach.configs.paths.items l.reach.configs.numbers
    × IsSearch l.tree l.reach.configs.paths.items l.reach.readings.items l.reach.references.items
    × AreReached l.tree l.roots l.reach.configs.paths.items
    × AreNumbers l.reach.configs.paths.items l.starts-inside.members.items l.roots

abbrev pub decreases-unread : goal.decreases-unread
decreases-unread l = left l.tree l.reach.configs.paths.items (length l.reach.readings.items)
