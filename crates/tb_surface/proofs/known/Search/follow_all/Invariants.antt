use Rattle.std.proofs.Common.{◌+◌, [], vec_len}
use Rattle.std.specs.BTreeMap.{btree_map_len}
use Rattle.tb_surface.specs.Names as spec
use Rattle.tb_surface.proofs.known.Search.follow_all.Given as goal

abbrev pub invariant-following : goal.invariant-following
invariant-following l =
    spec.SearchesOn l.initial.self.left l.initial.self.met (spec.waiting l.initial.self.pending.items []) l.self.left l.self.met (spec.waiting l.self.pending.items [])

abbrev pub decreases-following : goal.decreases-following
decreases-following l = btree_map_len l.self.left + vec_len l.self.pending
