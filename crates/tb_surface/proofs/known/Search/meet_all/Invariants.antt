use Rattle.std.proofs.Common.{◌≡◌, ◌+◌, drop, vec_len}
use Rattle.std.specs.BTreeMap.{btree_map_len}
use Rattle.tb_surface.specs.Names as spec
use Rattle.tb_surface.proofs.known.Search.meet_all.Given as goal

abbrev pub invariant-loop-name : goal.invariant-loop-name
invariant-loop-name l = record {
  search : spec.SearchesOn l.initial.self.left l.initial.self.met (spec.waiting l.initial.self.pending.items l.names) l.self.left l.self.met (spec.waiting l.self.pending.items (drop l.name-index l.names));
  size : btree_map_len l.self.left + vec_len l.self.pending ≡ btree_map_len l.initial.self.left + vec_len l.initial.self.pending;
}
