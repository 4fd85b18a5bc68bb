use Rattle.std.proofs.Common.{flat_map, take}
use Rattle.tb_surface.specs.Names as spec
use Rattle.tb_surface.proofs.known.Leads.add_items.Given as goal

abbrev pub invariant-loop-item : goal.invariant-loop-item
invariant-loop-item l =
    spec.LeadsOn l.listed l.initial.self.starts l.initial.self.further l.self.starts l.self.further (flat_map spec.item_parts (take l.item-index l.all))
