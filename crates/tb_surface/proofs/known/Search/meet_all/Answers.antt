use Rattle.std.proofs.Common.{◌∙◌, arith}
use Rattle.tb_surface.proofs.Searching.{meets_next, met_all}
use Rattle.tb_surface.proofs.known.Search.meet_all.Goals as goal

pub loop-name-preserved : goal.loop-name-preserved
loop-name-preserved c = record {
  search =
      meets_next c.args.names.now c.loop-name.name-index c.name-item.result _ _ _ _ _ _ _ c.loop-name.self.pending.items c.meet.new.self.pending.items (omega arith) c.name-item.is c.loop-name.invariant.search c.in_ok-meet.ensures.search;
  size = c.in_ok-meet.ensures.size ∙ c.loop-name.invariant.size;
}

pub returns-clause-search : goal.returns-clause-search
returns-clause-search c = met_all c.args.names.now c.loop-name.name-index _ _ _ _ _ c.loop-name.self.pending.items (omega arith) c.loop-name.invariant.search
