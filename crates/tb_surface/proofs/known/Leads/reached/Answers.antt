use Rattle.tb_surface.proofs.Searching.{searched}
use Rattle.tb_surface.proofs.known.Leads.reached.Goals as goal

pub returns : goal.returns
returns c =
    searched c.args.self.starts c.as_slice.result.now c.args.self.further _ _ _ _ _ _ c.into_met.result _ _ c.as_slice.ensures (c.new-search.ensures c.as_slice.result.now) c.in_ok-meet_all.ensures.search c.in_ok-follow_all.ensures
    c.into_met.ensures
