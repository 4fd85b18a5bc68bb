use Rattle.std.proofs.Common.{sym, append-nil}
use Rattle.tb_surface.proofs.Searching.{meets}
use Rattle.tb_surface.proofs.known.Search.meet.Goals as goal

pub returns-in_ok-push-in-Some-clause-search : goal.returns-in_ok-push-in-Some-clause-search
returns-in_ok-push-in-Some-clause-search c =
    meets _ _ _ _ _ _ _ c.args.name.now _ c.in_ok-clone.ensures.cases c.in_ok-insert.ensures.updates.0 c.in-Some.ensures.value c.remove.ensures.updates.0 c.in_ok-push-in-Some.ensures.items

pub returns-in-None-clause-search : goal.returns-in-None-clause-search
returns-in-None-clause-search c =
    meets _ _ _ _ _ _ _ c.args.name.now _ c.in_ok-clone.ensures.cases c.in_ok-insert.ensures.updates.0 c.in-None.ensures.value c.remove.ensures.updates.0 (sym (append-nil c.args.self.now.pending.items))
