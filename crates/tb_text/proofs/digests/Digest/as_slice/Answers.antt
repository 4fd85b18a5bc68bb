use Rattle.tb_text.proofs.digests.Digest.as_slice.Goals as goal

pub returns-clause-small : goal.returns-clause-small
returns-clause-small c = rw (← c.self.view_is) c.self.invariant
