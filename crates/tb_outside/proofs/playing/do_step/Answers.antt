use Rattle.std.proofs.Common.{inl}
use Rattle.tb_outside.specs.Laws.{at_end, write_was, move_was, remove_was, rename_leaves}
use Rattle.tb_outside.proofs.Steps.{on_ok}
use Rattle.tb_outside.proofs.playing.do_step.Goals as goal

pub returns-in-Write-clause-now : goal.returns-in-Write-clause-now
returns-in-Write-clause-now g c = rw c.in-Write.is (λ told. on_ok _ _ (at_end _ _ _ _ _ c.write.ensures.time c.write.ensures.crash (write_was _ _)))

pub returns-in-Write-clause-any_moment : goal.returns-in-Write-clause-any_moment
returns-in-Write-clause-any_moment g c = rw c.in-Write.is (λ told k from to. inl (c.write.ensures.crash k from to))

pub returns-in-Rename-clause-now : goal.returns-in-Rename-clause-now
returns-in-Rename-clause-now g c = rw c.in-Rename.is (λ told. on_ok _ _ (at_end _ _ _ _ _ c.rename.ensures.time (rename_leaves _ _ (g.D.Disk.reads c.args.disk.now) _ _ _ _ c.rename.ensures.crash (c.rename.ensures.absent told)) (move_was _ _ (g.D.Disk.reads c.args.disk.now) _)))

pub returns-in-Rename-clause-any_moment : goal.returns-in-Rename-clause-any_moment
returns-in-Rename-clause-any_moment g c = rw c.in-Rename.is (λ told k from to. inl (rename_leaves _ _ (g.D.Disk.reads c.args.disk.now) _ _ _ _ c.rename.ensures.crash (c.rename.ensures.absent told) k from to))

pub returns-in-Remove-clause-now : goal.returns-in-Remove-clause-now
returns-in-Remove-clause-now g c = rw c.in-Remove.is (λ told. on_ok _ _ (at_end _ _ _ _ _ c.remove.ensures.time c.remove.ensures.crash (remove_was _ _)))

pub returns-in-Remove-clause-any_moment : goal.returns-in-Remove-clause-any_moment
returns-in-Remove-clause-any_moment g c = rw c.in-Remove.is (λ told k from to. inl (c.remove.ensures.crash k from to))
