use Rattle.std.proofs.Common.{IsTrue}
use Rattle.std.specs.Prelude.{false}
use Rattle.tb_outside.specs.Causes.{Causes}
use Rattle.tb_outside.specs.Disk.{Same, read_after_all}
use Rattle.tb_session.specs.Publishes.{steps_of}
use Rattle.tb_session.proofs.Playing.{EndsWith}
use Rattle.tb_session.proofs.publishes.write_all.Given as goal

abbrev pub invariant-loop-script : goal.invariant-loop-script
invariant-loop-script g l = record {
  done : IsTrue g.D.Disk.tells → Same (read_after_all (steps_of l.yielded) (g.D.Disk.reads l.fn.disk)) (g.D.Disk.reads l.disk);
  ends : EndsWith l.yielded l.last;
  cause : Causes (g.D.Disk.count l.fn.disk) (g.D.Disk.count l.disk) false;
}
