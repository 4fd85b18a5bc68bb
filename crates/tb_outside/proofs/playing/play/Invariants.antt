use Rattle.std.proofs.Common.{◌≡◌, ℕ, ◌≤◌, List, take}
use Rattle.std.specs.Prelude.{IsTrue, All}
use Rattle.tb_outside.specs.Disk.{Same, read_after_all, left_after_all}
use Rattle.tb_outside.specs.Moments.{Within, Elapses}
use Rattle.tb_outside.specs.Playing.{AfterSome, IsElsewhere}
use Rattle.tb_outside.proofs.playing.play.Given as goal

abbrev pub invariant-loop-step : goal.invariant-loop-step
invariant-loop-step g l =
    let D = g.D.Disk in
    record {
      time : Elapses (D.clock l.fn.disk) (D.clock l.disk) (D.left l.fn.disk) (D.left l.disk);
      count : D.count l.disk ≡ D.count l.fn.disk;
      reads : IsTrue D.tells → Same (read_after_all (take l.step-index l.steps) (D.reads l.fn.disk)) (D.reads l.disk);
      left : IsTrue D.tells → Within (left_after_all (take l.step-index l.steps) (D.reads l.fn.disk) (D.left l.fn.disk (D.clock l.fn.disk))) (D.left l.disk (D.clock l.disk));
      others : IsTrue D.tells → (q : List ℕ) → All (IsElsewhere q) l.steps → D.reads l.disk q ≡ D.reads l.fn.disk q;
      moments : IsTrue D.tells → (k : ℕ) → D.clock l.fn.disk ≤ k → k ≤ D.clock l.disk → AfterSome l.steps (D.reads l.fn.disk) (D.left l.fn.disk (D.clock l.fn.disk)) (D.left l.disk k);
    }
