-- What holds of each image before, during and after a run of steps. This project's own.
use Rattle.std.specs.Prelude.{ℕ, zero, suc, ◌≤◌, List, [], ◌∷◌, take}
use Rattle.tb_outside.specs.declared.disks.DiskStep.{DiskStep}
use Rattle.tb_outside.specs.Disk.{Files, Outcomes, read_after, left_after, left_after_all}
use Rattle.tb_outside.specs.Moments.{Always, Elapses, LeavesOnly}
use Rattle.tb_outside.specs.Playing.{AfterSome}

-- before the first step, and after each, each image has P
abbrev pub Keeps : (Files → Type 0) → List DiskStep → Files → Outcomes → Type 0
Keeps P [] files old = Always P old
Keeps P (step ∷ steps) files old = Always P old × Keeps P steps (read_after step files) (left_after step files old)

pub at_first : (P : Files → Type 0) (steps : List DiskStep) (files : Files) (old : Outcomes) → Keeps P steps files old → Always P old
at_first P [] files old keeps = keeps
at_first P (step ∷ steps) files old keeps = keeps.0

pub after_some : (P : Files → Type 0) (steps : List DiskStep) (files : Files) (old : Outcomes) (n : ℕ) → Keeps P steps files old → Always P (left_after_all (take n steps) files old)
after_some P steps files old zero keeps = at_first P steps files old keeps
after_some P [] files old (suc n) keeps = keeps
after_some P (step ∷ steps) files old (suc n) keeps = after_some P steps (read_after step files) (left_after step files old) n keeps.1

-- so a run of these steps leaves, at each of its moments, only what has P
pub keeps_leaves : {D : Type 0} (clock : D → ℕ) (left : D → ℕ → Outcomes) (old new : D) (P : Files → Type 0) (steps : List DiskStep) (files : Files)
    → Elapses (clock old) (clock new) (left old) (left new)
    → ((k : ℕ) → clock old ≤ k → k ≤ clock new → AfterSome steps files (left old (clock old)) (left new k))
    → Keeps P steps files (left old (clock old)) → LeavesOnly clock left old new P
keeps_leaves clock left old new P steps files time moments keeps = record {
  time = time;
  each = λ k from to image is.
      let at = moments k from to in
      after_some P steps files (left old (clock old)) at.0 keeps image (λ q. at.2 q (image q) (is q));
}
