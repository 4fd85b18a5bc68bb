use Rattle.std.proofs.Common.{◌≡◌, length, take}
use Rattle.tb_text.specs.Walks.{texts}
use Rattle.tb_globs.proofs.walk.cut.Given as goal

abbrev pub invariant-loop-segment : goal.invariant-loop-segment
invariant-loop-segment l = record { count : l.count ≡ length l.yielded; same : texts (take l.count l.found) ≡ texts l.yielded }
