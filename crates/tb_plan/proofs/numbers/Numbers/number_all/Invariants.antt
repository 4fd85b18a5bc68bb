-- The paths so far have their numbers.
use Rattle.std.proofs.Common.{take}
use Rattle.tb_plan.specs.Searches.{IsNumbering, AreNumbers, Grew}
use Rattle.tb_plan.proofs.numbers.Numbers.number_all.Given as goal

abbrev pub invariant-loop-path : goal.invariant-loop-path
invariant-loop-path l =
    IsNumbering l.self.paths.items l.self.numbers
    × Grew l.initial.self.paths.items l.self.paths.items (take l.path-index l.paths)
    × AreNumbers l.self.paths.items l.numbers.items (take l.path-index l.paths)
