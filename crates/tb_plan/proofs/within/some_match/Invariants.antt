use Rattle.std.proofs.Common.{◌≡◌, false, take}
use Rattle.std.specs.List.{list_any}
use Rattle.tb_globs.specs.Globs.{is_match}
use Rattle.tb_plan.proofs.within.some_match.Given as goal

abbrev pub invariant-loop-pattern : goal.invariant-loop-pattern
invariant-loop-pattern l = list_any (λ p. is_match p l.use_of l.path) (take l.pattern-index l.patterns) ≡ false
