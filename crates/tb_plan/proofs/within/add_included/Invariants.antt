use Rattle.std.proofs.Common.{◌++◌, take}
use Rattle.std.specs.List.{filter, flat_map}
use Rattle.tb_plan.specs.Members.{HasSame}
use Rattle.tb_plan.specs.Within.{is_taken}
use Rattle.tb_plan.proofs.within.add_included.Given as goal

abbrev pub invariant-loop-pattern : goal.invariant-loop-pattern
invariant-loop-pattern l = HasSame l.inputs.items (l.initial.inputs.items ++ flat_map (λ p. filter (is_taken l.setting p) l.files) (take l.pattern-index l.pattern-items))
