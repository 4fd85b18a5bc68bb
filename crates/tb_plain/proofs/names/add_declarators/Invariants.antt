use Rattle.std.proofs.Common.{◌≡◌, ◌++◌, map, drop}
use Rattle.tb_plain.specs.Plain as spec
use Rattle.tb_plain.proofs.names.add_declarators.Given as goal

abbrev pub invariant-loop-declarator : goal.invariant-loop-declarator
invariant-loop-declarator l =
    map (λ name. name.now) l.names.items ++ map spec.declarator_name (drop l.declarator-index l.declarators) ≡ map (λ name. name.now) l.initial.names.items ++ map spec.declarator_name l.declarators
