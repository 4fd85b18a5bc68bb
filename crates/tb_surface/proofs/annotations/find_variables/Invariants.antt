use Rattle.std.proofs.Common.{◌≡◌, ℕ, List, ◌++◌, take, flat_map}
use Rattle.tb_layout.specs.Annotations as spec
use Rattle.tb_surface.specs.Names.{HasNames}
use Rattle.tb_surface.proofs.annotations.find_variables.Given as goal

abbrev pub invariant-loop-declarator : goal.invariant-loop-declarator
invariant-loop-declarator l =
    (names : List (List ℕ)) → HasNames l.listed names → l.found ≡ l.initial.found ++ flat_map (spec.variable_findings names l.exported) (take l.declarator-index l.declarator-items)
