use Rattle.std.proofs.Common.{◌≡◌, ℕ, List, ◌++◌, take, flat_map}
use Rattle.tb_layout.specs.Annotations as spec
use Rattle.tb_surface.specs.Names.{HasNames}
use Rattle.tb_surface.proofs.annotations.find_items.Given as goal

abbrev pub invariant-loop-item : goal.invariant-loop-item
invariant-loop-item l =
    (names : List (List ℕ)) → HasNames l.listed names → l.found ≡ l.initial.found ++ flat_map (spec.item_findings names) (take l.item-index l.all)
