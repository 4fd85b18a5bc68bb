use Rattle.std.proofs.Common.{◌≡◌, ◌++◌, [], take}
use Rattle.std.specs.Prelude.{fold}
use Rattle.std.specs.List.{flat_map}
use Rattle.std.specs.BTreeSet.{insert_key}
use Rattle.tb_text.specs.Bytes.{bytes_cmp}
use Rattle.tb_plan.specs.Inputs.{shared_faults}
use Rattle.tb_plan.proofs.shared.add_shared_faults.Given as goal

abbrev pub invariant-loop-project : goal.invariant-loop-project
invariant-loop-project l =
    (l.faults.items ≡ l.initial.faults.items ++ shared_faults (take l.project-index l.projects))
    × (l.seen.keys ≡ fold (insert_key bytes_cmp) [] (flat_map (λ p. p.inputs) (take l.project-index l.projects)))
