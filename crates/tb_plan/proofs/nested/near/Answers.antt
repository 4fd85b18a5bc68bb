use Rattle.std.proofs.Common.{ap, ◌∙◌, ◌++◌, List, ℕ}
use Rattle.tb_plan.proofs.Pairs.{near_same}
use Rattle.tb_plan.proofs.nested.near.Goals as goal

pub returns : goal.returns
returns c = λ settings own.
    near_same settings _ c.args.folder.now c.in_ok-numbers.numbers.items _ own (c.in_ok-numbers.ensures settings own) (c.in_ok-extend_from_slice.ensures.items ∙ ap (λ (l : List ℕ). c.in_ok-numbers.numbers.items ++ l) c.owners.ensures)
