use Rattle.std.proofs.Common.{length, get_or, ap, sym, ◌∙◌, arith}
use Rattle.std.proofs.lemmas.List.{get_or-replicate, length-replicate}
use Rattle.tb_graph.specs.declared.visits.Mark.TheVariants.{Unseen}
use Rattle.tb_graph.proofs.Steps.{sound_start}
use Rattle.tb_graph.proofs.visits.Visit.new.Goals as goal

pub returns-clause-sound : goal.returns-clause-sound
returns-clause-sound c = λ refs e.
    let items = c.in_ok-vec.ensures.items_if_clones_equal (λ y h. h) in
    sound_start refs _ (ap length items ∙ length-replicate c.args.count Unseen ∙ sym e)
    (λ n lt. ap (λ xs. get_or xs n Unseen) items ∙ get_or-replicate c.args.count n Unseen Unseen (omega arith))
