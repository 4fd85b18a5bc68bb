use Rattle.std.proofs.Common.{not, eqb, ◌∙◌, rules, tests}
use Rattle.std.proofs.lemmas.Result.{IfOk-at_ok}
use Rattle.std.proofs.lemmas.Iterator.{items_from_collect, YieldsList-from_map, YieldsList-from_slice}
use Rattle.std.proofs.lemmas.Iterator.Consumers.{YieldsList-at}
use Rattle.std.proofs.lemmas.Iterator.Adapters.{YieldsList-from_skip_while}
use Rattle.tb_graph.specs.declared.visits.Frame.{Frame}
use Rattle.tb_graph.proofs.visits.cycle_at.Goals as goal

pub returns-clause-cycle : goal.returns-clause-cycle
returns-clause-cycle c =
    let road = items_from_collect c.collect.result c.collect.ensures.ran (YieldsList-from_map _ (λ (frame : Frame). frame.node) (YieldsList-at c.map.ensures.source
    (YieldsList-from_skip_while _ _ _ (λ (frame : Frame). not (eqb frame.node c.args.node)) _ (λ x b q k. search (rules, tests)) (YieldsList-from_slice c.args.frames.now cc) c.skip_while.ensures.closure c.skip_while.ensures.done_skipping))
    c.map.ensures.closure (λ x r q k. search (rules, tests))) in
    c.from_vec.ensures ∙ IfOk-at_ok _ c.in_ok-nodes.was road
