use Rattle.std.proofs.Common.{◌≡◌, List, [], subst, sym, arith, rules}
use Rattle.std.proofs.lemmas.Grind.{common_steps}
use Rattle.std.specs.FinMap as map
use Rattle.tb_config.specs.Stacks.{GoesOn, found, steps_of, taken}
use Rattle.tb_config.specs.Walks.{walk_from}
use Rattle.tb_config.specs.declared.walks.Frame.{Frame}
use Rattle.tb_config.proofs.Stepping.{goes_end}
use Rattle.tb_config.proofs.walks.walk_from.Goals as goal

pub returns-clause-found : goal.returns-clause-found
returns-clause-found c =
    let walk = c.loop-frame.walk in
    let end = walk_from (taken c.args.order c.args.tree.now) (map.keys c.args.tree.now) c.args.path.now in
    let none : [] ≡ walk.frames.items = first_of (search rules, grind (arith, common_steps)) in
    goes_end (taken c.args.order c.args.tree.now) (map.keys c.args.tree.now) end (found walk)
    (subst (λ (frames : List Frame). GoesOn c.args.order c.args.tree.now (found walk) (steps_of frames) end) (sym none) c.loop-frame.invariant.goes)
