use Rattle.std.proofs.Common.{◌∙◌, ap, length, arith}
use Rattle.std.proofs.lemmas.Iterator.Adapters.{YieldsList-from_vec}
use Rattle.std.proofs.lemmas.Iterator.Consumers.{YieldsList-turn}
use Rattle.std.proofs.lemmas.List.{length_push}
use Rattle.tb_plan.proofs.Marked.{no_projects, one_longer, configs_none, configs_step, projects_step}
use Rattle.tb_plan.proofs.projects.projects_of.Goals as goal

pub loop-source-init : goal.loop-source-init
loop-source-init c =
    let none = c.new-projects.ensures.items in
    (no_projects _ none, configs_none _ _ none c.new-configs.ensures.empty, ap length none)

pub upstream_of-requires-clause-configs : goal.upstream_of-requires-clause-configs
upstream_of-requires-clause-configs c = rw c.as_slice.ensures.value c.loop-source.invariant.1

pub upstream_of-requires-clause-few : goal.upstream_of-requires-clause-few
upstream_of-requires-clause-few c =
    let given = c.into_iter-source-iterator.ensures.into_iter_gives in
    let turn = YieldsList-turn (YieldsList-from_vec {s = c.into_iter-source-iterator.result} c.args.sources.items given.0 (given.1 ∙ c.args.sources.ok.0))
    c.loop-source.yielded c.loop-source.source-iterator c.loop-source.yielded_by c.next.result c.next.new.self c.in-Some.source c.in-Some.is c.next.ensures.steps in
    omega (arith, turn.0, ap length c.as_slice.ensures.value, c.loop-source.invariant.2, c.requires)

pub loop-source-preserved : goal.loop-source-preserved
loop-source-preserved c =
    let i = c.loop-source.invariant in (
      projects_step c.loop-source.yielded c.in-Some.source _ _ _ _ _ _ i.0 c.as_slice.ensures.value c.as_slice-references.ensures c.in_ok-upstream.ensures c.in_ok-options.ensures c.in_ok-push.ensures.items,
      configs_step _ _ _ _ c.in-Some.source _ _ _ i.1 (omega (arith, c.len.ensures, c.loop-source.projects.ok.0)) c.in_ok-add_number.ensures c.in_ok-push.ensures.items,
      omega (arith, one_longer _ _ _ c.in_ok-push.ensures.items, length_push c.loop-source.yielded c.in-Some.source, i.2),
    )
