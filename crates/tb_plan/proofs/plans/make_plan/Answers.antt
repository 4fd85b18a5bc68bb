use Rattle.std.proofs.Common.{◌∙◌, subst}
use Rattle.tb_plan.specs.Orders.{visited}
use Rattle.tb_plan.specs.Plans.{Answers}
use Rattle.tb_plan.proofs.Lawful.{lawful_answer}
use Rattle.tb_plan.proofs.Placed.{faulted, no_cycle, status_is}
use Rattle.tb_plan.proofs.Planned.{some_faults, empty_faults, no_faults, plan_is, goes_on, no_settings}
use Rattle.tb_plan.proofs.plans.make_plan.Goals as goal

pub returns-then-not-is_empty-clause-is : goal.returns-then-not-is_empty-clause-is
returns-then-not-is_empty-clause-is c =
    let tree = c.args.tree.now in
    let roots = c.args.roots.now in
    let is = c.in_ok-visited.ensures.is in
    let same = c.in_ok-faults.ensures tree (visited tree roots) is in
    plan_is tree roots
    ∙ faulted _ _ _ _ _ _ (some_faults _ _ _ c.is_empty.ensures c.in_ok-faults.faults.ok.0 c.if-not-is_empty.true) same c.in_ok-diags.ensures
    (c.status_of-status.ensures ∙ status_is tree (visited tree roots) c.in_ok-visited.visited roots is c.in_ok-visited.ensures.roots)

pub plan_in_order-requires : goal.plan_in_order-requires
plan_in_order-requires c =
    let tree = c.args.tree.now in
    let roots = c.args.roots.now in
    let is = c.in_ok-visited.ensures.is in
    let same = c.in_ok-faults.ensures tree (visited tree roots) is in
    let none = no_faults _ _ (empty_faults _ _ _ c.is_empty.ensures c.in_ok-faults.faults.ok.0 c.if-not-is_empty.false) same in
    no_settings tree roots _ (c.in_ok-settings.ensures tree (visited tree roots) is (no_cycle tree (visited tree roots) c.in_ok-visited.visited is none))

pub returns-clause-is : goal.returns-clause-is
returns-clause-is c =
    let tree = c.args.tree.now in
    let roots = c.args.roots.now in
    let is = c.in_ok-visited.ensures.is in
    let same = c.in_ok-faults.ensures tree (visited tree roots) is in
    let none = no_faults _ _ (empty_faults _ _ _ c.is_empty.ensures c.in_ok-faults.faults.ok.0 c.if-not-is_empty.false) same in
    subst (Answers c.plan_in_order.result)
    (goes_on tree roots _ none (c.in_ok-settings.ensures tree (visited tree roots) is (no_cycle tree (visited tree roots) c.in_ok-visited.visited is none))) c.plan_in_order.ensures

pub returns-clause-ok : goal.returns-clause-ok
returns-clause-ok c =
    let tree = c.args.tree.now in
    let roots = c.args.roots.now in
    let is = c.in_ok-visited.ensures.is in
    let same = c.in_ok-faults.ensures tree (visited tree roots) is in
    let none = no_faults _ _ (empty_faults _ _ _ c.is_empty.ensures c.in_ok-faults.faults.ok.0 c.if-not-is_empty.false) same in
    lawful_answer tree roots c.plan_in_order.result (no_cycle tree (visited tree roots) c.in_ok-visited.visited is none) (returns-clause-is c)
