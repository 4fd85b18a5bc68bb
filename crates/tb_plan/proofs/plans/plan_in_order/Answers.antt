use Rattle.std.proofs.Common.{refl}
use Rattle.tb_plan.proofs.Placed.{faulted}
use Rattle.tb_plan.proofs.Planned.{own_again, second_same, some_faults, empty_faults, no_faults, few_sources, sound}
use Rattle.tb_plan.proofs.plans.plan_in_order.Goals as goal

pub add_second_faults-requires : goal.add_second_faults-requires
add_second_faults-requires c =
    own_again c.args.tree.now c.args.settings.items _ _ _ (rw c.as_slice.ensures.value at c.in_ok-folders.ensures) c.in_ok-sources.ensures c.as_slice-projects.ensures.value

pub returns-then-not-is_empty : goal.returns-then-not-is_empty
returns-then-not-is_empty c =
    let nested = rw c.as_slice-2.ensures.value at c.in_ok-add_nested_faults.ensures in
    let same = second_same c.args.tree.now c.args.roots.now c.args.settings.items _ _ _ _ _ c.in_ok-sources.ensures c.as_slice-projects.ensures.value c.new-faults.ensures.items nested c.in_ok-add_second_faults.ensures in
    faulted _ _ _ _ _ _ (some_faults _ _ _ c.is_empty.ensures c.add_second_faults.new.faults.ok.0 c.if-not-is_empty.true) same c.in_ok-diags.ensures refl

pub projects_of-requires : goal.projects_of-requires
projects_of-requires c =
    let nested = rw c.as_slice-2.ensures.value at c.in_ok-add_nested_faults.ensures in
    let same = second_same c.args.tree.now c.args.roots.now c.args.settings.items _ _ _ _ _ c.in_ok-sources.ensures c.as_slice-projects.ensures.value c.new-faults.ensures.items nested c.in_ok-add_second_faults.ensures in
    let none = no_faults _ _ (empty_faults _ _ _ c.is_empty.ensures c.add_second_faults.new.faults.ok.0 c.if-not-is_empty.false) same in
    few_sources c.args.tree.now c.args.roots.now c.args.settings.items _ none c.in_ok-sources.ensures c.requires

pub returns : goal.returns
returns c =
    let nested = rw c.as_slice-2.ensures.value at c.in_ok-add_nested_faults.ensures in
    let same = second_same c.args.tree.now c.args.roots.now c.args.settings.items _ _ _ _ _ c.in_ok-sources.ensures c.as_slice-projects.ensures.value c.new-faults.ensures.items nested c.in_ok-add_second_faults.ensures in
    let none = no_faults _ _ (empty_faults _ _ _ c.is_empty.ensures c.add_second_faults.new.faults.ok.0 c.if-not-is_empty.false) same in
    sound c.args.tree.now c.args.roots.now c.args.settings.items _ _ none c.in_ok-sources.ensures c.in_ok-projects.ensures
