use Rattle.std.proofs.Common.{◌∙◌}
use Rattle.tb_plan.specs.Inputs.{folders_of, inputs_of}
use Rattle.tb_plan.proofs.Found.{found_sorted, source_step}
use Rattle.tb_plan.proofs.sources.sources_of.Goals as goal

pub inputs_of-requires : goal.inputs_of-requires
inputs_of-requires c =
    let found = c.in_ok-findable.ensures c.args.settings.items c.requires in
    found_sorted c.args.tree.now (folders_of c.args.settings.items) c.as_slice.result.now (c.as_slice.ensures.value ∙ found)

pub loop-setting-preserved : goal.loop-setting-preserved
loop-setting-preserved c =
    let found = c.in_ok-findable.ensures c.args.settings.items c.requires in
    let inputs = c.in_ok-inputs.ensures (folders_of c.args.settings.items) (c.as_slice.ensures.value ∙ found) in
    source_step (inputs_of c.args.tree.now (folders_of c.args.settings.items)) c.loop-setting.yielded c.in-Some.setting c.in_ok-inputs.inputs _ _ c.loop-setting.invariant inputs c.in_ok-push.ensures.items
