use Rattle.tb_plan.proofs.Pairs.{near_all}
use Rattle.tb_plan.proofs.nested.add_nested_project.Goals as goal

pub returns-in_ok-add_all_pairs-in-Some : goal.returns-in_ok-add_all_pairs-in-Some
returns-in_ok-add_all_pairs-in-Some c =
    near_all c.args.settings.now c.args.number c.args.folder.now c.in-Some.folder _ _ _ _ c.in-Some.is (c.in_ok-others-in-Some.ensures c.args.settings.now c.requires) c.as_slice.ensures.value c.in_ok-add_all_pairs-in-Some.ensures
