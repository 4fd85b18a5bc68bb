use Rattle.std.proofs.Common.{sym, ap, ◌∙◌, ◌==◌}
use Rattle.tb_plan.specs.Inputs.{is_source, folders_of}
use Rattle.tb_plan.proofs.Found.{around_none, found_so}
use Rattle.tb_plan.proofs.inputs.may_be_found.Goals as goal

pub returns : goal.returns
returns c = λ settings own.
    let around = c.in_ok-around.ensures settings own in
    let many = c.in_ok-around.around.ok.0 in
    found_so c.args.tree.now (folders_of settings) c.args.path.now c.is_empty.result
    (c.is_empty.ensures ∙ ap (λ n. n == 0) many ∙ around_none settings c.args.path.now _ around)
    (ap is_source (sym c.as_str.ensures.text) ∙ sym c.is_source.ensures ∙ c.if-not-is_source.false)
    (sym c.in_ok-is_beside_source.ensures ∙ c.if-branch.false)
