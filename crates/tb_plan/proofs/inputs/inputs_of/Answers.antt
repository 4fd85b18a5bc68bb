use Rattle.std.proofs.Common.{◌++◌, subst}
use Rattle.std.specs.List.{filter}
use Rattle.tb_plan.specs.Inputs.{is_included}
use Rattle.tb_plan.specs.Members.{HasSame}
use Rattle.tb_plan.specs.Orders.{Paths}
use Rattle.tb_plan.proofs.Found.{gathered_is}
use Rattle.tb_plan.proofs.inputs.inputs_of.Goals as goal

pub returns : goal.returns
returns c = λ folders is.
    let found : Paths = c.add_included.new.inputs.items in
    let same : HasSame found (filter (is_included c.args.setting.now) c.args.findable.now) =
    subst (λ (l : Paths). HasSame found (l ++ filter (is_included c.args.setting.now) c.args.findable.now)) c.new-inputs.ensures.items c.in_ok-add_included.ensures in
    rw (c.from_vec.ensures, c.in_ok-ascending.ensures, c.in_ok-add_named.ensures, c.named_by.ensures) (gathered_is c.args.tree.now folders c.args.setting.now c.args.findable.now is found same)
