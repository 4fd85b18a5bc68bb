use Rattle.std.proofs.Common.{refl, ◌∙◌}
use Rattle.tb_layout.specs.Parts.{FunctionPart}
use Rattle.tb_surface.proofs.Leading.{leads_value}
use Rattle.tb_surface.proofs.known.Leads.add_function.Goals as goal

pub returns : goal.returns
returns c =
    leads_value _ _ _ _ _ c.args.exported (FunctionPart c.args.of.now) c.as_slice.result.now refl (c.as_slice.ensures ∙ c.in_ok-names.ensures) c.in_ok-add_start.ensures.starts c.in_ok-add_start.ensures.same
