use Rattle.std.proofs.Common.{refl, ◌∙◌}
use Rattle.tb_layout.specs.Parts.{InterfacePart}
use Rattle.tb_surface.proofs.Leading.{leads_type}
use Rattle.tb_surface.proofs.known.Leads.add_interface.Goals as goal

pub returns : goal.returns
returns c =
    leads_type _ _ _ _ _ c.args.exported (InterfacePart c.args.of.now) c.as_slice.result.now refl (c.as_slice.ensures ∙ c.in_ok-names.ensures) c.in_ok-add_type.ensures.starts c.in_ok-add_type.ensures.further
