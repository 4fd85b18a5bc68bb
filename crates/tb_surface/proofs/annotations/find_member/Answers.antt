use Rattle.std.proofs.Common.{refl, ap}
use Rattle.tb_layout.specs.Annotations.{params_findings, member_findings}
use Rattle.tb_surface.proofs.Joins.{two, three}
use Rattle.tb_surface.proofs.annotations.find_member.Goals as goal

pub returns-in_ok-find_initial-in-Field : goal.returns-in_ok-find_initial-in-Field
returns-in_ok-find_initial-in-Field c =
    two c.args.found.now c.find_field.new.found c.find_initial.new.found _ _ _ _ _ c.in_ok-find_field-in-Field.ensures c.in_ok-find_initial-in-Field.ensures refl refl (ap member_findings c.in-Field.is)

pub returns-in_ok-find_block-in-Constructor : goal.returns-in_ok-find_block-in-Constructor
returns-in_ok-find_block-in-Constructor c =
    two c.args.found.now c.find_params.new.found c.find_block.new.found _ _ _ _ _ c.in_ok-find_params-in-Constructor.ensures c.in_ok-find_block-in-Constructor.ensures (ap params_findings c.as_slice.ensures) refl (ap member_findings c.in-Constructor.is)

pub returns-in_ok-find_block-in-Method : goal.returns-in_ok-find_block-in-Method
returns-in_ok-find_block-in-Method c =
    three c.args.found.now c.find_untyped.new.found c.find_params-in-Method.new.found c.find_block-in-Method.new.found _ _ _ _ _ _ _ c.in_ok-find_untyped-in-Method.ensures c.in_ok-find_params-in-Method.ensures c.in_ok-find_block-in-Method.ensures
    refl (ap params_findings c.as_slice-in-Method.ensures) refl (ap member_findings c.in-Method.is)
