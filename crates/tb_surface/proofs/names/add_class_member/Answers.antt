use Rattle.std.proofs.Common.{refl, sym, ap, ◌∙◌, flat_map}
use Rattle.tb_layout.specs.Parts.{param_names, class_member_names}
use Rattle.tb_surface.proofs.Joins.{one, two}
use Rattle.tb_surface.proofs.names.add_class_member.Goals as goal

pub returns-in-Constructor : goal.returns-in-Constructor
returns-in-Constructor c =
    one c.add_params.result c.args.names.now c.add_params.new.names _ _ c.add_params.ensures (ap (flat_map param_names) c.as_slice.ensures ∙ sym (ap class_member_names c.in-Constructor.is))

pub returns-in_ok-add_annotation-in-Method : goal.returns-in_ok-add_annotation-in-Method
returns-in_ok-add_annotation-in-Method c =
    two c.args.names.now c.add_params-in-Method.new.names c.add_annotation-in-Method.new.names _ _ _ _ _ c.in_ok-add_params-in-Method.ensures c.in_ok-add_annotation-in-Method.ensures (ap (flat_map param_names) c.as_slice-in-Method.ensures) refl
    (ap class_member_names c.in-Method.is)
