use Rattle.std.proofs.Common.{refl, ap, [], ◌∷◌, flat_map}
use Rattle.tb_layout.specs.Parts.{type_names}
use Rattle.tb_surface.proofs.Joins.{two}
use Rattle.tb_surface.proofs.names.add_base.Goals as goal

pub returns : goal.returns
returns c =
    two c.args.names.now c.push.new.self c.add_types.new.names _ _ _ _ _ c.in_ok-push.ensures.ok c.in_ok-add_types.ensures (ap (λ name. name ∷ []) c.in_ok-clone.ensures.cases) (ap (flat_map type_names) c.as_slice.ensures) refl
