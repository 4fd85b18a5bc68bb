use Rattle.tb_surface.proofs.Keeping.{spec_gone, spec_stays}
use Rattle.tb_surface.proofs.surfaces.add_spec.Goals as goal

pub returns-then-not-keeps_type : goal.returns-then-not-keeps_type
returns-then-not-keeps_type c =
    λ names knows. spec_gone _ _ names knows c.args.of.now c.imported_name.result.now c.keeps_type.result c.args.specs.now c.imported_name.ensures c.keeps_type.ensures c.if-not-keeps_type.true

pub returns : goal.returns
returns c =
    λ names knows. spec_stays _ _ names knows c.args.of.now _ c.imported_name.result.now c.keeps_type.result c.args.specs.now c.push.new.self c.imported_name.ensures c.keeps_type.ensures c.if-not-keeps_type.false c.in_ok-copied_spec.ensures c.in_ok-push.ensures.ok
