use Rattle.std.proofs.Common.{◌∙◌, ap, arith}
use Rattle.std.specs.List.{filter}
use Rattle.std.proofs.lemmas.List.{take_all}
use Rattle.tb_layout.specs.Kept.{keeps_spec}
use Rattle.tb_surface.proofs.Keeping.{specs_next}
use Rattle.tb_surface.proofs.surfaces.kept_specs.Goals as goal

pub loop-of-preserved : goal.loop-of-preserved
loop-of-preserved c = λ names knows.
    specs_next _ _ names knows c.args.all.now c.loop-of.of-index c.of-item.result _ _ (omega arith) c.of-item.is (c.loop-of.invariant names knows) (c.in_ok-add_spec.ensures names knows)

pub returns : goal.returns
returns c = λ names knows. c.loop-of.invariant names knows ∙ ap (filter (keeps_spec names)) (take_all c.loop-of.of-index c.args.all.now (omega arith))
