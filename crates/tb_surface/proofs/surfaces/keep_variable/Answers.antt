use Rattle.tb_layout.specs.Parts.{VariablePart}
use Rattle.tb_surface.proofs.Keeping.{value_gone, value_stays}
use Rattle.std.proofs.Common.{refl}
use Rattle.tb_surface.proofs.surfaces.keep_variable.Goals as goal

pub returns-then-not-keeps_value : goal.returns-then-not-keeps_value
returns-then-not-keeps_value c = λ names knows. value_gone _ _ names knows c.args.exported (VariablePart c.args.kind c.args.of.now) _ _ refl c.keeps_value.ensures c.if-not-keeps_value.true

pub returns : goal.returns
returns c = λ names knows. value_stays _ _ names knows c.args.exported (VariablePart c.args.kind c.args.of.now) _ _ _ _ refl c.keeps_value.ensures c.if-not-keeps_value.false c.in_ok-declared.ensures c.in_ok-keep.ensures
