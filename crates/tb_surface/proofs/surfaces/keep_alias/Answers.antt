use Rattle.tb_layout.specs.Parts.{AliasPart}
use Rattle.tb_surface.proofs.Keeping.{type_gone, type_stays}
use Rattle.std.proofs.Common.{refl, ap}
use Rattle.tb_tree.specs.declared.items.Declared.TheVariants as declared
use Rattle.tb_surface.proofs.surfaces.keep_alias.Goals as goal

pub returns-then-not-keeps_type : goal.returns-then-not-keeps_type
returns-then-not-keeps_type c = λ names knows. type_gone _ _ names knows c.args.exported (AliasPart c.args.of.now) _ _ refl c.keeps_type.ensures c.if-not-keeps_type.true

pub returns : goal.returns
returns c = λ names knows. type_stays _ _ names knows c.args.exported (AliasPart c.args.of.now) _ _ _ _ refl c.keeps_type.ensures c.if-not-keeps_type.false (ap declared.Alias c.in_ok-declared_alias.ensures) c.in_ok-keep.ensures
