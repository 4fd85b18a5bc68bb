use Rattle.std.proofs.Common.{List, Option, None, sym, subst, map}
use Rattle.tb_tree.specs.declared.items.Spec.{Spec}
use Rattle.tb_tree.specs.declared.items.Specifier.{Specifier}
use Rattle.tb_layout.specs.Parts.{names_listed, exported_name}
use Rattle.tb_surface.specs.Names.{Gained}
use Rattle.tb_surface.proofs.Joins.{moved}
use Rattle.tb_surface.proofs.Named.{gained_none}
use Rattle.tb_surface.proofs.known.add_list.Goals as goal

pub returns-in-Some : goal.returns-in-Some
returns-in-Some c =
    subst (λ (o : Option Specifier). Gained c.args.listed.now c.args.listed.now (names_listed c.args.list.now.specs o)) (sym c.in-Some.is) (gained_none c.args.listed.now)

pub returns-in-None : goal.returns-in-None
returns-in-None c =
    moved (λ (o : Option Specifier). Gained c.args.listed.now c.add_specs.new.listed (names_listed c.args.list.now.specs o)) c.add_specs.result None _ c.in-None.is
    (moved (λ (specs : List Spec). Gained c.args.listed.now c.add_specs.new.listed (map exported_name specs)) c.add_specs.result c.as_slice.result.now c.args.list.now.specs (sym c.as_slice.ensures) c.add_specs.ensures)
