use Rattle.std.proofs.Common.{ap, sym, ◌∙◌, ◌++◌, ◌∷◌, []}
use Rattle.tb_tree.specs.declared.items.Import.TheVariants as import_form
use Rattle.tb_tree.specs.declared.items.SurfaceItem.TheVariants as surface_item
use Rattle.tb_surface.proofs.Joins.{nothing}
use Rattle.tb_surface.proofs.Keeping.{import_none, import_some}
use Rattle.tb_surface.proofs.surfaces.keep_specs.Goals as goal

pub returns-then-is_empty : goal.returns-then-is_empty
returns-then-is_empty c = nothing c.args.items.now _ (import_none c.args.at c.args.type_only c.args.specs c.args.from.now (c.is_empty.ensures.0 c.if-is_empty.true))

pub returns : goal.returns
returns c =
    c.in_ok-push.ensures.ok ∙ ap (λ from. c.args.items.now ++ surface_item.Import (import_form.List c.args.at c.args.type_only c.args.specs from) ∷ []) c.in_ok-from.ensures
    ∙ ap (λ l. c.args.items.now ++ l) (sym (import_some c.args.at c.args.type_only c.args.specs c.args.from.now c.if-is_empty.ensures.1))
