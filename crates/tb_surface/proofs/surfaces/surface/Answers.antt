use Rattle.std.proofs.Common.{◌∙◌, ◌++◌, ap, flat_map}
use Rattle.tb_layout.specs.Kept.{known_names}
use Rattle.tb_layout.specs.Surface.{surface_item_of}
use Rattle.tb_surface.proofs.Keeping.{surface_of}
use Rattle.tb_surface.proofs.surfaces.surface.Goals as goal

pub returns : goal.returns
returns c =
    let names = known_names c.args.file.now in
    ap surface_of
    (c.in_ok-keep_items.ensures names c.in_ok-known.ensures ∙ ap (λ l. l ++ flat_map (surface_item_of names) c.as_slice.result.now) c.new-items.ensures
    ∙ ap (flat_map (surface_item_of names)) c.as_slice.ensures)
