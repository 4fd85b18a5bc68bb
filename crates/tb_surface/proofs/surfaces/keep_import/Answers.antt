use Rattle.std.proofs.Common.{ap, ◌∙◌}
use Rattle.std.specs.List.{filter}
use Rattle.tb_layout.specs.Kept.{keeps_spec}
use Rattle.tb_layout.specs.Surface.{import_with, surface_import}
use Rattle.tb_surface.proofs.Joins.{single, nothing}
use Rattle.tb_surface.proofs.surfaces.keep_import.Goals as goal

pub returns-in_ok-keep_specs-in-List : goal.returns-in_ok-keep_specs-in-List
returns-in_ok-keep_specs-in-List c =
    λ names knows. single c.args.items.now c.keep_specs.new.items _ _ _ c.in_ok-keep_specs-in-List.ensures (ap (λ specs. import_with c.in-List.at c.in-List.type_only specs c.in-List.from) (c.in_ok-specs-in-List.ensures names knows ∙ ap (filter (keeps_spec names)) c.as_slice.ensures)) (ap (surface_import names) c.in-List.is)

pub returns-in-Bare : goal.returns-in-Bare
returns-in-Bare c =
    λ names knows. nothing c.args.items.now _ (ap (surface_import names) c.in-Bare.is)
