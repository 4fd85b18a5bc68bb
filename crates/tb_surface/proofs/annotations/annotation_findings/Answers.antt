use Rattle.std.proofs.Common.{◌∙◌, ◌++◌, ap, flat_map}
use Rattle.tb_layout.specs.Parts.{listed_names}
use Rattle.tb_layout.specs.Annotations.{item_findings}
use Rattle.tb_surface.proofs.annotations.annotation_findings.Goals as goal

pub returns : goal.returns
returns c =
    let names = listed_names c.args.file.now in
    c.in_ok-find_items.ensures names c.in_ok-listed.ensures ∙ ap (λ l. l ++ flat_map (item_findings names) c.as_slice.result.now) c.new-found.ensures
    ∙ ap (flat_map (item_findings names)) c.as_slice.ensures
