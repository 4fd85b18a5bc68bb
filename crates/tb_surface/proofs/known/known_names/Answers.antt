use Rattle.std.proofs.Common.{[], subst}
use Rattle.std.specs.List.{flat_map}
use Rattle.tb_layout.specs.Parts.{listed_names}
use Rattle.tb_layout.proofs.Keeping.{rounds_find_all}
use Rattle.tb_surface.specs.Names.{Leads, item_parts}
use Rattle.tb_surface.proofs.Reaching.{knows_all}
use Rattle.tb_surface.proofs.known.known_names.Goals as goal

pub returns : goal.returns
returns c =
    let file = c.args.file.now in
    let leads = c.add_items.new.self in
    knows_all rounds_find_all file _ _ leads.starts leads.further c.in_ok-listed.ensures
    (subst (λ items. Leads (listed_names file) (flat_map item_parts items) leads.starts leads.further) c.as_slice.ensures
    (c.in_ok-add_items.ensures (listed_names file) [] c.in_ok-listed.ensures (c.new-leads.ensures (listed_names file))))
    c.in_ok-occurring.ensures
