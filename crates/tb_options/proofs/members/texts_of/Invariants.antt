use Rattle.std.proofs.Common.{◌≡◌, drop}
use Rattle.serde_json.specs.Find.{as_str}
use Rattle.serde_json.specs.View.{items_view}
use Rattle.tb_text.specs.Walks.{texts}
use Rattle.tb_options.specs.Members.{each_item}
use Rattle.tb_options.proofs.Rows.{with_front}
use Rattle.tb_options.proofs.members.texts_of.Given as goal

abbrev pub invariant-loop-item : goal.invariant-loop-item
invariant-loop-item l = with_front (texts l.texts.items) (each_item as_str (items_view (drop l.item-index l.item-items))) ≡ each_item as_str (items_view l.item-items)
