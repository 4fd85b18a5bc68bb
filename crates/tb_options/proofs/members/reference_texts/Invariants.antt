use Rattle.std.proofs.Common.{◌≡◌, drop}
use Rattle.serde_json.specs.View.{items_view}
use Rattle.tb_text.specs.Walks.{texts}
use Rattle.tb_options.specs.Members.{each_item, reference_text}
use Rattle.tb_options.proofs.Rows.{with_front}
use Rattle.tb_options.proofs.members.reference_texts.Given as goal

abbrev pub invariant-loop-item : goal.invariant-loop-item
invariant-loop-item l = with_front (texts l.texts.items) (each_item reference_text (items_view (drop l.item-index l.item-items))) ≡ each_item reference_text (items_view l.item-items)
