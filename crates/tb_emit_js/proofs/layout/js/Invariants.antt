use Rattle.std.proofs.Common.{◌≡◌, ◌++◌, ◌||◌, drop, flat_map, string_bytes}
use Rattle.std.specs.List.{list_any}
use Rattle.tb_layout.specs.Erase as erasing
use Rattle.tb_emit_js.specs.Items as spec
use Rattle.tb_emit_js.proofs.layout.js.Given as goal

abbrev pub invariant-loop-item : goal.invariant-loop-item
invariant-loop-item l = record {
  written :
      string_bytes l.out ++ flat_map spec.item_line (flat_map erasing.erased_item (drop l.item-index l.item-items))
      ≡ flat_map spec.item_line (flat_map erasing.erased_item l.item-items);
  seen :
      (l.is_module || list_any erasing.is_module_item (flat_map erasing.erased_item (drop l.item-index l.item-items)))
      ≡ list_any erasing.is_module_item (flat_map erasing.erased_item l.item-items);
}
