use Rattle.std.proofs.Common.{◌≡◌, ◌++◌, flat_map, drop, string_bytes}
use Rattle.tb_layout.specs.Pieces.{text_of}
use Rattle.tb_layout.specs.Dts.{item_lines}
use Rattle.tb_emit_dts.proofs.layout.write_items.Given as goal

abbrev pub invariant-loop-item : goal.invariant-loop-item
invariant-loop-item l =
    string_bytes l.out ++ text_of (flat_map item_lines (drop l.item-index l.all)) ≡ string_bytes l.initial.out ++ text_of (flat_map item_lines l.all)
