use Rattle.std.proofs.Common.{◌≡◌, ◌++◌, false, codes, map, flat_map, drop, string_bytes}
use Rattle.tb_layout.specs.Pieces.{text_of}
use Rattle.tb_layout.specs.Shown as shown
use Rattle.tb_show.specs.Lists.{further_text}
use Rattle.tb_show.specs.Loose.{part_pieces}
use Rattle.tb_show.proofs.showing.+showing.Given as goal

abbrev pub invariant-write_parts-loop-part : goal.invariant-write_parts-loop-part
invariant-write_parts-loop-part l =
    string_bytes l.out ++ further_text (codes " | ") part_pieces l.some (drop l.part-index l.all)
    ≡ string_bytes l.initial.out ++ further_text (codes " | ") part_pieces false l.all

abbrev pub invariant-write_types-loop-shape : goal.invariant-write_types-loop-shape
invariant-write_types-loop-shape l =
    string_bytes l.out ++ further_text (codes ", ") shown.type_pieces l.some (drop l.shape-index l.all)
    ≡ string_bytes l.initial.out ++ further_text (codes ", ") shown.type_pieces false l.all

abbrev pub invariant-write_type_params-loop-param : goal.invariant-write_type_params-loop-param
invariant-write_type_params-loop-param l =
    string_bytes l.out ++ further_text (codes ", ") shown.shown_type_param l.some (drop l.param-index l.all)
    ≡ string_bytes l.initial.out ++ further_text (codes ", ") shown.shown_type_param false l.all

abbrev pub invariant-write_members-loop-member : goal.invariant-write_members-loop-member
invariant-write_members-loop-member l =
    string_bytes l.out ++ text_of (flat_map shown.inline_pieces (map shown.shown_member (drop l.member-index l.all)))
    ≡ string_bytes l.initial.out ++ text_of (flat_map shown.inline_pieces (map shown.shown_member l.all))
