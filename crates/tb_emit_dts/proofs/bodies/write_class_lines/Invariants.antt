use Rattle.std.proofs.Common.{◌≡◌, ◌++◌, map, flat_map, drop, string_bytes}
use Rattle.tb_layout.specs.Pieces.{text_of}
use Rattle.tb_layout.specs.Dts.{member_line, declared_member_pieces}
use Rattle.tb_emit_dts.proofs.bodies.write_class_lines.Given as goal

abbrev pub invariant-loop-member : goal.invariant-loop-member
invariant-loop-member l =
    string_bytes l.out ++ text_of (flat_map member_line (map declared_member_pieces (drop l.member-index l.all)))
    ≡ string_bytes l.initial.out ++ text_of (flat_map member_line (map declared_member_pieces l.all))
