use Rattle.std.proofs.Common.{◌≡◌, ◌++◌, map, drop, string_bytes}
use Rattle.tb_layout.specs.Js as layout
use Rattle.tb_layout.specs.Pieces.{text_of}
use Rattle.tb_layout.proofs.Written as written
use Rattle.tb_emit_js.proofs.classes.write_members.Given as goal

abbrev pub invariant-loop-member : goal.invariant-loop-member
invariant-loop-member l =
    string_bytes l.out ++ text_of (layout.lines l.fn.n (map written.js_member (drop l.member-index l.all)))
    ≡ string_bytes l.initial.out ++ text_of (layout.lines l.fn.n (map written.js_member l.all))
