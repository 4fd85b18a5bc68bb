use Rattle.std.proofs.Common.{codes, map, string_bytes}
use Rattle.tb_layout.specs.Pieces.{listed, text_of}
use Rattle.tb_layout.specs.Js.{name_of}
use Rattle.tb_show.proofs.Joins.{list_whole, list_text}
use Rattle.tb_emit_dts.proofs.headings.write_identifiers.Goals as goal

pub returns : goal.returns
returns c =
    let all = c.args.all.now in
    list_whole (codes ", ") name_of (string_bytes c.loop-name.out) (string_bytes c.args.out.now) (text_of (listed (map name_of all))) all c.loop-name.some c.loop-name.name-index c.loop-name-test.false (list_text name_of all) c.loop-name.invariant
