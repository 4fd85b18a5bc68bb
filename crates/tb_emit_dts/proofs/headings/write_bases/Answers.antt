use Rattle.std.proofs.Common.{codes, map, string_bytes}
use Rattle.tb_layout.specs.Pieces.{listed, text_of}
use Rattle.tb_layout.specs.Dts.{base_pieces}
use Rattle.tb_show.proofs.Joins.{list_whole, list_text}
use Rattle.tb_emit_dts.proofs.headings.write_bases.Goals as goal

pub returns : goal.returns
returns c =
    let all = c.args.all.now in
    list_whole (codes ", ") base_pieces (string_bytes c.loop-base.out) (string_bytes c.args.out.now) (text_of (listed (map base_pieces all))) all c.loop-base.some c.loop-base.base-index c.loop-base-test.false (list_text base_pieces all) c.loop-base.invariant
