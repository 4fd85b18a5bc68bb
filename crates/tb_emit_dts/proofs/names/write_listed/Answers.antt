use Rattle.std.proofs.Common.{codes, map, string_bytes}
use Rattle.tb_layout.specs.Pieces.{listed, text_of}
use Rattle.tb_layout.specs.Dts.{typed_spec_pieces}
use Rattle.tb_show.proofs.Joins.{list_whole, list_text}
use Rattle.tb_emit_dts.proofs.names.write_listed.Goals as goal

pub returns : goal.returns
returns c =
    let all = c.args.all.now in
    list_whole (codes ", ") typed_spec_pieces (string_bytes c.loop-spec.out) (string_bytes c.args.out.now) (text_of (listed (map typed_spec_pieces all))) all c.loop-spec.some c.loop-spec.spec-index c.loop-spec-test.false (list_text typed_spec_pieces all) c.loop-spec.invariant
