use Rattle.std.proofs.Common.{codes, map, string_bytes}
use Rattle.tb_layout.specs.Pieces.{listed, text_of}
use Rattle.tb_layout.specs.Shown.{barred, shown_type, shown_type_param, type_pieces}
use Rattle.tb_show.specs.Loose.{part_pieces}
use Rattle.tb_show.proofs.Joins.{list_whole, list_text, bar_list_text}
use Rattle.tb_show.proofs.showing.+showing.Goals as goal

pub write_parts-returns : goal.write_parts-returns
write_parts-returns t c =
    let all = c.args.all.now in
    list_whole (codes " | ") part_pieces (string_bytes c.loop-part.out) (string_bytes c.args.out.now) (text_of (barred (map shown_type all))) all c.loop-part.some c.loop-part.part-index c.loop-part-test.false (bar_list_text all) c.loop-part.invariant

pub write_types-returns : goal.write_types-returns
write_types-returns t c =
    let all = c.args.all.now in
    list_whole (codes ", ") type_pieces (string_bytes c.loop-shape.out) (string_bytes c.args.out.now) (text_of (listed (map type_pieces all))) all c.loop-shape.some c.loop-shape.shape-index c.loop-shape-test.false (list_text type_pieces all) c.loop-shape.invariant

pub write_type_params-returns : goal.write_type_params-returns
write_type_params-returns t c =
    let all = c.args.all.now in
    list_whole (codes ", ") shown_type_param (string_bytes c.loop-param.out) (string_bytes c.args.out.now) (text_of (listed (map shown_type_param all))) all c.loop-param.some c.loop-param.param-index c.loop-param-test.false (list_text shown_type_param all) c.loop-param.invariant
