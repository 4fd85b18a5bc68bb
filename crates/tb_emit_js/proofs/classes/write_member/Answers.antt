use Rattle.std.proofs.Common.{◌∙◌, map, ap, rules, append_assoc}
use Rattle.tb_layout.specs.Js.{laid_list}
use Rattle.tb_layout.specs.Pieces.{text_of}
use Rattle.tb_layout.proofs.Written.{js_member, js_param}
use Rattle.tb_emit_js.proofs.Forms.{constructor_member_text, method_member_text}
use Rattle.tb_emit_js.proofs.classes.write_member.Goals as goal

pub returns-in_ok-write_block-in-Constructor : goal.returns-in_ok-write_block-in-Constructor
returns-in_ok-write_block-in-Constructor c =
    let whole = ap (λ of. text_of (js_member of c.args.n)) c.in-Constructor.is ∙ constructor_member_text c.in-Constructor.at c.in-Constructor.params c.in-Constructor.body c.args.n in
    let params = ap (λ all. text_of (laid_list c.args.n (map js_param all))) c.as_slice.ensures in
    search (rules, append_assoc, whole, params)

pub returns-in_ok-write_block-in-Method : goal.returns-in_ok-write_block-in-Method
returns-in_ok-write_block-in-Method c =
    let whole = ap (λ of. text_of (js_member of c.args.n)) c.in-Method.is ∙ method_member_text c.in-Method.at c.in-Method.is_static c.in-Method.name c.in-Method.params c.in-Method.result c.in-Method.body c.args.n in
    let params = ap (λ all. text_of (laid_list c.args.n (map js_param all))) c.as_slice-in-Method.ensures in
    search (rules, append_assoc, whole, params)
