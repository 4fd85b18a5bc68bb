use Rattle.std.proofs.Common.{◌∙◌, ◌++◌, ap, rules, string_bytes}
use Rattle.tb_emit_js.proofs.Lines.{whole_text}
use Rattle.tb_emit_js.proofs.layout.js.Goals as goal

pub returns : goal.returns
returns c =
    let end = ap (λ t. string_bytes c.loop-item.out ++ t) c.end_text.ensures in
    let whole = whole_text c.args.file.now _ _ _ _ _ c.as_slice-item-items.ensures c.loop-item-test.false c.loop-item.invariant.written c.loop-item.invariant.seen (c.in_ok-put.ensures ∙ end) in
    search (rules, whole)
