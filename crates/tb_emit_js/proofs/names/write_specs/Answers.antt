use Rattle.std.proofs.Common.{◌∙◌, ◌++◌, ap, string_bytes}
use Rattle.tb_emit_js.proofs.Lines.{specs_whole}
use Rattle.tb_emit_js.proofs.names.write_specs.Goals as goal

pub returns : goal.returns
returns c =
    specs_whole (string_bytes c.args.out.now) (string_bytes c.put.new.out) (string_bytes c.loop-spec.out) (string_bytes c.put-2.new.out) c.args.all.now c.loop-spec.some c.loop-spec.spec-index
    c.loop-spec-test.false c.in_ok-put.ensures c.loop-spec.invariant (c.in_ok-put-3.ensures ∙ ap (λ t. string_bytes c.loop-spec.out ++ t) c.end_text.ensures)
