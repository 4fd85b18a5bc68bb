use Rattle.std.proofs.Common.{◌≡◌, List, ℕ, ap, ◌∙◌}
use Rattle.std.specs.Prelude.{string_bytes, Vec}
use Rattle.std.specs.declared.alloc.Global.{Global}
use Rattle.tb_text.specs.Messages.{message}
use Rattle.tb_text.proofs.Printed.{line_is, printed}
use Rattle.tb_text.proofs.messages.diag_text.Goals as goal

pub returns : goal.returns
returns c =
    let whole : string_bytes c.in_ok-printed.printed ≡ printed c.as_str-path.result.now c.line_col-line.result.0 c.line_col-line.result.1 c.as_str-code.result.now c.as_str-message.result.now = c.in_ok-printed.ensures.ok in
    c.from_vec.ensures ∙ ap (λ (v : Vec ℕ Global). v.items) c.into_bytes.ensures.value ∙ whole
    ∙ line_is c.args.diag.now c.args.text.now c.without_mark-text.result.now c.place.result c.line_col-line.result.0 c.line_col-line.result.1 c.as_str-path.result.now c.as_str-code.result.now c.as_str-message.result.now
    c.without_mark-text.ensures c.place.ensures c.line_col-line.ensures.line c.line_col-line.ensures.column c.as_str-path.ensures.text (c.as_str-code.ensures.value ∙ c.in_ok-code.ensures) (c.as_str-message.ensures.value ∙ c.in_ok-message.ensures
    ∙ ap (λ (x : List ℕ). message c.args.diag.now.finding.code x c.as_str-2.result.now) c.as_str.ensures.text
    ∙ ap (λ (x : List ℕ). message c.args.diag.now.finding.code c.args.diag.now.finding.first x) c.as_str-2.ensures.text)
