use Rattle.std.proofs.Common.{◌≡◌, length, ap, ◌∙◌, sym, arith}
use Rattle.std.specs.Prelude.{Some, string_bytes}
use Rattle.tb_text.specs.Paths.{is_path, path_text}
use Rattle.tb_text.specs.Walks.{texts}
use Rattle.tb_text.proofs.Walks.{joined_texts, path_of_bad, path_of_long, path_of_whole}
use Rattle.tb_text.proofs.Segments.{whole_path}
use Rattle.tb_text.proofs.joins.path_of.Goals as goal

pub returns-then-not-are_whole-clause-bad : goal.returns-then-not-are_whole-clause-bad
returns-then-not-are_whole-clause-bad c = λ _. path_of_bad (texts c.args.parts.now) (sym c.are_whole.ensures ∙ c.if-not-are_whole.true)

pub returns-then-len-gt-MOST_BYTES-clause-bad : goal.returns-then-len-gt-MOST_BYTES-clause-bad
returns-then-len-gt-MOST_BYTES-clause-bad c =
    let whole : string_bytes c.in_ok-text.text ≡ path_text (texts c.args.parts.now) = c.in_ok-text.ensures.ok ∙ joined_texts c.args.parts.now in
    let size = ap length whole in
    λ _. path_of_long (texts c.args.parts.now) (omega (arith, size))

pub of_text-requires : goal.of_text-requires
of_text-requires c =
    let whole : string_bytes c.in_ok-text.text ≡ path_text (texts c.args.parts.now) = c.in_ok-text.ensures.ok ∙ joined_texts c.args.parts.now in
    let size = ap length whole in
    ap is_path whole ∙ whole_path (texts c.args.parts.now) c.requires (omega (arith, size)) (sym c.are_whole.ensures ∙ c.if-not-are_whole.false)

pub returns-clause-ok : goal.returns-clause-ok
returns-clause-ok c =
    let whole : string_bytes c.in_ok-text.text ≡ path_text (texts c.args.parts.now) = c.in_ok-text.ensures.ok ∙ joined_texts c.args.parts.now in
    let size = ap length whole in
    path_of_whole (texts c.args.parts.now) (omega (arith, size)) (sym c.are_whole.ensures ∙ c.if-not-are_whole.false) ∙ ap Some (sym whole ∙ sym c.of_text.ensures)
