use Rattle.std.proofs.Common.{ℕ, List, sym, ap, ◌∙◌}
use Rattle.std.specs.Prelude.{None, option_and_then}
use Rattle.std.proofs.lemmas.Bool.{iff_false}
use Rattle.serde_json.specs.Read.{read}
use Rattle.tb_jsonc.specs.Blanks.{reading}
use Rattle.tb_jsonc.proofs.Readings.{chosen, none_either_way}
use Rattle.tb_jsonc.proofs.reading.read_json.Goals as goal

pub returns-in-Ok-clause-ok : goal.returns-in-Ok-clause-ok
returns-in-Ok-clause-ok c =
    let bytes = c.as_slice.result.now in
    ap (option_and_then reading) c.in_ok-blanked.ensures.ok
    ∙ ap (λ (t : List ℕ). reading t) (sym c.as_slice.ensures)
    ∙ chosen bytes (read bytes) None c.in-Ok.ensures.ok.0
    ∙ c.in-Ok.ensures.ok.1

pub returns-clause-unreadable : goal.returns-clause-unreadable
returns-clause-unreadable c = λ _.
    let bytes = c.as_slice.result.now in
    ap (option_and_then reading) c.in_ok-blanked.ensures.ok
    ∙ ap (λ (t : List ℕ). reading t) (sym c.as_slice.ensures)
    ∙ none_either_way bytes (read bytes) (c.in-Err.ensures.err (iff_false c.is_memory.ensures c.if-is_memory.false))
