use Rattle.std.proofs.Common.{ℕ, List, false, sym, ap, ◌∙◌}
use Rattle.std.specs.Prelude.{Option, Some, None, option_map}
use Rattle.tb_jsonc.specs.Blanks.{uncommaed, uncommented, unmarked}
use Rattle.tb_jsonc.specs.declared.pieces.Kind.TheVariants.{Plain}
use Rattle.tb_jsonc.proofs.Readings.{chosen, refused}
use Rattle.tb_jsonc.proofs.blanking.blanked.Goals as goal

without : List ℕ → Option (List ℕ)
without text = option_map (uncommaed false) (uncommented 0 Plain text)

pub returns-in_default-clause-unreadable : goal.returns-in_default-clause-unreadable
unfolding without
returns-in_default-clause-unreadable c = λ _. refused c.args.text.now (without (unmarked c.args.text.now)) None c.in_default.ensures.cases.0

pub returns-clause-ok : goal.returns-clause-ok
unfolding without
returns-clause-ok c =
    chosen c.args.text.now (without (unmarked c.args.text.now)) None c.in-Ok.ensures.cases.1
    ∙ ap (λ (t : List ℕ). without t) (sym c.unmarked.ensures)
    ∙ c.in_ok-bytes.ensures.ok
    ∙ ap (λ (t : List ℕ). Some t) (sym c.from_vec.ensures)
