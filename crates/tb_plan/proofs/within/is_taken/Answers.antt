use Rattle.std.proofs.Common.{◌≡◌, Bool, true, sym, ap, ◌∙◌, List, ℕ}
use Rattle.std.specs.Prelude.{not, ◌&&◌}
use Rattle.std.specs.List.{list_any}
use Rattle.tb_globs.specs.Globs.{is_match}
use Rattle.tb_globs.specs.declared.parts.UseOf.TheVariants.{Include, Exclude}
use Rattle.tb_plan.proofs.within.is_taken.Goals as goal

pub returns-then-matches : goal.returns-then-matches
returns-then-matches c =
    let found : is_match c.args.pattern.now Include c.args.path.now ≡ true = sym c.matches.ensures ∙ c.if-matches.true in
    ap not (c.some_match.ensures ∙ ap (λ (ps : List (List ℕ × List ℕ)). list_any (λ p. is_match p Exclude c.args.path.now) ps) c.as_slice.ensures)
    ∙ sym (ap (λ (b : Bool). b && not (list_any (λ p. is_match p Exclude c.args.path.now) c.args.setting.now.exclude)) found)
