use Rattle.std.proofs.Common.{sym, subst, ◌∙◌}
use Rattle.tb_scan.specs.Pieces.{IsFront, IsSpacing}
use Rattle.tb_scan.proofs.Spaces.{space_at_end, blank_front}
use Rattle.tb_scan.proofs.spacing.space_len.Goals as goal

pub returns-in_default-clause-none : goal.returns-in_default-clause-none
returns-in_default-clause-none c = space_at_end c.args.text.now c.in_default.ensures.value

pub returns-then-is_blank-clause-found : goal.returns-then-is_blank-clause-found
returns-then-is_blank-clause-found c =
    subst (λ n. IsFront IsSpacing c.args.text.now n) (sym c.len_utf8.ensures.value)
    (blank_front c.args.text.now c.in-Some.c c.in-Some.ensures.value c.in-Some.ensures.boundary c.utf8.text (sym c.is_blank.ensures ∙ c.if-is_blank.true))
