use Rattle.std.proofs.Common.{◌≡◌, sym, subst, ◌∙◌, true, false}
use Rattle.tb_scan.specs.declared.token.Kind.TheVariants as k
use Rattle.tb_scan.specs.Characters.{begins_pair}
use Rattle.tb_scan.specs.Pieces.{IsFront}
use Rattle.tb_scan.specs.Tokens.{IsToken}
use Rattle.tb_scan.proofs.Templates as t
use Rattle.tb_scan.proofs.fronts.stray_front.Goals as goal

pub returns-then-begins_pair : goal.returns-then-begins_pair
returns-then-begins_pair c = λ opened other.
    t.comment_bad opened c.args.text.now c.args.first c.requires.whole other c.requires.no_mark
    (subst (λ x. begins_pair 47 42 x ≡ true) c.as_bytes.ensures.value (sym c.begins_pair.ensures ∙ c.if-begins_pair.true))

pub returns-else-begins_pair : goal.returns-else-begins_pair
returns-else-begins_pair c = λ opened other.
    subst (λ n. IsFront (IsToken opened k.Bad) c.args.text.now n) (sym c.len_utf8.ensures.value)
    (t.stray_reads opened c.args.text.now c.args.first c.utf8.text c.requires.whole other c.requires.no_mark
    (subst (λ x. begins_pair 47 42 x ≡ false) c.as_bytes.ensures.value (sym c.begins_pair.ensures ∙ c.if-begins_pair.false)))
