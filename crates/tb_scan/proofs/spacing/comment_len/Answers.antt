use Rattle.std.proofs.Common.{◌≡◌, drop, sym, subst, ◌∙◌, false}
use Rattle.std.specs.Char.{len_utf8}
use Rattle.tb_scan.specs.Characters.{begins_pair}
use Rattle.tb_scan.proofs.Spaces.{space_lacks}
use Rattle.tb_scan.proofs.spacing.comment_len.Goals as goal

pub returns-else-begins_pair-2-clause-none : goal.returns-else-begins_pair-2-clause-none
returns-else-begins_pair-2-clause-none c =
    space_lacks c.args.text.now c.args.first (drop (len_utf8 c.args.first) c.args.text.now) c.requires.whole c.requires.no_blank
    (subst (λ x. begins_pair 47 47 x ≡ false) c.as_bytes.ensures.value (sym c.begins_pair.ensures ∙ c.if-begins_pair.false))
    (subst (λ x. begins_pair 47 42 x ≡ false) c.as_bytes-else-begins_pair.ensures.value (sym c.begins_pair-else-begins_pair.ensures ∙ c.if-begins_pair-2.false))
