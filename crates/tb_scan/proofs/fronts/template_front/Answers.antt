use Rattle.std.proofs.Common.{◌≡◌, drop, sym, subst, ◌∙◌, true, false}
use Rattle.tb_scan.specs.declared.inside.Inside.TheVariants.{Template}
use Rattle.tb_scan.specs.Characters.{begins, begins_pair}
use Rattle.tb_scan.specs.Pieces.{RunsFor, IsPiece}
use Rattle.tb_scan.proofs.TestLemmas.{after_one}
use Rattle.tb_scan.proofs.Templates as t
use Rattle.tb_scan.proofs.fronts.template_front.Goals as goal

pub range_from-requires : goal.range_from-requires
range_from-requires c = λ _. t.template_cut c.args.text.now c.utf8.text c.requires

pub returns-then-begins : goal.returns-then-begins
returns-then-begins c = λ opened kinds.
    let text = c.args.text.now in
    let n = c.run_len-end.result in
    let run : RunsFor (IsPiece Template) (drop 1 text) n = subst (λ x. RunsFor (IsPiece Template) x n) c.range_from.ensures.value c.run_len-end.ensures in
    let after = after_one n c.as_bytes.result.now text c.as_bytes.ensures.value in
    t.ended_reads opened text c.args.ended c.args.holed n c.utf8.text kinds run (subst (λ x. begins 96 x ≡ true) after (sym c.begins.ensures ∙ c.if-begins.true))

pub returns-then-begins_pair : goal.returns-then-begins_pair
returns-then-begins_pair c = λ opened kinds.
    let text = c.args.text.now in
    let n = c.run_len-end.result in
    let run : RunsFor (IsPiece Template) (drop 1 text) n = subst (λ x. RunsFor (IsPiece Template) x n) c.range_from.ensures.value c.run_len-end.ensures in
    let after = after_one n c.as_bytes.result.now text c.as_bytes.ensures.value in
    t.holed_reads opened text c.args.ended c.args.holed n c.utf8.text kinds run
    (subst (λ x. begins_pair 36 123 x ≡ true) after (sym c.begins_pair.ensures ∙ c.if-begins_pair.true))

pub returns-else-begins_pair : goal.returns-else-begins_pair
returns-else-begins_pair c = λ opened kinds.
    let text = c.args.text.now in
    let n = c.run_len-end.result in
    let run : RunsFor (IsPiece Template) (drop 1 text) n = subst (λ x. RunsFor (IsPiece Template) x n) c.range_from.ensures.value c.run_len-end.ensures in
    let after = after_one n c.as_bytes.result.now text c.as_bytes.ensures.value in
    t.template_bad opened text c.args.ended c.args.holed n kinds run (subst (λ x. begins 96 x ≡ false) after (sym c.begins.ensures ∙ c.if-begins.false))
    (subst (λ x. begins_pair 36 123 x ≡ false) after (sym c.begins_pair.ensures ∙ c.if-begins_pair.false))
