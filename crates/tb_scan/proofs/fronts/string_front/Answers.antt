use Rattle.std.proofs.Common.{◌≡◌, drop, sym, subst, ◌∙◌, true, false}
use Rattle.tb_scan.specs.declared.inside.Inside.TheVariants.{Quoted}
use Rattle.tb_scan.specs.Characters.{begins}
use Rattle.tb_scan.specs.Pieces.{RunsFor, IsPiece}
use Rattle.tb_scan.proofs.TestLemmas.{after_one}
use Rattle.tb_scan.proofs.Reading as r
use Rattle.tb_scan.proofs.fronts.string_front.Goals as goal

pub range_from-requires : goal.range_from-requires
range_from-requires c = λ _. r.quote_cut c.args.text.now c.args.quote c.utf8.text c.requires.whole (r.quote_low c.args.quote c.requires.quote)

pub returns-then-begins : goal.returns-then-begins
returns-then-begins c = λ opened.
    let text = c.args.text.now in
    let n = c.run_len-end.result in
    let run : RunsFor (IsPiece (Quoted c.args.quote)) (drop 1 text) n = subst (λ x. RunsFor (IsPiece (Quoted c.args.quote)) x n) c.range_from.ensures.value c.run_len-end.ensures in
    let after = after_one n c.as_bytes.result.now text c.as_bytes.ensures.value in
    r.string_reads opened text c.args.quote n c.utf8.text c.requires.whole c.requires.quote run
    (subst (λ x. begins c.args.quote x ≡ true) after (sym c.begins.ensures ∙ c.if-begins.true))

pub returns-else-begins : goal.returns-else-begins
returns-else-begins c = λ opened.
    let text = c.args.text.now in
    let n = c.run_len-end.result in
    let run : RunsFor (IsPiece (Quoted c.args.quote)) (drop 1 text) n = subst (λ x. RunsFor (IsPiece (Quoted c.args.quote)) x n) c.range_from.ensures.value c.run_len-end.ensures in
    let after = after_one n c.as_bytes.result.now text c.as_bytes.ensures.value in
    r.string_bad opened text c.args.quote n c.requires.whole c.requires.quote run
    (subst (λ x. begins c.args.quote x ≡ false) after (sym c.begins.ensures ∙ c.if-begins.false))
