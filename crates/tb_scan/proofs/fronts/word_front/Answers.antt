use Rattle.std.proofs.Common.{◌≡◌, ◌+◌, drop, ap, sym, subst, ◌∙◌}
use Rattle.std.specs.Char.{len_utf8}
use Rattle.std.specs.Prelude.{IsCharBoundary}
use Rattle.tb_scan.specs.declared.inside.Inside.TheVariants.{Word}
use Rattle.tb_scan.specs.declared.token.Kind.TheVariants as k
use Rattle.tb_scan.specs.Pieces.{RunsFor, IsFront, IsPiece}
use Rattle.tb_scan.specs.Tokens.{IsToken}
use Rattle.tb_scan.proofs.Reading.{word_cut, word_reads}
use Rattle.tb_scan.proofs.fronts.word_front.Goals as goal

pub range_from-requires : goal.range_from-requires
range_from-requires c = λ _. subst (λ n. IsCharBoundary c.args.text.now n) (sym c.len_utf8-length.ensures.value) (word_cut c.args.text.now c.args.first c.utf8.text c.requires.whole)

pub returns : goal.returns
returns c = λ opened.
    let text = c.args.text.now in
    let first = c.args.first in
    let rest : c.range_from.result.now ≡ drop (len_utf8 first) text = c.range_from.ensures.value ∙ ap (λ n. drop n text) c.len_utf8-length.ensures.value in
    subst (λ n. IsFront (IsToken opened k.Word) text (n + c.run_len-rest.result)) (sym c.len_utf8-length.ensures.value)
    (word_reads opened text first c.run_len-rest.result c.utf8.text c.requires.whole c.requires.word (subst (λ x. RunsFor (IsPiece Word) x c.run_len-rest.result) rest c.run_len-rest.ensures))
