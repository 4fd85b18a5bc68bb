use Rattle.std.proofs.Common.{subst, lit<}
use Rattle.tb_scan.specs.declared.inside.Inside.TheVariants.{Line}
use Rattle.tb_scan.specs.Pieces.{RunsFor, IsPiece}
use Rattle.tb_scan.proofs.Spaces.{pair_cut, line_front}
use Rattle.tb_scan.proofs.spacing.line_len.Goals as goal

pub range_from-requires : goal.range_from-requires
range_from-requires c = λ _. pair_cut 47 47 c.args.text.now (lit< tt) (lit< tt) c.utf8.text c.requires

pub returns : goal.returns
returns c =
    line_front c.args.text.now c.run_len.result c.utf8.text c.requires
    (subst (λ x. RunsFor (IsPiece Line) x c.run_len.result) c.range_from.ensures.value c.run_len.ensures)
