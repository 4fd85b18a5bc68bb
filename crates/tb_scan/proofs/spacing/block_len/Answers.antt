use Rattle.std.proofs.Common.{subst, lit<}
use Rattle.tb_scan.specs.declared.inside.Inside.TheVariants.{Block}
use Rattle.tb_scan.specs.Pieces.{RunsFor, IsPiece}
use Rattle.tb_scan.proofs.Spaces.{pair_cut, block_front, block_lacks}
use Rattle.tb_scan.proofs.spacing.block_len.Goals as goal

pub range_from-requires : goal.range_from-requires
range_from-requires c = λ _. pair_cut 47 42 c.args.text.now (lit< tt) (lit< tt) c.utf8.text c.requires

pub returns-then-end-text-clause-found : goal.returns-then-end-text-clause-found
returns-then-end-text-clause-found c =
    block_front c.args.text.now c.run_len-end.result c.utf8.text c.requires
    (subst (λ x. RunsFor (IsPiece Block) x c.run_len-end.result) c.range_from.ensures.value c.run_len-end.ensures) c.if-end-text.true

pub returns-else-end-text-clause-none : goal.returns-else-end-text-clause-none
returns-else-end-text-clause-none c =
    block_lacks c.args.text.now c.run_len-end.result c.requires
    (subst (λ x. RunsFor (IsPiece Block) x c.run_len-end.result) c.range_from.ensures.value c.run_len-end.ensures) c.if-end-text.false
