use Rattle.std.proofs.Common.{arith, ap, ◌+◌, ◌-◌, ℕ}
use Rattle.tb_tree.specs.declared.exprs.Block.{Block, roll-Block}
use Rattle.tb_tree.proofs.Ends.{found_from, found_as, found_left, lacks_from}
use Rattle.tb_parse_body.specs.Rules.{around_of, Deep}
use Rattle.tb_parse_body.proofs.BlockItems.{block_found, block_lacks, block_lacks_open}
use Rattle.tb_parse_body.proofs.nests.Grammar.braces_at.Goals as goal

pub returns-then-not-is_mark : goal.returns-then-not-is_mark
returns-then-not-is_mark g c = block_lacks_open (around_of c.args.around) c.args.limit _ c.if-not-is_mark.ensures

pub returns-then-not-is_mark-2 : goal.returns-then-not-is_mark-2
returns-then-not-is_mark-2 g c =
    lacks_from c.if-not-is_mark.ensures.2 (block_lacks (around_of c.args.around) c.args.limit _ c.in_ok-items.ensures.1 c.if-not-is_mark-2.ensures)

pub returns : goal.returns
returns g c =
    let e = c.in_ok-items.items in (
      omega (arith, c.if-not-is_mark-2.ensures.0),
      found_from c.if-not-is_mark.ensures.2
          (found_as (ap (λ (o : ℕ). let x : Deep Block = (roll-Block (record { at = o; items = e.tree }), e.depth + 1) in x) c.start_at.ensures)
          (block_found (around_of c.args.around) c.args.limit _ _ _ c.requires.some (found_left c.if-not-is_mark-2.ensures.2 c.in_ok-items.ensures.1))),
    )
