use Rattle.std.proofs.Common.{◌≤◌, length}
use Rattle.tb_parse_type.specs.Reading.{rest}
use Rattle.tb_parse_body.specs.Rules.{around_of, BlockItemUpto, InItems}
use Rattle.tb_parse_body.proofs.Items.{RowSoFar}
use Rattle.tb_parse_body.proofs.nests.Grammar.block_items_at.Given as goal

abbrev pub invariant-loop-items : goal.invariant-loop-items
invariant-loop-items g l = record {
  within : l.next ≤ length l.self.reader.tokens.now;
  all : RowSoFar (BlockItemUpto (around_of l.around) l.limit) InItems l.items l.depth (rest l.self.reader l.fn.at) (rest l.self.reader l.next);
}

abbrev pub decreases-loop-items : goal.decreases-loop-items
decreases-loop-items g l = length (rest l.self.reader l.next)
