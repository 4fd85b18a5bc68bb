use Rattle.std.proofs.Common.{arith, ap, refl, ◌+◌, List, ℕ, length, length-append}
use Rattle.tb_tree.specs.declared.exprs.BlockItem.{BlockItem}
use Rattle.tb_tree.proofs.Ends.{under_both}
use Rattle.tb_parse_type.specs.Reading.{rest}
use Rattle.tb_parse_body.specs.Rules.{around_of, BlockItemUpto, InItems}
use Rattle.tb_parse_body.proofs.Items.{RowSoFar, row_start, row_on, row_end, row_falls}
use Rattle.tb_parse_body.proofs.BlockItems.{no_item, one_item, items_follow, items_found}
use Rattle.tb_parse_body.proofs.nests.Grammar.block_items_at.Goals as goal

pub loop-items-init : goal.loop-items-init
loop-items-init g c = record {
  within = c.requires.within;
  all = under_both (λ (acc : List BlockItem) (depth : ℕ). RowSoFar (BlockItemUpto (around_of c.args.around) c.args.limit) InItems acc depth (rest c.args.self.now.reader c.args.at) (rest c.args.self.now.reader c.args.at))
      c.new-items.ensures refl (row_start (BlockItemUpto (around_of c.args.around) c.args.limit) InItems _);
}

pub loop-items-smaller : goal.loop-items-smaller
loop-items-smaller g c =
    let a = around_of c.args.around in
    let f = one_item a c.args.limit c.args.self.now.reader c.loop-items.next _ c.in-Some.item c.in-Some.is c.in_ok-item.ensures in
    row_falls (items_follow a c.args.limit) f.0.1

pub loop-items-preserved : goal.loop-items-preserved
loop-items-preserved g c =
    let a = around_of c.args.around in
    let n = c.args.limit in
    let s = c.loop-items in
    let r = c.args.self.now.reader in
    let f = one_item a n r s.next _ c.in-Some.item c.in-Some.is c.in_ok-item.ensures in
    record {
      within = f.0.0;
      all = under_both (λ (acc : List BlockItem) (depth : ℕ). RowSoFar (BlockItemUpto a n) InItems acc depth (rest r c.args.at) (rest r c.in-Some.item.next))
          c.in_ok-push.ensures.ok c.larger-depth.ensures
          (row_on (items_follow a n) s.items s.depth _ _ _ s.invariant.all f.0.1 f.1);
    }

pub returns : goal.returns
returns g c =
    let a = around_of c.args.around in
    let n = c.args.limit in
    let s = c.loop-items in
    let none = no_item a n c.args.self.now.reader s.next _ c.in_default.is c.in_ok-item.ensures in
    (s.invariant.within, items_found a n (row_end s.items s.depth _ _ s.invariant.all none))
