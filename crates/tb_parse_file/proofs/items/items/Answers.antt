use Rattle.std.proofs.Common.{ℕ, List, sym, subst}
use Rattle.tb_tree.specs.declared.items.Item.{Item}
use Rattle.tb_tree.specs.Longest.{Any}
use Rattle.tb_tree.specs.Shapes.{max_depth}
use Rattle.tb_parse_type.specs.Reading.{rest}
use Rattle.tb_parse_body.proofs.Readings.{lacking, reading}
use Rattle.tb_parse_file.specs.Files.{StopsAt}
use Rattle.tb_parse_file.specs.Rules.{ItemUpto}
use Rattle.tb_parse_file.proofs.ItemLoops.{ItemsSoFar, items_start, items_on, items_end, item_falls, nothing_left, stop_at}
use Rattle.tb_parse_file.proofs.items.items.Goals as goal

pub loop-next-init : goal.loop-next-init
loop-next-init c = subst (λ (v : List Item). ItemsSoFar v (rest c.args.reader 0) (rest c.args.reader 0)) (sym c.new-items.ensures) (items_start (rest c.args.reader 0))

pub returns-in_default : goal.returns-in_default
returns-in_default c =
    let r = c.args.reader in
    let s = c.loop-next in
    let l = lacking (ItemUpto max_depth) Any r s.next _ c.in_default.is c.in_ok-item.ensures in
    subst (λ (n : ℕ). StopsAt (rest r 0) n) (sym c.start_at.ensures) (stop_at r s.next c.loop-next-test.true s.invariant l)

pub loop-next-smaller : goal.loop-next-smaller
loop-next-smaller c =
    let f = reading (ItemUpto max_depth) Any c.args.reader c.loop-next.next _ c.in-Some.item c.in-Some.is c.in_ok-item.ensures in
    item_falls f.1

pub loop-next-preserved : goal.loop-next-preserved
loop-next-preserved c =
    let r = c.args.reader in
    let f = reading (ItemUpto max_depth) Any r c.loop-next.next _ c.in-Some.item c.in-Some.is c.in_ok-item.ensures in
    subst (λ (v : List Item). ItemsSoFar v (rest r 0) (rest r c.in-Some.item.next)) (sym c.in_ok-push.ensures.ok) (items_on c.loop-next.invariant f.1)

pub returns : goal.returns
returns c = items_end c.loop-next.invariant (nothing_left c.args.reader c.loop-next.next c.loop-next-test.false)
