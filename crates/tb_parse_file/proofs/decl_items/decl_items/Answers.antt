use Rattle.std.proofs.Common.{ℕ, List, sym, subst}
use Rattle.tb_tree.specs.declared.items.SurfaceItem.{SurfaceItem}
use Rattle.tb_parse_type.specs.Reading.{rest}
use Rattle.tb_parse_file.specs.Decls.{DeclStopsAt}
use Rattle.tb_parse_file.proofs.DeclLoops.{DeclsSoFar, lacking, reading, decls_start, decls_on, decls_end, item_falls, nothing_left, stop_at}
use Rattle.tb_parse_file.proofs.decl_items.decl_items.Goals as goal

pub loop-next-init : goal.loop-next-init
loop-next-init c = subst (λ (v : List SurfaceItem). DeclsSoFar v (rest c.args.reader 0) (rest c.args.reader 0)) (sym c.new-items.ensures) (decls_start (rest c.args.reader 0))

pub returns-in_default : goal.returns-in_default
returns-in_default c =
    let r = c.args.reader in
    let s = c.loop-next in
    let l = lacking r s.next _ c.in_default.is c.in_ok-item.ensures in
    subst (λ (n : ℕ). DeclStopsAt (rest r 0) n) (sym c.start_at.ensures) (stop_at r s.next c.loop-next-test.true s.invariant l)

pub loop-next-smaller : goal.loop-next-smaller
loop-next-smaller c =
    let f = reading c.args.reader c.loop-next.next _ c.in-Some.item c.in-Some.is c.in_ok-item.ensures in
    item_falls f.1

pub loop-next-preserved : goal.loop-next-preserved
loop-next-preserved c =
    let r = c.args.reader in
    let f = reading r c.loop-next.next _ c.in-Some.item c.in-Some.is c.in_ok-item.ensures in
    subst (λ (v : List SurfaceItem). DeclsSoFar v (rest r 0) (rest r c.in-Some.item.next)) (sym c.in_ok-keep.ensures) (decls_on c.loop-next.invariant f.1)

pub returns : goal.returns
returns c = decls_end c.loop-next.invariant (nothing_left c.args.reader c.loop-next.next c.loop-next-test.false)
