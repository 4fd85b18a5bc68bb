use Rattle.std.proofs.Common.{List, ℕ, subst, sym}
use Rattle.tb_plan.specs.Searches.{AreNumbers}
use Rattle.tb_plan.proofs.Searched.{search_none, reached_roots}
use Rattle.tb_plan.proofs.reach.reached_from.Goals as goal

pub unread-init : goal.unread-init
unread-init c =
    let a = c.in_ok-starts.ensures in
    let d = c.new-reach.ensures in
    let starts : List ℕ → Type 0 = λ numbers. AreNumbers c.number_all.new.self.paths.items numbers c.args.roots.now in
    (a.numbered, rw (d.readings, d.references) (search_none c.args.tree.now c.number_all.new.self.paths.items), reached_roots c.args.tree.now _ _ c.args.roots.now d.paths a.grew, subst starts (sym c.starts.view_is) a.are)

pub unread-preserved : goal.unread-preserved
unread-preserved c =
    let a = c.in_ok-read_next.ensures in
    let b = c.unread.invariant in
    (a.numbered, a.search, a.reached c.args.roots.now b.2, a.keeps _ _ b.3)
