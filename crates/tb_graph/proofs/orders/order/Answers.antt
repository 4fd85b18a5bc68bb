use Rattle.std.proofs.Common.{ℕ, ◌≡◌, List, [], drop, get_or, sym, subst, ◌∙◌}
use Rattle.std.proofs.lemmas.Result.{err_from_is_err_and}
use Rattle.std.proofs.lemmas.List.{at_drop_all}
use Rattle.tb_graph.specs.Visits.{Ordered, Cyclic, Visits, OfCycle, ended}
use Rattle.tb_graph.specs.Stacks.{GoesBy, IsSound}
use Rattle.tb_graph.proofs.Steps.{of_cycle_weaker, next_root, last_root}
use Rattle.tb_graph.proofs.Unique.{ordered_only, cyclic_only}
use Rattle.tb_graph.proofs.Sorted.{is_order}
use Rattle.tb_graph.proofs.Cycles.{cycle_is_cycle, has_no_cycle}
use Rattle.tb_graph.proofs.orders.order.Goals as goal

found : (c : goal.After-drop-visit-in_err-visit-2-2) → OfCycle (λ cycle. Visits c.args.refs.now [] [] c.args.roots.now (Cyclic cycle)) c.in_err-visit-2.field-0.0
found c =
    let s = c.loop-root.visit in
    let at = get_or c.args.roots.now c.loop-root.root-index 0 in
    let P : List ℕ → Type 0 = λ cycle. (rest : List ℕ) → GoesBy c.args.refs.now rest at [] s.finished.items (Cyclic cycle) in
    let Q : List ℕ → Type 0 = λ cycle. Visits c.args.refs.now [] [] c.args.roots.now (Cyclic cycle) in
    of_cycle_weaker {P = P} {Q = Q} (λ cycle h. c.loop-root.invariant.goes (Cyclic cycle) (last_root c.args.refs.now c.args.roots.now c.loop-root.root-index s.finished.items cycle c.loop-root-test.true h))
    c.in_err-visit-2.field-0.0 c.in_err-visit-2.ensures.cycle

pub returns-in_err-visit-2-clause-cycle : goal.returns-in_err-visit-2-clause-cycle
returns-in_err-visit-2-clause-cycle c =
    let p = err_from_is_err_and c.from_residual-in_err-visit-2.result c.from_residual-in_err-visit-2.ensures.1 in
    rw (p.1, p.2) (found c)

pub returns-in_err-visit-2-clause-only : goal.returns-in_err-visit-2-clause-only
returns-in_err-visit-2-clause-only c = λ o v.
    let p = err_from_is_err_and c.from_residual-in_err-visit-2.result c.from_residual-in_err-visit-2.ensures.1 in
    rw (p.1, p.2) (cyclic_only c.in_err-visit-2.field-0.0 (found c) o v)

pub returns-in_err-visit-2-clause-is_cycle : goal.returns-in_err-visit-2-clause-is_cycle
returns-in_err-visit-2-clause-is_cycle c =
    let p = err_from_is_err_and c.from_residual-in_err-visit-2.result c.from_residual-in_err-visit-2.ensures.1 in
    rw (p.1, p.2) (cycle_is_cycle c.args.refs.now c.args.roots.now c.in_err-visit-2.field-0.0 (found c))

pub loop-root-preserved : goal.loop-root-preserved
loop-root-preserved c = record {
  sound = subst (λ frames. IsSound c.args.refs.now c.visit.new.self.marks.items frames c.visit.new.self.finished.items) c.in_ok-visit-2.ensures.end c.in_ok-visit-2.ensures.sound;
  start = c.in_ok-visit-2.ensures.end;
  goes = λ o v. c.loop-root.invariant.goes o
      (next_root c.args.refs.now c.args.roots.now c.loop-root.root-index c.loop-root.visit.finished.items c.visit.new.self.finished.items o c.loop-root-test.true (c.in_ok-visit-2.ensures.goes _) v);
}

ordered : (c : goal.After-from_vec) → Visits c.args.refs.now [] [] c.args.roots.now (Ordered c.from_vec.result)
ordered c =
    let s = c.loop-root.visit in
    let all : drop c.loop-root.root-index c.args.roots.now ≡ [] = at_drop_all (λ (xs : List ℕ). xs) c.args.roots.now c.loop-root.root-index c.loop-root-test.false in
    let is : s.finished.items ≡ c.from_vec.result = sym (c.from_vec.ensures ∙ c.into_finished.ensures) in
    subst (λ done. Visits c.args.refs.now [] [] c.args.roots.now (Ordered done)) is
    (c.loop-root.invariant.goes (Ordered s.finished.items) (subst (λ todo. Visits c.args.refs.now [] s.finished.items todo (Ordered s.finished.items)) (sym all) (ended [] s.finished.items)))

pub returns-clause-order : goal.returns-clause-order
returns-clause-order c = ordered c

pub returns-clause-only : goal.returns-clause-only
returns-clause-only c = ordered_only (ordered c)

pub returns-clause-is_order : goal.returns-clause-is_order
returns-clause-is_order c = is_order c.requires.roots c.requires.refs (ordered c)

pub returns-clause-no_cycle : goal.returns-clause-no_cycle
returns-clause-no_cycle c = has_no_cycle (is_order c.requires.roots c.requires.refs (ordered c))
