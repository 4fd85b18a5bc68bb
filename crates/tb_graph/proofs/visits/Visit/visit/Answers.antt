use Rattle.std.proofs.Common.{ℕ, ◌≡◌, List, [], ◌∷◌, ◌++◌, sym, subst, arith, rules}
use Rattle.std.proofs.lemmas.Grind.{common_steps}
use Rattle.std.proofs.lemmas.Result.{err_from_is_err_and}
use Rattle.tb_graph.specs.Visits.{Cyclic, OfCycle, Outcome}
use Rattle.tb_graph.specs.Stacks.{Goes, GoesBy}
use Rattle.tb_graph.proofs.Steps.{of_cycle_weaker}
use Rattle.tb_graph.proofs.visits.Visit.visit.Goals as goal

pub returns-in_err-meet-clause-cycle : goal.returns-in_err-meet-clause-cycle
returns-in_err-meet-clause-cycle c =
    let p = err_from_is_err_and c.from_residual.result c.from_residual.ensures.1 in
    let done = c.args.self.now.finished.items in
    rw (p.1, p.2)
    (subst (λ frames. OfCycle (λ cycle. (rest : List ℕ) → GoesBy c.args.refs.now rest c.args.root frames done (Cyclic cycle)) c.in_err-meet.field-0.0) c.requires.start c.in_err-meet.ensures.cycle)

pub loop-frame-init : goal.loop-frame-init
loop-frame-init c = record {
  sound = c.in_ok-meet.ensures.sound;
  goes = subst (λ frames. (rest : List ℕ) (o : Outcome) → Goes c.args.refs.now rest c.meet.new.self.frames.items c.meet.new.self.finished.items o → GoesBy c.args.refs.now rest c.args.root frames c.args.self.now.finished.items o) c.requires.start c.in_ok-meet.ensures.goes;
}

pub returns-in_err-step-clause-cycle : goal.returns-in_err-step-clause-cycle
returns-in_err-step-clause-cycle c =
    let p = err_from_is_err_and c.from_residual-in_err-step.result c.from_residual-in_err-step.ensures.1 in
    let s = c.loop-frame.self in
    let P : List ℕ → Type 0 = λ cycle. (rest : List ℕ) → Goes c.args.refs.now rest (c.pop.new.self.items ++ c.in-Some.frame ∷ []) s.finished.items (Cyclic cycle) in
    let Q : List ℕ → Type 0 = λ cycle. (rest : List ℕ) → GoesBy c.args.refs.now rest c.args.root [] c.args.self.now.finished.items (Cyclic cycle) in
    rw (p.1, p.2) (of_cycle_weaker {P = P} {Q = Q} (λ cycle h rest. c.loop-frame.invariant.goes rest (Cyclic cycle)
    (subst (λ frames. Goes c.args.refs.now rest frames s.finished.items (Cyclic cycle)) (sym c.in-Some.ensures.items) (h rest)))
    c.in_err-step.field-0.0 c.in_err-step.ensures.cycle)

pub returns-clause-goes : goal.returns-clause-goes
returns-clause-goes c = λ rest o g.
    let none : [] ≡ c.loop-frame.self.frames.items = first_of (search rules, grind (arith, common_steps)) in
    c.loop-frame.invariant.goes rest o (subst (λ frames. Goes c.args.refs.now rest frames c.loop-frame.self.finished.items o) none g)
