use Rattle.std.proofs.Common.{ℕ, List, []}
use Rattle.tb_graph.specs.Visits.{Outcome}
use Rattle.tb_graph.specs.Stacks.{Goes, GoesBy, IsSound, work}
use Rattle.tb_graph.proofs.visits.Visit.visit.Given as goal

abbrev pub invariant-loop-frame : goal.invariant-loop-frame
invariant-loop-frame l = record {
  sound : IsSound l.refs l.self.marks.items l.self.frames.items l.self.finished.items;
  goes : (rest : List ℕ) (outcome : Outcome) → Goes l.refs rest l.self.frames.items l.self.finished.items outcome → GoesBy l.refs rest l.root [] l.fn.self.finished.items outcome;
}

abbrev pub decreases-loop-frame : goal.decreases-loop-frame
decreases-loop-frame l = work l.refs l.self.marks.items l.self.frames.items
