use Rattle.std.proofs.Common.{◌≡◌, IsTrue}
use Rattle.std.specs.Prelude.{false}
use Rattle.tb_outside.specs.Causes.{Causes}
use Rattle.tb_session.specs.Generations.{read_all}
use Rattle.tb_session.proofs.opening.read_texts.Given as goal

abbrev pub invariant-loop-path : goal.invariant-loop-path
invariant-loop-path g l = record {
  texts : IsTrue g.T.Tree.tells → l.texts ≡ read_all (g.T.Tree.texts l.fn.tree) l.yielded;
  same : IsTrue g.T.Tree.tells → g.T.Tree.texts l.tree ≡ g.T.Tree.texts l.fn.tree;
  cause : Causes (g.T.Tree.count l.fn.tree) (g.T.Tree.count l.tree) false;
}
