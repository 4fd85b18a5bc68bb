-- The keys are the values so far, each put in its place.
use Rattle.std.proofs.Common.{◌≡◌, []}
use Rattle.std.specs.Prelude.{fold}
use Rattle.std.specs.BTreeSet.{insert_key}
use Rattle.tb_plan.proofs.keys.ascending.Given as goal

abbrev pub invariant-loop-value : goal.invariant-loop-value
invariant-loop-value g l = l.keys.keys ≡ fold (insert_key g.K.Ord.cmp) [] l.yielded
