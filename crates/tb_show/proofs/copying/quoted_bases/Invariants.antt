use Rattle.std.proofs.Common.{◌≡◌, ◌++◌, map, drop}
use Rattle.tb_layout.specs.Quoted as spec
use Rattle.tb_show.proofs.copying.quoted_bases.Given as goal

abbrev pub invariant-loop-base : goal.invariant-loop-base
invariant-loop-base l = l.bases ++ map spec.quoted_base (drop l.base-index l.all) ≡ map spec.quoted_base l.all
