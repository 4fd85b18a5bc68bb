use Rattle.std.proofs.Common.{◌≡◌, map, drop}
use Rattle.std.specs.Ordering.{nat_cmp}
use Rattle.std.specs.Cmp.Lexicographic.{slice_cmp}
use Rattle.std.specs.BTreeSet.{contains}
use Rattle.tb_plain.specs.Plain as spec
use Rattle.tb_plain.proofs.Differ.{differ_from}
use Rattle.tb_plain.proofs.differing.all_differ.Given as goal

abbrev pub invariant-loop-text : goal.invariant-loop-text
invariant-loop-text l = differ_from (λ n. n.now) (λ q. contains (λ x y. slice_cmp nat_cmp x.now y.now) l.seen q) (drop l.text-index l.texts) ≡ spec.all_differ (map (λ n. n.now) l.texts)
