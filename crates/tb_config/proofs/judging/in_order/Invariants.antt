use Rattle.std.proofs.Common.{◌≡◌, fold}
use Rattle.std.specs.BTreeSet.{insert_key}
use Rattle.std.specs.Vec.Iter.{into_iter_items}
use Rattle.tb_text.specs.Findings.{diag_cmp}
use Rattle.tb_config.specs.Faults.{in_order}
use Rattle.tb_config.proofs.judging.in_order.Given as goal

abbrev pub invariant-loop-diag : goal.invariant-loop-diag
invariant-loop-diag l = in_order l.fn.diags.items ≡ fold (insert_key diag_cmp) l.found.keys (into_iter_items l.diag-iterator)
