use Rattle.std.proofs.Common.{◌≡◌, take}
use Rattle.std.specs.Prelude.{fold}
use Rattle.std.specs.BTreeSet.{insert_key}
use Rattle.tb_text.specs.Bytes.{bytes_cmp}
use Rattle.tb_plan.proofs.shared.add_seen.Given as goal

abbrev pub invariant-loop-path : goal.invariant-loop-path
invariant-loop-path l = l.seen.keys ≡ fold (insert_key bytes_cmp) l.initial.seen.keys (take l.path-index l.inputs)
