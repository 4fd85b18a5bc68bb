use Rattle.std.proofs.Common.{◌≡◌, ◌||◌, ℕ, List}
use Rattle.std.specs.BTreeSet.{contains}
use Rattle.std.specs.Vec.Iter.{into_iter_items}
use Rattle.tb_text.specs.Bytes.{bytes_cmp}
use Rattle.tb_config.specs.Walks.{is_in}
use Rattle.tb_config.proofs.chains.insert_all.Given as goal

abbrev pub invariant-loop-path : goal.invariant-loop-path
invariant-loop-path l = (p : List ℕ) → (contains bytes_cmp l.initial.all p || is_in l.fn.paths p) ≡ (contains bytes_cmp l.all p || is_in (into_iter_items l.path-iterator) p)
