use Rattle.std.proofs.Common.{◌≡◌, take}
use Rattle.std.specs.Prelude.{filter, not}
use Rattle.std.specs.BTreeSet.{contains}
use Rattle.tb_text.specs.Bytes.{bytes_cmp}
use Rattle.tb_surface.proofs.names.names_without.Given as goal

abbrev pub invariant-loop-name : goal.invariant-loop-name
invariant-loop-name l = l.left ≡ filter (λ name. not (contains bytes_cmp l.bound name)) (take l.name-index l.names)
