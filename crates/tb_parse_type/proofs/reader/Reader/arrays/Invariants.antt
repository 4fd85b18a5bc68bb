use Rattle.std.proofs.Common.{◌≡◌, ◌-◌}
use Rattle.tb_tree.specs.Types.{arrays}
use Rattle.tb_parse_type.proofs.reader.Reader.arrays.Given as goal

abbrev pub invariant-loop : goal.invariant-loop
invariant-loop l = arrays l.at (l.count - l.counter) l.tree ≡ arrays l.at l.count l.fn.of
