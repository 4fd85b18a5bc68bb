use Rattle.std.proofs.Common.{◌≡◌, ◌++◌, ◌-◌, string_bytes}
use Rattle.std.specs.List.{repeat}
use Rattle.tb_emit_js.proofs.Joins.{blanks}
use Rattle.tb_emit_js.proofs.texts.write_new_line.Given as goal

abbrev pub invariant-loop : goal.invariant-loop
invariant-loop l = string_bytes l.out ++ repeat (l.n - l.counter) blanks ≡ string_bytes l.initial.out ++ repeat l.n blanks
