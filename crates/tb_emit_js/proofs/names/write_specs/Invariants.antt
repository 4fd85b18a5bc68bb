use Rattle.std.proofs.Common.{◌≡◌, ◌++◌, false, drop, string_bytes}
use Rattle.tb_layout.specs.Erase as erasing
use Rattle.tb_emit_js.specs.Items as spec
use Rattle.tb_emit_js.proofs.names.write_specs.Given as goal

abbrev pub invariant-loop-spec : goal.invariant-loop-spec
invariant-loop-spec l =
    string_bytes l.out ++ spec.tail_text l.some (erasing.erased_specs (drop l.spec-index l.all))
    ≡ string_bytes l.initial.out ++ spec.tail_text false (erasing.erased_specs l.all)
