use Rattle.std.proofs.Common.{◌≡◌, drop}
use Rattle.std.specs.List.{list_any}
use Rattle.tb_layout.specs.Erase as erasing
use Rattle.tb_emit_js.proofs.items.has_value.Given as goal

abbrev pub invariant-loop-spec : goal.invariant-loop-spec
invariant-loop-spec l = list_any erasing.is_value_spec (drop l.spec-index l.all) ≡ list_any erasing.is_value_spec l.all
