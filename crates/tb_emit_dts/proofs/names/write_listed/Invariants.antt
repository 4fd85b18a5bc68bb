use Rattle.std.proofs.Common.{◌≡◌, ◌++◌, false, codes, drop, string_bytes}
use Rattle.tb_layout.specs.Dts.{typed_spec_pieces}
use Rattle.tb_show.specs.Lists.{further_text}
use Rattle.tb_emit_dts.proofs.names.write_listed.Given as goal

abbrev pub invariant-loop-spec : goal.invariant-loop-spec
invariant-loop-spec l =
    string_bytes l.out ++ further_text (codes ", ") typed_spec_pieces l.some (drop l.spec-index l.all) ≡ string_bytes l.initial.out ++ further_text (codes ", ") typed_spec_pieces false l.all
