use Rattle.std.proofs.Common.{◌≡◌, ◌++◌, false, codes, drop, string_bytes}
use Rattle.tb_layout.specs.Js.{name_of}
use Rattle.tb_show.specs.Lists.{further_text}
use Rattle.tb_emit_dts.proofs.headings.write_identifiers.Given as goal

abbrev pub invariant-loop-name : goal.invariant-loop-name
invariant-loop-name l =
    string_bytes l.out ++ further_text (codes ", ") name_of l.some (drop l.name-index l.all) ≡ string_bytes l.initial.out ++ further_text (codes ", ") name_of false l.all
