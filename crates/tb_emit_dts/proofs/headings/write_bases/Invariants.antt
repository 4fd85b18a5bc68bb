use Rattle.std.proofs.Common.{◌≡◌, ◌++◌, false, codes, drop, string_bytes}
use Rattle.tb_layout.specs.Dts.{base_pieces}
use Rattle.tb_show.specs.Lists.{further_text}
use Rattle.tb_emit_dts.proofs.headings.write_bases.Given as goal

abbrev pub invariant-loop-base : goal.invariant-loop-base
invariant-loop-base l =
    string_bytes l.out ++ further_text (codes ", ") base_pieces l.some (drop l.base-index l.all) ≡ string_bytes l.initial.out ++ further_text (codes ", ") base_pieces false l.all
