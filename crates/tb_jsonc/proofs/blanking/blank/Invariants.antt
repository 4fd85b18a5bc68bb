use Rattle.std.proofs.Common.{◌≡◌, length, false}
use Rattle.std.specs.Prelude.{option_map}
use Rattle.tb_jsonc.specs.Blanks.{uncommaed, uncommented}
use Rattle.tb_jsonc.specs.Commas.{finished}
use Rattle.tb_jsonc.specs.declared.pieces.Kind.TheVariants.{Plain}
use Rattle.tb_jsonc.proofs.blanking.blank.Given as goal

abbrev pub invariant-loop-rest : goal.invariant-loop-rest
invariant-loop-rest l = option_map (finished l.commas) (uncommented 0 Plain l.rest) ≡ option_map (uncommaed false) (uncommented 0 Plain l.text)

abbrev pub decreases-loop-rest : goal.decreases-loop-rest
decreases-loop-rest l = length l.rest
