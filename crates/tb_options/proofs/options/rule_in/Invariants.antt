use Rattle.std.proofs.Common.{◌≡◌, map, drop}
use Rattle.tb_options.specs.Options.{rule_in}
use Rattle.tb_options.proofs.options.rule_in.Given as goal

abbrev pub invariant-loop-options : goal.invariant-loop-options
invariant-loop-options l =
    rule_in (map (λ row. (map (λ option. option.now) row.0.now, row.1)) l.rows) l.name ≡ rule_in (map (λ row. (map (λ option. option.now) row.0.now, row.1)) (drop l.options-index l.rows)) l.name
