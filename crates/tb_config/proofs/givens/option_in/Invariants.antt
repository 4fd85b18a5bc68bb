use Rattle.std.proofs.Common.{◌≡◌, drop}
use Rattle.tb_config.specs.Overriding.{option_in}
use Rattle.tb_config.specs.Givens.{seen_all}
use Rattle.tb_config.proofs.givens.option_in.Given as goal

abbrev pub invariant-loop-config : goal.invariant-loop-config
invariant-loop-config l = option_in l.name (seen_all l.configs) ≡ option_in l.name (seen_all (drop l.config-index l.configs))
