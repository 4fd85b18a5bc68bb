use Rattle.std.proofs.Common.{◌≡◌, ◌++◌, drop}
use Rattle.std.specs.List.{flat_map}
use Rattle.tb_config.specs.Faults.{config_faults}
use Rattle.tb_config.specs.Givens.{seen_all}
use Rattle.tb_config.proofs.judging.check_configs.Given as goal

abbrev pub invariant-loop-config : goal.invariant-loop-config
invariant-loop-config l = l.initial.faults.items ++ flat_map config_faults (seen_all l.configs) ≡ l.faults.items ++ flat_map config_faults (seen_all (drop l.config-index l.configs))
