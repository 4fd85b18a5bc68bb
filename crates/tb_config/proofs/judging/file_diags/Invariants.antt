use Rattle.std.proofs.Common.{◌≡◌, ◌++◌, drop}
use Rattle.std.specs.List.{flat_map}
use Rattle.tb_config.specs.Faults.{file_diags}
use Rattle.tb_config.specs.Givens.{seen_all}
use Rattle.tb_config.proofs.judging.file_diags.Given as goal

abbrev pub invariant-loop-config : goal.invariant-loop-config
invariant-loop-config l = flat_map file_diags (seen_all l.configs) ≡ l.diags.items ++ flat_map file_diags (seen_all (drop l.config-index l.configs))
