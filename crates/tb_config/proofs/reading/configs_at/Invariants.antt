use Rattle.std.proofs.Common.{◌≡◌, ◌++◌, drop, map}
use Rattle.tb_config.specs.Configs.{Tree, config_at}
use Rattle.tb_config.specs.Givens.{seen_all}
use Rattle.tb_config.specs.Seen.{AreRead}
use Rattle.tb_config.proofs.reading.configs_at.Given as goal

abbrev pub invariant-loop-path : goal.invariant-loop-path
invariant-loop-path l = (tree : Tree) → AreRead tree l.configs → map (config_at tree) l.paths ≡ seen_all l.found.items ++ map (config_at tree) (drop l.path-index l.paths)
