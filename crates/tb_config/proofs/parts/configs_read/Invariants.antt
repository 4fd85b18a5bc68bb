use Rattle.std.proofs.Common.{◌≡◌, drop, map, fold}
use Rattle.std.specs.BTreeSet.{insert_key}
use Rattle.tb_text.specs.Bytes.{bytes_cmp}
use Rattle.tb_config.specs.Givens.{seen_all}
use Rattle.tb_config.specs.Settings.{configs_read}
use Rattle.tb_config.proofs.parts.configs_read.Given as goal

abbrev pub invariant-loop-config : goal.invariant-loop-config
invariant-loop-config l = configs_read (seen_all l.configs) ≡ fold (insert_key bytes_cmp) l.paths.keys (map (λ config. config.path) (seen_all (drop l.config-index l.configs)))
