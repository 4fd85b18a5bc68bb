use Rattle.std.proofs.Common.{◌≡◌, ◌++◌, drop, map}
use Rattle.tb_options.specs.Lists.{list_of}
use Rattle.tb_config.specs.Settings.{path_rule}
use Rattle.tb_config.proofs.parts.path_rules.Given as goal

abbrev pub invariant-loop-list : goal.invariant-loop-list
invariant-loop-list l = map (path_rule l.given.folder.now) (map list_of l.list-items) ≡ l.rules.items ++ map (path_rule l.given.folder.now) (map list_of (drop l.list-index l.list-items))
