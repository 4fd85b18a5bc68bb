use Rattle.std.proofs.Common.{◌≡◌, drop}
use Rattle.tb_config.specs.Overriding.{member_in}
use Rattle.tb_config.specs.Givens.{seen_all}
use Rattle.tb_config.proofs.givens.member_in.Given as goal

abbrev pub invariant-loop-config : goal.invariant-loop-config
invariant-loop-config l = member_in l.name (seen_all l.configs) ≡ member_in l.name (seen_all (drop l.config-index l.configs))
