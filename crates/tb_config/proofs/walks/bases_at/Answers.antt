use Rattle.tb_config.proofs.Keeping.{read_one_more}
use Rattle.tb_config.proofs.walks.bases_at.Goals as goal

pub returns-clause-read : goal.returns-clause-read
returns-clause-read c = read_one_more c.args.tree.now c.args.configs.now c.keep.new.configs c.args.path.now c.in_ok-config.config c.in_ok-keep.ensures c.requires c.in_ok-config.ensures
