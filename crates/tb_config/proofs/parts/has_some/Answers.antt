use Rattle.std.proofs.Common.{sym}
use Rattle.tb_config.proofs.Items.{is_nonempty-true}
use Rattle.tb_config.proofs.parts.has_some.Goals as goal

pub returns-in-len1-up : goal.returns-in-len1-up
returns-in-len1-up c = sym (is_nonempty-true c.args.items.now c.in-len1-up.len_at_least)
