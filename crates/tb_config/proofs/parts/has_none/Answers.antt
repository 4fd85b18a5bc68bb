use Rattle.std.proofs.Common.{sym}
use Rattle.tb_config.proofs.Items.{is_empty-false}
use Rattle.tb_config.proofs.parts.has_none.Goals as goal

pub returns-in-len1-up : goal.returns-in-len1-up
returns-in-len1-up c = sym (is_empty-false c.args.items.now c.in-len1-up.len_at_least)
