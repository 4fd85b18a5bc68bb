use Rattle.std.proofs.Common.{◌-◌, length, arith}
use Rattle.tb_globs.proofs.Ends.{last_text}
use Rattle.tb_globs.proofs.reading.last_of.Goals as goal

pub returns-in-len1-up : goal.returns-in-len1-up
returns-in-len1-up c = last_text c.args.segments.now (length c.args.segments.now - 1) _ (omega (arith, c.in-len1-up.len_at_least))
