use Rattle.std.proofs.Common.{drop, sym, ◌∙◌}
use Rattle.std.specs.Char.{len_utf8}
use Rattle.tb_scan.proofs.Reading as r
use Rattle.tb_scan.proofs.fronts.glue_len.Goals as goal

pub returns-else-is_glue : goal.returns-else-is_glue
returns-else-is_glue c =
    r.no_glue_here c.args.text.now c.in-Some.c (drop (len_utf8 c.in-Some.c) c.args.text.now) c.in-Some.ensures.value (sym c.is_glue.ensures ∙ c.if-is_glue.false)

pub returns-in-None : goal.returns-in-None
returns-in-None c = r.no_glue_at_end c.args.text.now c.in-None.ensures.value
