use Rattle.std.proofs.Common.{◌∙◌, arith}
use Rattle.tb_session.proofs.Reporting.{below, stepped}
use Rattle.tb_session.proofs.reports.count_errors.Goals as goal

pub count_one-requires : goal.count_one-requires
count_one-requires c there =
    below c.args.diags.now c.loop-diag.diag-index c.diag-item.result c.loop-diag.counts.items (omega arith) c.diag-item.is c.loop-diag.invariant.each there

pub loop-diag-preserved : goal.loop-diag-preserved
loop-diag-preserved c =
    let next = stepped c.args.diags.now c.loop-diag.diag-index c.diag-item.result c.loop-diag.counts.items (omega arith) c.diag-item.is c.loop-diag.invariant.each c.count_one.new.counts.items c.count_one.ensures.counted c.count_one.ensures.other in
    record { all = next.0 ∙ c.loop-diag.invariant.all; each = next.1 }
