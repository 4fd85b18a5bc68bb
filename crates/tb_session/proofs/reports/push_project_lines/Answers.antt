use Rattle.std.proofs.Common.{◌++◌, ◌+◌, ◌<◌, ◌∙◌, ap, arith, length}
use Rattle.tb_session.specs.Reports.{project_line}
use Rattle.tb_session.proofs.Reporting.{errors_at, lines_step}
use Rattle.tb_session.proofs.reports.push_project_lines.Goals as goal

pub loop-project-preserved : goal.loop-project-preserved
loop-project-preserved c =
    let within : c.loop-project.number < length c.in_ok-counts.counts.items = omega (arith, c.loop-project.invariant.number, c.in_ok-counts.ensures.all) in
    let few : c.loop-project.number < length c.args.projects.now = omega (arith, c.loop-project.invariant.number) in
    let errors = errors_at c.in_ok-counts.counts.items c.loop-project.number c.index-errors.result.now c.args.diags.now c.index-errors.ensures within (c.in_ok-counts.ensures.each c.loop-project.number few) in
    record {
      number = ap (λ n. n + 1) c.loop-project.invariant.number;
      lines = lines_step c.args.diags.now c.args.projects.now c.loop-project.project-index c.loop-project.number c.project-item.result c.loop-project.report.items c.push_line.new.report.items _ (omega arith) c.project-item.is
          (c.in_ok-push_line.ensures ∙ ap (λ l. c.loop-project.report.items ++ l) (c.in_ok-line.ensures ∙ (λ i. project_line c.project-item.result.setting.config (c.len.ensures i) (errors i)))) c.loop-project.invariant.lines;
    }
