use Rattle.std.proofs.Common.{◌≡◌, ◌++◌, drop, map}
use Rattle.tb_session.specs.Builds.{diag_of}
use Rattle.tb_session.specs.Emitted.{entry_diags}
use Rattle.tb_session.proofs.scripts.push_findings.Given as goal

abbrev pub invariant-loop-finding : goal.invariant-loop-finding
invariant-loop-finding l = l.diags ++ map (diag_of l.number l.entry.path) (drop l.finding-index l.entry.findings) ≡ l.initial.diags ++ entry_diags l.number l.entry
