use Rattle.std.proofs.Common.{ap, sym, arith}
use Rattle.std.specs.Prelude.{is_some}
use Rattle.tb_session.proofs.Reading.{one_more, source_at}
use Rattle.tb_session.proofs.sources.emit_inputs.Goals as goal

pub returns-in_default-clause-none : goal.returns-in_default-clause-none
returns-in_default-clause-none c none sources are =
    let at = source_at c.args.texts.now c.args.root.now c.args.folder.now c.args.paths.now sources c.loop-path.path-index c.path-item.result are (omega arith) c.path-item.is in
    c.in_ok-each.ensures.none (ap is_some c.in_default.is) at.0 at.1

pub loop-path-preserved : goal.loop-path-preserved
loop-path-preserved c =
    one_more c.args.texts.now c.args.root.now c.args.folder.now c.args.paths.now c.loop-path.path-index c.path-item.result _ _ _ (omega arith) c.path-item.is c.loop-path.invariant (rw c.in-Some.is at c.in_ok-each.ensures.found) c.in_ok-push.ensures.ok

pub emit_input-requires : goal.emit_input-requires
emit_input-requires c stem is = c.requires c.path-item.result stem (c.loop-path.path-index, omega arith, sym c.path-item.is) is
