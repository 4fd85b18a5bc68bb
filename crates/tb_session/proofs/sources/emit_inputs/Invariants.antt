use Rattle.std.proofs.Common.{take}
use Rattle.tb_session.proofs.Reading.{AreEmitted}
use Rattle.tb_session.proofs.sources.emit_inputs.Given as goal

abbrev pub invariant-loop-path : goal.invariant-loop-path
invariant-loop-path l = AreEmitted l.texts l.root l.folder (take l.path-index l.paths) l.emitted
