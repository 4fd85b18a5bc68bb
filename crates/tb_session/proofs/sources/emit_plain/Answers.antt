use Rattle.std.proofs.Common.{ap}
use Rattle.std.specs.Prelude.{is_some}
use Rattle.tb_session.specs.Sources.{Plain, ReadsAs}
use Rattle.tb_session.proofs.Reading.{no_reading}
use Rattle.tb_session.proofs.sources.emit_plain.Goals as goal

pub returns-in_default-clause-none : goal.returns-in_default-clause-none
returns-in_default-clause-none c none reading is =
    no_reading c.args.root.now c.args.path.now c.args.text.now c.args.file.now reading c.requires.source c.requires.only c.requires.right (c.in_ok-stem.ensures.none (ap is_some c.in_default.is)) is

pub returns-clause-found : goal.returns-clause-found
returns-clause-found c = (
  Plain c.in-Some.stem c.args.file.now,
  ReadsAs.plain c.requires.source (rw c.in-Some.is at c.in_ok-stem.ensures.stem) c.requires.reads (rw c.in-Some.is at c.in_ok-stem.ensures.plain),
  c.in_ok-emit.ensures,
)
