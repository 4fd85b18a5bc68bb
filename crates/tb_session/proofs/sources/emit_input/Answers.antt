use Rattle.std.proofs.Common.{◌∙◌, refl, ap}
use Rattle.std.specs.Prelude.{is_some}
use Rattle.tb_session.specs.Emitted.{emitted_with}
use Rattle.tb_session.specs.Sources.{Source}
use Rattle.tb_session.proofs.Reading.{emits, placed}
use Rattle.tb_session.proofs.sources.emit_input.Goals as goal

pub returns-in_default-clause-none : goal.returns-in_default-clause-none
returns-in_default-clause-none c none source is = c.in_ok-content.ensures.none (ap is_some c.in_default.is) source.text source.reading is.has_file

pub put_together-requires : goal.put_together-requires
put_together-requires c =
    let found = rw c.in-Some.is at c.in_ok-content.ensures.found in
    placed c.args.root.now c.args.path.now found.0 c.args.folder.now found.1 found.2.reads c.requires c.in-Some.content found.3

pub returns-clause-found : goal.returns-clause-found
returns-clause-found c =
    let found = rw c.in-Some.is at c.in_ok-content.ensures.found in
    let source : Source = record { path = c.args.path.now; text = found.0; reading = found.1 } in (
      source,
      record { at = refl; has_file = found.2 },
      c.in_ok-emitted.ensures ∙ (λ i. emitted_with c.args.folder.now (c.in_ok-path.ensures.cases i) (found.3 i)) ∙ emits c.args.folder.now source,
    )
