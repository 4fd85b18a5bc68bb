use Rattle.std.proofs.Common.{◌++◌, ◌∙◌, List, ℕ, ap, flat_map, subst}
use Rattle.tb_session.specs.Emitted.{entry_diags}
use Rattle.tb_session.specs.Sources.{AreSources}
use Rattle.tb_session.specs.declared.sources.Emitted.{Emitted}
use Rattle.tb_session.proofs.Building.{info_is_path}
use Rattle.tb_session.proofs.Reading.{found_diags, outputs_placed}
use Rattle.tb_session.proofs.builds.project_script.Goals as goal

pub emit_inputs-requires : goal.emit_inputs-requires
emit_inputs-requires c = rw c.as_slice-inputs.ensures (outputs_placed c.args.project.now c.args.folder.now c.requires)

pub script_of-requires : goal.script_of-requires
script_of-requires c = info_is_path c.args.folder.now c.requires.info

pub returns-clause-found : goal.returns-clause-found
returns-clause-found c =
    let found = rw c.in-Some.is at c.in_ok-emitted.ensures.found in (
      found.0,
      subst (λ (ps : List (List ℕ)). AreSources c.args.texts.now c.args.project.now.setting.root ps found.0) c.as_slice-inputs.ensures found.1,
      c.in_ok-clone.ensures.cases,
      c.in_ok-script_of.ensures found.0 found.2,
      c.in_ok-push_diags.ensures
          ∙ ap (λ (es : List Emitted). c.args.diags.now ++ flat_map (λ each. entry_diags c.args.number each.entry) es) (c.as_slice.ensures ∙ found.2)
          ∙ ap (λ l. c.args.diags.now ++ l) (found_diags c.args.number c.args.folder.now found.0),
    )
