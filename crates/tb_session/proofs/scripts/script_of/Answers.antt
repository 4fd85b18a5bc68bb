use Rattle.std.proofs.Common.{◌≡◌, ◌++◌, ◌∷◌, [], ◌∙◌, List, IsPermutation, ap, flat_map, subst}
use Rattle.tb_outside.specs.declared.disks.DiskStep.{DiskStep}
use Rattle.tb_session.specs.declared.sources.Outputs.{Outputs}
use Rattle.tb_session.specs.Emitted.{output_steps}
use Rattle.tb_session.proofs.Writing.{info_write, is_script}
use Rattle.tb_session.proofs.scripts.script_of.Goals as goal

pub returns : goal.returns
returns c sources are =
    let sorted : List Outputs = c.sort.new.outputs.items in
    let moved = subst (λ (ws : List Outputs). IsPermutation ws sorted) c.in_ok-entries.ensures.outputs c.sort.ensures.same in
    let outputs : c.push_writes.new.steps ≡ flat_map output_steps sorted = c.in_ok-push_writes.ensures ∙ ap (λ (l : List DiskStep). l ++ flat_map output_steps sorted) c.new-steps.ensures in
    let info = c.in_ok-info_write.ensures ∙ ap (info_write c.args.folder.now c.args.project.now) c.in_ok-entries.ensures.entries in
    is_script c.args.folder.now c.args.project.now c.args.emitted sources are sorted c.push.new.self moved c.sort.ensures.ascending
    (c.in_ok-push.ensures.ok ∙ (λ i. outputs i ++ info i ∷ []))
