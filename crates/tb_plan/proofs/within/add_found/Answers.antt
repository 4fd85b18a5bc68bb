use Rattle.std.specs.List.{filter}
use Rattle.tb_plan.specs.Within.{is_taken}
use Rattle.tb_plan.proofs.Ranges.{taken_matches, taken_within, two_pieces}
use Rattle.tb_plan.proofs.within.add_found.Goals as goal

pub returns : goal.returns
returns c =
    let taken = is_taken c.args.setting.now c.args.pattern.now in
    let same = taken_within taken c.folder-folder.result.now c.in_ok-itself.itself.now c.in_ok-inside.inside.now c.args.files.now c.in_ok-itself.ensures c.in_ok-inside.ensures
    (λ x e. c.folder-folder.ensures.all x (taken_matches c.args.setting.now c.args.pattern.now x e)) in
    two_pieces c.args.inputs.now.items _ _ (filter taken c.in_ok-itself.itself.now) (filter taken c.in_ok-inside.inside.now) (filter taken c.args.files.now) c.in_ok-add_taken.ensures c.in_ok-add_taken-2.ensures same
