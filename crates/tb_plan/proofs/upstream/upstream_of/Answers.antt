use Rattle.std.specs.List.{list_any}
use Rattle.tb_plan.specs.Projects.{is_behind}
use Rattle.tb_plan.proofs.Marked.{marks_are}
use Rattle.tb_plan.proofs.upstream.upstream_of.Goals as goal

pub returns : goal.returns
returns c =
    marks_are (λ n. list_any (is_behind c.args.before.now n) c.args.references.now) _ _ _ _ _ (c.in_ok-marks.ensures.items_if_clones_equal (λ y h. h)) c.mark_references.ensures c.as_slice.ensures.value c.in_ok-upstream.ensures
