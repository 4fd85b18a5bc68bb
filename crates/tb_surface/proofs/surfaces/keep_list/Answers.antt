use Rattle.std.proofs.Common.{◌∙◌}
use Rattle.tb_surface.proofs.Keeping.{list_gone, list_stays}
use Rattle.tb_surface.proofs.surfaces.keep_list.Goals as goal

pub returns-then-not-is_kept_list : goal.returns-then-not-is_kept_list
returns-then-not-is_kept_list c =
    list_gone c.args.list.now c.is_kept_list.result c.args.items.now c.is_kept_list.ensures c.if-not-is_kept_list.true

pub returns : goal.returns
returns c =
    list_stays c.args.list.now c.is_kept_list.result c.args.items.now c.push.new.self c.in_ok-specs.specs c.in_ok-from.from c.is_kept_list.ensures c.if-not-is_kept_list.false (c.in_ok-specs.ensures ∙ c.as_slice.ensures) c.in_ok-from.ensures c.in_ok-push.ensures.ok
