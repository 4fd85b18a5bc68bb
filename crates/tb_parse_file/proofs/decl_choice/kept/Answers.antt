use Rattle.std.proofs.Common.{ap}
use Rattle.tb_tree.specs.Surfaces.{kept_list}
use Rattle.tb_parse_file.proofs.decl_choice.kept.Goals as goal

pub returns-then-is_kept : goal.returns-then-is_kept
returns-then-is_kept c = ap (kept_list c.args.list) c.if-is_kept.ensures

pub returns-else-is_kept : goal.returns-else-is_kept
returns-else-is_kept c = ap (kept_list c.args.list) c.if-is_kept.ensures
