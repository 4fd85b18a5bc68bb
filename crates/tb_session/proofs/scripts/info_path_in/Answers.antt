use Rattle.std.proofs.Common.{◌∙◌, ap, sym}
use Rattle.std.specs.Prelude.{Err}
use Rattle.std.proofs.lemmas.Bool.{true≢false}
use Rattle.tb_session.proofs.scripts.info_path_in.Goals as goal

pub unreachable-requires : goal.unreachable-requires
unreachable-requires c = true≢false (sym c.requires ∙ c.info_path.ensures.bad (c.in-Err-BadPath.is ∙ ap Err c.in-Err-BadPath.field-0-is))
