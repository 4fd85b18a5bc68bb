use Rattle.tb_layout.proofs.Keeping.{rounds_find_all}
use Rattle.tb_surface.proofs.laws.kept_names_are_least.Goals as goal

pub returns : goal.returns
returns c = rounds_find_all
