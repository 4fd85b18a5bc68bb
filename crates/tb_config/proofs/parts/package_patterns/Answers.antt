use Rattle.std.proofs.Common.{◌≡◌, ℕ, List, IfOk, Bor, subst}
use Rattle.tb_text.specs.Walks.{texts}
use Rattle.tb_config.specs.Settings.{patterns}
use Rattle.tb_config.proofs.parts.package_patterns.Goals as goal

pub returns : goal.returns
returns c = subst (λ (from : List (Bor (List ℕ))). IfOk c.patterns.result (λ found. found ≡ patterns c.args.folder.now (texts from))) c.as_slice.ensures c.patterns.ensures
