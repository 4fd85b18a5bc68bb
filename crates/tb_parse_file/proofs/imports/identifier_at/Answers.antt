use Rattle.tb_tree.specs.Items.{identifier}
use Rattle.tb_tree.proofs.Ends.{ap_both}
use Rattle.tb_parse_file.proofs.imports.identifier_at.Goals as goal

pub returns : goal.returns
returns c = ap_both identifier c.in_ok-text_at.ensures c.start_at.ensures
