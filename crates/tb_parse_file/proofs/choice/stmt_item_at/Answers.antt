use Rattle.tb_tree.specs.Exprs.{no_body}
use Rattle.tb_tree.proofs.Ends.{wider}
use Rattle.tb_parse_body.proofs.Readings.{stmt_lacking, stmt_reading}
use Rattle.tb_parse_file.proofs.Chosen.{stmt_found, stmt_lacks}
use Rattle.tb_parse_file.proofs.choice.stmt_item_at.Goals as goal

pub returns-in_default : goal.returns-in_default
returns-in_default c = stmt_lacks c.args.limit (stmt_lacking no_body c.args.limit c.args.reader c.args.at _ c.in_default.is c.in_ok-stmt.ensures)

pub returns : goal.returns
returns c =
    let f = (stmt_reading no_body c.args.limit c.args.reader c.args.at _ c.in-Some.stmt c.in-Some.is c.in_ok-stmt.ensures).0 in
    (f.0, wider (λ s h. tt) (stmt_found c.args.limit f.1))
