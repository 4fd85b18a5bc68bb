use Rattle.tb_tree.proofs.Ends.{wider}
use Rattle.tb_parse_body.specs.Rules.{InBody}
use Rattle.tb_parse_body.proofs.Readings.{lacking, reading}
use Rattle.tb_parse_file.specs.Rules.{DeclarationUpto}
use Rattle.tb_parse_file.proofs.Chosen.{declared_found, declared_lacks}
use Rattle.tb_parse_file.proofs.choice.declared_item_at.Goals as goal

pub returns-in_default : goal.returns-in_default
returns-in_default c = declared_lacks c.args.limit (lacking (DeclarationUpto c.args.limit) InBody c.args.reader c.args.at _ c.in_default.is c.in_ok-declaration.ensures)

pub returns : goal.returns
returns c =
    let f = reading (DeclarationUpto c.args.limit) InBody c.args.reader c.args.at _ c.in-Some.declaration c.in-Some.is c.in_ok-declaration.ensures in
    (f.0, wider (λ s h. tt) (declared_found c.args.limit f.1))
