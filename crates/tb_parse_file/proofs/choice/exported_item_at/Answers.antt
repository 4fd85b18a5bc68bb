use Rattle.std.proofs.Common.{◌+◌}
use Rattle.tb_tree.proofs.Ends.{found_from, lacks_from, wider}
use Rattle.tb_parse_body.specs.Rules.{InBody}
use Rattle.tb_parse_body.proofs.Readings.{lacking, reading}
use Rattle.tb_parse_file.specs.Rules.{DeclarationUpto}
use Rattle.tb_parse_file.proofs.Chosen.{exported_found, exported_lacks, exported_lacks_word}
use Rattle.tb_parse_file.proofs.choice.exported_item_at.Goals as goal

pub returns-then-not-is_word : goal.returns-then-not-is_word
returns-then-not-is_word c = exported_lacks_word c.args.limit _ c.if-not-is_word.ensures

pub returns-in_default : goal.returns-in_default
returns-in_default c =
    let n = lacking (DeclarationUpto c.args.limit) InBody c.args.reader (c.args.at + 1) _ c.in_default.is c.in_ok-declaration.ensures in
    lacks_from c.if-not-is_word.ensures.2 (exported_lacks c.args.limit _ _ n)

pub returns : goal.returns
returns c =
    let f = reading (DeclarationUpto c.args.limit) InBody c.args.reader (c.args.at + 1) _ c.in-Some.declaration c.in-Some.is c.in_ok-declaration.ensures in
    (f.0, found_from c.if-not-is_word.ensures.2 (wider (λ s h. tt) (exported_found c.args.limit _ _ f.1)))
