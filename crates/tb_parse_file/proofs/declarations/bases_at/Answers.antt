use Rattle.std.proofs.Common.{◌+◌, sym}
use Rattle.tb_tree.proofs.Ends.{found_from, found_left, found_as}
use Rattle.tb_parse_file.specs.Rules.{InBases}
use Rattle.tb_parse_file.specs.Declarations.{BaseListRule}
use Rattle.tb_parse_file.proofs.Bases.{bases_found, bases_absent, bases_unnamed}
use Rattle.tb_parse_file.proofs.PartReadings.{lacking, reading}
use Rattle.tb_parse_file.proofs.declarations.bases_at.Goals as goal

pub returns-then-not-is_word : goal.returns-then-not-is_word
returns-then-not-is_word c = (c.requires, found_as c.new.ensures (bases_absent c.args.word _ c.if-not-is_word.ensures))

pub returns-in_default : goal.returns-in_default
returns-in_default c =
    let r = c.args.reader.now in
    let s = c.if-not-is_word.ensures in
    let n = lacking BaseListRule InBases r (c.args.at + 1) _ c.in_default.is c.in_ok-bases.ensures in
    (c.requires, found_as c.new-in_default.ensures (found_from s.2 (found_left (sym s.2) (bases_unnamed c.args.word _ _ n))))

pub returns : goal.returns
returns c =
    let f = reading BaseListRule InBases c.args.reader.now (c.args.at + 1) _ c.in-Some.bases c.in-Some.is c.in_ok-bases.ensures in
    (f.0, found_from c.if-not-is_word.ensures.2 (bases_found c.args.word _ _ f.1))
