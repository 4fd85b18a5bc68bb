use Rattle.std.proofs.Common.{◌+◌, refl}
use Rattle.tb_tree.proofs.Ends.{found_from, lacks_from}
use Rattle.tb_parse_type.specs.Rules.{limits}
use Rattle.tb_parse_body.proofs.Answered.{type_lacking, type_reading}
use Rattle.tb_parse_body.proofs.Joining.{cast_found, cast_lacks_type}
use Rattle.tb_parse_body.proofs.nests.Grammar.cast_at.Goals as goal

pub returns-in_default : goal.returns-in_default
returns-in_default g c =
    let s = c.if-not-is_word.ensures in
    let n = type_lacking (limits 200 c.args.limit) c.args.self.now.reader (c.args.at + 1) _ c.in_default.is c.in_ok-shape.ensures in
    lacks_from s.2 (cast_lacks_type c.args.level c.args.limit (limits 200 c.args.limit) _ _ refl refl n)

pub returns : goal.returns
returns g c =
    let s = c.if-not-is_word.ensures in
    let f = type_reading (limits 200 c.args.limit) c.args.self.now.reader (c.args.at + 1) _ c.in-Some.shape c.in-Some.is c.in_ok-shape.ensures in
    (f.0, found_from s.2 (cast_found c.args.level c.args.limit (limits 200 c.args.limit) _ _ c.if-level-ne-RELATION.false refl refl f.1))
