use Rattle.std.proofs.Common.{◌+◌, refl, ap}
use Rattle.tb_tree.specs.declared.exprs.BinaryOperator.TheVariants as binary
use Rattle.tb_tree.specs.declared.exprs.Expr.{Expr}
use Rattle.tb_tree.proofs.Ends.{found_as, found_from, lacks_from, both}
use Rattle.tb_parse_body.specs.declared.levels.Join.TheVariants as j
use Rattle.tb_parse_body.specs.Rules.{LevelUpto, InLevel}
use Rattle.tb_parse_body.proofs.Places.{lacking, reading}
use Rattle.tb_parse_body.proofs.Ors.{nullish_found, nullish_lacks_operand}
use Rattle.tb_parse_body.proofs.nests.Grammar.nullish_at.Goals as goal

pub returns-in_default : goal.returns-in_default
returns-in_default g c =
    let s = c.if-not-is_mark.ensures in
    let n = lacking (LevelUpto 3 c.args.limit) (InLevel 3) c.args.self.now.reader (c.args.at + 1) _ c.in_default.is c.in_ok-right.ensures in
    lacks_from s.2 (nullish_lacks_operand c.args.limit _ n)

pub returns : goal.returns
returns g c =
    let s = c.if-not-is_mark.ensures in
    let f = reading (LevelUpto 3 c.args.limit) (InLevel 3) c.args.self.now.reader (c.args.at + 1) _ c.in-Some.right c.in-Some.is c.in_ok-right.ensures in
    (f.0, found_from s.2 (found_as (both (ap (λ (x : Expr). j.Operator binary.Nullish x) c.in_ok-operand.ensures) refl) (nullish_found c.args.limit _ f.1)))
