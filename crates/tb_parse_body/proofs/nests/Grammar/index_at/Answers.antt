use Rattle.std.proofs.Common.{◌+◌, true, arith}
use Rattle.tb_tree.specs.declared.exprs.Expr.{Expr}
use Rattle.tb_tree.proofs.Ends.{found_from, found_left, found_as, lacks_from}
use Rattle.tb_parse_body.specs.declared.fronts.Link.TheVariants as l
use Rattle.tb_parse_body.specs.Rules.{ExprUpto, InExpr}
use Rattle.tb_parse_body.proofs.Sequences.{lacking, reading, deep_as}
use Rattle.tb_parse_body.proofs.Linking.{index_found, index_lacks, index_lacks_close}
use Rattle.std.proofs.Common.{ap, refl}
use Rattle.tb_parse_body.proofs.nests.Grammar.index_at.Goals as goal

pub returns-in_default : goal.returns-in_default
returns-in_default g c =
    let opens = c.if-not-is_mark.ensures in
    let n = lacking (ExprUpto true c.args.limit) (InExpr true) c.args.self.now.reader (c.args.at + 1) _ c.in_default.is c.in_ok-index.ensures in
    lacks_from opens.2 (index_lacks c.args.limit _ n)

pub returns-then-not-is_mark-2 : goal.returns-then-not-is_mark-2
returns-then-not-is_mark-2 g c =
    let opens = c.if-not-is_mark.ensures in
    let f = reading (ExprUpto true c.args.limit) (InExpr true) c.args.self.now.reader (c.args.at + 1) _ c.in-Some.index c.in-Some.is c.in_ok-index.ensures in
    lacks_from opens.2 (index_lacks_close c.args.limit _ f.1 c.if-not-is_mark-2.ensures)

pub returns : goal.returns
returns g c =
    let opens = c.if-not-is_mark.ensures in
    let close = c.if-not-is_mark-2.ensures in
    let f = reading (ExprUpto true c.args.limit) (InExpr true) c.args.self.now.reader (c.args.at + 1) _ c.in-Some.index c.in-Some.is c.in_ok-index.ensures in
    (omega (arith, close.0), found_from opens.2 (found_as (deep_as (ap (λ (x : Expr). l.Index x) c.in_ok-new.ensures) refl) (index_found c.args.limit _ _ _ (found_left close.2 f.1))))
