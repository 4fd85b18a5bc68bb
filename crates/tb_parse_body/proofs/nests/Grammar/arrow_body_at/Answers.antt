use Rattle.std.proofs.Common.{ap, ◌∙◌}
use Rattle.tb_tree.specs.declared.exprs.Block.{Block}
use Rattle.tb_tree.specs.declared.exprs.Expr.{Expr}
use Rattle.tb_tree.specs.declared.exprs.ArrowBody.{ArrowBody}
use Rattle.tb_tree.specs.declared.exprs.ArrowBody.TheVariants as arrow_body
use Rattle.tb_tree.specs.Exprs.{a_body}
use Rattle.tb_tree.specs.Longest.{Never}
use Rattle.tb_tree.proofs.Ends.{found_as}
use Rattle.tb_parse_body.specs.Rules.{Deep, BlockUpto, ExprUpto, InExpr}
use Rattle.tb_parse_body.proofs.ArrowParts.{body_block, body_lacks_block, body_expr, body_lacks_expr}
use Rattle.tb_parse_body.proofs.Sequences.{lacking, reading}
use Rattle.tb_parse_body.proofs.nests.Grammar.arrow_body_at.Goals as goal

pub returns-in_default : goal.returns-in_default
returns-in_default g c =
    let stands = c.if-is_mark.ensures in
    body_lacks_block c.args.typed c.args.limit _ stands.2 (lacking (BlockUpto a_body c.args.limit) Never c.args.self.now.reader c.args.at _ c.in_default.is c.in_ok-block.ensures)

pub returns-then-is_mark : goal.returns-then-is_mark
returns-then-is_mark g c =
    let stands = c.if-is_mark.ensures in
    let f = reading (BlockUpto a_body c.args.limit) Never c.args.self.now.reader c.args.at _ c.in-Some.block c.in-Some.is c.in_ok-block.ensures in
    (f.0, found_as (ap (λ (x : Block). let y : Deep ArrowBody = (arrow_body.Block x, c.in-Some.block.depth) in y) c.in_ok-new.ensures) (body_block c.args.typed c.args.limit _ stands.2 f.1))

pub returns-in_default-2 : goal.returns-in_default-2
returns-in_default-2 g c =
    body_lacks_expr c.args.typed c.args.limit c.if-is_mark.ensures (lacking (ExprUpto c.args.typed c.args.limit) (InExpr c.args.typed) c.args.self.now.reader c.args.at _ c.in_default-2.is c.in_ok-expr.ensures)

pub returns : goal.returns
returns g c =
    let f = reading (ExprUpto c.args.typed c.args.limit) (InExpr c.args.typed) c.args.self.now.reader c.args.at _ c.in-Some-2.expr c.in-Some-2.is c.in_ok-expr.ensures in
    (f.0, found_as (ap (λ (x : Expr). let y : Deep ArrowBody = (arrow_body.Expr x, c.in-Some-2.expr.depth) in y) c.in_ok-new-2.ensures) (body_expr c.args.typed c.args.limit c.if-is_mark.ensures f.1))
