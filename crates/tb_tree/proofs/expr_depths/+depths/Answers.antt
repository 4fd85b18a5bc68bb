use Rattle.std.proofs.Common.{◌∙◌, ap, arith}
use Rattle.tb_tree.specs.Depth as spec
use Rattle.tb_tree.proofs.Layers.{if_stmt, for_stmt}
use Rattle.tb_tree.proofs.expr_depths.+depths.Goals as goal

pub stmt_depth-returns-in-If : goal.stmt_depth-returns-in-If
stmt_depth-returns-in-If t c =
    let whole = ap (λ of. spec.stmt_depth of) c.in-If.is ∙ if_stmt _ _ _ _ in
    let condition = ap (λ of. spec.expr_depth of) c.get-in-If.ensures in
    let then = ap (λ of. spec.stmt_depth of) c.get-in-If-2.ensures in
    omega (arith, whole, condition, then, c.expr_depth.ensures, c.stmt_depth.ensures, c.otherwise_depth.ensures, c.larger.ensures, c.larger-in-If.ensures, c.deeper.ensures)

pub stmt_depth-returns-in-For : goal.stmt_depth-returns-in-For
stmt_depth-returns-in-For t c =
    let whole = ap (λ of. spec.stmt_depth of) c.in-For.is ∙ for_stmt _ _ _ _ _ in
    let body = ap (λ of. spec.stmt_depth of) c.get-in-For.ensures in
    omega (arith, whole, body, c.start_depth.ensures, c.optional_depth.ensures, c.optional_depth-in-For.ensures, c.stmt_depth-in-For.ensures, c.larger-in-For.ensures, c.larger-in-For-2.ensures, c.larger-in-For-3.ensures, c.deeper-in-For.ensures)
