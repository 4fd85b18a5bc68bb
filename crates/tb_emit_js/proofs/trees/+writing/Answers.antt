use Rattle.std.proofs.Common.{string_bytes}
use Rattle.tb_layout.proofs.Written.{js_expr, js_prop, js_param, js_declarator}
use Rattle.tb_emit_js.proofs.Arms.{list_whole, template_grown, object_grown, block_grown, if_grown, for_grown}
use Rattle.tb_emit_js.proofs.trees.+writing.Goals as goal

pub write_exprs-returns : goal.write_exprs-returns
write_exprs-returns t c =
    list_whole js_expr c.args.n (string_bytes c.loop-expr.out) (string_bytes c.args.out.now) c.args.all.now c.loop-expr.some c.loop-expr.expr-index c.loop-expr-test.false c.loop-expr.invariant

pub write_props-returns : goal.write_props-returns
write_props-returns t c =
    list_whole js_prop c.args.n (string_bytes c.loop-prop.out) (string_bytes c.args.out.now) c.args.all.now c.loop-prop.some c.loop-prop.prop-index c.loop-prop-test.false c.loop-prop.invariant

pub write_params-returns : goal.write_params-returns
write_params-returns t c =
    list_whole js_param c.args.n (string_bytes c.loop-param.out) (string_bytes c.args.out.now) c.args.all.now c.loop-param.some c.loop-param.param-index c.loop-param-test.false c.loop-param.invariant

pub write_declarators-returns : goal.write_declarators-returns
write_declarators-returns t c =
    list_whole js_declarator c.args.n (string_bytes c.loop-declarator.out) (string_bytes c.args.out.now) c.args.all.now c.loop-declarator.some c.loop-declarator.declarator-index c.loop-declarator-test.false c.loop-declarator.invariant

pub write_block-returns : goal.write_block-returns
write_block-returns t c =
    block_grown (string_bytes c.args.out.now) (string_bytes c.put-2.new.out) (string_bytes c.write_lines.new.out) (string_bytes c.write_line.new.out) c.args.n c.args.of.now c.as_slice.result.now
    c.if-is_empty.ensures.1 c.as_slice.ensures c.in_ok-put.ensures c.in_ok-write_lines.ensures c.in_ok-write_line.ensures

pub write_expr-returns-in_ok-write_spans-in-Template : goal.write_expr-returns-in_ok-write_spans-in-Template
write_expr-returns-in_ok-write_spans-in-Template t c =
    template_grown (string_bytes c.args.out.now) (string_bytes c.put-in-Template.new.out) (string_bytes c.write_spans.new.out) c.args.n c.args.of.now c.in-Template.at c.in-Template.head c.in-Template.spans c.as_str-in-Template.result.now c.as_slice.result.now
    c.in-Template.is c.as_str-in-Template.ensures.text c.as_slice.ensures c.in_ok-put-in-Template.ensures c.in_ok-write_spans-in-Template.ensures

pub write_expr-returns-in_ok-put-in-Object-2 : goal.write_expr-returns-in_ok-put-in-Object-2
write_expr-returns-in_ok-put-in-Object-2 t c =
    object_grown (string_bytes c.args.out.now) (string_bytes c.put-in-Object.new.out) (string_bytes c.write_props.new.out) (string_bytes c.put-in-Object-2.new.out) c.args.n c.args.of.now c.in-Object.at c.in-Object.props c.as_slice-in-Object.result.now
    c.in-Object.is c.if-is_empty.ensures.1 c.as_slice-in-Object.ensures c.in_ok-put-in-Object.ensures c.in_ok-write_props-in-Object.ensures c.in_ok-put-in-Object-2.ensures

pub write_stmt-returns-in_ok-write_else-in-If : goal.write_stmt-returns-in_ok-write_else-in-If
write_stmt-returns-in_ok-write_else-in-If t c =
    if_grown (string_bytes c.args.out.now) (string_bytes c.put.new.out) (string_bytes c.write_expr.new.out) (string_bytes c.put-in-If.new.out) (string_bytes c.begin_body.new.out) (string_bytes c.write_stmt.new.out) (string_bytes c.write_else.new.out) c.args.n c.in_ok-at-in-If.at c.args.of.now c.in-If.at c.in-If.condition c.in-If.then c.in-If.otherwise c.get-in-If.result.now c.get-in-If-2.result.now c.get-in-If-3.result.now
    c.in-If.is c.get-in-If.ensures c.get-in-If-2.ensures c.get-in-If-3.ensures c.in_ok-put-in-If.ensures c.in_ok-write_expr-in-If.ensures c.in_ok-put-in-If-2.ensures c.in_ok-at-in-If.ensures c.in_ok-write_stmt-in-If.ensures c.in_ok-write_else-in-If.ensures

pub write_stmt-returns-in_ok-write_stmt-in-For : goal.write_stmt-returns-in_ok-write_stmt-in-For
write_stmt-returns-in_ok-write_stmt-in-For t c =
    for_grown (string_bytes c.args.out.now) (string_bytes c.put-in-For.new.out) (string_bytes c.write_start.new.out) (string_bytes c.write_part.new.out) (string_bytes c.put-in-For-2.new.out) (string_bytes c.write_part-in-For.new.out) (string_bytes c.put-in-For-3.new.out) (string_bytes c.begin_body-in-For.new.out) (string_bytes c.write_stmt-in-For.new.out) c.args.n c.in_ok-at-in-For.at c.args.of.now c.in-For.at c.in-For.start c.in-For.condition c.in-For.update c.in-For.body c.get-in-For.result.now c.get-in-For-2.result.now
    c.in-For.is c.get-in-For.ensures c.get-in-For-2.ensures c.in_ok-put-in-For.ensures c.in_ok-write_start-in-For.ensures c.in_ok-write_part-in-For.ensures c.in_ok-put-in-For-2.ensures c.in_ok-write_part-in-For-2.ensures c.in_ok-put-in-For-3.ensures c.in_ok-at-in-For.ensures c.in_ok-write_stmt-in-For.ensures
