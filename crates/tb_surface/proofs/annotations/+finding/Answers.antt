use Rattle.std.proofs.Common.{refl, sym, ap, ◌∙◌, flat_map}
use Rattle.tb_layout.specs.Annotations.{whole_param, arrow_param, params_findings, arrow_body_findings, block_item_findings, clause_findings, expr_findings, start_findings, prop_findings, stmt_findings, block_findings, declarator_findings, function_findings, param_findings, span_findings, var_findings}
use Rattle.tb_layout.proofs.Lacking.{name_expr, this_expr, null_expr, undefined_expr, boolean_expr, number_expr, string_expr, template_expr, parens_expr, array_expr, object_expr, new_expr, member_expr, index_expr, call_expr, unary_expr, update_expr, binary_expr, as_expr, conditional_expr, assign_expr, arrow_expr, block_stmt, if_stmt, while_stmt, do_stmt, for_stmt, for_of_stmt, return_stmt, break_stmt, continue_stmt, throw_stmt, switch_stmt, expr_stmt, empty_stmt, valued_prop, short_prop, block_arrow_body, expr_arrow_body, var_block_item, function_block_item, stmt_block_item, var_start, expr_start, nothing_start, case_clause, default_clause, arrow_params_findings, function_out, span_out, block_out, declarator_out, var_out}
use Rattle.tb_surface.proofs.Joins.{nothing, one, two, three, four, begun, more_flat, whole_flat}
use Rattle.tb_surface.proofs.Found.{param_whole, param_inner}
use Rattle.tb_surface.proofs.annotations.+finding.Goals as goal

pub find_expr-returns-in-Name : goal.find_expr-returns-in-Name
find_expr-returns-in-Name t c =
    nothing c.args.found.now _ (ap expr_findings c.in-Name.is ∙ name_expr _ _)

pub find_expr-returns-in-This : goal.find_expr-returns-in-This
find_expr-returns-in-This t c =
    nothing c.args.found.now _ (ap expr_findings c.in-This.is ∙ this_expr _)

pub find_expr-returns-in-Null : goal.find_expr-returns-in-Null
find_expr-returns-in-Null t c =
    nothing c.args.found.now _ (ap expr_findings c.in-Null.is ∙ null_expr _)

pub find_expr-returns-in-Undefined : goal.find_expr-returns-in-Undefined
find_expr-returns-in-Undefined t c =
    nothing c.args.found.now _ (ap expr_findings c.in-Undefined.is ∙ undefined_expr _)

pub find_expr-returns-in-Boolean : goal.find_expr-returns-in-Boolean
find_expr-returns-in-Boolean t c =
    nothing c.args.found.now _ (ap expr_findings c.in-Boolean.is ∙ boolean_expr _ _)

pub find_expr-returns-in-Number : goal.find_expr-returns-in-Number
find_expr-returns-in-Number t c =
    nothing c.args.found.now _ (ap expr_findings c.in-Number.is ∙ number_expr _ _)

pub find_expr-returns-in-String : goal.find_expr-returns-in-String
find_expr-returns-in-String t c =
    nothing c.args.found.now _ (ap expr_findings c.in-String.is ∙ string_expr _ _)

pub find_expr-returns-in-Template : goal.find_expr-returns-in-Template
find_expr-returns-in-Template t c =
    one c.find_spans.result c.args.found.now c.find_spans.new.found _ _ c.find_spans.ensures ((ap (flat_map span_findings) c.as_slice.ensures) ∙ sym (ap expr_findings c.in-Template.is ∙ template_expr _ _ _))

pub find_expr-returns-in-Parens : goal.find_expr-returns-in-Parens
find_expr-returns-in-Parens t c =
    one c.find_expr.result c.args.found.now c.find_expr.new.found _ _ c.find_expr.ensures ((ap expr_findings c.get.ensures) ∙ sym (ap expr_findings c.in-Parens.is ∙ parens_expr _ _))

pub find_expr-returns-in-Array : goal.find_expr-returns-in-Array
find_expr-returns-in-Array t c =
    one c.find_exprs.result c.args.found.now c.find_exprs.new.found _ _ c.find_exprs.ensures ((ap (flat_map expr_findings) c.as_slice-in-Array.ensures) ∙ sym (ap expr_findings c.in-Array.is ∙ array_expr _ _))

pub find_expr-returns-in-Object : goal.find_expr-returns-in-Object
find_expr-returns-in-Object t c =
    one c.find_props.result c.args.found.now c.find_props.new.found _ _ c.find_props.ensures ((ap (flat_map prop_findings) c.as_slice-in-Object.ensures) ∙ sym (ap expr_findings c.in-Object.is ∙ object_expr _ _))

pub find_expr-returns-in-New : goal.find_expr-returns-in-New
find_expr-returns-in-New t c =
    one c.find_exprs-in-New.result c.args.found.now c.find_exprs-in-New.new.found _ _ c.find_exprs-in-New.ensures ((ap (flat_map expr_findings) c.as_slice-in-New.ensures) ∙ sym (ap expr_findings c.in-New.is ∙ new_expr _ _ _))

pub find_expr-returns-in-Member : goal.find_expr-returns-in-Member
find_expr-returns-in-Member t c =
    one c.find_expr-in-Member.result c.args.found.now c.find_expr-in-Member.new.found _ _ c.find_expr-in-Member.ensures ((ap expr_findings c.get-in-Member.ensures) ∙ sym (ap expr_findings c.in-Member.is ∙ member_expr _ _ _))

pub find_expr-returns-in_ok-find_expr-in-Index-2 : goal.find_expr-returns-in_ok-find_expr-in-Index-2
find_expr-returns-in_ok-find_expr-in-Index-2 t c =
    two c.args.found.now c.find_expr-in-Index.new.found c.find_expr-in-Index-2.new.found _ _ _ _ _ c.in_ok-find_expr-in-Index.ensures c.in_ok-find_expr-in-Index-2.ensures (ap expr_findings c.get-in-Index.ensures) (ap expr_findings c.get-in-Index-2.ensures) (ap expr_findings c.in-Index.is ∙ index_expr _ _ _)

pub find_expr-returns-in_ok-find_exprs-in-Call : goal.find_expr-returns-in_ok-find_exprs-in-Call
find_expr-returns-in_ok-find_exprs-in-Call t c =
    two c.args.found.now c.find_expr-in-Call.new.found c.find_exprs-in-Call.new.found _ _ _ _ _ c.in_ok-find_expr-in-Call.ensures c.in_ok-find_exprs-in-Call.ensures (ap expr_findings c.get-in-Call.ensures) (ap (flat_map expr_findings) c.as_slice-in-Call.ensures) (ap expr_findings c.in-Call.is ∙ call_expr _ _ _ _)

pub find_expr-returns-in-Unary : goal.find_expr-returns-in-Unary
find_expr-returns-in-Unary t c =
    one c.find_expr-in-Unary.result c.args.found.now c.find_expr-in-Unary.new.found _ _ c.find_expr-in-Unary.ensures ((ap expr_findings c.get-in-Unary.ensures) ∙ sym (ap expr_findings c.in-Unary.is ∙ unary_expr _ _ _))

pub find_expr-returns-in-Update : goal.find_expr-returns-in-Update
find_expr-returns-in-Update t c =
    one c.find_expr-in-Update.result c.args.found.now c.find_expr-in-Update.new.found _ _ c.find_expr-in-Update.ensures ((ap expr_findings c.get-in-Update.ensures) ∙ sym (ap expr_findings c.in-Update.is ∙ update_expr _ _ _ _))

pub find_expr-returns-in_ok-find_expr-in-Binary-2 : goal.find_expr-returns-in_ok-find_expr-in-Binary-2
find_expr-returns-in_ok-find_expr-in-Binary-2 t c =
    two c.args.found.now c.find_expr-in-Binary.new.found c.find_expr-in-Binary-2.new.found _ _ _ _ _ c.in_ok-find_expr-in-Binary.ensures c.in_ok-find_expr-in-Binary-2.ensures (ap expr_findings c.get-in-Binary.ensures) (ap expr_findings c.get-in-Binary-2.ensures) (ap expr_findings c.in-Binary.is ∙ binary_expr _ _ _ _)

pub find_expr-returns-in-As : goal.find_expr-returns-in-As
find_expr-returns-in-As t c =
    one c.find_expr-in-As.result c.args.found.now c.find_expr-in-As.new.found _ _ c.find_expr-in-As.ensures ((ap expr_findings c.get-in-As.ensures) ∙ sym (ap expr_findings c.in-As.is ∙ as_expr _ _ _))

pub find_expr-returns-in_ok-find_expr-in-Conditional-3 : goal.find_expr-returns-in_ok-find_expr-in-Conditional-3
find_expr-returns-in_ok-find_expr-in-Conditional-3 t c =
    three c.args.found.now c.find_expr-in-Conditional.new.found c.find_expr-in-Conditional-2.new.found c.find_expr-in-Conditional-3.new.found _ _ _ _ _ _ _ c.in_ok-find_expr-in-Conditional.ensures c.in_ok-find_expr-in-Conditional-2.ensures c.in_ok-find_expr-in-Conditional-3.ensures (ap expr_findings c.get-in-Conditional.ensures) (ap expr_findings c.get-in-Conditional-2.ensures) (ap expr_findings c.get-in-Conditional-3.ensures) (ap expr_findings c.in-Conditional.is ∙ conditional_expr _ _ _ _)

pub find_expr-returns-in_ok-find_expr-in-Assign-2 : goal.find_expr-returns-in_ok-find_expr-in-Assign-2
find_expr-returns-in_ok-find_expr-in-Assign-2 t c =
    two c.args.found.now c.find_expr-in-Assign.new.found c.find_expr-in-Assign-2.new.found _ _ _ _ _ c.in_ok-find_expr-in-Assign.ensures c.in_ok-find_expr-in-Assign-2.ensures (ap expr_findings c.get-in-Assign.ensures) (ap expr_findings c.get-in-Assign-2.ensures) (ap expr_findings c.in-Assign.is ∙ assign_expr _ _ _ _)

pub find_expr-returns-in_ok-find_arrow_body-in-Arrow : goal.find_expr-returns-in_ok-find_arrow_body-in-Arrow
find_expr-returns-in_ok-find_arrow_body-in-Arrow t c =
    two c.args.found.now c.find_arrow_params.new.found c.find_arrow_body.new.found _ _ _ _ _ c.in_ok-find_arrow_params-in-Arrow.ensures c.in_ok-find_arrow_body-in-Arrow.ensures (ap arrow_params_findings c.as_slice-in-Arrow.ensures) refl (ap expr_findings c.in-Arrow.is ∙ arrow_expr _ _ _ _)

pub find_stmt-returns-in-Block : goal.find_stmt-returns-in-Block
find_stmt-returns-in-Block t c =
    one c.find_block.result c.args.found.now c.find_block.new.found _ _ c.find_block.ensures ((ap block_findings c.get.ensures) ∙ sym (ap stmt_findings c.in-Block.is ∙ block_stmt _))

pub find_stmt-returns-in_ok-find_otherwise-in-If : goal.find_stmt-returns-in_ok-find_otherwise-in-If
find_stmt-returns-in_ok-find_otherwise-in-If t c =
    three c.args.found.now c.find_expr.new.found c.find_stmt.new.found c.find_otherwise.new.found _ _ _ _ _ _ _ c.in_ok-find_expr-in-If.ensures c.in_ok-find_stmt-in-If.ensures c.in_ok-find_otherwise-in-If.ensures (ap expr_findings c.get-in-If.ensures) (ap stmt_findings c.get-in-If-2.ensures) refl (ap stmt_findings c.in-If.is ∙ if_stmt _ _ _ _)

pub find_stmt-returns-in_ok-find_stmt-in-While : goal.find_stmt-returns-in_ok-find_stmt-in-While
find_stmt-returns-in_ok-find_stmt-in-While t c =
    two c.args.found.now c.find_expr-in-While.new.found c.find_stmt-in-While.new.found _ _ _ _ _ c.in_ok-find_expr-in-While.ensures c.in_ok-find_stmt-in-While.ensures (ap expr_findings c.get-in-While.ensures) (ap stmt_findings c.get-in-While-2.ensures) (ap stmt_findings c.in-While.is ∙ while_stmt _ _ _)

pub find_stmt-returns-in_ok-find_expr-in-Do : goal.find_stmt-returns-in_ok-find_expr-in-Do
find_stmt-returns-in_ok-find_expr-in-Do t c =
    two c.args.found.now c.find_stmt-in-Do.new.found c.find_expr-in-Do.new.found _ _ _ _ _ c.in_ok-find_stmt-in-Do.ensures c.in_ok-find_expr-in-Do.ensures (ap stmt_findings c.get-in-Do.ensures) (ap expr_findings c.get-in-Do-2.ensures) (ap stmt_findings c.in-Do.is ∙ do_stmt _ _ _)

pub find_stmt-returns-in_ok-find_stmt-in-For : goal.find_stmt-returns-in_ok-find_stmt-in-For
find_stmt-returns-in_ok-find_stmt-in-For t c =
    four c.args.found.now c.find_start.new.found c.find_value.new.found c.find_value-in-For.new.found c.find_stmt-in-For.new.found _ _ _ _ _ _ _ _ _ c.in_ok-find_start-in-For.ensures c.in_ok-find_value-in-For.ensures c.in_ok-find_value-in-For-2.ensures c.in_ok-find_stmt-in-For.ensures refl refl refl (ap stmt_findings c.get-in-For.ensures) (ap stmt_findings c.in-For.is ∙ for_stmt _ _ _ _ _)

pub find_stmt-returns-in_ok-find_stmt-in-ForOf : goal.find_stmt-returns-in_ok-find_stmt-in-ForOf
find_stmt-returns-in_ok-find_stmt-in-ForOf t c =
    two c.args.found.now c.find_expr-in-ForOf.new.found c.find_stmt-in-ForOf.new.found _ _ _ _ _ c.in_ok-find_expr-in-ForOf.ensures c.in_ok-find_stmt-in-ForOf.ensures (ap expr_findings c.get-in-ForOf.ensures) (ap stmt_findings c.get-in-ForOf-2.ensures) (ap stmt_findings c.in-ForOf.is ∙ for_of_stmt _ _ _ _ _)

pub find_stmt-returns-in-Return : goal.find_stmt-returns-in-Return
find_stmt-returns-in-Return t c =
    one c.find_value-in-Return.result c.args.found.now c.find_value-in-Return.new.found _ _ c.find_value-in-Return.ensures (refl ∙ sym (ap stmt_findings c.in-Return.is ∙ return_stmt _ _))

pub find_stmt-returns-in-Break : goal.find_stmt-returns-in-Break
find_stmt-returns-in-Break t c =
    nothing c.args.found.now _ (ap stmt_findings c.in-Break.is ∙ break_stmt _)

pub find_stmt-returns-in-Continue : goal.find_stmt-returns-in-Continue
find_stmt-returns-in-Continue t c =
    nothing c.args.found.now _ (ap stmt_findings c.in-Continue.is ∙ continue_stmt _)

pub find_stmt-returns-in-Throw : goal.find_stmt-returns-in-Throw
find_stmt-returns-in-Throw t c =
    one c.find_expr-in-Throw.result c.args.found.now c.find_expr-in-Throw.new.found _ _ c.find_expr-in-Throw.ensures ((ap expr_findings c.get-in-Throw.ensures) ∙ sym (ap stmt_findings c.in-Throw.is ∙ throw_stmt _ _))

pub find_stmt-returns-in_ok-find_clauses-in-Switch : goal.find_stmt-returns-in_ok-find_clauses-in-Switch
find_stmt-returns-in_ok-find_clauses-in-Switch t c =
    two c.args.found.now c.find_expr-in-Switch.new.found c.find_clauses.new.found _ _ _ _ _ c.in_ok-find_expr-in-Switch.ensures c.in_ok-find_clauses-in-Switch.ensures (ap expr_findings c.get-in-Switch.ensures) (ap (flat_map clause_findings) c.as_slice.ensures) (ap stmt_findings c.in-Switch.is ∙ switch_stmt _ _ _)

pub find_stmt-returns-in-Expr : goal.find_stmt-returns-in-Expr
find_stmt-returns-in-Expr t c =
    one c.find_expr-in-Expr.result c.args.found.now c.find_expr-in-Expr.new.found _ _ c.find_expr-in-Expr.ensures ((ap expr_findings c.get-in-Expr.ensures) ∙ sym (ap stmt_findings c.in-Expr.is ∙ expr_stmt _ _))

pub find_stmt-returns-in-Empty : goal.find_stmt-returns-in-Empty
find_stmt-returns-in-Empty t c =
    nothing c.args.found.now _ (ap stmt_findings c.in-Empty.is ∙ empty_stmt _)

pub find_prop-returns-in-Valued : goal.find_prop-returns-in-Valued
find_prop-returns-in-Valued t c =
    one c.find_expr.result c.args.found.now c.find_expr.new.found _ _ c.find_expr.ensures ((ap expr_findings c.get.ensures) ∙ sym (ap prop_findings c.in-Valued.is ∙ valued_prop _ _ _))

pub find_prop-returns-in-Short : goal.find_prop-returns-in-Short
find_prop-returns-in-Short t c =
    nothing c.args.found.now _ (ap prop_findings c.in-Short.is ∙ short_prop _ _)

pub find_arrow_body-returns-in-Block : goal.find_arrow_body-returns-in-Block
find_arrow_body-returns-in-Block t c =
    one c.find_block.result c.args.found.now c.find_block.new.found _ _ c.find_block.ensures ((ap block_findings c.get.ensures) ∙ sym (ap arrow_body_findings c.in-Block.is ∙ block_arrow_body _))

pub find_arrow_body-returns-in-Expr : goal.find_arrow_body-returns-in-Expr
find_arrow_body-returns-in-Expr t c =
    one c.find_expr.result c.args.found.now c.find_expr.new.found _ _ c.find_expr.ensures ((ap expr_findings c.get-in-Expr.ensures) ∙ sym (ap arrow_body_findings c.in-Expr.is ∙ expr_arrow_body _))

pub find_block_item-returns-in-Var : goal.find_block_item-returns-in-Var
find_block_item-returns-in-Var t c =
    one c.find_var.result c.args.found.now c.find_var.new.found _ _ c.find_var.ensures ((ap var_findings c.get.ensures) ∙ sym (ap block_item_findings c.in-Var.is ∙ var_block_item _))

pub find_block_item-returns-in-Function : goal.find_block_item-returns-in-Function
find_block_item-returns-in-Function t c =
    one c.find_function.result c.args.found.now c.find_function.new.found _ _ c.find_function.ensures ((ap function_findings c.get-in-Function.ensures) ∙ sym (ap block_item_findings c.in-Function.is ∙ function_block_item _))

pub find_block_item-returns-in-Stmt : goal.find_block_item-returns-in-Stmt
find_block_item-returns-in-Stmt t c =
    one c.find_stmt.result c.args.found.now c.find_stmt.new.found _ _ c.find_stmt.ensures ((ap stmt_findings c.get-in-Stmt.ensures) ∙ sym (ap block_item_findings c.in-Stmt.is ∙ stmt_block_item _))

pub find_start-returns-in-Var : goal.find_start-returns-in-Var
find_start-returns-in-Var t c =
    one c.find_var.result c.args.found.now c.find_var.new.found _ _ c.find_var.ensures ((ap var_findings c.get.ensures) ∙ sym (ap start_findings c.in-Var.is ∙ var_start _))

pub find_start-returns-in-Expr : goal.find_start-returns-in-Expr
find_start-returns-in-Expr t c =
    one c.find_expr.result c.args.found.now c.find_expr.new.found _ _ c.find_expr.ensures ((ap expr_findings c.get-in-Expr.ensures) ∙ sym (ap start_findings c.in-Expr.is ∙ expr_start _))

pub find_start-returns-in-Nothing : goal.find_start-returns-in-Nothing
find_start-returns-in-Nothing t c =
    nothing c.args.found.now _ (ap start_findings c.in-Nothing.is ∙ nothing_start)

pub find_clause-returns-in_ok-find_block_items-in-Case : goal.find_clause-returns-in_ok-find_block_items-in-Case
find_clause-returns-in_ok-find_block_items-in-Case t c =
    two c.args.found.now c.find_expr.new.found c.find_block_items.new.found _ _ _ _ _ c.in_ok-find_expr-in-Case.ensures c.in_ok-find_block_items-in-Case.ensures (ap expr_findings c.get.ensures) (ap (flat_map block_item_findings) c.as_slice.ensures) (ap clause_findings c.in-Case.is ∙ case_clause _ _ _)

pub find_clause-returns-in-Default : goal.find_clause-returns-in-Default
find_clause-returns-in-Default t c =
    one c.find_block_items-in-Default.result c.args.found.now c.find_block_items-in-Default.new.found _ _ c.find_block_items-in-Default.ensures ((ap (flat_map block_item_findings) c.as_slice-in-Default.ensures) ∙ sym (ap clause_findings c.in-Default.is ∙ default_clause _ _))

pub find_params-loop-of-init : goal.find_params-loop-of-init
find_params-loop-of-init t c = begun c.args.found.now

pub find_params-loop-of-preserved : goal.find_params-loop-of-preserved
find_params-loop-of-preserved t c =
    more_flat (λ of. whole_param (param_findings of)) c.args.all.now c.loop-of.of-index c.of-item.result c.args.found.now c.loop-of.found c.find_param.new.found c.loop-of-test.true c.of-item.is c.loop-of.invariant c.in_ok-find_param.ensures

pub find_params-returns : goal.find_params-returns
find_params-returns t c = whole_flat (λ of. whole_param (param_findings of)) c.args.all.now c.loop-of.of-index c.args.found.now c.loop-of.found c.loop-of-test.false c.loop-of.invariant

pub find_arrow_params-loop-of-init : goal.find_arrow_params-loop-of-init
find_arrow_params-loop-of-init t c = begun c.args.found.now

pub find_arrow_params-loop-of-preserved : goal.find_arrow_params-loop-of-preserved
find_arrow_params-loop-of-preserved t c =
    more_flat (λ of. arrow_param (param_findings of)) c.args.all.now c.loop-of.of-index c.of-item.result c.args.found.now c.loop-of.found c.find_arrow_param.new.found c.loop-of-test.true c.of-item.is c.loop-of.invariant c.in_ok-find_arrow_param.ensures

pub find_arrow_params-returns : goal.find_arrow_params-returns
find_arrow_params-returns t c = whole_flat (λ of. arrow_param (param_findings of)) c.args.all.now c.loop-of.of-index c.args.found.now c.loop-of.found c.loop-of-test.false c.loop-of.invariant

pub find_exprs-loop-of-init : goal.find_exprs-loop-of-init
find_exprs-loop-of-init t c = begun c.args.found.now

pub find_exprs-loop-of-preserved : goal.find_exprs-loop-of-preserved
find_exprs-loop-of-preserved t c =
    more_flat expr_findings c.args.all.now c.loop-of.of-index c.of-item.result c.args.found.now c.loop-of.found c.find_expr.new.found c.loop-of-test.true c.of-item.is c.loop-of.invariant c.in_ok-find_expr.ensures

pub find_exprs-returns : goal.find_exprs-returns
find_exprs-returns t c = whole_flat expr_findings c.args.all.now c.loop-of.of-index c.args.found.now c.loop-of.found c.loop-of-test.false c.loop-of.invariant

pub find_spans-loop-of-init : goal.find_spans-loop-of-init
find_spans-loop-of-init t c = begun c.args.found.now

pub find_spans-loop-of-preserved : goal.find_spans-loop-of-preserved
find_spans-loop-of-preserved t c =
    more_flat span_findings c.args.all.now c.loop-of.of-index c.of-item.result c.args.found.now c.loop-of.found c.find_span.new.found c.loop-of-test.true c.of-item.is c.loop-of.invariant c.in_ok-find_span.ensures

pub find_spans-returns : goal.find_spans-returns
find_spans-returns t c = whole_flat span_findings c.args.all.now c.loop-of.of-index c.args.found.now c.loop-of.found c.loop-of-test.false c.loop-of.invariant

pub find_props-loop-of-init : goal.find_props-loop-of-init
find_props-loop-of-init t c = begun c.args.found.now

pub find_props-loop-of-preserved : goal.find_props-loop-of-preserved
find_props-loop-of-preserved t c =
    more_flat prop_findings c.args.all.now c.loop-of.of-index c.of-item.result c.args.found.now c.loop-of.found c.find_prop.new.found c.loop-of-test.true c.of-item.is c.loop-of.invariant c.in_ok-find_prop.ensures

pub find_props-returns : goal.find_props-returns
find_props-returns t c = whole_flat prop_findings c.args.all.now c.loop-of.of-index c.args.found.now c.loop-of.found c.loop-of-test.false c.loop-of.invariant

pub find_block_items-loop-of-init : goal.find_block_items-loop-of-init
find_block_items-loop-of-init t c = begun c.args.found.now

pub find_block_items-loop-of-preserved : goal.find_block_items-loop-of-preserved
find_block_items-loop-of-preserved t c =
    more_flat block_item_findings c.args.all.now c.loop-of.of-index c.of-item.result c.args.found.now c.loop-of.found c.find_block_item.new.found c.loop-of-test.true c.of-item.is c.loop-of.invariant c.in_ok-find_block_item.ensures

pub find_block_items-returns : goal.find_block_items-returns
find_block_items-returns t c = whole_flat block_item_findings c.args.all.now c.loop-of.of-index c.args.found.now c.loop-of.found c.loop-of-test.false c.loop-of.invariant

pub find_declarators-loop-of-init : goal.find_declarators-loop-of-init
find_declarators-loop-of-init t c = begun c.args.found.now

pub find_declarators-loop-of-preserved : goal.find_declarators-loop-of-preserved
find_declarators-loop-of-preserved t c =
    more_flat declarator_findings c.args.all.now c.loop-of.of-index c.of-item.result c.args.found.now c.loop-of.found c.find_declarator.new.found c.loop-of-test.true c.of-item.is c.loop-of.invariant c.in_ok-find_declarator.ensures

pub find_declarators-returns : goal.find_declarators-returns
find_declarators-returns t c = whole_flat declarator_findings c.args.all.now c.loop-of.of-index c.args.found.now c.loop-of.found c.loop-of-test.false c.loop-of.invariant

pub find_clauses-loop-of-init : goal.find_clauses-loop-of-init
find_clauses-loop-of-init t c = begun c.args.found.now

pub find_clauses-loop-of-preserved : goal.find_clauses-loop-of-preserved
find_clauses-loop-of-preserved t c =
    more_flat clause_findings c.args.all.now c.loop-of.of-index c.of-item.result c.args.found.now c.loop-of.found c.find_clause.new.found c.loop-of-test.true c.of-item.is c.loop-of.invariant c.in_ok-find_clause.ensures

pub find_clauses-returns : goal.find_clauses-returns
find_clauses-returns t c = whole_flat clause_findings c.args.all.now c.loop-of.of-index c.args.found.now c.loop-of.found c.loop-of-test.false c.loop-of.invariant

pub find_function-returns : goal.find_function-returns
find_function-returns t c =
    three c.args.found.now c.find_untyped.new.found c.find_params.new.found c.find_block.new.found _ _ _ _ _ _ _ c.in_ok-find_untyped.ensures c.in_ok-find_params.ensures c.in_ok-find_block.ensures
    refl (ap params_findings c.as_slice.ensures) (ap block_findings c.get.ensures) (function_out c.args.of.now)

pub find_param-returns : goal.find_param-returns
find_param-returns t c =
    two c.args.found.now c.find_untyped.new.found c.find_value.new.found _ _ _ _ _ c.in_ok-find_untyped.ensures c.in_ok-find_value.ensures refl refl (param_whole c.args.of.now)

pub find_arrow_param-returns : goal.find_arrow_param-returns
find_arrow_param-returns t c = one c.find_value.result c.args.found.now c.find_value.new.found _ _ c.find_value.ensures (sym (param_inner c.args.of.now))

pub find_span-returns : goal.find_span-returns
find_span-returns t c = one c.find_expr.result c.args.found.now c.find_expr.new.found _ _ c.find_expr.ensures (ap expr_findings c.get.ensures ∙ sym (span_out c.args.of.now))

pub find_block-returns : goal.find_block-returns
find_block-returns t c = one c.find_block_items.result c.args.found.now c.find_block_items.new.found _ _ c.find_block_items.ensures (ap (flat_map block_item_findings) c.as_slice.ensures ∙ sym (block_out c.args.of.now))

pub find_declarator-returns : goal.find_declarator-returns
find_declarator-returns t c = one c.find_value.result c.args.found.now c.find_value.new.found _ _ c.find_value.ensures (sym (declarator_out c.args.of.now))

pub find_var-returns : goal.find_var-returns
find_var-returns t c = one c.find_declarators.result c.args.found.now c.find_declarators.new.found _ _ c.find_declarators.ensures (ap (flat_map declarator_findings) c.as_slice.ensures ∙ sym (var_out c.args.of.now))
