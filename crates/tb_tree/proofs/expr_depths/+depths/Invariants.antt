use Rattle.std.proofs.Common.{◌≡◌, max, drop}
use Rattle.tb_tree.specs.Depth as spec
use Rattle.tb_tree.proofs.expr_depths.+depths.Given as goal

abbrev pub invariant-exprs_depth-loop-expr : goal.invariant-exprs_depth-loop-expr
invariant-exprs_depth-loop-expr l = max l.depth (spec.capped (spec.exprs_depth (drop l.expr-index l.exprs))) ≡ spec.capped (spec.exprs_depth l.exprs)

abbrev pub invariant-spans_depth-loop-span : goal.invariant-spans_depth-loop-span
invariant-spans_depth-loop-span l = max l.depth (spec.capped (spec.spans_depth (drop l.span-index l.spans))) ≡ spec.capped (spec.spans_depth l.spans)

abbrev pub invariant-props_depth-loop-prop : goal.invariant-props_depth-loop-prop
invariant-props_depth-loop-prop l = max l.depth (spec.capped (spec.props_depth (drop l.prop-index l.props))) ≡ spec.capped (spec.props_depth l.props)

abbrev pub invariant-params_depth-loop-param : goal.invariant-params_depth-loop-param
invariant-params_depth-loop-param l = max l.depth (spec.capped (spec.params_depth (drop l.param-index l.params))) ≡ spec.capped (spec.params_depth l.params)

abbrev pub invariant-block_items_depth-loop-item : goal.invariant-block_items_depth-loop-item
invariant-block_items_depth-loop-item l = max l.depth (spec.capped (spec.block_items_depth (drop l.item-index l.items))) ≡ spec.capped (spec.block_items_depth l.items)

abbrev pub invariant-declarators_depth-loop-declarator : goal.invariant-declarators_depth-loop-declarator
invariant-declarators_depth-loop-declarator l = max l.depth (spec.capped (spec.declarators_depth (drop l.declarator-index l.declarators))) ≡ spec.capped (spec.declarators_depth l.declarators)

abbrev pub invariant-clauses_depth-loop-clause : goal.invariant-clauses_depth-loop-clause
invariant-clauses_depth-loop-clause l = max l.depth (spec.capped (spec.clauses_depth (drop l.clause-index l.clauses))) ≡ spec.capped (spec.clauses_depth l.clauses)
