use Rattle.std.proofs.Common.{◌≡◌, ◌++◌, take, flat_map}
use Rattle.tb_layout.specs.Annotations as spec
use Rattle.tb_layout.proofs.Lacking.{arrow_params_findings}
use Rattle.tb_surface.proofs.annotations.+finding.Given as goal

abbrev pub invariant-find_params-loop-of : goal.invariant-find_params-loop-of
invariant-find_params-loop-of l = l.found ≡ l.initial.found ++ spec.params_findings (take l.of-index l.all)

abbrev pub invariant-find_arrow_params-loop-of : goal.invariant-find_arrow_params-loop-of
invariant-find_arrow_params-loop-of l = l.found ≡ l.initial.found ++ arrow_params_findings (take l.of-index l.all)

abbrev pub invariant-find_exprs-loop-of : goal.invariant-find_exprs-loop-of
invariant-find_exprs-loop-of l = l.found ≡ l.initial.found ++ flat_map spec.expr_findings (take l.of-index l.all)

abbrev pub invariant-find_spans-loop-of : goal.invariant-find_spans-loop-of
invariant-find_spans-loop-of l = l.found ≡ l.initial.found ++ flat_map spec.span_findings (take l.of-index l.all)

abbrev pub invariant-find_props-loop-of : goal.invariant-find_props-loop-of
invariant-find_props-loop-of l = l.found ≡ l.initial.found ++ flat_map spec.prop_findings (take l.of-index l.all)

abbrev pub invariant-find_block_items-loop-of : goal.invariant-find_block_items-loop-of
invariant-find_block_items-loop-of l = l.found ≡ l.initial.found ++ flat_map spec.block_item_findings (take l.of-index l.all)

abbrev pub invariant-find_declarators-loop-of : goal.invariant-find_declarators-loop-of
invariant-find_declarators-loop-of l = l.found ≡ l.initial.found ++ flat_map spec.declarator_findings (take l.of-index l.all)

abbrev pub invariant-find_clauses-loop-of : goal.invariant-find_clauses-loop-of
invariant-find_clauses-loop-of l = l.found ≡ l.initial.found ++ flat_map spec.clause_findings (take l.of-index l.all)
