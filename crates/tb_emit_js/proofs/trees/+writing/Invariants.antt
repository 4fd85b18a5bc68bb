use Rattle.std.proofs.Common.{◌≡◌, ◌++◌, false, map, flat_map, drop, string_bytes}
use Rattle.tb_layout.specs.Js as layout
use Rattle.tb_layout.specs.Pieces.{text_of}
use Rattle.tb_layout.proofs.Written as written
use Rattle.tb_emit_js.specs.Lines as spec
use Rattle.tb_emit_js.proofs.trees.+writing.Given as goal

abbrev pub invariant-write_exprs-loop-expr : goal.invariant-write_exprs-loop-expr
invariant-write_exprs-loop-expr l =
    string_bytes l.out ++ spec.further_text written.js_expr l.n l.some (drop l.expr-index l.all)
    ≡ string_bytes l.initial.out ++ spec.further_text written.js_expr l.n false l.all

abbrev pub invariant-write_props-loop-prop : goal.invariant-write_props-loop-prop
invariant-write_props-loop-prop l =
    string_bytes l.out ++ spec.further_text written.js_prop l.n l.some (drop l.prop-index l.all)
    ≡ string_bytes l.initial.out ++ spec.further_text written.js_prop l.n false l.all

abbrev pub invariant-write_params-loop-param : goal.invariant-write_params-loop-param
invariant-write_params-loop-param l =
    string_bytes l.out ++ spec.further_text written.js_param l.n l.some (drop l.param-index l.all)
    ≡ string_bytes l.initial.out ++ spec.further_text written.js_param l.n false l.all

abbrev pub invariant-write_declarators-loop-declarator : goal.invariant-write_declarators-loop-declarator
invariant-write_declarators-loop-declarator l =
    string_bytes l.out ++ spec.further_text written.js_declarator l.n l.some (drop l.declarator-index l.all)
    ≡ string_bytes l.initial.out ++ spec.further_text written.js_declarator l.n false l.all

abbrev pub invariant-write_spans-loop-span : goal.invariant-write_spans-loop-span
invariant-write_spans-loop-span l =
    string_bytes l.out ++ flat_map (λ of. spec.span_text (written.js_span of l.n)) (drop l.span-index l.all)
    ≡ string_bytes l.initial.out ++ flat_map (λ of. spec.span_text (written.js_span of l.n)) l.all

abbrev pub invariant-write_lines-loop-item : goal.invariant-write_lines-loop-item
invariant-write_lines-loop-item l =
    string_bytes l.out ++ text_of (layout.lines l.fn.n (map written.js_block_item (drop l.item-index l.all)))
    ≡ string_bytes l.initial.out ++ text_of (layout.lines l.fn.n (map written.js_block_item l.all))

abbrev pub invariant-write_clauses-loop-clause : goal.invariant-write_clauses-loop-clause
invariant-write_clauses-loop-clause l =
    string_bytes l.out ++ text_of (layout.lines l.fn.n (map written.js_clause (drop l.clause-index l.all)))
    ≡ string_bytes l.initial.out ++ text_of (layout.lines l.fn.n (map written.js_clause l.all))
