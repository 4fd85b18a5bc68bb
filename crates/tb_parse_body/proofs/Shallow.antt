-- Nothing is derived up to no depth.
use Rattle.std.proofs.Common.{◌≡◌, ℕ, ◌+◌, ◌≤◌, Bool, List, arith}
use Rattle.tb_tree.specs.declared.exprs.Expr.{Expr}
use Rattle.tb_tree.specs.declared.exprs.Block.{Block}
use Rattle.tb_tree.specs.Sym.{Sym}
use Rattle.tb_tree.specs.Longest.{Lacks}
use Rattle.tb_tree.specs.Exprs as g
use Rattle.tb_parse_body.specs.Rules.{ExprUpto, BlockUpto}

primary_deep : (ordered : Bool) {xs : List Sym} {x : Expr} {d : ℕ} → g.IsPrimary ordered xs x d → 1 ≤ d
primary_deep ordered (g.name_expr s at e) = omega arith
primary_deep ordered (g.this_expr s at) = omega arith
primary_deep ordered (g.number_expr s at) = omega arith
primary_deep ordered (g.string_expr s at) = omega arith
primary_deep ordered (g.template_expr s at) = omega arith
primary_deep ordered (g.spans_expr s at q) = omega arith
primary_deep ordered (g.boolean_expr s at e) = omega arith
primary_deep ordered (g.null_expr s at) = omega arith
primary_deep ordered (g.undefined_expr s at) = omega arith
primary_deep ordered (g.parens_expr o p q) = omega arith
primary_deep ordered (g.array_expr o p q) = omega arith
primary_deep ordered (g.object_expr o p q) = omega arith
primary_deep ordered (g.new_expr s at t n o p e q) = omega arith

chain_deep : (ordered : Bool) {xs : List Sym} {x : Expr} {d : ℕ} → g.IsChain ordered xs x d → 1 ≤ d
chain_deep ordered (g.primary_expr q) = primary_deep ordered q
chain_deep ordered (g.member_expr k dot s at q n) = omega arith
chain_deep ordered (g.index_expr o p q r) = omega arith
chain_deep ordered (g.call_expr o p q r) = omega arith

unary_deep : (ordered : Bool) {xs : List Sym} {x : Expr} {d : ℕ} → g.IsUnary ordered xs x d → 1 ≤ d
unary_deep ordered (g.prefix_expr s e q) = omega arith
unary_deep ordered (g.update_before s e q t) = omega arith
unary_deep ordered (g.update_after s q t e) = omega arith
unary_deep ordered (g.chain_expr q) = chain_deep ordered q

level_deep : (ordered : Bool) {l : ℕ} {xs : List Sym} {x : Expr} {d : ℕ} → g.IsLevel ordered l xs x d → 1 ≤ d
level_deep ordered (g.unary_operand e q) = unary_deep ordered q
level_deep ordered (g.next_level q) = level_deep ordered q
level_deep ordered (g.joined_expr s q e i r) = omega arith
level_deep ordered (g.as_expr s at e q t h) = omega arith

nullish_deep : (ordered : Bool) {xs : List Sym} {x : Expr} {d : ℕ} → g.IsNullish ordered xs x d → 1 ≤ d
nullish_deep ordered (g.first_nullish at q r) = omega arith
nullish_deep ordered (g.next_nullish at q r) = omega arith

or_deep : (ordered : Bool) {xs : List Sym} {x : Expr} {d : ℕ} → g.IsOr ordered xs x d → 1 ≤ d
or_deep ordered (g.level_expr q) = level_deep ordered q
or_deep ordered (g.nullish_expr q) = nullish_deep ordered q

cond_deep : (ordered : Bool) {typed : Bool} {xs : List Sym} {x : Expr} {d : ℕ} → g.IsCond ordered typed xs x d → 1 ≤ d
cond_deep ordered (g.or_expr q) = or_deep ordered q
cond_deep ordered (g.conditional_expr a b q r s) = omega arith

pub expr_deep : (ordered : Bool) {typed : Bool} {xs : List Sym} {x : Expr} {d : ℕ} → g.IsExpr ordered typed xs x d → 1 ≤ d
expr_deep ordered (g.arrow_expr o p a q r s) = omega arith
expr_deep ordered (g.short_arrow_expr s at a e q) = omega arith
expr_deep ordered (g.assign_expr s q t e r) = omega arith
expr_deep ordered (g.cond_expr q) = cond_deep ordered q

block_deep : (ordered : Bool) {around : g.Around} {xs : List Sym} {x : Block} {d : ℕ} → g.IsBlock ordered around xs x d → 1 ≤ d
block_deep ordered (g.block o p q) = omega arith

pub expr_lacks_shallow : (typed : Bool) (n : ℕ) (xs : List Sym) → n ≡ 0 → Lacks (ExprUpto typed n) xs
expr_lacks_shallow typed n xs e = record { none = λ a y zs d w. let h : 1 ≤ y.1 = expr_deep _ d.0 in absurd (omega (arith, d.1, h, e)) }

pub block_lacks_shallow : (around : g.Around) (n : ℕ) (xs : List Sym) → n ≡ 0 → Lacks (BlockUpto around n) xs
block_lacks_shallow around n xs e = record { none = λ a y zs d w. let h : 1 ≤ y.1 = block_deep _ d.0 in absurd (omega (arith, d.1, h, e)) }
