-- What is laid out of an expression begins with `{` only where the expression does.
use Rattle.std.proofs.Common.{◌≡◌, ℕ, Bool, true, false, List, [], ◌∷◌, ◌++◌, map, refl, ap, ◌∙◌}
use Rattle.tb_tree.specs.declared.marks.Mark.{Mark as MarkKind}
use Rattle.tb_tree.specs.declared.marks.Mark.TheVariants as m
use Rattle.tb_tree.specs.declared.exprs.UnaryOperator.{UnaryOperator}
use Rattle.tb_tree.specs.declared.exprs.UnaryOperator.TheVariants as unary
use Rattle.tb_tree.specs.declared.exprs.UpdateOperator.{UpdateOperator}
use Rattle.tb_tree.specs.declared.exprs.UpdateOperator.TheVariants as update
use Rattle.tb_tree.specs.declared.exprs.BinaryOperator.{BinaryOperator}
use Rattle.tb_tree.specs.declared.exprs.BinaryOperator.TheVariants as binary
use Rattle.tb_tree.specs.declared.exprs.AssignOperator.{AssignOperator}
use Rattle.tb_tree.specs.declared.exprs.AssignOperator.TheVariants as assign
use Rattle.tb_tree.specs.declared.exprs.Expr.{Expr, out-Expr}
use Rattle.tb_tree.specs.declared.exprs.Expr.TheVariants as expr
use Rattle.tb_tree.specs.declared.exprs.TemplateSpan.{TemplateSpan}
use Rattle.tb_tree.specs.Sym.{Sym, Mark}
use Rattle.tb_tree.specs.Exprs as g
use Rattle.tb_layout.specs.Pieces.{Piece, mark, space}
use Rattle.tb_layout.specs.Js.{joined, in_parens, binary_mark, assign_mark, update_mark, prefixed, truth_pieces, template_pieces, laid_spans}
use Rattle.tb_layout.proofs.Written as written
use Rattle.tb_layout.proofs.Written.{js_expr, js_span}
use Rattle.tb_emit_law.proofs.Symbols.{symbols_in}
use Rattle.tb_emit_law.proofs.Facts.{is_as_at}
use Rattle.tb_emit_law.proofs.Flat.{one, ◌⊕◌, alike}

same_head : (x : Sym) (xs ys : List Sym) → g.begins_with_brace (x ∷ xs) ≡ g.begins_with_brace (x ∷ ys)
same_head (Mark m.OpenBrace at) xs ys = refl
same_head _ xs ys = refl

front : (xs ys : List Sym) → g.begins_with_brace (xs ++ ys) ≡ false → g.begins_with_brace xs ≡ false
front [] ys h = refl
front (x ∷ xs) ys h = same_head x xs (xs ++ ys) ∙ h

put : (xs ys : List Sym) → g.begins_with_brace xs ≡ false → g.begins_with_brace ys ≡ false → g.begins_with_brace (xs ++ ys) ≡ false
put [] ys h k = k
put (x ∷ xs) ys h k = same_head x (xs ++ ys) xs ∙ h

-- no brace stands at the head of these pieces
pub record IsPlain (p : List Piece) : Type 0 where
  pub plain : g.begins_with_brace (symbols_in p) ≡ false

abbrev is_brace : MarkKind → Bool
is_brace m.OpenBrace = true
is_brace _ = false

brace_of : (kind : MarkKind) (ys : List Sym) → g.begins_with_brace (Mark kind 0 ∷ ys) ≡ is_brace kind
brace_of m.OpenBrace ys = refl
brace_of _ ys = refl

-- pieces with no brace at their head, and behind them a mark that is none
behind : (p q : List Piece) (kind : MarkKind) (more : List Sym) → symbols_in q ≡ symbols_in p ++ Mark kind 0 ∷ more → is_brace kind ≡ false → IsPlain p → IsPlain q
behind p q kind more e k h = record { plain = ap g.begins_with_brace e ∙ put (symbols_in p) (Mark kind 0 ∷ more) h.plain (brace_of kind more ∙ k) }

joined_plain : (p q : List Piece) (kind : MarkKind) → is_brace kind ≡ false → IsPlain p → IsPlain (joined p kind q)
joined_plain p q kind k h = behind p (joined p kind q) kind (symbols_in q)
    (alike (one p ⊕ one space ⊕ one (mark kind) ⊕ one space ⊕ one q) (one (symbols_in p) ⊕ one (Mark kind 0 ∷ symbols_in q)) refl) k h

-- and behind the mark anything
then_plain : (p q : List Piece) (kind : MarkKind) → is_brace kind ≡ false → IsPlain p → IsPlain (p ++ mark kind ++ q)
then_plain p q kind k h = behind p (p ++ mark kind ++ q) kind (symbols_in q)
    (alike (one p ⊕ one (mark kind) ⊕ one q) (one (symbols_in p) ⊕ one (Mark kind 0 ∷ symbols_in q)) refl) k h

twice_plain : (p q r : List Piece) (kind : MarkKind) → is_brace kind ≡ false → IsPlain p → IsPlain (p ++ mark kind ++ q ++ r)
twice_plain p q r kind k h = behind p (p ++ mark kind ++ q ++ r) kind (symbols_in q ++ symbols_in r)
    (alike (one p ⊕ one (mark kind) ⊕ one q ⊕ one r) (one (symbols_in p) ⊕ (one (Mark kind 0 ∷ symbols_in q) ⊕ one (symbols_in r))) refl) k h

parens_plain : (p q : List Piece) → IsPlain p → IsPlain (p ++ in_parens q)
parens_plain p q h = behind p (p ++ in_parens q) m.OpenParen (symbols_in q ++ Mark m.CloseParen 0 ∷ [])
    (alike (one p ⊕ (one (mark m.OpenParen) ⊕ one q ⊕ one (mark m.CloseParen))) (one (symbols_in p) ⊕ (one (Mark m.OpenParen 0 ∷ symbols_in q) ⊕ one (Mark m.CloseParen 0 ∷ []))) refl) refl h

last_plain : (p : List Piece) (kind : MarkKind) → is_brace kind ≡ false → IsPlain p → IsPlain (p ++ mark kind)
last_plain p kind k h = behind p (p ++ mark kind) kind []
    (alike (one p ⊕ one (mark kind)) (one (symbols_in p) ⊕ one (Mark kind 0 ∷ [])) refl) k h

binary_plain : (operator : BinaryOperator) → is_brace (binary_mark operator) ≡ false
binary_plain binary.Or = refl
binary_plain _ = refl

assign_plain : (operator : AssignOperator) → is_brace (assign_mark operator) ≡ false
assign_plain assign.Assign = refl
assign_plain _ = refl

update_plain : (operator : UpdateOperator) → is_brace (update_mark operator) ≡ false
update_plain update.Increment = refl
update_plain update.Decrement = refl

before_plain : (operator : UpdateOperator) (p : List Piece) → IsPlain (mark (update_mark operator) ++ p)
before_plain update.Increment p = record { plain = refl }
before_plain update.Decrement p = record { plain = refl }

prefix_plain : (operator : UnaryOperator) (p : List Piece) → IsPlain (prefixed operator p)
prefix_plain unary.Not p = record { plain = refl }
prefix_plain unary.Minus p = record { plain = refl }
prefix_plain unary.Plus p = record { plain = refl }
prefix_plain unary.Typeof p = record { plain = refl }

truth_plain : (value : Bool) → IsPlain (truth_pieces value)
truth_plain true = record { plain = refl }
truth_plain false = record { plain = refl }

template_plain : (head : List ℕ) (spans : List TemplateSpan) (n : ℕ) → IsPlain (template_pieces head (laid_spans n (map js_span spans)))
template_plain head [] n = record { plain = refl }
template_plain head (of ∷ rest) n = record { plain = refl }

plain_as : {p q : List Piece} → q ≡ p → IsPlain p → IsPlain q
plain_as e h = record { plain = ap (λ v. g.begins_with_brace (symbols_in v)) e ∙ h.plain }

module _ (o : Bool) where
  mutual
    pub expr_plain : {typed : Bool} {xs : List Sym} {of : Expr} {d : ℕ} → g.IsExpr o typed xs of d → g.begins_with_brace xs ≡ false → (n : ℕ) → IsPlain (js_expr of n)
    expr_plain (g.arrow_expr a b k p r q) h n = plain_as (written.arrow_expr _ _ _ _ n) (record { plain = refl })
    expr_plain (g.short_arrow_expr spelled at k e q) h n = plain_as (written.arrow_expr _ _ _ _ n) (record { plain = refl })
    expr_plain (g.assign_expr s {operator = operator} {xs = xs} {ys = ys} p t e q) h n = plain_as (written.assign_expr _ _ _ _ n) (joined_plain _ _ (assign_mark operator) (assign_plain operator) (chain_plain p (front xs (s ∷ ys) h) n))
    expr_plain (g.cond_expr q) h n = cond_plain q h n

    cond_plain : {typed : Bool} {xs : List Sym} {of : Expr} {d : ℕ} → g.IsCond o typed xs of d → g.begins_with_brace xs ≡ false → (n : ℕ) → IsPlain (js_expr of n)
    cond_plain (g.or_expr q) h n = or_plain q h n
    cond_plain (g.conditional_expr a b {xs = xs} {ys = ys} {zs = zs} p q r) h n =
        plain_as (written.conditional_expr _ _ _ _ n) (joined_plain _ _ m.Colon refl (joined_plain _ _ m.Question refl (or_plain p (front xs (Mark m.Question a ∷ ys) (front (xs ++ Mark m.Question a ∷ ys) (Mark m.Colon b ∷ zs) h)) n)))

    or_plain : {xs : List Sym} {of : Expr} {d : ℕ} → g.IsOr o xs of d → g.begins_with_brace xs ≡ false → (n : ℕ) → IsPlain (js_expr of n)
    or_plain (g.level_expr q) h n = level_plain q h n
    or_plain (g.nullish_expr q) h n = nullish_plain q h n

    nullish_plain : {xs : List Sym} {of : Expr} {d : ℕ} → g.IsNullish o xs of d → g.begins_with_brace xs ≡ false → (n : ℕ) → IsPlain (js_expr of n)
    nullish_plain (g.first_nullish at {xs = xs} {ys = ys} p q) h n = plain_as (written.binary_expr _ _ _ _ n) (joined_plain _ _ m.Nullish refl (level_plain p (front xs (Mark m.Nullish at ∷ ys) h) n))
    nullish_plain (g.next_nullish at {xs = xs} {ys = ys} p q) h n = plain_as (written.binary_expr _ _ _ _ n) (joined_plain _ _ m.Nullish refl (nullish_plain p (front xs (Mark m.Nullish at ∷ ys) h) n))

    level_plain : {l : ℕ} {xs : List Sym} {of : Expr} {d : ℕ} → g.IsLevel o l xs of d → g.begins_with_brace xs ≡ false → (n : ℕ) → IsPlain (js_expr of n)
    level_plain (g.unary_operand e q) h n = unary_plain q h n
    level_plain (g.next_level q) h n = level_plain q h n
    level_plain (g.joined_expr s {operator = operator} {xs = xs} {ys = ys} p e t q) h n = plain_as (written.binary_expr _ _ _ _ n) (joined_plain _ _ (binary_mark operator) (binary_plain operator) (level_plain p (front xs (s ∷ ys) h) n))
    level_plain (g.as_expr spelled at {xs = xs} {ys = ys} e p q t) h n = plain_as (written.as_expr _ _ _ n) (level_plain p (front xs _ h) n)

    unary_plain : {xs : List Sym} {of : Expr} {d : ℕ} → g.IsUnary o xs of d → g.begins_with_brace xs ≡ false → (n : ℕ) → IsPlain (js_expr of n)
    unary_plain (g.prefix_expr s {operator = operator} e q) h n = plain_as (written.unary_expr _ _ _ n) (prefix_plain operator _)
    unary_plain (g.update_before s {operator = operator} e q t) h n = plain_as (written.update_before_expr _ _ _ n) (before_plain operator _)
    unary_plain (g.update_after s {operator = operator} {xs = xs} q t e) h n = plain_as (written.update_behind_expr _ _ _ n) (last_plain _ (update_mark operator) (update_plain operator) (chain_plain q (front xs (s ∷ []) h) n))
    unary_plain (g.chain_expr q) h n = chain_plain q h n

    chain_plain : {xs : List Sym} {of : Expr} {d : ℕ} → g.IsChain o xs of d → g.begins_with_brace xs ≡ false → (n : ℕ) → IsPlain (js_expr of n)
    chain_plain (g.primary_expr q) h n = primary_plain q h n
    chain_plain (g.member_expr kind dot spelled at {xs = xs} q t) h n = plain_as (written.member_expr _ _ _ n) (then_plain _ _ m.Dot refl (chain_plain q (front xs _ h) n))
    chain_plain (g.index_expr a b {xs = xs} {ys = ys} p q) h n =
        plain_as (written.index_expr _ _ _ n) (twice_plain _ _ _ m.OpenBracket refl (chain_plain p (front xs (Mark m.OpenBracket a ∷ ys) (front (xs ++ Mark m.OpenBracket a ∷ ys) _ h)) n))
    chain_plain (g.call_expr a b {xs = xs} {ys = ys} p q) h n =
        plain_as (written.call_expr _ _ _ _ n) (parens_plain _ _ (chain_plain p (front xs (Mark m.OpenParen a ∷ ys) (front (xs ++ Mark m.OpenParen a ∷ ys) _ h)) n))

    primary_plain : {xs : List Sym} {of : Expr} {d : ℕ} → g.IsPrimary o xs of d → g.begins_with_brace xs ≡ false → (n : ℕ) → IsPlain (js_expr of n)
    primary_plain (g.name_expr spelled at e) h n = plain_as (written.name_expr _ _ n) (record { plain = refl })
    primary_plain (g.this_expr spelled at) h n = plain_as (written.this_expr _ n) (record { plain = refl })
    primary_plain (g.number_expr spelled at) h n = plain_as (written.number_expr _ _ n) (record { plain = refl })
    primary_plain (g.string_expr spelled at) h n = plain_as (written.string_expr _ _ n) (record { plain = refl })
    primary_plain (g.template_expr spelled at) h n = plain_as (written.template_expr _ _ _ n) (record { plain = refl })
    primary_plain (g.spans_expr spelled at {spans = spans} q) h n = plain_as (written.template_expr _ _ _ n) (template_plain spelled spans n)
    primary_plain (g.boolean_expr {of = of} spelled at e) h n = plain_as (written.boolean_expr _ _ n) (truth_plain of)
    primary_plain (g.null_expr spelled at) h n = plain_as (written.null_expr _ n) (record { plain = refl })
    primary_plain (g.undefined_expr spelled at) h n = plain_as (written.undefined_expr _ n) (record { plain = refl })
    primary_plain (g.parens_expr a b q) h n = plain_as (written.parens_expr _ _ n) (record { plain = refl })
    primary_plain (g.array_expr a b q) h n = plain_as (written.array_expr _ _ n) (record { plain = refl })
    primary_plain (g.object_expr a b q) h n = absurd (cc h)
    primary_plain (g.new_expr a b spelled at i j e q) h n = plain_as (written.new_expr _ _ _ n) (record { plain = refl })

-- ---- no type stands behind a chain

primary_no_as : {o : Bool} {xs : List Sym} {of : Expr} {d : ℕ} → g.IsPrimary o xs of d → is_as_at (out-Expr of) ≡ false
primary_no_as (g.name_expr spelled at e) = ap is_as_at (expr.outs-Name _ _)
primary_no_as (g.this_expr spelled at) = ap is_as_at (expr.outs-This _)
primary_no_as (g.number_expr spelled at) = ap is_as_at (expr.outs-Number _ _)
primary_no_as (g.string_expr spelled at) = ap is_as_at (expr.outs-String _ _)
primary_no_as (g.template_expr spelled at) = ap is_as_at (expr.outs-Template _ _ _)
primary_no_as (g.spans_expr spelled at q) = ap is_as_at (expr.outs-Template _ _ _)
primary_no_as (g.boolean_expr spelled at e) = ap is_as_at (expr.outs-Boolean _ _)
primary_no_as (g.null_expr spelled at) = ap is_as_at (expr.outs-Null _)
primary_no_as (g.undefined_expr spelled at) = ap is_as_at (expr.outs-Undefined _)
primary_no_as (g.parens_expr a b q) = ap is_as_at (expr.outs-Parens _ _)
primary_no_as (g.array_expr a b q) = ap is_as_at (expr.outs-Array _ _)
primary_no_as (g.object_expr a b q) = ap is_as_at (expr.outs-Object _ _)
primary_no_as (g.new_expr a b spelled at i j e q) = ap is_as_at (expr.outs-New _ _ _)

pub chain_no_as : {o : Bool} {xs : List Sym} {of : Expr} {d : ℕ} → g.IsChain o xs of d → is_as_at (out-Expr of) ≡ false
chain_no_as (g.primary_expr q) = primary_no_as q
chain_no_as (g.member_expr kind dot spelled at q t) = ap is_as_at (expr.outs-Member _ _ _)
chain_no_as (g.index_expr a b p q) = ap is_as_at (expr.outs-Index _ _ _)
chain_no_as (g.call_expr a b p q) = ap is_as_at (expr.outs-Call _ _ _ _)
