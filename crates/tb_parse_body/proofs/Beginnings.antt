-- What expressions and statements begin with.
use Rattle.std.proofs.Common.{◌≡◌, ℕ, Bool, true, false, List, [], ◌∷◌, ◌++◌, refl, subst, sym}
use Rattle.std.specs.Prelude.{◌||◌, Option, Some}
use Rattle.tb_tree.specs.declared.marks.Mark.{Mark as MarkKind}
use Rattle.tb_tree.specs.declared.marks.Mark.TheVariants as m
use Rattle.tb_tree.specs.declared.words.Word.{Word}
use Rattle.tb_tree.specs.declared.words.Word.TheVariants as w
use Rattle.tb_tree.specs.declared.words.Class.TheVariants as c
use Rattle.tb_tree.specs.declared.words.Template.TheVariants as part
use Rattle.tb_tree.specs.declared.exprs.Expr.{Expr}
use Rattle.tb_tree.specs.declared.exprs.UnaryOperator.{UnaryOperator}
use Rattle.tb_tree.specs.declared.exprs.UpdateOperator.{UpdateOperator}
use Rattle.tb_tree.specs.Sym.{Sym, Mark, Lex}
use Rattle.tb_tree.specs.Words.{is_name}
use Rattle.tb_tree.specs.Types.{truth_of}
use Rattle.tb_tree.specs.Longest.{Starts}
use Rattle.tb_tree.specs.Exprs as g
use Rattle.tb_parse_body.specs.Rules.{begins_other, is_stmt_word, is_end}

abbrev pub word_begins : Word → Bool
word_begins w.This = true
word_begins w.Null = true
word_begins w.Undefined = true
word_begins w.True = true
word_begins w.False = true
word_begins w.New = true
word_begins w.Typeof = true
word_begins k = is_name k

-- an expression may begin with it
abbrev pub begins_expr : Sym → Bool
begins_expr (Mark m.OpenParen at) = true
begins_expr (Mark m.OpenBracket at) = true
begins_expr (Mark m.OpenBrace at) = true
begins_expr (Mark m.Not at) = true
begins_expr (Mark m.Minus at) = true
begins_expr (Mark m.Plus at) = true
begins_expr (Mark m.PlusPlus at) = true
begins_expr (Mark m.MinusMinus at) = true
begins_expr (Mark _ at) = false
begins_expr (Lex (c.Word k) spelled at) = word_begins k
begins_expr (Lex c.Number spelled at) = true
begins_expr (Lex c.String spelled at) = true
begins_expr (Lex (c.Template part.Whole) spelled at) = true
begins_expr (Lex (c.Template part.Head) spelled at) = true
begins_expr _ = false

abbrev pub BeginsExpr : Sym → Type 0
BeginsExpr s = begins_expr s ≡ true

name_begins : (k : Word) → is_name k ≡ true → word_begins k ≡ true
name_begins w.This e = refl
name_begins w.Null e = refl
name_begins w.Undefined e = refl
name_begins w.True e = refl
name_begins w.False e = refl
name_begins w.New e = refl
name_begins w.Typeof e = refl
name_begins _ e = e

truth_begins : (k : Word) (of : Bool) → truth_of k ≡ Some of → word_begins k ≡ true
truth_begins w.True of e = refl
truth_begins w.False of e = refl
truth_begins _ of e = cc

unary_begins : (s : Sym) (operator : UnaryOperator) → g.unary_of s ≡ Some operator → begins_expr s ≡ true
unary_begins (Mark m.Not at) operator e = refl
unary_begins (Mark m.Minus at) operator e = refl
unary_begins (Mark m.Plus at) operator e = refl
unary_begins (Lex (c.Word w.Typeof) spelled at) operator e = refl
unary_begins _ operator e = cc

update_begins : (s : Sym) (operator : UpdateOperator) → g.update_of s ≡ Some operator → begins_expr s ≡ true
update_begins (Mark m.PlusPlus at) operator e = refl
update_begins (Mark m.MinusMinus at) operator e = refl
update_begins _ operator e = cc

pub starts_more : (C : Sym → Type 0) (xs ys : List Sym) → Starts C xs → Starts C (xs ++ ys)
starts_more C [] ys n = absurd n
starts_more C (s ∷ ss) ys n = n

mutual
  pub expr_starts : {typed : Bool} {xs : List Sym} {of : Expr} {d : ℕ} → g.IsExpr true typed xs of d → Starts BeginsExpr xs
  expr_starts (g.arrow_expr o p a q r b) = refl
  expr_starts (g.short_arrow_expr {kind = kind} s at a n b) = name_begins kind n
  expr_starts (g.assign_expr s {xs = xs} {ys = ys} p t o q) = starts_more BeginsExpr xs (s ∷ ys) (chain_starts p)
  expr_starts (g.cond_expr q) = cond_starts q

  cond_starts : {typed : Bool} {xs : List Sym} {of : Expr} {d : ℕ} → g.IsCond true typed xs of d → Starts BeginsExpr xs
  cond_starts (g.or_expr q) = or_starts q
  cond_starts (g.conditional_expr a b {xs = xs} {ys = ys} {zs = zs} p q r) =
      starts_more BeginsExpr (xs ++ (Mark m.Question a ∷ ys)) (Mark m.Colon b ∷ zs) (starts_more BeginsExpr xs (Mark m.Question a ∷ ys) (or_starts p))

  or_starts : {xs : List Sym} {of : Expr} {d : ℕ} → g.IsOr true xs of d → Starts BeginsExpr xs
  or_starts (g.level_expr q) = level_starts q
  or_starts (g.nullish_expr q) = nullish_starts q

  nullish_starts : {xs : List Sym} {of : Expr} {d : ℕ} → g.IsNullish true xs of d → Starts BeginsExpr xs
  nullish_starts (g.first_nullish at {xs = xs} {ys = ys} p q) = starts_more BeginsExpr xs (Mark m.Nullish at ∷ ys) (level_starts p)
  nullish_starts (g.next_nullish at {xs = xs} {ys = ys} p q) = starts_more BeginsExpr xs (Mark m.Nullish at ∷ ys) (nullish_starts p)

  level_starts : {l : ℕ} {xs : List Sym} {of : Expr} {d : ℕ} → g.IsLevel true l xs of d → Starts BeginsExpr xs
  level_starts (g.unary_operand e q) = unary_starts q
  level_starts (g.next_level q) = level_starts q
  level_starts (g.joined_expr s {xs = xs} {ys = ys} p e i q) = starts_more BeginsExpr xs (s ∷ ys) (level_starts p)
  level_starts (g.as_expr spelled at {xs = xs} {ys = ys} e p q h) = starts_more BeginsExpr xs (Lex (c.Word w.As) spelled at ∷ ys) (level_starts p)

  unary_starts : {xs : List Sym} {of : Expr} {d : ℕ} → g.IsUnary true xs of d → Starts BeginsExpr xs
  unary_starts (g.prefix_expr s {operator = operator} e q) = unary_begins s operator e
  unary_starts (g.update_before s {operator = operator} e q t) = update_begins s operator e
  unary_starts (g.update_after s {xs = xs} q t e) = starts_more BeginsExpr xs (s ∷ []) (chain_starts q)
  unary_starts (g.chain_expr q) = chain_starts q

  chain_starts : {xs : List Sym} {of : Expr} {d : ℕ} → g.IsChain true xs of d → Starts BeginsExpr xs
  chain_starts (g.primary_expr q) = primary_starts q
  chain_starts (g.member_expr kind dot spelled at {xs = xs} q n) = starts_more BeginsExpr xs (Mark m.Dot dot ∷ Lex (c.Word kind) spelled at ∷ []) (chain_starts q)
  chain_starts (g.index_expr o p {xs = xs} {ys = ys} q r) =
      starts_more BeginsExpr (xs ++ (Mark m.OpenBracket o ∷ ys)) (Mark m.CloseBracket p ∷ []) (starts_more BeginsExpr xs (Mark m.OpenBracket o ∷ ys) (chain_starts q))
  chain_starts (g.call_expr o p {xs = xs} {ys = ys} q r) =
      starts_more BeginsExpr (xs ++ (Mark m.OpenParen o ∷ ys)) (Mark m.CloseParen p ∷ []) (starts_more BeginsExpr xs (Mark m.OpenParen o ∷ ys) (chain_starts q))

  primary_starts : {xs : List Sym} {of : Expr} {d : ℕ} → g.IsPrimary true xs of d → Starts BeginsExpr xs
  primary_starts (g.name_expr {kind = kind} spelled at e) = name_begins kind e
  primary_starts (g.this_expr spelled at) = refl
  primary_starts (g.number_expr spelled at) = refl
  primary_starts (g.string_expr spelled at) = refl
  primary_starts (g.template_expr spelled at) = refl
  primary_starts (g.spans_expr spelled at q) = refl
  primary_starts (g.boolean_expr {kind = kind} {of = of} spelled at e) = truth_begins kind of e
  primary_starts (g.null_expr spelled at) = refl
  primary_starts (g.undefined_expr spelled at) = refl
  primary_starts (g.parens_expr o p q) = refl
  primary_starts (g.array_expr o p q) = refl
  primary_starts (g.object_expr o p q) = refl
  primary_starts (g.new_expr ns n spelled at o p e q) = refl

-- the first symbol of an expression
pub first_of : (xs : List Sym) → Starts BeginsExpr xs → (z : Sym) × (b : List Sym) × (xs ≡ z ∷ b) × (begins_expr z ≡ true)
first_of [] n = absurd n
first_of (s ∷ ss) n = (s, ss, refl, n)

pub expr_first : {typed : Bool} {xs : List Sym} {of : Expr} {d : ℕ} → g.IsExpr true typed xs of d → (z : Sym) × (b : List Sym) × (xs ≡ z ∷ b) × (begins_expr z ≡ true)
expr_first {xs = xs} q = first_of xs (expr_starts q)

word_is_other : (k : Word) → word_begins k ≡ true → is_stmt_word k ≡ false
word_is_other w.If e = cc
word_is_other w.While e = cc
word_is_other w.Do e = cc
word_is_other w.For e = cc
word_is_other w.Return e = cc
word_is_other w.Break e = cc
word_is_other w.Continue e = cc
word_is_other w.Throw e = cc
word_is_other w.Switch e = cc
word_is_other _ e = refl

-- no other statement begins as an expression, but for `{`
pub expr_not_other : (z : Sym) (b : List Sym) → begins_expr z ≡ true → g.begins_with_brace (z ∷ b) ≡ false → begins_other z ≡ false
expr_not_other (Mark m.OpenBrace at) b e i = cc
expr_not_other (Mark m.Semicolon at) b e i = cc
expr_not_other (Mark _ at) b e i = refl
expr_not_other (Lex (c.Word k) spelled at) b e i = word_is_other k e
expr_not_other (Lex _ spelled at) b e i = refl

pub no_brace : (z : Sym) (b : List Sym) → begins_other z ≡ false → g.begins_with_brace (z ∷ b) ≡ false
no_brace (Mark m.OpenBrace at) b e = cc
no_brace (Mark _ at) b e = refl
no_brace (Lex k spelled at) b e = refl

-- no expression begins with what ends one
pub end_no_start : (z : Sym) → is_end z ≡ true → begins_expr z ≡ true → ⊥
end_no_start (Mark m.CloseParen at) e i = cc
end_no_start (Mark m.CloseBracket at) e i = cc
end_no_start (Mark m.CloseBrace at) e i = cc
end_no_start (Mark m.Comma at) e i = cc
end_no_start (Mark m.Semicolon at) e i = cc
end_no_start (Lex (c.Template part.Middle) spelled at) e i = cc
end_no_start (Lex (c.Template part.Tail) spelled at) e i = cc
end_no_start _ e i = let n : false ≡ true = e in cc
