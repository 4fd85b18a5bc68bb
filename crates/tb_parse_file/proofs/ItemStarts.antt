-- What items begin with: an item has a symbol, and which item begins with a word.
use Rattle.std.proofs.Common.{◌≡◌, ℕ, ◌≤◌, Bool, true, false, List, [], ◌∷◌, ◌++◌, length, refl, ap, ◌∙◌, inl, inr, arith}
use Rattle.std.specs.Prelude.{◌⊎◌, Some}
use Rattle.tb_tree.specs.declared.marks.Mark.TheVariants as m
use Rattle.tb_tree.specs.declared.words.Word.{Word}
use Rattle.tb_tree.specs.declared.words.Word.TheVariants as w
use Rattle.tb_tree.specs.declared.words.Class.TheVariants as c
use Rattle.tb_tree.specs.declared.words.Template.TheVariants as part
use Rattle.tb_tree.specs.declared.exprs.Expr.{Expr}
use Rattle.tb_tree.specs.declared.exprs.UnaryOperator.{UnaryOperator}
use Rattle.tb_tree.specs.declared.exprs.UpdateOperator.{UpdateOperator}
use Rattle.tb_tree.specs.declared.exprs.VarKind.{VarKind}
use Rattle.tb_tree.specs.declared.exprs.Stmt.{Stmt}
use Rattle.tb_tree.specs.declared.items.Declaration.{Declaration}
use Rattle.tb_tree.specs.declared.items.Item.{Item}
use Rattle.tb_tree.specs.Sym.{Sym, Mark, Lex}
use Rattle.tb_tree.specs.Words.{is_name}
use Rattle.tb_tree.specs.Shapes.{word, unworded, worded}
use Rattle.tb_tree.specs.Types.{truth_of}
use Rattle.tb_tree.specs.Longest.{Starts}
use Rattle.tb_tree.specs.Exprs as g
use Rattle.tb_tree.specs.Items as i

-- ---- what an expression begins with

abbrev pub word_begins : Word → Bool
word_begins w.This = true
word_begins w.Null = true
word_begins w.Undefined = true
word_begins w.True = true
word_begins w.False = true
word_begins w.New = true
word_begins w.Typeof = true
word_begins k = is_name k

abbrev pub begins_expr : Sym → Bool
begins_expr (Mark m.OpenParen at) = true
begins_expr (Mark m.OpenBracket at) = true
begins_expr (Mark m.OpenBrace at) = true
begins_expr (Mark m.Not at) = true
begins_expr (Mark m.Minus at) = true
begins_expr (Mark m.Plus at) = true
begins_expr (Mark m.PlusPlus at) = true
begins_expr (Mark m.MinusMinus at) = true
begins_expr (Mark _ at) = false
begins_expr (Lex (c.Word k) spelled at) = word_begins k
begins_expr (Lex c.Number spelled at) = true
begins_expr (Lex c.String spelled at) = true
begins_expr (Lex (c.Template part.Whole) spelled at) = true
begins_expr (Lex (c.Template part.Head) spelled at) = true
begins_expr _ = false

abbrev BeginsExpr : Sym → Type 0
BeginsExpr s = begins_expr s ≡ true

name_begins : (k : Word) → is_name k ≡ true → word_begins k ≡ true
name_begins w.This e = refl
name_begins w.Null e = refl
name_begins w.Undefined e = refl
name_begins w.True e = refl
name_begins w.False e = refl
name_begins w.New e = refl
name_begins w.Typeof e = refl
name_begins _ e = e

truth_begins : (k : Word) (of : Bool) → truth_of k ≡ Some of → word_begins k ≡ true
truth_begins w.True of e = refl
truth_begins w.False of e = refl
truth_begins _ of e = cc

unary_begins : (s : Sym) (operator : UnaryOperator) → g.unary_of s ≡ Some operator → begins_expr s ≡ true
unary_begins (Mark m.Not at) operator e = refl
unary_begins (Mark m.Minus at) operator e = refl
unary_begins (Mark m.Plus at) operator e = refl
unary_begins (Lex (c.Word w.Typeof) spelled at) operator e = refl
unary_begins _ operator e = cc

update_begins : (s : Sym) (operator : UpdateOperator) → g.update_of s ≡ Some operator → begins_expr s ≡ true
update_begins (Mark m.PlusPlus at) operator e = refl
update_begins (Mark m.MinusMinus at) operator e = refl
update_begins _ operator e = cc

starts_more : (xs ys : List Sym) → Starts BeginsExpr xs → Starts BeginsExpr (xs ++ ys)
starts_more [] ys n = absurd n
starts_more (s ∷ ss) ys n = n

module _ (ordered : Bool) where
  primary_starts : {xs : List Sym} {of : Expr} {d : ℕ} → g.IsPrimary ordered xs of d → Starts BeginsExpr xs
  primary_starts (g.name_expr {kind = kind} spelled at e) = name_begins kind e
  primary_starts (g.this_expr spelled at) = refl
  primary_starts (g.number_expr spelled at) = refl
  primary_starts (g.string_expr spelled at) = refl
  primary_starts (g.template_expr spelled at) = refl
  primary_starts (g.spans_expr spelled at q) = refl
  primary_starts (g.boolean_expr {kind = kind} {of = of} spelled at e) = truth_begins kind of e
  primary_starts (g.null_expr spelled at) = refl
  primary_starts (g.undefined_expr spelled at) = refl
  primary_starts (g.parens_expr o p q) = refl
  primary_starts (g.array_expr o p q) = refl
  primary_starts (g.object_expr o p q) = refl
  primary_starts (g.new_expr ns n spelled at o p e q) = refl

  chain_starts : {xs : List Sym} {of : Expr} {d : ℕ} → g.IsChain ordered xs of d → Starts BeginsExpr xs
  chain_starts (g.primary_expr q) = primary_starts q
  chain_starts (g.member_expr kind dot spelled at {xs = xs} q n) = starts_more xs (Mark m.Dot dot ∷ Lex (c.Word kind) spelled at ∷ []) (chain_starts q)
  chain_starts (g.index_expr o p {xs = xs} {ys = ys} q r) = starts_more (xs ++ (Mark m.OpenBracket o ∷ ys)) (Mark m.CloseBracket p ∷ []) (starts_more xs (Mark m.OpenBracket o ∷ ys) (chain_starts q))
  chain_starts (g.call_expr o p {xs = xs} {ys = ys} q r) = starts_more (xs ++ (Mark m.OpenParen o ∷ ys)) (Mark m.CloseParen p ∷ []) (starts_more xs (Mark m.OpenParen o ∷ ys) (chain_starts q))

  unary_starts : {xs : List Sym} {of : Expr} {d : ℕ} → g.IsUnary ordered xs of d → Starts BeginsExpr xs
  unary_starts (g.prefix_expr s {operator = operator} e q) = unary_begins s operator e
  unary_starts (g.update_before s {operator = operator} e q t) = update_begins s operator e
  unary_starts (g.update_after s {xs = xs} q t e) = starts_more xs (s ∷ []) (chain_starts q)
  unary_starts (g.chain_expr q) = chain_starts q

  level_starts : {l : ℕ} {xs : List Sym} {of : Expr} {d : ℕ} → g.IsLevel ordered l xs of d → Starts BeginsExpr xs
  level_starts (g.unary_operand e q) = unary_starts q
  level_starts (g.next_level q) = level_starts q
  level_starts (g.joined_expr s {xs = xs} {ys = ys} p e i q) = starts_more xs (s ∷ ys) (level_starts p)
  level_starts (g.as_expr spelled at {xs = xs} {ys = ys} e p q h) = starts_more xs (word w.As spelled at ∷ ys) (level_starts p)

  nullish_starts : {xs : List Sym} {of : Expr} {d : ℕ} → g.IsNullish ordered xs of d → Starts BeginsExpr xs
  nullish_starts (g.first_nullish at {xs = xs} {ys = ys} p q) = starts_more xs (Mark m.Nullish at ∷ ys) (level_starts p)
  nullish_starts (g.next_nullish at {xs = xs} {ys = ys} p q) = starts_more xs (Mark m.Nullish at ∷ ys) (nullish_starts p)

  or_starts : {xs : List Sym} {of : Expr} {d : ℕ} → g.IsOr ordered xs of d → Starts BeginsExpr xs
  or_starts (g.level_expr q) = level_starts q
  or_starts (g.nullish_expr q) = nullish_starts q

  cond_starts : {typed : Bool} {xs : List Sym} {of : Expr} {d : ℕ} → g.IsCond ordered typed xs of d → Starts BeginsExpr xs
  cond_starts (g.or_expr q) = or_starts q
  cond_starts (g.conditional_expr a b {xs = xs} {ys = ys} {zs = zs} p q r) =
      starts_more (xs ++ (Mark m.Question a ∷ ys)) (Mark m.Colon b ∷ zs) (starts_more xs (Mark m.Question a ∷ ys) (or_starts p))

  pub expr_starts : {typed : Bool} {xs : List Sym} {of : Expr} {d : ℕ} → g.IsExpr ordered typed xs of d → Starts BeginsExpr xs
  expr_starts (g.arrow_expr o p a q r b) = refl
  expr_starts (g.short_arrow_expr {kind = kind} s at a n b) = name_begins kind n
  expr_starts (g.assign_expr s {xs = xs} {ys = ys} p t o q) = starts_more xs (s ∷ ys) (chain_starts p)
  expr_starts (g.cond_expr q) = cond_starts q

-- ---- which item begins with a symbol

-- Import; `export` and more; Var; Function; Class; Interface; what begins with the word `type`; what no item begins with; another
-- statement
abbrev pub word_opens : Word → ℕ
word_opens w.Import = 0
word_opens w.Export = 1
word_opens w.Const = 2
word_opens w.Let = 2
word_opens w.Function = 3
word_opens w.Class = 4
word_opens w.Interface = 5
word_opens w.Type = 6
word_opens w.Else = 8
word_opens _ = 7

abbrev pub opens : Sym → ℕ
opens (Lex (c.Word k) spelled at) = word_opens k
opens _ = 7

module _ {ordered : Bool} where
  -- which declaration, and which item, a derivation is of
  abbrev pub declaration_tag : {a : List Sym} {of : Declaration} {d : ℕ} → i.IsDeclaration ordered a of d → ℕ
  declaration_tag (i.var_declaration q) = 2
  declaration_tag (i.function_declaration q) = 3
  declaration_tag (i.class_declaration q) = 4
  declaration_tag (i.interface_declaration q) = 5
  declaration_tag (i.alias_declaration q) = 6

  abbrev pub item_tag : {a : List Sym} {of : Item} {d : ℕ} → i.IsItem ordered a of d → ℕ
  item_tag (i.import_item q) = 0
  item_tag (i.export_list_item q) = 1
  item_tag (i.declaration_item unworded q) = declaration_tag q
  item_tag (i.declaration_item (worded s at) q) = 1
  item_tag (i.stmt_item q) = 7

kind_opens : (k : Word) (v : VarKind) → g.kind_of k ≡ Some v → word_opens k ≡ 2
kind_opens w.Const v e = refl
kind_opens w.Let v e = refl
kind_opens _ v e = cc

-- a statement begins with `type` or otherwise than a declaration does
abbrev pub IsStmtStart : ℕ → Type 0
IsStmtStart n = (n ≡ 6) ⊎ (n ≡ 7)

word_stmt : (k : Word) → word_begins k ≡ true → IsStmtStart (word_opens k)
word_stmt w.Import e = cc
word_stmt w.Export e = cc
word_stmt w.Const e = cc
word_stmt w.Let e = cc
word_stmt w.Function e = cc
word_stmt w.Class e = cc
word_stmt w.Interface e = cc
word_stmt w.Else e = cc
word_stmt w.Type e = inl refl
word_stmt _ e = inr refl

expr_stmt_start : (z : Sym) → begins_expr z ≡ true → IsStmtStart (opens z)
expr_stmt_start (Mark k at) e = inr refl
expr_stmt_start (Lex (c.Word k) spelled at) e = word_stmt k e
expr_stmt_start (Lex _ spelled at) e = inr refl

-- the first symbol of a list
abbrev pub Begins : (Sym → Type 0) → List Sym → Type 0
Begins C a = (z : Sym) × (b : List Sym) × (a ≡ z ∷ b) × C z

begins_more : {C : Sym → Type 0} {xs : List Sym} (ys : List Sym) → Begins C xs → Begins C (xs ++ ys)
begins_more ys p = (p.0, p.1 ++ ys, ap (λ v. v ++ ys) p.2, p.3)

begins_first : (xs : List Sym) → Starts BeginsExpr xs → Begins BeginsExpr xs
begins_first [] n = absurd n
begins_first (s ∷ ss) n = (s, ss, refl, n)

module _ {ordered : Bool} where
  pub expr_first : {typed : Bool} {xs : List Sym} {of : Expr} {d : ℕ} → g.IsExpr ordered typed xs of d → Begins BeginsExpr xs
  expr_first {xs = xs} q = begins_first xs (expr_starts ordered q)

  pub stmt_first : {around : g.Around} {closed : Bool} {a : List Sym} {of : Stmt} {d : ℕ} → g.IsStmt ordered around closed a of d → Begins (λ z. IsStmtStart (opens z)) a
  stmt_first (g.block_stmt (g.block o p q)) = (Mark m.OpenBrace o, _, refl, inr refl)
  stmt_first (g.if_stmt s at o p q r) = (word w.If s at, _, refl, inr refl)
  stmt_first (g.if_else_stmt s at o p es ea q r f) = (word w.If s at, _, refl, inr refl)
  stmt_first (g.while_stmt s at o p q r) = (word w.While s at, _, refl, inr refl)
  stmt_first (g.do_stmt s at ws wa o p semicolon q r) = (word w.Do s at, _, refl, inr refl)
  stmt_first (g.for_stmt s at o semicolon p q r f b) = (word w.For s at, _, refl, inr refl)
  stmt_first (g.for_of_stmt s at o ks ka ns na os oa p k n q r) = (word w.For s at, _, refl, inr refl)
  stmt_first (g.return_stmt s at semicolon h q) = (word w.Return s at, _, refl, inr refl)
  stmt_first (g.break_stmt s at semicolon h) = (word w.Break s at, _, refl, inr refl)
  stmt_first (g.continue_stmt s at semicolon h) = (word w.Continue s at, _, refl, inr refl)
  stmt_first (g.throw_stmt s at semicolon q) = (word w.Throw s at, _, refl, inr refl)
  stmt_first (g.switch_stmt s at o p ob pb q r) = (word w.Switch s at, _, refl, inr refl)
  stmt_first (g.expr_stmt semicolon b q) =
      let p = expr_first q in begins_more (Mark m.Semicolon semicolon ∷ []) (p.0, p.1, p.2, expr_stmt_start p.0 p.3)
  stmt_first (g.empty_stmt at) = (Mark m.Semicolon at, _, refl, inr refl)

  pub declaration_first : {a : List Sym} {of : Declaration} {d : ℕ} (q : i.IsDeclaration ordered a of d) → Begins (λ z. opens z ≡ declaration_tag q) a
  declaration_first (i.var_declaration (g.var {word_kind = k} {kind = v} s at semicolon e q)) = (word k s at, _, refl, kind_opens k v e)
  declaration_first (i.function_declaration (g.function fs fa s at o p n q r b)) = (word w.Function fs fa, _, refl, refl)
  declaration_first (i.class_declaration (i.class cs ca s at o p n q r)) = (word w.Class cs ca, _, refl, refl)
  declaration_first (i.interface_declaration (i.interface is ia s at o p n q r h)) = (word w.Interface is ia, _, refl, refl)
  declaration_first (i.alias_declaration (i.alias ts ta s at assign semicolon n q h)) = (word w.Type ts ta, _, refl, refl)

  -- Items of different kinds begin differently, but that an alias and a statement may both begin with `type`.
  pub item_first : {a : List Sym} {of : Item} {d : ℕ} (q : i.IsItem ordered a of d) → Begins (λ z. (opens z ≡ item_tag q) ⊎ ((opens z ≡ 6) × (item_tag q ≡ 7))) a
  item_first (i.import_item (i.import_list s at semicolon q r f)) = (word w.Import s at, _, refl, inl refl)
  item_first (i.import_item (i.import_bare s at fs fa semicolon)) = (word w.Import s at, _, refl, inl refl)
  item_first (i.export_list_item (i.export_list s at semicolon q r)) = (word w.Export s at, _, refl, inl refl)
  item_first (i.export_list_item (i.export_from s at semicolon q r f)) = (word w.Export s at, _, refl, inl refl)
  item_first (i.declaration_item unworded q) = let p = declaration_first q in (p.0, p.1, p.2, inl p.3)
  item_first (i.declaration_item (worded s at) q) = (word w.Export s at, _, refl, inl refl)
  item_first (i.stmt_item q) = let p = stmt_first q in (p.0, p.1, p.2, elim p.3 [ inl e ↦ inr (e, refl) | inr e ↦ inl e ])

  -- the same where the item is the front of a list that begins with a symbol
  pub item_at : {a : List Sym} {of : Item} {d : ℕ} (z : Sym) (b us : List Sym) (q : i.IsItem ordered a of d) → z ∷ b ≡ a ++ us → (opens z ≡ item_tag q) ⊎ ((opens z ≡ 6) × (item_tag q ≡ 7))
  item_at z b us q e =
      let p = item_first q in
      let whole : z ∷ b ≡ p.0 ∷ (p.1 ++ us) = e ∙ ap (λ v. v ++ us) p.2 in
      let same : z ≡ p.0 = cc in
      elim p.3 [ inl o ↦ inl (ap opens same ∙ o) | inr o ↦ inr (ap opens same ∙ o.0, o.1) ]

  -- no item is empty
  pub item_long : {a : List Sym} {of : Item} {depth : ℕ} → i.IsItem ordered a of depth → 1 ≤ length a
  item_long q = let p = item_first q in omega (arith, ap length p.2)

  -- no item begins with `else`
  pub item_no_else : {a : List Sym} {of : Item} {depth : ℕ} (s : List ℕ) (at : ℕ) (vs zs : List Sym) → i.IsItem ordered a of depth → word w.Else s at ∷ vs ≡ a ++ zs → ⊥
  item_no_else s at vs zs q e = elim (item_at (word w.Else s at) vs zs q e) [ inl o ↦ omega (arith, o, small q) | inr o ↦ omega (arith, o.0) ]
    where
      declaration_small : {a : List Sym} {of : Declaration} {d : ℕ} (q : i.IsDeclaration ordered a of d) → declaration_tag q ≤ 7
      declaration_small (i.var_declaration q) = omega arith
      declaration_small (i.function_declaration q) = omega arith
      declaration_small (i.class_declaration q) = omega arith
      declaration_small (i.interface_declaration q) = omega arith
      declaration_small (i.alias_declaration q) = omega arith

      small : {a : List Sym} {of : Item} {d : ℕ} (q : i.IsItem ordered a of d) → item_tag q ≤ 7
      small (i.import_item q) = omega arith
      small (i.export_list_item q) = omega arith
      small (i.declaration_item unworded q) = declaration_small q
      small (i.declaration_item (worded s at) q) = omega arith
      small (i.stmt_item q) = omega arith
