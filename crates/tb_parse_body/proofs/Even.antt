-- What the grammar derives is balanced in brackets, and a bracket that opens in it is closed at one place.
use Rattle.std.proofs.Common.{◌≡◌, ℕ, zero, suc, Bool, true, List, [], ◌∷◌, ◌++◌, refl, sym, ◌∙◌, ap, subst, append_assoc}
use Rattle.std.specs.Prelude.{Option, Some}
use Rattle.std.proofs.lemmas.List.{append_cancel_right, same_from_push}
use Rattle.tb_tree.specs.declared.marks.Mark.{Mark as MarkKind}
use Rattle.tb_tree.specs.declared.marks.Mark.TheVariants as m
use Rattle.tb_tree.specs.declared.types.Key.{Key}
use Rattle.tb_tree.specs.declared.types.TypeExpr.{TypeExpr}
use Rattle.tb_tree.specs.declared.types.TypeParam.{TypeParam}
use Rattle.tb_tree.specs.declared.types.TypeMember.{TypeMember}
use Rattle.tb_tree.specs.declared.exprs.UnaryOperator.{UnaryOperator}
use Rattle.tb_tree.specs.declared.exprs.UpdateOperator.{UpdateOperator}
use Rattle.tb_tree.specs.declared.exprs.BinaryOperator.{BinaryOperator}
use Rattle.tb_tree.specs.declared.exprs.AssignOperator.{AssignOperator}
use Rattle.tb_tree.specs.declared.exprs.VarKind.{VarKind}
use Rattle.tb_tree.specs.declared.exprs.Expr.{Expr}
use Rattle.tb_tree.specs.declared.exprs.TemplateSpan.{TemplateSpan}
use Rattle.tb_tree.specs.declared.exprs.Prop.{Prop}
use Rattle.tb_tree.specs.declared.exprs.ArrowBody.{ArrowBody}
use Rattle.tb_tree.specs.declared.exprs.Param.{Param}
use Rattle.tb_tree.specs.declared.exprs.Block.{Block}
use Rattle.tb_tree.specs.declared.exprs.BlockItem.{BlockItem}
use Rattle.tb_tree.specs.declared.exprs.Var.{Var}
use Rattle.tb_tree.specs.declared.exprs.Declarator.{Declarator}
use Rattle.tb_tree.specs.declared.exprs.Function.{Function}
use Rattle.tb_tree.specs.declared.exprs.Stmt.{Stmt}
use Rattle.tb_tree.specs.declared.exprs.ForStart.{ForStart}
use Rattle.tb_tree.specs.declared.exprs.Clause.{Clause}
use Rattle.tb_tree.specs.declared.words.Word.{Word}
use Rattle.tb_tree.specs.Sym.{Sym, Mark, Lex}
use Rattle.tb_tree.specs.Shapes.{IsMarked, unmarked, marked, IsWorded, unworded, worded, key_of}
use Rattle.tb_tree.specs.Types as t
use Rattle.tb_tree.specs.Exprs as g

-- ---- brackets

-- what a symbol is to the brackets
pub data Turn : Type 0 where
  Opens : Turn
  Closes : Turn
  Goes : Turn

abbrev pub turn_of : Sym → Turn
turn_of (Mark m.OpenBrace at) = Opens
turn_of (Mark m.OpenParen at) = Opens
turn_of (Mark m.OpenBracket at) = Opens
turn_of (Mark m.CloseBrace at) = Closes
turn_of (Mark m.CloseParen at) = Closes
turn_of (Mark m.CloseBracket at) = Closes
turn_of _ = Goes

-- balanced symbols
pub data Even : List Sym → Type 0 where
  even_nil : Even []
  even_one : {s : Sym} → turn_of s ≡ Goes → Even (s ∷ [])
  even_group : (o p : Sym) {xs : List Sym} → turn_of o ≡ Opens → turn_of p ≡ Closes → Even xs → Even (o ∷ xs ++ p ∷ [])
  even_append : {xs ys : List Sym} → Even xs → Even ys → Even (xs ++ ys)

pub even_by : {xs ys : List Sym} → xs ≡ ys → Even ys → Even xs
even_by e q = subst (λ v. Even v) (sym e) q

-- a symbol that is no bracket, and more
pub even_cons : {s : Sym} {xs : List Sym} → turn_of s ≡ Goes → Even xs → Even (s ∷ xs)
even_cons e q = even_append (even_one e) q

-- a group, and more
pub grouped : (o p : Sym) {xs ys : List Sym} → turn_of o ≡ Opens → turn_of p ≡ Closes → Even xs → Even ys → Even (o ∷ xs ++ p ∷ ys)
grouped o p {xs = xs} {ys = ys} e i q r = even_by (sym (append_assoc (o ∷ xs) (p ∷ []) ys)) (even_append (even_group o p e i q) r)

-- balanced symbols, a symbol that is no bracket, and more
pub even_between : (s : Sym) {xs ys : List Sym} → turn_of s ≡ Goes → Even xs → Even ys → Even (xs ++ s ∷ ys)
even_between s e q r = even_append q (even_cons e r)

-- balanced symbols, a group, and more
pub even_then_group : (o p : Sym) {xs ys zs : List Sym} → turn_of o ≡ Opens → turn_of p ≡ Closes → Even xs → Even ys → Even zs → Even (xs ++ o ∷ ys ++ p ∷ zs)
even_then_group o p {xs = xs} {ys = ys} {zs = zs} e i q r s = even_by (append_assoc xs (o ∷ ys) (p ∷ zs)) (even_append q (grouped o p e i r s))

-- ---- what follows the closing bracket

after : Turn → ℕ → ℕ
after Opens n = suc n
after Closes zero = zero
after Closes (suc n) = n
after Goes n = n

-- what is left behind so many closing brackets that belong to none of the list's own
pub skip : ℕ → List Sym → List Sym
skip zero xs = xs
skip (suc n) [] = []
skip (suc n) (s ∷ ss) = skip (after (turn_of s) (suc n)) ss

skip_open : (n : ℕ) (s : Sym) (xs : List Sym) → turn_of s ≡ Opens → skip (suc n) (s ∷ xs) ≡ skip (suc (suc n)) xs
unfolding skip after
skip_open n s xs e = ap (λ (t : Turn). skip (after t (suc n)) xs) e

pub skip_close : (n : ℕ) (s : Sym) (xs : List Sym) → turn_of s ≡ Closes → skip (suc n) (s ∷ xs) ≡ skip n xs
unfolding skip after
skip_close n s xs e = ap (λ (t : Turn). skip (after t (suc n)) xs) e

skip_on : (n : ℕ) (s : Sym) (xs : List Sym) → turn_of s ≡ Goes → skip (suc n) (s ∷ xs) ≡ skip (suc n) xs
unfolding skip after
skip_on n s xs e = ap (λ (t : Turn). skip (after t (suc n)) xs) e

-- balanced symbols are passed over
pub skip_even : {xs : List Sym} (n : ℕ) (zs : List Sym) → Even xs → skip (suc n) (xs ++ zs) ≡ skip (suc n) zs
skip_even n zs even_nil = refl
skip_even n zs (even_one {s = s} e) = skip_on n s zs e
skip_even n zs (even_group o p {xs = xs} e i q) =
    ap (λ v. skip (suc n) v) (append_assoc (o ∷ xs) (p ∷ []) zs)
    ∙ skip_open n o (xs ++ (p ∷ zs)) e
    ∙ skip_even (suc n) (p ∷ zs) q
    ∙ skip_close (suc n) p zs i
skip_even n zs (even_append {xs = xs} {ys = ys} q r) = ap (λ v. skip (suc n) v) (append_assoc xs ys zs) ∙ skip_even n (ys ++ zs) q ∙ skip_even n zs r

skip_none : (xs : List Sym) → skip 0 xs ≡ xs
unfolding skip
skip_none xs = refl

-- what stands behind the bracket that closes balanced symbols
pub closed_left : {xs : List Sym} (p : Sym) (zs : List Sym) → Even xs → turn_of p ≡ Closes → skip 1 (xs ++ (p ∷ zs)) ≡ zs
closed_left p zs q e = skip_even 0 (p ∷ zs) q ∙ skip_close 0 p zs e ∙ skip_none zs

-- balanced symbols of one list, each of which a closing bracket ends, are the same
pub group_exact : {xs ys : List Sym} (p q : Sym) (zs ws : List Sym) → Even xs → Even ys → turn_of p ≡ Closes → turn_of q ≡ Closes
    → xs ++ (p ∷ zs) ≡ ys ++ (q ∷ ws) → (xs ≡ ys) × (p ≡ q) × (zs ≡ ws)
group_exact {xs = xs} {ys = ys} p q zs ws d e i j w =
    let left : zs ≡ ws = sym (closed_left p zs d i) ∙ ap (λ v. skip 1 v) w ∙ closed_left q ws e j in
    let fronts : xs ++ (p ∷ []) ≡ ys ++ (q ∷ []) =
    append_cancel_right (xs ++ (p ∷ [])) (ys ++ (q ∷ [])) zs (append_assoc xs (p ∷ []) zs ∙ w ∙ ap (λ v. ys ++ (q ∷ v)) (sym left) ∙ sym (append_assoc ys (q ∷ []) zs)) in
    let both = same_from_push xs ys p q fronts in (both.0, both.1, left)

-- ---- the three pairs

pub braces_even : (o p : ℕ) {xs ys : List Sym} → Even xs → Even ys → Even (Mark m.OpenBrace o ∷ xs ++ Mark m.CloseBrace p ∷ ys)
braces_even o p q r = grouped (Mark m.OpenBrace o) (Mark m.CloseBrace p) refl refl q r

pub parens_even : (o p : ℕ) {xs ys : List Sym} → Even xs → Even ys → Even (Mark m.OpenParen o ∷ xs ++ Mark m.CloseParen p ∷ ys)
parens_even o p q r = grouped (Mark m.OpenParen o) (Mark m.CloseParen p) refl refl q r

pub brackets_even : (o p : ℕ) {xs ys : List Sym} → Even xs → Even ys → Even (Mark m.OpenBracket o ∷ xs ++ Mark m.CloseBracket p ∷ ys)
brackets_even o p q r = grouped (Mark m.OpenBracket o) (Mark m.CloseBracket p) refl refl q r

-- ---- single symbols

key_goes : (s : Sym) {key : Key} → key_of s ≡ Some key → turn_of s ≡ Goes
key_goes (Mark k at) e = cc
key_goes (Lex k s at) e = refl

unary_goes : (s : Sym) {o : UnaryOperator} → g.unary_of s ≡ Some o → turn_of s ≡ Goes
unary_goes (Mark m.OpenBrace at) e = cc
unary_goes (Mark m.OpenParen at) e = cc
unary_goes (Mark m.OpenBracket at) e = cc
unary_goes (Mark m.CloseBrace at) e = cc
unary_goes (Mark m.CloseParen at) e = cc
unary_goes (Mark m.CloseBracket at) e = cc
unary_goes _ e = refl

update_goes : (s : Sym) {o : UpdateOperator} → g.update_of s ≡ Some o → turn_of s ≡ Goes
update_goes (Mark m.OpenBrace at) e = cc
update_goes (Mark m.OpenParen at) e = cc
update_goes (Mark m.OpenBracket at) e = cc
update_goes (Mark m.CloseBrace at) e = cc
update_goes (Mark m.CloseParen at) e = cc
update_goes (Mark m.CloseBracket at) e = cc
update_goes _ e = refl

assign_goes : (s : Sym) {o : AssignOperator} → g.assign_of s ≡ Some o → turn_of s ≡ Goes
assign_goes (Mark m.OpenBrace at) e = cc
assign_goes (Mark m.OpenParen at) e = cc
assign_goes (Mark m.OpenBracket at) e = cc
assign_goes (Mark m.CloseBrace at) e = cc
assign_goes (Mark m.CloseParen at) e = cc
assign_goes (Mark m.CloseBracket at) e = cc
assign_goes _ e = refl

binary_goes : (s : Sym) {o : BinaryOperator} → g.binary_of s ≡ Some o → turn_of s ≡ Goes
binary_goes (Mark m.OpenBrace at) e = cc
binary_goes (Mark m.OpenParen at) e = cc
binary_goes (Mark m.OpenBracket at) e = cc
binary_goes (Mark m.CloseBrace at) e = cc
binary_goes (Mark m.CloseParen at) e = cc
binary_goes (Mark m.CloseBracket at) e = cc
binary_goes _ e = refl

ends_goes : (k : MarkKind) (at : ℕ) → t.ends_member k ≡ true → turn_of (Mark k at) ≡ Goes
ends_goes m.Semicolon at e = refl
ends_goes m.Comma at e = refl
ends_goes _ at e = cc

marked_even : {k : MarkKind} {xs : List Sym} {b : Bool} → ((at : ℕ) → turn_of (Mark k at) ≡ Goes) → IsMarked k xs b → Even xs
marked_even h unmarked = even_nil
marked_even h (marked at) = even_one (h at)

worded_even : {k : Word} {xs : List Sym} {b : Bool} → IsWorded k xs b → Even xs
worded_even unworded = even_nil
worded_even (worded s at) = even_one refl

-- ---- types

pub array_marks_even : {n : ℕ} {xs : List Sym} → t.IsBrackets n xs → Even xs
array_marks_even t.no_brackets = even_nil
array_marks_even (t.brackets o p q) = brackets_even o p even_nil (array_marks_even q)

mutual
  pub atom_even : {xs : List Sym} {of : TypeExpr} {own d : ℕ} → t.IsAtom xs of own d → Even xs
  atom_even (t.keyword_type s at q) = even_one refl
  atom_even (t.boolean_type s at q) = even_one refl
  atom_even (t.string_type s at) = even_one refl
  atom_even (t.integer_type s at q) = even_one refl
  atom_even (t.minus_type s at digits_at q) = even_cons refl (even_one refl)
  atom_even (t.written_type s at q) = even_one refl
  atom_even (t.parens_type o p q) = parens_even o p (type_even q) even_nil
  atom_even (t.object_type o p q) = braces_even o p (members_even q) even_nil

  pub element_even : {xs : List Sym} {of : TypeExpr} {own d : ℕ} → t.IsElement xs of own d → Even xs
  element_even (t.plain_element q b) = even_append (atom_even q) (array_marks_even b)
  element_even (t.read_only_element s at q b) = even_cons refl (even_append (atom_even q) (array_marks_even b))

  pub tail_even : {xs : List Sym} {of : List TypeExpr} {own d : ℕ} → t.IsTail xs of own d → Even xs
  tail_even t.no_tail = even_nil
  tail_even (t.more_tail bar q r) = even_cons refl (even_append (element_even q) (tail_even r))

  pub union_even : {xs : List Sym} {of : TypeExpr} {own d : ℕ} → t.IsUnion xs of own d → Even xs
  union_even (t.one_element q) = element_even q
  union_even (t.several_elements bar p q r) = even_append (even_between (Mark m.Bar bar) refl (element_even p) (element_even q)) (tail_even r)

  pub type_even : {xs : List Sym} {of : TypeExpr} {own d : ℕ} → t.IsType xs of own d → Even xs
  type_even (t.function_type o p a q r) = parens_even o p (type_params_even q) (even_cons refl (type_even r))
  type_even (t.union_type bar q) = even_append (marked_even (λ at. refl) bar) (union_even q)

  pub type_param_even : {xs : List Sym} {of : TypeParam} {own d : ℕ} → t.IsTypeParam xs of own d → Even xs
  type_param_even (t.type_param s at colon n p q) = even_cons refl (even_between (Mark m.Colon colon) refl (marked_even (λ at. refl) p) (type_even q))

  pub type_params_even : {xs : List Sym} {of : List TypeParam} {own d : ℕ} → t.IsTypeParams xs of own d → Even xs
  type_params_even t.no_type_params = even_nil
  type_params_even (t.last_type_param q) = type_param_even q
  type_params_even (t.more_type_params comma q r) = even_between (Mark m.Comma comma) refl (type_param_even q) (type_params_even r)

  pub member_even : {xs : List Sym} {of : TypeMember} {own d : ℕ} → t.IsTypeMember xs of own d → Even xs
  member_even (t.property_member s colon r k o q) =
      even_between (Mark m.Colon colon) refl (even_between s (key_goes s k) (worded_even r) (marked_even (λ at. refl) o)) (type_even q)
  member_even (t.method_member s o p colon k r q f) =
      even_cons (key_goes s k) (even_then_group (Mark m.OpenParen o) (Mark m.CloseParen p) refl refl (marked_even (λ at. refl) r) (type_params_even q) (even_cons refl (type_even f)))

  pub members_even : {xs : List Sym} {of : List TypeMember} {own d : ℕ} → t.IsTypeMembers xs of own d → Even xs
  members_even t.no_type_members = even_nil
  members_even (t.last_type_member q) = member_even q
  members_even (t.more_type_members mark at q e r) = even_between (Mark mark at) (ends_goes mark at e) (member_even q) (members_even r)

pub shape_even : {xs : List Sym} {of : TypeExpr} {d : ℕ} → t.IsShape xs of d → Even xs
shape_even (t.shape colon q h) = even_cons refl (type_even q)

-- ---- expressions and statements

pub annotation_even : {xs : List Sym} {of : Option TypeExpr} {d : ℕ} → g.IsAnnotation xs of d → Even xs
annotation_even g.no_annotation = even_nil
annotation_even (g.some_annotation q) = shape_even q

pub result_even : {typed : Bool} {xs : List Sym} {of : Option TypeExpr} {d : ℕ} → g.IsResult typed xs of d → Even xs
result_even g.no_result = even_nil
result_even (g.some_result q) = shape_even q

module _ (ordered : Bool) where
  mutual
    pub expr_even : {typed : Bool} {xs : List Sym} {of : Expr} {n : ℕ} → g.IsExpr ordered typed xs of n → Even xs
    expr_even (g.arrow_expr o p a q r b) =
        even_between (Mark m.Arrow a) refl (parens_even o p (params_even q) (result_even r)) (arrow_body_even b)
    expr_even (g.short_arrow_expr s at a n b) = even_cons refl (even_cons refl (arrow_body_even b))
    expr_even (g.assign_expr s p t o q) = even_between s (assign_goes s o) (chain_even p) (expr_even q)
    expr_even (g.cond_expr q) = cond_even q

    pub arrow_body_even : {typed : Bool} {xs : List Sym} {of : ArrowBody} {n : ℕ} → g.IsArrowBody ordered typed xs of n → Even xs
    arrow_body_even (g.block_body q) = block_even q
    arrow_body_even (g.expr_body b q) = expr_even q

    pub value_even : {xs : List Sym} {of : Option Expr} {n : ℕ} → g.IsValue ordered xs of n → Even xs
    value_even g.no_value = even_nil
    value_even (g.some_value at q) = even_cons refl (expr_even q)

    pub param_even : {given : Bool} {xs : List Sym} {of : Param} {n : ℕ} → g.IsParam ordered given xs of n → Even xs
    param_even (g.param s at n o p q h) = even_cons refl (even_append (even_append (marked_even (λ at. refl) o) (annotation_even p)) (value_even q))

    pub params_even : {later : Bool} {xs : List Sym} {of : List Param} {n : ℕ} → g.IsParams ordered later xs of n → Even xs
    params_even g.no_params = even_nil
    params_even (g.last_param q h) = param_even q
    params_even (g.more_params comma q h r) = even_between (Mark m.Comma comma) refl (param_even q) (params_even r)

    pub cond_even : {typed : Bool} {xs : List Sym} {of : Expr} {n : ℕ} → g.IsCond ordered typed xs of n → Even xs
    cond_even (g.or_expr q) = or_even q
    cond_even (g.conditional_expr a b p q r) = even_between (Mark m.Colon b) refl (even_between (Mark m.Question a) refl (or_even p) (expr_even q)) (expr_even r)

    pub or_even : {xs : List Sym} {of : Expr} {n : ℕ} → g.IsOr ordered xs of n → Even xs
    or_even (g.level_expr q) = level_even q
    or_even (g.nullish_expr q) = nullish_even q

    pub nullish_even : {xs : List Sym} {of : Expr} {n : ℕ} → g.IsNullish ordered xs of n → Even xs
    nullish_even (g.first_nullish at p q) = even_between (Mark m.Nullish at) refl (level_even p) (level_even q)
    nullish_even (g.next_nullish at p q) = even_between (Mark m.Nullish at) refl (nullish_even p) (level_even q)

    pub level_even : {level : ℕ} {xs : List Sym} {of : Expr} {n : ℕ} → g.IsLevel ordered level xs of n → Even xs
    level_even (g.unary_operand e q) = unary_even q
    level_even (g.next_level q) = level_even q
    level_even (g.joined_expr s p o e q) = even_between s (binary_goes s o) (level_even p) (level_even q)
    level_even (g.as_expr s at e p q h) = even_append (level_even p) (even_cons refl (type_even q))

    pub unary_even : {xs : List Sym} {of : Expr} {n : ℕ} → g.IsUnary ordered xs of n → Even xs
    unary_even (g.prefix_expr s e q) = even_cons (unary_goes s e) (unary_even q)
    unary_even (g.update_before s e q t) = even_cons (update_goes s e) (chain_even q)
    unary_even (g.update_after s q t e) = even_append (chain_even q) (even_one (update_goes s e))
    unary_even (g.chain_expr q) = chain_even q

    pub chain_even : {xs : List Sym} {of : Expr} {n : ℕ} → g.IsChain ordered xs of n → Even xs
    chain_even (g.primary_expr q) = primary_even q
    chain_even (g.member_expr k dot s at q n) = even_append (chain_even q) (even_cons refl (even_one refl))
    chain_even (g.index_expr o p q r) = even_then_group (Mark m.OpenBracket o) (Mark m.CloseBracket p) refl refl (chain_even q) (expr_even r) even_nil
    chain_even (g.call_expr o p q r) = even_then_group (Mark m.OpenParen o) (Mark m.CloseParen p) refl refl (chain_even q) (exprs_even r) even_nil

    pub primary_even : {xs : List Sym} {of : Expr} {n : ℕ} → g.IsPrimary ordered xs of n → Even xs
    primary_even (g.name_expr s at n) = even_one refl
    primary_even (g.this_expr s at) = even_one refl
    primary_even (g.number_expr s at) = even_one refl
    primary_even (g.string_expr s at) = even_one refl
    primary_even (g.template_expr s at) = even_one refl
    primary_even (g.spans_expr s at q) = even_cons refl (spans_even q)
    primary_even (g.boolean_expr s at e) = even_one refl
    primary_even (g.null_expr s at) = even_one refl
    primary_even (g.undefined_expr s at) = even_one refl
    primary_even (g.parens_expr o p q) = parens_even o p (expr_even q) even_nil
    primary_even (g.array_expr o p q) = brackets_even o p (exprs_even q) even_nil
    primary_even (g.object_expr o p q) = braces_even o p (props_even q) even_nil
    primary_even (g.new_expr ns na s at o p n q) = even_cons refl (even_cons refl (parens_even o p (exprs_even q) even_nil))

    pub spans_even : {xs : List Sym} {of : List TemplateSpan} {n : ℕ} → g.IsSpans ordered xs of n → Even xs
    spans_even (g.last_span s at q) = even_append (expr_even q) (even_one refl)
    spans_even (g.more_spans s at q r) = even_append (expr_even q) (even_cons refl (spans_even r))

    pub exprs_even : {xs : List Sym} {of : List Expr} {n : ℕ} → g.IsExprs ordered xs of n → Even xs
    exprs_even g.no_exprs = even_nil
    exprs_even (g.last_expr q) = expr_even q
    exprs_even (g.more_exprs comma q r) = even_between (Mark m.Comma comma) refl (expr_even q) (exprs_even r)

    pub prop_even : {xs : List Sym} {of : Prop} {n : ℕ} → g.IsProp ordered xs of n → Even xs
    prop_even (g.valued_prop s colon k q) = even_cons (key_goes s k) (even_cons refl (expr_even q))
    prop_even (g.short_prop s at n) = even_one refl

    pub props_even : {xs : List Sym} {of : List Prop} {n : ℕ} → g.IsProps ordered xs of n → Even xs
    props_even g.no_props = even_nil
    props_even (g.last_prop q) = prop_even q
    props_even (g.more_props comma q r) = even_between (Mark m.Comma comma) refl (prop_even q) (props_even r)

    pub block_even : {around : g.Around} {xs : List Sym} {of : Block} {n : ℕ} → g.IsBlock ordered around xs of n → Even xs
    block_even (g.block o p q) = braces_even o p (block_items_even q) even_nil

    pub block_item_even : {around : g.Around} {xs : List Sym} {of : BlockItem} {n : ℕ} → g.IsBlockItem ordered around xs of n → Even xs
    block_item_even (g.var_item q) = var_even q
    block_item_even (g.function_item q) = function_even q
    block_item_even (g.stmt_item q) = stmt_even q

    pub block_items_even : {around : g.Around} {xs : List Sym} {of : List BlockItem} {n : ℕ} → g.IsBlockItems ordered around xs of n → Even xs
    block_items_even g.no_block_items = even_nil
    block_items_even (g.more_block_items q r) = even_append (block_item_even q) (block_items_even r)

    pub var_even : {xs : List Sym} {of : Var} {n : ℕ} → g.IsVar ordered xs of n → Even xs
    var_even (g.var s at semicolon k q) = even_cons refl (even_append (declarators_even q) (even_one refl))

    pub declarator_even : {kind : VarKind} {xs : List Sym} {of : Declarator} {n : ℕ} → g.IsDeclarator ordered kind xs of n → Even xs
    declarator_even (g.declarator s at n p q h) = even_cons refl (even_append (annotation_even p) (value_even q))

    pub declarators_even : {kind : VarKind} {xs : List Sym} {of : List Declarator} {n : ℕ} → g.IsDeclarators ordered kind xs of n → Even xs
    declarators_even (g.last_declarator q) = declarator_even q
    declarators_even (g.more_declarators comma q r) = even_between (Mark m.Comma comma) refl (declarator_even q) (declarators_even r)

    pub function_even : {xs : List Sym} {of : Function} {n : ℕ} → g.IsFunction ordered xs of n → Even xs
    function_even (g.function fs fa s at o p n q r b) = even_cons refl (even_cons refl (even_append (parens_even o p (params_even q) (annotation_even r)) (block_even b)))

    pub stmt_even : {around : g.Around} {closed : Bool} {xs : List Sym} {of : Stmt} {n : ℕ} → g.IsStmt ordered around closed xs of n → Even xs
    stmt_even (g.block_stmt q) = block_even q
    stmt_even (g.if_stmt s at o p q r) = even_cons refl (parens_even o p (expr_even q) (stmt_even r))
    stmt_even (g.if_else_stmt s at o p es ea q r f) = even_cons refl (even_append (parens_even o p (expr_even q) (stmt_even r)) (even_cons refl (stmt_even f)))
    stmt_even (g.while_stmt s at o p q r) = even_cons refl (parens_even o p (expr_even q) (stmt_even r))
    stmt_even (g.do_stmt s at ws wa o p semicolon {xs = xs} {ys = ys} q r) =
        even_by (append_assoc (_ ∷ xs) (_ ∷ Mark m.OpenParen o ∷ ys) (Mark m.CloseParen p ∷ Mark m.Semicolon semicolon ∷ []))
        (even_append (even_cons refl (stmt_even q)) (even_cons refl (parens_even o p (expr_even r) (even_one refl))))
    stmt_even (g.for_stmt s at o semicolon p q r f b) =
        even_cons refl (parens_even o p (even_append (even_append (for_start_even q) (optional_even r)) (even_cons refl (optional_even f))) (stmt_even b))
    stmt_even (g.for_of_stmt s at o ks ka ns na os oa p k n q r) = even_cons refl (parens_even o p (even_cons refl (even_cons refl (even_cons refl (expr_even q)))) (stmt_even r))
    stmt_even (g.return_stmt s at semicolon h q) = even_cons refl (even_append (optional_even q) (even_one refl))
    stmt_even (g.break_stmt s at semicolon h) = even_cons refl (even_one refl)
    stmt_even (g.continue_stmt s at semicolon h) = even_cons refl (even_one refl)
    stmt_even (g.throw_stmt s at semicolon q) = even_cons refl (even_append (expr_even q) (even_one refl))
    stmt_even (g.switch_stmt s at o p ob pb {xs = xs} {ys = ys} q r) =
        even_by (append_assoc (_ ∷ Mark m.OpenParen o ∷ xs) (Mark m.CloseParen p ∷ Mark m.OpenBrace ob ∷ ys) (Mark m.CloseBrace pb ∷ []))
        (even_cons refl (parens_even o p (expr_even q) (braces_even ob pb (clauses_even r) even_nil)))
    stmt_even (g.expr_stmt semicolon b q) = even_append (expr_even q) (even_one refl)
    stmt_even (g.empty_stmt at) = even_one refl

    pub optional_even : {xs : List Sym} {of : Option Expr} {n : ℕ} → g.IsOptional ordered xs of n → Even xs
    optional_even g.no_expr = even_nil
    optional_even (g.some_expr q) = expr_even q

    pub for_start_even : {xs : List Sym} {of : ForStart} {n : ℕ} → g.IsForStart ordered xs of n → Even xs
    for_start_even (g.var_start q) = var_even q
    for_start_even (g.expr_start semicolon q) = even_append (expr_even q) (even_one refl)
    for_start_even (g.no_start semicolon) = even_one refl

    pub clause_even : {around : g.Around} {default : Bool} {xs : List Sym} {of : Clause} {n : ℕ} → g.IsClause ordered around default xs of n → Even xs
    clause_even (g.case_clause s at colon q r) = even_cons refl (even_between (Mark m.Colon colon) refl (expr_even q) (block_items_even r))
    clause_even (g.default_clause s at colon q) = even_cons refl (even_cons refl (block_items_even q))

    pub clauses_even : {around : g.Around} {default : Bool} {xs : List Sym} {of : List Clause} {n : ℕ} → g.IsClauses ordered around default xs of n → Even xs
    clauses_even g.no_clauses = even_nil
    clauses_even (g.more_clauses q r h) = even_append (clause_even q) (clauses_even r)
