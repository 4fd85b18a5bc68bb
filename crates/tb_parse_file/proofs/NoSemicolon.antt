-- What the grammar derives with no `;` outside brackets, and where a list has its first one.
use Rattle.std.proofs.Common.{◌≡◌, ℕ, zero, suc, Bool, true, false, List, [], ◌∷◌, ◌++◌, refl, sym, ◌∙◌, ap, subst, append_assoc}
use Rattle.std.specs.Prelude.{Option, Some}
use Rattle.tb_tree.specs.declared.marks.Mark.{Mark as MarkKind}
use Rattle.tb_tree.specs.declared.marks.Mark.TheVariants as m
use Rattle.tb_tree.specs.declared.types.TypeExpr.{TypeExpr}
use Rattle.tb_tree.specs.declared.exprs.UnaryOperator.{UnaryOperator}
use Rattle.tb_tree.specs.declared.exprs.UpdateOperator.{UpdateOperator}
use Rattle.tb_tree.specs.declared.exprs.BinaryOperator.{BinaryOperator}
use Rattle.tb_tree.specs.declared.exprs.AssignOperator.{AssignOperator}
use Rattle.tb_tree.specs.declared.exprs.VarKind.{VarKind}
use Rattle.tb_tree.specs.declared.exprs.Expr.{Expr}
use Rattle.tb_tree.specs.declared.exprs.TemplateSpan.{TemplateSpan}
use Rattle.tb_tree.specs.declared.exprs.ArrowBody.{ArrowBody}
use Rattle.tb_tree.specs.declared.exprs.Block.{Block}
use Rattle.tb_tree.specs.declared.exprs.Declarator.{Declarator}
use Rattle.tb_tree.specs.Sym.{Sym, Mark}
use Rattle.tb_tree.specs.Shapes.{IsMarked, unmarked, marked}
use Rattle.tb_tree.specs.Types as t
use Rattle.tb_tree.specs.Exprs as g
use Rattle.tb_parse_body.proofs.Even.{Turn, Opens, Closes, Goes, turn_of, Even, even_nil, even_one, even_group, even_append, type_even, type_params_even, members_even, params_even, expr_even, exprs_even, props_even, block_items_even}

-- ---- lists without an outer `;`

-- neither a bracket nor `;`
abbrev pub is_plain : Sym → Bool
is_plain (Mark m.OpenBrace at) = false
is_plain (Mark m.OpenParen at) = false
is_plain (Mark m.OpenBracket at) = false
is_plain (Mark m.CloseBrace at) = false
is_plain (Mark m.CloseParen at) = false
is_plain (Mark m.CloseBracket at) = false
is_plain (Mark m.Semicolon at) = false
is_plain _ = true

-- balanced symbols with no `;` outside brackets
pub data Clear : List Sym → Type 0 where
  clear_nil : Clear []
  clear_one : {s : Sym} → is_plain s ≡ true → Clear (s ∷ [])
  clear_group : (o p : Sym) {xs : List Sym} → turn_of o ≡ Opens → turn_of p ≡ Closes → Even xs → Clear (o ∷ xs ++ p ∷ [])
  clear_append : {xs ys : List Sym} → Clear xs → Clear ys → Clear (xs ++ ys)

clear_by : {xs ys : List Sym} → xs ≡ ys → Clear ys → Clear xs
clear_by e q = subst (λ v. Clear v) (sym e) q

-- such a symbol, and more
pub clear_cons : {s : Sym} {xs : List Sym} → is_plain s ≡ true → Clear xs → Clear (s ∷ xs)
clear_cons e q = clear_append (clear_one e) q

-- a group, and more
clear_grouped : (o p : Sym) {xs ys : List Sym} → turn_of o ≡ Opens → turn_of p ≡ Closes → Even xs → Clear ys → Clear (o ∷ xs ++ p ∷ ys)
clear_grouped o p {xs = xs} {ys = ys} e i q r = clear_by (sym (append_assoc (o ∷ xs) (p ∷ []) ys)) (clear_append (clear_group o p e i q) r)

clear_between : (s : Sym) {xs ys : List Sym} → is_plain s ≡ true → Clear xs → Clear ys → Clear (xs ++ s ∷ ys)
clear_between s e q r = clear_append q (clear_cons e r)

clear_then_group : (o p : Sym) {xs ys zs : List Sym} → turn_of o ≡ Opens → turn_of p ≡ Closes → Clear xs → Even ys → Clear zs → Clear (xs ++ o ∷ ys ++ p ∷ zs)
clear_then_group o p {xs = xs} {ys = ys} {zs = zs} e i q r s = clear_by (append_assoc xs (o ∷ ys) (p ∷ zs)) (clear_append q (clear_grouped o p e i r s))

pub clear_braces : (o p : ℕ) {xs ys : List Sym} → Even xs → Clear ys → Clear (Mark m.OpenBrace o ∷ xs ++ Mark m.CloseBrace p ∷ ys)
clear_braces o p q r = clear_grouped (Mark m.OpenBrace o) (Mark m.CloseBrace p) refl refl q r

clear_parens : (o p : ℕ) {xs ys : List Sym} → Even xs → Clear ys → Clear (Mark m.OpenParen o ∷ xs ++ Mark m.CloseParen p ∷ ys)
clear_parens o p q r = clear_grouped (Mark m.OpenParen o) (Mark m.CloseParen p) refl refl q r

clear_brackets : (o p : ℕ) {xs ys : List Sym} → Even xs → Clear ys → Clear (Mark m.OpenBracket o ∷ xs ++ Mark m.CloseBracket p ∷ ys)
clear_brackets o p q r = clear_grouped (Mark m.OpenBracket o) (Mark m.CloseBracket p) refl refl q r

-- ---- what follows the first outer `;`

deeper : Turn → ℕ → ℕ
deeper Opens n = suc n
deeper Closes zero = zero
deeper Closes (suc n) = n
deeper Goes n = n

stops_at : Sym → ℕ → Bool
stops_at (Mark m.Semicolon at) zero = true
stops_at _ _ = false

pick : Bool → List Sym → List Sym → List Sym
pick true xs ys = xs
pick false xs ys = ys

-- what stands behind the first `;` outside so many brackets
past : ℕ → List Sym → List Sym
past n [] = []
past n (s ∷ ss) = pick (stops_at s n) ss (past (deeper (turn_of s) n) ss)

past_open : (n : ℕ) (s : Sym) (xs : List Sym) → turn_of s ≡ Opens → past n (s ∷ xs) ≡ past (suc n) xs
unfolding past deeper pick stops_at
past_open n (Mark m.OpenBrace at) xs e = refl
past_open n (Mark m.OpenParen at) xs e = refl
past_open n (Mark m.OpenBracket at) xs e = refl
past_open n (Mark m.CloseBrace at) xs e = cc
past_open n (Mark m.CloseParen at) xs e = cc
past_open n (Mark m.CloseBracket at) xs e = cc
past_open n _ xs e = cc

past_close : (n : ℕ) (s : Sym) (xs : List Sym) → turn_of s ≡ Closes → past (suc n) (s ∷ xs) ≡ past n xs
unfolding past deeper pick stops_at
past_close n (Mark m.CloseBrace at) xs e = refl
past_close n (Mark m.CloseParen at) xs e = refl
past_close n (Mark m.CloseBracket at) xs e = refl
past_close n (Mark m.OpenBrace at) xs e = cc
past_close n (Mark m.OpenParen at) xs e = cc
past_close n (Mark m.OpenBracket at) xs e = cc
past_close n _ xs e = cc

past_within : (n : ℕ) (s : Sym) (xs : List Sym) → turn_of s ≡ Goes → past (suc n) (s ∷ xs) ≡ past (suc n) xs
unfolding past deeper pick stops_at
past_within n (Mark m.OpenBrace at) xs e = cc
past_within n (Mark m.OpenParen at) xs e = cc
past_within n (Mark m.OpenBracket at) xs e = cc
past_within n (Mark m.CloseBrace at) xs e = cc
past_within n (Mark m.CloseParen at) xs e = cc
past_within n (Mark m.CloseBracket at) xs e = cc
past_within n _ xs e = refl

past_plain : (s : Sym) (xs : List Sym) → is_plain s ≡ true → past 0 (s ∷ xs) ≡ past 0 xs
unfolding past deeper pick stops_at
past_plain (Mark m.OpenBrace at) xs e = cc
past_plain (Mark m.OpenParen at) xs e = cc
past_plain (Mark m.OpenBracket at) xs e = cc
past_plain (Mark m.CloseBrace at) xs e = cc
past_plain (Mark m.CloseParen at) xs e = cc
past_plain (Mark m.CloseBracket at) xs e = cc
past_plain (Mark m.Semicolon at) xs e = cc
past_plain _ xs e = refl

past_end : (at : ℕ) (xs : List Sym) → past 0 (Mark m.Semicolon at ∷ xs) ≡ xs
unfolding past deeper pick stops_at
past_end at xs = refl

past_even : {xs : List Sym} (n : ℕ) (zs : List Sym) → Even xs → past (suc n) (xs ++ zs) ≡ past (suc n) zs
past_even n zs even_nil = refl
past_even n zs (even_one {s = s} e) = past_within n s zs e
past_even n zs (even_group o p {xs = xs} e i q) =
    ap (λ v. past (suc n) v) (append_assoc (o ∷ xs) (p ∷ []) zs)
    ∙ past_open (suc n) o (xs ++ (p ∷ zs)) e
    ∙ past_even (suc n) (p ∷ zs) q
    ∙ past_close (suc n) p zs i
past_even n zs (even_append {xs = xs} {ys = ys} q r) = ap (λ v. past (suc n) v) (append_assoc xs ys zs) ∙ past_even n (ys ++ zs) q ∙ past_even n zs r

past_clear : {xs : List Sym} (zs : List Sym) → Clear xs → past 0 (xs ++ zs) ≡ past 0 zs
past_clear zs clear_nil = refl
past_clear zs (clear_one {s = s} e) = past_plain s zs e
past_clear zs (clear_group o p {xs = xs} e i q) =
    ap (λ v. past 0 v) (append_assoc (o ∷ xs) (p ∷ []) zs)
    ∙ past_open 0 o (xs ++ (p ∷ zs)) e
    ∙ past_even 0 (p ∷ zs) q
    ∙ past_close 0 p zs i
past_clear zs (clear_append {xs = xs} {ys = ys} q r) = ap (λ v. past 0 v) (append_assoc xs ys zs) ∙ past_clear (ys ++ zs) q ∙ past_clear zs r

-- clear symbols that `;` ends are the same front of a list, whatever they are
pub ended_same : {xs ys : List Sym} (at at' : ℕ) (us ws : List Sym) → Clear xs → Clear ys → xs ++ Mark m.Semicolon at ∷ [] ++ us ≡ ys ++ Mark m.Semicolon at' ∷ [] ++ ws → us ≡ ws
ended_same {xs = xs} {ys = ys} at at' us ws q r e =
    sym (past_clear (Mark m.Semicolon at ∷ us) q ∙ past_end at us)
    ∙ ap (λ v. past 0 v) (sym (append_assoc xs (Mark m.Semicolon at ∷ []) us) ∙ e ∙ append_assoc ys (Mark m.Semicolon at' ∷ []) ws)
    ∙ past_clear (Mark m.Semicolon at' ∷ ws) r
    ∙ past_end at' ws

-- ---- single symbols

unary_plain : (s : Sym) {o : UnaryOperator} → g.unary_of s ≡ Some o → is_plain s ≡ true
unary_plain (Mark m.OpenBrace at) e = cc
unary_plain (Mark m.OpenParen at) e = cc
unary_plain (Mark m.OpenBracket at) e = cc
unary_plain (Mark m.CloseBrace at) e = cc
unary_plain (Mark m.CloseParen at) e = cc
unary_plain (Mark m.CloseBracket at) e = cc
unary_plain (Mark m.Semicolon at) e = cc
unary_plain _ e = refl

update_plain : (s : Sym) {o : UpdateOperator} → g.update_of s ≡ Some o → is_plain s ≡ true
update_plain (Mark m.OpenBrace at) e = cc
update_plain (Mark m.OpenParen at) e = cc
update_plain (Mark m.OpenBracket at) e = cc
update_plain (Mark m.CloseBrace at) e = cc
update_plain (Mark m.CloseParen at) e = cc
update_plain (Mark m.CloseBracket at) e = cc
update_plain (Mark m.Semicolon at) e = cc
update_plain _ e = refl

assign_plain : (s : Sym) {o : AssignOperator} → g.assign_of s ≡ Some o → is_plain s ≡ true
assign_plain (Mark m.OpenBrace at) e = cc
assign_plain (Mark m.OpenParen at) e = cc
assign_plain (Mark m.OpenBracket at) e = cc
assign_plain (Mark m.CloseBrace at) e = cc
assign_plain (Mark m.CloseParen at) e = cc
assign_plain (Mark m.CloseBracket at) e = cc
assign_plain (Mark m.Semicolon at) e = cc
assign_plain _ e = refl

binary_plain : (s : Sym) {o : BinaryOperator} → g.binary_of s ≡ Some o → is_plain s ≡ true
binary_plain (Mark m.OpenBrace at) e = cc
binary_plain (Mark m.OpenParen at) e = cc
binary_plain (Mark m.OpenBracket at) e = cc
binary_plain (Mark m.CloseBrace at) e = cc
binary_plain (Mark m.CloseParen at) e = cc
binary_plain (Mark m.CloseBracket at) e = cc
binary_plain (Mark m.Semicolon at) e = cc
binary_plain _ e = refl

marked_clear : {k : MarkKind} {xs : List Sym} {b : Bool} → ((at : ℕ) → is_plain (Mark k at) ≡ true) → IsMarked k xs b → Clear xs
marked_clear h unmarked = clear_nil
marked_clear h (marked at) = clear_one (h at)

-- ---- types

array_marks_clear : {n : ℕ} {xs : List Sym} → t.IsBrackets n xs → Clear xs
array_marks_clear t.no_brackets = clear_nil
array_marks_clear (t.brackets o p q) = clear_brackets o p even_nil (array_marks_clear q)

atom_clear : {xs : List Sym} {of : TypeExpr} {own d : ℕ} → t.IsAtom xs of own d → Clear xs
atom_clear (t.keyword_type s at q) = clear_one refl
atom_clear (t.boolean_type s at q) = clear_one refl
atom_clear (t.string_type s at) = clear_one refl
atom_clear (t.integer_type s at q) = clear_one refl
atom_clear (t.minus_type s at digits_at q) = clear_cons refl (clear_one refl)
atom_clear (t.written_type s at q) = clear_one refl
atom_clear (t.parens_type o p q) = clear_parens o p (type_even q) clear_nil
atom_clear (t.object_type o p q) = clear_braces o p (members_even q) clear_nil

element_clear : {xs : List Sym} {of : TypeExpr} {own d : ℕ} → t.IsElement xs of own d → Clear xs
element_clear (t.plain_element q b) = clear_append (atom_clear q) (array_marks_clear b)
element_clear (t.read_only_element s at q b) = clear_cons refl (clear_append (atom_clear q) (array_marks_clear b))

tail_clear : {xs : List Sym} {of : List TypeExpr} {own d : ℕ} → t.IsTail xs of own d → Clear xs
tail_clear t.no_tail = clear_nil
tail_clear (t.more_tail bar q r) = clear_cons refl (clear_append (element_clear q) (tail_clear r))

union_clear : {xs : List Sym} {of : TypeExpr} {own d : ℕ} → t.IsUnion xs of own d → Clear xs
union_clear (t.one_element q) = element_clear q
union_clear (t.several_elements bar p q r) = clear_append (clear_between (Mark m.Bar bar) refl (element_clear p) (element_clear q)) (tail_clear r)

pub type_clear : {xs : List Sym} {of : TypeExpr} {own d : ℕ} → t.IsType xs of own d → Clear xs
type_clear (t.function_type o p a q r) = clear_parens o p (type_params_even q) (clear_cons refl (type_clear r))
type_clear (t.union_type bar q) = clear_append (marked_clear (λ at. refl) bar) (union_clear q)

shape_clear : {xs : List Sym} {of : TypeExpr} {d : ℕ} → t.IsShape xs of d → Clear xs
shape_clear (t.shape colon q h) = clear_cons refl (type_clear q)

-- ---- expressions and declarators

annotation_clear : {xs : List Sym} {of : Option TypeExpr} {d : ℕ} → g.IsAnnotation xs of d → Clear xs
annotation_clear g.no_annotation = clear_nil
annotation_clear (g.some_annotation q) = shape_clear q

result_clear : {typed : Bool} {xs : List Sym} {of : Option TypeExpr} {d : ℕ} → g.IsResult typed xs of d → Clear xs
result_clear g.no_result = clear_nil
result_clear (g.some_result q) = shape_clear q

module _ (ordered : Bool) where
  block_clear : {around : g.Around} {xs : List Sym} {of : Block} {n : ℕ} → g.IsBlock ordered around xs of n → Clear xs
  block_clear (g.block o p q) = clear_braces o p (block_items_even ordered q) clear_nil

  mutual
    pub expr_clear : {typed : Bool} {xs : List Sym} {of : Expr} {n : ℕ} → g.IsExpr ordered typed xs of n → Clear xs
    expr_clear (g.arrow_expr o p a q r b) =
        clear_between (Mark m.Arrow a) refl (clear_parens o p (params_even ordered q) (result_clear r)) (arrow_body_clear b)
    expr_clear (g.short_arrow_expr s at a n b) = clear_cons refl (clear_cons refl (arrow_body_clear b))
    expr_clear (g.assign_expr s p t o q) = clear_between s (assign_plain s o) (chain_clear p) (expr_clear q)
    expr_clear (g.cond_expr q) = cond_clear q

    arrow_body_clear : {typed : Bool} {xs : List Sym} {of : ArrowBody} {n : ℕ} → g.IsArrowBody ordered typed xs of n → Clear xs
    arrow_body_clear (g.block_body q) = block_clear q
    arrow_body_clear (g.expr_body b q) = expr_clear q

    cond_clear : {typed : Bool} {xs : List Sym} {of : Expr} {n : ℕ} → g.IsCond ordered typed xs of n → Clear xs
    cond_clear (g.or_expr q) = or_clear q
    cond_clear (g.conditional_expr a b p q r) = clear_between (Mark m.Colon b) refl (clear_between (Mark m.Question a) refl (or_clear p) (expr_clear q)) (expr_clear r)

    or_clear : {xs : List Sym} {of : Expr} {n : ℕ} → g.IsOr ordered xs of n → Clear xs
    or_clear (g.level_expr q) = level_clear q
    or_clear (g.nullish_expr q) = nullish_clear q

    nullish_clear : {xs : List Sym} {of : Expr} {n : ℕ} → g.IsNullish ordered xs of n → Clear xs
    nullish_clear (g.first_nullish at p q) = clear_between (Mark m.Nullish at) refl (level_clear p) (level_clear q)
    nullish_clear (g.next_nullish at p q) = clear_between (Mark m.Nullish at) refl (nullish_clear p) (level_clear q)

    level_clear : {level : ℕ} {xs : List Sym} {of : Expr} {n : ℕ} → g.IsLevel ordered level xs of n → Clear xs
    level_clear (g.unary_operand e q) = unary_clear q
    level_clear (g.next_level q) = level_clear q
    level_clear (g.joined_expr s p o e q) = clear_between s (binary_plain s o) (level_clear p) (level_clear q)
    level_clear (g.as_expr s at e p q h) = clear_append (level_clear p) (clear_cons refl (type_clear q))

    unary_clear : {xs : List Sym} {of : Expr} {n : ℕ} → g.IsUnary ordered xs of n → Clear xs
    unary_clear (g.prefix_expr s e q) = clear_cons (unary_plain s e) (unary_clear q)
    unary_clear (g.update_before s e q t) = clear_cons (update_plain s e) (chain_clear q)
    unary_clear (g.update_after s q t e) = clear_append (chain_clear q) (clear_one (update_plain s e))
    unary_clear (g.chain_expr q) = chain_clear q

    chain_clear : {xs : List Sym} {of : Expr} {n : ℕ} → g.IsChain ordered xs of n → Clear xs
    chain_clear (g.primary_expr q) = primary_clear q
    chain_clear (g.member_expr k dot s at q n) = clear_append (chain_clear q) (clear_cons refl (clear_one refl))
    chain_clear (g.index_expr o p q r) = clear_then_group (Mark m.OpenBracket o) (Mark m.CloseBracket p) refl refl (chain_clear q) (expr_even ordered r) clear_nil
    chain_clear (g.call_expr o p q r) = clear_then_group (Mark m.OpenParen o) (Mark m.CloseParen p) refl refl (chain_clear q) (exprs_even ordered r) clear_nil

    primary_clear : {xs : List Sym} {of : Expr} {n : ℕ} → g.IsPrimary ordered xs of n → Clear xs
    primary_clear (g.name_expr s at n) = clear_one refl
    primary_clear (g.this_expr s at) = clear_one refl
    primary_clear (g.number_expr s at) = clear_one refl
    primary_clear (g.string_expr s at) = clear_one refl
    primary_clear (g.template_expr s at) = clear_one refl
    primary_clear (g.spans_expr s at q) = clear_cons refl (spans_clear q)
    primary_clear (g.boolean_expr s at e) = clear_one refl
    primary_clear (g.null_expr s at) = clear_one refl
    primary_clear (g.undefined_expr s at) = clear_one refl
    primary_clear (g.parens_expr o p q) = clear_parens o p (expr_even ordered q) clear_nil
    primary_clear (g.array_expr o p q) = clear_brackets o p (exprs_even ordered q) clear_nil
    primary_clear (g.object_expr o p q) = clear_braces o p (props_even ordered q) clear_nil
    primary_clear (g.new_expr ns na s at o p n q) = clear_cons refl (clear_cons refl (clear_parens o p (exprs_even ordered q) clear_nil))

    spans_clear : {xs : List Sym} {of : List TemplateSpan} {n : ℕ} → g.IsSpans ordered xs of n → Clear xs
    spans_clear (g.last_span s at q) = clear_append (expr_clear q) (clear_one refl)
    spans_clear (g.more_spans s at q r) = clear_append (expr_clear q) (clear_cons refl (spans_clear r))

  value_clear : {xs : List Sym} {of : Option Expr} {n : ℕ} → g.IsValue ordered xs of n → Clear xs
  value_clear g.no_value = clear_nil
  value_clear (g.some_value at q) = clear_cons refl (expr_clear q)

  pub optional_clear : {xs : List Sym} {of : Option Expr} {n : ℕ} → g.IsOptional ordered xs of n → Clear xs
  optional_clear g.no_expr = clear_nil
  optional_clear (g.some_expr q) = expr_clear q

  declarator_clear : {kind : VarKind} {xs : List Sym} {of : Declarator} {n : ℕ} → g.IsDeclarator ordered kind xs of n → Clear xs
  declarator_clear (g.declarator s at n p q h) = clear_cons refl (clear_append (annotation_clear p) (value_clear q))

  pub declarators_clear : {kind : VarKind} {xs : List Sym} {of : List Declarator} {n : ℕ} → g.IsDeclarators ordered kind xs of n → Clear xs
  declarators_clear (g.last_declarator q) = declarator_clear q
  declarators_clear (g.more_declarators comma q r) = clear_between (Mark m.Comma comma) refl (declarator_clear q) (declarators_clear r)
