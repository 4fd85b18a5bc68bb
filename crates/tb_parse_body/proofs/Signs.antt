-- The symbols with which readings of operators and operands go on, and those that are operators.
use Rattle.std.proofs.Common.{◌≡◌, ℕ, zero, suc, ◌≤◌, leb, Bool, true, false, not, ◌||◌, ◌&&◌, List, [], ◌∷◌, ◌++◌, refl, sym, ◌∙◌, ap, subst, inl, inr, arith}
use Rattle.std.specs.Prelude.{Option, Some, None, ◌⊎◌}
use Rattle.std.proofs.lemmas.Bool.{or_left, or_right, or_from, or_parts, leb-true, le-leb, and_left}
use Rattle.tb_tree.specs.declared.marks.Mark.TheVariants as m
use Rattle.tb_tree.specs.declared.words.Word.TheVariants as w
use Rattle.tb_tree.specs.declared.words.Class.TheVariants as c
use Rattle.tb_tree.specs.declared.words.Template.TheVariants as part
use Rattle.tb_tree.specs.declared.exprs.BinaryOperator.{BinaryOperator}
use Rattle.tb_tree.specs.declared.exprs.BinaryOperator.TheVariants as binary
use Rattle.tb_tree.specs.declared.exprs.UpdateOperator.{UpdateOperator}
use Rattle.tb_tree.specs.declared.exprs.UnaryOperator.{UnaryOperator}
use Rattle.tb_tree.specs.declared.exprs.AssignOperator.{AssignOperator}
use Rattle.tb_tree.specs.Sym.{Sym, Mark, Lex}
use Rattle.tb_tree.specs.Shapes.{word}
use Rattle.tb_tree.specs.Exprs.{unary_of, update_of, binary_of, assign_of, strength, rel_level, unary_level}
use Rattle.tb_parse_type.specs.Rules.{continues_type, InType}
use Rattle.tb_parse_body.specs.Rules.{continues_chain, InChain, continues_unary, InUnary, is_some, joins, joins_by, continues_level, InLevel, is_nullish, continues_or, InOr, is_end, is_colon, ends_expr, InExpr}

-- ---- updates

pub update_not_chain : (s : Sym) {o : UpdateOperator} → update_of s ≡ Some o → InChain s → ⊥
update_not_chain (Mark m.PlusPlus at) h i = let n : false ≡ true = i in cc
update_not_chain (Mark m.MinusMinus at) h i = let n : false ≡ true = i in cc
update_not_chain _ h i = cc

pub update_in_unary : (s : Sym) {o : UpdateOperator} → update_of s ≡ Some o → InUnary s
update_in_unary s h = or_right (continues_chain s) (is_some (update_of s)) (ap is_some h)

pub update_not_prefix : (s : Sym) {o : UpdateOperator} {p : UnaryOperator} → update_of s ≡ Some o → unary_of s ≡ Some p → ⊥
update_not_prefix (Mark m.PlusPlus at) h i = cc
update_not_prefix (Mark m.MinusMinus at) h i = cc
update_not_prefix _ h i = cc

pub chain_in_unary : (s : Sym) → InChain s → InUnary s
chain_in_unary s h = or_left (continues_chain s) (is_some (update_of s)) h

-- ---- levels

pub unary_in_level : (l : ℕ) (s : Sym) → InUnary s → InLevel l s
unary_in_level l s h = or_left (continues_unary s || joins l s) (leb l rel_level && continues_type s) (or_left (continues_unary s) (joins l s) h)

leb_down : (l k : ℕ) → leb (suc l) k ≡ true → leb l k ≡ true
leb_down l k h = le-leb l k (omega (arith, leb-true (suc l) k h))

joins_down : (l : ℕ) (o : Option BinaryOperator) → joins_by (suc l) o ≡ true → joins_by l o ≡ true
joins_down l None h = h
joins_down l (Some operator) h = leb_down l (strength operator) h

types_down : (l : ℕ) (b : Bool) → (leb (suc l) rel_level && b) ≡ true → (leb l rel_level && b) ≡ true
types_down l b h = go (leb (suc l) rel_level) refl
  where
    go : (t : Bool) → leb (suc l) rel_level ≡ t → (leb l rel_level && b) ≡ true
    go true e = ap (λ t. t && b) (leb_down l rel_level e) ∙ sym (ap (λ t. t && b) e) ∙ h
    go false e = let n : false ≡ true = sym (ap (λ t. t && b) e) ∙ h in cc

either : (x y : Bool) → (x || y) ≡ true → (x ≡ true) ⊎ (y ≡ true)
either true y h = inl refl
either false y h = inr h

-- what goes on with an operand of the next level goes on with one of this level
pub level_down : (l : ℕ) (s : Sym) → InLevel (suc l) s → InLevel l s
level_down l s h = elim (either (continues_unary s || joins (suc l) s) (leb (suc l) rel_level && continues_type s) h) [
  | inl p ↦ or_left (continues_unary s || joins l s) (leb l rel_level && continues_type s) (elim (either (continues_unary s) (joins (suc l) s) p) [
    | inl q ↦ or_left (continues_unary s) (joins l s) q
    | inr q ↦ or_right (continues_unary s) (joins l s) (joins_down l (binary_of s) q)
  ])
  | inr p ↦ or_right (continues_unary s || joins l s) (leb l rel_level && continues_type s) (types_down l (continues_type s) p)
]

pub level_down_two : (l : ℕ) (s : Sym) → InLevel (suc (suc l)) s → InLevel l s
level_down_two l s h = level_down l s (level_down (suc l) s h)

-- what a type goes on with, goes on with a relation
pub type_in_level : (s : Sym) → InType s → InLevel rel_level s
type_in_level s h = or_right (continues_unary s || joins rel_level s) (leb rel_level rel_level && continues_type s) h

-- an operator joins operands of its level
pub operator_in_level : (l : ℕ) (s : Sym) {operator : BinaryOperator} → binary_of s ≡ Some operator → strength operator ≡ l → InLevel l s
operator_in_level l s {operator = o} h i =
    or_left (continues_unary s || joins l s) (leb l rel_level && continues_type s)
    (or_right (continues_unary s) (joins l s) (ap (joins_by l) h ∙ le-leb l (strength o) (omega (arith, i))))

-- and goes on with no operand of the next one
above : (s : Sym) (operator : BinaryOperator) → binary_of s ≡ Some operator → continues_level (suc (strength operator)) s ≡ false
above (Mark m.Or at) o h = let i : o ≡ binary.Or = cc in subst (λ (o : BinaryOperator). continues_level (suc (strength o)) (Mark m.Or at) ≡ false) (sym i) refl
above (Mark m.And at) o h = let i : o ≡ binary.And = cc in subst (λ (o : BinaryOperator). continues_level (suc (strength o)) (Mark m.And at) ≡ false) (sym i) refl
above (Mark m.Same at) o h = let i : o ≡ binary.Same = cc in subst (λ (o : BinaryOperator). continues_level (suc (strength o)) (Mark m.Same at) ≡ false) (sym i) refl
above (Mark m.NotSame at) o h = let i : o ≡ binary.NotSame = cc in subst (λ (o : BinaryOperator). continues_level (suc (strength o)) (Mark m.NotSame at) ≡ false) (sym i) refl
above (Mark m.Less at) o h = let i : o ≡ binary.Less = cc in subst (λ (o : BinaryOperator). continues_level (suc (strength o)) (Mark m.Less at) ≡ false) (sym i) refl
above (Mark m.Greater at) o h = let i : o ≡ binary.Greater = cc in subst (λ (o : BinaryOperator). continues_level (suc (strength o)) (Mark m.Greater at) ≡ false) (sym i) refl
above (Mark m.LessEqual at) o h = let i : o ≡ binary.LessEqual = cc in subst (λ (o : BinaryOperator). continues_level (suc (strength o)) (Mark m.LessEqual at) ≡ false) (sym i) refl
above (Mark m.GreaterEqual at) o h = let i : o ≡ binary.GreaterEqual = cc in subst (λ (o : BinaryOperator). continues_level (suc (strength o)) (Mark m.GreaterEqual at) ≡ false) (sym i) refl
above (Mark m.Plus at) o h = let i : o ≡ binary.Plus = cc in subst (λ (o : BinaryOperator). continues_level (suc (strength o)) (Mark m.Plus at) ≡ false) (sym i) refl
above (Mark m.Minus at) o h = let i : o ≡ binary.Minus = cc in subst (λ (o : BinaryOperator). continues_level (suc (strength o)) (Mark m.Minus at) ≡ false) (sym i) refl
above (Mark m.Star at) o h = let i : o ≡ binary.Times = cc in subst (λ (o : BinaryOperator). continues_level (suc (strength o)) (Mark m.Star at) ≡ false) (sym i) refl
above (Mark m.Slash at) o h = let i : o ≡ binary.Divided = cc in subst (λ (o : BinaryOperator). continues_level (suc (strength o)) (Mark m.Slash at) ≡ false) (sym i) refl
above (Mark m.Percent at) o h = let i : o ≡ binary.Remainder = cc in subst (λ (o : BinaryOperator). continues_level (suc (strength o)) (Mark m.Percent at) ≡ false) (sym i) refl
above _ o h = cc

pub operator_not_above : (l : ℕ) (s : Sym) {operator : BinaryOperator} → binary_of s ≡ Some operator → strength operator ≡ l → InLevel (suc l) s → ⊥
operator_not_above l s {operator = o} h i n =
    let k : false ≡ true = sym (above s o h) ∙ ap (λ l. continues_level (suc l) s) i ∙ n in
    cc

-- an operator that joins relations does not go on with a type
pub relation_not_type : (s : Sym) {operator : BinaryOperator} → binary_of s ≡ Some operator → strength operator ≡ rel_level → InType s → ⊥
relation_not_type (Mark m.Minus at) {operator = o} h i n =
    let e : o ≡ binary.Minus = cc in
    let k : 5 ≡ 4 = sym (ap strength e) ∙ i in
    omega (arith, k)
relation_not_type (Mark m.Or at) h i n = let k : false ≡ true = n in cc
relation_not_type (Mark m.And at) h i n = let k : false ≡ true = n in cc
relation_not_type (Mark m.Same at) h i n = let k : false ≡ true = n in cc
relation_not_type (Mark m.NotSame at) h i n = let k : false ≡ true = n in cc
relation_not_type (Mark m.Less at) h i n = let k : false ≡ true = n in cc
relation_not_type (Mark m.Greater at) h i n = let k : false ≡ true = n in cc
relation_not_type (Mark m.LessEqual at) h i n = let k : false ≡ true = n in cc
relation_not_type (Mark m.GreaterEqual at) h i n = let k : false ≡ true = n in cc
relation_not_type (Mark m.Plus at) h i n = let k : false ≡ true = n in cc
relation_not_type (Mark m.Star at) h i n = let k : false ≡ true = n in cc
relation_not_type (Mark m.Slash at) h i n = let k : false ≡ true = n in cc
relation_not_type (Mark m.Percent at) h i n = let k : false ≡ true = n in cc
relation_not_type _ h i n = cc

-- the levels of operators
pub strength_below : (o : BinaryOperator) → strength o ≤ 6
strength_below binary.Or = omega arith
strength_below binary.And = omega arith
strength_below binary.Same = omega arith
strength_below binary.NotSame = omega arith
strength_below binary.Plus = omega arith
strength_below binary.Minus = omega arith
strength_below binary.Times = omega arith
strength_below binary.Divided = omega arith
strength_below binary.Remainder = omega arith
strength_below _ = omega arith

-- ---- conditions and assignments

pub level_in_or : (s : Sym) → InLevel 1 s → InOr s
level_in_or s h = or_left (continues_level 1 s) (is_nullish s) h

pub nullish_in_or : (at : ℕ) → InOr (Mark m.Nullish at)
nullish_in_or at = refl

pub nullish_not_in_level : (at : ℕ) → InLevel 3 (Mark m.Nullish at) → ⊥
nullish_not_in_level at h = let n : false ≡ true = h in cc

pub question_not_in_or : (at : ℕ) → InOr (Mark m.Question at) → ⊥
question_not_in_or at h = let n : false ≡ true = h in cc

pub question_in_expr : (typed : Bool) (at : ℕ) → InExpr typed (Mark m.Question at)
question_in_expr true at = refl
question_in_expr false at = refl

pub assign_not_in_or : (s : Sym) {o : AssignOperator} → assign_of s ≡ Some o → InOr s → ⊥
assign_not_in_or (Mark m.Assign at) h i = let n : false ≡ true = i in cc
assign_not_in_or (Mark m.PlusAssign at) h i = let n : false ≡ true = i in cc
assign_not_in_or (Mark m.MinusAssign at) h i = let n : false ≡ true = i in cc
assign_not_in_or (Mark m.StarAssign at) h i = let n : false ≡ true = i in cc
assign_not_in_or (Mark m.SlashAssign at) h i = let n : false ≡ true = i in cc
assign_not_in_or (Mark m.PercentAssign at) h i = let n : false ≡ true = i in cc
assign_not_in_or _ h i = cc

untyped : (typed : Bool) (s : Sym) → is_end s ≡ false → is_colon s ≡ false → InExpr typed s
untyped true s h i = or_from (is_end s) false h refl
untyped false s h i = or_from (is_end s) (is_colon s) h i

pub assign_in_expr : (typed : Bool) (s : Sym) {o : AssignOperator} → assign_of s ≡ Some o → InExpr typed s
assign_in_expr typed (Mark m.Assign at) h = untyped typed (Mark m.Assign at) refl refl
assign_in_expr typed (Mark m.PlusAssign at) h = untyped typed (Mark m.PlusAssign at) refl refl
assign_in_expr typed (Mark m.MinusAssign at) h = untyped typed (Mark m.MinusAssign at) refl refl
assign_in_expr typed (Mark m.StarAssign at) h = untyped typed (Mark m.StarAssign at) refl refl
assign_in_expr typed (Mark m.SlashAssign at) h = untyped typed (Mark m.SlashAssign at) refl refl
assign_in_expr typed (Mark m.PercentAssign at) h = untyped typed (Mark m.PercentAssign at) refl refl
assign_in_expr typed _ h = cc

pub question_not_assign : (at : ℕ) {o : AssignOperator} → assign_of (Mark m.Question at) ≡ Some o → ⊥
question_not_assign at h = cc

-- what goes on with operands ends no expression
or_no_end : (s : Sym) → InOr s → (is_end s ≡ false) × (is_colon s ≡ false)
or_no_end (Mark m.CloseParen at) h = let n : false ≡ true = h in cc
or_no_end (Mark m.CloseBracket at) h = let n : false ≡ true = h in cc
or_no_end (Mark m.CloseBrace at) h = let n : false ≡ true = h in cc
or_no_end (Mark m.Comma at) h = let n : false ≡ true = h in cc
or_no_end (Mark m.Semicolon at) h = let n : false ≡ true = h in cc
or_no_end (Mark m.Colon at) h = let n : false ≡ true = h in cc
or_no_end (Mark _ at) h = (refl, refl)
or_no_end (Lex (c.Template part.Middle) spelled at) h = let n : false ≡ true = h in cc
or_no_end (Lex (c.Template part.Tail) spelled at) h = let n : false ≡ true = h in cc
or_no_end (Lex (c.Template _) spelled at) h = (refl, refl)
or_no_end (Lex _ spelled at) h = (refl, refl)

pub or_in_expr : (typed : Bool) (s : Sym) → InOr s → InExpr typed s
or_in_expr typed s h = let e = or_no_end s h in untyped typed s e.0 e.1

pub colon_not_in_expr : (at : ℕ) → InExpr false (Mark m.Colon at) → ⊥
colon_not_in_expr at h = let n : true ≡ false = h in cc
