-- How an expression begins: with what, and what a reading that stops behind its first part leaves.
use Rattle.std.proofs.Common.{◌≡◌, ℕ, suc, ◌+◌, ◌≤◌, ◌<◌, max, Bool, true, false, List, [], ◌∷◌, ◌++◌, length, refl, sym, ◌∙◌, ap, subst, inl, inr, arith, append_assoc, length-append}
use Rattle.std.specs.Prelude.{Option, Some, None}
use Rattle.tb_tree.specs.declared.marks.Mark.TheVariants as m
use Rattle.tb_tree.specs.declared.words.Word.TheVariants as words
use Rattle.tb_tree.specs.declared.words.Class.TheVariants as c
use Rattle.tb_tree.specs.declared.exprs.BinaryOperator.{BinaryOperator}
use Rattle.tb_tree.specs.declared.exprs.UpdateOperator.{UpdateOperator}
use Rattle.tb_tree.specs.declared.exprs.UnaryOperator.{UnaryOperator}
use Rattle.tb_tree.specs.declared.exprs.Expr.{Expr}
use Rattle.tb_tree.specs.Sym.{Sym, Mark, Lex}
use Rattle.tb_tree.specs.Shapes.{word}
use Rattle.tb_tree.specs.Longest.{Starts}
use Rattle.tb_tree.specs.Exprs.{unary_of, update_of, binary_of, assign_of, IsExpr, arrow_expr, short_arrow_expr, assign_expr, cond_expr, IsCond, or_expr, conditional_expr, IsOr, level_expr, nullish_expr, IsNullish, first_nullish, next_nullish, IsLevel, unary_operand, next_level, joined_expr, as_expr, IsUnary, prefix_expr, update_before, update_after, chain_expr, IsChain, primary_expr, member_expr, index_expr, call_expr, IsPrimary, name_expr, this_expr, number_expr, string_expr, template_expr, spans_expr, boolean_expr, null_expr, undefined_expr, parens_expr, array_expr, object_expr, new_expr}

-- ---- an expression is not empty

pub primary_long : {a : List Sym} {u : Expr} {e : ℕ} → IsPrimary true a u e → 1 ≤ length a
primary_long (name_expr s o i) = omega arith
primary_long (this_expr s o) = omega arith
primary_long (number_expr s o) = omega arith
primary_long (string_expr s o) = omega arith
primary_long (template_expr s o) = omega arith
primary_long (spans_expr s o d) = omega arith
primary_long (boolean_expr s o i) = omega arith
primary_long (null_expr s o) = omega arith
primary_long (undefined_expr s o) = omega arith
primary_long (parens_expr o p d) = omega arith
primary_long (array_expr o p d) = omega arith
primary_long (object_expr o p d) = omega arith
primary_long (new_expr s o t q o' p i d) = omega arith

pub chain_long : {a : List Sym} {u : Expr} {e : ℕ} → IsChain true a u e → 1 ≤ length a
chain_long (primary_expr d) = primary_long d
chain_long (member_expr k o s p {xs = xs} d i) = omega (arith, length-append xs (Mark m.Dot o ∷ word k s p ∷ []))
chain_long (index_expr o p {xs = xs} {ys = ys} d e) = omega (arith, chain_long d, length-append xs (Mark m.OpenBracket o ∷ ys), length-append (xs ++ Mark m.OpenBracket o ∷ ys) (Mark m.CloseBracket p ∷ []))
chain_long (call_expr o p {xs = xs} {ys = ys} d e) = omega (arith, chain_long d, length-append xs (Mark m.OpenParen o ∷ ys), length-append (xs ++ Mark m.OpenParen o ∷ ys) (Mark m.CloseParen p ∷ []))

unary_long : {a : List Sym} {u : Expr} {e : ℕ} → IsUnary true a u e → 1 ≤ length a
unary_long (prefix_expr s i d) = omega arith
unary_long (update_before s i d t) = omega arith
unary_long (update_after s {xs = xs} d t i) = omega (arith, length-append xs (s ∷ []))
unary_long (chain_expr d) = chain_long d

level_long : {l : ℕ} {a : List Sym} {u : Expr} {e : ℕ} → IsLevel true l a u e → 1 ≤ length a
level_long (unary_operand i d) = unary_long d
level_long (next_level d) = level_long d
level_long (joined_expr s {xs = xs} {ys = ys} d i j e) = omega (arith, length-append xs (s ∷ ys))
level_long (as_expr s o {xs = xs} {ys = ys} i d t j) = omega (arith, length-append xs (word words.As s o ∷ ys))

nullish_long : {a : List Sym} {u : Expr} {e : ℕ} → IsNullish true a u e → 1 ≤ length a
nullish_long (first_nullish o {xs = xs} {ys = ys} d e) = omega (arith, length-append xs (Mark m.Nullish o ∷ ys))
nullish_long (next_nullish o {xs = xs} {ys = ys} d e) = omega (arith, length-append xs (Mark m.Nullish o ∷ ys))

or_long : {a : List Sym} {u : Expr} {e : ℕ} → IsOr true a u e → 1 ≤ length a
or_long (level_expr d) = level_long d
or_long (nullish_expr d) = nullish_long d

cond_long : {typed : Bool} {a : List Sym} {u : Expr} {e : ℕ} → IsCond true typed a u e → 1 ≤ length a
cond_long (or_expr d) = or_long d
cond_long (conditional_expr q p {xs = xs} {ys = ys} {zs = zs} d e f) =
    omega (arith, length-append xs (Mark m.Question q ∷ ys), length-append (xs ++ Mark m.Question q ∷ ys) (Mark m.Colon p ∷ zs))

pub expr_long : {typed : Bool} {a : List Sym} {u : Expr} {e : ℕ} → IsExpr true typed a u e → 1 ≤ length a
expr_long (arrow_expr o p q d e f) = omega arith
expr_long (short_arrow_expr s o p i d) = omega arith
expr_long (assign_expr s {xs = xs} {ys = ys} d t i e) = omega (arith, length-append xs (s ∷ ys))
expr_long (cond_expr d) = cond_long d

-- ---- what follows the first part of an expression, where that goes on with nothing

-- a reading of a Cond does not go on with these
abbrev pub stops : Sym → Bool
stops (Mark m.Arrow o) = true
stops (Mark m.Colon o) = true
stops (Mark m.Assign o) = true
stops _ = false

abbrev pub GoesOn : Sym → Type 0
GoesOn s = stops s ≡ false

binary_goes : {operator : BinaryOperator} (s : Sym) → binary_of s ≡ Some operator → GoesOn s
binary_goes (Mark m.Arrow o) e = absurd (cc)
binary_goes (Mark m.Colon o) e = absurd (cc)
binary_goes (Mark m.Assign o) e = absurd (cc)
binary_goes (Mark _ o) e = refl
binary_goes (Lex _ s o) e = refl

update_goes : {operator : UpdateOperator} (s : Sym) → update_of s ≡ Some operator → GoesOn s
update_goes (Mark m.Arrow o) e = absurd (cc)
update_goes (Mark m.Colon o) e = absurd (cc)
update_goes (Mark m.Assign o) e = absurd (cc)
update_goes (Mark _ o) e = refl
update_goes (Lex _ s o) e = refl

-- no operator before an operand
abbrev pub Leads : Sym → Type 0
Leads s = ((operator : UnaryOperator) → unary_of s ≡ Some operator → ⊥) × ((operator : UpdateOperator) → update_of s ≡ Some operator → ⊥)

-- what is left behind the first part is Q
module _ (xs : List Sym) (n : ℕ) (Q : List Sym → Type 0) (prim : (a : List Sym) (u : Expr) (e : ℕ) (us : List Sym) → IsPrimary true a u e → e ≤ n → xs ≡ a ++ us → Q us)
    (ends : (us : List Sym) → Q us → Starts GoesOn us → ⊥) (leads : (s : Sym) (vs : List Sym) → xs ≡ s ∷ vs → Leads s) where
  pub chain_stops : {a : List Sym} {u : Expr} {e : ℕ} (us : List Sym) → IsChain true a u e → e ≤ n → xs ≡ a ++ us → Q us
  chain_stops {a = a} {u = u} {e = e} us (primary_expr d) i w = prim a u e us d i w
  chain_stops us (member_expr k o s p {xs = a} d j) i w = absurd (ends _ (chain_stops (Mark m.Dot o ∷ word k s p ∷ us) d (omega (arith, i)) (w ∙ append_assoc a (Mark m.Dot o ∷ word k s p ∷ []) us)) refl)
  chain_stops us (index_expr o p {xs = a} {ys = b} d f) i w =
      absurd (ends _ (chain_stops (Mark m.OpenBracket o ∷ b ++ Mark m.CloseBracket p ∷ [] ++ us) d (omega (arith, i)) (w ∙ ap (λ v. v ++ us) (append_assoc a (Mark m.OpenBracket o ∷ b) (Mark m.CloseBracket p ∷ []))
      ∙ append_assoc a (Mark m.OpenBracket o ∷ b ++ Mark m.CloseBracket p ∷ []) us)) refl)
  chain_stops us (call_expr o p {xs = a} {ys = b} d f) i w =
      absurd (ends _ (chain_stops (Mark m.OpenParen o ∷ b ++ Mark m.CloseParen p ∷ [] ++ us) d (omega (arith, i)) (w ∙ ap (λ v. v ++ us) (append_assoc a (Mark m.OpenParen o ∷ b) (Mark m.CloseParen p ∷ []))
      ∙ append_assoc a (Mark m.OpenParen o ∷ b ++ Mark m.CloseParen p ∷ []) us)) refl)

  unary_stops : {a : List Sym} {u : Expr} {e : ℕ} (us : List Sym) → IsUnary true a u e → e ≤ n → xs ≡ a ++ us → Q us
  unary_stops us (prefix_expr s {operator = operator} {xs = a} j d) i w = absurd ((leads s (a ++ us) w).0 operator j)
  unary_stops us (update_before s {operator = operator} {xs = a} j d t) i w = absurd ((leads s (a ++ us) w).1 operator j)
  unary_stops us (update_after s {xs = a} d t j) i w = absurd (ends _ (chain_stops (s ∷ us) d (omega (arith, i)) (w ∙ append_assoc a (s ∷ []) us)) (update_goes s j))
  unary_stops us (chain_expr d) i w = chain_stops us d i w

  level_stops : {l : ℕ} {a : List Sym} {u : Expr} {e : ℕ} (us : List Sym) → IsLevel true l a u e → e ≤ n → xs ≡ a ++ us → Q us
  level_stops us (unary_operand j d) i w = unary_stops us d i w
  level_stops us (next_level d) i w = level_stops us d i w
  level_stops us (joined_expr s {xs = a} {ys = b} d j k f) i w = absurd (ends _ (level_stops (s ∷ b ++ us) d (omega (arith, i)) (w ∙ append_assoc a (s ∷ b) us)) (binary_goes s j))
  level_stops us (as_expr s o {xs = a} {ys = b} j d t k) i w = absurd (ends _ (level_stops (word words.As s o ∷ b ++ us) d (omega (arith, i)) (w ∙ append_assoc a (word words.As s o ∷ b) us)) refl)

  nullish_stops : {a : List Sym} {u : Expr} {e : ℕ} (us : List Sym) → IsNullish true a u e → e ≤ n → xs ≡ a ++ us → Q us
  nullish_stops us (first_nullish o {xs = a} {ys = b} d f) i w = absurd (ends _ (level_stops (Mark m.Nullish o ∷ b ++ us) d (omega (arith, i)) (w ∙ append_assoc a (Mark m.Nullish o ∷ b) us)) refl)
  nullish_stops us (next_nullish o {xs = a} {ys = b} d f) i w = absurd (ends _ (nullish_stops (Mark m.Nullish o ∷ b ++ us) d (omega (arith, i)) (w ∙ append_assoc a (Mark m.Nullish o ∷ b) us)) refl)

  or_stops : {a : List Sym} {u : Expr} {e : ℕ} (us : List Sym) → IsOr true a u e → e ≤ n → xs ≡ a ++ us → Q us
  or_stops us (level_expr d) i w = level_stops us d i w
  or_stops us (nullish_expr d) i w = nullish_stops us d i w

  pub cond_stops : {typed : Bool} {a : List Sym} {u : Expr} {e : ℕ} (us : List Sym) → IsCond true typed a u e → e ≤ n → xs ≡ a ++ us → Q us
  cond_stops us (or_expr d) i w = or_stops us d i w
  cond_stops us (conditional_expr q p {xs = a} {ys = b} {zs = c} d f g) i w =
      absurd (ends _ (or_stops (Mark m.Question q ∷ b ++ Mark m.Colon p ∷ c ++ us) d (omega (arith, i)) (w ∙ ap (λ v. v ++ us) (append_assoc a (Mark m.Question q ∷ b) (Mark m.Colon p ∷ c))
      ∙ append_assoc a (Mark m.Question q ∷ b ++ Mark m.Colon p ∷ c) us)) refl)
