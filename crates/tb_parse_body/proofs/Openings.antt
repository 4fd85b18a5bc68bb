-- What an expression begins with: no closing bracket.
use Rattle.std.proofs.Common.{◌≡◌, ℕ, ◌≤◌, Bool, true, false, List, [], ◌∷◌, ◌++◌, length, refl, ap, sym, subst, arith}
use Rattle.std.specs.Prelude.{Option, Some, None}
use Rattle.tb_tree.specs.declared.marks.Mark.TheVariants as m
use Rattle.tb_tree.specs.declared.words.Word.TheVariants as w
use Rattle.tb_tree.specs.declared.exprs.Expr.{Expr}
use Rattle.tb_tree.specs.declared.exprs.UnaryOperator.{UnaryOperator}
use Rattle.tb_tree.specs.declared.exprs.UpdateOperator.{UpdateOperator}
use Rattle.tb_tree.specs.Sym.{Sym, Mark, Lex}
use Rattle.tb_tree.specs.Longest.{Starts}
use Rattle.tb_tree.specs.Shapes.{start_of}
use Rattle.tb_tree.specs.Exprs.{unary_of, update_of, IsExpr, arrow_expr, short_arrow_expr, assign_expr, cond_expr, IsCond, or_expr, conditional_expr, IsOr, level_expr, nullish_expr, IsNullish, first_nullish, next_nullish, IsLevel, unary_operand, next_level, joined_expr, as_expr, IsUnary, prefix_expr, update_before, update_after, chain_expr, IsChain, primary_expr, member_expr, index_expr, call_expr, IsPrimary, name_expr, this_expr, number_expr, string_expr, template_expr, spans_expr, boolean_expr, null_expr, undefined_expr, parens_expr, array_expr, object_expr, new_expr}
use Rattle.tb_parse_body.specs.Rules.{InList}

-- a list that begins with no closing bracket
pub record Opens (xs : List Sym) : Type 0 where
  pub head : Sym
  pub tail : List Sym
  pub whole : xs ≡ head ∷ tail
  pub apart : InList head

opens : (s : Sym) (ss : List Sym) → InList s → Opens (s ∷ ss)
opens s ss h = record { head = s; tail = ss; whole = refl; apart = h }

opens_on : {xs : List Sym} (ys : List Sym) → Opens xs → Opens (xs ++ ys)
opens_on ys b = record { head = b.head; tail = b.tail ++ ys; whole = ap (λ v. v ++ ys) b.whole; apart = b.apart }

pub opens_starts : {xs : List Sym} (us : List Sym) → Opens xs → Starts InList (xs ++ us)
opens_starts us b = subst (λ v. Starts InList (v ++ us)) (sym b.whole) b.apart

pub opens_long : {xs : List Sym} → Opens xs → 1 ≤ length xs
opens_long b = omega (arith, ap length b.whole)

pub opens_start : {xs : List Sym} (zs : List Sym) → Opens xs → start_of (xs ++ zs) ≡ start_of xs
opens_start zs b = subst (λ v. start_of (v ++ zs) ≡ start_of v) (sym b.whole) refl

unary_opens : {o : UnaryOperator} (s : Sym) → unary_of s ≡ Some o → InList s
unary_opens (Lex k spelled at) e = refl
unary_opens (Mark m.CloseParen at) e = cc
unary_opens (Mark m.CloseBracket at) e = cc
unary_opens (Mark m.CloseBrace at) e = cc
unary_opens (Mark _ at) e = refl

update_opens : {o : UpdateOperator} (s : Sym) → update_of s ≡ Some o → InList s
update_opens (Lex k spelled at) e = refl
update_opens (Mark m.CloseParen at) e = cc
update_opens (Mark m.CloseBracket at) e = cc
update_opens (Mark m.CloseBrace at) e = cc
update_opens (Mark _ at) e = refl

pub primary_begins : {xs : List Sym} {of : Expr} {d : ℕ} → IsPrimary true xs of d → Opens xs
primary_begins (name_expr s o h) = opens _ [] refl
primary_begins (this_expr s o) = opens _ [] refl
primary_begins (number_expr s o) = opens _ [] refl
primary_begins (string_expr s o) = opens _ [] refl
primary_begins (template_expr s o) = opens _ [] refl
primary_begins (spans_expr s o q) = opens _ _ refl
primary_begins (boolean_expr s o h) = opens _ [] refl
primary_begins (null_expr s o) = opens _ [] refl
primary_begins (undefined_expr s o) = opens _ [] refl
primary_begins (parens_expr o p q) = opens _ _ refl
primary_begins (array_expr o p q) = opens _ _ refl
primary_begins (object_expr o p q) = opens _ _ refl
primary_begins (new_expr s o t p a b h q) = opens _ _ refl

pub chain_begins : {xs : List Sym} {of : Expr} {d : ℕ} → IsChain true xs of d → Opens xs
chain_begins (primary_expr q) = primary_begins q
chain_begins (member_expr k o s p q n) = opens_on _ (chain_begins q)
chain_begins (index_expr o p q e) = opens_on _ (opens_on _ (chain_begins q))
chain_begins (call_expr o p q e) = opens_on _ (opens_on _ (chain_begins q))

unary_begins : {xs : List Sym} {of : Expr} {d : ℕ} → IsUnary true xs of d → Opens xs
unary_begins (prefix_expr s e q) = opens s _ (unary_opens s e)
unary_begins (update_before s e q t) = opens s _ (update_opens s e)
unary_begins (update_after s q t e) = opens_on _ (chain_begins q)
unary_begins (chain_expr q) = chain_begins q

level_begins : {l : ℕ} {xs : List Sym} {of : Expr} {d : ℕ} → IsLevel true l xs of d → Opens xs
level_begins (unary_operand e q) = unary_begins q
level_begins (next_level q) = level_begins q
level_begins (joined_expr s q e h r) = opens_on _ (level_begins q)
level_begins (as_expr s o e q r h) = opens_on _ (level_begins q)

nullish_begins : {xs : List Sym} {of : Expr} {d : ℕ} → IsNullish true xs of d → Opens xs
nullish_begins (first_nullish o q r) = opens_on _ (level_begins q)
nullish_begins (next_nullish o q r) = opens_on _ (nullish_begins q)

or_begins : {xs : List Sym} {of : Expr} {d : ℕ} → IsOr true xs of d → Opens xs
or_begins (level_expr q) = level_begins q
or_begins (nullish_expr q) = nullish_begins q

cond_begins : {typed : Bool} {xs : List Sym} {of : Expr} {d : ℕ} → IsCond true typed xs of d → Opens xs
cond_begins (or_expr q) = or_begins q
cond_begins (conditional_expr o p q r s) = opens_on _ (opens_on _ (or_begins q))

pub expr_begins : {typed : Bool} {xs : List Sym} {of : Expr} {d : ℕ} → IsExpr true typed xs of d → Opens xs
expr_begins (arrow_expr o p q f r b) = opens _ _ refl
expr_begins (short_arrow_expr s o p h b) = opens _ _ refl
expr_begins (assign_expr s q t e r) = opens_on _ (chain_begins q)
expr_begins (cond_expr q) = cond_begins q
