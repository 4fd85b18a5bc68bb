-- What an expression begins with, by operators and operands.
use Rattle.std.proofs.Common.{◌≡◌, ℕ, suc, ◌+◌, ◌≤◌, ◌<◌, max, Bool, true, false, List, [], ◌∷◌, ◌++◌, refl, sym, ◌∙◌, ap, arith, append_assoc, append-nil}
use Rattle.std.specs.Prelude.{Option, Some, None}
use Rattle.tb_tree.specs.declared.marks.Mark.TheVariants as m
use Rattle.tb_tree.specs.declared.words.Word.{Word}
use Rattle.tb_tree.specs.declared.words.Word.TheVariants as w
use Rattle.tb_tree.specs.declared.words.Class.TheVariants as c
use Rattle.tb_tree.specs.declared.exprs.Expr.{Expr}
use Rattle.tb_tree.specs.Sym.{Sym, Mark, Lex, at_of}
use Rattle.tb_tree.specs.Words.{is_name}
use Rattle.tb_tree.specs.Shapes.{word, start_of}
use Rattle.tb_tree.specs.Types.{truth_of}
use Rattle.tb_tree.specs.Exprs.{unary_of, update_of, IsOr, level_expr, nullish_expr, IsNullish, first_nullish, next_nullish, IsLevel, unary_operand, next_level, joined_expr, as_expr, IsUnary, prefix_expr, update_before, update_after, chain_expr, IsChain, primary_expr, member_expr, index_expr, call_expr, IsPrimary, name_expr, this_expr, number_expr, string_expr, template_expr, spans_expr, boolean_expr, null_expr, undefined_expr, parens_expr, array_expr, object_expr, new_expr}

-- ---- a list that is not empty

pub record Begun (xs : List Sym) : Type 0 where
  pub head : Sym
  pub tail : List Sym
  pub whole : xs ≡ head ∷ tail

begun : (s : Sym) (ss : List Sym) → Begun (s ∷ ss)
begun s ss = record { head = s; tail = ss; whole = refl }

begun_on : {xs : List Sym} (ys : List Sym) → Begun xs → Begun (xs ++ ys)
begun_on ys b = record { head = b.head; tail = b.tail ++ ys; whole = ap (λ v. v ++ ys) b.whole }

pub begun_start : {xs : List Sym} (zs : List Sym) → Begun xs → start_of (xs ++ zs) ≡ start_of xs
begun_start zs b = ap (λ v. start_of (v ++ zs)) b.whole ∙ sym (ap start_of b.whole)

-- ---- a primary and a chain begin with no operator

pub record Operand (xs : List Sym) : Type 0 where
  pub head : Sym
  pub tail : List Sym
  pub whole : xs ≡ head ∷ tail
  pub no_unary : unary_of head ≡ None
  pub no_update : update_of head ≡ None

operand : (s : Sym) (ss : List Sym) → unary_of s ≡ None → update_of s ≡ None → Operand (s ∷ ss)
operand s ss p q = record { head = s; tail = ss; whole = refl; no_unary = p; no_update = q }

operand_on : {xs : List Sym} (ys : List Sym) → Operand xs → Operand (xs ++ ys)
operand_on ys b = record { head = b.head; tail = b.tail ++ ys; whole = ap (λ v. v ++ ys) b.whole; no_unary = b.no_unary; no_update = b.no_update }

-- a word other than `typeof` is no operator
name_no_unary : (k : Word) (s : List ℕ) (o : ℕ) → is_name k ≡ true → unary_of (word k s o) ≡ None
name_no_unary w.Typeof s o h = let n : false ≡ true = h in cc
name_no_unary _ s o h = refl

truth_no_unary : (k : Word) (s : List ℕ) (o : ℕ) {of : Bool} → truth_of k ≡ Some of → unary_of (word k s o) ≡ None
truth_no_unary w.Typeof s o h = let n : None ≡ Some _ = h in cc
truth_no_unary _ s o h = refl

pub primary_operand : {xs : List Sym} {of : Expr} {d : ℕ} → IsPrimary true xs of d → Operand xs
primary_operand (name_expr {kind = k} s o h) = operand (word k s o) [] (name_no_unary k s o h) refl
primary_operand (this_expr s o) = operand (word w.This s o) [] refl refl
primary_operand (number_expr s o) = operand (Lex c.Number s o) [] refl refl
primary_operand (string_expr s o) = operand (Lex c.String s o) [] refl refl
primary_operand (template_expr s o) = operand _ [] refl refl
primary_operand (spans_expr s o {xs = xs} q) = operand _ xs refl refl
primary_operand (boolean_expr {kind = k} s o h) = operand (word k s o) [] (truth_no_unary k s o h) refl
primary_operand (null_expr s o) = operand (word w.Null s o) [] refl refl
primary_operand (undefined_expr s o) = operand (word w.Undefined s o) [] refl refl
primary_operand (parens_expr o p {xs = xs} q) = operand (Mark m.OpenParen o) (xs ++ Mark m.CloseParen p ∷ []) refl refl
primary_operand (array_expr o p {xs = xs} q) = operand (Mark m.OpenBracket o) (xs ++ Mark m.CloseBracket p ∷ []) refl refl
primary_operand (object_expr o p {xs = xs} q) = operand (Mark m.OpenBrace o) (xs ++ Mark m.CloseBrace p ∷ []) refl refl
primary_operand (new_expr {kind = k} s o t p i j {xs = xs} h q) = operand (word w.New s o) (word k t p ∷ Mark m.OpenParen i ∷ xs ++ Mark m.CloseParen j ∷ []) refl refl

pub chain_operand : {xs : List Sym} {of : Expr} {d : ℕ} → IsChain true xs of d → Operand xs
chain_operand (primary_expr q) = primary_operand q
chain_operand (member_expr k dot s o q n) = operand_on _ (chain_operand q)
chain_operand (index_expr o p q r) = operand_on _ (operand_on _ (chain_operand q))
chain_operand (call_expr o p q r) = operand_on _ (operand_on _ (chain_operand q))

-- ---- what has operands is not empty

operand_begun : {xs : List Sym} → Operand xs → Begun xs
operand_begun b = record { head = b.head; tail = b.tail; whole = b.whole }

pub chain_begun : {xs : List Sym} {of : Expr} {d : ℕ} → IsChain true xs of d → Begun xs
chain_begun q = operand_begun (chain_operand q)

pub unary_begun : {xs : List Sym} {of : Expr} {d : ℕ} → IsUnary true xs of d → Begun xs
unary_begun (prefix_expr s {xs = xs} h q) = begun s xs
unary_begun (update_before s {xs = xs} h q t) = begun s xs
unary_begun (update_after s q t h) = begun_on _ (chain_begun q)
unary_begun (chain_expr q) = chain_begun q

pub level_begun : {l : ℕ} {xs : List Sym} {of : Expr} {d : ℕ} → IsLevel true l xs of d → Begun xs
level_begun (unary_operand e q) = unary_begun q
level_begun (next_level q) = level_begun q
level_begun (joined_expr s q h i r) = begun_on _ (level_begun q)
level_begun (as_expr s o e q r h) = begun_on _ (level_begun q)

pub nullish_begun : {xs : List Sym} {of : Expr} {d : ℕ} → IsNullish true xs of d → Begun xs
nullish_begun (first_nullish o q r) = begun_on _ (level_begun q)
nullish_begun (next_nullish o q r) = begun_on _ (nullish_begun q)

pub or_begun : {xs : List Sym} {of : Expr} {d : ℕ} → IsOr true xs of d → Begun xs
or_begun (level_expr q) = level_begun q
or_begun (nullish_expr q) = nullish_begun q

-- ---- depths

pub primary_deep : {xs : List Sym} {of : Expr} {d : ℕ} → IsPrimary true xs of d → 0 < d
primary_deep (name_expr s o h) = omega arith
primary_deep (this_expr s o) = omega arith
primary_deep (number_expr s o) = omega arith
primary_deep (string_expr s o) = omega arith
primary_deep (template_expr s o) = omega arith
primary_deep (spans_expr s o q) = omega arith
primary_deep (boolean_expr s o h) = omega arith
primary_deep (null_expr s o) = omega arith
primary_deep (undefined_expr s o) = omega arith
primary_deep (parens_expr o p q) = omega arith
primary_deep (array_expr o p q) = omega arith
primary_deep (object_expr o p q) = omega arith
primary_deep (new_expr s o t p i j h q) = omega arith

pub chain_deep : {xs : List Sym} {of : Expr} {d : ℕ} → IsChain true xs of d → 0 < d
chain_deep (primary_expr q) = primary_deep q
chain_deep (member_expr k dot s o q n) = omega arith
chain_deep (index_expr o p q r) = omega arith
chain_deep (call_expr o p q r) = omega arith

pub unary_deep : {xs : List Sym} {of : Expr} {d : ℕ} → IsUnary true xs of d → 0 < d
unary_deep (prefix_expr s h q) = omega arith
unary_deep (update_before s h q t) = omega arith
unary_deep (update_after s q t h) = omega arith
unary_deep (chain_expr q) = chain_deep q

-- ---- a chain begins with a primary

pub record Primed (xs : List Sym) (d : ℕ) : Type 0 where
  pub front : List Sym
  pub more : List Sym
  pub of : Expr
  pub depth : ℕ
  pub whole : xs ≡ front ++ more
  pub primary : IsPrimary true front of depth
  pub shallow : depth ≤ d

primed_on : {xs : List Sym} {d : ℕ} (ys : List Sym) (e : ℕ) → d ≤ e → Primed xs d → Primed (xs ++ ys) e
primed_on ys e le b = record {
  front = b.front;
  more = b.more ++ ys;
  of = b.of;
  depth = b.depth;
  whole = ap (λ v. v ++ ys) b.whole ∙ append_assoc b.front b.more ys;
  primary = b.primary;
  shallow = omega (arith, le, b.shallow);
}

pub primed : {xs : List Sym} {of : Expr} {d : ℕ} → IsChain true xs of d → Primed xs d
primed {xs = xs} (primary_expr q) = record { front = xs; more = []; of = _; depth = _; whole = sym (append-nil xs); primary = q; shallow = omega arith }
primed (member_expr k dot s o q n) = primed_on _ _ (omega arith) (primed q)
primed (index_expr o p {d = d} q r) = primed_on _ _ (omega arith) (primed_on _ d (omega arith) (primed q))
primed (call_expr o p {d = d} q r) = primed_on _ _ (omega arith) (primed_on _ d (omega arith) (primed q))
