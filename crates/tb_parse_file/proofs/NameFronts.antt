-- What begins with a word, a word and `=` is no expression, and no statement: behind a word an expression goes on with no word but `as`, and
-- behind that a type begins.
use Rattle.std.proofs.Common.{◌≡◌, ℕ, Bool, true, List, [], ◌∷◌, ◌++◌, sym, ◌∙◌, ap, append_assoc}
use Rattle.std.specs.Prelude.{Some, None}
use Rattle.tb_tree.specs.declared.marks.Mark.TheVariants as m
use Rattle.tb_tree.specs.declared.words.Word.{Word}
use Rattle.tb_tree.specs.declared.words.Word.TheVariants as words
use Rattle.tb_tree.specs.declared.types.TypeExpr.{TypeExpr}
use Rattle.tb_tree.specs.declared.exprs.BinaryOperator.{BinaryOperator}
use Rattle.tb_tree.specs.declared.exprs.UnaryOperator.{UnaryOperator}
use Rattle.tb_tree.specs.declared.exprs.UpdateOperator.{UpdateOperator}
use Rattle.tb_tree.specs.declared.exprs.AssignOperator.{AssignOperator}
use Rattle.tb_tree.specs.declared.exprs.Expr.{Expr}
use Rattle.tb_tree.specs.Sym.{Sym, Mark}
use Rattle.tb_tree.specs.Shapes.{word, unmarked, marked}
use Rattle.tb_tree.specs.Types as t
use Rattle.tb_tree.specs.Exprs as g
use Rattle.tb_tree.proofs.Ends.{append_three}

-- ---- no type begins with `=`

atom_begins : {a : List Sym} {u : TypeExpr} {own depth : ℕ} (q : ℕ) (ys zs : List Sym) → t.IsAtom a u own depth → Mark m.Assign q ∷ ys ≡ a ++ zs → ⊥
atom_begins q ys zs (t.keyword_type s o i) e = cc
atom_begins q ys zs (t.boolean_type s o i) e = cc
atom_begins q ys zs (t.string_type s o) e = cc
atom_begins q ys zs (t.integer_type s o i) e = cc
atom_begins q ys zs (t.minus_type s o p i) e = cc
atom_begins q ys zs (t.written_type s o i) e = cc
atom_begins q ys zs (t.parens_type o p d) e = cc
atom_begins q ys zs (t.object_type o p d) e = cc

element_begins : {a : List Sym} {u : TypeExpr} {own depth : ℕ} (q : ℕ) (ys zs : List Sym) → t.IsElement a u own depth → Mark m.Assign q ∷ ys ≡ a ++ zs → ⊥
element_begins q ys zs (t.plain_element {xs = a} {ys = b} d r) e = atom_begins q ys (b ++ zs) d (e ∙ append_assoc a b zs)
element_begins q ys zs (t.read_only_element s o d r) e = cc

union_begins : {a : List Sym} {u : TypeExpr} {own depth : ℕ} (q : ℕ) (ys zs : List Sym) → t.IsUnion a u own depth → Mark m.Assign q ∷ ys ≡ a ++ zs → ⊥
union_begins q ys zs (t.one_element d) e = element_begins q ys zs d e
union_begins q ys zs (t.several_elements bar {xs = a} {ys = b} {zs = x} d r f) e = element_begins q ys (Mark m.Bar bar ∷ b ++ (x ++ zs)) d (e ∙ append_three a (Mark m.Bar bar ∷ b) x zs)

type_begins : {a : List Sym} {u : TypeExpr} {own depth : ℕ} (q : ℕ) (ys zs : List Sym) → t.IsType a u own depth → Mark m.Assign q ∷ ys ≡ a ++ zs → ⊥
type_begins q ys zs (t.function_type o p r d f) e = cc
type_begins q ys zs (t.union_type unmarked d) e = union_begins q ys zs d e
type_begins q ys zs (t.union_type (marked n) d) e = cc

-- ---- what an expression leaves there

no_binary : (k : Word) (s : List ℕ) (o : ℕ) (z : Sym) {operator : BinaryOperator} → g.binary_of z ≡ Some operator → z ≡ word k s o → ⊥
no_binary k s o z {operator = operator} e i = let n : None ≡ Some operator = sym (ap g.binary_of i) ∙ e in cc

no_update : (k : Word) (s : List ℕ) (o : ℕ) (z : Sym) {operator : UpdateOperator} → g.update_of z ≡ Some operator → z ≡ word k s o → ⊥
no_update k s o z {operator = operator} e i = let n : None ≡ Some operator = sym (ap g.update_of i) ∙ e in cc

no_assign : (k : Word) (s : List ℕ) (o : ℕ) (z : Sym) {operator : AssignOperator} → g.assign_of z ≡ Some operator → z ≡ word k s o → ⊥
no_assign k s o z {operator = operator} e i = let n : None ≡ Some operator = sym (ap g.assign_of i) ∙ e in cc

no_type_unary : (s : List ℕ) (o : ℕ) (z : Sym) {operator : UnaryOperator} → g.unary_of z ≡ Some operator → z ≡ word words.Type s o → ⊥
no_type_unary s o z {operator = operator} e i = let n : None ≡ Some operator = sym (ap g.unary_of i) ∙ e in cc

module _ (s : List ℕ) (o : ℕ) (k : Word) (n : List ℕ) (p : ℕ) (q : ℕ) (vs : List Sym) where
  -- `type`, a word and `=`
  abbrev Front : List Sym
  Front = word words.Type s o ∷ word k n p ∷ Mark m.Assign q ∷ vs

  abbrev Left : List Sym
  Left = word k n p ∷ Mark m.Assign q ∷ vs

  primary_leaves : {x : List Sym} {of : Expr} {d : ℕ} (zs : List Sym) → g.IsPrimary true x of d → x ++ zs ≡ Front → zs ≡ Left
  primary_leaves zs (g.name_expr s' at i) e = cc
  primary_leaves zs (g.this_expr s' at) e = cc
  primary_leaves zs (g.number_expr s' at) e = cc
  primary_leaves zs (g.string_expr s' at) e = cc
  primary_leaves zs (g.template_expr s' at) e = cc
  primary_leaves zs (g.spans_expr s' at d) e = cc
  primary_leaves zs (g.boolean_expr s' at i) e = cc
  primary_leaves zs (g.null_expr s' at) e = cc
  primary_leaves zs (g.undefined_expr s' at) e = cc
  primary_leaves zs (g.parens_expr o' p' d) e = cc
  primary_leaves zs (g.array_expr o' p' d) e = cc
  primary_leaves zs (g.object_expr o' p' d) e = cc
  primary_leaves zs (g.new_expr ns na s' at o' p' i d) e = cc

  chain_leaves : {x : List Sym} {of : Expr} {d : ℕ} (zs : List Sym) → g.IsChain true x of d → x ++ zs ≡ Front → zs ≡ Left
  chain_leaves zs (g.primary_expr d) e = primary_leaves zs d e
  chain_leaves zs (g.member_expr kind dot s' at {xs = x} d i) e =
      let j : Mark m.Dot dot ∷ word kind s' at ∷ zs ≡ Left = chain_leaves (Mark m.Dot dot ∷ word kind s' at ∷ zs) d (sym (append_assoc x (Mark m.Dot dot ∷ word kind s' at ∷ []) zs) ∙ e) in cc
  chain_leaves zs (g.index_expr o' p' {xs = x} {ys = y} d r) e =
      let j : Mark m.OpenBracket o' ∷ y ++ (Mark m.CloseBracket p' ∷ zs) ≡ Left =
      chain_leaves (Mark m.OpenBracket o' ∷ y ++ (Mark m.CloseBracket p' ∷ zs)) d (sym (append_three x (Mark m.OpenBracket o' ∷ y) (Mark m.CloseBracket p' ∷ []) zs) ∙ e) in cc
  chain_leaves zs (g.call_expr o' p' {xs = x} {ys = y} d r) e =
      let j : Mark m.OpenParen o' ∷ y ++ (Mark m.CloseParen p' ∷ zs) ≡ Left =
      chain_leaves (Mark m.OpenParen o' ∷ y ++ (Mark m.CloseParen p' ∷ zs)) d (sym (append_three x (Mark m.OpenParen o' ∷ y) (Mark m.CloseParen p' ∷ []) zs) ∙ e) in cc

  unary_leaves : {x : List Sym} {of : Expr} {d : ℕ} (zs : List Sym) → g.IsUnary true x of d → x ++ zs ≡ Front → zs ≡ Left
  unary_leaves zs (g.prefix_expr z i d) e = let j : z ≡ word words.Type s o = cc in absurd (no_type_unary s o z i j)
  unary_leaves zs (g.update_before z i d h) e = let j : z ≡ word words.Type s o = cc in absurd (no_update words.Type s o z i j)
  unary_leaves zs (g.update_after z {xs = x} d h i) e =
      let j : z ∷ zs ≡ Left = chain_leaves (z ∷ zs) d (sym (append_assoc x (z ∷ []) zs) ∙ e) in
      let l : z ≡ word k n p = cc in absurd (no_update k n p z i l)
  unary_leaves zs (g.chain_expr d) e = chain_leaves zs d e

  level_leaves : {l : ℕ} {x : List Sym} {of : Expr} {d : ℕ} (zs : List Sym) → g.IsLevel true l x of d → x ++ zs ≡ Front → zs ≡ Left
  level_leaves zs (g.unary_operand i d) e = unary_leaves zs d e
  level_leaves zs (g.next_level d) e = level_leaves zs d e
  level_leaves zs (g.joined_expr z {xs = x} {ys = y} d i h r) e =
      let j : z ∷ y ++ zs ≡ Left = level_leaves (z ∷ y ++ zs) d (sym (append_assoc x (z ∷ y) zs) ∙ e) in
      let l : z ≡ word k n p = cc in absurd (no_binary k n p z i l)
  level_leaves zs (g.as_expr s' at {xs = x} {ys = y} i d r h) e =
      let j : word words.As s' at ∷ y ++ zs ≡ Left = level_leaves (word words.As s' at ∷ y ++ zs) d (sym (append_assoc x (word words.As s' at ∷ y) zs) ∙ e) in
      let l : Mark m.Assign q ∷ vs ≡ y ++ zs = cc in absurd (type_begins q vs zs r l)

  nullish_leaves : {x : List Sym} {of : Expr} {d : ℕ} (zs : List Sym) → g.IsNullish true x of d → x ++ zs ≡ Front → zs ≡ Left
  nullish_leaves zs (g.first_nullish at {xs = x} {ys = y} d r) e =
      let j : Mark m.Nullish at ∷ y ++ zs ≡ Left = level_leaves (Mark m.Nullish at ∷ y ++ zs) d (sym (append_assoc x (Mark m.Nullish at ∷ y) zs) ∙ e) in cc
  nullish_leaves zs (g.next_nullish at {xs = x} {ys = y} d r) e =
      let j : Mark m.Nullish at ∷ y ++ zs ≡ Left = nullish_leaves (Mark m.Nullish at ∷ y ++ zs) d (sym (append_assoc x (Mark m.Nullish at ∷ y) zs) ∙ e) in cc

  or_leaves : {x : List Sym} {of : Expr} {d : ℕ} (zs : List Sym) → g.IsOr true x of d → x ++ zs ≡ Front → zs ≡ Left
  or_leaves zs (g.level_expr d) e = level_leaves zs d e
  or_leaves zs (g.nullish_expr d) e = nullish_leaves zs d e

  cond_leaves : {typed : Bool} {x : List Sym} {of : Expr} {d : ℕ} (zs : List Sym) → g.IsCond true typed x of d → x ++ zs ≡ Front → zs ≡ Left
  cond_leaves zs (g.or_expr d) e = or_leaves zs d e
  cond_leaves zs (g.conditional_expr a b {xs = x} {ys = y} {zs = z} d r f) e =
      let j : Mark m.Question a ∷ y ++ (Mark m.Colon b ∷ z ++ zs) ≡ Left =
      or_leaves (Mark m.Question a ∷ y ++ (Mark m.Colon b ∷ z ++ zs)) d (sym (append_three x (Mark m.Question a ∷ y) (Mark m.Colon b ∷ z) zs) ∙ e) in cc

  expr_leaves : {typed : Bool} {x : List Sym} {of : Expr} {d : ℕ} (zs : List Sym) → g.IsExpr true typed x of d → x ++ zs ≡ Front → zs ≡ Left
  expr_leaves zs (g.arrow_expr o' p' a d r b) e = cc
  expr_leaves zs (g.short_arrow_expr s' at a i b) e = cc
  expr_leaves zs (g.assign_expr z {xs = x} {ys = y} d h i r) e =
      let j : z ∷ y ++ zs ≡ Left = chain_leaves (z ∷ y ++ zs) d (sym (append_assoc x (z ∷ y) zs) ∙ e) in
      let l : z ≡ word k n p = cc in absurd (no_assign k n p z i l)
  expr_leaves zs (g.cond_expr d) e = cond_leaves zs d e

  -- no `Expr ;` begins so
  pub no_sentence : {x : List Sym} {of : Expr} {d : ℕ} (at : ℕ) (zs : List Sym) → g.IsExpr true true x of d → x ++ (Mark m.Semicolon at ∷ zs) ≡ Front → ⊥
  no_sentence at zs d e = let j : Mark m.Semicolon at ∷ zs ≡ Left = expr_leaves (Mark m.Semicolon at ∷ zs) d e in cc
