-- The layouts of expressions and statements that were read scan as what was laid out.
use Rattle.std.proofs.Common.{◌≡◌, ℕ, Bool, true, false, List, [], ◌∷◌, ◌++◌, map, sym, ap, subst, ◌∙◌, refl}
use Rattle.std.specs.Prelude.{codes, Option, Some, None}
use Rattle.std.specs.List.{AllByRecursion, list_all}
use Rattle.tb_tree.specs.declared.marks.Mark.TheVariants as m
use Rattle.tb_tree.specs.declared.words.Word.TheVariants as w
use Rattle.tb_tree.specs.declared.words.Class.TheVariants as c
use Rattle.tb_tree.specs.declared.words.Template.TheVariants as part
use Rattle.tb_tree.specs.declared.types.Key.{Key}
use Rattle.tb_tree.specs.declared.types.Key.TheVariants as k
use Rattle.tb_tree.specs.declared.exprs.UpdateOperator.{UpdateOperator}
use Rattle.tb_tree.specs.declared.exprs.UpdateOperator.TheVariants as update
use Rattle.tb_tree.specs.declared.exprs.BinaryOperator.{BinaryOperator}
use Rattle.tb_tree.specs.declared.exprs.BinaryOperator.TheVariants as binary
use Rattle.tb_tree.specs.declared.exprs.AssignOperator.{AssignOperator}
use Rattle.tb_tree.specs.declared.exprs.AssignOperator.TheVariants as assign
use Rattle.tb_tree.specs.declared.exprs.VarKind.{VarKind}
use Rattle.tb_tree.specs.declared.exprs.Expr.{Expr, out-Expr}
use Rattle.tb_tree.specs.declared.exprs.Expr.TheVariants as expr
use Rattle.tb_tree.specs.declared.exprs.ArrowBody.TheOpen.{Expr-F}
use Rattle.tb_tree.specs.declared.exprs.TemplateSpan.{TemplateSpan}
use Rattle.tb_tree.specs.declared.exprs.Prop.{Prop}
use Rattle.tb_tree.specs.declared.exprs.ArrowBody.{ArrowBody}
use Rattle.tb_tree.specs.declared.exprs.Param.{Param}
use Rattle.tb_tree.specs.declared.exprs.Block.{Block}
use Rattle.tb_tree.specs.declared.exprs.BlockItem.{BlockItem}
use Rattle.tb_tree.specs.declared.exprs.Var.{Var}
use Rattle.tb_tree.specs.declared.exprs.Declarator.{Declarator}
use Rattle.tb_tree.specs.declared.exprs.Function.{Function}
use Rattle.tb_tree.specs.declared.exprs.Stmt.{Stmt}
use Rattle.tb_tree.specs.declared.exprs.ForStart.{ForStart}
use Rattle.tb_tree.specs.declared.exprs.Clause.{Clause}
use Rattle.tb_tree.specs.Sym.{Sym, Mark, Lex, at_of}
use Rattle.tb_tree.specs.Shapes.{word, start_of, key_of}
use Rattle.tb_tree.specs.Exprs as g
use Rattle.tb_layout.specs.Pieces.{Piece, text_of, mark, space, new_line}
use Rattle.tb_layout.specs.Pieces as pieces
use Rattle.tb_layout.specs.Js.{Laid, LaidStmt, update_mark, binary_mark, assign_mark, in_parens, lines, body_pieces, part_pieces, value_pieces, key_pieces, laid_all, laid_spans}
use Rattle.tb_layout.proofs.Written as wr
use Rattle.tb_layout.proofs.Written.{js_arrow_body, js_block_item, js_clause, js_expr, js_start, js_prop, js_stmt, js_block, js_declarator, js_function, js_param, js_span, js_var, js_optional, js_lines}
use Rattle.tb_emit_law.proofs.Alone.{tick}
use Rattle.tb_emit_law.proofs.Source.{IsFormed}
use Rattle.tb_emit_law.proofs.Sound.{Sound, anything, off_words, off_numbers, is_letters, is_low, is_brace, moves_any, sound_any, sound_both, sound_none, from_any, from_words, space_sound, line_sound, word_sound, letters_sound, number_sound, string_sound, whole_sound, alone_sound, open_moves, close_moves}
use Rattle.tb_scan.specs.declared.braces.Bracket.TheVariants.{Brace}
use Rattle.tb_emit_law.proofs.Parts.{AllLaid, laid_all_sound, laid_list_sound, parens_sound, brackets_sound, lines_sound, body_sound, word_body_sound, part_sound, Opens, opens_more, Fits, fits_by, sound_by, fits_both, fits_any, fits_from, fits_words, word_fits, number_solid, string_solid, ticked_solid, letters_fits, truth_fits, kind_fits, prefixed_fits, joined_fits, parens_fits, object_fits, block_fits, named_none, named_some, Spanned, last_part, more_parts, template_fits}

-- ---- the symbols of a part

abbrev pub Formed : List Sym → Type 0
Formed = AllByRecursion IsFormed

pub front : (xs ys : List Sym) → Formed (xs ++ ys) → Formed xs
front [] ys f = tt
front (x ∷ xs) ys f = (f.0, front xs ys f.1)

pub back : (xs ys : List Sym) → Formed (xs ++ ys) → Formed ys
back [] ys f = f
back (x ∷ xs) ys f = back xs ys f.1

-- on both sides of a symbol
pub sides : (xs : List Sym) (s : Sym) (ys : List Sym) → Formed (xs ++ s ∷ ys) → Formed xs × Formed ys
sides xs s ys f = (front xs (s ∷ ys) f, (back xs (s ∷ ys) f).1)

-- ---- operators

binary_no_brace : (operator : BinaryOperator) → is_brace (binary_mark operator) ≡ false
binary_no_brace binary.Or = refl
binary_no_brace binary.Nullish = refl
binary_no_brace binary.And = refl
binary_no_brace binary.Same = refl
binary_no_brace binary.NotSame = refl
binary_no_brace binary.Less = refl
binary_no_brace binary.Greater = refl
binary_no_brace binary.LessEqual = refl
binary_no_brace binary.GreaterEqual = refl
binary_no_brace binary.Plus = refl
binary_no_brace binary.Minus = refl
binary_no_brace binary.Times = refl
binary_no_brace binary.Divided = refl
binary_no_brace binary.Remainder = refl

assign_no_brace : (operator : AssignOperator) → is_brace (assign_mark operator) ≡ false
assign_no_brace assign.Assign = refl
assign_no_brace assign.Plus = refl
assign_no_brace assign.Minus = refl
assign_no_brace assign.Times = refl
assign_no_brace assign.Divided = refl
assign_no_brace assign.Remainder = refl

update_first : (operator : UpdateOperator) {p : List Piece} → Sound off_numbers p → Fits off_numbers (mark (update_mark operator) ++ p)
update_first update.Increment f = (sound_any (alone_sound m.PlusPlus refl) f, refl)
update_first update.Decrement f = (sound_any (alone_sound m.MinusMinus refl) f, refl)

update_last : (operator : UpdateOperator) {p : List Piece} → Sound off_words p → Opens p → Fits off_numbers (p ++ mark (update_mark operator))
update_last update.Increment {p = p} f o = (from_any (sound_both f (alone_sound m.PlusPlus refl) (λ ys l. refl)), opens_more p (mark m.PlusPlus) o)
update_last update.Decrement {p = p} f o = (from_any (sound_both f (alone_sound m.MinusMinus refl) (λ ys l. refl)), opens_more p (mark m.MinusMinus) o)

-- a Target is no number
target_at : (layer : Expr-F ArrowBody BlockItem Clause Expr ForStart Prop Stmt Block Declarator Function Param TemplateSpan Var) → g.is_target_at layer ≡ true → g.is_number_at layer ≡ false
target_at (Expr-F.Name at name) h = refl
target_at (Expr-F.Member at base member) h = refl
target_at (Expr-F.Index at base index) h = refl
target_at _ h = let no : false ≡ true = h in absurd cc

target_no_number : (of : Expr) → g.is_target of ≡ true → g.is_number of ≡ false
target_no_number of h = target_at (out-Expr of) h

key_sound : (s : Sym) (key : Key) → key_of s ≡ Some key → IsFormed s → Sound off_words (key_pieces key)
key_sound (Lex (c.Word kind) t at) key e f = let same : k.Word t ≡ key = cc in subst (λ x. Sound off_words (key_pieces x)) same (word_sound t f.1 f.2)
key_sound (Lex c.String t at) key e f = let same : k.String t ≡ key = cc in subst (λ x. Sound off_words (key_pieces x)) same (from_any (string_sound t f.0 f.1))
key_sound _ key e f = absurd cc

-- ---- chains: those that are no number may stand before a `.`

abbrev Chain : Expr → ℕ → Type 0
Chain of n = Fits off_numbers (js_expr of n) × (g.is_number of ≡ false → Sound off_words (js_expr of n))

chain_any : (of : Expr) (n : ℕ) {q : List Piece} → js_expr of n ≡ q → Fits anything q → Chain of n
chain_any of n e f = (fits_by e (fits_from f), λ h. sound_by e (from_any f.0))

chain_words : (of : Expr) (n : ℕ) {q : List Piece} → js_expr of n ≡ q → Fits off_words q → Chain of n
chain_words of n e f = (fits_by e (fits_words f), λ h. sound_by e f.0)

chain_number : (of : Expr) (n : ℕ) {q : List Piece} → js_expr of n ≡ q → Fits off_numbers q → g.is_number of ≡ true → Chain of n
chain_number of n e f t = (fits_by e f, λ h. let no : true ≡ false = sym t ∙ h in absurd cc)

-- ---- heads

-- a word and what stands in parentheses
headed : (t : List ℕ) {p : List Piece} → is_letters t ≡ true → list_all is_low t ≡ true → Sound off_numbers p → Fits anything (pieces.word t ++ space ++ in_parens p)
headed t h l f = fits_any (fits_both (letters_fits t h l) space_sound (λ ys i. refl)) (parens_sound f)

do_body : (of : LaidStmt) (n : ℕ) → ((n : ℕ) → Sound anything (of.laid n)) → Fits anything (pieces.word (codes "do") ++ body_pieces n of)
do_body of n h = (word_body_sound n of (letters_sound (codes "do") refl refl) h, (letters_fits (codes "do") refl refl).1)

-- lines in braces behind what they belong to
pub behind_braces : {p : List Piece} (n : ℕ) (all : List Laid) → Fits anything p → AllLaid anything all → Fits anything (p ++ mark m.OpenBrace ++ lines n all ++ new_line n ++ mark m.CloseBrace)
behind_braces {p = p} n all f h = (
  λ opened. moves_any (moves_any (moves_any (moves_any (f.0 opened) (open_moves opened)) (lines_sound n all h (Brace ∷ opened))) (line_sound n (Brace ∷ opened))) (close_moves opened),
  opens_more (p ++ mark m.OpenBrace ++ lines n all ++ new_line n) (mark m.CloseBrace)
      (opens_more (p ++ mark m.OpenBrace ++ lines n all) (new_line n) (opens_more (p ++ mark m.OpenBrace) (lines n all) (opens_more p (mark m.OpenBrace) f.1))),
)

-- ---- trees

mutual
  pub expr_fits : {typed : Bool} {xs : List Sym} {of : Expr} {d : ℕ} → g.IsExpr true typed xs of d → Formed xs → (n : ℕ) → Fits off_numbers (js_expr of n)
  expr_fits (g.arrow_expr o p a {xs = xs} {ys = ys} {zs = zs} {params = params} {result = result} {of = of} q r s) f n =
      let outer = sides (xs ++ Mark m.CloseParen p ∷ ys) (Mark m.Arrow a) zs f.1 in
      let inner = sides xs (Mark m.CloseParen p) ys outer.0 in
      fits_by (wr.arrow_expr o params result of n) (joined_fits m.Arrow refl (fits_from (parens_fits (laid_list_sound n (map js_param params) (params_sound q inner.0)))) (arrow_body_sound s outer.1 n))
  expr_fits (g.short_arrow_expr spelled at a {of = of} e q) f n =
      fits_by (wr.arrow_expr at _ None of n)
      (joined_fits m.Arrow refl (fits_from (parens_fits (sound_by (wr.param_rolled (record { at = at; name = spelled; optional = false; annotation = None; value = None }) n) (named_none n (word_sound spelled f.0.1 f.0.2)))))
      (arrow_body_sound q f.1.1 n))
  expr_fits (g.assign_expr s {operator = operator} {xs = xs} {ys = ys} {target = target} {value = value} q t e r) f n =
      let parts = sides xs s ys f in
      fits_by (wr.assign_expr (start_of xs) target operator value n) (joined_fits (assign_mark operator) (assign_no_brace operator) (chain_fits q parts.0 n).0 (expr_fits r parts.1 n).0)
  expr_fits (g.cond_expr q) f n = cond_fits q f n

  arrow_body_sound : {typed : Bool} {xs : List Sym} {of : ArrowBody} {d : ℕ} → g.IsArrowBody true typed xs of d → Formed xs → (n : ℕ) → Sound off_numbers (js_arrow_body of n)
  arrow_body_sound (g.block_body {of = of} q) f n = sound_by (wr.block_arrow_body of n) (from_any (block_of q f n).0)
  arrow_body_sound (g.expr_body {of = of} b q) f n = sound_by (wr.expr_arrow_body of n) (expr_fits q f n).0

  -- a name and perhaps a value
  pub valued_sound : {xs : List Sym} {of : Option Expr} {d : ℕ} → g.IsValue true xs of d → Formed xs → {p : List Piece} → Sound off_words p → (n : ℕ) → Sound off_numbers (p ++ value_pieces n (js_optional of))
  valued_sound g.no_value f s n = named_none n s
  valued_sound (g.some_value at q) f s n = named_some n s (λ i. (expr_fits q f.1 i).0)

  param_sound : {given : Bool} {xs : List Sym} {of : Param} {d : ℕ} → g.IsParam true given xs of d → Formed xs → (n : ℕ) → Sound off_numbers (js_param of n)
  param_sound (g.param {optional = optional} spelled at {xs = xs} {ys = ys} {zs = zs} {shape = shape} {default = default} e i a v h) f n =
      sound_by (wr.param_rolled (record { at = at; name = spelled; optional = optional; annotation = shape; value = default }) n)
      (valued_sound v (back (xs ++ ys) zs f.1) (word_sound spelled f.0.1 f.0.2) n)

  pub params_sound : {after : Bool} {xs : List Sym} {of : List Param} {d : ℕ} → g.IsParams true after xs of d → Formed xs → AllLaid off_numbers (map js_param of)
  params_sound g.no_params f = tt
  params_sound (g.last_param q h) f = (λ n. param_sound q f n, tt)
  params_sound (g.more_params comma {xs = xs} {ys = ys} q h r) f = let parts = sides xs (Mark m.Comma comma) ys f in (λ n. param_sound q parts.0 n, params_sound r parts.1)

  cond_fits : {typed : Bool} {xs : List Sym} {of : Expr} {d : ℕ} → g.IsCond true typed xs of d → Formed xs → (n : ℕ) → Fits off_numbers (js_expr of n)
  cond_fits (g.or_expr q) f n = or_fits q f n
  cond_fits (g.conditional_expr a b {xs = xs} {ys = ys} {zs = zs} {condition = condition} {then = chosen} {otherwise = otherwise} q r s) f n =
      let outer = sides (xs ++ Mark m.Question a ∷ ys) (Mark m.Colon b) zs f in
      let inner = sides xs (Mark m.Question a) ys outer.0 in
      fits_by (wr.conditional_expr (start_of xs) condition chosen otherwise n)
      (joined_fits m.Colon refl (joined_fits m.Question refl (or_fits q inner.0 n) (expr_fits r inner.1 n).0) (expr_fits s outer.1 n).0)

  or_fits : {xs : List Sym} {of : Expr} {d : ℕ} → g.IsOr true xs of d → Formed xs → (n : ℕ) → Fits off_numbers (js_expr of n)
  or_fits (g.level_expr q) f n = level_fits q f n
  or_fits (g.nullish_expr q) f n = nullish_fits q f n

  nullish_fits : {xs : List Sym} {of : Expr} {d : ℕ} → g.IsNullish true xs of d → Formed xs → (n : ℕ) → Fits off_numbers (js_expr of n)
  nullish_fits (g.first_nullish at {xs = xs} {ys = ys} {left = left} {right = right} q r) f n =
      let parts = sides xs (Mark m.Nullish at) ys f in
      fits_by (wr.binary_expr (start_of xs) left binary.Nullish right n) (joined_fits m.Nullish refl (level_fits q parts.0 n) (level_fits r parts.1 n).0)
  nullish_fits (g.next_nullish at {xs = xs} {ys = ys} {left = left} {right = right} q r) f n =
      let parts = sides xs (Mark m.Nullish at) ys f in
      fits_by (wr.binary_expr (start_of xs) left binary.Nullish right n) (joined_fits m.Nullish refl (nullish_fits q parts.0 n) (level_fits r parts.1 n).0)

  level_fits : {l : ℕ} {xs : List Sym} {of : Expr} {d : ℕ} → g.IsLevel true l xs of d → Formed xs → (n : ℕ) → Fits off_numbers (js_expr of n)
  level_fits (g.unary_operand e q) f n = unary_fits q f n
  level_fits (g.next_level q) f n = level_fits q f n
  level_fits (g.joined_expr s {operator = operator} {xs = xs} {ys = ys} {left = left} {right = right} q e i r) f n =
      let parts = sides xs s ys f in
      fits_by (wr.binary_expr (start_of xs) left operator right n) (joined_fits (binary_mark operator) (binary_no_brace operator) (level_fits q parts.0 n) (level_fits r parts.1 n).0)
  level_fits (g.as_expr spelled at {xs = xs} {ys = ys} {of = of} {shape = shape} e q t h) f n = fits_by (wr.as_expr (start_of xs) of shape n) (level_fits q (front xs _ f) n)

  unary_fits : {xs : List Sym} {of : Expr} {d : ℕ} → g.IsUnary true xs of d → Formed xs → (n : ℕ) → Fits off_numbers (js_expr of n)
  unary_fits (g.prefix_expr s {operator = operator} {of = of} e q) f n = fits_by (wr.unary_expr (at_of s) operator of n) (prefixed_fits operator (js_expr of n) (unary_fits q f.1 n))
  unary_fits (g.update_before s {operator = operator} {of = of} e q t) f n = fits_by (wr.update_before_expr (at_of s) operator of n) (update_first operator (chain_fits q f.1 n).0.0)
  unary_fits (g.update_after s {operator = operator} {xs = xs} {of = of} q t e) f n =
      let target = chain_fits q (front xs (s ∷ []) f) n in
      fits_by (wr.update_behind_expr (start_of xs) operator of n) (update_last operator (target.1 (target_no_number of t)) target.0.1)
  unary_fits (g.chain_expr q) f n = (chain_fits q f n).0

  chain_fits : {xs : List Sym} {of : Expr} {d : ℕ} → g.IsChain true xs of d → Formed xs → (n : ℕ) → Chain of n
  chain_fits (g.primary_expr q) f n = primary_fits q f n
  chain_fits (g.member_expr kind dot spelled at {xs = xs} {of = of} q h) f n =
      let base = chain_fits q (front xs _ f) n in
      let name = (back xs _ f).1.0 in
      chain_words (expr.Member (start_of xs) of spelled) n (wr.member_expr (start_of xs) of spelled n)
      (fits_any (fits_both (base.1 h, base.0.1) (alone_sound m.Dot refl) (λ ys l. refl)) (word_sound spelled name.1 name.2))
  chain_fits (g.index_expr o p {xs = xs} {ys = ys} {of = of} {place = place} q r) f n =
      let outer = front (xs ++ Mark m.OpenBracket o ∷ ys) (Mark m.CloseBracket p ∷ []) f in
      let inner = sides xs (Mark m.OpenBracket o) ys outer in
      chain_any (expr.Index (start_of xs) of place) n (wr.index_expr (start_of xs) of place n)
      (fits_both (fits_any (fits_both (chain_fits q inner.0 n).0 (alone_sound m.OpenBracket refl) (λ ys l. refl)) (expr_fits r inner.1 n).0) (alone_sound m.CloseBracket refl) (λ ys l. refl))
  chain_fits (g.call_expr o p {xs = xs} {ys = ys} {of = of} {arguments = arguments} q r) f n =
      let outer = front (xs ++ Mark m.OpenParen o ∷ ys) (Mark m.CloseParen p ∷ []) f in
      let inner = sides xs (Mark m.OpenParen o) ys outer in
      chain_any (expr.Call (start_of xs) of [] arguments) n (wr.call_expr (start_of xs) of [] arguments n)
      (fits_both (chain_fits q inner.0 n).0 (parens_sound (laid_list_sound n (map js_expr arguments) (exprs_sound r inner.1))) (λ ys l. refl))

  primary_fits : {xs : List Sym} {of : Expr} {d : ℕ} → g.IsPrimary true xs of d → Formed xs → (n : ℕ) → Chain of n
  primary_fits (g.name_expr spelled at e) f n = chain_words (expr.Name at spelled) n (wr.name_expr at spelled n) (word_fits spelled f.0.1 f.0.2)
  primary_fits (g.this_expr spelled at) f n = chain_words (expr.This at) n (wr.this_expr at n) (letters_fits (codes "this") refl refl)
  primary_fits (g.number_expr spelled at) f n =
      chain_number (expr.Number at spelled) n (wr.number_expr at spelled n) (number_sound spelled f.0.0 f.0.1, number_solid spelled f.0.0) (ap g.is_number_at (expr.outs-Number at spelled))
  primary_fits (g.string_expr spelled at) f n = chain_any (expr.String at spelled) n (wr.string_expr at spelled n) (string_sound spelled f.0.0 f.0.1, string_solid spelled f.0.0)
  primary_fits (g.template_expr spelled at) f n =
      chain_any (expr.Template at spelled []) n (wr.template_expr at spelled [] n) (whole_sound spelled f.0.0 f.0.1, ticked_solid tick spelled f.0.0)
  primary_fits (g.spans_expr spelled at {spans = spans} q) f n =
      chain_any (expr.Template at spelled spans) n (wr.template_expr at spelled spans n) (template_fits spelled f.0.0 f.0.1 (spans_sound q f.1 n))
  primary_fits (g.boolean_expr {of = of} spelled at e) f n = chain_words (expr.Boolean at of) n (wr.boolean_expr at of n) (truth_fits of)
  primary_fits (g.null_expr spelled at) f n = chain_words (expr.Null at) n (wr.null_expr at n) (letters_fits (codes "null") refl refl)
  primary_fits (g.undefined_expr spelled at) f n = chain_words (expr.Undefined at) n (wr.undefined_expr at n) (letters_fits (codes "undefined") refl refl)
  primary_fits (g.parens_expr o p {xs = xs} {of = of} q) f n =
      chain_any (expr.Parens o of) n (wr.parens_expr o of n) (parens_fits (expr_fits q (front xs (Mark m.CloseParen p ∷ []) f.1) n).0)
  primary_fits (g.array_expr o p {xs = xs} {of = of} q) f n =
      chain_any (expr.Array o of) n (wr.array_expr o of n) (brackets_sound (laid_list_sound n (map js_expr of) (exprs_sound q (front xs (Mark m.CloseBracket p ∷ []) f.1))), refl)
  primary_fits (g.object_expr o p {xs = xs} {of = of} q) f n =
      chain_any (expr.Object o of) n (wr.object_expr o of n)
      (object_fits (laid_all n (map js_prop of)) (laid_all_sound n (map js_prop of) (props_sound q (front xs (Mark m.CloseBrace p ∷ []) f.1))))
  primary_fits (g.new_expr new_spelled new_at spelled at o p {xs = xs} {of = of} e q) f n =
      chain_any (expr.New new_at (record { at = at; name = spelled }) of) n (wr.new_expr new_at (record { at = at; name = spelled }) of n)
      (fits_both (fits_any (fits_both (letters_fits (codes "new") refl refl) space_sound (λ ys l. refl)) (word_sound spelled f.1.0.1 f.1.0.2))
      (parens_sound (laid_list_sound n (map js_expr of) (exprs_sound q (front xs (Mark m.CloseParen p ∷ []) f.1.1.1)))) (λ ys l. refl))

  spans_sound : {xs : List Sym} {of : List TemplateSpan} {d : ℕ} → g.IsSpans true xs of d → Formed xs → (n : ℕ) → Spanned (laid_spans n (map js_span of))
  spans_sound (g.last_span spelled at {xs = xs} {of = of} q) f n =
      let text = (back xs (Lex (c.Template part.Tail) spelled at ∷ []) f).0 in
      subst (λ x. Spanned (x ∷ [])) (sym (wr.span_rolled (record { value = of; text = spelled }) n))
      (last_part (js_expr of n) spelled (expr_fits q (front xs (Lex (c.Template part.Tail) spelled at ∷ []) f) n).0 text.0 text.1)
  spans_sound (g.more_spans spelled at {xs = xs} {ys = ys} {of = of} {rest = rest} q r) f n =
      let text = (back xs (Lex (c.Template part.Middle) spelled at ∷ ys) f).0 in
      let parts = sides xs (Lex (c.Template part.Middle) spelled at) ys f in
      subst (λ x. Spanned (x ∷ laid_spans n (map js_span rest))) (sym (wr.span_rolled (record { value = of; text = spelled }) n))
      (more_parts (js_expr of n) spelled (expr_fits q parts.0 n).0 text.0 text.1 (spans_sound r parts.1 n))

  exprs_sound : {xs : List Sym} {of : List Expr} {d : ℕ} → g.IsExprs true xs of d → Formed xs → AllLaid off_numbers (map js_expr of)
  exprs_sound g.no_exprs f = tt
  exprs_sound (g.last_expr q) f = (λ n. (expr_fits q f n).0, tt)
  exprs_sound (g.more_exprs comma {xs = xs} {ys = ys} q r) f = let parts = sides xs (Mark m.Comma comma) ys f in (λ n. (expr_fits q parts.0 n).0, exprs_sound r parts.1)

  prop_sound : {xs : List Sym} {of : Prop} {d : ℕ} → g.IsProp true xs of d → Formed xs → (n : ℕ) → Sound off_numbers (js_prop of n)
  prop_sound (g.valued_prop s {key = key} colon {of = of} e q) f n =
      sound_by (wr.valued_prop (at_of s) key of n) (sound_any (sound_any (sound_both (key_sound s key e f.0) (alone_sound m.Colon refl) (λ ys l. refl)) space_sound) (expr_fits q f.1.1 n).0)
  prop_sound (g.short_prop spelled at e) f n = sound_by (wr.short_prop at spelled n) (from_words (word_sound spelled f.0.1 f.0.2))

  props_sound : {xs : List Sym} {of : List Prop} {d : ℕ} → g.IsProps true xs of d → Formed xs → AllLaid off_numbers (map js_prop of)
  props_sound g.no_props f = tt
  props_sound (g.last_prop q) f = (λ n. prop_sound q f n, tt)
  props_sound (g.more_props comma {xs = xs} {ys = ys} q r) f = let parts = sides xs (Mark m.Comma comma) ys f in (λ n. prop_sound q parts.0 n, props_sound r parts.1)

  pub block_of : {around : g.Around} {xs : List Sym} {of : Block} {d : ℕ} → g.IsBlock true around xs of d → Formed xs → (n : ℕ) → Fits anything (js_block of n)
  block_of (g.block o p {xs = xs} {of = of} q) f n =
      fits_by (wr.block_rolled (record { at = o; items = of }) n) (block_fits n (map js_block_item of) (block_items_sound q (front xs (Mark m.CloseBrace p ∷ []) f.1)))

  block_item_sound : {around : g.Around} {xs : List Sym} {of : BlockItem} {d : ℕ} → g.IsBlockItem true around xs of d → Formed xs → (n : ℕ) → Sound anything (js_block_item of n)
  block_item_sound (g.var_item {of = of} q) f n = sound_by (wr.var_block_item of n) (var_fits q f n).0
  block_item_sound (g.function_item {of = of} q) f n = sound_by (wr.function_block_item of n) (function_fits q f n).0
  block_item_sound (g.stmt_item {of = of} q) f n = sound_by (wr.stmt_block_item of n) (stmt_fits q f n).0

  block_items_sound : {around : g.Around} {xs : List Sym} {of : List BlockItem} {d : ℕ} → g.IsBlockItems true around xs of d → Formed xs → AllLaid anything (map js_block_item of)
  block_items_sound g.no_block_items f = tt
  block_items_sound (g.more_block_items {xs = xs} {ys = ys} q r) f = (λ n. block_item_sound q (front xs ys f) n, block_items_sound r (back xs ys f))

  pub var_fits : {xs : List Sym} {of : Var} {d : ℕ} → g.IsVar true xs of d → Formed xs → (n : ℕ) → Fits anything (js_var of n)
  var_fits (g.var {kind = kind} spelled at semicolon {xs = xs} {of = of} e q) f n =
      fits_by (wr.var_rolled (record { kind = kind; declarators = of }) n)
      (fits_both (fits_any (fits_both (kind_fits kind) space_sound (λ ys l. refl)) (laid_list_sound n (map js_declarator of) (declarators_sound q (front xs (Mark m.Semicolon semicolon ∷ []) f.1))))
      (alone_sound m.Semicolon refl) (λ ys l. refl))

  declarator_sound : {kind : VarKind} {xs : List Sym} {of : Declarator} {d : ℕ} → g.IsDeclarator true kind xs of d → Formed xs → (n : ℕ) → Sound off_numbers (js_declarator of n)
  declarator_sound (g.declarator spelled at {xs = xs} {ys = ys} {shape = shape} {given = given} e a v h) f n =
      sound_by (wr.declarator_rolled (record { at = at; name = spelled; annotation = shape; value = given }) n) (valued_sound v (back xs ys f.1) (word_sound spelled f.0.1 f.0.2) n)

  declarators_sound : {kind : VarKind} {xs : List Sym} {of : List Declarator} {d : ℕ} → g.IsDeclarators true kind xs of d → Formed xs → AllLaid off_numbers (map js_declarator of)
  declarators_sound (g.last_declarator q) f = (λ n. declarator_sound q f n, tt)
  declarators_sound (g.more_declarators comma {xs = xs} {ys = ys} q r) f = let parts = sides xs (Mark m.Comma comma) ys f in (λ n. declarator_sound q parts.0 n, declarators_sound r parts.1)

  pub function_fits : {xs : List Sym} {of : Function} {d : ℕ} → g.IsFunction true xs of d → Formed xs → (n : ℕ) → Fits anything (js_function of n)
  function_fits (g.function function_spelled function_at spelled at o p {xs = xs} {ys = ys} {zs = zs} {params = params} {shape = shape} {of = of} e q a b) f n =
      let behind = f.1.1.1 in
      let inner = sides xs (Mark m.CloseParen p) ys (front (xs ++ Mark m.CloseParen p ∷ ys) zs behind) in
      fits_by (wr.function_rolled (record { at = at; name = spelled; variables = []; params = params; result = shape; body = of }) n)
      (fits_any (fits_any (fits_both (fits_any (fits_both (letters_fits (codes "function") refl refl) space_sound (λ ys l. refl)) (word_sound spelled f.1.0.1 f.1.0.2))
      (parens_sound (laid_list_sound n (map js_param params) (params_sound q inner.0))) (λ ys l. refl)) space_sound) (block_of b (back (xs ++ Mark m.CloseParen p ∷ ys) zs behind) n).0)

  pub stmt_fits : {around : g.Around} {closed : Bool} {xs : List Sym} {of : Stmt} {d : ℕ} → g.IsStmt true around closed xs of d → Formed xs → (n : ℕ) → Fits anything (js_lines of n)
  stmt_fits (g.block_stmt {of = of} q) f n = fits_by (wr.block_stmt_lines of n) (block_of q f n)
  stmt_fits (g.if_stmt spelled at o p {xs = xs} {ys = ys} {condition = condition} {then = chosen} q r) f n =
      let parts = sides xs (Mark m.CloseParen p) ys f.1.1 in
      fits_by (wr.if_stmt_lines at condition chosen None n)
      (fits_any (fits_any (headed (codes "if") refl refl (expr_fits q parts.0 n).0) (body_sound n (js_stmt chosen) (λ i. (stmt_fits r parts.1 i).0))) sound_none)
  stmt_fits (g.if_else_stmt spelled at o p else_spelled else_at {xs = xs} {ys = ys} {zs = zs} {condition = condition} {then = chosen} {otherwise = otherwise} q r s) f n =
      let outer = sides (xs ++ Mark m.CloseParen p ∷ ys) (word w.Else else_spelled else_at) zs f.1.1 in
      let inner = sides xs (Mark m.CloseParen p) ys outer.0 in
      fits_by (wr.if_stmt_lines at condition chosen (Some otherwise) n)
      (fits_any (fits_any (headed (codes "if") refl refl (expr_fits q inner.0 n).0) (body_sound n (js_stmt chosen) (λ i. (stmt_fits r inner.1 i).0)))
      (word_body_sound n (js_stmt otherwise) (sound_any (line_sound n) (letters_sound (codes "else") refl refl)) (λ i. (stmt_fits s outer.1 i).0)))
  stmt_fits (g.while_stmt spelled at o p {xs = xs} {ys = ys} {condition = condition} {of = of} q r) f n =
      let parts = sides xs (Mark m.CloseParen p) ys f.1.1 in
      fits_by (wr.while_stmt_lines at condition of n) (fits_any (headed (codes "while") refl refl (expr_fits q parts.0 n).0) (body_sound n (js_stmt of) (λ i. (stmt_fits r parts.1 i).0)))
  stmt_fits (g.do_stmt spelled at while_spelled while_at o p semicolon {xs = xs} {ys = ys} {of = of} {condition = condition} q r) f n =
      let outer = front (xs ++ word w.While while_spelled while_at ∷ Mark m.OpenParen o ∷ ys) (Mark m.CloseParen p ∷ Mark m.Semicolon semicolon ∷ []) f.1 in
      let parts = sides xs (word w.While while_spelled while_at) (Mark m.OpenParen o ∷ ys) outer in
      fits_by (wr.do_stmt_lines at of condition n)
      (fits_any (fits_any (fits_both (fits_any (fits_any (do_body (js_stmt of) n (λ i. (stmt_fits q parts.0 i).0)) (line_sound n)) (letters_sound (codes "while") refl refl)) space_sound (λ ys l. refl))
      (parens_sound (expr_fits r parts.1.1 n).0)) (alone_sound m.Semicolon refl))
  stmt_fits (g.for_stmt spelled at o semicolon p {vs = vs} {xs = xs} {ys = ys} {zs = zs} {first = first} {condition = condition} {step = step} {of = of} q r s t) f n =
      let outer = sides (vs ++ xs ++ Mark m.Semicolon semicolon ∷ ys) (Mark m.CloseParen p) zs f.1.1 in
      let inner = sides (vs ++ xs) (Mark m.Semicolon semicolon) ys outer.0 in
      fits_by (wr.for_stmt_lines at first condition step of n)
      (fits_any (headed (codes "for") refl refl
      (sound_any (sound_both (sound_any (start_sound q (front vs xs inner.0) n) (optional_sound r (back vs xs inner.0) n)) (alone_sound m.Semicolon refl) (λ ys l. refl)) (optional_sound s inner.1 n)))
      (body_sound n (js_stmt of) (λ i. (stmt_fits t outer.1 i).0)))
  stmt_fits (g.for_of_stmt {kind = kind} spelled at o kind_spelled kind_at name_spelled name_at of_spelled of_at p {xs = xs} {ys = ys} {subject = subject} {of = of} e h q r) f n =
      let name = f.1.1.1.0 in
      let parts = sides xs (Mark m.CloseParen p) ys f.1.1.1.1.1 in
      fits_by (wr.for_of_stmt_lines at kind (record { at = name_at; name = name_spelled }) subject of n)
      (fits_any (headed (codes "for") refl refl
      (sound_any (sound_both (sound_any (sound_both (sound_any (sound_both (kind_fits kind).0 space_sound (λ ys l. refl)) (word_sound name_spelled name.1 name.2)) space_sound (λ ys l. refl))
      (letters_sound (codes "of") refl refl)) space_sound (λ ys l. refl)) (expr_fits q parts.0 n).0))
      (body_sound n (js_stmt of) (λ i. (stmt_fits r parts.1 i).0)))
  stmt_fits (g.return_stmt spelled at semicolon h g.no_expr) f n =
      fits_by (wr.return_stmt_none_lines at n) (fits_both (letters_fits (codes "return") refl refl) (alone_sound m.Semicolon refl) (λ ys l. refl))
  stmt_fits (g.return_stmt spelled at semicolon {xs = xs} h (g.some_expr {of = of} q)) f n =
      fits_by (wr.return_stmt_some_lines at of n)
      (fits_both (fits_any (fits_both (letters_fits (codes "return") refl refl) space_sound (λ ys l. refl)) (expr_fits q (front xs (Mark m.Semicolon semicolon ∷ []) f.1) n).0)
      (alone_sound m.Semicolon refl) (λ ys l. refl))
  stmt_fits (g.break_stmt spelled at semicolon h) f n = fits_by (wr.break_stmt_lines at n) (fits_both (letters_fits (codes "break") refl refl) (alone_sound m.Semicolon refl) (λ ys l. refl))
  stmt_fits (g.continue_stmt spelled at semicolon h) f n =
      fits_by (wr.continue_stmt_lines at n) (fits_both (letters_fits (codes "continue") refl refl) (alone_sound m.Semicolon refl) (λ ys l. refl))
  stmt_fits (g.throw_stmt spelled at semicolon {xs = xs} {of = of} q) f n =
      fits_by (wr.throw_stmt_lines at of n)
      (fits_both (fits_any (fits_both (letters_fits (codes "throw") refl refl) space_sound (λ ys l. refl)) (expr_fits q (front xs (Mark m.Semicolon semicolon ∷ []) f.1) n).0)
      (alone_sound m.Semicolon refl) (λ ys l. refl))
  stmt_fits (g.switch_stmt spelled at o p open_brace close_brace {xs = xs} {ys = ys} {subject = subject} {of = of} q r) f n =
      let outer = front (xs ++ Mark m.CloseParen p ∷ Mark m.OpenBrace open_brace ∷ ys) (Mark m.CloseBrace close_brace ∷ []) f.1.1 in
      let inner = sides xs (Mark m.CloseParen p) (Mark m.OpenBrace open_brace ∷ ys) outer in
      fits_by (wr.switch_stmt_lines at subject of n)
      (behind_braces n (map js_clause of) (fits_any (headed (codes "switch") refl refl (expr_fits q inner.0 n).0) space_sound) (clauses_sound r inner.1.1))
  stmt_fits (g.expr_stmt semicolon {xs = xs} {of = of} h q) f n =
      fits_by (wr.expr_stmt_lines (start_of xs) of n) (fits_both (expr_fits q (front xs (Mark m.Semicolon semicolon ∷ []) f) n) (alone_sound m.Semicolon refl) (λ ys l. refl))
  stmt_fits (g.empty_stmt at) f n = fits_by (wr.empty_stmt_lines at n) (alone_sound m.Semicolon refl, refl)

  optional_sound : {xs : List Sym} {of : Option Expr} {d : ℕ} → g.IsOptional true xs of d → Formed xs → (n : ℕ) → Sound off_numbers (part_pieces n (js_optional of))
  optional_sound g.no_expr f n = sound_none
  optional_sound (g.some_expr q) f n = part_sound n (λ i. (expr_fits q f i).0)

  start_sound : {xs : List Sym} {of : ForStart} {d : ℕ} → g.IsForStart true xs of d → Formed xs → (n : ℕ) → Sound anything (js_start of n)
  start_sound (g.var_start {of = of} q) f n = sound_by (wr.var_start of n) (var_fits q f n).0
  start_sound (g.expr_start semicolon {xs = xs} {of = of} q) f n =
      sound_by (wr.expr_start of n) (sound_both (expr_fits q (front xs (Mark m.Semicolon semicolon ∷ []) f) n).0 (alone_sound m.Semicolon refl) (λ ys l. refl))
  start_sound (g.no_start semicolon) f n = sound_by (wr.nothing_start n) (alone_sound m.Semicolon refl)

  clause_sound : {around : g.Around} {defaulted : Bool} {xs : List Sym} {of : Clause} {d : ℕ} → g.IsClause true around defaulted xs of d → Formed xs → (n : ℕ) → Sound anything (js_clause of n)
  clause_sound (g.case_clause spelled at colon {xs = xs} {ys = ys} {of = of} {items = items} q r) f n =
      let parts = sides xs (Mark m.Colon colon) ys f.1 in
      sound_by (wr.case_clause at of items n)
      (sound_any (sound_both (sound_any (sound_both (letters_sound (codes "case") refl refl) space_sound (λ ys l. refl)) (expr_fits q parts.0 n).0) (alone_sound m.Colon refl) (λ ys l. refl))
      (lines_sound n (map js_block_item items) (block_items_sound r parts.1)))
  clause_sound (g.default_clause spelled at colon {items = items} q) f n =
      sound_by (wr.default_clause at items n)
      (sound_any (sound_both (letters_sound (codes "default") refl refl) (alone_sound m.Colon refl) (λ ys l. refl)) (lines_sound n (map js_block_item items) (block_items_sound q f.1.1)))

  clauses_sound : {around : g.Around} {defaulted : Bool} {xs : List Sym} {of : List Clause} {d : ℕ} → g.IsClauses true around defaulted xs of d → Formed xs → AllLaid anything (map js_clause of)
  clauses_sound g.no_clauses f = tt
  clauses_sound (g.more_clauses {xs = xs} {ys = ys} q r h) f = (λ n. clause_sound q (front xs ys f) n, clauses_sound r (back xs ys f))
