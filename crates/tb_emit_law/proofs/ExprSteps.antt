-- Expressions that are read back, by their parts: one step for each form.
use Rattle.std.proofs.Common.{◌≡◌, ℕ, suc, ◌+◌, max, Bool, true, false, List, [], ◌∷◌, ◌++◌, map, codes, Some, None, refl, sym, ap, ◌∙◌, arith, append_assoc}
use Rattle.std.proofs.lemmas.Grind.{flat_map-append}
use Rattle.std.proofs.lemmas.List.{append-nil}
use Rattle.tb_tree.specs.declared.marks.Mark.TheVariants as m
use Rattle.tb_tree.specs.declared.words.Class.TheVariants as c
use Rattle.tb_tree.specs.declared.words.Word.TheVariants as w
use Rattle.tb_tree.specs.declared.words.Template.TheVariants as part
use Rattle.tb_tree.specs.declared.types.Key.{Key}
use Rattle.tb_tree.specs.declared.types.Key.TheVariants as key
use Rattle.tb_tree.specs.declared.exprs.UnaryOperator.{UnaryOperator}
use Rattle.tb_tree.specs.declared.exprs.UnaryOperator.TheVariants as unary
use Rattle.tb_tree.specs.declared.exprs.UpdateOperator.{UpdateOperator}
use Rattle.tb_tree.specs.declared.exprs.BinaryOperator.{BinaryOperator}
use Rattle.tb_tree.specs.declared.exprs.BinaryOperator.TheVariants as binary
use Rattle.tb_tree.specs.declared.exprs.AssignOperator.{AssignOperator}
use Rattle.tb_tree.specs.declared.exprs.ArrowBody.{ArrowBody}
use Rattle.tb_tree.specs.declared.exprs.Expr.{Expr}
use Rattle.tb_tree.specs.declared.exprs.Expr.TheVariants as expr
use Rattle.tb_tree.specs.declared.exprs.Param.{Param}
use Rattle.tb_tree.specs.declared.exprs.Prop.{Prop}
use Rattle.tb_tree.specs.declared.exprs.Prop.TheVariants as prop
use Rattle.tb_tree.specs.declared.exprs.TemplateSpan.{TemplateSpan, roll-TemplateSpan}
use Rattle.tb_tree.specs.Sym.{Mark, Lex}
use Rattle.tb_tree.specs.Words.{is_name, word_of, early_word, middle_word, late_word, other_word, last_word, type_word, named_word}
use Rattle.tb_tree.specs.Shapes.{start_of}
use Rattle.tb_tree.specs.Bare.{bare_arrow_body, bare_expr, bare_param, bare_prop, bare_span}
use Rattle.tb_tree.specs.Exprs as g
use Rattle.tb_tree.proofs.Ends.{ap_both}
use Rattle.tb_layout.specs.Pieces.{Piece, mark, word, space}
use Rattle.tb_layout.specs.Pieces as pieces
use Rattle.tb_layout.specs.Js.{joined, in_parens, binary_mark, assign_mark, update_mark, spaced_if, prefixed, truth_pieces, key_pieces}
use Rattle.tb_layout.proofs.Baring as bare
use Rattle.tb_emit_law.proofs.Symbols.{symbols_in}
use Rattle.tb_emit_law.proofs.Back.{Back, back_by, ap_three}
use Rattle.tb_emit_law.proofs.Splits.{split, split_mark, split_lex, last_mark, last_lex}
use Rattle.tb_emit_law.proofs.Flat.{one, ◌⊕◌, alike}
use Rattle.tb_emit_law.proofs.Facts.{target_back, number_back, assign_told, update_told}

arrow_step_told : (p q : List Piece) → symbols_in (joined (in_parens p) m.Arrow q) ≡ Mark m.OpenParen 0 ∷ symbols_in p ++ Mark m.CloseParen 0 ∷ [] ++ Mark m.Arrow 0 ∷ symbols_in q
arrow_step_told p q =
    alike (one (mark m.OpenParen) ⊕ one p ⊕ one (mark m.CloseParen) ⊕ one space ⊕ one (mark m.Arrow) ⊕ one space ⊕ one q) (one (Mark m.OpenParen 0 ∷ symbols_in p) ⊕ one (Mark m.CloseParen 0 ∷ []) ⊕ one (Mark m.Arrow 0 ∷ symbols_in q)) refl

pub arrow_step : {o : Bool} {p q : List Piece} {params : List Param} {body : ArrowBody} {d e : ℕ} {typed : Bool} (at : ℕ)
    → Back (g.IsParams o false) (map bare_param) p params d → Back (g.IsArrowBody o typed) bare_arrow_body q body e
    → Back (g.IsExpr o typed) bare_expr (joined (in_parens p) m.Arrow q) (expr.Arrow at params None body) (max d e + 1)
arrow_step {p = p} {q = q} {typed = typed} at x y = back_by λ P into zs told.
    split P {es = Mark m.OpenParen 0 ∷ symbols_in p ++ Mark m.CloseParen 0 ∷ []} {fs = Mark m.Arrow 0 ∷ symbols_in q} zs (told ∙ arrow_step_told p q) λ front back front_told back_told.
    split (λ vs. P (vs ++ back)) {es = Mark m.OpenParen 0 ∷ symbols_in p} {fs = Mark m.CloseParen 0 ∷ []} front front_told λ front2 back2 front2_told back2_told.
    split_mark (λ vs. P (vs ++ back2 ++ back)) front2 front2_told λ a xs x_told.
    last_mark (λ vs. P (Mark m.OpenParen a ∷ xs ++ vs ++ back)) back2 back2_told λ b.
    split_mark (λ vs. P (Mark m.OpenParen a ∷ xs ++ Mark m.CloseParen b ∷ [] ++ vs)) back back_told λ here ys y_told.
    let xr = x.back xs x_told in
    let yr = y.back ys y_told in
    into _ (record {
      tree = expr.Arrow a xr.tree None yr.tree;
      own = max xr.own (max 0 yr.own) + 1;
      reads = g.arrow_expr a b here xr.reads g.no_result yr.reads;
      below = omega (arith, xr.below, yr.below);
      same = bare.arrow_expr _ _ _ _ ∙ ap_both (λ m n. expr.Arrow 0 m None n) xr.same yr.same ∙ sym (bare.arrow_expr _ _ _ _);
    })

assign_step_told : (p q : List Piece) (operator : AssignOperator) → symbols_in (joined p (assign_mark operator) q) ≡ symbols_in p ++ Mark (assign_mark operator) 0 ∷ symbols_in q
assign_step_told p q operator =
    alike (one p ⊕ one space ⊕ one (mark (assign_mark operator)) ⊕ one space ⊕ one q) (one (symbols_in p) ⊕ one (Mark (assign_mark operator) 0 ∷ symbols_in q)) refl

pub assign_step : {o : Bool} {p q : List Piece} {target value : Expr} {d e : ℕ} {typed : Bool} (at : ℕ) (operator : AssignOperator)
    → g.is_target target ≡ true → Back (g.IsChain o) bare_expr p target d → Back (g.IsExpr o typed) bare_expr q value e
    → Back (g.IsExpr o typed) bare_expr (joined p (assign_mark operator) q) (expr.Assign at target operator value) (max d e + 1)
assign_step {p = p} {q = q} {target = target} {typed = typed} at operator t x y = back_by λ P into zs told.
    split P {es = symbols_in p} {fs = Mark (assign_mark operator) 0 ∷ symbols_in q} zs (told ∙ assign_step_told p q operator) λ xs back x_told back_told.
    split_mark (λ vs. P (xs ++ vs)) back back_told λ here ys y_told.
    let xr = x.back xs x_told in
    let yr = y.back ys y_told in
    into _ (record {
      tree = expr.Assign (start_of xs) xr.tree operator yr.tree;
      own = max xr.own yr.own + 1;
      reads = g.assign_expr (Mark (assign_mark operator) here) xr.reads (target_back xr.tree target xr.same t) (assign_told operator here) yr.reads;
      below = omega (arith, xr.below, yr.below);
      same = bare.assign_expr _ _ _ _ ∙ ap_both (λ m n. expr.Assign 0 m operator n) xr.same yr.same ∙ sym (bare.assign_expr _ _ _ _);
    })

conditional_step_told : (p q r : List Piece) → symbols_in (joined (joined p m.Question q) m.Colon r) ≡ symbols_in p ++ Mark m.Question 0 ∷ symbols_in q ++ Mark m.Colon 0 ∷ symbols_in r
conditional_step_told p q r =
    alike (one p ⊕ one space ⊕ one (mark m.Question) ⊕ one space ⊕ one q ⊕ one space ⊕ one (mark m.Colon) ⊕ one space ⊕ one r) (one (symbols_in p) ⊕ one (Mark m.Question 0 ∷ symbols_in q) ⊕ one (Mark m.Colon 0 ∷ symbols_in r)) refl

pub conditional_step : {o : Bool} {p q r : List Piece} {condition chosen otherwise : Expr} {d e f : ℕ} {typed : Bool} (at : ℕ)
    → Back (g.IsOr o) bare_expr p condition d → Back (g.IsExpr o false) bare_expr q chosen e → Back (g.IsExpr o typed) bare_expr r otherwise f
    → Back (g.IsCond o typed) bare_expr (joined (joined p m.Question q) m.Colon r) (expr.Conditional at condition chosen otherwise) (max d (max e f) + 1)
conditional_step {p = p} {q = q} {r = r} {typed = typed} at x y z = back_by λ P into zs told.
    split P {es = symbols_in p ++ Mark m.Question 0 ∷ symbols_in q} {fs = Mark m.Colon 0 ∷ symbols_in r} zs (told ∙ conditional_step_told p q r) λ front back front_told back_told.
    split (λ vs. P (vs ++ back)) {es = symbols_in p} {fs = Mark m.Question 0 ∷ symbols_in q} front front_told λ xs back2 x_told back2_told.
    split_mark (λ vs. P (xs ++ vs ++ back)) back2 back2_told λ a ys y_told.
    split_mark (λ vs. P (xs ++ Mark m.Question a ∷ ys ++ vs)) back back_told λ b zs z_told.
    let xr = x.back xs x_told in
    let yr = y.back ys y_told in
    let zr = z.back zs z_told in
    into _ (record {
      tree = expr.Conditional (start_of xs) xr.tree yr.tree zr.tree;
      own = max xr.own (max yr.own zr.own) + 1;
      reads = g.conditional_expr a b xr.reads yr.reads zr.reads;
      below = omega (arith, xr.below, yr.below, zr.below);
      same = bare.conditional_expr _ _ _ _ ∙ ap_three (λ m n i. expr.Conditional 0 m n i) xr.same yr.same zr.same ∙ sym (bare.conditional_expr _ _ _ _);
    })

first_nullish_step_told : (p q : List Piece) → symbols_in (joined p m.Nullish q) ≡ symbols_in p ++ Mark m.Nullish 0 ∷ symbols_in q
first_nullish_step_told p q = alike (one p ⊕ one space ⊕ one (mark m.Nullish) ⊕ one space ⊕ one q) (one (symbols_in p) ⊕ one (Mark m.Nullish 0 ∷ symbols_in q)) refl

pub first_nullish_step : {o : Bool} {p q : List Piece} {left right : Expr} {d e : ℕ} (at : ℕ)
    → Back (g.IsLevel o g.eq_level) bare_expr p left d → Back (g.IsLevel o g.eq_level) bare_expr q right e
    → Back (g.IsNullish o) bare_expr (joined p m.Nullish q) (expr.Binary at left binary.Nullish right) (max d e + 1)
first_nullish_step {p = p} {q = q} at x y = back_by λ P into zs told.
    split P {es = symbols_in p} {fs = Mark m.Nullish 0 ∷ symbols_in q} zs (told ∙ first_nullish_step_told p q) λ xs back x_told back_told.
    split_mark (λ vs. P (xs ++ vs)) back back_told λ here ys y_told.
    let xr = x.back xs x_told in
    let yr = y.back ys y_told in
    into _ (record {
      tree = expr.Binary (start_of xs) xr.tree binary.Nullish yr.tree;
      own = max xr.own yr.own + 1;
      reads = g.first_nullish here xr.reads yr.reads;
      below = omega (arith, xr.below, yr.below);
      same = bare.binary_expr _ _ _ _ ∙ ap_both (λ m n. expr.Binary 0 m binary.Nullish n) xr.same yr.same ∙ sym (bare.binary_expr _ _ _ _);
    })

next_nullish_step_told : (p q : List Piece) → symbols_in (joined p m.Nullish q) ≡ symbols_in p ++ Mark m.Nullish 0 ∷ symbols_in q
next_nullish_step_told p q = alike (one p ⊕ one space ⊕ one (mark m.Nullish) ⊕ one space ⊕ one q) (one (symbols_in p) ⊕ one (Mark m.Nullish 0 ∷ symbols_in q)) refl

pub next_nullish_step : {o : Bool} {p q : List Piece} {left right : Expr} {d e : ℕ} (at : ℕ)
    → Back (g.IsNullish o) bare_expr p left d → Back (g.IsLevel o g.eq_level) bare_expr q right e
    → Back (g.IsNullish o) bare_expr (joined p m.Nullish q) (expr.Binary at left binary.Nullish right) (max d e + 1)
next_nullish_step {p = p} {q = q} at x y = back_by λ P into zs told.
    split P {es = symbols_in p} {fs = Mark m.Nullish 0 ∷ symbols_in q} zs (told ∙ next_nullish_step_told p q) λ xs back x_told back_told.
    split_mark (λ vs. P (xs ++ vs)) back back_told λ here ys y_told.
    let xr = x.back xs x_told in
    let yr = y.back ys y_told in
    into _ (record {
      tree = expr.Binary (start_of xs) xr.tree binary.Nullish yr.tree;
      own = max xr.own yr.own + 1;
      reads = g.next_nullish here xr.reads yr.reads;
      below = omega (arith, xr.below, yr.below);
      same = bare.binary_expr _ _ _ _ ∙ ap_both (λ m n. expr.Binary 0 m binary.Nullish n) xr.same yr.same ∙ sym (bare.binary_expr _ _ _ _);
    })

joined_step_told : (p q : List Piece) (operator : BinaryOperator) → symbols_in (joined p (binary_mark operator) q) ≡ symbols_in p ++ Mark (binary_mark operator) 0 ∷ symbols_in q
joined_step_told p q operator =
    alike (one p ⊕ one space ⊕ one (mark (binary_mark operator)) ⊕ one space ⊕ one q) (one (symbols_in p) ⊕ one (Mark (binary_mark operator) 0 ∷ symbols_in q)) refl

pub joined_step : {o : Bool} {p q : List Piece} {left right : Expr} {d e : ℕ} {l : ℕ} (at : ℕ) (operator : BinaryOperator)
    → ((k : ℕ) → g.binary_of (Mark (binary_mark operator) k) ≡ Some operator) → g.strength operator ≡ l → Back (g.IsLevel o l) bare_expr p left d → Back (g.IsLevel o (suc l)) bare_expr q right e
    → Back (g.IsLevel o l) bare_expr (joined p (binary_mark operator) q) (expr.Binary at left operator right) (max d e + 1)
joined_step {p = p} {q = q} {l = l} at operator of s x y = back_by λ P into zs told.
    split P {es = symbols_in p} {fs = Mark (binary_mark operator) 0 ∷ symbols_in q} zs (told ∙ joined_step_told p q operator) λ xs back x_told back_told.
    split_mark (λ vs. P (xs ++ vs)) back back_told λ here ys y_told.
    let xr = x.back xs x_told in
    let yr = y.back ys y_told in
    into _ (record {
      tree = expr.Binary (start_of xs) xr.tree operator yr.tree;
      own = max xr.own yr.own + 1;
      reads = g.joined_expr (Mark (binary_mark operator) here) xr.reads (of here) s yr.reads;
      below = omega (arith, xr.below, yr.below);
      same = bare.binary_expr _ _ _ _ ∙ ap_both (λ m n. expr.Binary 0 m operator n) xr.same yr.same ∙ sym (bare.binary_expr _ _ _ _);
    })

spaced_told : (b : Bool) → symbols_in (spaced_if b) ≡ []
spaced_told true = refl
spaced_told false = refl

not_step_told : (p : List Piece) → symbols_in (prefixed unary.Not p) ≡ Mark m.Not 0 ∷ symbols_in p
not_step_told p = alike (one (prefixed unary.Not p)) (one (Mark m.Not 0 ∷ symbols_in p)) refl

pub not_step : {o : Bool} {p : List Piece} {of : Expr} {d : ℕ} (at : ℕ)
    → Back (g.IsUnary o) bare_expr p of d
    → Back (g.IsUnary o) bare_expr (prefixed unary.Not p) (expr.Unary at unary.Not of) (d + 1)
not_step {p = p} at x = back_by λ P into zs told.
    split_mark P zs (told ∙ not_step_told p) λ here xs x_told.
    let xr = x.back xs x_told in
    into _ (record {
      tree = expr.Unary here unary.Not xr.tree;
      own = xr.own + 1;
      reads = g.prefix_expr (Mark m.Not here) refl xr.reads;
      below = omega (arith, xr.below);
      same = bare.unary_expr _ _ _ ∙ ap (λ m. expr.Unary 0 unary.Not m) xr.same ∙ sym (bare.unary_expr _ _ _);
    })

minus_step_told : (p : List Piece) → symbols_in (prefixed unary.Minus p) ≡ Mark m.Minus 0 ∷ symbols_in p
minus_step_told p = simp (flat_map-append, append_assoc, append-nil, spaced_told) refl

pub minus_step : {o : Bool} {p : List Piece} {of : Expr} {d : ℕ} (at : ℕ)
    → Back (g.IsUnary o) bare_expr p of d
    → Back (g.IsUnary o) bare_expr (prefixed unary.Minus p) (expr.Unary at unary.Minus of) (d + 1)
minus_step {p = p} at x = back_by λ P into zs told.
    split_mark P zs (told ∙ minus_step_told p) λ here xs x_told.
    let xr = x.back xs x_told in
    into _ (record {
      tree = expr.Unary here unary.Minus xr.tree;
      own = xr.own + 1;
      reads = g.prefix_expr (Mark m.Minus here) refl xr.reads;
      below = omega (arith, xr.below);
      same = bare.unary_expr _ _ _ ∙ ap (λ m. expr.Unary 0 unary.Minus m) xr.same ∙ sym (bare.unary_expr _ _ _);
    })

plus_step_told : (p : List Piece) → symbols_in (prefixed unary.Plus p) ≡ Mark m.Plus 0 ∷ symbols_in p
plus_step_told p = simp (flat_map-append, append_assoc, append-nil, spaced_told) refl

pub plus_step : {o : Bool} {p : List Piece} {of : Expr} {d : ℕ} (at : ℕ)
    → Back (g.IsUnary o) bare_expr p of d
    → Back (g.IsUnary o) bare_expr (prefixed unary.Plus p) (expr.Unary at unary.Plus of) (d + 1)
plus_step {p = p} at x = back_by λ P into zs told.
    split_mark P zs (told ∙ plus_step_told p) λ here xs x_told.
    let xr = x.back xs x_told in
    into _ (record {
      tree = expr.Unary here unary.Plus xr.tree;
      own = xr.own + 1;
      reads = g.prefix_expr (Mark m.Plus here) refl xr.reads;
      below = omega (arith, xr.below);
      same = bare.unary_expr _ _ _ ∙ ap (λ m. expr.Unary 0 unary.Plus m) xr.same ∙ sym (bare.unary_expr _ _ _);
    })

typeof_step_told : (p : List Piece) → symbols_in (prefixed unary.Typeof p) ≡ Lex (c.Word w.Typeof) (codes "typeof") 0 ∷ symbols_in p
unfolding early_word middle_word late_word other_word last_word type_word named_word
typeof_step_told p = alike (one (prefixed unary.Typeof p)) (one (Lex (c.Word w.Typeof) (codes "typeof") 0 ∷ symbols_in p)) refl

pub typeof_step : {o : Bool} {p : List Piece} {of : Expr} {d : ℕ} (at : ℕ)
    → Back (g.IsUnary o) bare_expr p of d
    → Back (g.IsUnary o) bare_expr (prefixed unary.Typeof p) (expr.Unary at unary.Typeof of) (d + 1)
typeof_step {p = p} at x = back_by λ P into zs told.
    split_lex P zs (told ∙ typeof_step_told p) λ here xs x_told.
    let xr = x.back xs x_told in
    into _ (record {
      tree = expr.Unary here unary.Typeof xr.tree;
      own = xr.own + 1;
      reads = g.prefix_expr (Lex (c.Word w.Typeof) (codes "typeof") here) refl xr.reads;
      below = omega (arith, xr.below);
      same = bare.unary_expr _ _ _ ∙ ap (λ m. expr.Unary 0 unary.Typeof m) xr.same ∙ sym (bare.unary_expr _ _ _);
    })

pub unary_step : {o : Bool} {p : List Piece} {of : Expr} {d : ℕ} (at : ℕ) (operator : UnaryOperator) → Back (g.IsUnary o) bare_expr p of d
    → Back (g.IsUnary o) bare_expr (prefixed operator p) (expr.Unary at operator of) (d + 1)
unary_step at unary.Not x = not_step at x
unary_step at unary.Minus x = minus_step at x
unary_step at unary.Plus x = plus_step at x
unary_step at unary.Typeof x = typeof_step at x

update_before_step_told : (p : List Piece) (operator : UpdateOperator) → symbols_in (mark (update_mark operator) ++ p) ≡ Mark (update_mark operator) 0 ∷ symbols_in p
update_before_step_told p operator = alike (one (mark (update_mark operator)) ⊕ one p) (one (Mark (update_mark operator) 0 ∷ symbols_in p)) refl

pub update_before_step : {o : Bool} {p : List Piece} {of : Expr} {d : ℕ} (at : ℕ) (operator : UpdateOperator)
    → g.is_target of ≡ true → Back (g.IsChain o) bare_expr p of d
    → Back (g.IsUnary o) bare_expr (mark (update_mark operator) ++ p) (expr.Update at operator true of) (d + 1)
update_before_step {p = p} {of = of} at operator t x = back_by λ P into zs told.
    split_mark P zs (told ∙ update_before_step_told p operator) λ here xs x_told.
    let xr = x.back xs x_told in
    into _ (record {
      tree = expr.Update here operator true xr.tree;
      own = xr.own + 1;
      reads = g.update_before (Mark (update_mark operator) here) (update_told operator here) xr.reads (target_back xr.tree of xr.same t);
      below = omega (arith, xr.below);
      same = bare.update_expr _ _ _ _ ∙ ap (λ m. expr.Update 0 operator true m) xr.same ∙ sym (bare.update_expr _ _ _ _);
    })

update_behind_step_told : (p : List Piece) (operator : UpdateOperator) → symbols_in (p ++ mark (update_mark operator)) ≡ symbols_in p ++ Mark (update_mark operator) 0 ∷ []
update_behind_step_told p operator = alike (one p ⊕ one (mark (update_mark operator))) (one (symbols_in p) ⊕ one (Mark (update_mark operator) 0 ∷ [])) refl

pub update_behind_step : {o : Bool} {p : List Piece} {of : Expr} {d : ℕ} (at : ℕ) (operator : UpdateOperator)
    → g.is_target of ≡ true → Back (g.IsChain o) bare_expr p of d
    → Back (g.IsUnary o) bare_expr (p ++ mark (update_mark operator)) (expr.Update at operator false of) (d + 1)
update_behind_step {p = p} {of = of} at operator t x = back_by λ P into zs told.
    split P {es = symbols_in p} {fs = Mark (update_mark operator) 0 ∷ []} zs (told ∙ update_behind_step_told p operator) λ xs back x_told back_told.
    last_mark (λ vs. P (xs ++ vs)) back back_told λ here.
    let xr = x.back xs x_told in
    into _ (record {
      tree = expr.Update (start_of xs) operator false xr.tree;
      own = xr.own + 1;
      reads = g.update_after (Mark (update_mark operator) here) xr.reads (target_back xr.tree of xr.same t) (update_told operator here);
      below = omega (arith, xr.below);
      same = bare.update_expr _ _ _ _ ∙ ap (λ m. expr.Update 0 operator false m) xr.same ∙ sym (bare.update_expr _ _ _ _);
    })

member_step_told : (p : List Piece) (spelled : List ℕ) → symbols_in (p ++ mark m.Dot ++ word spelled) ≡ symbols_in p ++ Mark m.Dot 0 ∷ Lex (c.Word (word_of spelled)) spelled 0 ∷ []
member_step_told p spelled =
    alike (one p ⊕ one (mark m.Dot) ⊕ one (word spelled)) (one (symbols_in p) ⊕ one (Mark m.Dot 0 ∷ Lex (c.Word (word_of spelled)) spelled 0 ∷ [])) refl

pub member_step : {o : Bool} {p : List Piece} {of : Expr} {d : ℕ} (at : ℕ) (spelled : List ℕ)
    → g.is_number of ≡ false → Back (g.IsChain o) bare_expr p of d
    → Back (g.IsChain o) bare_expr (p ++ mark m.Dot ++ word spelled) (expr.Member at of spelled) (d + 1)
member_step {p = p} {of = of} at spelled t x = back_by λ P into zs told.
    split P {es = symbols_in p} {fs = Mark m.Dot 0 ∷ Lex (c.Word (word_of spelled)) spelled 0 ∷ []} zs (told ∙ member_step_told p spelled) λ xs back x_told back_told.
    split_mark (λ vs. P (xs ++ vs)) back back_told λ a more more_told.
    last_lex (λ vs. P (xs ++ Mark m.Dot a ∷ vs)) more more_told λ b.
    let xr = x.back xs x_told in
    into _ (record {
      tree = expr.Member (start_of xs) xr.tree spelled;
      own = xr.own + 1;
      reads = g.member_expr (word_of spelled) a spelled b xr.reads (number_back xr.tree of xr.same t);
      below = omega (arith, xr.below);
      same = bare.member_expr _ _ _ ∙ ap (λ m. expr.Member 0 m spelled) xr.same ∙ sym (bare.member_expr _ _ _);
    })

index_step_told : (p q : List Piece) → symbols_in (p ++ mark m.OpenBracket ++ q ++ mark m.CloseBracket) ≡ symbols_in p ++ Mark m.OpenBracket 0 ∷ symbols_in q ++ Mark m.CloseBracket 0 ∷ []
index_step_told p q =
    alike (one p ⊕ one (mark m.OpenBracket) ⊕ one q ⊕ one (mark m.CloseBracket)) (one (symbols_in p) ⊕ one (Mark m.OpenBracket 0 ∷ symbols_in q) ⊕ one (Mark m.CloseBracket 0 ∷ [])) refl

pub index_step : {o : Bool} {p q : List Piece} {of place : Expr} {d e : ℕ} (at : ℕ)
    → Back (g.IsChain o) bare_expr p of d → Back (g.IsExpr o true) bare_expr q place e
    → Back (g.IsChain o) bare_expr (p ++ mark m.OpenBracket ++ q ++ mark m.CloseBracket) (expr.Index at of place) (max d e + 1)
index_step {p = p} {q = q} at x y = back_by λ P into zs told.
    split P {es = symbols_in p ++ Mark m.OpenBracket 0 ∷ symbols_in q} {fs = Mark m.CloseBracket 0 ∷ []} zs (told ∙ index_step_told p q) λ front back front_told back_told.
    split (λ vs. P (vs ++ back)) {es = symbols_in p} {fs = Mark m.OpenBracket 0 ∷ symbols_in q} front front_told λ xs back2 x_told back2_told.
    split_mark (λ vs. P (xs ++ vs ++ back)) back2 back2_told λ a ys y_told.
    last_mark (λ vs. P (xs ++ Mark m.OpenBracket a ∷ ys ++ vs)) back back_told λ b.
    let xr = x.back xs x_told in
    let yr = y.back ys y_told in
    into _ (record {
      tree = expr.Index (start_of xs) xr.tree yr.tree;
      own = max xr.own yr.own + 1;
      reads = g.index_expr a b xr.reads yr.reads;
      below = omega (arith, xr.below, yr.below);
      same = bare.index_expr _ _ _ ∙ ap_both (λ m n. expr.Index 0 m n) xr.same yr.same ∙ sym (bare.index_expr _ _ _);
    })

call_step_told : (p q : List Piece) → symbols_in (p ++ in_parens q) ≡ symbols_in p ++ Mark m.OpenParen 0 ∷ symbols_in q ++ Mark m.CloseParen 0 ∷ []
call_step_told p q =
    alike (one p ⊕ (one (mark m.OpenParen) ⊕ one q ⊕ one (mark m.CloseParen))) (one (symbols_in p) ⊕ one (Mark m.OpenParen 0 ∷ symbols_in q) ⊕ one (Mark m.CloseParen 0 ∷ [])) refl

pub call_step : {o : Bool} {p q : List Piece} {of : Expr} {arguments : List Expr} {d e : ℕ} (at : ℕ)
    → Back (g.IsChain o) bare_expr p of d → Back (g.IsExprs o) (map bare_expr) q arguments e
    → Back (g.IsChain o) bare_expr (p ++ in_parens q) (expr.Call at of [] arguments) (max d e + 1)
call_step {p = p} {q = q} at x y = back_by λ P into zs told.
    split P {es = symbols_in p ++ Mark m.OpenParen 0 ∷ symbols_in q} {fs = Mark m.CloseParen 0 ∷ []} zs (told ∙ call_step_told p q) λ front back front_told back_told.
    split (λ vs. P (vs ++ back)) {es = symbols_in p} {fs = Mark m.OpenParen 0 ∷ symbols_in q} front front_told λ xs back2 x_told back2_told.
    split_mark (λ vs. P (xs ++ vs ++ back)) back2 back2_told λ a ys y_told.
    last_mark (λ vs. P (xs ++ Mark m.OpenParen a ∷ ys ++ vs)) back back_told λ b.
    let xr = x.back xs x_told in
    let yr = y.back ys y_told in
    into _ (record {
      tree = expr.Call (start_of xs) xr.tree [] yr.tree;
      own = max xr.own yr.own + 1;
      reads = g.call_expr a b xr.reads yr.reads;
      below = omega (arith, xr.below, yr.below);
      same = bare.call_expr _ _ _ _ ∙ ap_both (λ m n. expr.Call 0 m [] n) xr.same yr.same ∙ sym (bare.call_expr _ _ _ _);
    })

name_step_told : (spelled : List ℕ) → symbols_in (word spelled) ≡ Lex (c.Word (word_of spelled)) spelled 0 ∷ []
name_step_told spelled = alike (one (word spelled)) (one (Lex (c.Word (word_of spelled)) spelled 0 ∷ [])) refl

pub name_step : {o : Bool} (at : ℕ) (spelled : List ℕ)
    → is_name (word_of spelled) ≡ true
    → Back (g.IsPrimary o) bare_expr (word spelled) (expr.Name at spelled) (1)
name_step at spelled h = back_by λ P into zs told.
    last_lex P zs (told ∙ name_step_told spelled) λ here.
    into _ (record {
      tree = expr.Name here spelled;
      own = 1;
      reads = g.name_expr spelled here h;
      below = omega arith;
      same = bare.name_expr _ _ ∙ sym (bare.name_expr _ _);
    })

this_step_told : symbols_in (word (codes "this")) ≡ Lex (c.Word w.This) (codes "this") 0 ∷ []
unfolding early_word middle_word late_word other_word last_word type_word named_word
this_step_told = alike (one (word (codes "this"))) (one (Lex (c.Word w.This) (codes "this") 0 ∷ [])) refl

pub this_step : {o : Bool} (at : ℕ) → Back (g.IsPrimary o) bare_expr (word (codes "this")) (expr.This at) (1)
this_step at = back_by λ P into zs told.
    last_lex P zs (told ∙ this_step_told) λ here.
    into _ (record {
      tree = expr.This here;
      own = 1;
      reads = g.this_expr (codes "this") here;
      below = omega arith;
      same = bare.this_expr _ ∙ sym (bare.this_expr _);
    })

null_step_told : symbols_in (word (codes "null")) ≡ Lex (c.Word w.Null) (codes "null") 0 ∷ []
unfolding early_word middle_word late_word other_word last_word type_word named_word
null_step_told = alike (one (word (codes "null"))) (one (Lex (c.Word w.Null) (codes "null") 0 ∷ [])) refl

pub null_step : {o : Bool} (at : ℕ) → Back (g.IsPrimary o) bare_expr (word (codes "null")) (expr.Null at) (1)
null_step at = back_by λ P into zs told.
    last_lex P zs (told ∙ null_step_told) λ here.
    into _ (record {
      tree = expr.Null here;
      own = 1;
      reads = g.null_expr (codes "null") here;
      below = omega arith;
      same = bare.null_expr _ ∙ sym (bare.null_expr _);
    })

undefined_step_told : symbols_in (word (codes "undefined")) ≡ Lex (c.Word w.Undefined) (codes "undefined") 0 ∷ []
unfolding early_word middle_word late_word other_word last_word type_word named_word
undefined_step_told = alike (one (word (codes "undefined"))) (one (Lex (c.Word w.Undefined) (codes "undefined") 0 ∷ [])) refl

pub undefined_step : {o : Bool} (at : ℕ) → Back (g.IsPrimary o) bare_expr (word (codes "undefined")) (expr.Undefined at) (1)
undefined_step at = back_by λ P into zs told.
    last_lex P zs (told ∙ undefined_step_told) λ here.
    into _ (record {
      tree = expr.Undefined here;
      own = 1;
      reads = g.undefined_expr (codes "undefined") here;
      below = omega arith;
      same = bare.undefined_expr _ ∙ sym (bare.undefined_expr _);
    })

number_step_told : (spelled : List ℕ) → symbols_in (pieces.Lex c.Number spelled ∷ []) ≡ Lex c.Number spelled 0 ∷ []
number_step_told spelled = alike (one (pieces.Lex c.Number spelled ∷ [])) (one (Lex c.Number spelled 0 ∷ [])) refl

pub number_step : {o : Bool} (at : ℕ) (spelled : List ℕ) → Back (g.IsPrimary o) bare_expr (pieces.Lex c.Number spelled ∷ []) (expr.Number at spelled) (1)
number_step at spelled = back_by λ P into zs told.
    last_lex P zs (told ∙ number_step_told spelled) λ here.
    into _ (record {
      tree = expr.Number here spelled;
      own = 1;
      reads = g.number_expr spelled here;
      below = omega arith;
      same = bare.number_expr _ _ ∙ sym (bare.number_expr _ _);
    })

string_step_told : (spelled : List ℕ) → symbols_in (pieces.Lex c.String spelled ∷ []) ≡ Lex c.String spelled 0 ∷ []
string_step_told spelled = alike (one (pieces.Lex c.String spelled ∷ [])) (one (Lex c.String spelled 0 ∷ [])) refl

pub string_step : {o : Bool} (at : ℕ) (spelled : List ℕ) → Back (g.IsPrimary o) bare_expr (pieces.Lex c.String spelled ∷ []) (expr.String at spelled) (1)
string_step at spelled = back_by λ P into zs told.
    last_lex P zs (told ∙ string_step_told spelled) λ here.
    into _ (record {
      tree = expr.String here spelled;
      own = 1;
      reads = g.string_expr spelled here;
      below = omega arith;
      same = bare.string_expr _ _ ∙ sym (bare.string_expr _ _);
    })

template_step_told : (spelled : List ℕ) → symbols_in (pieces.Lex (c.Template part.Whole) spelled ∷ []) ≡ Lex (c.Template part.Whole) spelled 0 ∷ []
template_step_told spelled = alike (one (pieces.Lex (c.Template part.Whole) spelled ∷ [])) (one (Lex (c.Template part.Whole) spelled 0 ∷ [])) refl

pub template_step : {o : Bool} (at : ℕ) (spelled : List ℕ) → Back (g.IsPrimary o) bare_expr (pieces.Lex (c.Template part.Whole) spelled ∷ []) (expr.Template at spelled []) (1)
template_step at spelled = back_by λ P into zs told.
    last_lex P zs (told ∙ template_step_told spelled) λ here.
    into _ (record {
      tree = expr.Template here spelled [];
      own = 1;
      reads = g.template_expr spelled here;
      below = omega arith;
      same = bare.template_expr _ _ _ ∙ sym (bare.template_expr _ _ _);
    })

spans_step_told : (p : List Piece) (spelled : List ℕ) → symbols_in (pieces.Lex (c.Template part.Head) spelled ∷ p) ≡ Lex (c.Template part.Head) spelled 0 ∷ symbols_in p
spans_step_told p spelled = refl

pub spans_step : {o : Bool} {p : List Piece} {spans : List TemplateSpan} {d : ℕ} (at : ℕ) (spelled : List ℕ)
    → Back (g.IsSpans o) (map bare_span) p spans d
    → Back (g.IsPrimary o) bare_expr (pieces.Lex (c.Template part.Head) spelled ∷ p) (expr.Template at spelled spans) (d + 1)
spans_step {p = p} at spelled x = back_by λ P into zs told.
    split_lex P zs (told ∙ spans_step_told p spelled) λ here xs x_told.
    let xr = x.back xs x_told in
    into _ (record {
      tree = expr.Template here spelled xr.tree;
      own = xr.own + 1;
      reads = g.spans_expr spelled here xr.reads;
      below = omega (arith, xr.below);
      same = bare.template_expr _ _ _ ∙ ap (λ m. expr.Template 0 spelled m) xr.same ∙ sym (bare.template_expr _ _ _);
    })

true_step_told : symbols_in (truth_pieces true) ≡ Lex (c.Word w.True) (codes "true") 0 ∷ []
unfolding early_word middle_word late_word other_word last_word type_word named_word
true_step_told = alike (one (truth_pieces true)) (one (Lex (c.Word w.True) (codes "true") 0 ∷ [])) refl

pub true_step : {o : Bool} (at : ℕ) → Back (g.IsPrimary o) bare_expr (truth_pieces true) (expr.Boolean at true) (1)
true_step at = back_by λ P into zs told.
    last_lex P zs (told ∙ true_step_told) λ here.
    into _ (record {
      tree = expr.Boolean here true;
      own = 1;
      reads = g.boolean_expr {kind = w.True} (codes "true") here refl;
      below = omega arith;
      same = bare.boolean_expr _ _ ∙ sym (bare.boolean_expr _ _);
    })

false_step_told : symbols_in (truth_pieces false) ≡ Lex (c.Word w.False) (codes "false") 0 ∷ []
unfolding early_word middle_word late_word other_word last_word type_word named_word
false_step_told = alike (one (truth_pieces false)) (one (Lex (c.Word w.False) (codes "false") 0 ∷ [])) refl

pub false_step : {o : Bool} (at : ℕ) → Back (g.IsPrimary o) bare_expr (truth_pieces false) (expr.Boolean at false) (1)
false_step at = back_by λ P into zs told.
    last_lex P zs (told ∙ false_step_told) λ here.
    into _ (record {
      tree = expr.Boolean here false;
      own = 1;
      reads = g.boolean_expr {kind = w.False} (codes "false") here refl;
      below = omega arith;
      same = bare.boolean_expr _ _ ∙ sym (bare.boolean_expr _ _);
    })

pub boolean_step : {o : Bool} (at : ℕ) (value : Bool) → Back (g.IsPrimary o) bare_expr (truth_pieces value) (expr.Boolean at value) 1
boolean_step at true = true_step at
boolean_step at false = false_step at

parens_step_told : (p : List Piece) → symbols_in (in_parens p) ≡ Mark m.OpenParen 0 ∷ symbols_in p ++ Mark m.CloseParen 0 ∷ []
parens_step_told p = alike (one (mark m.OpenParen) ⊕ one p ⊕ one (mark m.CloseParen)) (one (Mark m.OpenParen 0 ∷ symbols_in p) ⊕ one (Mark m.CloseParen 0 ∷ [])) refl

pub parens_step : {o : Bool} {p : List Piece} {of : Expr} {d : ℕ} (at : ℕ)
    → Back (g.IsExpr o true) bare_expr p of d
    → Back (g.IsPrimary o) bare_expr (in_parens p) (expr.Parens at of) (d + 1)
parens_step {p = p} at x = back_by λ P into zs told.
    split P {es = Mark m.OpenParen 0 ∷ symbols_in p} {fs = Mark m.CloseParen 0 ∷ []} zs (told ∙ parens_step_told p) λ front back front_told back_told.
    split_mark (λ vs. P (vs ++ back)) front front_told λ a xs x_told.
    last_mark (λ vs. P (Mark m.OpenParen a ∷ xs ++ vs)) back back_told λ b.
    let xr = x.back xs x_told in
    into _ (record {
      tree = expr.Parens a xr.tree;
      own = xr.own + 1;
      reads = g.parens_expr a b xr.reads;
      below = omega (arith, xr.below);
      same = bare.parens_expr _ _ ∙ ap (λ m. expr.Parens 0 m) xr.same ∙ sym (bare.parens_expr _ _);
    })

array_step_told : (p : List Piece) → symbols_in (mark m.OpenBracket ++ p ++ mark m.CloseBracket) ≡ Mark m.OpenBracket 0 ∷ symbols_in p ++ Mark m.CloseBracket 0 ∷ []
array_step_told p =
    alike (one (mark m.OpenBracket) ⊕ one p ⊕ one (mark m.CloseBracket)) (one (Mark m.OpenBracket 0 ∷ symbols_in p) ⊕ one (Mark m.CloseBracket 0 ∷ [])) refl

pub array_step : {o : Bool} {p : List Piece} {of : List Expr} {d : ℕ} (at : ℕ)
    → Back (g.IsExprs o) (map bare_expr) p of d
    → Back (g.IsPrimary o) bare_expr (mark m.OpenBracket ++ p ++ mark m.CloseBracket) (expr.Array at of) (d + 1)
array_step {p = p} at x = back_by λ P into zs told.
    split P {es = Mark m.OpenBracket 0 ∷ symbols_in p} {fs = Mark m.CloseBracket 0 ∷ []} zs (told ∙ array_step_told p) λ front back front_told back_told.
    split_mark (λ vs. P (vs ++ back)) front front_told λ a xs x_told.
    last_mark (λ vs. P (Mark m.OpenBracket a ∷ xs ++ vs)) back back_told λ b.
    let xr = x.back xs x_told in
    into _ (record {
      tree = expr.Array a xr.tree;
      own = xr.own + 1;
      reads = g.array_expr a b xr.reads;
      below = omega (arith, xr.below);
      same = bare.array_expr _ _ ∙ ap (λ m. expr.Array 0 m) xr.same ∙ sym (bare.array_expr _ _);
    })

object_step_told : (p : List Piece) → symbols_in (mark m.OpenBrace ++ space ++ p ++ space ++ mark m.CloseBrace) ≡ Mark m.OpenBrace 0 ∷ symbols_in p ++ Mark m.CloseBrace 0 ∷ []
object_step_told p =
    alike (one (mark m.OpenBrace) ⊕ one space ⊕ one p ⊕ one space ⊕ one (mark m.CloseBrace)) (one (Mark m.OpenBrace 0 ∷ symbols_in p) ⊕ one (Mark m.CloseBrace 0 ∷ [])) refl

pub object_step : {o : Bool} {p : List Piece} {of : List Prop} {d : ℕ} (at : ℕ)
    → Back (g.IsProps o) (map bare_prop) p of d
    → Back (g.IsPrimary o) bare_expr (mark m.OpenBrace ++ space ++ p ++ space ++ mark m.CloseBrace) (expr.Object at of) (d + 1)
object_step {p = p} at x = back_by λ P into zs told.
    split P {es = Mark m.OpenBrace 0 ∷ symbols_in p} {fs = Mark m.CloseBrace 0 ∷ []} zs (told ∙ object_step_told p) λ front back front_told back_told.
    split_mark (λ vs. P (vs ++ back)) front front_told λ a xs x_told.
    last_mark (λ vs. P (Mark m.OpenBrace a ∷ xs ++ vs)) back back_told λ b.
    let xr = x.back xs x_told in
    into _ (record {
      tree = expr.Object a xr.tree;
      own = xr.own + 1;
      reads = g.object_expr a b xr.reads;
      below = omega (arith, xr.below);
      same = bare.object_expr _ _ ∙ ap (λ m. expr.Object 0 m) xr.same ∙ sym (bare.object_expr _ _);
    })

new_step_told : (p : List Piece) (spelled : List ℕ) → symbols_in (word (codes "new") ++ space ++ word spelled ++ in_parens p) ≡ Lex (c.Word w.New) (codes "new") 0 ∷ Lex (c.Word (word_of spelled)) spelled 0 ∷ Mark m.OpenParen 0 ∷ symbols_in p ++ Mark m.CloseParen 0 ∷ []
unfolding early_word middle_word late_word other_word last_word type_word named_word
new_step_told p spelled =
    alike (one (word (codes "new")) ⊕ one space ⊕ one (word spelled) ⊕ (one (mark m.OpenParen) ⊕ one p ⊕ one (mark m.CloseParen))) (one (Lex (c.Word w.New) (codes "new") 0 ∷ Lex (c.Word (word_of spelled)) spelled 0 ∷ Mark m.OpenParen 0 ∷ symbols_in p) ⊕ one (Mark m.CloseParen 0 ∷ [])) refl

pub new_step : {o : Bool} {p : List Piece} {of : List Expr} {d : ℕ} (at name_at : ℕ) (spelled : List ℕ)
    → is_name (word_of spelled) ≡ true → Back (g.IsExprs o) (map bare_expr) p of d
    → Back (g.IsPrimary o) bare_expr (word (codes "new") ++ space ++ word spelled ++ in_parens p) (expr.New at (record { at = name_at; name = spelled }) of) (d + 1)
new_step {p = p} at name_at spelled h x = back_by λ P into zs told.
    split P {es = Lex (c.Word w.New) (codes "new") 0 ∷ Lex (c.Word (word_of spelled)) spelled 0 ∷ Mark m.OpenParen 0 ∷ symbols_in p} {fs = Mark m.CloseParen 0 ∷ []} zs (told ∙ new_step_told p spelled) λ front back front_told back_told.
    split_lex (λ vs. P (vs ++ back)) front front_told λ a more more_told.
    split_lex (λ vs. P (Lex (c.Word w.New) (codes "new") a ∷ vs ++ back)) more more_told λ b more2 more2_told.
    split_mark (λ vs. P (Lex (c.Word w.New) (codes "new") a ∷ Lex (c.Word (word_of spelled)) spelled b ∷ vs ++ back)) more2 more2_told λ i xs x_told.
    last_mark (λ vs. P (Lex (c.Word w.New) (codes "new") a ∷ Lex (c.Word (word_of spelled)) spelled b ∷ Mark m.OpenParen i ∷ xs ++ vs)) back back_told λ j.
    let xr = x.back xs x_told in
    into _ (record {
      tree = expr.New a (record { at = b; name = spelled }) xr.tree;
      own = xr.own + 1;
      reads = g.new_expr (codes "new") a spelled b i j h xr.reads;
      below = omega (arith, xr.below);
      same = bare.new_expr _ _ _ ∙ ap (λ m. expr.New 0 (record { at = 0; name = spelled }) m) xr.same ∙ sym (bare.new_expr _ _ _);
    })

last_span_step_told : (p : List Piece) (spelled : List ℕ) → symbols_in (p ++ pieces.Lex (c.Template part.Tail) spelled ∷ []) ≡ symbols_in p ++ Lex (c.Template part.Tail) spelled 0 ∷ []
last_span_step_told p spelled =
    alike (one p ⊕ one (pieces.Lex (c.Template part.Tail) spelled ∷ [])) (one (symbols_in p) ⊕ one (Lex (c.Template part.Tail) spelled 0 ∷ [])) refl

pub last_span_step : {o : Bool} {p : List Piece} {of : Expr} {d : ℕ} (spelled : List ℕ)
    → Back (g.IsExpr o true) bare_expr p of d
    → Back (g.IsSpans o) (map bare_span) (p ++ pieces.Lex (c.Template part.Tail) spelled ∷ []) (roll-TemplateSpan (record { value = of; text = spelled }) ∷ []) (d)
last_span_step {p = p} spelled x = back_by λ P into zs told.
    split P {es = symbols_in p} {fs = Lex (c.Template part.Tail) spelled 0 ∷ []} zs (told ∙ last_span_step_told p spelled) λ xs back x_told back_told.
    last_lex (λ vs. P (xs ++ vs)) back back_told λ here.
    let xr = x.back xs x_told in
    into _ (record {
      tree = roll-TemplateSpan (record { value = xr.tree; text = spelled }) ∷ [];
      own = xr.own;
      reads = g.last_span spelled here xr.reads;
      below = omega (arith, xr.below);
      same = ap (λ v. v ∷ []) (bare.span_rolled _ ∙ ap (λ m. roll-TemplateSpan (record { value = m; text = spelled })) xr.same ∙ sym (bare.span_rolled _));
    })

more_spans_step_told : (p q : List Piece) (spelled : List ℕ) → symbols_in (p ++ pieces.Lex (c.Template part.Middle) spelled ∷ q) ≡ symbols_in p ++ Lex (c.Template part.Middle) spelled 0 ∷ symbols_in q
more_spans_step_told p q spelled =
    alike (one p ⊕ one (pieces.Lex (c.Template part.Middle) spelled ∷ q)) (one (symbols_in p) ⊕ one (Lex (c.Template part.Middle) spelled 0 ∷ symbols_in q)) refl

pub more_spans_step : {o : Bool} {p q : List Piece} {of : Expr} {rest : List TemplateSpan} {d e : ℕ} (spelled : List ℕ)
    → Back (g.IsExpr o true) bare_expr p of d → Back (g.IsSpans o) (map bare_span) q rest e
    → Back (g.IsSpans o) (map bare_span) (p ++ pieces.Lex (c.Template part.Middle) spelled ∷ q) (roll-TemplateSpan (record { value = of; text = spelled }) ∷ rest) (max d e)
more_spans_step {p = p} {q = q} spelled x y = back_by λ P into zs told.
    split P {es = symbols_in p} {fs = Lex (c.Template part.Middle) spelled 0 ∷ symbols_in q} zs (told ∙ more_spans_step_told p q spelled) λ xs back x_told back_told.
    split_lex (λ vs. P (xs ++ vs)) back back_told λ here ys y_told.
    let xr = x.back xs x_told in
    let yr = y.back ys y_told in
    into _ (record {
      tree = roll-TemplateSpan (record { value = xr.tree; text = spelled }) ∷ yr.tree;
      own = max xr.own yr.own;
      reads = g.more_spans spelled here xr.reads yr.reads;
      below = omega (arith, xr.below, yr.below);
      same = ap_both (λ v vs. v ∷ vs) (bare.span_rolled _ ∙ ap (λ m. roll-TemplateSpan (record { value = m; text = spelled })) xr.same ∙ sym (bare.span_rolled _)) yr.same;
    })

word_prop_step_told : (p : List Piece) (spelled : List ℕ) → symbols_in (key_pieces (key.Word spelled) ++ mark m.Colon ++ space ++ p) ≡ Lex (c.Word (word_of spelled)) spelled 0 ∷ Mark m.Colon 0 ∷ symbols_in p
word_prop_step_told p spelled =
    alike (one (key_pieces (key.Word spelled)) ⊕ one (mark m.Colon) ⊕ one space ⊕ one p) (one (Lex (c.Word (word_of spelled)) spelled 0 ∷ Mark m.Colon 0 ∷ symbols_in p)) refl

pub word_prop_step : {o : Bool} {p : List Piece} {of : Expr} {d : ℕ} (at : ℕ) (spelled : List ℕ)
    → Back (g.IsExpr o true) bare_expr p of d
    → Back (g.IsProp o) bare_prop (key_pieces (key.Word spelled) ++ mark m.Colon ++ space ++ p) (prop.Valued at (key.Word spelled) of) (d)
word_prop_step {p = p} at spelled x = back_by λ P into zs told.
    split_lex P zs (told ∙ word_prop_step_told p spelled) λ a more more_told.
    split_mark (λ vs. P (Lex (c.Word (word_of spelled)) spelled a ∷ vs)) more more_told λ b xs x_told.
    let xr = x.back xs x_told in
    into _ (record {
      tree = prop.Valued a (key.Word spelled) xr.tree;
      own = xr.own;
      reads = g.valued_prop (Lex (c.Word (word_of spelled)) spelled a) b refl xr.reads;
      below = omega (arith, xr.below);
      same = bare.valued_prop _ _ _ ∙ ap (λ m. prop.Valued 0 (key.Word spelled) m) xr.same ∙ sym (bare.valued_prop _ _ _);
    })

string_prop_step_told : (p : List Piece) (spelled : List ℕ) → symbols_in (key_pieces (key.String spelled) ++ mark m.Colon ++ space ++ p) ≡ Lex c.String spelled 0 ∷ Mark m.Colon 0 ∷ symbols_in p
string_prop_step_told p spelled =
    alike (one (key_pieces (key.String spelled)) ⊕ one (mark m.Colon) ⊕ one space ⊕ one p) (one (Lex c.String spelled 0 ∷ Mark m.Colon 0 ∷ symbols_in p)) refl

pub string_prop_step : {o : Bool} {p : List Piece} {of : Expr} {d : ℕ} (at : ℕ) (spelled : List ℕ)
    → Back (g.IsExpr o true) bare_expr p of d
    → Back (g.IsProp o) bare_prop (key_pieces (key.String spelled) ++ mark m.Colon ++ space ++ p) (prop.Valued at (key.String spelled) of) (d)
string_prop_step {p = p} at spelled x = back_by λ P into zs told.
    split_lex P zs (told ∙ string_prop_step_told p spelled) λ a more more_told.
    split_mark (λ vs. P (Lex c.String spelled a ∷ vs)) more more_told λ b xs x_told.
    let xr = x.back xs x_told in
    into _ (record {
      tree = prop.Valued a (key.String spelled) xr.tree;
      own = xr.own;
      reads = g.valued_prop (Lex c.String spelled a) b refl xr.reads;
      below = omega (arith, xr.below);
      same = bare.valued_prop _ _ _ ∙ ap (λ m. prop.Valued 0 (key.String spelled) m) xr.same ∙ sym (bare.valued_prop _ _ _);
    })

pub valued_prop_step : {o : Bool} {p : List Piece} {of : Expr} {d : ℕ} (at : ℕ) (of_key : Key) → Back (g.IsExpr o true) bare_expr p of d
    → Back (g.IsProp o) bare_prop (key_pieces of_key ++ mark m.Colon ++ space ++ p) (prop.Valued at of_key of) d
valued_prop_step at (key.Word spelled) x = word_prop_step at spelled x
valued_prop_step at (key.String spelled) x = string_prop_step at spelled x

short_prop_step_told : (spelled : List ℕ) → symbols_in (word spelled) ≡ Lex (c.Word (word_of spelled)) spelled 0 ∷ []
short_prop_step_told spelled = alike (one (word spelled)) (one (Lex (c.Word (word_of spelled)) spelled 0 ∷ [])) refl

pub short_prop_step : {o : Bool} (at : ℕ) (spelled : List ℕ)
    → is_name (word_of spelled) ≡ true
    → Back (g.IsProp o) bare_prop (word spelled) (prop.Short at spelled) (0)
short_prop_step at spelled h = back_by λ P into zs told.
    last_lex P zs (told ∙ short_prop_step_told spelled) λ here.
    into _ (record {
      tree = prop.Short here spelled;
      own = 0;
      reads = g.short_prop spelled here h;
      below = omega arith;
      same = bare.short_prop _ _ ∙ sym (bare.short_prop _ _);
    })
