-- Lists, declarations and statements that are read back, by their parts: one step for each form.
use Rattle.std.proofs.Common.{◌≡◌, ℕ, suc, ◌+◌, max, Bool, true, false, ◌||◌, ◌&&◌, if◌then◌else◌, List, [], ◌∷◌, ◌++◌, map, codes, Option, Some, None, refl, sym, ap, subst, ◌∙◌, arith}
use Rattle.tb_tree.specs.declared.marks.Mark.TheVariants as m
use Rattle.tb_tree.specs.declared.words.Class.TheVariants as c
use Rattle.tb_tree.specs.declared.words.Word.TheVariants as w
use Rattle.tb_tree.specs.declared.exprs.VarKind.{VarKind}
use Rattle.tb_tree.specs.declared.exprs.VarKind.TheVariants as v
use Rattle.tb_tree.specs.declared.exprs.ArrowBody.TheVariants as arrow_body
use Rattle.tb_tree.specs.declared.exprs.Block.{Block, roll-Block}
use Rattle.tb_tree.specs.declared.exprs.BlockItem.{BlockItem}
use Rattle.tb_tree.specs.declared.exprs.BlockItem.TheVariants as block_item
use Rattle.tb_tree.specs.declared.exprs.Clause.{Clause}
use Rattle.tb_tree.specs.declared.exprs.Clause.TheVariants as clause
use Rattle.tb_tree.specs.declared.exprs.Declarator.{Declarator, roll-Declarator}
use Rattle.tb_tree.specs.declared.exprs.Expr.{Expr}
use Rattle.tb_tree.specs.declared.exprs.ForStart.{ForStart}
use Rattle.tb_tree.specs.declared.exprs.ForStart.TheVariants as start
use Rattle.tb_tree.specs.declared.exprs.Function.{Function, roll-Function}
use Rattle.tb_tree.specs.declared.exprs.Param.{Param, roll-Param}
use Rattle.tb_tree.specs.declared.exprs.Prop.{Prop}
use Rattle.tb_tree.specs.declared.exprs.Stmt.{Stmt}
use Rattle.tb_tree.specs.declared.exprs.Stmt.TheVariants as stmt
use Rattle.tb_tree.specs.declared.exprs.Var.{Var, roll-Var}
use Rattle.tb_tree.specs.Sym.{Sym, Mark, Lex}
use Rattle.tb_tree.specs.Words.{is_name, word_of, early_word, middle_word, late_word, other_word, last_word, type_word, named_word}
use Rattle.tb_tree.specs.Shapes.{start_of, unmarked}
use Rattle.tb_tree.specs.Bare.{bare_arrow_body, bare_block, bare_block_item, bare_clause, bare_declarator, bare_expr, bare_function, bare_param, bare_prop, bare_start, bare_stmt, bare_value, bare_var}
use Rattle.tb_tree.specs.Exprs as g
use Rattle.tb_tree.proofs.Ends.{ap_both}
use Rattle.tb_layout.specs.Pieces.{Piece, mark, word, space, new_line}
use Rattle.tb_layout.specs.Js.{Laid, LaidStmt, in_parens, kind_pieces, lines, block_pieces, body_pieces}
use Rattle.tb_layout.proofs.Baring as bare
use Rattle.tb_emit_law.proofs.Symbols.{symbols_in}
use Rattle.tb_emit_law.proofs.Back.{Back, back_by, told_by, wrapped, ap_three, ap_four}
use Rattle.tb_emit_law.proofs.Splits.{split, split_none, split_mark, split_lex, last_mark, last_lex}
use Rattle.tb_emit_law.proofs.Flat.{one, ◌⊕◌, alike}
use Rattle.tb_emit_law.proofs.Facts.{has_value_back, valued_back, brace_back}

pub no_value_step : {o : Bool} → Back (g.IsValue o) bare_value [] None 0
no_value_step = back_by λ P into zs told. split_none P zs told (into _ (record { tree = None; own = 0; reads = g.no_value; below = omega arith; same = refl }))

some_value_step_told : (p : List Piece) → symbols_in (space ++ mark m.Assign ++ space ++ p) ≡ Mark m.Assign 0 ∷ symbols_in p
some_value_step_told p = alike (one space ⊕ one (mark m.Assign) ⊕ one space ⊕ one p) (one (Mark m.Assign 0 ∷ symbols_in p)) refl

pub some_value_step : {o : Bool} {p : List Piece} {of : Expr} {d : ℕ}
    → Back (g.IsExpr o true) bare_expr p of d
    → Back (g.IsValue o) bare_value (space ++ mark m.Assign ++ space ++ p) (Some of) (d)
some_value_step {p = p} x = back_by λ P into zs told.
    split_mark P zs (told ∙ some_value_step_told p) λ here xs x_told.
    let xr = x.back xs x_told in
    into _ (record {
      tree = Some xr.tree;
      own = xr.own;
      reads = g.some_value here xr.reads;
      below = omega (arith, xr.below);
      same = ap Some xr.same;
    })

pub no_expr_step : {o : Bool} → Back (g.IsOptional o) bare_value [] None 0
no_expr_step = back_by λ P into zs told. split_none P zs told (into _ (record { tree = None; own = 0; reads = g.no_expr; below = omega arith; same = refl }))

pub some_expr_step : {o : Bool} {p : List Piece} {of : Expr} {d : ℕ} → Back (g.IsExpr o true) bare_expr p of d → Back (g.IsOptional o) bare_value p (Some of) d
some_expr_step x = wrapped Some (λ of. refl) (λ xs of n r. g.some_expr r) x

given_as : {o a b : Bool} {xs : List Sym} {of : Param} {n : ℕ} → a ≡ b → g.IsParam o a xs of n → g.IsParam o b xs of n
given_as {o = o} {xs = xs} {of = of} {n = n} e h = subst (λ b. g.IsParam o b xs of n) e h

param_step_told : (p : List Piece) (spelled : List ℕ) → symbols_in (word spelled ++ p) ≡ Lex (c.Word (word_of spelled)) spelled 0 ∷ [] ++ symbols_in p
param_step_told p spelled = alike (one (word spelled) ⊕ one p) (one (Lex (c.Word (word_of spelled)) spelled 0 ∷ []) ⊕ one (symbols_in p)) refl

pub param_step : {o : Bool} {p : List Piece} {value : Option Expr} {d : ℕ} (at : ℕ) (spelled : List ℕ)
    → is_name (word_of spelled) ≡ true → Back (g.IsValue o) bare_value p value d
    → Back (g.IsParam o (g.has_value value)) bare_param (word spelled ++ p) (roll-Param (record { at = at; name = spelled; optional = false; annotation = None; value = value })) (d)
param_step {p = p} {value = value} at spelled h x = back_by λ P into zs told.
    split P {es = Lex (c.Word (word_of spelled)) spelled 0 ∷ []} {fs = symbols_in p} zs (told ∙ param_step_told p spelled) λ front xs front_told x_told.
    last_lex (λ vs. P (vs ++ xs)) front front_told λ here.
    let xr = x.back xs x_told in
    into _ (record {
      tree = roll-Param (record { at = here; name = spelled; optional = false; annotation = None; value = xr.tree });
      own = max 0 xr.own;
      reads = given_as (has_value_back xr.tree value xr.same) (g.param spelled here h unmarked g.no_annotation xr.reads refl);
      below = omega (arith, xr.below);
      same = bare.param_rolled _ ∙ ap (λ m. roll-Param (record { at = 0; name = spelled; optional = false; annotation = None; value = m })) xr.same ∙ sym (bare.param_rolled _);
    })

pub no_params_step : {o : Bool} (after : Bool) → Back (g.IsParams o after) (map bare_param) [] [] 0
no_params_step after = back_by λ P into zs told. split_none P zs told (into _ (record { tree = []; own = 0; reads = g.no_params; below = omega arith; same = refl }))

pub last_param_step : {o given : Bool} {p : List Piece} {of : Param} {d : ℕ} (after : Bool) → g.may_follow o after given ≡ true → Back (g.IsParam o given) bare_param p of d → Back (g.IsParams o after) (map bare_param) p (of ∷ []) d
last_param_step after h x = wrapped (λ of. of ∷ []) (λ of. refl) (λ xs of n r. g.last_param r h) x

more_params_step_told : (p q : List Piece) → symbols_in (p ++ mark m.Comma ++ space ++ q) ≡ symbols_in p ++ Mark m.Comma 0 ∷ symbols_in q
more_params_step_told p q = alike (one p ⊕ one (mark m.Comma) ⊕ one space ⊕ one q) (one (symbols_in p) ⊕ one (Mark m.Comma 0 ∷ symbols_in q)) refl

pub more_params_step : {o : Bool} {p q : List Piece} {of : Param} {rest : List Param} {d e : ℕ} {given : Bool} (after : Bool)
    → g.may_follow o after given ≡ true → Back (g.IsParam o given) bare_param p of d → Back (g.IsParams o (after || given)) (map bare_param) q rest e
    → Back (g.IsParams o after) (map bare_param) (p ++ mark m.Comma ++ space ++ q) (of ∷ rest) (max d e)
more_params_step {p = p} {q = q} {given = given} after h x y = back_by λ P into zs told.
    split P {es = symbols_in p} {fs = Mark m.Comma 0 ∷ symbols_in q} zs (told ∙ more_params_step_told p q) λ xs back x_told back_told.
    split_mark (λ vs. P (xs ++ vs)) back back_told λ here ys y_told.
    let xr = x.back xs x_told in
    let yr = y.back ys y_told in
    into _ (record {
      tree = xr.tree ∷ yr.tree;
      own = max xr.own yr.own;
      reads = g.more_params here xr.reads h yr.reads;
      below = omega (arith, xr.below, yr.below);
      same = ap_both (λ i is. i ∷ is) xr.same yr.same;
    })

pub no_exprs_step : {o : Bool} → Back (g.IsExprs o) (map bare_expr) [] [] 0
no_exprs_step = back_by λ P into zs told. split_none P zs told (into _ (record { tree = []; own = 0; reads = g.no_exprs; below = omega arith; same = refl }))

pub last_expr_step : {o : Bool} {p : List Piece} {of : Expr} {d : ℕ} → Back (g.IsExpr o true) bare_expr p of d → Back (g.IsExprs o) (map bare_expr) p (of ∷ []) d
last_expr_step x = wrapped (λ of. of ∷ []) (λ of. refl) (λ xs of n r. g.last_expr r) x

more_exprs_step_told : (p q : List Piece) → symbols_in (p ++ mark m.Comma ++ space ++ q) ≡ symbols_in p ++ Mark m.Comma 0 ∷ symbols_in q
more_exprs_step_told p q = alike (one p ⊕ one (mark m.Comma) ⊕ one space ⊕ one q) (one (symbols_in p) ⊕ one (Mark m.Comma 0 ∷ symbols_in q)) refl

pub more_exprs_step : {o : Bool} {p q : List Piece} {of : Expr} {rest : List Expr} {d e : ℕ}
    → Back (g.IsExpr o true) bare_expr p of d → Back (g.IsExprs o) (map bare_expr) q rest e
    → Back (g.IsExprs o) (map bare_expr) (p ++ mark m.Comma ++ space ++ q) (of ∷ rest) (max d e)
more_exprs_step {p = p} {q = q} x y = back_by λ P into zs told.
    split P {es = symbols_in p} {fs = Mark m.Comma 0 ∷ symbols_in q} zs (told ∙ more_exprs_step_told p q) λ xs back x_told back_told.
    split_mark (λ vs. P (xs ++ vs)) back back_told λ here ys y_told.
    let xr = x.back xs x_told in
    let yr = y.back ys y_told in
    into _ (record {
      tree = xr.tree ∷ yr.tree;
      own = max xr.own yr.own;
      reads = g.more_exprs here xr.reads yr.reads;
      below = omega (arith, xr.below, yr.below);
      same = ap_both (λ i is. i ∷ is) xr.same yr.same;
    })

pub no_props_step : {o : Bool} → Back (g.IsProps o) (map bare_prop) [] [] 0
no_props_step = back_by λ P into zs told. split_none P zs told (into _ (record { tree = []; own = 0; reads = g.no_props; below = omega arith; same = refl }))

pub last_prop_step : {o : Bool} {p : List Piece} {of : Prop} {d : ℕ} → Back (g.IsProp o) bare_prop p of d → Back (g.IsProps o) (map bare_prop) p (of ∷ []) d
last_prop_step x = wrapped (λ of. of ∷ []) (λ of. refl) (λ xs of n r. g.last_prop r) x

more_props_step_told : (p q : List Piece) → symbols_in (p ++ mark m.Comma ++ space ++ q) ≡ symbols_in p ++ Mark m.Comma 0 ∷ symbols_in q
more_props_step_told p q = alike (one p ⊕ one (mark m.Comma) ⊕ one space ⊕ one q) (one (symbols_in p) ⊕ one (Mark m.Comma 0 ∷ symbols_in q)) refl

pub more_props_step : {o : Bool} {p q : List Piece} {of : Prop} {rest : List Prop} {d e : ℕ}
    → Back (g.IsProp o) bare_prop p of d → Back (g.IsProps o) (map bare_prop) q rest e
    → Back (g.IsProps o) (map bare_prop) (p ++ mark m.Comma ++ space ++ q) (of ∷ rest) (max d e)
more_props_step {p = p} {q = q} x y = back_by λ P into zs told.
    split P {es = symbols_in p} {fs = Mark m.Comma 0 ∷ symbols_in q} zs (told ∙ more_props_step_told p q) λ xs back x_told back_told.
    split_mark (λ vs. P (xs ++ vs)) back back_told λ here ys y_told.
    let xr = x.back xs x_told in
    let yr = y.back ys y_told in
    into _ (record {
      tree = xr.tree ∷ yr.tree;
      own = max xr.own yr.own;
      reads = g.more_props here xr.reads yr.reads;
      below = omega (arith, xr.below, yr.below);
      same = ap_both (λ i is. i ∷ is) xr.same yr.same;
    })

pub last_declarator_step : {o : Bool} {p : List Piece} {of : Declarator} {d : ℕ} {kind : VarKind} → Back (g.IsDeclarator o kind) bare_declarator p of d → Back (g.IsDeclarators o kind) (map bare_declarator) p (of ∷ []) d
last_declarator_step x = wrapped (λ of. of ∷ []) (λ of. refl) (λ xs of n r. g.last_declarator r) x

more_declarators_step_told : (p q : List Piece) → symbols_in (p ++ mark m.Comma ++ space ++ q) ≡ symbols_in p ++ Mark m.Comma 0 ∷ symbols_in q
more_declarators_step_told p q = alike (one p ⊕ one (mark m.Comma) ⊕ one space ⊕ one q) (one (symbols_in p) ⊕ one (Mark m.Comma 0 ∷ symbols_in q)) refl

pub more_declarators_step : {o : Bool} {p q : List Piece} {of : Declarator} {rest : List Declarator} {d e : ℕ} {kind : VarKind}
    → Back (g.IsDeclarator o kind) bare_declarator p of d → Back (g.IsDeclarators o kind) (map bare_declarator) q rest e
    → Back (g.IsDeclarators o kind) (map bare_declarator) (p ++ mark m.Comma ++ space ++ q) (of ∷ rest) (max d e)
more_declarators_step {p = p} {q = q} {kind = kind} x y = back_by λ P into zs told.
    split P {es = symbols_in p} {fs = Mark m.Comma 0 ∷ symbols_in q} zs (told ∙ more_declarators_step_told p q) λ xs back x_told back_told.
    split_mark (λ vs. P (xs ++ vs)) back back_told λ here ys y_told.
    let xr = x.back xs x_told in
    let yr = y.back ys y_told in
    into _ (record {
      tree = xr.tree ∷ yr.tree;
      own = max xr.own yr.own;
      reads = g.more_declarators here xr.reads yr.reads;
      below = omega (arith, xr.below, yr.below);
      same = ap_both (λ i is. i ∷ is) xr.same yr.same;
    })

pub block_body_step : {o typed : Bool} {p : List Piece} {of : Block} {d : ℕ} → Back (g.IsBlock o g.a_body) bare_block p of d → Back (g.IsArrowBody o typed) bare_arrow_body p (arrow_body.Block of) d
block_body_step x = wrapped arrow_body.Block bare.block_arrow_body (λ xs of n r. g.block_body r) x

pub expr_body_step : {o typed : Bool} {p : List Piece} {of : Expr} {d : ℕ} → g.begins_with_brace (symbols_in p) ≡ false → Back (g.IsExpr o typed) bare_expr p of d
    → Back (g.IsArrowBody o typed) bare_arrow_body p (arrow_body.Expr of) d
expr_body_step {p = p} h x = record {
  back = λ zs told.
      let xr = x.back zs told in
      record {
        tree = arrow_body.Expr xr.tree;
        own = xr.own;
        reads = g.expr_body (brace_back p zs told h) xr.reads;
        below = xr.below;
        same = bare.expr_arrow_body _ ∙ ap arrow_body.Expr xr.same ∙ sym (bare.expr_arrow_body _);
      };
}

braces_step_told : (p : List Piece) → symbols_in (mark m.OpenBrace ++ p ++ mark m.CloseBrace) ≡ Mark m.OpenBrace 0 ∷ symbols_in p ++ Mark m.CloseBrace 0 ∷ []
braces_step_told p = alike (one (mark m.OpenBrace) ⊕ one p ⊕ one (mark m.CloseBrace)) (one (Mark m.OpenBrace 0 ∷ symbols_in p) ⊕ one (Mark m.CloseBrace 0 ∷ [])) refl

pub braces_step : {o : Bool} {p : List Piece} {of : List BlockItem} {d : ℕ} {around : g.Around} (at : ℕ)
    → Back (g.IsBlockItems o around) (map bare_block_item) p of d
    → Back (g.IsBlock o around) bare_block (mark m.OpenBrace ++ p ++ mark m.CloseBrace) (roll-Block (record { at = at; items = of })) (d + 1)
braces_step {p = p} {around = around} at x = back_by λ P into zs told.
    split P {es = Mark m.OpenBrace 0 ∷ symbols_in p} {fs = Mark m.CloseBrace 0 ∷ []} zs (told ∙ braces_step_told p) λ front back front_told back_told.
    split_mark (λ vs. P (vs ++ back)) front front_told λ a xs x_told.
    last_mark (λ vs. P (Mark m.OpenBrace a ∷ xs ++ vs)) back back_told λ b.
    let xr = x.back xs x_told in
    into _ (record {
      tree = roll-Block (record { at = a; items = xr.tree });
      own = xr.own + 1;
      reads = g.block a b xr.reads;
      below = omega (arith, xr.below);
      same = bare.block_rolled _ ∙ ap (λ m. roll-Block (record { at = 0; items = m })) xr.same ∙ sym (bare.block_rolled _);
    })

braces_told : (n : ℕ) (all : List Laid) → symbols_in (block_pieces n all) ≡ symbols_in (mark m.OpenBrace ++ lines n all ++ mark m.CloseBrace)
braces_told n [] = refl
braces_told n (of ∷ rest) =
    alike (one (mark m.OpenBrace) ⊕ one (lines n (of ∷ rest)) ⊕ one (new_line n) ⊕ one (mark m.CloseBrace)) (one (Mark m.OpenBrace 0 ∷ symbols_in (lines n (of ∷ rest))) ⊕ one (Mark m.CloseBrace 0 ∷ [])) refl
    ∙ sym (braces_step_told (lines n (of ∷ rest)))

pub block_step : {o : Bool} {around : g.Around} {of : List BlockItem} {d : ℕ} (at n : ℕ) (all : List Laid) → Back (g.IsBlockItems o around) (map bare_block_item) (lines n all) of d
    → Back (g.IsBlock o around) bare_block (block_pieces n all) (roll-Block (record { at = at; items = of })) (d + 1)
block_step at n all x = told_by (braces_told n all) (braces_step at x)

pub var_item_step : {o : Bool} {around : g.Around} {p : List Piece} {of : Var} {d : ℕ} → Back (g.IsVar o) bare_var p of d → Back (g.IsBlockItem o around) bare_block_item p (block_item.Var of) d
var_item_step x = wrapped block_item.Var bare.var_block_item (λ xs of n r. g.var_item r) x

pub function_item_step : {o : Bool} {around : g.Around} {p : List Piece} {of : Function} {d : ℕ} → Back (g.IsFunction o) bare_function p of d → Back (g.IsBlockItem o around) bare_block_item p (block_item.Function of) d
function_item_step x = wrapped block_item.Function bare.function_block_item (λ xs of n r. g.function_item r) x

pub stmt_item_step : {o : Bool} {around : g.Around} {p : List Piece} {of : Stmt} {d : ℕ} → Back (g.IsStmt o around false) bare_stmt p of d → Back (g.IsBlockItem o around) bare_block_item p (block_item.Stmt of) d
stmt_item_step x = wrapped block_item.Stmt bare.stmt_block_item (λ xs of n r. g.stmt_item r) x

pub no_block_items_step : {o : Bool} {around : g.Around} → Back (g.IsBlockItems o around) (map bare_block_item) [] [] 0
no_block_items_step = back_by λ P into zs told. split_none P zs told (into _ (record { tree = []; own = 0; reads = g.no_block_items; below = omega arith; same = refl }))

more_block_items_step_told : (p q : List Piece) (n : ℕ) → symbols_in ((new_line (suc n) ++ p) ++ q) ≡ symbols_in p ++ symbols_in q
more_block_items_step_told p q n = alike (one (new_line (suc n)) ⊕ one p ⊕ one q) (one (symbols_in p) ⊕ one (symbols_in q)) refl

pub more_block_items_step : {o : Bool} {p q : List Piece} {of : BlockItem} {rest : List BlockItem} {d e : ℕ} {around : g.Around} (n : ℕ)
    → Back (g.IsBlockItem o around) bare_block_item p of d → Back (g.IsBlockItems o around) (map bare_block_item) q rest e
    → Back (g.IsBlockItems o around) (map bare_block_item) ((new_line (suc n) ++ p) ++ q) (of ∷ rest) (max d e)
more_block_items_step {p = p} {q = q} {around = around} n x y = back_by λ P into zs told.
    split P {es = symbols_in p} {fs = symbols_in q} zs (told ∙ more_block_items_step_told p q n) λ xs ys x_told y_told.
    let xr = x.back xs x_told in
    let yr = y.back ys y_told in
    into _ (record {
      tree = xr.tree ∷ yr.tree;
      own = max xr.own yr.own;
      reads = g.more_block_items xr.reads yr.reads;
      below = omega (arith, xr.below, yr.below);
      same = ap_both (λ i is. i ∷ is) xr.same yr.same;
    })

const_step_told : (p : List Piece) → symbols_in (kind_pieces v.Const ++ space ++ p ++ mark m.Semicolon) ≡ Lex (c.Word w.Const) (codes "const") 0 ∷ symbols_in p ++ Mark m.Semicolon 0 ∷ []
unfolding early_word middle_word late_word other_word last_word type_word named_word
const_step_told p =
    alike (one (kind_pieces v.Const) ⊕ one space ⊕ one p ⊕ one (mark m.Semicolon)) (one (Lex (c.Word w.Const) (codes "const") 0 ∷ symbols_in p) ⊕ one (Mark m.Semicolon 0 ∷ [])) refl

pub const_step : {o : Bool} {p : List Piece} {of : List Declarator} {d : ℕ}
    → Back (g.IsDeclarators o v.Const) (map bare_declarator) p of d
    → Back (g.IsVar o) bare_var (kind_pieces v.Const ++ space ++ p ++ mark m.Semicolon) (roll-Var (record { kind = v.Const; declarators = of })) (d)
const_step {p = p} x = back_by λ P into zs told.
    split P {es = Lex (c.Word w.Const) (codes "const") 0 ∷ symbols_in p} {fs = Mark m.Semicolon 0 ∷ []} zs (told ∙ const_step_told p) λ front back front_told back_told.
    split_lex (λ vs. P (vs ++ back)) front front_told λ a xs x_told.
    last_mark (λ vs. P (Lex (c.Word w.Const) (codes "const") a ∷ xs ++ vs)) back back_told λ b.
    let xr = x.back xs x_told in
    into _ (record {
      tree = roll-Var (record { kind = v.Const; declarators = xr.tree });
      own = xr.own;
      reads = g.var {word_kind = w.Const} (codes "const") a b refl xr.reads;
      below = omega (arith, xr.below);
      same = bare.var_rolled _ ∙ ap (λ m. roll-Var (record { kind = v.Const; declarators = m })) xr.same ∙ sym (bare.var_rolled _);
    })

let_step_told : (p : List Piece) → symbols_in (kind_pieces v.Let ++ space ++ p ++ mark m.Semicolon) ≡ Lex (c.Word w.Let) (codes "let") 0 ∷ symbols_in p ++ Mark m.Semicolon 0 ∷ []
unfolding early_word middle_word late_word other_word last_word type_word named_word
let_step_told p =
    alike (one (kind_pieces v.Let) ⊕ one space ⊕ one p ⊕ one (mark m.Semicolon)) (one (Lex (c.Word w.Let) (codes "let") 0 ∷ symbols_in p) ⊕ one (Mark m.Semicolon 0 ∷ [])) refl

pub let_step : {o : Bool} {p : List Piece} {of : List Declarator} {d : ℕ}
    → Back (g.IsDeclarators o v.Let) (map bare_declarator) p of d
    → Back (g.IsVar o) bare_var (kind_pieces v.Let ++ space ++ p ++ mark m.Semicolon) (roll-Var (record { kind = v.Let; declarators = of })) (d)
let_step {p = p} x = back_by λ P into zs told.
    split P {es = Lex (c.Word w.Let) (codes "let") 0 ∷ symbols_in p} {fs = Mark m.Semicolon 0 ∷ []} zs (told ∙ let_step_told p) λ front back front_told back_told.
    split_lex (λ vs. P (vs ++ back)) front front_told λ a xs x_told.
    last_mark (λ vs. P (Lex (c.Word w.Let) (codes "let") a ∷ xs ++ vs)) back back_told λ b.
    let xr = x.back xs x_told in
    into _ (record {
      tree = roll-Var (record { kind = v.Let; declarators = xr.tree });
      own = xr.own;
      reads = g.var {word_kind = w.Let} (codes "let") a b refl xr.reads;
      below = omega (arith, xr.below);
      same = bare.var_rolled _ ∙ ap (λ m. roll-Var (record { kind = v.Let; declarators = m })) xr.same ∙ sym (bare.var_rolled _);
    })

pub var_step : {o : Bool} {p : List Piece} {of : List Declarator} {d : ℕ} (kind : VarKind) → Back (g.IsDeclarators o kind) (map bare_declarator) p of d
    → Back (g.IsVar o) bare_var (kind_pieces kind ++ space ++ p ++ mark m.Semicolon) (roll-Var (record { kind = kind; declarators = of })) d
var_step v.Const x = const_step x
var_step v.Let x = let_step x

declarator_step_told : (p : List Piece) (spelled : List ℕ) → symbols_in (word spelled ++ p) ≡ Lex (c.Word (word_of spelled)) spelled 0 ∷ [] ++ symbols_in p
declarator_step_told p spelled = alike (one (word spelled) ⊕ one p) (one (Lex (c.Word (word_of spelled)) spelled 0 ∷ []) ⊕ one (symbols_in p)) refl

pub declarator_step : {o : Bool} {p : List Piece} {value : Option Expr} {d : ℕ} (kind : VarKind) (at : ℕ) (spelled : List ℕ)
    → is_name (word_of spelled) ≡ true → g.is_valued kind value ≡ true → Back (g.IsValue o) bare_value p value d
    → Back (g.IsDeclarator o kind) bare_declarator (word spelled ++ p) (roll-Declarator (record { at = at; name = spelled; annotation = None; value = value })) (d)
declarator_step {p = p} {value = value} kind at spelled h given x = back_by λ P into zs told.
    split P {es = Lex (c.Word (word_of spelled)) spelled 0 ∷ []} {fs = symbols_in p} zs (told ∙ declarator_step_told p spelled) λ front xs front_told x_told.
    last_lex (λ vs. P (vs ++ xs)) front front_told λ here.
    let xr = x.back xs x_told in
    into _ (record {
      tree = roll-Declarator (record { at = here; name = spelled; annotation = None; value = xr.tree });
      own = max 0 xr.own;
      reads = g.declarator spelled here h g.no_annotation xr.reads (valued_back kind xr.tree value xr.same given);
      below = omega (arith, xr.below);
      same = bare.declarator_rolled _ ∙ ap (λ m. roll-Declarator (record { at = 0; name = spelled; annotation = None; value = m })) xr.same ∙ sym (bare.declarator_rolled _);
    })

function_step_told : (p q : List Piece) (spelled : List ℕ) → symbols_in (word (codes "function") ++ space ++ word spelled ++ in_parens p ++ space ++ q) ≡ Lex (c.Word w.Function) (codes "function") 0 ∷ Lex (c.Word (word_of spelled)) spelled 0 ∷ Mark m.OpenParen 0 ∷ symbols_in p ++ Mark m.CloseParen 0 ∷ [] ++ symbols_in q
unfolding early_word middle_word late_word other_word last_word type_word named_word
function_step_told p q spelled =
    alike (one (word (codes "function")) ⊕ one space ⊕ one (word spelled) ⊕ (one (mark m.OpenParen) ⊕ one p ⊕ one (mark m.CloseParen)) ⊕ one space ⊕ one q) (one (Lex (c.Word w.Function) (codes "function") 0 ∷ Lex (c.Word (word_of spelled)) spelled 0 ∷ Mark m.OpenParen 0 ∷ symbols_in p) ⊕ one (Mark m.CloseParen 0 ∷ []) ⊕ one (symbols_in q)) refl

pub function_step : {o : Bool} {p q : List Piece} {params : List Param} {body : Block} {d e : ℕ} (at : ℕ) (spelled : List ℕ)
    → is_name (word_of spelled) ≡ true → Back (g.IsParams o false) (map bare_param) p params d → Back (g.IsBlock o g.a_body) bare_block q body e
    → Back (g.IsFunction o) bare_function (word (codes "function") ++ space ++ word spelled ++ in_parens p ++ space ++ q) (roll-Function (record { at = at; name = spelled; variables = []; params = params; result = None; body = body })) (max d e)
function_step {p = p} {q = q} {params = params} {body = body} at spelled h x y = back_by λ P into zs told.
    split P {es = Lex (c.Word w.Function) (codes "function") 0 ∷ Lex (c.Word (word_of spelled)) spelled 0 ∷ Mark m.OpenParen 0 ∷ symbols_in p ++ Mark m.CloseParen 0 ∷ []} {fs = symbols_in q} zs (told ∙ function_step_told p q spelled) λ front ys front_told y_told.
    split (λ vs. P (vs ++ ys)) {es = Lex (c.Word w.Function) (codes "function") 0 ∷ Lex (c.Word (word_of spelled)) spelled 0 ∷ Mark m.OpenParen 0 ∷ symbols_in p} {fs = Mark m.CloseParen 0 ∷ []} front front_told λ front2 back2 front2_told back2_told.
    split_lex (λ vs. P (vs ++ back2 ++ ys)) front2 front2_told λ a more more_told.
    split_lex (λ vs. P (Lex (c.Word w.Function) (codes "function") a ∷ vs ++ back2 ++ ys)) more more_told λ b more2 more2_told.
    split_mark (λ vs. P (Lex (c.Word w.Function) (codes "function") a ∷ Lex (c.Word (word_of spelled)) spelled b ∷ vs ++ back2 ++ ys)) more2 more2_told λ i xs x_told.
    last_mark (λ vs. P (Lex (c.Word w.Function) (codes "function") a ∷ Lex (c.Word (word_of spelled)) spelled b ∷ Mark m.OpenParen i ∷ xs ++ vs ++ ys)) back2 back2_told λ j.
    let xr = x.back xs x_told in
    let yr = y.back ys y_told in
    into _ (record {
      tree = roll-Function (record { at = b; name = spelled; variables = []; params = xr.tree; result = None; body = yr.tree });
      own = max xr.own (max 0 yr.own);
      reads = g.function (codes "function") a spelled b i j h xr.reads g.no_annotation yr.reads;
      below = omega (arith, xr.below, yr.below);
      same = bare.function_rolled _ ∙ ap_both (λ m n. roll-Function (record { at = 0; name = spelled; variables = []; params = m; result = None; body = n })) xr.same yr.same ∙ sym (bare.function_rolled _);
    })

pub block_stmt_step : {o : Bool} {around : g.Around} {closed : Bool} {p : List Piece} {of : Block} {d : ℕ} → Back (g.IsBlock o around) bare_block p of d → Back (g.IsStmt o around closed) bare_stmt p (stmt.Block of) d
block_stmt_step x = wrapped stmt.Block bare.block_stmt (λ xs of n r. g.block_stmt r) x

-- a body on the line of its head, or on the next
pub body_step : {o : Bool} {around : g.Around} {closed : Bool} {left : Stmt} {d : ℕ} (n : ℕ) (of : LaidStmt) → ((k : ℕ) → Back (g.IsStmt o around closed) bare_stmt (of.laid k) left d)
    → Back (g.IsStmt o around closed) bare_stmt (body_pieces n of) left d
body_step {o = o} {around = around} {closed = closed} {left = left} {d = d} n of x = body_by of.is_block
  where
    body_by : (b : Bool) → Back (g.IsStmt o around closed) bare_stmt (if b then space ++ of.laid n else new_line (suc n) ++ of.laid (suc n)) left d
    body_by true = told_by refl (x n)
    body_by false = told_by refl (x (suc n))

if_step_told : (p q : List Piece) → symbols_in (word (codes "if") ++ space ++ in_parens p ++ q ++ []) ≡ Lex (c.Word w.If) (codes "if") 0 ∷ Mark m.OpenParen 0 ∷ symbols_in p ++ Mark m.CloseParen 0 ∷ symbols_in q
unfolding early_word middle_word late_word other_word last_word type_word named_word
if_step_told p q =
    alike (one (word (codes "if")) ⊕ one space ⊕ (one (mark m.OpenParen) ⊕ one p ⊕ one (mark m.CloseParen)) ⊕ one q ⊕ one []) (one (Lex (c.Word w.If) (codes "if") 0 ∷ Mark m.OpenParen 0 ∷ symbols_in p) ⊕ one (Mark m.CloseParen 0 ∷ symbols_in q)) refl

pub if_step : {o : Bool} {p q : List Piece} {condition : Expr} {chosen : Stmt} {d e : ℕ} {around : g.Around} (at : ℕ)
    → Back (g.IsExpr o true) bare_expr p condition d → Back (g.IsStmt o around false) bare_stmt q chosen e
    → Back (g.IsStmt o around false) bare_stmt (word (codes "if") ++ space ++ in_parens p ++ q ++ []) (stmt.If at condition chosen None) (max d e + 1)
if_step {p = p} {q = q} {around = around} at x y = back_by λ P into zs told.
    split P {es = Lex (c.Word w.If) (codes "if") 0 ∷ Mark m.OpenParen 0 ∷ symbols_in p} {fs = Mark m.CloseParen 0 ∷ symbols_in q} zs (told ∙ if_step_told p q) λ front back front_told back_told.
    split_lex (λ vs. P (vs ++ back)) front front_told λ a more more_told.
    split_mark (λ vs. P (Lex (c.Word w.If) (codes "if") a ∷ vs ++ back)) more more_told λ b xs x_told.
    split_mark (λ vs. P (Lex (c.Word w.If) (codes "if") a ∷ Mark m.OpenParen b ∷ xs ++ vs)) back back_told λ i ys y_told.
    let xr = x.back xs x_told in
    let yr = y.back ys y_told in
    into _ (record {
      tree = stmt.If a xr.tree yr.tree None;
      own = max xr.own yr.own + 1;
      reads = g.if_stmt (codes "if") a b i xr.reads yr.reads;
      below = omega (arith, xr.below, yr.below);
      same = bare.if_stmt_none _ _ _ ∙ ap_both (λ m n. stmt.If 0 m n None) xr.same yr.same ∙ sym (bare.if_stmt_none _ _ _);
    })

if_else_step_told : (p q r : List Piece) (n : ℕ) → symbols_in (word (codes "if") ++ space ++ in_parens p ++ q ++ (new_line n ++ word (codes "else") ++ r)) ≡ Lex (c.Word w.If) (codes "if") 0 ∷ Mark m.OpenParen 0 ∷ symbols_in p ++ Mark m.CloseParen 0 ∷ symbols_in q ++ Lex (c.Word w.Else) (codes "else") 0 ∷ symbols_in r
unfolding early_word middle_word late_word other_word last_word type_word named_word
if_else_step_told p q r n =
    alike (one (word (codes "if")) ⊕ one space ⊕ (one (mark m.OpenParen) ⊕ one p ⊕ one (mark m.CloseParen)) ⊕ one q ⊕ (one (new_line n) ⊕ one (word (codes "else")) ⊕ one r)) (one (Lex (c.Word w.If) (codes "if") 0 ∷ Mark m.OpenParen 0 ∷ symbols_in p) ⊕ one (Mark m.CloseParen 0 ∷ symbols_in q) ⊕ one (Lex (c.Word w.Else) (codes "else") 0 ∷ symbols_in r)) refl

pub if_else_step : {o : Bool} {p q r : List Piece} {condition : Expr} {chosen otherwise : Stmt} {d e f : ℕ} {around : g.Around} {closed : Bool} (n at : ℕ)
    → Back (g.IsExpr o true) bare_expr p condition d → Back (g.IsStmt o around true) bare_stmt q chosen e → Back (g.IsStmt o around closed) bare_stmt r otherwise f
    → Back (g.IsStmt o around closed) bare_stmt (word (codes "if") ++ space ++ in_parens p ++ q ++ (new_line n ++ word (codes "else") ++ r)) (stmt.If at condition chosen (Some otherwise)) (max d (max e f) + 1)
if_else_step {p = p} {q = q} {r = r} {around = around} {closed = closed} n at x y z = back_by λ P into zs told.
    split P {es = Lex (c.Word w.If) (codes "if") 0 ∷ Mark m.OpenParen 0 ∷ symbols_in p ++ Mark m.CloseParen 0 ∷ symbols_in q} {fs = Lex (c.Word w.Else) (codes "else") 0 ∷ symbols_in r} zs (told ∙ if_else_step_told p q r n) λ front back front_told back_told.
    split (λ vs. P (vs ++ back)) {es = Lex (c.Word w.If) (codes "if") 0 ∷ Mark m.OpenParen 0 ∷ symbols_in p} {fs = Mark m.CloseParen 0 ∷ symbols_in q} front front_told λ front2 back2 front2_told back2_told.
    split_lex (λ vs. P (vs ++ back2 ++ back)) front2 front2_told λ a more more_told.
    split_mark (λ vs. P (Lex (c.Word w.If) (codes "if") a ∷ vs ++ back2 ++ back)) more more_told λ b xs x_told.
    split_mark (λ vs. P (Lex (c.Word w.If) (codes "if") a ∷ Mark m.OpenParen b ∷ xs ++ vs ++ back)) back2 back2_told λ i ys y_told.
    split_lex (λ vs. P (Lex (c.Word w.If) (codes "if") a ∷ Mark m.OpenParen b ∷ xs ++ Mark m.CloseParen i ∷ ys ++ vs)) back back_told λ j zs z_told.
    let xr = x.back xs x_told in
    let yr = y.back ys y_told in
    let zr = z.back zs z_told in
    into _ (record {
      tree = stmt.If a xr.tree yr.tree (Some zr.tree);
      own = max xr.own (max yr.own zr.own) + 1;
      reads = g.if_else_stmt (codes "if") a b i (codes "else") j xr.reads yr.reads zr.reads;
      below = omega (arith, xr.below, yr.below, zr.below);
      same = bare.if_stmt_some _ _ _ _ ∙ ap_three (λ m n i. stmt.If 0 m n (Some i)) xr.same yr.same zr.same ∙ sym (bare.if_stmt_some _ _ _ _);
    })

while_step_told : (p q : List Piece) → symbols_in (word (codes "while") ++ space ++ in_parens p ++ q) ≡ Lex (c.Word w.While) (codes "while") 0 ∷ Mark m.OpenParen 0 ∷ symbols_in p ++ Mark m.CloseParen 0 ∷ symbols_in q
unfolding early_word middle_word late_word other_word last_word type_word named_word
while_step_told p q =
    alike (one (word (codes "while")) ⊕ one space ⊕ (one (mark m.OpenParen) ⊕ one p ⊕ one (mark m.CloseParen)) ⊕ one q) (one (Lex (c.Word w.While) (codes "while") 0 ∷ Mark m.OpenParen 0 ∷ symbols_in p) ⊕ one (Mark m.CloseParen 0 ∷ symbols_in q)) refl

pub while_step : {o : Bool} {p q : List Piece} {condition : Expr} {of : Stmt} {d e : ℕ} {around : g.Around} {closed : Bool} (at : ℕ)
    → Back (g.IsExpr o true) bare_expr p condition d → Back (g.IsStmt o (g.a_loop around) closed) bare_stmt q of e
    → Back (g.IsStmt o around closed) bare_stmt (word (codes "while") ++ space ++ in_parens p ++ q) (stmt.While at condition of) (max d e + 1)
while_step {p = p} {q = q} {around = around} {closed = closed} at x y = back_by λ P into zs told.
    split P {es = Lex (c.Word w.While) (codes "while") 0 ∷ Mark m.OpenParen 0 ∷ symbols_in p} {fs = Mark m.CloseParen 0 ∷ symbols_in q} zs (told ∙ while_step_told p q) λ front back front_told back_told.
    split_lex (λ vs. P (vs ++ back)) front front_told λ a more more_told.
    split_mark (λ vs. P (Lex (c.Word w.While) (codes "while") a ∷ vs ++ back)) more more_told λ b xs x_told.
    split_mark (λ vs. P (Lex (c.Word w.While) (codes "while") a ∷ Mark m.OpenParen b ∷ xs ++ vs)) back back_told λ i ys y_told.
    let xr = x.back xs x_told in
    let yr = y.back ys y_told in
    into _ (record {
      tree = stmt.While a xr.tree yr.tree;
      own = max xr.own yr.own + 1;
      reads = g.while_stmt (codes "while") a b i xr.reads yr.reads;
      below = omega (arith, xr.below, yr.below);
      same = bare.while_stmt _ _ _ ∙ ap_both (λ m n. stmt.While 0 m n) xr.same yr.same ∙ sym (bare.while_stmt _ _ _);
    })

do_step_told : (p q : List Piece) (n : ℕ) → symbols_in (word (codes "do") ++ p ++ new_line n ++ word (codes "while") ++ space ++ in_parens q ++ mark m.Semicolon) ≡ Lex (c.Word w.Do) (codes "do") 0 ∷ symbols_in p ++ Lex (c.Word w.While) (codes "while") 0 ∷ Mark m.OpenParen 0 ∷ symbols_in q ++ Mark m.CloseParen 0 ∷ Mark m.Semicolon 0 ∷ []
unfolding early_word middle_word late_word other_word last_word type_word named_word
do_step_told p q n =
    alike (one (word (codes "do")) ⊕ one p ⊕ one (new_line n) ⊕ one (word (codes "while")) ⊕ one space ⊕ (one (mark m.OpenParen) ⊕ one q ⊕ one (mark m.CloseParen)) ⊕ one (mark m.Semicolon)) (one (Lex (c.Word w.Do) (codes "do") 0 ∷ symbols_in p) ⊕ one (Lex (c.Word w.While) (codes "while") 0 ∷ Mark m.OpenParen 0 ∷ symbols_in q) ⊕ one (Mark m.CloseParen 0 ∷ Mark m.Semicolon 0 ∷ [])) refl

pub do_step : {o : Bool} {p q : List Piece} {of : Stmt} {condition : Expr} {d e : ℕ} {around : g.Around} {closed : Bool} (n at : ℕ)
    → Back (g.IsStmt o (g.a_loop around) false) bare_stmt p of d → Back (g.IsExpr o true) bare_expr q condition e
    → Back (g.IsStmt o around closed) bare_stmt (word (codes "do") ++ p ++ new_line n ++ word (codes "while") ++ space ++ in_parens q ++ mark m.Semicolon) (stmt.Do at of condition) (max d e + 1)
do_step {p = p} {q = q} {around = around} {closed = closed} n at x y = back_by λ P into zs told.
    split P {es = Lex (c.Word w.Do) (codes "do") 0 ∷ symbols_in p ++ Lex (c.Word w.While) (codes "while") 0 ∷ Mark m.OpenParen 0 ∷ symbols_in q} {fs = Mark m.CloseParen 0 ∷ Mark m.Semicolon 0 ∷ []} zs (told ∙ do_step_told p q n) λ front back front_told back_told.
    split (λ vs. P (vs ++ back)) {es = Lex (c.Word w.Do) (codes "do") 0 ∷ symbols_in p} {fs = Lex (c.Word w.While) (codes "while") 0 ∷ Mark m.OpenParen 0 ∷ symbols_in q} front front_told λ front2 back2 front2_told back2_told.
    split_lex (λ vs. P (vs ++ back2 ++ back)) front2 front2_told λ a xs x_told.
    split_lex (λ vs. P (Lex (c.Word w.Do) (codes "do") a ∷ xs ++ vs ++ back)) back2 back2_told λ b more2 more2_told.
    split_mark (λ vs. P (Lex (c.Word w.Do) (codes "do") a ∷ xs ++ Lex (c.Word w.While) (codes "while") b ∷ vs ++ back)) more2 more2_told λ i ys y_told.
    split_mark (λ vs. P (Lex (c.Word w.Do) (codes "do") a ∷ xs ++ Lex (c.Word w.While) (codes "while") b ∷ Mark m.OpenParen i ∷ ys ++ vs)) back back_told λ j more4 more4_told.
    last_mark (λ vs. P (Lex (c.Word w.Do) (codes "do") a ∷ xs ++ Lex (c.Word w.While) (codes "while") b ∷ Mark m.OpenParen i ∷ ys ++ Mark m.CloseParen j ∷ vs)) more4 more4_told λ k.
    let xr = x.back xs x_told in
    let yr = y.back ys y_told in
    into _ (record {
      tree = stmt.Do a xr.tree yr.tree;
      own = max xr.own yr.own + 1;
      reads = g.do_stmt (codes "do") a (codes "while") b i j k xr.reads yr.reads;
      below = omega (arith, xr.below, yr.below);
      same = bare.do_stmt _ _ _ ∙ ap_both (λ m n. stmt.Do 0 m n) xr.same yr.same ∙ sym (bare.do_stmt _ _ _);
    })

for_step_told : (p q r s : List Piece) → symbols_in (word (codes "for") ++ space ++ in_parens (p ++ q ++ mark m.Semicolon ++ r) ++ s) ≡ Lex (c.Word w.For) (codes "for") 0 ∷ Mark m.OpenParen 0 ∷ symbols_in p ++ symbols_in q ++ Mark m.Semicolon 0 ∷ symbols_in r ++ Mark m.CloseParen 0 ∷ symbols_in s
unfolding early_word middle_word late_word other_word last_word type_word named_word
for_step_told p q r s =
    alike (one (word (codes "for")) ⊕ one space ⊕ (one (mark m.OpenParen) ⊕ (one p ⊕ one q ⊕ one (mark m.Semicolon) ⊕ one r) ⊕ one (mark m.CloseParen)) ⊕ one s) (one (Lex (c.Word w.For) (codes "for") 0 ∷ Mark m.OpenParen 0 ∷ symbols_in p) ⊕ one (symbols_in q) ⊕ one (Mark m.Semicolon 0 ∷ symbols_in r) ⊕ one (Mark m.CloseParen 0 ∷ symbols_in s)) refl

pub for_step : {o : Bool} {p q r s : List Piece} {first : ForStart} {condition step : Option Expr} {of : Stmt} {d e f h : ℕ} {around : g.Around} {closed : Bool} (at : ℕ)
    → Back (g.IsForStart o) bare_start p first d → Back (g.IsOptional o) bare_value q condition e → Back (g.IsOptional o) bare_value r step f → Back (g.IsStmt o (g.a_loop around) closed) bare_stmt s of h
    → Back (g.IsStmt o around closed) bare_stmt (word (codes "for") ++ space ++ in_parens (p ++ q ++ mark m.Semicolon ++ r) ++ s) (stmt.For at first condition step of) (max d (max e (max f h)) + 1)
for_step {p = p} {q = q} {r = r} {s = s} {around = around} {closed = closed} at x y z v = back_by λ P into zs told.
    split P {es = Lex (c.Word w.For) (codes "for") 0 ∷ Mark m.OpenParen 0 ∷ symbols_in p ++ symbols_in q ++ Mark m.Semicolon 0 ∷ symbols_in r} {fs = Mark m.CloseParen 0 ∷ symbols_in s} zs (told ∙ for_step_told p q r s) λ front back front_told back_told.
    split (λ vs. P (vs ++ back)) {es = Lex (c.Word w.For) (codes "for") 0 ∷ Mark m.OpenParen 0 ∷ symbols_in p ++ symbols_in q} {fs = Mark m.Semicolon 0 ∷ symbols_in r} front front_told λ front2 back2 front2_told back2_told.
    split (λ vs. P (vs ++ back2 ++ back)) {es = Lex (c.Word w.For) (codes "for") 0 ∷ Mark m.OpenParen 0 ∷ symbols_in p} {fs = symbols_in q} front2 front2_told λ front3 ys front3_told y_told.
    split_lex (λ vs. P (vs ++ ys ++ back2 ++ back)) front3 front3_told λ a more more_told.
    split_mark (λ vs. P (Lex (c.Word w.For) (codes "for") a ∷ vs ++ ys ++ back2 ++ back)) more more_told λ b xs x_told.
    split_mark (λ vs. P (Lex (c.Word w.For) (codes "for") a ∷ Mark m.OpenParen b ∷ xs ++ ys ++ vs ++ back)) back2 back2_told λ i zs z_told.
    split_mark (λ vs. P (Lex (c.Word w.For) (codes "for") a ∷ Mark m.OpenParen b ∷ xs ++ ys ++ Mark m.Semicolon i ∷ zs ++ vs)) back back_told λ j vs v_told.
    let xr = x.back xs x_told in
    let yr = y.back ys y_told in
    let zr = z.back zs z_told in
    let vr = v.back vs v_told in
    into _ (record {
      tree = stmt.For a xr.tree yr.tree zr.tree vr.tree;
      own = max xr.own (max yr.own (max zr.own vr.own)) + 1;
      reads = g.for_stmt (codes "for") a b i j xr.reads yr.reads zr.reads vr.reads;
      below = omega (arith, xr.below, yr.below, zr.below, vr.below);
      same = bare.for_stmt _ _ _ _ _ ∙ ap_four (λ m n i j. stmt.For 0 m n i j) xr.same yr.same zr.same vr.same ∙ sym (bare.for_stmt _ _ _ _ _);
    })

for_const_step_told : (p q : List Piece) (spelled : List ℕ) → symbols_in (word (codes "for") ++ space ++ in_parens (kind_pieces v.Const ++ space ++ word spelled ++ space ++ word (codes "of") ++ space ++ p) ++ q) ≡ Lex (c.Word w.For) (codes "for") 0 ∷ Mark m.OpenParen 0 ∷ Lex (c.Word w.Const) (codes "const") 0 ∷ Lex (c.Word (word_of spelled)) spelled 0 ∷ Lex (c.Word w.Of) (codes "of") 0 ∷ symbols_in p ++ Mark m.CloseParen 0 ∷ symbols_in q
unfolding early_word middle_word late_word other_word last_word type_word named_word
for_const_step_told p q spelled =
    alike (one (word (codes "for")) ⊕ one space ⊕ (one (mark m.OpenParen) ⊕ (one (kind_pieces v.Const) ⊕ one space ⊕ one (word spelled) ⊕ one space ⊕ one (word (codes "of")) ⊕ one space ⊕ one p) ⊕ one (mark m.CloseParen)) ⊕ one q) (one (Lex (c.Word w.For) (codes "for") 0 ∷ Mark m.OpenParen 0 ∷ Lex (c.Word w.Const) (codes "const") 0 ∷ Lex (c.Word (word_of spelled)) spelled 0 ∷ Lex (c.Word w.Of) (codes "of") 0 ∷ symbols_in p) ⊕ one (Mark m.CloseParen 0 ∷ symbols_in q)) refl

pub for_const_step : {o : Bool} {p q : List Piece} {subject : Expr} {of : Stmt} {d e : ℕ} {around : g.Around} {closed : Bool} (at name_at : ℕ) (spelled : List ℕ)
    → is_name (word_of spelled) ≡ true → Back (g.IsExpr o true) bare_expr p subject d → Back (g.IsStmt o (g.a_loop around) closed) bare_stmt q of e
    → Back (g.IsStmt o around closed) bare_stmt (word (codes "for") ++ space ++ in_parens (kind_pieces v.Const ++ space ++ word spelled ++ space ++ word (codes "of") ++ space ++ p) ++ q) (stmt.ForOf at v.Const (record { at = name_at; name = spelled }) subject of) (max d e + 1)
for_const_step {p = p} {q = q} {of = of} {around = around} {closed = closed} at name_at spelled h x y = back_by λ P into zs told.
    split P {es = Lex (c.Word w.For) (codes "for") 0 ∷ Mark m.OpenParen 0 ∷ Lex (c.Word w.Const) (codes "const") 0 ∷ Lex (c.Word (word_of spelled)) spelled 0 ∷ Lex (c.Word w.Of) (codes "of") 0 ∷ symbols_in p} {fs = Mark m.CloseParen 0 ∷ symbols_in q} zs (told ∙ for_const_step_told p q spelled) λ front back front_told back_told.
    split_lex (λ vs. P (vs ++ back)) front front_told λ a more more_told.
    split_mark (λ vs. P (Lex (c.Word w.For) (codes "for") a ∷ vs ++ back)) more more_told λ b more2 more2_told.
    split_lex (λ vs. P (Lex (c.Word w.For) (codes "for") a ∷ Mark m.OpenParen b ∷ vs ++ back)) more2 more2_told λ i more3 more3_told.
    split_lex (λ vs. P (Lex (c.Word w.For) (codes "for") a ∷ Mark m.OpenParen b ∷ Lex (c.Word w.Const) (codes "const") i ∷ vs ++ back)) more3 more3_told λ j more4 more4_told.
    split_lex (λ vs. P (Lex (c.Word w.For) (codes "for") a ∷ Mark m.OpenParen b ∷ Lex (c.Word w.Const) (codes "const") i ∷ Lex (c.Word (word_of spelled)) spelled j ∷ vs ++ back)) more4 more4_told λ k xs x_told.
    split_mark (λ vs. P (Lex (c.Word w.For) (codes "for") a ∷ Mark m.OpenParen b ∷ Lex (c.Word w.Const) (codes "const") i ∷ Lex (c.Word (word_of spelled)) spelled j ∷ Lex (c.Word w.Of) (codes "of") k ∷ xs ++ vs)) back back_told λ l ys y_told.
    let xr = x.back xs x_told in
    let yr = y.back ys y_told in
    into _ (record {
      tree = stmt.ForOf a v.Const (record { at = j; name = spelled }) xr.tree yr.tree;
      own = max xr.own yr.own + 1;
      reads = g.for_of_stmt {word_kind = w.Const} (codes "for") a b (codes "const") i spelled j (codes "of") k l refl h xr.reads yr.reads;
      below = omega (arith, xr.below, yr.below);
      same = bare.for_of_stmt _ _ _ _ _ ∙ ap_both (λ m n. stmt.ForOf 0 v.Const (record { at = 0; name = spelled }) m n) xr.same yr.same ∙ sym (bare.for_of_stmt _ _ _ _ _);
    })

for_let_step_told : (p q : List Piece) (spelled : List ℕ) → symbols_in (word (codes "for") ++ space ++ in_parens (kind_pieces v.Let ++ space ++ word spelled ++ space ++ word (codes "of") ++ space ++ p) ++ q) ≡ Lex (c.Word w.For) (codes "for") 0 ∷ Mark m.OpenParen 0 ∷ Lex (c.Word w.Let) (codes "let") 0 ∷ Lex (c.Word (word_of spelled)) spelled 0 ∷ Lex (c.Word w.Of) (codes "of") 0 ∷ symbols_in p ++ Mark m.CloseParen 0 ∷ symbols_in q
unfolding early_word middle_word late_word other_word last_word type_word named_word
for_let_step_told p q spelled =
    alike (one (word (codes "for")) ⊕ one space ⊕ (one (mark m.OpenParen) ⊕ (one (kind_pieces v.Let) ⊕ one space ⊕ one (word spelled) ⊕ one space ⊕ one (word (codes "of")) ⊕ one space ⊕ one p) ⊕ one (mark m.CloseParen)) ⊕ one q) (one (Lex (c.Word w.For) (codes "for") 0 ∷ Mark m.OpenParen 0 ∷ Lex (c.Word w.Let) (codes "let") 0 ∷ Lex (c.Word (word_of spelled)) spelled 0 ∷ Lex (c.Word w.Of) (codes "of") 0 ∷ symbols_in p) ⊕ one (Mark m.CloseParen 0 ∷ symbols_in q)) refl

pub for_let_step : {o : Bool} {p q : List Piece} {subject : Expr} {of : Stmt} {d e : ℕ} {around : g.Around} {closed : Bool} (at name_at : ℕ) (spelled : List ℕ)
    → is_name (word_of spelled) ≡ true → Back (g.IsExpr o true) bare_expr p subject d → Back (g.IsStmt o (g.a_loop around) closed) bare_stmt q of e
    → Back (g.IsStmt o around closed) bare_stmt (word (codes "for") ++ space ++ in_parens (kind_pieces v.Let ++ space ++ word spelled ++ space ++ word (codes "of") ++ space ++ p) ++ q) (stmt.ForOf at v.Let (record { at = name_at; name = spelled }) subject of) (max d e + 1)
for_let_step {p = p} {q = q} {of = of} {around = around} {closed = closed} at name_at spelled h x y = back_by λ P into zs told.
    split P {es = Lex (c.Word w.For) (codes "for") 0 ∷ Mark m.OpenParen 0 ∷ Lex (c.Word w.Let) (codes "let") 0 ∷ Lex (c.Word (word_of spelled)) spelled 0 ∷ Lex (c.Word w.Of) (codes "of") 0 ∷ symbols_in p} {fs = Mark m.CloseParen 0 ∷ symbols_in q} zs (told ∙ for_let_step_told p q spelled) λ front back front_told back_told.
    split_lex (λ vs. P (vs ++ back)) front front_told λ a more more_told.
    split_mark (λ vs. P (Lex (c.Word w.For) (codes "for") a ∷ vs ++ back)) more more_told λ b more2 more2_told.
    split_lex (λ vs. P (Lex (c.Word w.For) (codes "for") a ∷ Mark m.OpenParen b ∷ vs ++ back)) more2 more2_told λ i more3 more3_told.
    split_lex (λ vs. P (Lex (c.Word w.For) (codes "for") a ∷ Mark m.OpenParen b ∷ Lex (c.Word w.Let) (codes "let") i ∷ vs ++ back)) more3 more3_told λ j more4 more4_told.
    split_lex (λ vs. P (Lex (c.Word w.For) (codes "for") a ∷ Mark m.OpenParen b ∷ Lex (c.Word w.Let) (codes "let") i ∷ Lex (c.Word (word_of spelled)) spelled j ∷ vs ++ back)) more4 more4_told λ k xs x_told.
    split_mark (λ vs. P (Lex (c.Word w.For) (codes "for") a ∷ Mark m.OpenParen b ∷ Lex (c.Word w.Let) (codes "let") i ∷ Lex (c.Word (word_of spelled)) spelled j ∷ Lex (c.Word w.Of) (codes "of") k ∷ xs ++ vs)) back back_told λ l ys y_told.
    let xr = x.back xs x_told in
    let yr = y.back ys y_told in
    into _ (record {
      tree = stmt.ForOf a v.Let (record { at = j; name = spelled }) xr.tree yr.tree;
      own = max xr.own yr.own + 1;
      reads = g.for_of_stmt {word_kind = w.Let} (codes "for") a b (codes "let") i spelled j (codes "of") k l refl h xr.reads yr.reads;
      below = omega (arith, xr.below, yr.below);
      same = bare.for_of_stmt _ _ _ _ _ ∙ ap_both (λ m n. stmt.ForOf 0 v.Let (record { at = 0; name = spelled }) m n) xr.same yr.same ∙ sym (bare.for_of_stmt _ _ _ _ _);
    })

pub for_of_step : {o : Bool} {around : g.Around} {closed : Bool} {p q : List Piece} {subject : Expr} {of : Stmt} {d e : ℕ} (kind : VarKind) (at name_at : ℕ) (spelled : List ℕ)
    → is_name (word_of spelled) ≡ true → Back (g.IsExpr o true) bare_expr p subject d → Back (g.IsStmt o (g.a_loop around) closed) bare_stmt q of e
    → Back (g.IsStmt o around closed) bare_stmt (word (codes "for") ++ space ++ in_parens (kind_pieces kind ++ space ++ word spelled ++ space ++ word (codes "of") ++ space ++ p) ++ q) (stmt.ForOf at kind (record { at = name_at; name = spelled }) subject of) (max d e + 1)
for_of_step v.Const at name_at spelled h x y = for_const_step at name_at spelled h x y
for_of_step v.Let at name_at spelled h x y = for_let_step at name_at spelled h x y

return_none_step_told : symbols_in (word (codes "return") ++ mark m.Semicolon) ≡ Lex (c.Word w.Return) (codes "return") 0 ∷ [] ++ Mark m.Semicolon 0 ∷ []
unfolding early_word middle_word late_word other_word last_word type_word named_word
return_none_step_told =
    alike (one (word (codes "return")) ⊕ one (mark m.Semicolon)) (one (Lex (c.Word w.Return) (codes "return") 0 ∷ []) ⊕ one (Mark m.Semicolon 0 ∷ [])) refl

pub return_none_step : {o : Bool} {around : g.Around} {closed : Bool} (at : ℕ)
    → around.in_body ≡ true
    → Back (g.IsStmt o around closed) bare_stmt (word (codes "return") ++ mark m.Semicolon) (stmt.Return at None) (0)
return_none_step {around = around} {closed = closed} at h = back_by λ P into zs told.
    split P {es = Lex (c.Word w.Return) (codes "return") 0 ∷ []} {fs = Mark m.Semicolon 0 ∷ []} zs (told ∙ return_none_step_told) λ front back front_told back_told.
    last_lex (λ vs. P (vs ++ back)) front front_told λ a.
    last_mark (λ vs. P (Lex (c.Word w.Return) (codes "return") a ∷ [] ++ vs)) back back_told λ b.
    into _ (record {
      tree = stmt.Return a None;
      own = 0;
      reads = g.return_stmt (codes "return") a b h g.no_expr;
      below = omega arith;
      same = bare.return_stmt_none _ ∙ sym (bare.return_stmt_none _);
    })

return_some_step_told : (p : List Piece) → symbols_in (word (codes "return") ++ space ++ p ++ mark m.Semicolon) ≡ Lex (c.Word w.Return) (codes "return") 0 ∷ symbols_in p ++ Mark m.Semicolon 0 ∷ []
unfolding early_word middle_word late_word other_word last_word type_word named_word
return_some_step_told p =
    alike (one (word (codes "return")) ⊕ one space ⊕ one p ⊕ one (mark m.Semicolon)) (one (Lex (c.Word w.Return) (codes "return") 0 ∷ symbols_in p) ⊕ one (Mark m.Semicolon 0 ∷ [])) refl

pub return_some_step : {o : Bool} {p : List Piece} {of : Expr} {d : ℕ} {around : g.Around} {closed : Bool} (at : ℕ)
    → around.in_body ≡ true → Back (g.IsExpr o true) bare_expr p of d
    → Back (g.IsStmt o around closed) bare_stmt (word (codes "return") ++ space ++ p ++ mark m.Semicolon) (stmt.Return at (Some of)) (d)
return_some_step {p = p} {around = around} {closed = closed} at h x = back_by λ P into zs told.
    split P {es = Lex (c.Word w.Return) (codes "return") 0 ∷ symbols_in p} {fs = Mark m.Semicolon 0 ∷ []} zs (told ∙ return_some_step_told p) λ front back front_told back_told.
    split_lex (λ vs. P (vs ++ back)) front front_told λ a xs x_told.
    last_mark (λ vs. P (Lex (c.Word w.Return) (codes "return") a ∷ xs ++ vs)) back back_told λ b.
    let xr = x.back xs x_told in
    into _ (record {
      tree = stmt.Return a (Some xr.tree);
      own = xr.own;
      reads = g.return_stmt (codes "return") a b h (g.some_expr xr.reads);
      below = omega (arith, xr.below);
      same = bare.return_stmt_some _ _ ∙ ap (λ m. stmt.Return 0 (Some m)) xr.same ∙ sym (bare.return_stmt_some _ _);
    })

break_step_told : symbols_in (word (codes "break") ++ mark m.Semicolon) ≡ Lex (c.Word w.Break) (codes "break") 0 ∷ Mark m.Semicolon 0 ∷ []
unfolding early_word middle_word late_word other_word last_word type_word named_word
break_step_told = alike (one (word (codes "break")) ⊕ one (mark m.Semicolon)) (one (Lex (c.Word w.Break) (codes "break") 0 ∷ Mark m.Semicolon 0 ∷ [])) refl

pub break_step : {o : Bool} {around : g.Around} {closed : Bool} (at : ℕ)
    → (around.in_loop || around.in_switch) ≡ true
    → Back (g.IsStmt o around closed) bare_stmt (word (codes "break") ++ mark m.Semicolon) (stmt.Break at) (0)
break_step {around = around} {closed = closed} at h = back_by λ P into zs told.
    split_lex P zs (told ∙ break_step_told) λ a more more_told.
    last_mark (λ vs. P (Lex (c.Word w.Break) (codes "break") a ∷ vs)) more more_told λ b.
    into _ (record {
      tree = stmt.Break a;
      own = 0;
      reads = g.break_stmt (codes "break") a b h;
      below = omega arith;
      same = bare.break_stmt _ ∙ sym (bare.break_stmt _);
    })

continue_step_told : symbols_in (word (codes "continue") ++ mark m.Semicolon) ≡ Lex (c.Word w.Continue) (codes "continue") 0 ∷ Mark m.Semicolon 0 ∷ []
unfolding early_word middle_word late_word other_word last_word type_word named_word
continue_step_told =
    alike (one (word (codes "continue")) ⊕ one (mark m.Semicolon)) (one (Lex (c.Word w.Continue) (codes "continue") 0 ∷ Mark m.Semicolon 0 ∷ [])) refl

pub continue_step : {o : Bool} {around : g.Around} {closed : Bool} (at : ℕ)
    → around.in_loop ≡ true
    → Back (g.IsStmt o around closed) bare_stmt (word (codes "continue") ++ mark m.Semicolon) (stmt.Continue at) (0)
continue_step {around = around} {closed = closed} at h = back_by λ P into zs told.
    split_lex P zs (told ∙ continue_step_told) λ a more more_told.
    last_mark (λ vs. P (Lex (c.Word w.Continue) (codes "continue") a ∷ vs)) more more_told λ b.
    into _ (record {
      tree = stmt.Continue a;
      own = 0;
      reads = g.continue_stmt (codes "continue") a b h;
      below = omega arith;
      same = bare.continue_stmt _ ∙ sym (bare.continue_stmt _);
    })

throw_step_told : (p : List Piece) → symbols_in (word (codes "throw") ++ space ++ p ++ mark m.Semicolon) ≡ Lex (c.Word w.Throw) (codes "throw") 0 ∷ symbols_in p ++ Mark m.Semicolon 0 ∷ []
unfolding early_word middle_word late_word other_word last_word type_word named_word
throw_step_told p =
    alike (one (word (codes "throw")) ⊕ one space ⊕ one p ⊕ one (mark m.Semicolon)) (one (Lex (c.Word w.Throw) (codes "throw") 0 ∷ symbols_in p) ⊕ one (Mark m.Semicolon 0 ∷ [])) refl

pub throw_step : {o : Bool} {p : List Piece} {of : Expr} {d : ℕ} {around : g.Around} {closed : Bool} (at : ℕ)
    → Back (g.IsExpr o true) bare_expr p of d
    → Back (g.IsStmt o around closed) bare_stmt (word (codes "throw") ++ space ++ p ++ mark m.Semicolon) (stmt.Throw at of) (d)
throw_step {p = p} {around = around} {closed = closed} at x = back_by λ P into zs told.
    split P {es = Lex (c.Word w.Throw) (codes "throw") 0 ∷ symbols_in p} {fs = Mark m.Semicolon 0 ∷ []} zs (told ∙ throw_step_told p) λ front back front_told back_told.
    split_lex (λ vs. P (vs ++ back)) front front_told λ a xs x_told.
    last_mark (λ vs. P (Lex (c.Word w.Throw) (codes "throw") a ∷ xs ++ vs)) back back_told λ b.
    let xr = x.back xs x_told in
    into _ (record {
      tree = stmt.Throw a xr.tree;
      own = xr.own;
      reads = g.throw_stmt (codes "throw") a b xr.reads;
      below = omega (arith, xr.below);
      same = bare.throw_stmt _ _ ∙ ap (λ m. stmt.Throw 0 m) xr.same ∙ sym (bare.throw_stmt _ _);
    })

switch_step_told : (p q : List Piece) (n : ℕ) → symbols_in (word (codes "switch") ++ space ++ in_parens p ++ space ++ mark m.OpenBrace ++ q ++ new_line n ++ mark m.CloseBrace) ≡ Lex (c.Word w.Switch) (codes "switch") 0 ∷ Mark m.OpenParen 0 ∷ symbols_in p ++ Mark m.CloseParen 0 ∷ Mark m.OpenBrace 0 ∷ symbols_in q ++ Mark m.CloseBrace 0 ∷ []
unfolding early_word middle_word late_word other_word last_word type_word named_word
switch_step_told p q n =
    alike (one (word (codes "switch")) ⊕ one space ⊕ (one (mark m.OpenParen) ⊕ one p ⊕ one (mark m.CloseParen)) ⊕ one space ⊕ one (mark m.OpenBrace) ⊕ one q ⊕ one (new_line n) ⊕ one (mark m.CloseBrace)) (one (Lex (c.Word w.Switch) (codes "switch") 0 ∷ Mark m.OpenParen 0 ∷ symbols_in p) ⊕ one (Mark m.CloseParen 0 ∷ Mark m.OpenBrace 0 ∷ symbols_in q) ⊕ one (Mark m.CloseBrace 0 ∷ [])) refl

pub switch_step : {o : Bool} {p q : List Piece} {subject : Expr} {of : List Clause} {d e : ℕ} {around : g.Around} {closed : Bool} {defaulted : Bool} (n at : ℕ)
    → Back (g.IsExpr o true) bare_expr p subject d → Back (g.IsClauses o (g.a_switch around) defaulted) (map bare_clause) q of e
    → Back (g.IsStmt o around closed) bare_stmt (word (codes "switch") ++ space ++ in_parens p ++ space ++ mark m.OpenBrace ++ q ++ new_line n ++ mark m.CloseBrace) (stmt.Switch at subject of) (max d e + 1)
switch_step {p = p} {q = q} {around = around} {closed = closed} {defaulted = defaulted} n at x y = back_by λ P into zs told.
    split P {es = Lex (c.Word w.Switch) (codes "switch") 0 ∷ Mark m.OpenParen 0 ∷ symbols_in p ++ Mark m.CloseParen 0 ∷ Mark m.OpenBrace 0 ∷ symbols_in q} {fs = Mark m.CloseBrace 0 ∷ []} zs (told ∙ switch_step_told p q n) λ front back front_told back_told.
    split (λ vs. P (vs ++ back)) {es = Lex (c.Word w.Switch) (codes "switch") 0 ∷ Mark m.OpenParen 0 ∷ symbols_in p} {fs = Mark m.CloseParen 0 ∷ Mark m.OpenBrace 0 ∷ symbols_in q} front front_told λ front2 back2 front2_told back2_told.
    split_lex (λ vs. P (vs ++ back2 ++ back)) front2 front2_told λ a more more_told.
    split_mark (λ vs. P (Lex (c.Word w.Switch) (codes "switch") a ∷ vs ++ back2 ++ back)) more more_told λ b xs x_told.
    split_mark (λ vs. P (Lex (c.Word w.Switch) (codes "switch") a ∷ Mark m.OpenParen b ∷ xs ++ vs ++ back)) back2 back2_told λ i more3 more3_told.
    split_mark (λ vs. P (Lex (c.Word w.Switch) (codes "switch") a ∷ Mark m.OpenParen b ∷ xs ++ Mark m.CloseParen i ∷ vs ++ back)) more3 more3_told λ j ys y_told.
    last_mark (λ vs. P (Lex (c.Word w.Switch) (codes "switch") a ∷ Mark m.OpenParen b ∷ xs ++ Mark m.CloseParen i ∷ Mark m.OpenBrace j ∷ ys ++ vs)) back back_told λ k.
    let xr = x.back xs x_told in
    let yr = y.back ys y_told in
    into _ (record {
      tree = stmt.Switch a xr.tree yr.tree;
      own = max xr.own yr.own + 1;
      reads = g.switch_stmt (codes "switch") a b i j k xr.reads yr.reads;
      below = omega (arith, xr.below, yr.below);
      same = bare.switch_stmt _ _ _ ∙ ap_both (λ m n. stmt.Switch 0 m n) xr.same yr.same ∙ sym (bare.switch_stmt _ _ _);
    })

expr_stmt_step_told : (p : List Piece) → symbols_in (p ++ mark m.Semicolon) ≡ symbols_in p ++ Mark m.Semicolon 0 ∷ []
expr_stmt_step_told p = alike (one p ⊕ one (mark m.Semicolon)) (one (symbols_in p) ⊕ one (Mark m.Semicolon 0 ∷ [])) refl

pub expr_stmt_step : {o : Bool} {p : List Piece} {of : Expr} {d : ℕ} {around : g.Around} {closed : Bool} (at : ℕ)
    → g.begins_with_brace (symbols_in p) ≡ false → Back (g.IsExpr o true) bare_expr p of d
    → Back (g.IsStmt o around closed) bare_stmt (p ++ mark m.Semicolon) (stmt.Expr at of) (d)
expr_stmt_step {p = p} {around = around} {closed = closed} at h x = back_by λ P into zs told.
    split P {es = symbols_in p} {fs = Mark m.Semicolon 0 ∷ []} zs (told ∙ expr_stmt_step_told p) λ xs back x_told back_told.
    last_mark (λ vs. P (xs ++ vs)) back back_told λ here.
    let xr = x.back xs x_told in
    into _ (record {
      tree = stmt.Expr (start_of xs) xr.tree;
      own = xr.own;
      reads = g.expr_stmt here (brace_back p xs x_told h) xr.reads;
      below = omega (arith, xr.below);
      same = bare.expr_stmt _ _ ∙ ap (λ m. stmt.Expr 0 m) xr.same ∙ sym (bare.expr_stmt _ _);
    })

empty_step_told : symbols_in (mark m.Semicolon) ≡ Mark m.Semicolon 0 ∷ []
empty_step_told = alike (one (mark m.Semicolon)) (one (Mark m.Semicolon 0 ∷ [])) refl

pub empty_step : {o : Bool} {around : g.Around} {closed : Bool} (at : ℕ) → Back (g.IsStmt o around closed) bare_stmt (mark m.Semicolon) (stmt.Empty at) (0)
empty_step {around = around} {closed = closed} at = back_by λ P into zs told.
    last_mark P zs (told ∙ empty_step_told) λ here.
    into _ (record {
      tree = stmt.Empty here;
      own = 0;
      reads = g.empty_stmt here;
      below = omega arith;
      same = bare.empty_stmt _ ∙ sym (bare.empty_stmt _);
    })

pub var_start_step : {o : Bool} {p : List Piece} {of : Var} {d : ℕ} → Back (g.IsVar o) bare_var p of d → Back (g.IsForStart o) bare_start p (start.Var of) d
var_start_step x = wrapped start.Var bare.var_start (λ xs of n r. g.var_start r) x

expr_start_step_told : (p : List Piece) → symbols_in (p ++ mark m.Semicolon) ≡ symbols_in p ++ Mark m.Semicolon 0 ∷ []
expr_start_step_told p = alike (one p ⊕ one (mark m.Semicolon)) (one (symbols_in p) ⊕ one (Mark m.Semicolon 0 ∷ [])) refl

pub expr_start_step : {o : Bool} {p : List Piece} {of : Expr} {d : ℕ}
    → Back (g.IsExpr o true) bare_expr p of d
    → Back (g.IsForStart o) bare_start (p ++ mark m.Semicolon) (start.Expr of) (d)
expr_start_step {p = p} x = back_by λ P into zs told.
    split P {es = symbols_in p} {fs = Mark m.Semicolon 0 ∷ []} zs (told ∙ expr_start_step_told p) λ xs back x_told back_told.
    last_mark (λ vs. P (xs ++ vs)) back back_told λ here.
    let xr = x.back xs x_told in
    into _ (record {
      tree = start.Expr xr.tree;
      own = xr.own;
      reads = g.expr_start here xr.reads;
      below = omega (arith, xr.below);
      same = bare.expr_start _ ∙ ap (λ m. start.Expr m) xr.same ∙ sym (bare.expr_start _);
    })

no_start_step_told : symbols_in (mark m.Semicolon) ≡ Mark m.Semicolon 0 ∷ []
no_start_step_told = alike (one (mark m.Semicolon)) (one (Mark m.Semicolon 0 ∷ [])) refl

pub no_start_step : {o : Bool} → Back (g.IsForStart o) bare_start (mark m.Semicolon) (start.Nothing) (0)
no_start_step = back_by λ P into zs told.
    last_mark P zs (told ∙ no_start_step_told) λ here.
    into _ (record { tree = start.Nothing; own = 0; reads = g.no_start here; below = omega arith; same = refl })

case_step_told : (p q : List Piece) → symbols_in (word (codes "case") ++ space ++ p ++ mark m.Colon ++ q) ≡ Lex (c.Word w.Case) (codes "case") 0 ∷ symbols_in p ++ Mark m.Colon 0 ∷ symbols_in q
unfolding early_word middle_word late_word other_word last_word type_word named_word
case_step_told p q =
    alike (one (word (codes "case")) ⊕ one space ⊕ one p ⊕ one (mark m.Colon) ⊕ one q) (one (Lex (c.Word w.Case) (codes "case") 0 ∷ symbols_in p) ⊕ one (Mark m.Colon 0 ∷ symbols_in q)) refl

pub case_step : {o : Bool} {p q : List Piece} {of : Expr} {items : List BlockItem} {d e : ℕ} {around : g.Around} (at : ℕ)
    → Back (g.IsExpr o false) bare_expr p of d → Back (g.IsBlockItems o around) (map bare_block_item) q items e
    → Back (g.IsClause o around false) bare_clause (word (codes "case") ++ space ++ p ++ mark m.Colon ++ q) (clause.Case at of items) (max d e)
case_step {p = p} {q = q} {around = around} at x y = back_by λ P into zs told.
    split P {es = Lex (c.Word w.Case) (codes "case") 0 ∷ symbols_in p} {fs = Mark m.Colon 0 ∷ symbols_in q} zs (told ∙ case_step_told p q) λ front back front_told back_told.
    split_lex (λ vs. P (vs ++ back)) front front_told λ a xs x_told.
    split_mark (λ vs. P (Lex (c.Word w.Case) (codes "case") a ∷ xs ++ vs)) back back_told λ b ys y_told.
    let xr = x.back xs x_told in
    let yr = y.back ys y_told in
    into _ (record {
      tree = clause.Case a xr.tree yr.tree;
      own = max xr.own yr.own;
      reads = g.case_clause (codes "case") a b xr.reads yr.reads;
      below = omega (arith, xr.below, yr.below);
      same = bare.case_clause _ _ _ ∙ ap_both (λ m n. clause.Case 0 m n) xr.same yr.same ∙ sym (bare.case_clause _ _ _);
    })

default_step_told : (p : List Piece) → symbols_in (word (codes "default") ++ mark m.Colon ++ p) ≡ Lex (c.Word w.Default) (codes "default") 0 ∷ Mark m.Colon 0 ∷ symbols_in p
unfolding early_word middle_word late_word other_word last_word type_word named_word
default_step_told p =
    alike (one (word (codes "default")) ⊕ one (mark m.Colon) ⊕ one p) (one (Lex (c.Word w.Default) (codes "default") 0 ∷ Mark m.Colon 0 ∷ symbols_in p)) refl

pub default_step : {o : Bool} {p : List Piece} {items : List BlockItem} {d : ℕ} {around : g.Around} (at : ℕ)
    → Back (g.IsBlockItems o around) (map bare_block_item) p items d
    → Back (g.IsClause o around true) bare_clause (word (codes "default") ++ mark m.Colon ++ p) (clause.Default at items) (d)
default_step {p = p} {around = around} at x = back_by λ P into zs told.
    split_lex P zs (told ∙ default_step_told p) λ a more more_told.
    split_mark (λ vs. P (Lex (c.Word w.Default) (codes "default") a ∷ vs)) more more_told λ b xs x_told.
    let xr = x.back xs x_told in
    into _ (record {
      tree = clause.Default a xr.tree;
      own = xr.own;
      reads = g.default_clause (codes "default") a b xr.reads;
      below = omega (arith, xr.below);
      same = bare.default_clause _ _ ∙ ap (λ m. clause.Default 0 m) xr.same ∙ sym (bare.default_clause _ _);
    })

pub no_clauses_step : {o : Bool} {around : g.Around} → Back (g.IsClauses o around false) (map bare_clause) [] [] 0
no_clauses_step = back_by λ P into zs told. split_none P zs told (into _ (record { tree = []; own = 0; reads = g.no_clauses; below = omega arith; same = refl }))

more_clauses_step_told : (p q : List Piece) (n : ℕ) → symbols_in ((new_line (suc n) ++ p) ++ q) ≡ symbols_in p ++ symbols_in q
more_clauses_step_told p q n = alike (one (new_line (suc n)) ⊕ one p ⊕ one q) (one (symbols_in p) ⊕ one (symbols_in q)) refl

pub more_clauses_step : {o : Bool} {p q : List Piece} {of : Clause} {rest : List Clause} {d e : ℕ} {around : g.Around} {first later : Bool} (n : ℕ)
    → (first && later) ≡ false → Back (g.IsClause o around first) bare_clause p of d → Back (g.IsClauses o around later) (map bare_clause) q rest e
    → Back (g.IsClauses o around (first || later)) (map bare_clause) ((new_line (suc n) ++ p) ++ q) (of ∷ rest) (max d e)
more_clauses_step {p = p} {q = q} {around = around} {first = first} {later = later} n h x y = back_by λ P into zs told.
    split P {es = symbols_in p} {fs = symbols_in q} zs (told ∙ more_clauses_step_told p q n) λ xs ys x_told y_told.
    let xr = x.back xs x_told in
    let yr = y.back ys y_told in
    into _ (record {
      tree = xr.tree ∷ yr.tree;
      own = max xr.own yr.own;
      reads = g.more_clauses xr.reads yr.reads h;
      below = omega (arith, xr.below, yr.below);
      same = ap_both (λ i is. i ∷ is) xr.same yr.same;
    })
