-- What is kept of a source file that was read is read back from its layout, and scans as what was laid out.
use Rattle.std.proofs.Common.{◌≡◌, ℕ, ◌≤◌, Bool, true, false, ◌||◌, if◌then◌else◌, List, [], ◌∷◌, ◌++◌, map, flat_map, Option, Some, None, refl, sym, ap, subst, ◌∙◌, arith}
use Rattle.std.specs.Prelude.{IsUtf8, filter}
use Rattle.std.specs.Bool.{⊤}
use Rattle.std.specs.List.{AllByRecursion}
use Rattle.tb_scan.specs.Numbers.{IsNumber}
use Rattle.tb_tree.specs.declared.marks.Mark.TheVariants as m
use Rattle.tb_tree.specs.declared.words.Word.{Word}
use Rattle.tb_tree.specs.declared.words.Word.TheVariants as w
use Rattle.tb_tree.specs.declared.words.Class.TheVariants as c
use Rattle.tb_tree.specs.declared.types.TypeKeyword.{TypeKeyword}
use Rattle.tb_tree.specs.declared.types.TypeKeyword.TheVariants as b
use Rattle.tb_tree.specs.declared.types.TypeExpr.{TypeExpr}
use Rattle.tb_tree.specs.declared.types.TypeExpr.TheVariants as t
use Rattle.tb_tree.specs.declared.types.TypeParam.{TypeParam}
use Rattle.tb_tree.specs.declared.exprs.ArrowBody.TheOpen.{Expr-F, Declarator-F, Function-F, Param-F, Var-F}
use Rattle.tb_tree.specs.declared.exprs.ArrowBody.{ArrowBody}
use Rattle.tb_tree.specs.declared.exprs.BlockItem.{BlockItem}
use Rattle.tb_tree.specs.declared.exprs.Clause.{Clause}
use Rattle.tb_tree.specs.declared.exprs.ForStart.{ForStart}
use Rattle.tb_tree.specs.declared.exprs.Prop.{Prop}
use Rattle.tb_tree.specs.declared.exprs.Stmt.{Stmt}
use Rattle.tb_tree.specs.declared.exprs.Block.{Block}
use Rattle.tb_tree.specs.declared.exprs.TemplateSpan.{TemplateSpan}
use Rattle.tb_tree.specs.declared.exprs.Expr.{Expr, out-Expr}
use Rattle.tb_tree.specs.declared.exprs.Expr.TheVariants as expr
use Rattle.tb_tree.specs.declared.exprs.UnaryOperator.{UnaryOperator}
use Rattle.tb_tree.specs.declared.exprs.UnaryOperator.TheVariants as unary
use Rattle.tb_tree.specs.declared.exprs.VarKind.{VarKind}
use Rattle.tb_tree.specs.declared.exprs.Declarator.{Declarator, out-roll-Declarator}
use Rattle.tb_tree.specs.declared.exprs.Function.{Function, out-roll-Function}
use Rattle.tb_tree.specs.declared.exprs.Param.{Param, out-roll-Param}
use Rattle.tb_tree.specs.declared.exprs.Var.{Var, out-roll-Var}
use Rattle.tb_tree.specs.declared.items.Spec.{Spec}
use Rattle.tb_tree.specs.declared.items.Import.{Import}
use Rattle.tb_tree.specs.declared.items.Base.{Base}
use Rattle.tb_tree.specs.declared.items.Interface.{Interface}
use Rattle.tb_tree.specs.declared.items.Alias.{Alias}
use Rattle.tb_tree.specs.declared.items.ClassMember.{ClassMember}
use Rattle.tb_tree.specs.declared.items.ClassDeclaration.{ClassDeclaration}
use Rattle.tb_tree.specs.declared.items.DeclaredMember.{DeclaredMember}
use Rattle.tb_tree.specs.declared.items.Declared.{Declared}
use Rattle.tb_tree.specs.declared.items.Declared.TheVariants as declared
use Rattle.tb_tree.specs.declared.items.Declaration.{Declaration}
use Rattle.tb_tree.specs.declared.items.Item.{Item}
use Rattle.tb_tree.specs.declared.items.SurfaceItem.{SurfaceItem}
use Rattle.tb_tree.specs.declared.items.SurfaceItem.TheVariants as surface_item
use Rattle.tb_tree.specs.Sym.{Sym, Mark, Lex, at_of}
use Rattle.tb_tree.specs.Words.{is_name, is_type_name, word_of}
use Rattle.tb_tree.specs.Shapes.{max_depth, word, is_zero, is_positive, IsJoined, last_joined, more_joined}
use Rattle.tb_tree.specs.Types as types
use Rattle.tb_tree.specs.Types.{IsAtom, IsType, IsTypeParam, IsTypeParams, IsShape}
use Rattle.tb_tree.specs.Exprs as g
use Rattle.tb_tree.specs.Items as grammar
use Rattle.tb_tree.specs.Items.{IsBase, IsBases, IsInterface, IsAlias, DerivesItem, is_member_name}
use Rattle.tb_tree.specs.Surfaces as surfaces
use Rattle.tb_tree.specs.Surfaces.{IsDeclaredMember, IsDeclaredMembers, IsDeclared, DerivesDeclItem, kept}
use Rattle.tb_tree.specs.Reading.{ReadsAs, no_items, more_items}
use Rattle.tb_tree.specs.Bare.{bare_type, bare_declared, bare_surface_item}
use Rattle.tb_layout.specs.Pieces.{Piece, listed}
use Rattle.tb_layout.specs.Pieces as pieces
use Rattle.tb_layout.specs.Quoted.{quoted, quoted_type, quoted_base, quoted_interface, quoted_alias, quoted_surface_item}
use Rattle.tb_layout.specs.Shown.{Tight, type_pieces, shown_type, shown_type_param}
use Rattle.tb_layout.specs.Dts.{declared_member_pieces, declared_pieces, typed_spec_pieces}
use Rattle.tb_layout.specs.Parts.{Part, VariablePart, parts_of}
use Rattle.tb_layout.specs.Kept.{Known, keeps_part, keeps_spec}
use Rattle.tb_layout.specs.Surface.{Literal, Text, Number, Truth, negative_at, literal_at, literal_in, is_integer, literal_type, annotated_type, initial_type, declared_type, has_value, declared_param, is_const, declared_member_of, declared_class, declared_part, import_with, surface_import, surface_part, surface_item_of}
use Rattle.tb_layout.proofs.Showing as showing
use Rattle.tb_layout.proofs.Requoted.{type_twice, declared_twice, surface_item_twice}
use Rattle.tb_emit_law.proofs.Alone.{IsWordText}
use Rattle.tb_emit_law.proofs.Back.{Back, IsClassed, deeper, seen, named}
use Rattle.tb_emit_law.proofs.Source.{IsFormed}
use Rattle.tb_emit_law.proofs.Sound.{Sound, anything, off_numbers, from_any, from_words, number_sound, word_sound}
use Rattle.tb_emit_law.proofs.Parts.{Fits, fits_by, sound_by, number_solid, truth_fits, prefixed_fits}
use Rattle.tb_emit_law.proofs.SoundExprs.{Formed, front, back, sides}
use Rattle.tb_emit_law.proofs.DeclPlain.{plain_type, plain_param, a_param, is_union, is_union_at}
use Rattle.tb_emit_law.proofs.DeclSteps.{Under, by_other, weaker, keyword_step, boolean_step, string_step, integer_step, minus_step, atom_plain, no_params_step, last_param_step, more_params_step, param_step, closed_pieces}
use Rattle.tb_emit_law.proofs.DeclTypes.{Classed, is_tight, type_back, type_read}
use Rattle.tb_emit_law.proofs.DeclStrings.{quoted_text}
use Rattle.tb_emit_law.proofs.DeclScan.{keyword_sound, quoted_sound, typed_sound, TypeScans, type_scan}
use Rattle.tb_emit_law.proofs.DeclShown.{pieces_same, declared_same, item_same}
use Rattle.tb_emit_law.proofs.DeclItemSteps as step
use Rattle.tb_emit_law.proofs.DeclItemSteps.{plain_declared_member, plain_declared}
use Rattle.tb_emit_law.proofs.DeclItems.{ItemBack, SpecBack, each_spec, specs_back, implements_read, interface_read, alias_read, interface_back, alias_back, body_pieces, declaration_back, list_back, item_read}
use Rattle.tb_emit_law.proofs.DeclRows.{all_of}
use Rattle.tb_emit_law.proofs.DeclItemScan.{ItemFits, listed_scan, import_list_fits, item_fits, field_sound, constructor_sound, method_sound, variable_fits, function_fits, class_fits, interface_fits, alias_fits, exported_fits, export_list_fits, kept_fits}

classed : (s : Sym) → IsFormed s → IsClassed s
classed (Lex (c.Word kind) spelled at) h = h.0
classed _ h = tt

pub all_classed : (xs : List Sym) → Formed xs → Classed xs
all_classed [] h = tt
all_classed (x ∷ xs) h = (classed x h.0, all_classed xs h.1)

-- a tree that is equal to this one but for offsets and the spelling of strings
pub as_left : {X : Type 0} {R : List Sym → X → ℕ → Type 0} {bare : X → X} {p : List Piece} {left other : X} {d : ℕ} → bare other ≡ bare left → Back R bare p left d → Back R bare p other d
as_left h x = record {
  back = λ zs e. let r = x.back zs e in record { tree = r.tree; own = r.own; reads = r.reads; below = r.below; same = r.same ∙ sym h };
}

-- ---- types

record TypeGiven (of : TypeExpr) : Type 0 where
  pub back : Back (Under IsType max_depth) plain_type (type_pieces of) of max_depth
  pub scan : TypeScans of

quoted_given : {of : TypeExpr} → TypeGiven of → TypeGiven (quoted_type of)
quoted_given {of = of} x = record {
  back = as_left {left = of} {other = quoted_type of} (ap bare_type (type_twice of)) (seen (pieces_same of) refl x.back);
  scan = sound_by (pieces_same of) x.scan;
}

shape_given : {xs : List Sym} {of : TypeExpr} {d : ℕ} → IsShape xs of d → d ≤ max_depth → Formed xs → TypeGiven of
shape_given (types.shape colon {xs = xs} q h) l f = record { back = weaker h l (type_back (type_read q (all_classed xs f.1))); scan = type_scan q f.1 }

atom_given : {of : TypeExpr} (p : List Piece) → shown_type of ≡ record { form = Tight; pieces = p } → is_union of ≡ false → Back (Under IsAtom 1) plain_type p of 1
    → Back (Under IsType max_depth) plain_type (type_pieces of) of max_depth
atom_given p e n x = weaker (omega arith) (omega arith) (type_back (is_tight p e n (by_other (λ xs of own depth r. atom_plain r) x)))

keyword_given : (at : ℕ) (keyword : TypeKeyword) → TypeGiven (t.Keyword at keyword)
keyword_given at keyword = record {
  back = atom_given _ (showing.keyword_type at keyword) (ap is_union_at (t.outs-Keyword at keyword)) (keyword_step at keyword);
  scan = sound_by (showing.keyword_pieces_of at keyword) (from_words (keyword_sound keyword));
}

boolean_given : (at : ℕ) (value : Bool) → TypeGiven (t.Boolean at value)
boolean_given at value = record {
  back = atom_given _ (showing.boolean_type at value) (ap is_union_at (t.outs-Boolean at value)) (boolean_step at value);
  scan = sound_by (showing.boolean_pieces_of at value) (from_words (truth_fits value).0);
}

string_given : (at : ℕ) (spelled : List ℕ) → IsUtf8 spelled → TypeGiven (t.String at (quoted spelled))
string_given at spelled u = record {
  back = atom_given _ (showing.string_type at (quoted spelled)) (ap is_union_at (t.outs-String at (quoted spelled))) (string_step at (quoted spelled));
  scan = sound_by (showing.string_pieces_of at (quoted spelled)) (from_any (quoted_sound (quoted spelled) (quoted_text spelled u).1));
}

either_way : (a b : Bool) → (a || b) ≡ true → (b || a) ≡ true
either_way true true h = refl
either_way true false h = refl
either_way false true h = refl
either_way false false h = h

first_way : (a : Bool) → (a || false) ≡ true → a ≡ true
first_way true h = refl
first_way false h = h

integer_given : (at : ℕ) (minus : Bool) (digits : List ℕ) → is_integer minus digits ≡ true → IsNumber digits → IsUtf8 digits → TypeGiven (t.Integer at minus digits)
integer_given at false digits h number u = record {
  back = atom_given _ (showing.integer_type at false digits) (ap is_union_at (t.outs-Integer at false digits)) (integer_step at digits (either_way (is_positive digits) (is_zero digits) h));
  scan = sound_by (showing.integer_pieces_of at false digits) (number_sound digits number u);
}
integer_given at true digits h number u = record {
  back = atom_given _ (showing.integer_type at true digits) (ap is_union_at (t.outs-Integer at true digits)) (minus_step at digits (first_way (is_positive digits) h));
  scan = sound_by (showing.integer_pieces_of at true digits) (prefixed_fits unary.Minus (pieces.Lex c.Number digits ∷ []) (number_sound digits number u, number_solid digits number)).0;
}

-- ---- literals

abbrev LiteralOk : Option Literal → Type 0
LiteralOk None = ⊤
LiteralOk (Some (Text at spelled)) = IsUtf8 spelled
LiteralOk (Some (Number at minus spelled)) = IsNumber spelled × IsUtf8 spelled
LiteralOk (Some (Truth at value)) = ⊤

number_given : (at : ℕ) (minus : Bool) (spelled : List ℕ) (whole : Bool) → is_integer minus spelled ≡ whole → IsNumber spelled → IsUtf8 spelled
    → TypeGiven (if whole then t.Integer at minus spelled else t.Keyword at b.Number)
number_given at minus spelled true e number u = integer_given at minus spelled e number u
number_given at minus spelled false e number u = keyword_given at b.Number

literal_given : (fixed : Bool) (of : Literal) → LiteralOk (Some of) → TypeGiven (literal_type fixed of)
literal_given true (Text at spelled) h = string_given at spelled h
literal_given true (Number at minus spelled) h = number_given at minus spelled (is_integer minus spelled) refl h.0 h.1
literal_given true (Truth at value) h = boolean_given at value
literal_given false (Text at spelled) h = keyword_given at b.String
literal_given false (Number at minus spelled) h = keyword_given at b.Number
literal_given false (Truth at value) h = keyword_given at b.Boolean

initial_given : (at : ℕ) (fixed : Bool) (of : Option Literal) → LiteralOk of → TypeGiven (initial_type at fixed of)
initial_given at fixed None h = keyword_given at b.Any
initial_given at fixed (Some of) h = literal_given fixed of h

abbrev Layer : Type 0
Layer = Expr-F ArrowBody BlockItem Clause Expr ForStart Prop Stmt Block Declarator Function Param TemplateSpan Var

-- the literal that an expression is, and that it is behind a `-`
abbrev LayerOk : Layer → Type 0
LayerOk layer = LiteralOk (literal_at layer) × LiteralOk (negative_at 0 layer)

abbrev ExprOk : Expr → Type 0
ExprOk of = LayerOk (out-Expr of)

negative_ok : (at : ℕ) (layer : Layer) → LiteralOk (negative_at 0 layer) → LiteralOk (negative_at at layer)
negative_ok at (Expr-F.Number number_at spelled) h = h
negative_ok at _ h = tt

unary_ok : (at : ℕ) (operator : UnaryOperator) (operand : Expr) → ExprOk operand → ExprOk (expr.Unary at operator operand)
unary_ok at operator operand h = subst LayerOk (sym (expr.outs-Unary at operator operand)) (by operator, tt)
  where
    by : (operator : UnaryOperator) → LiteralOk (literal_at (Expr-F.Unary at operator operand))
    by unary.Minus = negative_ok at (out-Expr operand) h.1
    by unary.Plus = tt
    by unary.Not = tt
    by unary.Typeof = tt

module _ (o : Bool) where
  primary_ok : {xs : List Sym} {of : Expr} {d : ℕ} → g.IsPrimary o xs of d → Formed xs → ExprOk of
  primary_ok (g.name_expr spelled at e) f = subst LayerOk (sym (expr.outs-Name _ _)) (tt, tt)
  primary_ok (g.this_expr spelled at) f = subst LayerOk (sym (expr.outs-This _)) (tt, tt)
  primary_ok (g.number_expr spelled at) f = subst LayerOk (sym (expr.outs-Number at spelled)) ((f.0.0, f.0.1), (f.0.0, f.0.1))
  primary_ok (g.string_expr spelled at) f = subst LayerOk (sym (expr.outs-String at spelled)) (f.0.1, tt)
  primary_ok (g.template_expr spelled at) f = subst LayerOk (sym (expr.outs-Template _ _ _)) (tt, tt)
  primary_ok (g.spans_expr spelled at q) f = subst LayerOk (sym (expr.outs-Template _ _ _)) (tt, tt)
  primary_ok (g.boolean_expr spelled at e) f = subst LayerOk (sym (expr.outs-Boolean _ _)) (tt, tt)
  primary_ok (g.null_expr spelled at) f = subst LayerOk (sym (expr.outs-Null _)) (tt, tt)
  primary_ok (g.undefined_expr spelled at) f = subst LayerOk (sym (expr.outs-Undefined _)) (tt, tt)
  primary_ok (g.parens_expr i j q) f = subst LayerOk (sym (expr.outs-Parens _ _)) (tt, tt)
  primary_ok (g.array_expr i j q) f = subst LayerOk (sym (expr.outs-Array _ _)) (tt, tt)
  primary_ok (g.object_expr i j q) f = subst LayerOk (sym (expr.outs-Object _ _)) (tt, tt)
  primary_ok (g.new_expr i n spelled at j k e q) f = subst LayerOk (sym (expr.outs-New _ _ _)) (tt, tt)

  chain_ok : {xs : List Sym} {of : Expr} {d : ℕ} → g.IsChain o xs of d → Formed xs → ExprOk of
  chain_ok (g.primary_expr q) f = primary_ok q f
  chain_ok (g.member_expr kind dot spelled at q n) f = subst LayerOk (sym (expr.outs-Member _ _ _)) (tt, tt)
  chain_ok (g.index_expr i j p q) f = subst LayerOk (sym (expr.outs-Index _ _ _)) (tt, tt)
  chain_ok (g.call_expr i j p q) f = subst LayerOk (sym (expr.outs-Call _ _ _ _)) (tt, tt)

  operand_ok : {xs : List Sym} {of : Expr} {d : ℕ} → g.IsUnary o xs of d → Formed xs → ExprOk of
  operand_ok (g.prefix_expr s {operator = operator} {of = of} e q) f = unary_ok (at_of s) operator of (operand_ok q f.1)
  operand_ok (g.update_before s e q h) f = subst LayerOk (sym (expr.outs-Update _ _ _ _)) (tt, tt)
  operand_ok (g.update_after s q h e) f = subst LayerOk (sym (expr.outs-Update _ _ _ _)) (tt, tt)
  operand_ok (g.chain_expr q) f = chain_ok q f

  level_ok : {l : ℕ} {xs : List Sym} {of : Expr} {d : ℕ} → g.IsLevel o l xs of d → Formed xs → ExprOk of
  level_ok (g.unary_operand e q) f = operand_ok q f
  level_ok (g.next_level q) f = level_ok q f
  level_ok (g.joined_expr s p e h q) f = subst LayerOk (sym (expr.outs-Binary _ _ _ _)) (tt, tt)
  level_ok (g.as_expr spelled at e p q h) f = subst LayerOk (sym (expr.outs-As _ _ _)) (tt, tt)

  or_ok : {xs : List Sym} {of : Expr} {d : ℕ} → g.IsOr o xs of d → Formed xs → ExprOk of
  or_ok (g.level_expr q) f = level_ok q f
  or_ok (g.nullish_expr (g.first_nullish at p q)) f = subst LayerOk (sym (expr.outs-Binary _ _ _ _)) (tt, tt)
  or_ok (g.nullish_expr (g.next_nullish at p q)) f = subst LayerOk (sym (expr.outs-Binary _ _ _ _)) (tt, tt)

  expr_ok : {typed : Bool} {xs : List Sym} {of : Expr} {d : ℕ} → g.IsExpr o typed xs of d → Formed xs → ExprOk of
  expr_ok (g.arrow_expr i j k p r q) f = subst LayerOk (sym (expr.outs-Arrow _ _ _ _)) (tt, tt)
  expr_ok (g.short_arrow_expr spelled at k e q) f = subst LayerOk (sym (expr.outs-Arrow _ _ _ _)) (tt, tt)
  expr_ok (g.assign_expr s p h e q) f = subst LayerOk (sym (expr.outs-Assign _ _ _ _)) (tt, tt)
  expr_ok (g.cond_expr (g.or_expr q)) f = or_ok q f
  expr_ok (g.cond_expr (g.conditional_expr i j p q r)) f = subst LayerOk (sym (expr.outs-Conditional _ _ _ _)) (tt, tt)

  value_ok : {xs : List Sym} {of : Option Expr} {d : ℕ} → g.IsValue o xs of d → Formed xs → LiteralOk (literal_in of)
  value_ok g.no_value f = tt
  value_ok (g.some_value at q) f = (expr_ok q f.1).0

-- ---- types that may be missing

abbrev AnnotationOk : Option TypeExpr → Type 0
AnnotationOk None = ⊤
AnnotationOk (Some of) = TypeGiven of

annotation_ok : {xs : List Sym} {of : Option TypeExpr} {d : ℕ} → g.IsAnnotation xs of d → d ≤ max_depth → Formed xs → AnnotationOk of
annotation_ok g.no_annotation l f = tt
annotation_ok (g.some_annotation q) l f = shape_given q l f

annotated_given : (at : ℕ) (of : Option TypeExpr) → AnnotationOk of → TypeGiven (annotated_type at of)
annotated_given at None h = keyword_given at b.Any
annotated_given at (Some of) h = quoted_given h

declared_given : (at : ℕ) (fixed : Bool) (of : Option TypeExpr) (value : Option Expr) → AnnotationOk of → LiteralOk (literal_in value) → TypeGiven (declared_type at fixed of value)
declared_given at fixed None value h l = initial_given at fixed (literal_in value) l
declared_given at fixed (Some of) value h l = quoted_given h

-- ---- parameters

record ParamGiven (of : TypeParam) : Type 0 where
  pub back : Back (Under IsTypeParam max_depth) plain_param (shown_type_param of) of max_depth
  pub scan : Sound off_numbers (shown_type_param of)

a_param_given : (at : ℕ) (name : List ℕ) (optional : Bool) {shape : TypeExpr} → is_name (word_of name) ≡ true → IsWordText name → IsUtf8 name → TypeGiven shape → ParamGiven (a_param at name optional shape)
a_param_given at name optional {shape = shape} h text utf8 x =
    let told = showing.type_param_rolled (record { at = at; name = name; optional = optional; shape = shape }) in
    record { back = seen told refl (param_step at name optional h x.back); scan = sound_by told (typed_sound optional (word_sound name text utf8) x.scan) }

abbrev param_of : Param-F ArrowBody BlockItem Clause Expr ForStart Prop Stmt Block Declarator Function Param TemplateSpan Var → TypeParam
param_of opened = a_param opened.at opened.name (opened.optional || has_value opened.value) (annotated_type opened.at opened.annotation)

params_back : (all : List TypeParam) → AllByRecursion ParamGiven all → Back (Under IsTypeParams max_depth) (map plain_param) (listed (map shown_type_param all)) all max_depth
params_back [] h = no_params_step
params_back (x ∷ []) h = let first = h.0 in last_param_step first.back
params_back (x ∷ y ∷ rest) h = let first = h.0 in weaker (omega arith) (omega arith) (more_params_step first.back (params_back (y ∷ rest) h.1))

params_scan : (all : List TypeParam) → AllByRecursion ParamGiven all → AllByRecursion (Sound off_numbers) (map shown_type_param all)
params_scan [] h = tt
params_scan (x ∷ all) h = let first = h.0 in (first.scan, params_scan all h.1)

module _ (o : Bool) where
  param_given : {given : Bool} {xs : List Sym} {of : Param} {d : ℕ} → g.IsParam o given xs of d → d ≤ max_depth → Formed xs → ParamGiven (declared_param of)
  param_given (g.param {optional = optional} spelled at {xs = xs} {ys = ys} {zs = zs} {shape = shape} {default = default} {d = d} {e = e} h q a v n) l f =
      let layer : Param-F ArrowBody BlockItem Clause Expr ForStart Prop Stmt Block Declarator Function Param TemplateSpan Var = record { at = at; name = spelled; optional = optional; annotation = shape; value = default } in
      let typed = back xs ys (front (xs ++ ys) zs f.1) in
      subst ParamGiven (sym (ap param_of (out-roll-Param layer)))
      (a_param_given at spelled (optional || has_value default) (named spelled f.0.0 h) f.0.1 f.0.2 (annotated_given at shape (annotation_ok a (omega (arith, l)) typed)))

  params_given : {after : Bool} {xs : List Sym} {of : List Param} {d : ℕ} → g.IsParams o after xs of d → d ≤ max_depth → Formed xs → AllByRecursion ParamGiven (map declared_param of)
  params_given g.no_params l f = tt
  params_given (g.last_param q h) l f = (param_given q l f, tt)
  params_given (g.more_params comma {xs = xs} {ys = ys} q h r) l f = let parts = sides xs (Mark m.Comma comma) ys f in (param_given q (omega (arith, l)) parts.0, params_given r (omega (arith, l)) parts.1)

-- ---- declarations

record DeclaredGiven (of : Declared) : Type 0 where
  pub back : Back IsDeclared plain_declared (body_pieces of) of max_depth
  pub fits : Fits anything (declared_pieces of)

pub record ItemGiven (of : SurfaceItem) : Type 0 where
  pub back : ItemBack of
  pub fits : ItemFits of

declared_item : (exported : Bool) (of : Declared) → DeclaredGiven of → ItemGiven (surface_item.Declaration exported of)
declared_item exported of x = record { back = declaration_back exported of (omega arith) x.back; fits = exported_fits exported x.fits }

variable_given : (at : ℕ) (kind : VarKind) (name : List ℕ) {shape : TypeExpr} → is_name (word_of name) ≡ true → IsWordText name → IsUtf8 name → TypeGiven shape → DeclaredGiven (declared.Variable at kind name shape)
variable_given at kind name {shape = shape} h text utf8 x = record { back = step.variable_step at kind name h (step.shape_step x.back); fits = variable_fits kind name shape text utf8 x.scan }

function_given : (at : ℕ) (name : List ℕ) (params : List TypeParam) {result : TypeExpr} → is_name (word_of name) ≡ true → IsWordText name → IsUtf8 name → AllByRecursion ParamGiven params → TypeGiven result
    → DeclaredGiven (declared.Function at name [] params result)
function_given at name params {result = result} h text utf8 p x = record {
  back = deeper (omega arith) (step.function_step at name h (step.signature_step (params_back params p)) (step.shape_step x.back));
  fits = function_fits name params result text utf8 (params_scan params p) x.scan;
}

interface_given : {xs : List Sym} {of : Interface} {d : ℕ} → IsInterface xs of d → d ≤ max_depth → Formed xs → DeclaredGiven (declared.Interface (quoted_interface of))
interface_given {xs = xs} {of = of} q l f =
    let told = declared_same (declared.Interface of) in
    record {
      back = as_left {left = declared.Interface of} {other = declared.Interface (quoted_interface of)} (ap bare_declared (declared_twice (declared.Interface of)))
          (seen told refl (deeper l (interface_back (interface_read q (all_classed xs f)))));
      fits = fits_by told (interface_fits q f);
    }

alias_given : {xs : List Sym} {of : Alias} {d : ℕ} → IsAlias xs of d → d ≤ max_depth → Formed xs → DeclaredGiven (declared.Alias (quoted_alias of))
alias_given {xs = xs} {of = of} q l f =
    let told = declared_same (declared.Alias of) in
    record {
      back = as_left {left = declared.Alias of} {other = declared.Alias (quoted_alias of)} (ap bare_declared (declared_twice (declared.Alias of))) (seen told refl (deeper l (alias_back (alias_read q (all_classed xs f)))));
      fits = fits_by told (alias_fits q f);
    }

-- ---- classes

record MemberGiven (built : Bool) (of : DeclaredMember) : Type 0 where
  pub back : Back (IsDeclaredMember built) plain_declared_member (closed_pieces (declared_member_pieces of)) of max_depth
  pub scan : Sound off_numbers (declared_member_pieces of)

record MembersGiven (built : Bool) (of : List DeclaredMember) : Type 0 where
  pub back : Back (IsDeclaredMembers built) (map plain_declared_member) (flat_map closed_pieces (map declared_member_pieces of)) of max_depth
  pub scan : AllByRecursion (Sound off_numbers) (map declared_member_pieces of)

member_named : {kind : Word} (spelled : List ℕ) → kind ≡ word_of spelled → is_member_name kind ≡ true → is_member_name (word_of spelled) ≡ true
member_named spelled e h = sym (ap is_member_name e) ∙ h

member_given : {built : Bool} {xs : List Sym} {of : ClassMember} {d : ℕ} → grammar.IsClassMember true built xs of d → d ≤ max_depth → Formed xs → MemberGiven built (declared_member_of of)
member_given (grammar.field {is_static = is_static} {read_only = read_only} {optional = optional} kind spelled at i {xs = xs} {ys = ys} {zs = zs} {vs = vs} {us = us} {shape = shape} {given = given} s r h q a v) l f =
    let whole = front (xs ++ ys ++ word kind spelled at ∷ zs ++ vs ++ us) (Mark m.Semicolon i ∷ []) f in
    let typed = front (xs ++ ys ++ word kind spelled at ∷ zs ++ vs) us whole in
    let name = (back (xs ++ ys) (word kind spelled at ∷ zs) (front (xs ++ ys ++ word kind spelled at ∷ zs) vs typed)).0 in
    let x = declared_given at read_only shape given (annotation_ok a (omega (arith, l)) (back (xs ++ ys ++ word kind spelled at ∷ zs) vs typed)) (value_ok true v (back (xs ++ ys ++ word kind spelled at ∷ zs ++ vs) us whole)) in
    record {
      back = step.field_step at is_static read_only spelled optional (member_named spelled name.0 h) (step.shape_step x.back);
      scan = field_sound is_static read_only spelled optional (declared_type at read_only shape given) name.1 name.2 x.scan;
    }
member_given (grammar.constructor spelled at i j {xs = xs} {ys = ys} {params = params} q e) l f =
    let p = params_given true q (omega (arith, l)) (sides xs (Mark m.CloseParen j) ys f.1.1).0 in
    record { back = step.constructor_step at (step.signature_step (params_back (map declared_param params) p)); scan = constructor_sound (map declared_param params) (params_scan (map declared_param params) p) }
member_given (grammar.class_method {is_static = is_static} kind spelled at i j {xs = xs} {ys = ys} {zs = zs} {vs = vs} {params = params} {shape = shape} s h q a e) l f =
    let whole = front (xs ++ word kind spelled at ∷ Mark m.OpenParen i ∷ ys ++ Mark m.CloseParen j ∷ zs) vs f in
    let head = back xs (word kind spelled at ∷ Mark m.OpenParen i ∷ ys) (front (xs ++ word kind spelled at ∷ Mark m.OpenParen i ∷ ys) (Mark m.CloseParen j ∷ zs) whole) in
    let typed = (back (xs ++ word kind spelled at ∷ Mark m.OpenParen i ∷ ys) (Mark m.CloseParen j ∷ zs) whole).1 in
    let p = params_given true q (omega (arith, l)) head.1.1 in
    let x = annotated_given at shape (annotation_ok a (omega (arith, l)) typed) in
    let all = map declared_param params in
    record {
      back = deeper (omega arith) (step.method_step at is_static spelled (member_named spelled head.0.0 h) (step.signature_step (params_back all p)) (step.shape_step x.back));
      scan = method_sound is_static spelled all (annotated_type at shape) head.0.1 head.0.2 (params_scan all p) x.scan;
    }

members_given : {built : Bool} {xs : List Sym} {of : List ClassMember} {d : ℕ} → grammar.IsClassMembers true built xs of d → d ≤ max_depth → Formed xs → MembersGiven built (map declared_member_of of)
members_given grammar.no_class_members l f = record { back = deeper (omega arith) step.no_declared_step; scan = tt }
members_given (grammar.more_class_members {xs = xs} {ys = ys} q r h) l f =
    let x = member_given q (omega (arith, l)) (front xs ys f) in
    let y = members_given r (omega (arith, l)) (back xs ys f) in
    record { back = deeper (omega arith) (step.more_declared_step h x.back y.back); scan = (x.scan, y.scan) }

joined_quoted : {xs : List Sym} {of : List Base} → IsJoined IsBase xs of → map quoted_base of ≡ of
joined_quoted (last_joined (grammar.base spelled at h)) = refl
joined_quoted (more_joined comma (grammar.base spelled at h) r) = ap (λ v. record { at = at; name = spelled; arguments = [] } ∷ v) (joined_quoted r)

bases_quoted : {kind : Word} {xs : List Sym} {of : List Base} → IsBases kind xs of → map quoted_base of ≡ of
bases_quoted grammar.no_bases = refl
bases_quoted (grammar.some_bases spelled at q) = joined_quoted q

class_given : {xs : List Sym} {of : ClassDeclaration} {d : ℕ} → grammar.IsClass true xs of d → d ≤ max_depth → Formed xs → DeclaredGiven (declared.Class (declared_class of))
class_given (grammar.class {kind = kind} class_spelled class_at spelled at i j {xs = xs} {ys = ys} {bases = bases} {of = of} h q r) l f =
    let head = word w.Class class_spelled class_at ∷ word kind spelled at ∷ xs in
    let parts = sides head (Mark m.OpenBrace i) ys (front (head ++ Mark m.OpenBrace i ∷ ys) (Mark m.CloseBrace j ∷ []) f) in
    let x = members_given r l parts.1 in
    let members = map declared_member_of of in
    subst (λ v. DeclaredGiven (declared.Class (record { at = at; name = spelled; implements = v; members = members }))) (sym (bases_quoted q))
    (record {
      back = step.class_step at spelled (map declared_member_pieces members) (sym (ap is_type_name f.1.0.0) ∙ h) (implements_read q (all_classed xs parts.0.1.1)) x.back;
      fits = class_fits spelled bases members f.1.0.1 f.1.0.2 q parts.0.1.1 x.scan;
    })

-- ---- parts of declarations

abbrev PartGiven : Part → Type 0
PartGiven of = DeclaredGiven (declared_part of)

abbrev variable_of : VarKind → Declarator-F ArrowBody BlockItem Clause Expr ForStart Prop Stmt Block Declarator Function Param TemplateSpan Var → Declared
variable_of kind opened = declared.Variable opened.at kind opened.name (declared_type opened.at (is_const kind) opened.annotation opened.value)

declarator_given : {kind : VarKind} {xs : List Sym} {of : Declarator} {d : ℕ} → g.IsDeclarator true kind xs of d → d ≤ max_depth → Formed xs → PartGiven (VariablePart kind of)
declarator_given {kind = kind} (g.declarator spelled at {xs = xs} {ys = ys} {shape = shape} {given = given} h a v n) l f =
    let layer : Declarator-F ArrowBody BlockItem Clause Expr ForStart Prop Stmt Block Declarator Function Param TemplateSpan Var = record { at = at; name = spelled; annotation = shape; value = given } in
    subst DeclaredGiven (sym (ap (variable_of kind) (out-roll-Declarator layer)))
    (variable_given at kind spelled (named spelled f.0.0 h) f.0.1 f.0.2 (declared_given at (is_const kind) shape given (annotation_ok a (omega (arith, l)) (front xs ys f.1)) (value_ok true v (back xs ys f.1))))

declarators_given : {kind : VarKind} {xs : List Sym} {of : List Declarator} {d : ℕ} → g.IsDeclarators true kind xs of d → d ≤ max_depth → Formed xs → AllByRecursion PartGiven (map (VariablePart kind) of)
declarators_given (g.last_declarator q) l f = (declarator_given q l f, tt)
declarators_given (g.more_declarators comma {xs = xs} {ys = ys} q r) l f = let parts = sides xs (Mark m.Comma comma) ys f in (declarator_given q (omega (arith, l)) parts.0, declarators_given r (omega (arith, l)) parts.1)

abbrev function_of : Function-F ArrowBody BlockItem Clause Expr ForStart Prop Stmt Block Declarator Function Param TemplateSpan Var → Declared
function_of opened = declared.Function opened.at opened.name opened.variables (map declared_param opened.params) (annotated_type opened.at opened.result)

abbrev variables_of : Var-F ArrowBody BlockItem Clause Expr ForStart Prop Stmt Block Declarator Function Param TemplateSpan Var → List Part
variables_of opened = map (VariablePart opened.kind) opened.declarators

parts_given : {xs : List Sym} {of : Declaration} {d : ℕ} → grammar.IsDeclaration true xs of d → d ≤ max_depth → Formed xs → AllByRecursion PartGiven (parts_of of)
parts_given (grammar.var_declaration (g.var {kind = kind} spelled at i {xs = xs} {of = of} e q)) l f =
    let layer : Var-F ArrowBody BlockItem Clause Expr ForStart Prop Stmt Block Declarator Function Param TemplateSpan Var = record { kind = kind; declarators = of } in
    subst (AllByRecursion PartGiven) (sym (ap variables_of (out-roll-Var layer))) (declarators_given q l (front xs (Mark m.Semicolon i ∷ []) f.1))
parts_given (grammar.function_declaration (g.function function_spelled function_at spelled at i j {xs = xs} {ys = ys} {zs = zs} {params = params} {shape = shape} {of = of} h q a e)) l f =
    let layer : Function-F ArrowBody BlockItem Clause Expr ForStart Prop Stmt Block Declarator Function Param TemplateSpan Var = record { at = at; name = spelled; variables = []; params = params; result = shape; body = of } in
    let head = front (xs ++ Mark m.CloseParen j ∷ ys) zs f.1.1.1 in
    let parts = sides xs (Mark m.CloseParen j) ys head in (
      subst DeclaredGiven (sym (ap function_of (out-roll-Function layer)))
          (function_given at spelled (map declared_param params) (named spelled f.1.0.0 h) f.1.0.1 f.1.0.2 (params_given true q (omega (arith, l)) parts.0) (annotated_given at shape (annotation_ok a (omega (arith, l)) parts.1))),
      tt,
    )
parts_given (grammar.class_declaration q) l f = (class_given q l f, tt)
parts_given (grammar.interface_declaration q) l f = (interface_given q l f, tt)
parts_given (grammar.alias_declaration q) l f = (alias_given q l f, tt)

-- ---- items

all_both : {X : Type 0} (P : X → Type 0) (xs ys : List X) → AllByRecursion P xs → AllByRecursion P ys → AllByRecursion P (xs ++ ys)
all_both P [] ys h l = l
all_both P (x ∷ xs) ys h l = (h.0, all_both P xs ys h.1 l)

kept_by : {X : Type 0} (P : X → Type 0) (x : X) (rest : List X) (b : Bool) → P x → AllByRecursion P rest → AllByRecursion P (if b then x ∷ rest else rest)
kept_by P x rest true h l = (h, l)
kept_by P x rest false h l = l

some_kept : {X : Type 0} (P : X → Type 0) (test : X → Bool) (xs : List X) → AllByRecursion P xs → AllByRecursion P (filter test xs)
some_kept P test [] h = tt
some_kept P test (x ∷ xs) h = kept_by P x (filter test xs) (test x) h.0 (some_kept P test xs h.1)

one_kept : (of : SurfaceItem) (b : Bool) → ItemGiven of → AllByRecursion ItemGiven (if b then (of ∷ []) else [])
one_kept of true x = (x, tt)
one_kept of false x = tt

parts_kept : (known : Known) (exported : Bool) (all : List Part) → AllByRecursion PartGiven all → AllByRecursion ItemGiven (flat_map (surface_part known exported) all)
parts_kept known exported [] h = tt
parts_kept known exported (of ∷ all) h =
    all_both ItemGiven (surface_part known exported of) (flat_map (surface_part known exported) all)
    (one_kept (surface_item.Declaration exported (declared_part of)) (keeps_part known exported of) (declared_item exported (declared_part of) h.0)) (parts_kept known exported all h.1)

quoted_item : {of : SurfaceItem} → ItemGiven of → ItemGiven (quoted_surface_item of)
quoted_item {of = of} x = record {
  back = as_left {left = of ∷ []} {other = quoted_surface_item of ∷ []} (ap (λ v. bare_surface_item v ∷ []) (surface_item_twice of)) (seen (item_same of) refl x.back);
  fits = fits_by (item_same of) x.fits;
}

quoted_items : (all : List SurfaceItem) → AllByRecursion ItemGiven all → AllByRecursion ItemGiven (map quoted_surface_item all)
quoted_items [] h = tt
quoted_items (of ∷ all) h = (quoted_item h.0, quoted_items all h.1)

both_given : (all : List SurfaceItem) → AllByRecursion ItemBack all → AllByRecursion ItemFits all → AllByRecursion ItemGiven all
both_given [] h l = tt
both_given (of ∷ all) h l = (record { back = h.0; fits = l.0 }, both_given all h.1 l.1)

-- specs of an import, with what they import from
abbrev SpecScans : Spec → Type 0
SpecScans of = Sound off_numbers (typed_spec_pieces of)

mapped : (specs : List Spec) → AllByRecursion SpecScans specs → AllByRecursion (Sound off_numbers) (map typed_spec_pieces specs)
mapped [] h = tt
mapped (of ∷ specs) h = (h.0, mapped specs h.1)

unmapped : (specs : List Spec) → AllByRecursion (Sound off_numbers) (map typed_spec_pieces specs) → AllByRecursion SpecScans specs
unmapped [] h = tt
unmapped (of ∷ specs) h = (h.0, unmapped specs h.1)

imported : (at : ℕ) (typed : Bool) (specs : List Spec) (from_at : ℕ) (spelled : List ℕ) → AllByRecursion (SpecBack grammar.last_is_local typed) specs → AllByRecursion SpecScans specs → IsUtf8 spelled
    → AllByRecursion ItemGiven (import_with at typed specs (record { at = from_at; spelled = spelled }))
imported at typed [] from_at spelled h l u = tt
imported at typed (of ∷ rest) from_at spelled h l u = (
  record {
    back = deeper (omega arith) (step.import_item_step (step.import_list_step at typed (specs_back grammar.last_is_local typed (of ∷ rest) h) (step.from_step from_at (quoted spelled))));
    fits = import_list_fits at typed (of ∷ rest) from_at (quoted spelled) (mapped (of ∷ rest) l) (quoted_text spelled u).1;
  },
  tt,
)

import_given : (known : Known) {xs : List Sym} {of : Import} → grammar.IsImport xs of → Formed xs → AllByRecursion ItemGiven (surface_import known of)
import_given known (grammar.import_list {type_only = typed} spelled at i {xs = xs} {of = of} t (grammar.specs j k {xs = ys} q) (grammar.from from_spelled from_at name name_at)) f =
    let origin = word w.From from_spelled from_at ∷ Lex c.String name name_at ∷ [] in
    let braced = Mark m.OpenBrace j ∷ ys ++ Mark m.CloseBrace k ∷ [] in
    let whole = front (word w.Import spelled at ∷ xs ++ braced ++ origin) (Mark m.Semicolon i ∷ []) f in
    let inside = front ys (Mark m.CloseBrace k ∷ []) (back (word w.Import spelled at ∷ xs) braced (front (word w.Import spelled at ∷ xs ++ braced) origin whole)).1 in
    imported at typed (filter (keeps_spec known) of) name_at name
    (some_kept (SpecBack grammar.last_is_local typed) (keeps_spec known) of (each_spec q (all_classed ys inside))) (some_kept SpecScans (keeps_spec known) of (unmapped of (listed_scan q inside)))
    (back (word w.Import spelled at ∷ xs ++ braced) origin whole).1.0.1
import_given known (grammar.import_bare spelled at from_spelled from_at i) f = tt

item_given : (known : Known) {xs : List Sym} {of : Item} {d : ℕ} → grammar.IsItem true xs of d → d ≤ max_depth → Formed xs → AllByRecursion ItemGiven (surface_item_of known of)
item_given known (grammar.import_item q) l f = import_given known q f
item_given known {xs = xs} (grammar.export_list_item {of = of} q) l f =
    quoted_items (kept of) (both_given (kept of) (list_back q (all_classed xs f)) (kept_fits of (surfaces.is_spec of.specs || surfaces.is_origin of.from) (export_list_fits q f)))
item_given known (grammar.declaration_item {exported = exported} {xs = xs} {ys = ys} {of = of} e q) l f = parts_kept known exported (parts_of of) (parts_given q l (back xs ys f))
item_given known (grammar.stmt_item q) l f = tt

pub file_given : (known : Known) {xs : List Sym} {of : List Item} → ReadsAs DerivesItem xs of → Formed xs → AllByRecursion ItemGiven (flat_map (surface_item_of known) of)
file_given known no_items f = tt
file_given known (more_items {ys = ys} {of = of} {rest = rest} q r) f =
    let all = subst Formed q.whole f in
    let d = q.derives in
    all_both ItemGiven (surface_item_of known of) (flat_map (surface_item_of known) rest) (item_given known d.1 d.2 (front q.front ys all)) (file_given known r (back q.front ys all))

pub decl_given : {xs : List Sym} {of : List (List SurfaceItem)} → ReadsAs DerivesDeclItem xs of → Formed xs → AllByRecursion ItemGiven (all_of of)
decl_given no_items f = tt
decl_given (more_items {ys = ys} {of = of} {rest = rest} q r) f =
    let all = subst Formed q.whole f in
    let here = front q.front ys all in
    let d = q.derives in
    all_both ItemGiven of (all_of rest) (both_given of (item_read d.1 d.2 (all_classed q.front here)) (item_fits d.1 here)) (decl_given r (back q.front ys all))

pub backs_of : (all : List SurfaceItem) → AllByRecursion ItemGiven all → AllByRecursion ItemBack all
backs_of [] h = tt
backs_of (of ∷ all) h = let first = h.0 in (first.back, backs_of all h.1)

pub fits_of : (all : List SurfaceItem) → AllByRecursion ItemGiven all → AllByRecursion ItemFits all
fits_of [] h = tt
fits_of (of ∷ all) h = let first = h.0 in (first.fits, fits_of all h.1)
