-- Lists of parts that are read back, where a list may end: behind the last part nothing is laid out.
use Rattle.std.proofs.Common.{◌≡◌, ℕ, ◌+◌, ◌≤◌, max, Bool, true, false, ◌||◌, List, [], ◌∷◌, ◌++◌, map, None, refl, sym, ap, ◌∙◌, arith}
use Rattle.tb_tree.specs.declared.marks.Mark.TheVariants as m
use Rattle.tb_tree.specs.declared.words.Class.TheVariants as c
use Rattle.tb_tree.specs.declared.words.Template.TheVariants as part
use Rattle.tb_tree.specs.declared.exprs.Expr.{Expr}
use Rattle.tb_tree.specs.declared.exprs.VarKind.{VarKind}
use Rattle.tb_tree.specs.declared.exprs.Prop.{Prop}
use Rattle.tb_tree.specs.declared.exprs.Param.{Param, roll-Param}
use Rattle.tb_tree.specs.declared.exprs.Declarator.{Declarator}
use Rattle.tb_tree.specs.declared.exprs.TemplateSpan.{TemplateSpan, roll-TemplateSpan}
use Rattle.tb_tree.specs.Sym.{Sym}
use Rattle.tb_tree.specs.Words.{is_name, word_of}
use Rattle.tb_tree.specs.Bare.{bare_declarator, bare_expr, bare_param, bare_prop, bare_span}
use Rattle.tb_tree.specs.Exprs as g
use Rattle.tb_layout.specs.Pieces.{Piece, mark, space}
use Rattle.tb_layout.specs.Pieces as pieces
use Rattle.tb_layout.specs.Erase.{erased_declarator, erased_expr, erased_param, erased_prop, erased_span}
use Rattle.tb_layout.specs.Js.{laid_list, laid_spans, spans_pieces, template_pieces, object_pieces}
use Rattle.tb_layout.specs.Pieces.{listed}
use Rattle.tb_layout.specs.Steady.{ParamForm, are_params_steady, steady_param}
use Rattle.tb_layout.proofs.Erasing as erased
use Rattle.tb_layout.proofs.Written as written
use Rattle.tb_layout.proofs.Written.{js_declarator, js_expr, js_param, js_prop, js_span}
use Rattle.tb_emit_law.proofs.Symbols.{symbols_in}
use Rattle.tb_emit_law.proofs.Back.{Back, Where, deeper, seen}
use Rattle.tb_emit_law.proofs.ExprSteps as step
use Rattle.tb_emit_law.proofs.StmtSteps as stmts

-- ---- depths

pub left_of : (d e : ℕ) → d ≤ max d e
left_of d e = omega arith

pub below_one : (d e : ℕ) → d ≤ max d e + 1
below_one d e = omega arith

pub around_one : (d e f : ℕ) → max d f + 1 ≤ max d (max e f) + 1
around_one d e f = omega arith

pub around : (d e f : ℕ) → max d f ≤ max d (max e f)
around d e f = omega arith

pub behind : (d e : ℕ) → e ≤ max d e
behind d e = omega arith

-- ---- lists with commas

pub exprs_more : {o : Bool} (n : ℕ) (of : Expr) (rest : List Expr) {d e : ℕ} → Back (g.IsExpr o true) bare_expr (js_expr of n) (erased_expr of) d
    → Back (g.IsExprs o) (map bare_expr) (laid_list n (map js_expr rest)) (map erased_expr rest) e
    → Back (g.IsExprs o) (map bare_expr) (laid_list n (map js_expr (of ∷ rest))) (map erased_expr (of ∷ rest)) (max d e)
exprs_more n of [] {d = d} {e = e} x y = deeper (left_of d e) (stmts.last_expr_step x)
exprs_more n of (next ∷ rest) x y = stmts.more_exprs_step x y

pub props_more : {o : Bool} (n : ℕ) (of : Prop) (rest : List Prop) {d e : ℕ} → Back (g.IsProp o) bare_prop (js_prop of n) (erased_prop of) d
    → Back (g.IsProps o) (map bare_prop) (laid_list n (map js_prop rest)) (map erased_prop rest) e
    → Back (g.IsProps o) (map bare_prop) (laid_list n (map js_prop (of ∷ rest))) (map erased_prop (of ∷ rest)) (max d e)
props_more n of [] {d = d} {e = e} x y = deeper (left_of d e) (stmts.last_prop_step x)
props_more n of (next ∷ rest) x y = stmts.more_props_step x y

is_some : {X : Type 0} → List X → Bool
is_some [] = false
is_some (x ∷ xs) = true

declarators_some : {kind : VarKind} {o : Bool} {xs : List Sym} {of : List Declarator} {d : ℕ} → g.IsDeclarators o kind xs of d → is_some of ≡ true
unfolding is_some
declarators_some (g.last_declarator q) = refl
declarators_some (g.more_declarators comma q r) = refl

pub declarators_more : {o a : Bool} {kind : VarKind} (n : ℕ) (of : Declarator) (rest : List Declarator) {d e f : ℕ} {xs : List Sym} → g.IsDeclarators a kind xs rest f → Back (g.IsDeclarator o kind) bare_declarator (js_declarator of n) (erased_declarator of) d
    → Back (g.IsDeclarators o kind) (map bare_declarator) (laid_list n (map js_declarator rest)) (map erased_declarator rest) e
    → Back (g.IsDeclarators o kind) (map bare_declarator) (laid_list n (map js_declarator (of ∷ rest))) (map erased_declarator (of ∷ rest)) (max d e)
unfolding is_some
declarators_more n of [] q x y = let h = declarators_some q in absurd (cc h)
declarators_more n of (next ∷ rest) q x y = stmts.more_declarators_step x y

-- ---- parameters

pub follow_first : (o given : Bool) → g.may_follow o false given ≡ true
follow_first true given = refl
follow_first false given = refl

follow_steady : (o v after optional valued inner : Bool) (rest : List ParamForm) → (v ≡ true → after ≡ true) → g.may_follow true after (optional || valued) ≡ true
    → Where o (are_params_steady v (record { optional = optional; valued = valued; steady = inner } ∷ rest)) → g.may_follow o v valued ≡ true
follow_steady false v after optional valued inner rest h e t = refl
follow_steady true false after optional valued inner rest h e t = refl
follow_steady true true after optional true inner rest h e t = refl
follow_steady true true false optional false inner rest h e t = let p = h refl in absurd (cc p)
follow_steady true true true true false inner rest h e t = let p = t refl in absurd (cc p)
follow_steady true true true false false inner rest h e t = absurd (cc e)

later_valued : (v after optional valued : Bool) → (v ≡ true → after ≡ true) → (v || valued) ≡ true → (after || (optional || valued)) ≡ true
later_valued v true optional valued h e = refl
later_valued v false true valued h e = refl
later_valued v false false true h e = refl
later_valued true false false false h e = h e
later_valued false false false false h e = e

steady_first : (o v optional valued inner : Bool) (rest : List ParamForm) → Where o (are_params_steady v (record { optional = optional; valued = valued; steady = inner } ∷ rest)) → Where o inner
steady_first o true true valued inner rest t = λ p. let h = t p in absurd (cc h)
steady_first o false optional valued true rest t = λ p. refl
steady_first o false optional valued false rest t = λ p. let h = t p in absurd (cc h)
steady_first o true false valued true rest t = λ p. refl
steady_first o true false valued false rest t = λ p. let h = t p in absurd (cc h)

steady_later : (o v optional valued inner : Bool) (rest : List ParamForm) → Where o (are_params_steady v (record { optional = optional; valued = valued; steady = inner } ∷ rest)) → Where o (are_params_steady (v || valued) rest)
steady_later o true true valued inner rest t = λ p. let h = t p in absurd (cc h)
steady_later o false optional valued true rest t = t
steady_later o false optional valued false rest t = λ p. let h = t p in absurd (cc h)
steady_later o true false valued true rest t = t
steady_later o true false valued false rest t = λ p. let h = t p in absurd (cc h)

-- what is known of a parameter of a source
pub record ParamBack (o given : Bool) (of : Param) (n d : ℕ) : Type 0 where
  pub optional : Bool
  pub valued : Bool
  pub inner : Bool
  pub given_is : given ≡ (optional || valued)
  pub form : steady_param of ≡ record { optional = optional; valued = valued; steady = inner }
  pub back : Where o inner → Back (g.IsParam o valued) bare_param (js_param of n) (erased_param of) d

pub params_last : {o given after : Bool} {of : Param} {n d : ℕ} (v : Bool) → (v ≡ true → after ≡ true) → g.may_follow true after given ≡ true → ParamBack o given of n d
    → Where o (are_params_steady v (map steady_param (of ∷ []))) → Back (g.IsParams o v) (map bare_param) (laid_list n (map js_param (of ∷ []))) (map erased_param (of ∷ [])) d
params_last {o = o} {after = after} v h e r t =
    let u : Where o (are_params_steady v (record { optional = r.optional; valued = r.valued; steady = r.inner } ∷ [])) = λ p. sym (ap (λ f. are_params_steady v (f ∷ [])) r.form) ∙ t p in
    stmts.last_param_step v (follow_steady o v after r.optional r.valued r.inner [] h (ap (λ b. g.may_follow true after b) (sym r.given_is) ∙ e) u) (r.back (steady_first o v r.optional r.valued r.inner [] u))

abbrev steady_params : List Param → List ParamForm
steady_params all = map steady_param all

params_more_by : {o given : Bool} {d e : ℕ} (n : ℕ) (v : Bool) (of : Param) (rest : List Param) → g.may_follow o v given ≡ true → Back (g.IsParam o given) bare_param (js_param of n) (erased_param of) d
    → Back (g.IsParams o (v || given)) (map bare_param) (laid_list n (map js_param rest)) (map erased_param rest) e
    → Back (g.IsParams o v) (map bare_param) (laid_list n (map js_param (of ∷ rest))) (map erased_param (of ∷ rest)) (max d e)
params_more_by {d = d} {e = e} n v of [] h x y = deeper (left_of d e) (stmts.last_param_step v h x)
params_more_by n v of (next ∷ rest) h x y = stmts.more_params_step v h x y

pub params_more : {o given after : Bool} {of : Param} {n d e : ℕ} (v : Bool) (rest : List Param) → (v ≡ true → after ≡ true) → g.may_follow true after given ≡ true → ParamBack o given of n d
    → Where o (are_params_steady v (map steady_param (of ∷ rest)))
    → ((u : Bool) → (u ≡ true → (after || given) ≡ true) → Where o (are_params_steady u (map steady_param rest)) → Back (g.IsParams o u) (map bare_param) (laid_list n (map js_param rest)) (map erased_param rest) e)
    → Back (g.IsParams o v) (map bare_param) (laid_list n (map js_param (of ∷ rest))) (map erased_param (of ∷ rest)) (max d e)
params_more {o = o} {given = given} {after = after} {of = of} {n = n} v rest h e r t later =
    let u : Where o (are_params_steady v (record { optional = r.optional; valued = r.valued; steady = r.inner } ∷ map steady_param rest)) = λ p. sym (ap (λ f. are_params_steady v (f ∷ map steady_param rest)) r.form) ∙ t p in
    params_more_by n v of rest (follow_steady o v after r.optional r.valued r.inner (map steady_param rest) h (ap (λ b. g.may_follow true after b) (sym r.given_is) ∙ e) u)
    (r.back (steady_first o v r.optional r.valued r.inner (map steady_param rest) u))
    (later (v || r.valued) (λ p. ap (λ b. after || b) r.given_is ∙ later_valued v after r.optional r.valued h p) (steady_later o v r.optional r.valued r.inner (map steady_param rest) u))

-- a name alone
pub name_param : {o : Bool} (at : ℕ) (spelled : List ℕ) (n : ℕ) → is_name (word_of spelled) ≡ true
    → Back (g.IsParam o false) bare_param (js_param (roll-Param (record { at = at; name = spelled; optional = false; annotation = None; value = None })) n) (erased_param (roll-Param (record { at = at; name = spelled; optional = false; annotation = None; value = None }))) 0
name_param at spelled n h = seen (written.param_rolled _ n) (erased.param_rolled _) (stmts.param_step at spelled h stmts.no_value_step)

-- ---- templates

spans_some : {o : Bool} {xs : List Sym} {of : List TemplateSpan} {d : ℕ} → g.IsSpans o xs of d → is_some of ≡ true
unfolding is_some
spans_some (g.last_span spelled at q) = refl
spans_some (g.more_spans spelled at q r) = refl

pub spans_last : {o : Bool} {d : ℕ} (n : ℕ) (of : Expr) (spelled : List ℕ) → Back (g.IsExpr o true) bare_expr (js_expr of n) (erased_expr of) d
    → Back (g.IsSpans o) (map bare_span) (spans_pieces (laid_spans n (map js_span (roll-TemplateSpan (record { value = of; text = spelled }) ∷ [])))) (map erased_span (roll-TemplateSpan (record { value = of; text = spelled }) ∷ [])) d
spans_last n of spelled x = seen (ap (λ v. spans_pieces (v ∷ [])) (written.span_rolled _ n)) (ap (λ v. v ∷ []) (erased.span_rolled _)) (step.last_span_step spelled x)

pub spans_more : {o a : Bool} {d e f : ℕ} {xs : List Sym} (n : ℕ) (of : Expr) (spelled : List ℕ) (rest : List TemplateSpan) → g.IsSpans a xs rest f → Back (g.IsExpr o true) bare_expr (js_expr of n) (erased_expr of) d
    → Back (g.IsSpans o) (map bare_span) (spans_pieces (laid_spans n (map js_span rest))) (map erased_span rest) e
    → Back (g.IsSpans o) (map bare_span) (spans_pieces (laid_spans n (map js_span (roll-TemplateSpan (record { value = of; text = spelled }) ∷ rest)))) (map erased_span (roll-TemplateSpan (record { value = of; text = spelled }) ∷ rest)) (max d e)
unfolding is_some
spans_more n of spelled [] q x y = let h = spans_some q in absurd (cc h)
spans_more n of spelled (next ∷ rest) q x y =
    seen (ap (λ v. spans_pieces (v ∷ laid_spans n (map js_span (next ∷ rest)))) (written.span_rolled _ n)) (ap (λ v. v ∷ map erased_span (next ∷ rest)) (erased.span_rolled _)) (step.more_spans_step spelled x y)

pub template_told : {a : Bool} {xs : List Sym} {f : ℕ} (n : ℕ) (head : List ℕ) (spans : List TemplateSpan) → g.IsSpans a xs spans f
    → template_pieces head (laid_spans n (map js_span spans)) ≡ pieces.Lex (c.Template part.Head) head ∷ spans_pieces (laid_spans n (map js_span spans))
unfolding is_some
template_told n head [] q = let h = spans_some q in absurd (cc h)
template_told n head (of ∷ rest) q = refl

-- ---- objects

pub object_told : (all : List (List Piece)) → symbols_in (object_pieces all) ≡ symbols_in (mark m.OpenBrace ++ space ++ listed all ++ space ++ mark m.CloseBrace)
object_told [] = refl
object_told (of ∷ rest) = refl
