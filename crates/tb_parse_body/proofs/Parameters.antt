-- Parameters, and lists of them in which each that follows one with `?` or `=` has one too.
use Rattle.std.proofs.Common.{◌≡◌, ℕ, ◌≤◌, ◌<◌, max, Bool, true, false, List, [], ◌∷◌, ◌++◌, length, refl, sym, ◌∙◌, ap, subst, inl, inr, arith, append_assoc, length-append, append-nil}
use Rattle.std.specs.Prelude.{Option, Some, None, ◌||◌}
use Rattle.tb_tree.specs.declared.marks.Mark.TheVariants as m
use Rattle.tb_tree.specs.declared.words.Word.{Word}
use Rattle.tb_tree.specs.declared.words.Class.TheVariants as c
use Rattle.tb_tree.specs.declared.types.TypeExpr.{TypeExpr}
use Rattle.tb_tree.specs.declared.exprs.Expr.{Expr}
use Rattle.tb_tree.specs.declared.exprs.Param.{Param, roll-Param}
use Rattle.tb_tree.specs.Sym.{Sym, Mark, Lex}
use Rattle.tb_tree.specs.Words.{is_name}
use Rattle.tb_tree.specs.Longest.{Found, Lacks, Ends, Starts, Never}
use Rattle.tb_tree.specs.Shapes.{word, IsMarked, unmarked, marked}
use Rattle.tb_tree.specs.Types.{shape}
use Rattle.tb_tree.specs.Exprs.{may_follow, has_value, IsAnnotation, no_annotation, some_annotation, IsValue, no_value, some_value, IsParam, param, IsParams, no_params, last_param, more_params}
use Rattle.tb_tree.proofs.Ends.{exact, shorter, starts_by, both, ap_both, found_left}
use Rattle.tb_parse_body.specs.Given.{GivenUpto, FollowingUpto}
use Rattle.tb_parse_body.specs.Rules.{Deep, AnnotationUpto, ValueUpto, DefaultUpto, ParamUpto, ParamsUpto, SignatureUpto, InAnnotation, InExpr, InQuestion, InList}
use Rattle.tb_parse_body.proofs.Sequences.{ThenBy, Passes, IsBack, then_found, found_by, lacks_by, Delimited, in_delimiters, delimited, delimited_lacks_close}

-- ---- how the parts of a declaration go on

pub question_in_expr : (s : Sym) → InQuestion s → InExpr true s
question_in_expr (Mark m.Question o) h = refl
question_in_expr (Mark _ o) h = let n : false ≡ true = h in cc
question_in_expr (Lex k w o) h = let n : false ≡ true = h in cc

pub annotation_in_expr : (s : Sym) → InAnnotation s → InExpr true s
annotation_in_expr (Mark m.CloseParen o) h = let n : false ≡ true = h in cc
annotation_in_expr (Mark m.CloseBracket o) h = let n : false ≡ true = h in cc
annotation_in_expr (Mark m.CloseBrace o) h = let n : false ≡ true = h in cc
annotation_in_expr (Mark m.Comma o) h = let n : false ≡ true = h in cc
annotation_in_expr (Mark m.Semicolon o) h = let n : false ≡ true = h in cc
annotation_in_expr (Mark _ o) h = refl
annotation_in_expr (Lex (c.Template p) w o) h = let n : false ≡ true = h in cc
annotation_in_expr (Lex _ w o) h = refl

pub expr_in_list : (s : Sym) → InExpr true s → InList s
expr_in_list (Mark m.CloseParen o) h = let n : true ≡ false = h in cc
expr_in_list (Mark m.CloseBracket o) h = let n : true ≡ false = h in cc
expr_in_list (Mark m.CloseBrace o) h = let n : true ≡ false = h in cc
expr_in_list (Mark _ o) h = refl
expr_in_list (Lex _ w o) h = refl

pub widened : {C F : Sym → Type 0} (zs : List Sym) → ((s : Sym) → C s → F s) → Starts C zs → Starts F zs
widened [] h n = n
widened (s ∷ zs) h c = h s c

-- a value that may be left out begins with `=`
pub value_passes : (C F : Sym → Type 0) {b : List Sym} {u : Option Expr} {e : ℕ} (us : List Sym) → IsValue true b u e → ((o : ℕ) → C (Mark m.Assign o) → ⊥) → ((s : Sym) → C s → F s)
    → Starts C (b ++ us) → (length (b ++ us) ≤ length us) × Starts F us
value_passes C F us no_value h k s = (omega arith, widened us k s)
value_passes C F us (some_value o q) h k s = absurd (h o s)

-- and an annotation with `:`
annotated_passes : {b d : List Sym} {u : Option TypeExpr} {v : Option Expr} {e f : ℕ} (us : List Sym) → IsAnnotation b u e → IsValue true d v f → Starts InQuestion ((b ++ d) ++ us)
    → (length ((b ++ d) ++ us) ≤ length us) × Starts (InExpr true) us
annotated_passes us no_annotation v s = value_passes InQuestion (InExpr true) us v (λ o h. let n : false ≡ true = h in cc) question_in_expr s
annotated_passes us (some_annotation (shape o t h)) v s = let n : false ≡ true = s in cc

pub no_annotation_assign : (o : ℕ) → InAnnotation (Mark m.Assign o) → ⊥
no_annotation_assign o h = let n : false ≡ true = h in cc

-- ---- a parameter

abbrev pub param_of : ℕ → List ℕ → Bool → Option TypeExpr → Option Expr → Param
param_of at name optional annotation value = roll-Param (record { at = at; name = name; optional = optional; annotation = annotation; value = value })

-- what follows the name
abbrev Parts : Type 0
Parts = Bool × (Deep (Option TypeExpr) × Deep (Option Expr))

abbrev Annotated : ℕ → Bool → List Sym → Deep (Option TypeExpr) × Deep (Option Expr) → Type 0
Annotated n optional = ThenBy (AnnotationUpto n) (λ a. DefaultUpto optional n)

abbrev Signed : ℕ → List Sym → Parts → Type 0
Signed n = ThenBy (IsMarked m.Question) (Annotated n)

abbrev made : ℕ → List ℕ → Parts → Deep (Param × Bool)
made o s r = ((param_of o s r.0 r.1.0.0 r.1.1.0, r.0 || has_value r.1.1.0), max r.1.0.1 r.1.1.1)

default_passes : (n : ℕ) (optional : Bool) → Passes {X = Deep (Option TypeExpr)} InAnnotation (InExpr true) (λ a. DefaultUpto optional n)
default_passes n optional x b y us d s = value_passes InAnnotation (InExpr true) us d.0 no_annotation_assign annotation_in_expr s

signed_passes : (n : ℕ) → Passes InQuestion (InExpr true) (Annotated n)
signed_passes n x b y us d s =
    let p = annotated_passes us d.3.0 d.4.0 (subst (λ v. Starts InQuestion (v ++ us)) d.2 s) in
    (omega (arith, p.0, ap (λ v. length (v ++ us)) d.2), p.1)

param_forth : (n : ℕ) (k : Word) (s : List ℕ) (o : ℕ) (a : List Sym) (r : Parts) → is_name k ≡ true → Signed n a r → ParamUpto n (word k s o ∷ a) (made o s r)
param_forth n k s o a r i d =
    let q = d.4 in
    let e : a ≡ d.0 ++ q.0 ++ q.1 = d.2 ∙ ap (λ v. d.0 ++ v) q.2 ∙ sym (append_assoc d.0 q.0 q.1) in
    let p = param s o i d.3 q.3.0 q.4.0 q.4.1 in
    (subst (λ v. IsParam true (r.0 || has_value r.1.1.0) (word k s o ∷ v) (param_of o s r.0 r.1.0.0 r.1.1.0) (max r.1.0.1 r.1.1.1)) (sym e) p, omega (arith, q.3.1, q.4.2))

param_back : {a : List Sym} {u : Param} {given : Bool} {e : ℕ} (n : ℕ) (k : Word) (s : List ℕ) (o : ℕ) (xs us : List Sym) → IsParam true given a u e → e ≤ n → word k s o ∷ xs ≡ a ++ us
    → (b : List Sym) × (r : Parts) × Signed n b r × (xs ≡ b ++ us) × (made o s r ≡ ((u, given), e))
param_back n k s o xs us (param {kind = k'} {optional = optional} z p {xs = b} {ys = y} {zs = v} {shape = t} {default = g} {d = d} {e = e} i q ann val both_not) fit w =
    let behind : xs ≡ b ++ y ++ v ++ us = cc in
    let place : o ≡ p = cc in
    let name : s ≡ z = cc in
    let first : d ≤ n = omega (arith, fit) in
    let second : e ≤ n = omega (arith, fit) in (
      b ++ y ++ v,
      (optional, ((t, d), (g, e))),
      (b, y ++ v, append_assoc b y v, q, (y, v, refl, (ann, first), (val, both_not, second))),
      behind,
      ap (λ (x : ℕ). made x s (optional, ((t, d), (g, e)))) place ∙ ap (λ (x : List ℕ). made p x (optional, ((t, d), (g, e)))) name,
    )

signed_found : {optional : Bool} {a : Deep (Option TypeExpr)} {v : Deep (Option Expr)} {xs ys zs us : List Sym} (n : ℕ) → Found (IsMarked m.Question) InQuestion xs optional ys
    → Found (AnnotationUpto n) InAnnotation ys a zs → Found (DefaultUpto optional n) (InExpr true) zs v us → Found (Signed n) (InExpr true) xs (optional, (a, v)) us
signed_found {optional = optional} n f g h = then_found (signed_passes n) f (then_found (default_passes n optional) g h)

pub param_found : {optional : Bool} {a : Deep (Option TypeExpr)} {v : Deep (Option Expr)} {xs ys zs us : List Sym} (n : ℕ) (k : Word) (s : List ℕ) (o : ℕ) → is_name k ≡ true
    → Found (IsMarked m.Question) InQuestion xs optional ys → Found (AnnotationUpto n) InAnnotation ys a zs → Found (DefaultUpto optional n) (InExpr true) zs v us
    → Found (ParamUpto n) (InExpr true) (word k s o ∷ xs) ((param_of o s optional a.0 v.0, optional || has_value v.0), max a.1 v.1) us
param_found {optional = optional} {a = a} {v = v} {xs = xs} {us = us} n k s o i f g h = record {
  front = word k s o ∷ all.front;
  whole = ap (λ v. word k s o ∷ v) all.whole;
  derives = param_forth n k s o all.front (optional, (a, v)) i all.derives;
  longest = λ a y us d w. go us d.0 d.1 w;
}
  where
    all : Found (Signed n) (InExpr true) xs (optional, (a, v)) us
    all = signed_found n f g h

    go : {b : List Sym} {u : Param} {given : Bool} {e : ℕ} (zs : List Sym) → IsParam true given b u e → e ≤ n → word k s o ∷ xs ≡ b ++ zs
        → Ends {X = Deep (Param × Bool)} (InExpr true) (made o s (optional, (a, v))) us ((u, given), e) zs
    go zs q fit w =
        let b = param_back n k s o xs zs q fit w in
        elim (all.longest b.0 b.1 zs b.2 b.3) [
          | inl e ↦ inl (ap (λ (x : Parts). made o s x) e.0 ∙ b.4, e.1)
          | inr e ↦ inr e
        ]

pub same_param : {at at' : ℕ} {name name' : List ℕ} {given given' : Bool} {d d' : ℕ} (optional : Bool) (t : Option TypeExpr) (v : Option Expr) → at ≡ at' → name ≡ name' → given ≡ given' → d ≡ d'
    → ◌≡◌ {A = Deep (Param × Bool)} ((param_of at name optional t v, given), d) ((param_of at' name' optional t v, given'), d')
same_param optional t v p q r s = both (both (ap_both (λ (x : ℕ) (y : List ℕ). param_of x y optional t v) p q) r) s

pub param_lacks_name : (n : ℕ) (xs : List Sym) → ((k : Word) (s : List ℕ) (o : ℕ) → is_name k ≡ true → (zs : List Sym) → xs ≡ word k s o ∷ zs → ⊥) → Lacks (ParamUpto n) xs
param_lacks_name n xs h = record { none = λ a y us d w. go us d.0 w }
  where
    go : {a : List Sym} {u : Param} {given : Bool} {e : ℕ} (us : List Sym) → IsParam true given a u e → xs ≡ a ++ us → ⊥
    go us (param {kind = k} s o {xs = b} {ys = y} {zs = v} i q ann val both_not) w = h k s o i (b ++ y ++ v ++ us) w

-- ---- where the longest reading has no value

-- no shorter annotation is followed by one either
pub unvalued : {a : Deep (Option TypeExpr)} {v : Deep (Option Expr)} {ys zs us : List Sym} (n : ℕ) → has_value v.0 ≡ false → Found (AnnotationUpto n) InAnnotation ys a zs
    → Found (ValueUpto n) (InExpr true) zs v us → {b c : List Sym} {t : Option TypeExpr} {x : Option Expr} {d e : ℕ} (ws : List Sym) → IsAnnotation b t d → d ≤ n → IsValue true c x e → e ≤ n
    → has_value x ≡ true → ys ≡ b ++ (c ++ ws) → ⊥
unvalued {v = v} {ys = ys} {zs = zs} {us = us} n none f g {b = b} {t = t} {d = d} ws ann i val j h w = go val j h w
  where
    here : {u : Option Expr} {k : ℕ} {c : List Sym} → IsValue true c u k → has_value u ≡ false → zs ≡ c ++ us → zs ≡ us
    here no_value e w = w
    here (some_value p q) e w = let n : true ≡ false = e in absurd (cc)

    stays : zs ≡ us
    stays = here g.derives.0 none g.whole

    go : {c : List Sym} {x : Option Expr} {e : ℕ} → IsValue true c x e → e ≤ n → has_value x ≡ true → ys ≡ b ++ (c ++ ws) → ⊥
    go no_value j h w = let n : false ≡ true = h in cc
    go {x = x} {e = e} (some_value p {xs = c} q) j h w =
        let k = exact f b (t, d) (Mark m.Assign p ∷ c ++ ws) (ann, i) w (no_annotation_assign p) in
        elim (g.longest (Mark m.Assign p ∷ c) (x, e) ws (some_value p q, j) k.1) [
          | inl o ↦ let n : false ≡ true = sym none ∙ ap (λ (r : Deep (Option Expr)). has_value r.0) o.0 in cc
          | inr o ↦ omega (arith, o.0, ap length (sym stays ∙ k.1), length-append c ws)
        ]

value_of_default : {v : Deep (Option Expr)} {zs us : List Sym} (n : ℕ) → Found (DefaultUpto false n) (InExpr true) zs v us → Found (ValueUpto n) (InExpr true) zs v us
value_of_default n f = found_by (λ (x : Deep (Option Expr)). x) (λ a w d. (d.0, d.2)) (λ a u us d w. (u, (d.0, refl, d.1), refl)) f

no_question_given : {b c : List Sym} {t : Option TypeExpr} {x : Option Expr} {d e : ℕ} (us : List Sym) → IsAnnotation b t d → IsValue true c x e → has_value x ≡ true → Starts InQuestion (b ++ (c ++ us)) → ⊥
no_question_given us no_annotation no_value h s = let n : false ≡ true = h in cc
no_question_given us no_annotation (some_value p q) h s = let n : false ≡ true = s in cc
no_question_given us (some_annotation (shape o t i)) v h s = let n : false ≡ true = s in cc

plain_alone : {a : Deep (Option TypeExpr)} {v : Deep (Option Expr)} {xs ys zs us : List Sym} (n : ℕ) (k : Word) (s : List ℕ) (o : ℕ) → has_value v.0 ≡ false
    → Found (IsMarked m.Question) InQuestion xs false ys → Found (AnnotationUpto n) InAnnotation ys a zs → Found (DefaultUpto false n) (InExpr true) zs v us → Lacks (GivenUpto n) (word k s o ∷ xs)
plain_alone {xs = xs} {ys = ys} n k s o none f g h = record { none = λ a y us d w. go us d.0 refl d.1 w }
  where
    here : {c : List Sym} {b : Bool} → IsMarked m.Question c b → b ≡ false → xs ≡ c ++ ys → xs ≡ ys
    here unmarked e w = w
    here (marked p) e w = let n : true ≡ false = e in absurd (cc)

    stays : xs ≡ ys
    stays = here f.derives refl f.whole

    signed : {x y v : List Sym} {optional : Bool} {t : Option TypeExpr} {g' : Option Expr} {d e : ℕ} (us : List Sym) → IsMarked m.Question x optional → IsAnnotation y t d → d ≤ n → IsValue true v g' e → e ≤ n
        → (optional || has_value g') ≡ true → xs ≡ x ++ (y ++ (v ++ us)) → ⊥
    signed {y = y} {v = v} us unmarked ann i val j e w = elim (f.longest [] false (y ++ (v ++ us)) unmarked w) [
      | inl p ↦ unvalued n none g (value_of_default n h) us ann i val j e p.1
      | inr p ↦ no_question_given us ann val e p.1
    ]
    signed {y = y} {v = v} us (marked p) ann i val j e w = elim (f.longest (Mark m.Question p ∷ []) true (y ++ (v ++ us)) (marked p) w) [
      | inl q ↦ let n : false ≡ true = q.0 in cc
      | inr q ↦ omega (arith, q.0, ap length (sym stays ∙ w))
    ]

    go : {a : List Sym} {u : Param} {given : Bool} {e : ℕ} (us : List Sym) → IsParam true given a u e → given ≡ true → e ≤ n → word k s o ∷ xs ≡ a ++ us → ⊥
    go us (param z p {xs = b} {ys = y} {zs = v} {d = d} {e = e} i q ann val both_not) t fit w =
        let behind : xs ≡ b ++ y ++ v ++ us = cc in
        let first : d ≤ n = omega (arith, fit) in
        let second : e ≤ n = omega (arith, fit) in
        signed us q ann first val second t (behind ∙ append_assoc (b ++ y) v us ∙ append_assoc b y (v ++ us))

pub given_alone : {optional : Bool} {a : Deep (Option TypeExpr)} {v : Deep (Option Expr)} {xs ys zs us : List Sym} (n : ℕ) (k : Word) (s : List ℕ) (o : ℕ) → (optional || has_value v.0) ≡ false
    → Found (IsMarked m.Question) InQuestion xs optional ys → Found (AnnotationUpto n) InAnnotation ys a zs → Found (DefaultUpto optional n) (InExpr true) zs v us → Lacks (GivenUpto n) (word k s o ∷ xs)
given_alone {optional = true} n k s o e f g h = let n : true ≡ false = e in absurd (cc)
given_alone {optional = false} n k s o e f g h = plain_alone n k s o e f g h

-- ---- lists of parameters

-- a parameter that may follow others

pub following_found : {x : Deep (Param × Bool)} {xs ys : List Sym} (after : Bool) (n : ℕ) → may_follow true after x.0.1 ≡ true → Found (ParamUpto n) (InExpr true) xs x ys
    → Found (FollowingUpto after n) (InExpr true) xs x ys
following_found after n may f = record {
  front = f.front;
  whole = f.whole;
  derives = (f.derives.0, may, f.derives.1);
  longest = λ a y us d w. f.longest a y us (d.0, d.2) w;
}

pub following_lacks : {xs : List Sym} (after : Bool) (n : ℕ) → Lacks (ParamUpto n) xs → Lacks (FollowingUpto after n) xs
following_lacks after n f = record { none = λ a y us d w. f.none a y us (d.0, d.2) w }

pub following_lacks_given : {xs : List Sym} (after given : Bool) (n : ℕ) → may_follow true after given ≡ false → (given ≡ false → Lacks (GivenUpto n) xs) → Lacks (FollowingUpto after n) xs
following_lacks_given true true n refused f = let same : true ≡ false = refused in absurd (cc)
following_lacks_given {xs = xs} true false n refused f = record { none = λ a y us d w. go us d.0 d.1 d.2 w }
  where
    go : {a : List Sym} {u : Param} {given : Bool} {e : ℕ} (us : List Sym) → IsParam true given a u e → may_follow true true given ≡ true → e ≤ n → xs ≡ a ++ us → ⊥
    go {a = a} {u = u} {given = true} {e = e} us q m i w = (f refl).none a (u, e) us (q, i) w
    go {given = false} us q m i w = let same : false ≡ true = m in cc
following_lacks_given false given n refused f = let same : true ≡ false = refused in absurd (cc)

-- where no parameter may stand
pub params_stop : (after : Bool) (n : ℕ) (xs : List Sym) → Lacks (FollowingUpto after n) xs → Found (ParamsUpto after n) InList xs ([], 0) xs
params_stop after n xs h = record {
  front = [];
  whole = refl;
  derives = (no_params, omega arith);
  longest = λ a y us d w. go us d.0 d.1 w;
}
  where
    go : {a : List Sym} {u : List Param} {e : ℕ} (us : List Sym) → IsParams true after a u e → e ≤ n → xs ≡ a ++ us → Ends {X = Deep (List Param)} InList ([], 0) xs (u, e) us
    go us no_params i w = inl (refl, w)
    go {a = a} {e = e} us (last_param {given = given} {of = of} q f) i w = absurd (h.none a ((of, given), e) us (q, f, i) w)
    go us (more_params {given = given} comma {xs = a} {ys = b} {of = of} {d = d} q f r) i w =
        absurd (h.none a ((of, given), d) (Mark m.Comma comma ∷ b ++ us) (q, f, omega (arith, i)) (w ∙ append_assoc a (Mark m.Comma comma ∷ b) us))

param_long : {a : List Sym} {u : Param} {given : Bool} {e : ℕ} → IsParam true given a u e → 1 ≤ length a
param_long (param z p i q ann val both_not) = omega arith

param_starts : {a : List Sym} {u : Param} {given : Bool} {e : ℕ} (us : List Sym) → IsParam true given a u e → Starts InList (a ++ us)
param_starts us (param z p i q ann val both_not) = refl

no_expr_comma : (o : ℕ) → InExpr true (Mark m.Comma o) → ⊥
no_expr_comma o h = let n : true ≡ false = h in cc

pub params_last : {of : Param} {given : Bool} {d : ℕ} {xs ys : List Sym} (after : Bool) (n : ℕ) → Found (FollowingUpto after n) (InExpr true) xs ((of, given), d) ys
    → ((o : ℕ) (zs : List Sym) → ys ≡ Mark m.Comma o ∷ zs → ⊥) → Found (ParamsUpto after n) InList xs (of ∷ [], d) ys
params_last {of = of} {d = d} {xs = xs} {ys = ys} after n f h = record {
  front = f.front;
  whole = f.whole;
  derives = (last_param f.derives.0 f.derives.1, f.derives.2);
  longest = λ a y us d w. go us d.0 d.1 w;
}
  where
    go : {a : List Sym} {u : List Param} {e : ℕ} (us : List Sym) → IsParams true after a u e → e ≤ n → xs ≡ a ++ us → Ends {X = Deep (List Param)} InList (of ∷ [], d) ys (u, e) us
    go us no_params i w = inr (
      omega (arith, param_long f.derives.0, ap length f.whole, length-append f.front ys, ap length w),
      subst (λ v. Starts InList v) (sym f.whole ∙ w) (param_starts ys f.derives.0),
    )
    go {a = a} {e = e} us (last_param {given = given} {of = u} q g) i w = elim (f.longest a ((u, given), e) us (q, g, i) w) [
      | inl o ↦ inl (ap (λ (x : Deep (Param × Bool)). let y : Deep (List Param) = (x.0.0 ∷ [], x.1) in y) o.0, o.1)
      | inr o ↦ inr (o.0, widened us expr_in_list o.1)
    ]
    go us (more_params {given = given} comma {xs = a} {ys = b} {of = u} {d = e} q g r) i w =
        let o = exact f a ((u, given), e) (Mark m.Comma comma ∷ b ++ us) (q, g, omega (arith, i)) (w ∙ append_assoc a (Mark m.Comma comma ∷ b) us) (no_expr_comma comma) in
        absurd (h comma (b ++ us) o.1)

pub params_more : {of : Param} {given : Bool} {ts : List Param} {d e : ℕ} {xs ys zs : List Sym} (after : Bool) (n o : ℕ) → Found (FollowingUpto after n) (InExpr true) xs ((of, given), d) (Mark m.Comma o ∷ ys)
    → Found (ParamsUpto (after || given) n) InList ys (ts, e) zs → Found (ParamsUpto after n) InList xs (of ∷ ts, max d e) zs
params_more {of = of} {given = given} {ts = ts} {d = d} {e = e} {xs = xs} {ys = ys} {zs = zs} after n o f g = record {
  front = f.front ++ Mark m.Comma o ∷ g.front;
  whole = f.whole ∙ ap (λ v. f.front ++ Mark m.Comma o ∷ v) g.whole ∙ sym (append_assoc f.front (Mark m.Comma o ∷ g.front) zs);
  derives = (more_params o f.derives.0 f.derives.1 g.derives.0, omega (arith, f.derives.2, g.derives.1));
  longest = λ a y us d w. go us d.0 d.1 w;
}
  where
    go : {a : List Sym} {u : List Param} {k : ℕ} (us : List Sym) → IsParams true after a u k → k ≤ n → xs ≡ a ++ us → Ends {X = Deep (List Param)} InList (of ∷ ts, max d e) zs (u, k) us
    go us no_params i w = inr (
      omega (arith, shorter g, shorter f, ap length w),
      subst (λ v. Starts InList v) (sym f.whole ∙ w) (param_starts (Mark m.Comma o ∷ ys) f.derives.0),
    )
    go {a = a} {k = k} us (last_param {given = given'} {of = u} q may') i w = elim (f.longest a ((u, given'), k) us (q, may', i) w) [
      | inl p ↦ inr (omega (arith, shorter g, ap length p.1), starts_by InList (sym p.1) refl)
      | inr p ↦ inr (omega (arith, shorter g, p.0), widened us expr_in_list p.1)
    ]
    go us (more_params {given = given'} comma {xs = a} {ys = b} {of = u} {rest = us'} {d = d'} {e = e'} q may' r) i w =
        let p = exact f a ((u, given'), d') (Mark m.Comma comma ∷ b ++ us) (q, may', omega (arith, i)) (w ∙ append_assoc a (Mark m.Comma comma ∷ b) us) (no_expr_comma comma) in
        let same : given' ≡ given = ap (λ (x : Deep (Param × Bool)). x.0.1) (sym p.0) in
        let r' = subst (λ (v : Bool). IsParams true (after || v) b us' e') same r in
        elim (g.longest b (us', e') us (r', omega (arith, i)) cc) [
          | inl z ↦ inl (both (both' (ap (λ (x : Deep (Param × Bool)). x.0.0) p.0) (ap (λ (x : Deep (List Param)). x.0) z.0)) (deeper (ap (λ (x : Deep (Param × Bool)). x.1) p.0) (ap (λ (x : Deep (List Param)). x.1) z.0)), z.1)
          | inr z ↦ inr z
        ]
      where
        both' : {x y : Param} {s t : List Param} → x ≡ y → s ≡ t → x ∷ s ≡ y ∷ t
        both' p q = cc

        deeper : {x y s t : ℕ} → x ≡ y → s ≡ t → max x s ≡ max y t
        deeper p q = cc

-- ---- a loop over parameters: whatever list is found from here makes what is found in all

abbrev pub ParamsSoFar : ℕ → List Param → Bool → ℕ → List Sym → List Sym → Type 0
ParamsSoFar n acc after depth start xs = (ts : List Param) (e : ℕ) (zs : List Sym) → Found (ParamsUpto after n) InList xs (ts, e) zs → Found (ParamsUpto false n) InList start (acc ++ ts, max depth e) zs

pub params_start : (n : ℕ) (start : List Sym) → ParamsSoFar n [] false 0 start start
params_start n start ts e zs f =
    let p : e ≡ max 0 e = omega arith in
    subst (λ (k : ℕ). Found (ParamsUpto false n) InList start (ts, k) zs) p f

pub params_on : {of : Param} {given : Bool} {d : ℕ} {ys vs : List Sym} (n : ℕ) (acc : List Param) (after : Bool) (depth : ℕ) (start xs : List Sym) (o : ℕ) → ParamsSoFar n acc after depth start xs
    → Found (FollowingUpto after n) (InExpr true) xs ((of, given), d) ys → ys ≡ Mark m.Comma o ∷ vs → ParamsSoFar n (acc ++ of ∷ []) (after || given) (max depth d) start vs
params_on {of = of} {d = d} n acc after depth start xs o all f w ts e zs g =
    let p : max depth (max d e) ≡ max (max depth d) e = omega arith in
    subst (λ (v : List Param). Found (ParamsUpto false n) InList start (v, max (max depth d) e) zs) (sym (append_assoc acc (of ∷ []) ts))
    (subst (λ (k : ℕ). Found (ParamsUpto false n) InList start (acc ++ (of ∷ ts), k) zs) p
    (all (of ∷ ts) (max d e) zs (params_more after n o (found_left w f) g)))

pub params_to_last : {of : Param} {given : Bool} {d : ℕ} {ys : List Sym} (n : ℕ) (acc : List Param) (after : Bool) (depth : ℕ) (start xs : List Sym) → ParamsSoFar n acc after depth start xs
    → Found (FollowingUpto after n) (InExpr true) xs ((of, given), d) ys → ((o : ℕ) (zs : List Sym) → ys ≡ Mark m.Comma o ∷ zs → ⊥)
    → Found (ParamsUpto false n) InList start (acc ++ of ∷ [], max depth d) ys
params_to_last {of = of} {d = d} {ys = ys} n acc after depth start xs all f h = all (of ∷ []) d ys (params_last after n f h)

pub params_end : (n : ℕ) (acc : List Param) (after : Bool) (depth : ℕ) (start xs : List Sym) → ParamsSoFar n acc after depth start xs → Lacks (FollowingUpto after n) xs
    → Found (ParamsUpto false n) InList start (acc, depth) xs
params_end n acc after depth start xs all f =
    let p : max depth 0 ≡ depth = omega arith in
    subst (λ (v : List Param). Found (ParamsUpto false n) InList start (v, depth) xs) (append-nil acc)
    (subst (λ (k : ℕ). Found (ParamsUpto false n) InList start (acc ++ [], k) xs) p (all [] 0 xs (params_stop after n xs f)))

pub param_falls : {r : Deep (Param × Bool)} {xs ys vs : List Sym} (after : Bool) (n o : ℕ) → Found (FollowingUpto after n) (InExpr true) xs r ys → ys ≡ Mark m.Comma o ∷ vs → length vs < length xs
param_falls after n o f e = omega (arith, shorter f, ap length e)

-- behind a parameter: the list ends here, or goes on behind a comma

abbrev pub Behind : ℕ → List Param → Bool → ℕ → List Sym → List Sym → Type 0
Behind n acc after depth start xs = (((o : ℕ) (zs : List Sym) → xs ≡ Mark m.Comma o ∷ zs → ⊥) → Found (ParamsUpto false n) InList start (acc, depth) xs)
    × ((o : ℕ) (vs : List Sym) → xs ≡ Mark m.Comma o ∷ vs → ParamsSoFar n acc after depth start vs)

pub behind_on : {of : Param} {given : Bool} {d : ℕ} {ys : List Sym} (n : ℕ) (acc : List Param) (after : Bool) (depth : ℕ) (start xs : List Sym) → ParamsSoFar n acc after depth start xs
    → Found (FollowingUpto after n) (InExpr true) xs ((of, given), d) ys → Behind n (acc ++ of ∷ []) (after || given) (max depth d) start ys
behind_on n acc after depth start xs all f = (λ h. params_to_last n acc after depth start xs all f h, λ o vs w. params_on n acc after depth start xs o all f w)

pub behind_first : {of : Param} {given : Bool} {d : ℕ} {start ys : List Sym} (n : ℕ) → Found (ParamUpto n) (InExpr true) start ((of, given), d) ys → Behind n (of ∷ []) given d start ys
behind_first {of = of} {given = given} {d = d} {start = start} {ys = ys} n f =
    let p : max 0 d ≡ d = omega arith in
    subst (λ (k : ℕ). Behind n (of ∷ []) given k start ys) p (behind_on n [] false 0 start start (params_start n start) (following_found false n refl f))

-- one that `)` follows is the list
pub params_one : {of : Param} {given : Bool} {d : ℕ} {start ys : List Sym} (n : ℕ) (o : ℕ) → Found (ParamUpto n) (InExpr true) start ((of, given), d) (Mark m.CloseParen o ∷ ys)
    → Found (ParamsUpto false n) InList start (of ∷ [], d) (Mark m.CloseParen o ∷ ys)
params_one n o f = params_last false n (following_found false n refl f) (λ p zs w. cc)

-- ---- parameters in parentheses

abbrev held : ℕ × (Deep (List Param) × ℕ) → Deep (List Param)
held r = r.1.0

signature_forth : (n : ℕ) (a : List Sym) (x : ℕ × (Deep (List Param) × ℕ)) → Delimited m.OpenParen m.CloseParen (ParamsUpto false n) a x → SignatureUpto n a x.1.0
signature_forth n a x d = let q = in_delimiters (ParamsUpto false n) d in (x.0, x.1.1, q.0, q.1, q.2)

signature_back : (n : ℕ) (xs : List Sym) → IsBack held (Delimited m.OpenParen m.CloseParen (ParamsUpto false n)) (SignatureUpto n) xs
signature_back n xs a u us d w =
    ((d.0, (u, d.1)), (Mark m.OpenParen d.0 ∷ [], d.2 ++ Mark m.CloseParen d.1 ∷ [], d.3, refl, (d.2, Mark m.CloseParen d.1 ∷ [], refl, d.4, refl)), refl)

list_end : (at : ℕ) → InList (Mark m.CloseParen at) → ⊥
list_end at h = let n : true ≡ false = h in cc

pub signature_found : {r : Deep (List Param)} {xs : List Sym} (n o p : ℕ) (ys : List Sym) → Found (ParamsUpto false n) InList xs r (Mark m.CloseParen p ∷ ys)
    → Found (SignatureUpto n) Never (Mark m.OpenParen o ∷ xs) r ys
signature_found {r = r} {xs = xs} n o p ys f = found_by held (λ a w d. signature_forth n a (o, (r, p)) d) (signature_back n (Mark m.OpenParen o ∷ xs)) (delimited o p ys list_end f)

pub signature_lacks : {r : Deep (List Param)} {xs ys : List Sym} (n o : ℕ) → Found (ParamsUpto false n) InList xs r ys
    → ((at : ℕ) (zs : List Sym) → ys ≡ Mark m.CloseParen at ∷ zs → ⊥) → Lacks (SignatureUpto n) (Mark m.OpenParen o ∷ xs)
signature_lacks {xs = xs} n o f h = lacks_by held (signature_back n (Mark m.OpenParen o ∷ xs)) (delimited_lacks_close o list_end f h)

pub signature_lacks_open : (n : ℕ) (xs : List Sym) → ((o : ℕ) (zs : List Sym) → xs ≡ Mark m.OpenParen o ∷ zs → ⊥) → Lacks (SignatureUpto n) xs
signature_lacks_open n xs h = record { none = λ a y us d w. h d.0 (d.2 ++ Mark m.CloseParen d.1 ∷ [] ++ us) (w ∙ ap (λ v. v ++ us) d.3) }
