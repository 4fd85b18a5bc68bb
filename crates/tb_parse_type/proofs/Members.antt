-- Parameters, parameters in parentheses, and members.
use Rattle.std.proofs.Common.{◌≡◌, ℕ, max, Bool, true, false, List, [], ◌∷◌, ◌++◌, length, refl, sym, ◌∙◌, ap, subst, inl, inr, arith, append_assoc}
use Rattle.std.specs.Prelude.{Some}
use Rattle.tb_tree.specs.declared.marks.Mark.{Mark as MarkKind}
use Rattle.tb_tree.specs.declared.marks.Mark.TheVariants as m
use Rattle.tb_tree.specs.declared.words.Word.{Word}
use Rattle.tb_tree.specs.declared.words.Word.TheVariants as words
use Rattle.tb_tree.specs.declared.words.Class.TheVariants as c
use Rattle.tb_tree.specs.declared.types.Key.{Key}
use Rattle.tb_tree.specs.declared.types.TypeExpr.{TypeExpr}
use Rattle.tb_tree.specs.declared.types.TypeParam.{TypeParam, roll-TypeParam}
use Rattle.tb_tree.specs.declared.types.TypeMember.{TypeMember}
use Rattle.tb_tree.specs.declared.types.TypeMember.TheVariants as p
use Rattle.tb_parse_type.specs.declared.reader.Limits.{Limits}
use Rattle.tb_tree.specs.Sym.{Sym, Mark, Lex, at_of}
use Rattle.tb_tree.specs.Words.{is_name}
use Rattle.tb_tree.specs.Longest.{Found, Lacks, Ends, Starts, Never}
use Rattle.tb_tree.specs.Shapes.{word, IsMarked, unmarked, marked, IsWorded, unworded, worded, key_of}
use Rattle.tb_tree.specs.Types.{IsTypeParam, type_param, IsTypeMember, property_member, method_member}
use Rattle.tb_tree.proofs.Ends.{exact, starts_by, ap_both, under_both}
use Rattle.tb_parse_type.specs.Rules.{Counted, Fits, Head, HeadRule, IsHead, head, Then, TypeUpto, ParamUpto, ParamsUpto, ParensUpto, ShapeUpto, PropertyRest, MethodRest, MemberRest, MemberUpto, InType, InParams, InHead, InQuestion}
use Rattle.tb_parse_type.proofs.Joins.{Apart, IsBack, then_found, then_lacks, then_lacks_second, found_by, lacks_by, Delimited, delimited, delimited_lacks_close, in_delimiters, apart_never}

-- ---- `?`

pub question_found : (o : ℕ) (ys : List Sym) → Found (IsMarked m.Question) InQuestion (Mark m.Question o ∷ ys) true ys
question_found o ys = record {
  front = Mark m.Question o ∷ [];
  whole = refl;
  derives = marked o;
  longest = λ a y us d w. go us d w;
}
  where
    go : {a : List Sym} {y : Bool} (us : List Sym) → IsMarked m.Question a y → Mark m.Question o ∷ ys ≡ a ++ us → Ends {X = Bool} InQuestion true ys y us
    go us unmarked w = inr (omega (arith, ap length w), starts_by InQuestion (sym w) refl)
    go us (marked n) w = inl (refl, cc)

pub question_absent : (xs : List Sym) → ((o : ℕ) (zs : List Sym) → xs ≡ Mark m.Question o ∷ zs → ⊥) → Found (IsMarked m.Question) InQuestion xs false xs
question_absent xs h = record {
  front = [];
  whole = refl;
  derives = unmarked;
  longest = λ a y us d w. go us d w;
}
  where
    go : {a : List Sym} {y : Bool} (us : List Sym) → IsMarked m.Question a y → xs ≡ a ++ us → Ends {X = Bool} InQuestion false xs y us
    go us unmarked w = inl (refl, w)
    go us (marked n) w = absurd (h n us w)

-- ---- `: Type`

pub shape_found : {r : Counted TypeExpr} {xs ys : List Sym} (l : Limits) (o : ℕ) → Found (TypeUpto l) InType xs r ys → Found (ShapeUpto l) InType (Mark m.Colon o ∷ xs) r ys
shape_found {r = r} {xs = xs} {ys = ys} l o f = record {
  front = Mark m.Colon o ∷ f.front;
  whole = ap (λ v. Mark m.Colon o ∷ v) f.whole;
  derives = (o, f.front, refl, f.derives);
  longest = λ a y us d w. let e : Mark m.Colon o ∷ xs ≡ Mark m.Colon d.0 ∷ d.1 ++ us = w ∙ ap (λ v. v ++ us) d.2 in f.longest d.1 y us d.3 cc;
}

pub shape_lacks : {xs : List Sym} (l : Limits) (o : ℕ) → Lacks (TypeUpto l) xs → Lacks (ShapeUpto l) (Mark m.Colon o ∷ xs)
shape_lacks {xs = xs} l o f = record {
  none = λ a y us d w. let e : Mark m.Colon o ∷ xs ≡ Mark m.Colon d.0 ∷ d.1 ++ us = w ∙ ap (λ v. v ++ us) d.2 in f.none d.1 y us d.3 cc;
}

pub shape_lacks_colon : (l : Limits) (xs : List Sym) → ((o : ℕ) (zs : List Sym) → xs ≡ Mark m.Colon o ∷ zs → ⊥) → Lacks (ShapeUpto l) xs
shape_lacks_colon l xs h = record { none = λ a y us d w. h d.0 (d.1 ++ us) (w ∙ ap (λ v. v ++ us) d.2) }

-- a list that begins with `:` does not begin so
shape_apart : (C : Sym → Type 0) → ((o : ℕ) → C (Mark m.Colon o) → ⊥) → (l : Limits) → Apart C (ShapeUpto l)
shape_apart C h l b y us d s = h d.0 (subst (λ v. Starts C (v ++ us)) d.2 s)

no_question_colon : (o : ℕ) → InQuestion (Mark m.Colon o) → ⊥
no_question_colon o h = let n : false ≡ true = h in cc

-- ---- parameters in parentheses

abbrev held : ℕ × (Counted (List TypeParam) × ℕ) → Counted (List TypeParam)
held r = r.1.0

parens_forth : (l : Limits) (a : List Sym) (x : ℕ × (Counted (List TypeParam) × ℕ)) → Delimited m.OpenParen m.CloseParen (ParamsUpto l) a x → ParensUpto l a x.1.0
parens_forth l a x d = let q = in_delimiters (ParamsUpto l) d in (x.0, x.1.1, q.0, q.1, q.2)

parens_back : (l : Limits) (xs : List Sym) → IsBack held (Delimited m.OpenParen m.CloseParen (ParamsUpto l)) (ParensUpto l) xs
parens_back l xs a u us d w =
    ((d.0, (u, d.1)), (Mark m.OpenParen d.0 ∷ [], d.2 ++ Mark m.CloseParen d.1 ∷ [], d.3, refl, (d.2, Mark m.CloseParen d.1 ∷ [], refl, d.4, refl)), refl)

params_end : (at : ℕ) → InParams (Mark m.CloseParen at) → ⊥
params_end at h = let n : true ≡ false = h in cc

pub parens_found : {r : Counted (List TypeParam)} {xs : List Sym} (l : Limits) (o p : ℕ) (ys : List Sym) → Found (ParamsUpto l) InParams xs r (Mark m.CloseParen p ∷ ys)
    → Found (ParensUpto l) Never (Mark m.OpenParen o ∷ xs) r ys
parens_found {r = r} {xs = xs} l o p ys f = found_by held (λ a w d. parens_forth l a (o, (r, p)) d) (parens_back l (Mark m.OpenParen o ∷ xs)) (delimited o p ys params_end f)

pub parens_lacks : {r : Counted (List TypeParam)} {xs ys : List Sym} (l : Limits) (o : ℕ) → Found (ParamsUpto l) InParams xs r ys
    → ((at : ℕ) (zs : List Sym) → ys ≡ Mark m.CloseParen at ∷ zs → ⊥) → Lacks (ParensUpto l) (Mark m.OpenParen o ∷ xs)
parens_lacks {xs = xs} l o f n = lacks_by held (parens_back l (Mark m.OpenParen o ∷ xs)) (delimited_lacks_close o params_end f n)

pub parens_lacks_open : (l : Limits) (xs : List Sym) → ((o : ℕ) (zs : List Sym) → xs ≡ Mark m.OpenParen o ∷ zs → ⊥) → Lacks (ParensUpto l) xs
parens_lacks_open l xs h = record { none = λ a y us d w. h d.0 (d.2 ++ Mark m.CloseParen d.1 ∷ [] ++ us) (w ∙ ap (λ v. v ++ us) d.3) }

-- ---- a parameter

abbrev pub param_of : ℕ → List ℕ → Bool → TypeExpr → TypeParam
param_of at name optional shape = roll-TypeParam (record { at = at; name = name; optional = optional; shape = shape })

-- what follows the name
abbrev Signed : Limits → List Sym → Bool × Counted TypeExpr → Type 0
Signed l = Then (IsMarked m.Question) (ShapeUpto l)

param_forth : (l : Limits) (k : Word) (s : List ℕ) (o : ℕ) (a : List Sym) (optional : Bool) (r : Counted TypeExpr) → is_name k ≡ true → Signed l a (optional, r)
    → ParamUpto l (word k s o ∷ a) (param_of o s optional r.0, r.1, r.2)
param_forth l k s o a optional r n d =
    let q = d.4 in
    let e : a ≡ d.0 ++ Mark m.Colon q.0 ∷ q.1 = d.2 ∙ ap (λ v. d.0 ++ v) q.2 in
    (subst (λ v. IsTypeParam (word k s o ∷ v) (param_of o s optional r.0) r.1 r.2) (sym e) (type_param s o q.0 n d.3 q.3.0), q.3.1)

param_back : {a : List Sym} {u : TypeParam} {own depth : ℕ} (l : Limits) (k : Word) (s : List ℕ) (o : ℕ) (xs us : List Sym) → IsTypeParam a u own depth → Fits l own depth → word k s o ∷ xs ≡ a ++ us
    → (b : List Sym) × (optional : Bool) × (of : TypeExpr) × Signed l b (optional, (of, own, depth)) × (xs ≡ b ++ us) × (param_of o s optional of ≡ u)
param_back l k s o xs us (type_param {kind = k'} {optional = optional} z n colon {xs = b} {ys = y} {of = of} {own = own} {depth = depth} i q t) fit w =
    let behind : xs ≡ b ++ Mark m.Colon colon ∷ y ++ us = cc in
    let place : o ≡ n = cc in
    let name : s ≡ z = cc in
    (b ++ Mark m.Colon colon ∷ y, optional, of, (b, Mark m.Colon colon ∷ y, refl, q, (colon, y, refl, (t, fit))), behind, ap_both (λ (x : ℕ) (y : List ℕ). param_of x y optional of) place name)

pub param_found : {optional : Bool} {r : Counted TypeExpr} {xs ys zs : List Sym} (l : Limits) (k : Word) (s : List ℕ) (o : ℕ) → is_name k ≡ true → Found (IsMarked m.Question) InQuestion xs optional ys
    → Found (ShapeUpto l) InType ys r zs → Found (ParamUpto l) InType (word k s o ∷ xs) (param_of o s optional r.0, r.1, r.2) zs
param_found {optional = optional} {r = r} {xs = xs} {zs = zs} l k s o n f g = record {
  front = word k s o ∷ h.front;
  whole = ap (λ v. word k s o ∷ v) h.whole;
  derives = param_forth l k s o h.front optional r n h.derives;
  longest = λ a y us d w. go us d.0 d.1 w;
}
  where
    h : Found (Signed l) InType xs (optional, r) zs
    h = then_found (shape_apart InQuestion no_question_colon l) f g

    go : {a : List Sym} {u : TypeParam} {own depth : ℕ} (us : List Sym) → IsTypeParam a u own depth → Fits l own depth → word k s o ∷ xs ≡ a ++ us
        → Ends {X = Counted TypeParam} InType (param_of o s optional r.0, r.1, r.2) zs (u, own, depth) us
    go {own = own} {depth = depth} us q fit w =
        let b = param_back l k s o xs us q fit w in
        elim (h.longest b.0 (b.1, (b.2, own, depth)) us b.3 b.4) [
          | inl e ↦ inl (
            ap (λ (x : Bool × Counted TypeExpr). let y : Counted TypeParam = (param_of o s x.0 x.1.0, x.1.1, x.1.2) in y) e.0
                ∙ ap (λ (x : TypeParam). let y : Counted TypeParam = (x, own, depth) in y) b.5,
            e.1,
          )
          | inr e ↦ inr e
        ]

pub param_lacks : {optional : Bool} {xs ys : List Sym} (l : Limits) (k : Word) (s : List ℕ) (o : ℕ) → Found (IsMarked m.Question) InQuestion xs optional ys → Lacks (ShapeUpto l) ys
    → Lacks (ParamUpto l) (word k s o ∷ xs)
param_lacks {xs = xs} l k s o f g = record { none = λ a y us d w. go us d.0 d.1 w }
  where
    go : {a : List Sym} {u : TypeParam} {own depth : ℕ} (us : List Sym) → IsTypeParam a u own depth → Fits l own depth → word k s o ∷ xs ≡ a ++ us → ⊥
    go {own = own} {depth = depth} us q fit w =
        let b = param_back l k s o xs us q fit w in
        let h : Lacks (Signed l) xs = then_lacks_second (shape_apart InQuestion no_question_colon l) f g in
        h.none b.0 (b.1, (b.2, own, depth)) us b.3 b.4

pub param_lacks_name : (l : Limits) (xs : List Sym) → ((k : Word) (s : List ℕ) (o : ℕ) → is_name k ≡ true → (zs : List Sym) → xs ≡ word k s o ∷ zs → ⊥) → Lacks (ParamUpto l) xs
param_lacks_name l xs h = record { none = λ a y us d w. go us d.0 w }
  where
    go : {a : List Sym} {u : TypeParam} {own depth : ℕ} (us : List Sym) → IsTypeParam a u own depth → xs ≡ a ++ us → ⊥
    go us (type_param {kind = k} s o colon {xs = b} {ys = y} n q t) w = h k s o n (b ++ Mark m.Colon colon ∷ y ++ us) w

-- ---- the head of a member

pub key_is : {key : Key} (s : Sym) → key_of s ≡ Some key → InHead s
key_is (Lex (c.Word k) w o) e = refl
key_is (Lex c.String w o) e = refl
key_is (Lex c.Number w o) e = cc
key_is (Lex (c.Template k) w o) e = cc
key_is (Lex c.Bad w o) e = cc
key_is (Mark k o) e = cc

same_head : {a b : Bool} {o p : ℕ} {k l : Key} → a ≡ b → o ≡ p → k ≡ l → ◌≡◌ {A = Head} (a, o, k) (b, p, l)
same_head a b c = cc

-- `readonly` and a key
pub head_read_only : {key : Key} (s : List ℕ) (o at : ℕ) (k : Sym) (ys : List Sym) → key_of k ≡ Some key → at_of k ≡ at → Found HeadRule InHead (word words.Readonly s o ∷ k ∷ ys) (true, at, key) ys
head_read_only {key = key} s o at k ys e i = record {
  front = word words.Readonly s o ∷ k ∷ [];
  whole = refl;
  derives = subst (λ (n : ℕ). IsHead (word words.Readonly s o ∷ k ∷ []) true n key) i (head k (worded s o) e);
  longest = λ a y us d w. go us d w;
}
  where
    go : {a : List Sym} {b : Bool} {n : ℕ} {l : Key} (us : List Sym) → IsHead a b n l → word words.Readonly s o ∷ k ∷ ys ≡ a ++ us → Ends {X = Head} InHead (true, at, key) ys (b, n, l) us
    go us (head z unworded x) w = inr (omega (arith, ap length w), starts_by InHead (rest w) (key_is k e))
      where
        rest : word words.Readonly s o ∷ k ∷ ys ≡ z ∷ us → us ≡ k ∷ ys
        rest w = cc
    go us (head z {key = l} (worded s' o') x) w =
        let same : k ≡ z = cc in
        let keys : Some key ≡ Some l = sym e ∙ ap key_of same ∙ x in
        inl (same_head refl (sym i ∙ ap at_of same) cc, cc)

-- a key alone: `readonly` itself is one where no key follows it
pub head_key : {key : Key} (at : ℕ) (k : Sym) (ys : List Sym) → key_of k ≡ Some key → at_of k ≡ at
    → ((s : List ℕ) (o : ℕ) (z : Sym) (l : Key) (zs : List Sym) → key_of z ≡ Some l → k ∷ ys ≡ word words.Readonly s o ∷ z ∷ zs → ⊥) → Found HeadRule InHead (k ∷ ys) (false, at, key) ys
head_key {key = key} at k ys e i h = record {
  front = k ∷ [];
  whole = refl;
  derives = subst (λ (n : ℕ). IsHead (k ∷ []) false n key) i (head k unworded e);
  longest = λ a y us d w. go us d w;
}
  where
    go : {a : List Sym} {b : Bool} {n : ℕ} {l : Key} (us : List Sym) → IsHead a b n l → k ∷ ys ≡ a ++ us → Ends {X = Head} InHead (false, at, key) ys (b, n, l) us
    go us (head z {key = l} unworded x) w =
        let same : k ≡ z = cc in
        let keys : Some key ≡ Some l = sym e ∙ ap key_of same ∙ x in
        inl (same_head refl (sym i ∙ ap at_of same) cc, cc)
    go us (head z {key = l} (worded s o) x) w = absurd (h s o z l us x w)

pub head_lacks : (xs : List Sym) → ((s : Sym) (key : Key) → key_of s ≡ Some key → (zs : List Sym) → xs ≡ s ∷ zs → ⊥) → Lacks HeadRule xs
head_lacks xs h = record { none = λ a y us d w. go us d w }
  where
    go : {a : List Sym} {b : Bool} {n : ℕ} {l : Key} (us : List Sym) → IsHead a b n l → xs ≡ a ++ us → ⊥
    go us (head z {key = l} unworded x) w = h z l x us w
    go us (head z (worded s o) x) w = absurd (h (word words.Readonly s o) _ refl (z ∷ us) w)

-- ---- what follows the head

abbrev property_of : Head → Bool → Counted TypeExpr → Counted TypeMember
property_of h optional r = (p.Property h.1 h.0 h.2 optional r.0, r.1, r.2)

as_counted : {X : Type 0} {x : X} (u : Counted X) → u.0 ≡ x → ◌≡◌ {A = Counted X} (x, u.1, u.2) u
as_counted {X = X} u e = ap (λ (z : X). let y : Counted X = (z, u.1, u.2) in y) (sym e)

property_back : (l : Limits) (h : Head) (optional : Bool) (xs : List Sym) → IsBack (property_of h optional) (ShapeUpto l) (PropertyRest l h optional) xs
property_back l h optional xs a u us d w = ((d.0, u.1, u.2), d.2, as_counted u d.1)

pub property_found : {r : Counted TypeExpr} {xs ys : List Sym} (l : Limits) (h : Head) (optional : Bool) → Found (ShapeUpto l) InType xs r ys
    → Found (PropertyRest l h optional) InType xs (p.Property h.1 h.0 h.2 optional r.0, r.1, r.2) ys
property_found {r = r} {xs = xs} l h optional f = found_by (property_of h optional) (λ a w d. (r.0, refl, d)) (property_back l h optional xs) f

pub property_lacks : {xs : List Sym} (l : Limits) (h : Head) (optional : Bool) → Lacks (ShapeUpto l) xs → Lacks (PropertyRest l h optional) xs
property_lacks {xs = xs} l h optional f = lacks_by (property_of h optional) (property_back l h optional xs) f

abbrev method_of : Head → Bool → Counted (List TypeParam) × Counted TypeExpr → Counted TypeMember
method_of h optional r = (p.Method h.1 h.2 optional r.0.0 r.1.0, max r.0.1 r.1.1, max r.0.2 r.1.2)

method_forth : (l : Limits) (h : Head) (optional : Bool) (a : List Sym) (x : Counted (List TypeParam) × Counted TypeExpr) → Then (ParensUpto l) (ShapeUpto l) a x
    → MethodRest l h optional a (method_of h optional x)
method_forth l h optional a x d = (x.0, x.1, refl, refl, refl, d)

method_back : (l : Limits) (h : Head) (optional : Bool) (xs : List Sym) → IsBack (method_of h optional) (Then (ParensUpto l) (ShapeUpto l)) (MethodRest l h optional) xs
method_back l h optional xs a u us d w = ((d.0, d.1), d.5, same u d.2 d.3 d.4)
  where
    same : {x : TypeMember} {m n : ℕ} (u : Counted TypeMember) → u.0 ≡ x → u.1 ≡ m → u.2 ≡ n → ◌≡◌ {A = Counted TypeMember} (x, m, n) u
    same {m = m} {n = n} u a b c =
        ap (λ (z : TypeMember). let y : Counted TypeMember = (z, m, n) in y) (sym a) ∙ ap_both (λ (i j : ℕ). let y : Counted TypeMember = (u.0, i, j) in y) (sym b) (sym c)

pub method_found : {ps : Counted (List TypeParam)} {r : Counted TypeExpr} {xs ys zs : List Sym} (l : Limits) (h : Head) (optional : Bool) → Found (ParensUpto l) Never xs ps ys
    → Found (ShapeUpto l) InType ys r zs → Found (MethodRest l h optional) InType xs (p.Method h.1 h.2 optional ps.0 r.0, max ps.1 r.1, max ps.2 r.2) zs
method_found {ps = ps} {r = r} {xs = xs} l h optional f g =
    found_by (method_of h optional) (λ a w d. method_forth l h optional a (ps, r) d) (method_back l h optional xs) (then_found (apart_never (ShapeUpto l)) f g)

pub method_lacks : {xs : List Sym} (l : Limits) (h : Head) (optional : Bool) → Lacks (ParensUpto l) xs → Lacks (MethodRest l h optional) xs
method_lacks {xs = xs} l h optional f = lacks_by (method_of h optional) (method_back l h optional xs) (then_lacks (ShapeUpto l) f)

pub method_lacks_shape : {ps : Counted (List TypeParam)} {xs ys : List Sym} (l : Limits) (h : Head) (optional : Bool) → Found (ParensUpto l) Never xs ps ys → Lacks (ShapeUpto l) ys
    → Lacks (MethodRest l h optional) xs
method_lacks_shape {xs = xs} l h optional f g = lacks_by (method_of h optional) (method_back l h optional xs) (then_lacks_second (apart_never (ShapeUpto l)) f g)

-- a property, where no method may be

pub rest_property : {r : Counted TypeMember} {xs ys : List Sym} (l : Limits) (h : Head) (optional : Bool) → (h.0 ≡ false → Lacks (MethodRest l h optional) xs)
    → Found (PropertyRest l h optional) InType xs r ys → Found (MemberRest l h optional) InType xs r ys
rest_property {r = r} {xs = xs} {ys = ys} l h optional n f = record {
  front = f.front;
  whole = f.whole;
  derives = inl f.derives;
  longest = λ a y us d w. go y us d w;
}
  where
    go : {a : List Sym} (y : Counted TypeMember) (us : List Sym) → MemberRest l h optional a y → xs ≡ a ++ us → Ends InType r ys y us
    go {a = a} y us (inl d) w = f.longest a y us d w
    go {a = a} y us (inr d) w = absurd ((n d.0).none a y us d.1 w)

pub rest_lacks : {xs : List Sym} (l : Limits) (h : Head) (optional : Bool) → (h.0 ≡ false → Lacks (MethodRest l h optional) xs) → Lacks (PropertyRest l h optional) xs → Lacks (MemberRest l h optional) xs
rest_lacks {xs = xs} l h optional n f = record { none = λ a y us d w. go y us d w }
  where
    go : {a : List Sym} (y : Counted TypeMember) (us : List Sym) → MemberRest l h optional a y → xs ≡ a ++ us → ⊥
    go {a = a} y us (inl d) w = f.none a y us d w
    go {a = a} y us (inr d) w = (n d.0).none a y us d.1 w

-- a method, where no property may be
pub rest_method : {r : Counted TypeMember} {xs ys : List Sym} (l : Limits) (h : Head) (optional : Bool) → h.0 ≡ false → Lacks (PropertyRest l h optional) xs
    → Found (MethodRest l h optional) InType xs r ys → Found (MemberRest l h optional) InType xs r ys
rest_method {r = r} {xs = xs} {ys = ys} l h optional e n f = record {
  front = f.front;
  whole = f.whole;
  derives = inr (e, f.derives);
  longest = λ a y us d w. go y us d w;
}
  where
    go : {a : List Sym} (y : Counted TypeMember) (us : List Sym) → MemberRest l h optional a y → xs ≡ a ++ us → Ends InType r ys y us
    go {a = a} y us (inl d) w = absurd (n.none a y us d w)
    go {a = a} y us (inr d) w = f.longest a y us d.1 w

-- ---- a member

-- what follows the head begins neither with a key nor with `?`
rest_starts : {xs : List Sym} {r : Counted TypeMember} (l : Limits) (h : Head) (optional : Bool) (C : Sym → Type 0) (us : List Sym) → ((o : ℕ) → C (Mark m.Colon o) → ⊥)
    → ((o : ℕ) → C (Mark m.OpenParen o) → ⊥) → MemberRest l h optional xs r → Starts C (xs ++ us) → ⊥
rest_starts l h optional C us i j (inl d) s = let q = d.2 in i q.0 (subst (λ v. Starts C (v ++ us)) q.2 s)
rest_starts l h optional C us i j (inr d) s =
    let t = d.1.5 in
    let q = t.3 in
    j q.0 (subst (λ v. Starts C (v ++ us)) (t.2 ∙ ap (λ v. v ++ t.1) q.3) s)

no_question_open : (o : ℕ) → InQuestion (Mark m.OpenParen o) → ⊥
no_question_open o h = let n : false ≡ true = h in cc

no_key_mark : (k : MarkKind) (o : ℕ) → InHead (Mark k o) → ⊥
no_key_mark k o h = let n : false ≡ true = h in cc

head_apart : {a b : List Sym} {optional : Bool} {r : Counted TypeMember} (l : Limits) (h : Head) (us : List Sym) → IsMarked m.Question a optional → MemberRest l h optional b r
    → Starts InHead (a ++ (b ++ us)) → ⊥
head_apart {optional = o} l h us unmarked d s = rest_starts l h o InHead us (no_key_mark m.Colon) (no_key_mark m.OpenParen) d s
head_apart l h us (marked n) d s = no_key_mark m.Question n s

-- the parts of a member
MemberParts : Limits → List Sym → Counted TypeMember → Type 0
MemberParts l a u = (h : Head) × (optional : Bool) × (x : List Sym) × (y : List Sym) × (z : List Sym) × (a ≡ x ++ (y ++ z)) × HeadRule x h × IsMarked m.Question y optional × MemberRest l h optional z u

member_back : {a : List Sym} {u : TypeMember} {own depth : ℕ} (l : Limits) → IsTypeMember a u own depth → Fits l own depth → MemberParts l a (u, own, depth)
unfolding MemberParts
member_back l (property_member s {key = key} {read_only = b} {optional = optional} colon {xs = xs} {ys = ys} {zs = zs} {of = of} {own = own} {depth = depth} q e n t) fit =
    let split = append_assoc xs (s ∷ ys) (Mark m.Colon colon ∷ zs) ∙ sym (append_assoc xs (s ∷ []) (ys ++ (Mark m.Colon colon ∷ zs))) in
    ((b, at_of s, key), optional, xs ++ s ∷ [], ys, Mark m.Colon colon ∷ zs, split, head s q e, n, inl (of, refl, (colon, zs, refl, (t, fit))))
member_back l (method_member s {key = key} {optional = optional} open_at close_at colon {xs = xs} {ys = ys} {zs = zs} {params = params} {of = of} {own = own} {depth = depth} {own_result = e'} {depth_result = d'} e n q t) fit =
    let behind : (Mark m.OpenParen open_at ∷ ys) ++ (Mark m.CloseParen close_at ∷ Mark m.Colon colon ∷ zs) ≡ (Mark m.OpenParen open_at ∷ ys ++ Mark m.CloseParen close_at ∷ []) ++ (Mark m.Colon colon ∷ zs) =
    sym (append_assoc (Mark m.OpenParen open_at ∷ ys) (Mark m.CloseParen close_at ∷ []) (Mark m.Colon colon ∷ zs)) in
    let split = append_assoc (s ∷ xs) (Mark m.OpenParen open_at ∷ ys) (Mark m.CloseParen close_at ∷ Mark m.Colon colon ∷ zs) ∙ ap (λ v. s ∷ (xs ++ v)) behind in
    let first : Fits l own depth = (omega (arith, fit.0), omega (arith, fit.1)) in
    let second : Fits l e' d' = (omega (arith, fit.0), omega (arith, fit.1)) in (
      (false, at_of s, key),
      optional,
      s ∷ [],
      xs,
      (Mark m.OpenParen open_at ∷ ys ++ Mark m.CloseParen close_at ∷ []) ++ (Mark m.Colon colon ∷ zs),
      split,
      head s unworded e,
      n,
      inr (refl, ((params, own, depth), (of, e', d'), refl, refl, refl, (Mark m.OpenParen open_at ∷ ys ++ Mark m.CloseParen close_at ∷ [], Mark m.Colon colon ∷ zs, refl, (open_at, close_at, ys, refl, (q, first)), (colon, zs, refl, (t, second))))),
    )

member_forth : {x y z : List Sym} {b optional : Bool} {at : ℕ} {key : Key} (l : Limits) (r : Counted TypeMember) → IsHead x b at key → IsMarked m.Question y optional → MemberRest l (b, at, key) optional z r
    → MemberUpto l (x ++ (y ++ z)) r
member_forth {y = y} {z = z} {b = b} {optional = optional} {key = key} l r (head s {xs = xs} q e) n (inl d) =
    let t = d.2 in
    let split : xs ++ s ∷ y ++ Mark m.Colon t.0 ∷ t.1 ≡ (xs ++ s ∷ []) ++ (y ++ z) =
    append_assoc xs (s ∷ y) (Mark m.Colon t.0 ∷ t.1) ∙ ap (λ v. xs ++ (s ∷ (y ++ v))) (sym t.2) ∙ sym (append_assoc xs (s ∷ []) (y ++ z)) in
    (subst (λ v. IsTypeMember v r.0 r.1 r.2) split (subst (λ u. IsTypeMember (xs ++ s ∷ y ++ Mark m.Colon t.0 ∷ t.1) u r.1 r.2) (sym d.1) (property_member s t.0 q e n t.3.0)), t.3.1)
member_forth {x = x} {y = y} {z = z} {optional = optional} l r (head s {key = key} {xs = xs} q e) n (inr d) = plain q d.0
  where
    plain : {xs : List Sym} {b : Bool} → IsWorded words.Readonly xs b → b ≡ false → MemberUpto l ((xs ++ s ∷ []) ++ (y ++ z)) r
    plain (worded i j) f = let n : true ≡ false = f in cc
    plain unworded f =
        let i = d.1 in
        let k = i.5 in
        let ps = k.3 in
        let t = k.4 in
        let inner : (Mark m.OpenParen ps.0 ∷ ps.2) ++ (Mark m.CloseParen ps.1 ∷ Mark m.Colon t.0 ∷ t.1) ≡ z =
        sym (append_assoc (Mark m.OpenParen ps.0 ∷ ps.2) (Mark m.CloseParen ps.1 ∷ []) (Mark m.Colon t.0 ∷ t.1)) ∙ ap_both (λ (a b : List Sym). a ++ b) (sym ps.3) (sym t.2) ∙ sym k.2 in
        let split : s ∷ y ++ Mark m.OpenParen ps.0 ∷ ps.2 ++ Mark m.CloseParen ps.1 ∷ Mark m.Colon t.0 ∷ t.1 ≡ s ∷ (y ++ z) =
        append_assoc (s ∷ y) (Mark m.OpenParen ps.0 ∷ ps.2) (Mark m.CloseParen ps.1 ∷ Mark m.Colon t.0 ∷ t.1) ∙ ap (λ v. s ∷ (y ++ v)) inner in
        let made = method_member s ps.0 ps.1 t.0 e n ps.4.0 t.3.0 in
        (subst (λ v. IsTypeMember v r.0 r.1 r.2) split (as_member made i.2 i.3 i.4), (omega (arith, i.3, ps.4.1.0, t.3.1.0), omega (arith, i.4, ps.4.1.1, t.3.1.1)))
      where
        as_member : {v : List Sym} {u : TypeMember} {a b : ℕ} → IsTypeMember v u a b → r.0 ≡ u → r.1 ≡ a → r.2 ≡ b → IsTypeMember v r.0 r.1 r.2
        as_member {v = v} {u = u} {a = a} {b = b} q i j k =
            subst (λ (x : TypeMember). IsTypeMember v x r.1 r.2) (sym i) (subst (λ (x : ℕ). IsTypeMember v u x r.2) (sym j) (subst (λ (x : ℕ). IsTypeMember v u a x) (sym k) q))

pub member_found : {h : Head} {optional : Bool} {r : Counted TypeMember} {xs ys zs vs : List Sym} (l : Limits) → Found HeadRule InHead xs h ys → Found (IsMarked m.Question) InQuestion ys optional zs
    → Found (MemberRest l h optional) InType zs r vs → Found (MemberUpto l) InType xs r vs
unfolding MemberParts
member_found {h = h} {optional = optional} {r = r} {xs = xs} {ys = ys} {zs = zs} {vs = vs} l f g k = record {
  front = f.front ++ (g.front ++ k.front);
  whole = f.whole ∙ ap (λ v. f.front ++ v) (g.whole ∙ ap (λ v. g.front ++ v) k.whole ∙ sym (append_assoc g.front k.front vs)) ∙ sym (append_assoc f.front (g.front ++ k.front) vs);
  derives = member_forth l r f.derives g.derives k.derives;
  longest = λ a y us d w. go y us (member_back l d.0 d.1) w;
}
  where
    go : {a : List Sym} (y : Counted TypeMember) (us : List Sym) → MemberParts l a y → xs ≡ a ++ us → Ends InType r vs y us
    go y us b w =
        let front : xs ≡ b.2 ++ (b.3 ++ (b.4 ++ us)) = w ∙ ap (λ v. v ++ us) b.5 ∙ append_assoc b.2 (b.3 ++ b.4) us ∙ ap (λ v. b.2 ++ v) (append_assoc b.3 b.4 us) in
        let i = exact f b.2 b.0 (b.3 ++ (b.4 ++ us)) b.6 front (head_apart l b.0 us b.7 b.8) in
        let j = exact g b.3 b.1 (b.4 ++ us) b.7 i.1 (rest_starts l b.0 b.1 InQuestion us no_question_colon no_question_open b.8) in
        k.longest b.4 y us (under_both (λ (h : Head) (o : Bool). MemberRest l h o b.4 y) i.0 j.0 b.8) j.1

pub member_lacks : {h : Head} {optional : Bool} {xs ys zs : List Sym} (l : Limits) → Found HeadRule InHead xs h ys → Found (IsMarked m.Question) InQuestion ys optional zs
    → Lacks (MemberRest l h optional) zs → Lacks (MemberUpto l) xs
unfolding MemberParts
member_lacks {xs = xs} l f g k = record { none = λ a y us d w. go y us (member_back l d.0 d.1) w }
  where
    go : {a : List Sym} (y : Counted TypeMember) (us : List Sym) → MemberParts l a y → xs ≡ a ++ us → ⊥
    go y us b w =
        let front : xs ≡ b.2 ++ (b.3 ++ (b.4 ++ us)) = w ∙ ap (λ v. v ++ us) b.5 ∙ append_assoc b.2 (b.3 ++ b.4) us ∙ ap (λ v. b.2 ++ v) (append_assoc b.3 b.4 us) in
        let i = exact f b.2 b.0 (b.3 ++ (b.4 ++ us)) b.6 front (head_apart l b.0 us b.7 b.8) in
        let j = exact g b.3 b.1 (b.4 ++ us) b.7 i.1 (rest_starts l b.0 b.1 InQuestion us no_question_colon no_question_open b.8) in
        k.none b.4 y us (under_both (λ (h : Head) (o : Bool). MemberRest l h o b.4 y) i.0 j.0 b.8) j.1

pub member_lacks_head : {xs : List Sym} (l : Limits) → Lacks HeadRule xs → Lacks (MemberUpto l) xs
unfolding MemberParts
member_lacks_head {xs = xs} l f = record { none = λ a y us d w. go y us (member_back l d.0 d.1) w }
  where
    go : {a : List Sym} (y : Counted TypeMember) (us : List Sym) → MemberParts l a y → xs ≡ a ++ us → ⊥
    go y us b w = f.none b.2 b.0 ((b.3 ++ b.4) ++ us) b.6 (w ∙ ap (λ v. v ++ us) b.5 ∙ append_assoc b.2 (b.3 ++ b.4) us)
