-- `: Type ;`, `( TypeParam,* )`, and one behind the other.
use Rattle.std.proofs.Common.{◌≡◌, ℕ, true, false, List, [], ◌∷◌, ◌++◌, refl, ◌∙◌, ap, append_assoc}
use Rattle.tb_tree.specs.declared.marks.Mark.TheVariants as m
use Rattle.tb_tree.specs.declared.types.TypeExpr.{TypeExpr}
use Rattle.tb_tree.specs.declared.types.TypeParam.{TypeParam}
use Rattle.tb_tree.specs.Sym.{Sym, Mark}
use Rattle.tb_tree.specs.Shapes.{max_depth}
use Rattle.tb_tree.specs.Longest.{Found, Lacks, Never}
use Rattle.tb_parse_type.specs.Rules.{Counted, limits, TypeUpto, InType, ParamsUpto, InParams}
use Rattle.tb_parse_body.proofs.Enclosed.{Encloses, enclosed_found, enclosed_lacks, enclosed_lacks_close}
use Rattle.tb_parse_body.proofs.FirstSymbols.{then_found, then_lacks, then_lacks_second, apart_never}
use Rattle.tb_parse_file.specs.DeclRules.{ShapeRule, ParamsRule, SignatureRule}

abbrev tree : {X : Type 0} → Counted X → X
tree r = r.0

-- ---- `: Type ;`

shape_back : (o : ℕ) (xs : List Sym) → Encloses m.Semicolon tree (TypeUpto (limits max_depth max_depth)) ShapeRule (Mark m.Colon o ∷ []) xs
shape_back o xs a u us d w =
    let e : Mark m.Colon o ∷ xs ≡ Mark m.Colon d.0 ∷ (d.2 ++ (Mark m.Semicolon d.1 ∷ us)) =
    w ∙ ap (λ v. v ++ us) d.5 ∙ ap (λ v. Mark m.Colon d.0 ∷ v) (append_assoc d.2 (Mark m.Semicolon d.1 ∷ []) us) in
    (d.2, (u, d.3, d.4), d.1, cc, d.6, refl)

type_end : (at : ℕ) → InType (Mark m.Semicolon at) → ⊥
type_end at h = let n : false ≡ true = h in cc

pub shape_found : {r : Counted TypeExpr} {xs ys : List Sym} (o p : ℕ) → Found (TypeUpto (limits max_depth max_depth)) InType xs r (Mark m.Semicolon p ∷ ys) → Found ShapeRule Never (Mark m.Colon o ∷ xs) r.0 ys
shape_found {r = r} {xs = xs} {ys = ys} o p f =
    enclosed_found m.Semicolon tree (Mark m.Colon o ∷ []) p ys type_end (λ b d. (o, p, b, r.1, r.2, refl, d)) (shape_back o xs) f

pub shape_lacks : {xs : List Sym} (o : ℕ) → Lacks (TypeUpto (limits max_depth max_depth)) xs → Lacks ShapeRule (Mark m.Colon o ∷ xs)
shape_lacks {xs = xs} o f = enclosed_lacks m.Semicolon tree (Mark m.Colon o ∷ []) (shape_back o xs) f

pub shape_lacks_end : {r : Counted TypeExpr} {xs ys : List Sym} (o : ℕ) → Found (TypeUpto (limits max_depth max_depth)) InType xs r ys → ((p : ℕ) (zs : List Sym) → ys ≡ Mark m.Semicolon p ∷ zs → ⊥)
    → Lacks ShapeRule (Mark m.Colon o ∷ xs)
shape_lacks_end {xs = xs} o f h = enclosed_lacks_close m.Semicolon tree (Mark m.Colon o ∷ []) type_end (shape_back o xs) f h

pub shape_begins : {a : List Sym} {u : TypeExpr} (us : List Sym) → ShapeRule a u → (o : ℕ) × (zs : List Sym) × (a ++ us ≡ Mark m.Colon o ∷ zs)
shape_begins us d = (d.0, (d.2 ++ (Mark m.Semicolon d.1 ∷ [])) ++ us, ap (λ v. v ++ us) d.5)

pub shape_lacks_colon : (xs : List Sym) → ((o : ℕ) (zs : List Sym) → xs ≡ Mark m.Colon o ∷ zs → ⊥) → Lacks ShapeRule xs
shape_lacks_colon xs h = record { none = λ a u us d w. let b = shape_begins us d in h b.0 b.1 (w ∙ b.2) }

-- ---- `( TypeParam,* )`

params_back : (o : ℕ) (xs : List Sym) → Encloses m.CloseParen tree (ParamsUpto (limits max_depth max_depth)) ParamsRule (Mark m.OpenParen o ∷ []) xs
params_back o xs a u us d w =
    let e : Mark m.OpenParen o ∷ xs ≡ Mark m.OpenParen d.0 ∷ (d.2 ++ (Mark m.CloseParen d.1 ∷ us)) =
    w ∙ ap (λ v. v ++ us) d.5 ∙ ap (λ v. Mark m.OpenParen d.0 ∷ v) (append_assoc d.2 (Mark m.CloseParen d.1 ∷ []) us) in
    (d.2, (u, d.3, d.4), d.1, cc, d.6, refl)

params_end : (at : ℕ) → InParams (Mark m.CloseParen at) → ⊥
params_end at h = let n : true ≡ false = h in cc

pub params_found : {r : Counted (List TypeParam)} {xs ys : List Sym} (o p : ℕ) → Found (ParamsUpto (limits max_depth max_depth)) InParams xs r (Mark m.CloseParen p ∷ ys)
    → Found ParamsRule Never (Mark m.OpenParen o ∷ xs) r.0 ys
params_found {r = r} {xs = xs} {ys = ys} o p f =
    enclosed_found m.CloseParen tree (Mark m.OpenParen o ∷ []) p ys params_end (λ b d. (o, p, b, r.1, r.2, refl, d)) (params_back o xs) f

pub params_lacks_end : {r : Counted (List TypeParam)} {xs ys : List Sym} (o : ℕ) → Found (ParamsUpto (limits max_depth max_depth)) InParams xs r ys
    → ((p : ℕ) (zs : List Sym) → ys ≡ Mark m.CloseParen p ∷ zs → ⊥) → Lacks ParamsRule (Mark m.OpenParen o ∷ xs)
params_lacks_end {xs = xs} o f h = enclosed_lacks_close m.CloseParen tree (Mark m.OpenParen o ∷ []) params_end (params_back o xs) f h

pub params_begin : {a : List Sym} {u : List TypeParam} (us : List Sym) → ParamsRule a u → (o : ℕ) × (zs : List Sym) × (a ++ us ≡ Mark m.OpenParen o ∷ zs)
params_begin us d = (d.0, (d.2 ++ (Mark m.CloseParen d.1 ∷ [])) ++ us, ap (λ v. v ++ us) d.5)

pub params_lacks_open : (xs : List Sym) → ((o : ℕ) (zs : List Sym) → xs ≡ Mark m.OpenParen o ∷ zs → ⊥) → Lacks ParamsRule xs
params_lacks_open xs h = record { none = λ a u us d w. let b = params_begin us d in h b.0 b.1 (w ∙ b.2) }

-- ---- both

pub signature_found : {xs ys zs : List Sym} {ps : List TypeParam} {of : TypeExpr} → Found ParamsRule Never xs ps ys → Found ShapeRule Never ys of zs → Found SignatureRule Never xs (ps, of) zs
signature_found f k = then_found (apart_never ShapeRule) f k

pub signature_lacks_params : {xs : List Sym} → Lacks ParamsRule xs → Lacks SignatureRule xs
signature_lacks_params f = then_lacks ShapeRule f

pub signature_lacks_shape : {xs ys : List Sym} {ps : List TypeParam} → Found ParamsRule Never xs ps ys → Lacks ShapeRule ys → Lacks SignatureRule xs
signature_lacks_shape f k = then_lacks_second (apart_never ShapeRule) f k

pub signature_begins : {a : List Sym} {u : List TypeParam × TypeExpr} (us : List Sym) → SignatureRule a u → (o : ℕ) × (zs : List Sym) × (a ++ us ≡ Mark m.OpenParen o ∷ zs)
signature_begins us d =
    let b = params_begin (d.1 ++ us) d.3 in
    (b.0, b.1, ap (λ v. v ++ us) d.2 ∙ append_assoc d.0 d.1 us ∙ b.2)
