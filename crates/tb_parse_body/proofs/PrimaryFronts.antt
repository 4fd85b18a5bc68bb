-- The longest primary at the front of a list.
use Rattle.std.proofs.Common.{◌≡◌, ◌≢◌, ℕ, ◌+◌, ◌-◌, ◌≤◌, ◌<◌, Bool, true, false, List, [], ◌∷◌, ◌++◌, refl, sym, ◌∙◌, ap, inl, arith, append_assoc, subst}
use Rattle.std.specs.Prelude.{Option, Some, None}
use Rattle.tb_tree.specs.declared.marks.Mark.{Mark as MarkKind}
use Rattle.tb_tree.specs.declared.marks.Mark.TheVariants as m
use Rattle.tb_tree.specs.declared.words.Word.{Word}
use Rattle.tb_tree.specs.declared.words.Word.TheVariants as words
use Rattle.tb_tree.specs.declared.words.Class.{Class}
use Rattle.tb_tree.specs.declared.words.Class.TheVariants as c
use Rattle.tb_tree.specs.declared.words.Template.TheVariants as part
use Rattle.tb_tree.specs.declared.exprs.Expr.{Expr}
use Rattle.tb_tree.specs.declared.exprs.Expr.TheVariants as expr
use Rattle.tb_tree.specs.declared.exprs.Prop.{Prop}
use Rattle.tb_tree.specs.declared.exprs.TemplateSpan.{TemplateSpan}
use Rattle.tb_tree.specs.Sym.{Sym, Mark, Lex}
use Rattle.tb_tree.specs.Words.{is_name}
use Rattle.tb_tree.specs.Shapes.{word}
use Rattle.tb_tree.specs.Types.{truth_of}
use Rattle.tb_tree.specs.Longest.{Found, Lacks, Ends, Never}
use Rattle.tb_tree.specs.Exprs.{IsExpr, IsExprs, IsProps, IsSpans, IsPrimary, name_expr, this_expr, number_expr, string_expr, template_expr, spans_expr, boolean_expr, null_expr, undefined_expr, parens_expr, array_expr, object_expr, new_expr}
use Rattle.tb_tree.proofs.Ends.{exact, never, ap_both}
use Rattle.tb_parse_type.specs.declared.reader.Reader.{Reader}
use Rattle.tb_parse_type.specs.Reading.{rest}
use Rattle.tb_parse_body.specs.Rules.{Deep, word_by, single_primary, PrimaryUpto, ExprUpto, ExprsUpto, PropsUpto, SpansUpto, InExpr, InList}
use Rattle.tb_parse_body.proofs.Enclosed.{Encloses, enclosed_found, enclosed_lacks, enclosed_lacks_close}

pub three_at : (r : Reader) (at : ℕ) {s t u : Sym} → rest r at ≡ s ∷ rest r (at + 1) → rest r (at + 1) ≡ t ∷ rest r (at + 1 + 1) → rest r (at + 2) ≡ u ∷ rest r (at + 2 + 1)
    → rest r at ≡ s ∷ t ∷ u ∷ rest r (at + 3)
three_at r at {s = s} {t = t} {u = u} e i j =
    let p : at + 1 + 1 ≡ at + 2 = omega arith in
    let q : at + 2 + 1 ≡ at + 3 = omega arith in
    e ∙ ap (λ v. s ∷ v) (i ∙ ap (λ v. t ∷ v) (ap (λ n. rest r n) p ∙ j ∙ ap (λ n. u ∷ rest r n) q))

-- a primary is one symbol, or begins with one of a few symbols
pub data PrimaryView : List Sym → Expr → ℕ → Type 0 where
  single : {s : Sym} {of : Expr} → single_primary s ≡ Some of → PrimaryView (s ∷ []) of 1
  spans : (spelled : List ℕ) (at : ℕ) {xs : List Sym} {spans : List TemplateSpan} {d : ℕ} → IsSpans true xs spans d → PrimaryView (Lex (c.Template part.Head) spelled at ∷ xs) (expr.Template at spelled spans) (d + 1)
  parens : (o p : ℕ) {xs : List Sym} {of : Expr} {d : ℕ} → IsExpr true true xs of d → PrimaryView (Mark m.OpenParen o ∷ xs ++ Mark m.CloseParen p ∷ []) (expr.Parens o of) (d + 1)
  array : (o p : ℕ) {xs : List Sym} {of : List Expr} {d : ℕ} → IsExprs true xs of d → PrimaryView (Mark m.OpenBracket o ∷ xs ++ Mark m.CloseBracket p ∷ []) (expr.Array o of) (d + 1)
  object : (o p : ℕ) {xs : List Sym} {of : List Prop} {d : ℕ} → IsProps true xs of d → PrimaryView (Mark m.OpenBrace o ∷ xs ++ Mark m.CloseBrace p ∷ []) (expr.Object o of) (d + 1)
  new : (kind : Word) (z : List ℕ) (n : ℕ) (s : List ℕ) (at o p : ℕ) {xs : List Sym} {of : List Expr} {d : ℕ} → is_name kind ≡ true → IsExprs true xs of d
      → PrimaryView (word words.New z n ∷ word kind s at ∷ Mark m.OpenParen o ∷ xs ++ Mark m.CloseParen p ∷ []) (expr.New n (record { at = at; name = s }) of) (d + 1)

truth_no_name : {v : Bool} (k : Word) → truth_of k ≡ Some v → is_name k ≡ false
truth_no_name words.True e = refl
truth_no_name words.False e = refl
truth_no_name _ e = cc

view : {a : List Sym} {u : Expr} {d : ℕ} → IsPrimary true a u d → PrimaryView a u d
view (name_expr {kind = k} s o h) = single (ap (λ (b : Bool). word_by b (truth_of k) k s o) h)
view (this_expr s o) = single refl
view (number_expr s o) = single refl
view (string_expr s o) = single refl
view (template_expr s o) = single refl
view (spans_expr s o q) = spans s o q
view (boolean_expr {kind = k} s o h) = single (ap (λ (b : Bool). word_by b (truth_of k) k s o) (truth_no_name k h) ∙ ap (λ (v : Option Bool). word_by false v k s o) h)
view (null_expr s o) = single refl
view (undefined_expr s o) = single refl
view (parens_expr o p q) = parens o p q
view (array_expr o p q) = array o p q
view (object_expr o p q) = object o p q
view (new_expr {kind = k} z n s at o p h q) = new k z n s at o p h q

as_primary : {xs : List Sym} {u of : Expr} → u ≡ of → IsPrimary true xs u 1 → IsPrimary true xs of 1
as_primary {xs = xs} e q = subst (λ x. IsPrimary true xs x 1) e q

other_in : {of : Expr} (kind : Word) (spelled : List ℕ) (at : ℕ) → word_by false None kind spelled at ≡ Some of → IsPrimary true (word kind spelled at ∷ []) of 1
other_in words.This spelled at e = as_primary (cc) (this_expr spelled at)
other_in words.Null spelled at e = as_primary (cc) (null_expr spelled at)
other_in words.Undefined spelled at e = as_primary (cc) (undefined_expr spelled at)
other_in _ spelled at e = cc

word_in : {of : Expr} (kind : Word) (spelled : List ℕ) (at : ℕ) (b : Bool) (v : Option Bool) → is_name kind ≡ b → truth_of kind ≡ v → word_by b v kind spelled at ≡ Some of → IsPrimary true (word kind spelled at ∷ []) of 1
word_in kind spelled at true v p q e = as_primary (cc) (name_expr spelled at p)
word_in kind spelled at false (Some v) p q e = as_primary (cc) (boolean_expr spelled at q)
word_in kind spelled at false None p q e = other_in kind spelled at e

single_in : (s : Sym) {of : Expr} → single_primary s ≡ Some of → IsPrimary true (s ∷ []) of 1
single_in (Lex (c.Word kind) spelled at) e = word_in kind spelled at (is_name kind) (truth_of kind) refl refl e
single_in (Lex c.Number spelled at) e = as_primary (cc) (number_expr spelled at)
single_in (Lex c.String spelled at) e = as_primary (cc) (string_expr spelled at)
single_in (Lex (c.Template part.Whole) spelled at) e = as_primary (cc) (template_expr spelled at)
single_in (Lex (c.Template _) spelled at) e = cc
single_in (Lex c.Bad spelled at) e = cc
single_in (Mark k at) e = cc

-- what begins a longer primary is none by itself
not_single : {of : Expr} (s t : Sym) → single_primary s ≡ Some of → single_primary t ≡ None → s ≡ t → ⊥
not_single {of = of} s t e n i = let j : None ≡ Some of = sym n ∙ ap single_primary (sym i) ∙ e in cc

pub primary_single : {s : Sym} {of : Expr} (n : ℕ) (ys : List Sym) → 0 < n → single_primary s ≡ Some of → Found (PrimaryUpto n) Never (s ∷ ys) (of, 1) ys
primary_single {s = s} {of = of} n ys h e = record {
  front = s ∷ [];
  whole = refl;
  derives = (single_in s e, omega (arith, h));
  longest = λ a y zs d w. go zs (view d.0) w;
}
  where
    go : {a : List Sym} {u : Expr} {d : ℕ} (zs : List Sym) → PrimaryView a u d → s ∷ ys ≡ a ++ zs → Ends {X = Deep Expr} Never (of, 1) ys (u, d) zs
    go zs (single {s = v} {of = u} f) w =
        let i : s ≡ v = cc in
        let j : Some of ≡ Some u = sym e ∙ ap single_primary i ∙ f in
        inl (cc, cc)
    go zs (spans p o q) w = absurd (not_single s (Lex (c.Template part.Head) p o) e refl cc)
    go zs (parens o p q) w = absurd (not_single s (Mark m.OpenParen o) e refl cc)
    go zs (array o p q) w = absurd (not_single s (Mark m.OpenBracket o) e refl cc)
    go zs (object o p q) w = absurd (not_single s (Mark m.OpenBrace o) e refl cc)
    go zs (new k z n t at o p h q) w = absurd (not_single s (word words.New z n) e refl cc)

pub primary_lacks_class : (k : Class) (spelled : List ℕ) (at n : ℕ) (ys : List Sym) → single_primary (Lex k spelled at) ≡ None → k ≢ c.Template part.Head → k ≢ c.Word words.New → Lacks (PrimaryUpto n) (Lex k spelled at ∷ ys)
primary_lacks_class k spelled at n ys e no_head no_new = record { none = λ a y zs d w. go zs (view d.0) w }
  where
    go : {a : List Sym} {u : Expr} {d : ℕ} (zs : List Sym) → PrimaryView a u d → Lex k spelled at ∷ ys ≡ a ++ zs → ⊥
    go zs (single {s = v} f) w = not_single v (Lex k spelled at) f e cc
    go zs (spans p o q) w = no_head cc
    go zs (parens o p q) w = cc
    go zs (array o p q) w = cc
    go zs (object o p q) w = cc
    go zs (new k z n t at o p h q) w = no_new cc

pub primary_lacks_mark : (k : MarkKind) (at n : ℕ) (ys : List Sym) → k ≢ m.OpenParen → k ≢ m.OpenBracket → k ≢ m.OpenBrace → Lacks (PrimaryUpto n) (Mark k at ∷ ys)
primary_lacks_mark k at n ys no_paren no_bracket no_brace = record { none = λ a y zs d w. go zs (view d.0) w }
  where
    go : {a : List Sym} {u : Expr} {d : ℕ} (zs : List Sym) → PrimaryView a u d → Mark k at ∷ ys ≡ a ++ zs → ⊥
    go zs (single {s = v} f) w = not_single v (Mark k at) f refl cc
    go zs (spans p o q) w = cc
    go zs (parens o p q) w = no_paren cc
    go zs (array o p q) w = no_bracket cc
    go zs (object o p q) w = no_brace cc
    go zs (new k z n t at o p h q) w = cc

pub primary_lacks_end : (n : ℕ) → Lacks (PrimaryUpto n) []
primary_lacks_end n = record { none = λ a y zs d w. go zs (view d.0) w }
  where
    go : {a : List Sym} {u : Expr} {d : ℕ} (zs : List Sym) → PrimaryView a u d → [] ≡ a ++ zs → ⊥
    go zs (single f) w = cc
    go zs (spans p o q) w = cc
    go zs (parens o p q) w = cc
    go zs (array o p q) w = cc
    go zs (object o p q) w = cc
    go zs (new k z n t at o p h q) w = cc

-- no primary has no depth
view_deep : {a : List Sym} {u : Expr} {d : ℕ} → PrimaryView a u d → 1 ≤ d
view_deep (single f) = omega arith
view_deep (spans p o q) = omega arith
view_deep (parens o p q) = omega arith
view_deep (array o p q) = omega arith
view_deep (object o p q) = omega arith
view_deep (new k z n t at o p h q) = omega arith

pub primary_lacks_shallow : (n : ℕ) (xs : List Sym) → n ≡ 0 → Lacks (PrimaryUpto n) xs
primary_lacks_shallow n xs i = record { none = λ a y zs d w. let h = view_deep (view d.0) in omega (arith, h, d.1) }

-- ---- parentheses, arrays, objects and `new`

abbrev pub parens_of : ℕ → Deep Expr → Deep Expr
parens_of o r = (expr.Parens o r.0, r.1 + 1)

abbrev pub array_of : ℕ → Deep (List Expr) → Deep Expr
array_of o r = (expr.Array o r.0, r.1 + 1)

abbrev pub object_of : ℕ → Deep (List Prop) → Deep Expr
object_of o r = (expr.Object o r.0, r.1 + 1)

abbrev pub new_of : ℕ → List ℕ → ℕ → Deep (List Expr) → Deep Expr
new_of n s at r = (expr.New n (record { at = at; name = s }) r.0, r.1 + 1)

paren_ends : (at : ℕ) → InExpr true (Mark m.CloseParen at) → ⊥
paren_ends at h = let n : true ≡ false = h in cc

pub list_paren_ends : (at : ℕ) → InList (Mark m.CloseParen at) → ⊥
list_paren_ends at h = let n : true ≡ false = h in cc

bracket_ends : (at : ℕ) → InList (Mark m.CloseBracket at) → ⊥
bracket_ends at h = let n : true ≡ false = h in cc

brace_ends : (at : ℕ) → InList (Mark m.CloseBrace at) → ⊥
brace_ends at h = let n : true ≡ false = h in cc

parens_back : (n o : ℕ) (xs : List Sym) → Encloses m.CloseParen (parens_of o) (ExprUpto true (n - 1)) (PrimaryUpto n) (Mark m.OpenParen o ∷ []) xs
parens_back n o xs a u us d w = go us (view d.0) d.1 w
  where
    go : {a : List Sym} {u : Expr} {d : ℕ} (us : List Sym) → PrimaryView a u d → d ≤ n → Mark m.OpenParen o ∷ xs ≡ a ++ us
        → (b : List Sym) × (r : Deep Expr) × (p : ℕ) × (xs ≡ b ++ (Mark m.CloseParen p ∷ us)) × ExprUpto true (n - 1) b r × (◌≡◌ {A = Deep Expr} (parens_of o r) (u, d))
    go us (single {s = v} f) h w = absurd (not_single v (Mark m.OpenParen o) f refl cc)
    go us (spans p o q) h w = cc
    go us (parens p q {xs = b} {of = of} {d = d} f) h w =
        let e : xs ≡ (b ++ Mark m.CloseParen q ∷ []) ++ us = cc in
        let i : o ≡ p = cc in
        (b, (of, d), q, e ∙ append_assoc b (Mark m.CloseParen q ∷ []) us, (f, omega (arith, h)), ap (λ (z : ℕ). parens_of z (of, d)) i)
    go us (array p q f) h w = cc
    go us (object p q f) h w = cc
    go us (new k z n t at o p i q) h w = cc

array_back : (n o : ℕ) (xs : List Sym) → Encloses m.CloseBracket (array_of o) (ExprsUpto (n - 1)) (PrimaryUpto n) (Mark m.OpenBracket o ∷ []) xs
array_back n o xs a u us d w = go us (view d.0) d.1 w
  where
    go : {a : List Sym} {u : Expr} {d : ℕ} (us : List Sym) → PrimaryView a u d → d ≤ n → Mark m.OpenBracket o ∷ xs ≡ a ++ us
        → (b : List Sym) × (r : Deep (List Expr)) × (p : ℕ) × (xs ≡ b ++ (Mark m.CloseBracket p ∷ us)) × ExprsUpto (n - 1) b r × (◌≡◌ {A = Deep Expr} (array_of o r) (u, d))
    go us (single {s = v} f) h w = absurd (not_single v (Mark m.OpenBracket o) f refl cc)
    go us (spans p o q) h w = cc
    go us (parens p q f) h w = cc
    go us (array p q {xs = b} {of = of} {d = d} f) h w =
        let e : xs ≡ (b ++ Mark m.CloseBracket q ∷ []) ++ us = cc in
        let i : o ≡ p = cc in
        (b, (of, d), q, e ∙ append_assoc b (Mark m.CloseBracket q ∷ []) us, (f, omega (arith, h)), ap (λ (z : ℕ). array_of z (of, d)) i)
    go us (object p q f) h w = cc
    go us (new k z n t at o p i q) h w = cc

object_back : (n o : ℕ) (xs : List Sym) → Encloses m.CloseBrace (object_of o) (PropsUpto (n - 1)) (PrimaryUpto n) (Mark m.OpenBrace o ∷ []) xs
object_back n o xs a u us d w = go us (view d.0) d.1 w
  where
    go : {a : List Sym} {u : Expr} {d : ℕ} (us : List Sym) → PrimaryView a u d → d ≤ n → Mark m.OpenBrace o ∷ xs ≡ a ++ us
        → (b : List Sym) × (r : Deep (List Prop)) × (p : ℕ) × (xs ≡ b ++ (Mark m.CloseBrace p ∷ us)) × PropsUpto (n - 1) b r × (◌≡◌ {A = Deep Expr} (object_of o r) (u, d))
    go us (single {s = v} f) h w = absurd (not_single v (Mark m.OpenBrace o) f refl cc)
    go us (spans p o q) h w = cc
    go us (parens p q f) h w = cc
    go us (array p q f) h w = cc
    go us (object p q {xs = b} {of = of} {d = d} f) h w =
        let e : xs ≡ (b ++ Mark m.CloseBrace q ∷ []) ++ us = cc in
        let i : o ≡ p = cc in
        (b, (of, d), q, e ∙ append_assoc b (Mark m.CloseBrace q ∷ []) us, (f, omega (arith, h)), ap (λ (z : ℕ). object_of z (of, d)) i)
    go us (new k z n t at o p i q) h w = cc

new_back : (n : ℕ) (kind : Word) (z : List ℕ) (y : ℕ) (s : List ℕ) (at o : ℕ) (xs : List Sym)
    → Encloses m.CloseParen (new_of y s at) (ExprsUpto (n - 1)) (PrimaryUpto n) (word words.New z y ∷ word kind s at ∷ Mark m.OpenParen o ∷ []) xs
new_back n kind z y s at o xs a u us d w = go us (view d.0) d.1 w
  where
    go : {a : List Sym} {u : Expr} {d : ℕ} (us : List Sym) → PrimaryView a u d → d ≤ n → word words.New z y ∷ word kind s at ∷ Mark m.OpenParen o ∷ xs ≡ a ++ us
        → (b : List Sym) × (r : Deep (List Expr)) × (p : ℕ) × (xs ≡ b ++ (Mark m.CloseParen p ∷ us)) × ExprsUpto (n - 1) b r × (◌≡◌ {A = Deep Expr} (new_of y s at r) (u, d))
    go us (single {s = v} f) h w = absurd (not_single v (word words.New z y) f refl cc)
    go us (spans p o q) h w = cc
    go us (parens p q f) h w = cc
    go us (array p q f) h w = cc
    go us (object p q f) h w = cc
    go us (new k z' y' s' at' o' q {xs = b} {of = of} {d = d} i f) h w =
        let e : xs ≡ (b ++ Mark m.CloseParen q ∷ []) ++ us = cc in
        let j : y ≡ y' = cc in
        let l : s ≡ s' = cc in
        let x : at ≡ at' = cc in (
          b,
          (of, d),
          q,
          e ∙ append_assoc b (Mark m.CloseParen q ∷ []) us,
          (f, omega (arith, h)),
          ap (λ (v : ℕ). new_of v s at (of, d)) j ∙ ap_both (λ (v : List ℕ) (p : ℕ). new_of y' v p (of, d)) l x,
        )

pub primary_parens : {r : Deep Expr} {xs : List Sym} (n o p : ℕ) (ys : List Sym) → 0 < n → Found (ExprUpto true (n - 1)) (InExpr true) xs r (Mark m.CloseParen p ∷ ys)
    → Found (PrimaryUpto n) Never (Mark m.OpenParen o ∷ xs) (parens_of o r) ys
primary_parens {xs = xs} n o p ys h f =
    enclosed_found m.CloseParen (parens_of o) (Mark m.OpenParen o ∷ []) p ys paren_ends (λ b d. (parens_expr o p d.0, omega (arith, h, d.1))) (parens_back n o xs) f

pub primary_lacks_inside : {xs : List Sym} (n o : ℕ) → Lacks (ExprUpto true (n - 1)) xs → Lacks (PrimaryUpto n) (Mark m.OpenParen o ∷ xs)
primary_lacks_inside {xs = xs} n o f = enclosed_lacks m.CloseParen (parens_of o) (Mark m.OpenParen o ∷ []) (parens_back n o xs) f

pub primary_lacks_close : {r : Deep Expr} {xs ys : List Sym} (n o : ℕ) → Found (ExprUpto true (n - 1)) (InExpr true) xs r ys → ((at : ℕ) (zs : List Sym) → ys ≡ Mark m.CloseParen at ∷ zs → ⊥)
    → Lacks (PrimaryUpto n) (Mark m.OpenParen o ∷ xs)
primary_lacks_close {xs = xs} n o f e = enclosed_lacks_close m.CloseParen (parens_of o) (Mark m.OpenParen o ∷ []) paren_ends (parens_back n o xs) f e

pub primary_array : {r : Deep (List Expr)} {xs : List Sym} (n o p : ℕ) (ys : List Sym) → 0 < n → Found (ExprsUpto (n - 1)) InList xs r (Mark m.CloseBracket p ∷ ys)
    → Found (PrimaryUpto n) Never (Mark m.OpenBracket o ∷ xs) (array_of o r) ys
primary_array {xs = xs} n o p ys h f =
    enclosed_found m.CloseBracket (array_of o) (Mark m.OpenBracket o ∷ []) p ys bracket_ends (λ b d. (array_expr o p d.0, omega (arith, h, d.1))) (array_back n o xs) f

pub primary_lacks_array : {r : Deep (List Expr)} {xs ys : List Sym} (n o : ℕ) → Found (ExprsUpto (n - 1)) InList xs r ys → ((at : ℕ) (zs : List Sym) → ys ≡ Mark m.CloseBracket at ∷ zs → ⊥)
    → Lacks (PrimaryUpto n) (Mark m.OpenBracket o ∷ xs)
primary_lacks_array {xs = xs} n o f e = enclosed_lacks_close m.CloseBracket (array_of o) (Mark m.OpenBracket o ∷ []) bracket_ends (array_back n o xs) f e

pub primary_object : {r : Deep (List Prop)} {xs : List Sym} (n o p : ℕ) (ys : List Sym) → 0 < n → Found (PropsUpto (n - 1)) InList xs r (Mark m.CloseBrace p ∷ ys)
    → Found (PrimaryUpto n) Never (Mark m.OpenBrace o ∷ xs) (object_of o r) ys
primary_object {xs = xs} n o p ys h f =
    enclosed_found m.CloseBrace (object_of o) (Mark m.OpenBrace o ∷ []) p ys brace_ends (λ b d. (object_expr o p d.0, omega (arith, h, d.1))) (object_back n o xs) f

pub primary_lacks_object : {r : Deep (List Prop)} {xs ys : List Sym} (n o : ℕ) → Found (PropsUpto (n - 1)) InList xs r ys → ((at : ℕ) (zs : List Sym) → ys ≡ Mark m.CloseBrace at ∷ zs → ⊥)
    → Lacks (PrimaryUpto n) (Mark m.OpenBrace o ∷ xs)
primary_lacks_object {xs = xs} n o f e = enclosed_lacks_close m.CloseBrace (object_of o) (Mark m.OpenBrace o ∷ []) brace_ends (object_back n o xs) f e

pub primary_new : {r : Deep (List Expr)} {xs : List Sym} (n : ℕ) (kind : Word) (z : List ℕ) (y : ℕ) (s : List ℕ) (at o p : ℕ) (ys : List Sym) → 0 < n → is_name kind ≡ true
    → Found (ExprsUpto (n - 1)) InList xs r (Mark m.CloseParen p ∷ ys) → Found (PrimaryUpto n) Never (word words.New z y ∷ word kind s at ∷ Mark m.OpenParen o ∷ xs) (new_of y s at r) ys
primary_new {xs = xs} n kind z y s at o p ys h i f =
    enclosed_found m.CloseParen (new_of y s at) (word words.New z y ∷ word kind s at ∷ Mark m.OpenParen o ∷ []) p ys list_paren_ends (λ b d. (new_expr z y s at o p i d.0, omega (arith, h, d.1)))
    (new_back n kind z y s at o xs) f

pub primary_lacks_new : {r : Deep (List Expr)} {xs ys : List Sym} (n : ℕ) (kind : Word) (z : List ℕ) (y : ℕ) (s : List ℕ) (at o : ℕ) → Found (ExprsUpto (n - 1)) InList xs r ys
    → ((at : ℕ) (zs : List Sym) → ys ≡ Mark m.CloseParen at ∷ zs → ⊥) → Lacks (PrimaryUpto n) (word words.New z y ∷ word kind s at ∷ Mark m.OpenParen o ∷ xs)
primary_lacks_new {xs = xs} n kind z y s at o f e =
    enclosed_lacks_close m.CloseParen (new_of y s at) (word words.New z y ∷ word kind s at ∷ Mark m.OpenParen o ∷ []) list_paren_ends (new_back n kind z y s at o xs) f e

-- `new` with no name behind it, or no `(` behind that
pub primary_lacks_class_name : (n : ℕ) (z : List ℕ) (y : ℕ) (xs : List Sym) → ((k : Word) (s : List ℕ) (at : ℕ) → is_name k ≡ true → (zs : List Sym) → xs ≡ word k s at ∷ zs → ⊥)
    → Lacks (PrimaryUpto n) (word words.New z y ∷ xs)
primary_lacks_class_name n z y xs e = record { none = λ a u zs d w. go zs (view d.0) w }
  where
    go : {a : List Sym} {u : Expr} {d : ℕ} (zs : List Sym) → PrimaryView a u d → word words.New z y ∷ xs ≡ a ++ zs → ⊥
    go zs (single {s = v} f) w = not_single v (word words.New z y) f refl cc
    go zs (spans p o q) w = cc
    go zs (parens o p q) w = cc
    go zs (array o p q) w = cc
    go zs (object o p q) w = cc
    go zs (new k z n t at o p {xs = b} h q) w = e k t at h (Mark m.OpenParen o ∷ (b ++ Mark m.CloseParen p ∷ []) ++ zs) cc

pub primary_lacks_class_open : (n : ℕ) (z : List ℕ) (y : ℕ) (s : Sym) (xs : List Sym) → ((o : ℕ) (zs : List Sym) → xs ≡ Mark m.OpenParen o ∷ zs → ⊥) → Lacks (PrimaryUpto n) (word words.New z y ∷ s ∷ xs)
primary_lacks_class_open n z y s xs e = record { none = λ a u zs d w. go zs (view d.0) w }
  where
    go : {a : List Sym} {u : Expr} {d : ℕ} (zs : List Sym) → PrimaryView a u d → word words.New z y ∷ s ∷ xs ≡ a ++ zs → ⊥
    go zs (single {s = v} f) w = not_single v (word words.New z y) f refl cc
    go zs (spans p o q) w = cc
    go zs (parens o p q) w = cc
    go zs (array o p q) w = cc
    go zs (object o p q) w = cc
    go zs (new k z n t at o p {xs = b} h q) w = e o ((b ++ Mark m.CloseParen p ∷ []) ++ zs) cc

-- ---- a template with spans

abbrev pub template_of : ℕ → List ℕ → Deep (List TemplateSpan) → Deep Expr
template_of o s r = (expr.Template o s r.0, r.1 + 1)

pub primary_template : {r : Deep (List TemplateSpan)} {xs ys : List Sym} (n : ℕ) (s : List ℕ) (o : ℕ) → 0 < n → Found (SpansUpto (n - 1)) Never xs r ys
    → Found (PrimaryUpto n) Never (Lex (c.Template part.Head) s o ∷ xs) (template_of o s r) ys
primary_template {r = r} {xs = xs} {ys = ys} n s o h f = record {
  front = Lex (c.Template part.Head) s o ∷ f.front;
  whole = ap (λ v. Lex (c.Template part.Head) s o ∷ v) f.whole;
  derives = (spans_expr s o f.derives.0, omega (arith, h, f.derives.1));
  longest = λ a y zs d w. go zs (view d.0) d.1 w;
}
  where
    go : {a : List Sym} {u : Expr} {d : ℕ} (zs : List Sym) → PrimaryView a u d → d ≤ n → Lex (c.Template part.Head) s o ∷ xs ≡ a ++ zs → Ends {X = Deep Expr} Never (template_of o s r) ys (u, d) zs
    go zs (single {s = v} f) k w = absurd (not_single v (Lex (c.Template part.Head) s o) f refl cc)
    go zs (spans t p {xs = b} {spans = ts} {d = d} q) k w =
        let e : xs ≡ b ++ zs = cc in
        let i : s ≡ t = cc in
        let j : o ≡ p = cc in
        let x = exact f b (ts, d) zs (q, omega (arith, k)) e (never zs) in
        inl (ap_both (λ (o : ℕ) (s : List ℕ). template_of o s r) j i ∙ ap (λ (v : Deep (List TemplateSpan)). template_of p t v) x.0, x.1)
    go zs (parens o p q) k w = cc
    go zs (array o p q) k w = cc
    go zs (object o p q) k w = cc
    go zs (new y z n t at o p h q) k w = cc

pub primary_lacks_spans : {xs : List Sym} (n : ℕ) (s : List ℕ) (o : ℕ) → Lacks (SpansUpto (n - 1)) xs → Lacks (PrimaryUpto n) (Lex (c.Template part.Head) s o ∷ xs)
primary_lacks_spans {xs = xs} n s o f = record { none = λ a y zs d w. go zs (view d.0) d.1 w }
  where
    go : {a : List Sym} {u : Expr} {d : ℕ} (zs : List Sym) → PrimaryView a u d → d ≤ n → Lex (c.Template part.Head) s o ∷ xs ≡ a ++ zs → ⊥
    go zs (single {s = v} f) k w = not_single v (Lex (c.Template part.Head) s o) f refl cc
    go zs (spans t p {xs = b} {spans = ts} {d = d} q) k w =
        let e : xs ≡ b ++ zs = cc in
        f.none b (ts, d) zs (q, omega (arith, k)) e
    go zs (parens o p q) k w = cc
    go zs (array o p q) k w = cc
    go zs (object o p q) k w = cc
    go zs (new y z n t at o p h q) k w = cc
