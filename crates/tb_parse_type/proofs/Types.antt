-- The longest type at the front of a list.
use Rattle.std.proofs.Common.{◌≡◌, ℕ, ◌+◌, ◌≤◌, max, Bool, true, false, List, [], ◌∷◌, ◌++◌, refl, sym, ◌∙◌, ap, subst, arith, append_assoc}
use Rattle.tb_tree.specs.declared.marks.Mark.{Mark as MarkKind}
use Rattle.tb_tree.specs.declared.marks.Mark.TheVariants as m
use Rattle.tb_tree.specs.declared.words.Class.{Class}
use Rattle.tb_tree.specs.declared.types.TypeExpr.{TypeExpr}
use Rattle.tb_tree.specs.declared.types.TypeExpr.TheVariants as t
use Rattle.tb_tree.specs.declared.types.TypeParam.{TypeParam}
use Rattle.tb_parse_type.specs.declared.reader.Limits.{Limits}
use Rattle.tb_tree.specs.Sym.{Sym, Mark, Lex}
use Rattle.tb_tree.specs.Longest.{Found, Lacks, Ends, Starts, Never}
use Rattle.tb_tree.specs.Shapes.{start_of, unmarked, marked}
use Rattle.tb_tree.specs.Types.{IsBrackets, no_brackets, brackets, IsElement, plain_element, read_only_element, IsUnion, one_element, several_elements, IsType, function_type, union_type, IsTypeParam, type_param, IsTypeParams, no_type_params, last_type_param, more_type_params}
use Rattle.tb_tree.proofs.Ends.{starts_by, ap_both, append_three}
use Rattle.tb_parse_type.specs.Rules.{Counted, Fits, inside, Then, MarkRule, IsFunction, function, TypeUpto, ParensUpto, FunctionUpto, UnionUpto, InType, InElement}
use Rattle.tb_parse_type.proofs.Joins.{IsBack, then_found, then_lacks, then_lacks_second, found_by, lacks_by, apart_never, mark_found, mark_lacks}
use Rattle.tb_parse_type.proofs.Atoms.{AtomView, single, minus, parens, braces, view, mark_not_single, atom_starts, type_counts}
use Rattle.tb_parse_type.proofs.Unions.{wider_symbol}

-- ---- a function

abbrev Parts : Type 0
Parts = Counted (List TypeParam) × (ℕ × Counted TypeExpr)

abbrev FunctionParts : Limits → List Sym → Parts → Type 0
FunctionParts l = Then (ParensUpto (inside l)) (Then (MarkRule m.Arrow) (TypeUpto (inside l)))

abbrev function_of : ℕ → Parts → Counted TypeExpr
function_of at r = (t.Function at r.0.0 r.1.1.0, max r.0.1 r.1.1.1 + 1, max r.0.2 r.1.1.2 + 1)

function_forth : (l : Limits) (at : ℕ) (a ys : List Sym) (x : Parts) → at ≡ start_of (a ++ ys) → FunctionParts l a x → FunctionUpto l a (function_of at x)
function_forth l at a ys x place d =
    let ps = d.3 in
    let q = d.4 in
    let n = type_counts q.4.0 in
    let e : Mark m.OpenParen ps.0 ∷ ps.2 ++ Mark m.CloseParen ps.1 ∷ Mark m.Arrow x.1.0 ∷ q.1 ≡ a =
    sym (append_assoc (Mark m.OpenParen ps.0 ∷ ps.2) (Mark m.CloseParen ps.1 ∷ []) (Mark m.Arrow x.1.0 ∷ q.1))
    ∙ ap_both (λ (u v : List Sym). u ++ v) (sym ps.3) (ap (λ v. v ++ q.1) (sym q.3) ∙ sym q.2) ∙ sym d.2 in
    let begins : ps.0 ≡ at = ap (λ v. start_of (v ++ ys)) e ∙ sym place in (
      subst (λ v. IsFunction v (t.Function at x.0.0 x.1.1.0) (max x.0.1 x.1.1.1 + 1) (max x.0.2 x.1.1.2 + 1)) e
          (subst (λ (o : ℕ). IsFunction (Mark m.OpenParen ps.0 ∷ ps.2 ++ Mark m.CloseParen ps.1 ∷ Mark m.Arrow x.1.0 ∷ q.1) (t.Function o x.0.0 x.1.1.0) (max x.0.1 x.1.1.1 + 1) (max x.0.2 x.1.1.2 + 1)) begins
          (function ps.0 ps.1 x.1.0 ps.4.0 q.4.0)),
      (omega (arith, n.0, ps.4.1.0, q.4.1.0), omega (arith, n.1, ps.4.1.1, q.4.1.1)),
    )

function_back : (l : Limits) (at : ℕ) (xs : List Sym) → at ≡ start_of xs → IsBack (function_of at) (FunctionParts l) (FunctionUpto l) xs
function_back l at xs place a u us d w = go us d.0 d.1.0 d.1.1 w
  where
    go : {a : List Sym} {u : TypeExpr} {own depth : ℕ} (us : List Sym) → IsFunction a u own depth → own ≤ l.own → depth ≤ l.depth → xs ≡ a ++ us
        → (v : Parts) × FunctionParts l a v × (◌≡◌ {A = Counted TypeExpr} (function_of at v) (u, own, depth))
    go us (function p q o {xs = b} {ys = c} {params = ps} {of = of} {own = e} {depth = d} {own_result = e'} {depth_result = d'} x y) i j w =
        let first : Fits (inside l) e d = (omega (arith, i), omega (arith, j)) in
        let second : Fits (inside l) e' d' = (omega (arith, i), omega (arith, j)) in
        let begins : at ≡ p = place ∙ ap start_of w in (
          ((ps, e, d), (o, (of, e', d'))),
          (
            Mark m.OpenParen p ∷ b ++ Mark m.CloseParen q ∷ [],
            Mark m.Arrow o ∷ c,
            sym (append_assoc (Mark m.OpenParen p ∷ b) (Mark m.CloseParen q ∷ []) (Mark m.Arrow o ∷ c)),
            (p, q, b, refl, (x, first)),
            (Mark m.Arrow o ∷ [], c, refl, refl, (y, second)),
          ),
          ap (λ (n : ℕ). function_of n ((ps, e, d), (o, (of, e', d')))) begins,
        )

pub function_found : {ps : Counted (List TypeParam)} {r : Counted TypeExpr} {xs ys zs : List Sym} (l : Limits) (at o : ℕ) → at ≡ start_of xs
    → Found (ParensUpto (inside l)) Never xs ps (Mark m.Arrow o ∷ ys) → Found (TypeUpto (inside l)) InType ys r zs
    → Found (FunctionUpto l) InType xs (t.Function at ps.0 r.0, max ps.1 r.1 + 1, max ps.2 r.2 + 1) zs
function_found {ps = ps} {r = r} {xs = xs} {ys = ys} {zs = zs} l at o place f g =
    found_by (function_of at) (λ a w d. function_forth l at a zs (ps, (o, r)) (place ∙ ap start_of w) d) (function_back l at xs place)
    (then_found (apart_never _) f (then_found (apart_never _) (mark_found m.Arrow o ys) g))

pub function_lacks : {xs : List Sym} (l : Limits) → Lacks (ParensUpto (inside l)) xs → Lacks (FunctionUpto l) xs
function_lacks {xs = xs} l f = lacks_by (function_of (start_of xs)) (function_back l (start_of xs) xs refl) (then_lacks _ f)

pub function_lacks_arrow : {ps : Counted (List TypeParam)} {xs ys : List Sym} (l : Limits) → Found (ParensUpto (inside l)) Never xs ps ys → ((o : ℕ) (zs : List Sym) → ys ≡ Mark m.Arrow o ∷ zs → ⊥)
    → Lacks (FunctionUpto l) xs
function_lacks_arrow {xs = xs} {ys = ys} l f n =
    lacks_by (function_of (start_of xs)) (function_back l (start_of xs) xs refl) (then_lacks_second (apart_never _) f (then_lacks _ (mark_lacks m.Arrow ys n)))

pub function_lacks_result : {ps : Counted (List TypeParam)} {xs ys : List Sym} (l : Limits) (o : ℕ) → Found (ParensUpto (inside l)) Never xs ps (Mark m.Arrow o ∷ ys) → Lacks (TypeUpto (inside l)) ys
    → Lacks (FunctionUpto l) xs
function_lacks_result {xs = xs} {ys = ys} l o f n =
    lacks_by (function_of (start_of xs)) (function_back l (start_of xs) xs refl)
    (then_lacks_second (apart_never _) f (then_lacks_second (apart_never _) (mark_found m.Arrow o ys) n))

-- ---- A list in parentheses that begins as parameters do is no type in parentheses.

-- what a type begins with
element_starts : {a : List Sym} {u : TypeExpr} {own depth : ℕ} (ys zs : List Sym) → IsElement a u own depth → ys ≡ a ++ zs → Starts InElement ys
element_starts ys zs (plain_element {xs = p} {ys = b} q r) w = atom_starts ys (b ++ zs) q (w ∙ append_assoc p b zs)
element_starts ys zs (read_only_element s o q r) w = starts_by InElement w refl

in_type : (zs : List Sym) → Starts InElement zs → Starts InType zs
in_type [] h = h
in_type (s ∷ zs) h = wider_symbol s h

union_starts : {a : List Sym} {u : TypeExpr} {own depth : ℕ} (ys zs : List Sym) → IsUnion a u own depth → ys ≡ a ++ zs → Starts InElement ys
union_starts ys zs (one_element q) w = element_starts ys zs q w
union_starts ys zs (several_elements bar {xs = p} {ys = b} {zs = c} q r s) w = element_starts ys (Mark m.Bar bar ∷ b ++ (c ++ zs)) q (w ∙ append_three p (Mark m.Bar bar ∷ b) c zs)

pub type_starts : {a : List Sym} {u : TypeExpr} {own depth : ℕ} (ys zs : List Sym) → IsType a u own depth → ys ≡ a ++ zs → Starts InType ys
type_starts ys zs (function_type p q o f g) w = starts_by InType w refl
type_starts ys zs (union_type unmarked q) w = in_type ys (union_starts ys zs q w)
type_starts ys zs (union_type (marked n) q) w = starts_by InType w refl

-- marks that may follow the name of a parameter
abbrev follows_name : MarkKind → Bool
follows_name m.Question = true
follows_name m.Colon = true
follows_name _ = false

-- a mark that begins no atom
no_atom : {a : List Sym} {u : TypeExpr} {e d : ℕ} (k : MarkKind) (o : ℕ) (ys zs : List Sym) → follows_name k ≡ true → AtomView a u e d → Mark k o ∷ ys ≡ a ++ zs → ⊥
no_atom k o ys zs h (single {s = v} f) w = mark_not_single v k o f cc
no_atom k o ys zs h (minus digits p q f) w = let i : k ≡ m.Minus = cc in let n : true ≡ false = sym h ∙ ap follows_name i in cc
no_atom k o ys zs h (parens p q f) w = let i : k ≡ m.OpenParen = cc in let n : true ≡ false = sym h ∙ ap follows_name i in cc
no_atom k o ys zs h (braces p q f) w = let i : k ≡ m.OpenBrace = cc in let n : true ≡ false = sym h ∙ ap follows_name i in cc

-- an element that begins with a word and such a mark is the word
after_word : {a : List Sym} {u : TypeExpr} {e d : ℕ} (s : Class) (w : List ℕ) (at o : ℕ) (k : MarkKind) (ys zs : List Sym) → AtomView a u e d → Lex s w at ∷ Mark k o ∷ ys ≡ a ++ zs → Mark k o ∷ ys ≡ zs
after_word s w at o k ys zs (single f) e = cc
after_word s w at o k ys zs (minus digits p q f) e = cc
after_word s w at o k ys zs (parens p q f) e = cc
after_word s w at o k ys zs (braces p q f) e = cc

after_brackets : {n : ℕ} {b : List Sym} (k : MarkKind) (o : ℕ) (ys zs : List Sym) → follows_name k ≡ true → IsBrackets n b → Mark k o ∷ ys ≡ b ++ zs → Mark k o ∷ ys ≡ zs
after_brackets k o ys zs h no_brackets e = e
after_brackets k o ys zs h (brackets p q r) e = let i : k ≡ m.OpenBracket = cc in let n : true ≡ false = sym h ∙ ap follows_name i in cc

after_element : {a : List Sym} {u : TypeExpr} {e d : ℕ} (s : Class) (w : List ℕ) (at o : ℕ) (k : MarkKind) (ys zs : List Sym) → follows_name k ≡ true → IsElement a u e d → Lex s w at ∷ Mark k o ∷ ys ≡ a ++ zs
    → Mark k o ∷ ys ≡ zs
after_element s w at o k ys zs h (plain_element {xs = p} {ys = b} q r) e = after_brackets k o ys zs h r (after_word s w at o k ys (b ++ zs) (view q) (e ∙ append_assoc p b zs))
after_element s w at o k ys zs h (read_only_element z n {xs = p} {ys = b} q r) e =
    let i : Mark k o ∷ ys ≡ (p ++ b) ++ zs = cc in
    absurd (no_atom k o ys (b ++ zs) h (view q) (i ∙ append_assoc p b zs))

after_union : {a : List Sym} {u : TypeExpr} {e d : ℕ} (s : Class) (w : List ℕ) (at o : ℕ) (k : MarkKind) (ys zs : List Sym) → follows_name k ≡ true → IsUnion a u e d → Lex s w at ∷ Mark k o ∷ ys ≡ a ++ zs
    → Mark k o ∷ ys ≡ zs
after_union s w at o k ys zs h (one_element q) e = after_element s w at o k ys zs h q e
after_union s w at o k ys zs h (several_elements bar {xs = p} {ys = b} {zs = c} q r x) e =
    let i = after_element s w at o k ys (Mark m.Bar bar ∷ b ++ (c ++ zs)) h q (e ∙ append_three p (Mark m.Bar bar ∷ b) c zs) in
    let j : k ≡ m.Bar = cc in
    let n : true ≡ false = sym h ∙ ap follows_name j in cc

after_type : {a : List Sym} {u : TypeExpr} {e d : ℕ} (s : Class) (w : List ℕ) (at o : ℕ) (k : MarkKind) (ys zs : List Sym) → follows_name k ≡ true → IsType a u e d → Lex s w at ∷ Mark k o ∷ ys ≡ a ++ zs
    → Mark k o ∷ ys ≡ zs
after_type s w at o k ys zs h (function_type p q n f g) e = cc
after_type s w at o k ys zs h (union_type unmarked q) e = after_union s w at o k ys zs h q e
after_type s w at o k ys zs h (union_type (marked n) q) e = cc

-- a type in parentheses
Inside : List Sym → Type 0
Inside xs = (p : List Sym) × (of : TypeExpr) × (own : ℕ) × (depth : ℕ) × (close : ℕ) × (us : List Sym) × IsType p of own depth × (xs ≡ p ++ (Mark m.CloseParen close ∷ us))

atom_inside : {a : List Sym} {u : TypeExpr} {e d : ℕ} (o : ℕ) (xs vs : List Sym) → AtomView a u e d → Mark m.OpenParen o ∷ xs ≡ a ++ vs → Inside xs
unfolding Inside
atom_inside o xs vs (single {s = v} f) w = absurd (mark_not_single v m.OpenParen o f cc)
atom_inside o xs vs (minus digits p q f) w = cc
atom_inside o xs vs (parens p q {xs = b} {of = of} {own = own} {depth = depth} f) w =
    let e : xs ≡ (b ++ Mark m.CloseParen q ∷ []) ++ vs = cc in
    (b, of, own, depth, q, vs, f, e ∙ append_assoc b (Mark m.CloseParen q ∷ []) vs)
atom_inside o xs vs (braces p q f) w = cc

element_inside : {a : List Sym} {u : TypeExpr} {e d : ℕ} (o : ℕ) (xs vs : List Sym) → IsElement a u e d → Mark m.OpenParen o ∷ xs ≡ a ++ vs → Inside xs
element_inside o xs vs (plain_element {xs = p} {ys = b} q r) w = atom_inside o xs (b ++ vs) (view q) (w ∙ append_assoc p b vs)
element_inside o xs vs (read_only_element s n q r) w = cc

union_inside : {a : List Sym} {u : TypeExpr} {e d : ℕ} (o : ℕ) (xs vs : List Sym) → IsUnion a u e d → Mark m.OpenParen o ∷ xs ≡ a ++ vs → Inside xs
union_inside o xs vs (one_element q) w = element_inside o xs vs q w
union_inside o xs vs (several_elements bar {xs = p} {ys = b} {zs = c} q r s) w = element_inside o xs (Mark m.Bar bar ∷ b ++ (c ++ vs)) q (w ∙ append_three p (Mark m.Bar bar ∷ b) c vs)

name_not_inside : (s : Class) (w : List ℕ) (at o : ℕ) (k : MarkKind) (ys : List Sym) → follows_name k ≡ true → Inside (Lex s w at ∷ Mark k o ∷ ys) → ⊥
unfolding Inside
name_not_inside s w at o k ys h i =
    let e : Mark k o ∷ ys ≡ Mark m.CloseParen i.4 ∷ i.5 = after_type s w at o k ys (Mark m.CloseParen i.4 ∷ i.5) h i.6 i.7 in
    let j : k ≡ m.CloseParen = cc in
    let n : true ≡ false = sym h ∙ ap follows_name j in cc

param_not_inside : {a : List Sym} {u : TypeParam} {e d : ℕ} (xs vs : List Sym) → IsTypeParam a u e d → xs ≡ a ++ vs → Inside xs → ⊥
param_not_inside xs vs (type_param s o colon {ys = y} n unmarked t) w i = name_not_inside _ s o colon m.Colon (y ++ vs) refl (subst (λ v. Inside v) w i)
param_not_inside xs vs (type_param s o colon {ys = y} n (marked z) t) w i = name_not_inside _ s o z m.Question (Mark m.Colon colon ∷ y ++ vs) refl (subst (λ v. Inside v) w i)

close_not_inside : (o : ℕ) (vs : List Sym) → Inside (Mark m.CloseParen o ∷ vs) → ⊥
unfolding Inside
close_not_inside o vs i =
    let n : false ≡ true = type_starts (Mark m.CloseParen o ∷ vs) (Mark m.CloseParen i.4 ∷ i.5) i.6 i.7 in
    cc

params_not_inside : {ps : List Sym} {u : List TypeParam} {e d : ℕ} (o : ℕ) (xs vs : List Sym) → IsTypeParams ps u e d → xs ≡ ps ++ (Mark m.CloseParen o ∷ vs) → Inside xs → ⊥
params_not_inside o xs vs no_type_params w i = close_not_inside o vs (subst (λ v. Inside v) w i)
params_not_inside o xs vs (last_type_param q) w i = param_not_inside xs (Mark m.CloseParen o ∷ vs) q w i
params_not_inside o xs vs (more_type_params comma {xs = a} {ys = b} q r) w i =
    param_not_inside xs (Mark m.Comma comma ∷ b ++ (Mark m.CloseParen o ∷ vs)) q (w ∙ append_assoc a (Mark m.Comma comma ∷ b) (Mark m.CloseParen o ∷ vs)) i

-- no list begins both as a function and as a union
function_no_union : {a b : List Sym} {u v : TypeExpr} {e d i j : ℕ} (xs us vs : List Sym) → IsFunction a u e d → IsUnion b v i j → xs ≡ a ++ us → xs ≡ b ++ vs → ⊥
function_no_union xs us vs (function p q o {xs = a} {ys = c} x y) s w z =
    let front : xs ≡ Mark m.OpenParen p ∷ (a ++ (Mark m.CloseParen q ∷ Mark m.Arrow o ∷ c ++ us)) = w ∙ append_assoc (Mark m.OpenParen p ∷ a) (Mark m.CloseParen q ∷ Mark m.Arrow o ∷ c) us in
    params_not_inside q (a ++ (Mark m.CloseParen q ∷ Mark m.Arrow o ∷ c ++ us)) (Mark m.Arrow o ∷ c ++ us) x refl
    (union_inside p (a ++ (Mark m.CloseParen q ∷ Mark m.Arrow o ∷ c ++ us)) vs s (sym front ∙ z))

-- ---- a type

-- no union begins with a bar
union_no_bar : {a : List Sym} {u : TypeExpr} {e d : ℕ} (o : ℕ) (xs zs : List Sym) → IsUnion a u e d → Mark m.Bar o ∷ xs ≡ a ++ zs → ⊥
union_no_bar o xs zs q w = let n : false ≡ true = union_starts (Mark m.Bar o ∷ xs) zs q w in cc

pub type_function : {r : Counted TypeExpr} {xs ys : List Sym} (l : Limits) → Found (FunctionUpto l) InType xs r ys → Found (TypeUpto l) InType xs r ys
type_function {r = r} {xs = xs} {ys = ys} l f = record {
  front = f.front;
  whole = f.whole;
  derives = into f.derives.0 f.derives.1;
  longest = λ a y us d w. go us d.0 d.1 w;
}
  where
    into : {a : List Sym} {u : TypeExpr} {e d : ℕ} → IsFunction a u e d → Fits l e d → TypeUpto l a (u, e, d)
    into (function p q o x y) fit = (function_type p q o x y, fit)

    no_bar : {a : List Sym} {u : TypeExpr} {e d : ℕ} (us : List Sym) → IsFunction a u e d → xs ≡ a ++ us → (o : ℕ) (vs : List Sym) → xs ≡ Mark m.Bar o ∷ vs → ⊥
    no_bar us (function p q n x y) w o vs e = cc

    go : {u : TypeExpr} {a : List Sym} {e d : ℕ} (us : List Sym) → IsType a u e d → Fits l e d → xs ≡ a ++ us → Ends {X = Counted TypeExpr} InType r ys (u, e, d) us
    go us (function_type p q o x y) fit w = f.longest _ (_, _, _) us (function p q o x y, fit) w
    go us (union_type {ys = b} (marked o) q) fit w = absurd (no_bar ys f.derives.0 f.whole o (b ++ us) w)
    go us (union_type unmarked q) fit w = absurd (function_no_union xs ys us f.derives.0 q f.whole w)

pub type_bare : {r : Counted TypeExpr} {xs ys : List Sym} (l : Limits) → Lacks (FunctionUpto l) xs → ((o : ℕ) (zs : List Sym) → xs ≡ Mark m.Bar o ∷ zs → ⊥) → Found (UnionUpto l) InType xs r ys
    → Found (TypeUpto l) InType xs r ys
type_bare {r = r} {xs = xs} {ys = ys} l g h f = record {
  front = f.front;
  whole = f.whole;
  derives = (union_type unmarked f.derives.0, f.derives.1);
  longest = λ a y us d w. go us d.0 d.1 w;
}
  where
    go : {u : TypeExpr} {a : List Sym} {e d : ℕ} (us : List Sym) → IsType a u e d → Fits l e d → xs ≡ a ++ us → Ends {X = Counted TypeExpr} InType r ys (u, e, d) us
    go us (function_type p q o x y) fit w = absurd (g.none _ (_, _, _) us (function p q o x y, fit) w)
    go us (union_type {ys = b} (marked o) q) fit w = absurd (h o (b ++ us) w)
    go us (union_type {ys = b} {of = u} {own = e} {depth = d} unmarked q) fit w = f.longest b (u, e, d) us (q, fit) w

pub type_lead : {r : Counted TypeExpr} {xs ys : List Sym} (l : Limits) (o : ℕ) → Found (UnionUpto l) InType xs r ys → Found (TypeUpto l) InType (Mark m.Bar o ∷ xs) r ys
type_lead {r = r} {xs = xs} {ys = ys} l o f = record {
  front = Mark m.Bar o ∷ f.front;
  whole = ap (λ v. Mark m.Bar o ∷ v) f.whole;
  derives = (union_type (marked o) f.derives.0, f.derives.1);
  longest = λ a y us d w. go us d.0 d.1 w;
}
  where
    go : {u : TypeExpr} {a : List Sym} {e d : ℕ} (us : List Sym) → IsType a u e d → Fits l e d → Mark m.Bar o ∷ xs ≡ a ++ us → Ends {X = Counted TypeExpr} InType r ys (u, e, d) us
    go us (function_type p q n x y) fit w = cc
    go us (union_type {ys = b} {of = u} {own = e} {depth = d} (marked n) q) fit w = f.longest b (u, e, d) us (q, fit) cc
    go us (union_type unmarked q) fit w = absurd (union_no_bar o xs us q w)

pub type_lacks : {xs : List Sym} (l : Limits) → Lacks (FunctionUpto l) xs → ((o : ℕ) (zs : List Sym) → xs ≡ Mark m.Bar o ∷ zs → ⊥) → Lacks (UnionUpto l) xs → Lacks (TypeUpto l) xs
type_lacks {xs = xs} l g h f = record { none = λ a y us d w. go us d.0 d.1 w }
  where
    go : {u : TypeExpr} {a : List Sym} {e d : ℕ} (us : List Sym) → IsType a u e d → Fits l e d → xs ≡ a ++ us → ⊥
    go us (function_type p q o x y) fit w = g.none _ (_, _, _) us (function p q o x y, fit) w
    go us (union_type {ys = b} (marked o) q) fit w = h o (b ++ us) w
    go us (union_type {ys = b} {of = u} {own = e} {depth = d} unmarked q) fit w = f.none b (u, e, d) us (q, fit) w

pub type_lacks_lead : {xs : List Sym} (l : Limits) (o : ℕ) → Lacks (UnionUpto l) xs → Lacks (TypeUpto l) (Mark m.Bar o ∷ xs)
type_lacks_lead {xs = xs} l o f = record { none = λ a y us d w. go us d.0 d.1 w }
  where
    go : {u : TypeExpr} {a : List Sym} {e d : ℕ} (us : List Sym) → IsType a u e d → Fits l e d → Mark m.Bar o ∷ xs ≡ a ++ us → ⊥
    go us (function_type p q n x y) fit w = cc
    go us (union_type {ys = b} {of = u} {own = e} {depth = d} (marked n) q) fit w = f.none b (u, e, d) us (q, fit) cc
    go us (union_type unmarked q) fit w = union_no_bar o xs us q w

pub type_lacks_shallow : (l : Limits) (xs : List Sym) → l.own ≡ 0 → Lacks (TypeUpto l) xs
type_lacks_shallow l xs e = record { none = λ a y us d w. let n = type_counts d.0 in absurd (omega (arith, d.1.0, n.0, e)) }
