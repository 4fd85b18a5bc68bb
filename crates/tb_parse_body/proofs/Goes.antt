-- How a type goes on behind a shorter one.
use Rattle.std.proofs.Common.{◌≡◌, ℕ, suc, ◌+◌, ◌<◌, Bool, true, false, List, [], ◌∷◌, ◌++◌, length, refl, sym, ◌∙◌, ap, arith, append_assoc, length-append, append-nil}
use Rattle.tb_tree.specs.declared.marks.Mark.{Mark as MarkKind}
use Rattle.tb_tree.specs.declared.marks.Mark.TheVariants as m
use Rattle.tb_tree.specs.declared.words.Word.{Word}
use Rattle.tb_tree.specs.declared.words.Word.TheVariants as w
use Rattle.tb_tree.specs.declared.words.Class.{Class}
use Rattle.tb_tree.specs.declared.words.Class.TheVariants as c
use Rattle.tb_tree.specs.declared.types.TypeExpr.{TypeExpr}
use Rattle.tb_tree.specs.declared.types.TypeParam.{TypeParam}
use Rattle.tb_tree.specs.Sym.{Sym, Mark, Lex}
use Rattle.tb_tree.specs.Shapes.{word, unmarked, marked}
use Rattle.tb_tree.specs.Types.{IsAtom, keyword_type, boolean_type, string_type, integer_type, minus_type, written_type, parens_type, object_type, IsTypeParam, type_param, IsTypeParams, no_type_params, last_type_param, more_type_params, IsBrackets, no_brackets, brackets, IsElement, plain_element, read_only_element, IsTail, no_tail, more_tail, IsUnion, one_element, several_elements, IsType, function_type, union_type}
use Rattle.tb_parse_body.proofs.Even.{Closes, turn_of, Even, group_exact, type_even, type_params_even, members_even}

-- ---- atoms are exact

-- what an atom begins with
data AtomView : List Sym → Type 0 where
  single : (k : Class) (s : List ℕ) (at : ℕ) → AtomView (Lex k s at ∷ [])
  minus : (digits : List ℕ) (at digits_at : ℕ) → AtomView (Mark m.Minus at ∷ Lex c.Number digits digits_at ∷ [])
  parens : (open_at close_at : ℕ) {xs : List Sym} → Even xs → AtomView (Mark m.OpenParen open_at ∷ xs ++ Mark m.CloseParen close_at ∷ [])
  braces : (open_at close_at : ℕ) {xs : List Sym} → Even xs → AtomView (Mark m.OpenBrace open_at ∷ xs ++ Mark m.CloseBrace close_at ∷ [])

view : {xs : List Sym} {of : TypeExpr} {own depth : ℕ} → IsAtom xs of own depth → AtomView xs
view (keyword_type s at e) = single _ s at
view (boolean_type s at e) = single _ s at
view (string_type s at) = single _ s at
view (integer_type s at e) = single _ s at
view (minus_type s at digits_at e) = minus s at digits_at
view (written_type s at e) = single _ s at
view (parens_type o p q) = parens o p (type_even q)
view (object_type o p q) = braces o p (members_even q)

-- the marks that begin an atom
abbrev pub begins_atom : MarkKind → Bool
begins_atom m.Minus = true
begins_atom m.OpenParen = true
begins_atom m.OpenBrace = true
begins_atom _ = false

view_begins : {a : List Sym} (k : MarkKind) (o : ℕ) (ys zs : List Sym) → begins_atom k ≡ false → AtomView a → Mark k o ∷ ys ≡ a ++ zs → ⊥
view_begins k o ys zs h (single n s at) e = cc
view_begins k o ys zs h (minus digits p q) e = let i : k ≡ m.Minus = cc in let n : false ≡ true = sym h ∙ ap begins_atom i in cc
view_begins k o ys zs h (parens p q f) e = let i : k ≡ m.OpenParen = cc in let n : false ≡ true = sym h ∙ ap begins_atom i in cc
view_begins k o ys zs h (braces p q f) e = let i : k ≡ m.OpenBrace = cc in let n : false ≡ true = sym h ∙ ap begins_atom i in cc

-- no atom begins with another mark
pub atom_begins : {a : List Sym} {u : TypeExpr} {own depth : ℕ} (k : MarkKind) (o : ℕ) (ys zs : List Sym) → begins_atom k ≡ false → IsAtom a u own depth → Mark k o ∷ ys ≡ a ++ zs → ⊥
atom_begins k o ys zs h q e = view_begins k o ys zs h (view q) e

-- no atom is empty
view_some : {a : List Sym} (zs : List Sym) → AtomView a → [] ≡ a ++ zs → ⊥
view_some zs (single n s at) e = cc
view_some zs (minus digits p q) e = cc
view_some zs (parens p q f) e = cc
view_some zs (braces p q f) e = cc

pub atom_some : {a : List Sym} {u : TypeExpr} {own depth : ℕ} (zs : List Sym) → IsAtom a u own depth → [] ≡ a ++ zs → ⊥
atom_some zs q e = view_some zs (view q) e

-- an atom that begins with a word is that word
view_word : {a : List Sym} (k : Word) (s : List ℕ) (o : ℕ) (ys zs : List Sym) → AtomView a → word k s o ∷ ys ≡ a ++ zs → (a ≡ word k s o ∷ []) × (ys ≡ zs)
view_word k s o ys zs (single n v at) e = (cc, cc)
view_word k s o ys zs (minus digits p q) e = cc
view_word k s o ys zs (parens p q f) e = cc
view_word k s o ys zs (braces p q f) e = cc

pub atom_word : {a : List Sym} {u : TypeExpr} {own depth : ℕ} (k : Word) (s : List ℕ) (o : ℕ) (ys zs : List Sym) → IsAtom a u own depth → word k s o ∷ ys ≡ a ++ zs → (a ≡ word k s o ∷ []) × (ys ≡ zs)
atom_word k s o ys zs q e = view_word k s o ys zs (view q) e

-- balanced symbols before a closing mark, as a group of its own has them
pub closed_same : {x y : List Sym} (k : MarkKind) (p q : ℕ) (zs ws : List Sym) → ((at : ℕ) → turn_of (Mark k at) ≡ Closes) → Even x → Even y
    → x ++ Mark k p ∷ [] ++ zs ≡ y ++ Mark k q ∷ [] ++ ws → (x ≡ y) × (p ≡ q) × (zs ≡ ws)
closed_same {x = x} {y = y} k p q zs ws h d e i =
    let j = group_exact (Mark k p) (Mark k q) zs ws d e (h p) (h q) (sym (append_assoc x (Mark k p ∷ []) zs) ∙ i ∙ append_assoc y (Mark k q ∷ []) ws) in
    let l = j.1 in (j.0, cc, j.2)

views_same : {a b : List Sym} (zs ws : List Sym) → AtomView a → AtomView b → a ++ zs ≡ b ++ ws → (a ≡ b) × (zs ≡ ws)
views_same zs ws (single k s at) (single k' s' at') e = (cc, cc)
views_same zs ws (single k s at) (minus digits p q) e = cc
views_same zs ws (single k s at) (parens p q g) e = cc
views_same zs ws (single k s at) (braces p q g) e = cc
views_same zs ws (minus digits p q) (single k s at) e = cc
views_same zs ws (minus digits p q) (minus digits' p' q') e = (cc, cc)
views_same zs ws (minus digits p q) (parens p' q' g) e = cc
views_same zs ws (minus digits p q) (braces p' q' g) e = cc
views_same zs ws (parens p q f) (single k s at) e = cc
views_same zs ws (parens p q f) (minus digits p' q') e = cc
views_same zs ws (parens p q {xs = x} f) (parens p' q' {xs = y} g) e =
    let j = closed_same m.CloseParen q q' zs ws (λ at. refl) f g cc in
    let i : p ≡ p' = cc in
    let k = j.0 in
    let l = j.1 in (cc, j.2)
views_same zs ws (parens p q f) (braces p' q' g) e = cc
views_same zs ws (braces p q f) (single k s at) e = cc
views_same zs ws (braces p q f) (minus digits p' q') e = cc
views_same zs ws (braces p q f) (parens p' q' g) e = cc
views_same zs ws (braces p q {xs = x} f) (braces p' q' {xs = y} g) e =
    let j = closed_same m.CloseBrace q q' zs ws (λ at. refl) f g cc in
    let i : p ≡ p' = cc in
    let k = j.0 in
    let l = j.1 in (cc, j.2)

-- atoms of one list end at one place
pub atoms_same : {a b : List Sym} {u v : TypeExpr} {own depth own' depth' : ℕ} (zs ws : List Sym) → IsAtom a u own depth → IsAtom b v own' depth' → a ++ zs ≡ b ++ ws → (a ≡ b) × (zs ≡ ws)
atoms_same zs ws q r e = views_same zs ws (view q) (view r) e

-- an atom that begins with a brace ends where any balanced group does that begins there
view_brace : {a xs : List Sym} (o p : ℕ) (ys zs : List Sym) → Even xs → AtomView a → Mark m.OpenBrace o ∷ (xs ++ (Mark m.CloseBrace p ∷ ys)) ≡ a ++ zs → ys ≡ zs
view_brace o p ys zs d (single k s at) e = cc
view_brace o p ys zs d (minus digits n q) e = cc
view_brace o p ys zs d (parens n q f) e = cc
view_brace {xs = x} o p ys zs d (braces n q {xs = y} f) e = (closed_same m.CloseBrace p q ys zs (λ at. refl) d f (append_assoc x (Mark m.CloseBrace p ∷ []) ys ∙ (cc))).2

pub atom_brace : {a xs : List Sym} {u : TypeExpr} {own depth : ℕ} (o p : ℕ) (ys zs : List Sym) → Even xs → IsAtom a u own depth → Mark m.OpenBrace o ∷ (xs ++ (Mark m.CloseBrace p ∷ ys)) ≡ a ++ zs → ys ≡ zs
atom_brace o p ys zs d q e = view_brace o p ys zs d (view q) e

-- ---- how a type goes on

-- what may follow a part of a type within it
pub data Rest : List Sym → Type 0 where
  rest_none : Rest []
  rest_brackets : (o p : ℕ) (vs : List Sym) → Rest (Mark m.OpenBracket o ∷ Mark m.CloseBracket p ∷ vs)
  rest_bar : (o : ℕ) (vs : List Sym) → Rest (Mark m.Bar o ∷ vs)

brackets_rest : {n : ℕ} {r : List Sym} → IsBrackets n r → Rest r
brackets_rest no_brackets = rest_none
brackets_rest (brackets o p q) = rest_brackets o p _

rest_tail : {r ys : List Sym} {of : List TypeExpr} {own depth : ℕ} → Rest r → IsTail ys of own depth → Rest (r ++ ys)
rest_tail rest_none no_tail = rest_none
rest_tail rest_none (more_tail bar q r) = rest_bar bar _
rest_tail (rest_brackets o p vs) t = rest_brackets o p _
rest_tail (rest_bar o vs) t = rest_bar o _

-- An element that ends before zs goes on to ws: with `[ ]`; or it ended in the name `readonly`, and is the read-only array of the atom
-- that follows.
pub data On (a zs ws : List Sym) : Type 0 where
  brackets_on : (o p : ℕ) (r : List Sym) → zs ≡ Mark m.OpenBracket o ∷ Mark m.CloseBracket p ∷ (r ++ ws) → On a zs ws
  read_only_on : (front : List Sym) (spelled : List ℕ) (at : ℕ) {x : List Sym} {of : TypeExpr} {own depth : ℕ} (o p : ℕ) (r : List Sym)
      → a ≡ front ++ (word w.Readonly spelled at ∷ []) → IsAtom x of own depth → Rest r → zs ≡ x ++ (Mark m.OpenBracket o ∷ Mark m.CloseBracket p ∷ (r ++ ws)) → On a zs ws

-- a union also with `|`
pub data Beyond (a zs ws : List Sym) : Type 0 where
  bar_on : (o : ℕ) (r : List Sym) → zs ≡ Mark m.Bar o ∷ (r ++ ws) → Beyond a zs ws
  element_on : On a zs ws → Beyond a zs ws

-- two fronts of one list end at one place, or one goes on behind the other
pub data Going (F : List Sym → List Sym → List Sym → Type 0) (a zs b ws : List Sym) : Type 0 where
  same : zs ≡ ws → Going F a zs b ws
  left : F a zs ws → Going F a zs b ws
  right : F b ws zs → Going F a zs b ws

flip : {F : List Sym → List Sym → List Sym → Type 0} {a zs b ws : List Sym} → Going F b ws a zs → Going F a zs b ws
flip (same e) = same (sym e)
flip (left f) = right f
flip (right f) = left f

-- what goes on is longer
on_longer : {a zs ws : List Sym} → On a zs ws → length ws < length zs
on_longer {ws = ws} (brackets_on o p r e) = omega (arith, ap length e, length-append r ws)
on_longer {ws = ws} (read_only_on front s at {x = x} o p r i q t e) = omega (arith, ap length e, length-append x (Mark m.OpenBracket o ∷ Mark m.CloseBracket p ∷ (r ++ ws)), length-append r ws)

pub beyond_longer : {a zs ws : List Sym} → Beyond a zs ws → length ws < length zs
beyond_longer {ws = ws} (bar_on o r e) = omega (arith, ap length e, length-append r ws)
beyond_longer (element_on q) = on_longer q

-- the same with more before it
on_behind : {a b zs ws : List Sym} (p : List Sym) → b ≡ p ++ a → On a zs ws → On b zs ws
on_behind p e (brackets_on o q r i) = brackets_on o q r i
on_behind p e (read_only_on front s at o q r i d t j) = read_only_on (p ++ front) s at o q r (e ∙ ap (λ v. p ++ v) i ∙ sym (append_assoc p front (word w.Readonly s at ∷ []))) d t j

beyond_behind : {a b zs ws : List Sym} (p : List Sym) → b ≡ p ++ a → Beyond a zs ws → Beyond b zs ws
beyond_behind p e (bar_on o r i) = bar_on o r i
beyond_behind p e (element_on q) = element_on (on_behind p e q)

going_behind : {a b zs ws c d : List Sym} (p q : List Sym) → c ≡ p ++ a → d ≡ q ++ b → Going Beyond a zs b ws → Going Beyond c zs d ws
going_behind p q e i (same j) = same j
going_behind p q e i (left f) = left (beyond_behind p e f)
going_behind p q e i (right f) = right (beyond_behind q i f)

-- ---- elements

brackets_going : {n k : ℕ} {a b x y : List Sym} (zs ws : List Sym) → IsBrackets n a → IsBrackets k b → a ++ zs ≡ b ++ ws → Going On x zs y ws
brackets_going zs ws no_brackets no_brackets e = same e
brackets_going zs ws no_brackets (brackets o p {xs = r} q) e = left (brackets_on o p r e)
brackets_going zs ws (brackets o p {xs = r} q) no_brackets e = right (brackets_on o p r (sym e))
brackets_going zs ws (brackets o p q) (brackets o' p' r) e = brackets_going zs ws q r cc

-- a plain element beside a read-only array
read_only_going : {n k : ℕ} {a x b y : List Sym} {u v : TypeExpr} {own depth own' depth' : ℕ} (s : List ℕ) (at : ℕ) (zs ws : List Sym)
    → IsAtom a u own depth → IsBrackets n x → IsAtom b v own' depth' → IsBrackets (suc k) y → a ++ x ++ zs ≡ word w.Readonly s at ∷ b ++ y ++ ws → On (a ++ x) zs ws
read_only_going {a = a} {x = x} {b = b} {y = y} s at zs ws q r t f e =
    let i = atom_word w.Readonly s at (b ++ y ++ ws) (x ++ zs) q (sym e ∙ append_assoc a x zs) in
    go r f i.0 (sym i.1 ∙ append_assoc b y ws)
  where
    go : {n k : ℕ} {x y : List Sym} → IsBrackets n x → IsBrackets (suc k) y → a ≡ word w.Readonly s at ∷ [] → x ++ zs ≡ b ++ (y ++ ws) → On (a ++ x) zs ws
    go no_brackets (brackets o p {xs = r} g) i j = read_only_on [] s at o p r (append-nil a ∙ i) t (brackets_rest g) j
    go {y = y} (brackets o p {xs = r} h) g i j = absurd (atom_begins m.OpenBracket o (Mark m.CloseBracket p ∷ r ++ zs) (y ++ ws) refl t j)

elements_going : {a b : List Sym} {u v : TypeExpr} {own depth own' depth' : ℕ} (zs ws : List Sym) → IsElement a u own depth → IsElement b v own' depth' → a ++ zs ≡ b ++ ws → Going On a zs b ws
elements_going zs ws (plain_element {xs = a} {ys = x} q r) (plain_element {xs = b} {ys = y} t f) e =
    let i = atoms_same (x ++ zs) (y ++ ws) q t (sym (append_assoc a x zs) ∙ e ∙ append_assoc b y ws) in
    brackets_going zs ws r f i.1
elements_going zs ws (plain_element q r) (read_only_element s at t f) e = left (read_only_going s at zs ws q r t f e)
elements_going zs ws (read_only_element s at t f) (plain_element q r) e = right (read_only_going s at ws zs q r t f (sym e))
elements_going zs ws (read_only_element s at {xs = a} {ys = x} q r) (read_only_element s' at' {xs = b} {ys = y} t f) e =
    let j : a ++ x ++ zs ≡ b ++ y ++ ws = cc in
    let i = atoms_same (x ++ zs) (y ++ ws) q t (sym (append_assoc a x zs) ∙ j ∙ append_assoc b y ws) in
    brackets_going zs ws r f i.1

-- ---- unions

-- an element that goes on behind a shorter one of a union ends that union
on_tail : {x y z b : List Sym} {us vs : List TypeExpr} {own depth own' depth' : ℕ} (p zs ws : List Sym) → b ≡ p ++ (x ++ y) → IsTail y us own depth → IsTail z vs own' depth'
    → On x (y ++ zs) (z ++ ws) → On b zs ws
on_tail {x = x} {z = z} p zs ws e no_tail t (brackets_on o q r i) = brackets_on o q (r ++ z) (i ∙ ap (λ v. Mark m.OpenBracket o ∷ Mark m.CloseBracket q ∷ v) (sym (append_assoc r z ws)))
on_tail {x = x} {z = z} p zs ws e no_tail t (read_only_on front s at {x = y} o q r i d f j) =
    read_only_on (p ++ front) s at o q (r ++ z) (e ∙ ap (λ v. p ++ v) (append-nil x ∙ i) ∙ sym (append_assoc p front (word w.Readonly s at ∷ []))) d (rest_tail f t)
    (j ∙ ap (λ v. y ++ (Mark m.OpenBracket o ∷ Mark m.CloseBracket q ∷ v)) (sym (append_assoc r z ws)))
on_tail p zs ws e (more_tail bar q r) t (brackets_on o n f i) = cc
on_tail {z = z} p zs ws e (more_tail bar {xs = a} {ys = b} q r) t (read_only_on front s at o n f i d h j) =
    absurd (atom_begins m.Bar bar (a ++ b ++ zs) (Mark m.OpenBracket o ∷ Mark m.CloseBracket n ∷ (f ++ (z ++ ws))) refl d j)

tails_going : {a b : List Sym} {u v : List TypeExpr} {own depth own' depth' : ℕ} (zs ws : List Sym) → IsTail a u own depth → IsTail b v own' depth' → a ++ zs ≡ b ++ ws → Going Beyond a zs b ws
tails_going zs ws no_tail no_tail e = same e
tails_going zs ws no_tail (more_tail bar {xs = x} {ys = y} q r) e = left (bar_on bar (x ++ y) e)
tails_going zs ws (more_tail bar {xs = x} {ys = y} q r) no_tail e = right (bar_on bar (x ++ y) (sym e))
tails_going zs ws (more_tail bar {xs = a} {ys = x} q r) (more_tail bar' {xs = b} {ys = y} t f) e =
    let i : a ++ x ++ zs ≡ b ++ y ++ ws = cc in
    go (λ j. tails_going zs ws r f j) (elements_going (x ++ zs) (y ++ ws) q t (sym (append_assoc a x zs) ∙ i ∙ append_assoc b y ws))
  where
    go : (x ++ zs ≡ y ++ ws → Going Beyond x zs y ws) → Going On a (x ++ zs) b (y ++ ws) → Going Beyond (Mark m.Bar bar ∷ a ++ x) zs (Mark m.Bar bar' ∷ b ++ y) ws
    go further (same j) = going_behind (Mark m.Bar bar ∷ a) (Mark m.Bar bar' ∷ b) refl refl (further j)
    go further (left g) = left (element_on (on_tail (Mark m.Bar bar ∷ []) zs ws refl r f g))
    go further (right g) = right (element_on (on_tail (Mark m.Bar bar' ∷ []) ws zs refl f r g))

-- a union is an element and a tail
abbrev Split : List Sym → Type 0
Split a = (x : List Sym) × (y : List Sym) × (of : TypeExpr) × (own : ℕ) × (depth : ℕ) × (us : List TypeExpr) × (own' : ℕ) × (depth' : ℕ) × IsElement x of own depth × IsTail y us own' depth' × (a ≡ x ++ y)

split : {a : List Sym} {u : TypeExpr} {own depth : ℕ} → IsUnion a u own depth → Split a
split {a = a} (one_element q) = (a, [], _, _, _, [], 0, 0, q, no_tail, sym (append-nil a))
split (several_elements bar {xs = x} {ys = y} {zs = z} q r t) = (x, Mark m.Bar bar ∷ y ++ z, _, _, _, _, _, _, q, more_tail bar r t, append_assoc x (Mark m.Bar bar ∷ y) z)

unions_going : {a b : List Sym} {u v : TypeExpr} {own depth own' depth' : ℕ} (zs ws : List Sym) → IsUnion a u own depth → IsUnion b v own' depth' → a ++ zs ≡ b ++ ws → Going Beyond a zs b ws
unions_going {a = a} {b = b} zs ws q r e =
    let x = split q in
    let y = split r in
    go x y (elements_going (x.1 ++ zs) (y.1 ++ ws) x.8 y.8
    (sym (append_assoc x.0 x.1 zs) ∙ ap (λ v. v ++ zs) (sym x.10) ∙ e ∙ ap (λ v. v ++ ws) y.10 ∙ append_assoc y.0 y.1 ws))
  where
    go : (x : Split a) (y : Split b) → Going On x.0 (x.1 ++ zs) y.0 (y.1 ++ ws) → Going Beyond a zs b ws
    go x y (same j) = going_behind x.0 y.0 x.10 y.10 (tails_going zs ws x.9 y.9 j)
    go x y (left g) = left (element_on (on_tail [] zs ws x.10 x.9 y.9 g))
    go x y (right g) = right (element_on (on_tail [] ws zs y.10 y.9 x.9 g))

-- ---- types

element_begins : {a : List Sym} {u : TypeExpr} {own depth : ℕ} (k : MarkKind) (o : ℕ) (ys zs : List Sym) → begins_atom k ≡ false → IsElement a u own depth → Mark k o ∷ ys ≡ a ++ zs → ⊥
element_begins k o ys zs h (plain_element {xs = a} {ys = x} q r) e = atom_begins k o ys (x ++ zs) h q (e ∙ append_assoc a x zs)
element_begins k o ys zs h (read_only_element s at q r) e = cc

union_begins : {a : List Sym} {u : TypeExpr} {own depth : ℕ} (k : MarkKind) (o : ℕ) (ys zs : List Sym) → begins_atom k ≡ false → IsUnion a u own depth → Mark k o ∷ ys ≡ a ++ zs → ⊥
union_begins k o ys zs h q e = let x = split q in element_begins k o ys (x.1 ++ zs) h x.8 (e ∙ ap (λ v. v ++ zs) x.10 ∙ append_assoc x.0 x.1 zs)

-- no type begins with `[`
pub type_no_bracket : {a : List Sym} {u : TypeExpr} {own depth : ℕ} (o : ℕ) (ys zs : List Sym) → IsType a u own depth → Mark m.OpenBracket o ∷ ys ≡ a ++ zs → ⊥
type_no_bracket o ys zs (function_type p q n f g) e = cc
type_no_bracket o ys zs (union_type unmarked q) e = union_begins m.OpenBracket o ys zs refl q e
type_no_bracket o ys zs (union_type (marked at) q) e = cc

-- a type that begins with a word has no `:` and no `?` behind that
abbrev follows_name : MarkKind → Bool
follows_name m.Question = true
follows_name m.Colon = true
follows_name _ = false

tail_after_name : {y : List Sym} {us : List TypeExpr} {own depth : ℕ} (k : MarkKind) (o : ℕ) (ys : List Sym) → follows_name k ≡ true → IsTail y us own depth → Mark k o ∷ ys ≡ y → ⊥
tail_after_name k o ys h no_tail e = cc
tail_after_name k o ys h (more_tail bar q r) e = let i : k ≡ m.Bar = cc in let n : true ≡ false = sym h ∙ ap follows_name i in cc

brackets_after_name : {n : ℕ} {x y : List Sym} {us : List TypeExpr} {own depth : ℕ} (k : MarkKind) (o : ℕ) (ys : List Sym) → follows_name k ≡ true → IsBrackets n x → IsTail y us own depth
    → Mark k o ∷ ys ≡ x ++ y → ⊥
brackets_after_name k o ys h no_brackets t e = tail_after_name k o ys h t e
brackets_after_name k o ys h (brackets p q r) t e = let i : k ≡ m.OpenBracket = cc in let n : true ≡ false = sym h ∙ ap follows_name i in cc

no_atom_after : (k : MarkKind) → follows_name k ≡ true → begins_atom k ≡ false
no_atom_after m.Question h = refl
no_atom_after m.Colon h = refl
no_atom_after _ h = cc

element_after_name : {x y : List Sym} {u : TypeExpr} {us : List TypeExpr} {own depth own' depth' : ℕ} (n : Word) (s : List ℕ) (at : ℕ) (k : MarkKind) (o : ℕ) (ys : List Sym) → follows_name k ≡ true
    → IsElement x u own depth → IsTail y us own' depth' → word n s at ∷ Mark k o ∷ ys ≡ x ++ y → ⊥
element_after_name {y = y} n s at k o ys h (plain_element {xs = a} {ys = b} q r) t e =
    brackets_after_name k o ys h r t (atom_word n s at (Mark k o ∷ ys) (b ++ y) q (e ∙ append_assoc a b y)).1
element_after_name {y = y} n s at k o ys h (read_only_element s' at' {xs = a} {ys = b} q r) t e =
    let i : Mark k o ∷ ys ≡ a ++ b ++ y = cc in
    atom_begins k o ys (b ++ y) (no_atom_after k h) q (i ∙ append_assoc a b y)

type_after_name : {x : List Sym} {u : TypeExpr} {own depth : ℕ} (n : Word) (s : List ℕ) (at : ℕ) (k : MarkKind) (o : ℕ) (ys : List Sym) → follows_name k ≡ true
    → IsType x u own depth → word n s at ∷ Mark k o ∷ ys ≡ x → ⊥
type_after_name n s at k o ys h (function_type p q a f g) e = cc
type_after_name n s at k o ys h (union_type unmarked q) e = let x = split q in element_after_name n s at k o ys h x.8 x.9 (e ∙ x.10)
type_after_name n s at k o ys h (union_type (marked p) q) e = cc

-- no type is empty
type_some : {x : List Sym} {u : TypeExpr} {own depth : ℕ} → IsType x u own depth → [] ≡ x → ⊥
type_some (function_type p q a f g) e = cc
type_some (union_type unmarked q) e = let x = split q in element_some x.1 x.8 (e ∙ x.10)
  where
    element_some : {a : List Sym} {u : TypeExpr} {own depth : ℕ} (zs : List Sym) → IsElement a u own depth → [] ≡ a ++ zs → ⊥
    element_some zs (plain_element {xs = a} {ys = b} q r) e = atom_some (b ++ zs) q (e ∙ append_assoc a b zs)
    element_some zs (read_only_element s at q r) e = cc
type_some (union_type (marked p) q) e = cc

param_no_type : {x y : List Sym} {v : TypeParam} {u : TypeExpr} {own depth own' depth' : ℕ} (ys : List Sym) → IsTypeParam x v own depth → IsType y u own' depth' → x ++ ys ≡ y → ⊥
param_no_type ys (type_param s at colon {ys = b} n unmarked t) q e = type_after_name _ s at m.Colon colon (b ++ ys) refl q e
param_no_type ys (type_param s at colon {ys = b} n (marked o) t) q e = type_after_name _ s at m.Question o (Mark m.Colon colon ∷ b ++ ys) refl q e

-- what derives parameters derives no type
params_no_type : {x y : List Sym} {vs : List TypeParam} {u : TypeExpr} {own depth own' depth' : ℕ} → IsTypeParams x vs own depth → IsType y u own' depth' → x ≡ y → ⊥
params_no_type no_type_params q e = type_some q e
params_no_type {x = x} (last_type_param p) q e = param_no_type [] p q (append-nil x ∙ e)
params_no_type (more_type_params comma {xs = a} {ys = b} p r) q e = param_no_type (Mark m.Comma comma ∷ b) p q e

-- no list begins both with a function's type and with a union
function_no_element : {x a : List Sym} {vs : List TypeParam} {u : TypeExpr} {own depth own' depth' : ℕ} (o p : ℕ) (zs ws : List Sym) → IsTypeParams x vs own depth → IsElement a u own' depth'
    → Mark m.OpenParen o ∷ (x ++ (Mark m.CloseParen p ∷ zs)) ≡ a ++ ws → ⊥
function_no_element {x = x} o p zs ws f (plain_element {xs = a} {ys = b} q r) e = go q (e ∙ append_assoc a b ws)
  where
    go : {a : List Sym} {u : TypeExpr} {own depth : ℕ} → IsAtom a u own depth → Mark m.OpenParen o ∷ (x ++ (Mark m.CloseParen p ∷ zs)) ≡ a ++ (b ++ ws) → ⊥
    go (keyword_type s at i) e = cc
    go (boolean_type s at i) e = cc
    go (string_type s at) e = cc
    go (integer_type s at i) e = cc
    go (minus_type s at digits_at i) e = cc
    go (written_type s at i) e = cc
    go (parens_type o' p' {xs = y} t) e =
        params_no_type f t (closed_same m.CloseParen p p' zs (b ++ ws) (λ at. refl) (type_params_even f) (type_even t) (append_assoc x (Mark m.CloseParen p ∷ []) zs ∙ (cc))).0
    go (object_type o' p' t) e = cc
function_no_element o p zs ws f (read_only_element s at q r) e = cc

function_no_union : {x a : List Sym} {vs : List TypeParam} {u : TypeExpr} {own depth own' depth' : ℕ} (o p : ℕ) (zs ws : List Sym) → IsTypeParams x vs own depth → IsUnion a u own' depth'
    → Mark m.OpenParen o ∷ (x ++ (Mark m.CloseParen p ∷ zs)) ≡ a ++ ws → ⊥
function_no_union o p zs ws f q e = let x = split q in function_no_element o p zs (x.1 ++ ws) f x.8 (e ∙ ap (λ v. v ++ ws) x.10 ∙ append_assoc x.0 x.1 ws)

-- Two types at the front of one list end at one place, or one goes on behind the other.
pub types_going : {a b : List Sym} {u v : TypeExpr} {own depth own' depth' : ℕ} (zs ws : List Sym) → IsType a u own depth → IsType b v own' depth' → a ++ zs ≡ b ++ ws → Going Beyond a zs b ws
types_going zs ws (function_type p q n {xs = a} {ys = x} f g) (function_type p' q' n' {xs = b} {ys = y} f' g') e =
    let l : a ++ Mark m.CloseParen q ∷ Mark m.Arrow n ∷ x ++ zs ≡ b ++ Mark m.CloseParen q' ∷ Mark m.Arrow n' ∷ y ++ ws = cc in
    let i : a ++ (Mark m.CloseParen q ∷ (Mark m.Arrow n ∷ x ++ zs)) ≡ b ++ (Mark m.CloseParen q' ∷ (Mark m.Arrow n' ∷ y ++ ws)) =
    sym (append_assoc a (Mark m.CloseParen q ∷ Mark m.Arrow n ∷ x) zs) ∙ l ∙ append_assoc b (Mark m.CloseParen q' ∷ Mark m.Arrow n' ∷ y) ws in
    let j = group_exact (Mark m.CloseParen q) (Mark m.CloseParen q') (Mark m.Arrow n ∷ x ++ zs) (Mark m.Arrow n' ∷ y ++ ws) (type_params_even f) (type_params_even f') refl refl i in
    let k : x ++ zs ≡ y ++ ws = cc (j.2) in
    going_behind (Mark m.OpenParen p ∷ a ++ Mark m.CloseParen q ∷ Mark m.Arrow n ∷ []) (Mark m.OpenParen p' ∷ b ++ Mark m.CloseParen q' ∷ Mark m.Arrow n' ∷ [])
    (sym (append_assoc (Mark m.OpenParen p ∷ a) (Mark m.CloseParen q ∷ Mark m.Arrow n ∷ []) x))
    (sym (append_assoc (Mark m.OpenParen p' ∷ b) (Mark m.CloseParen q' ∷ Mark m.Arrow n' ∷ []) y))
    (types_going zs ws g g' k)
types_going zs ws (function_type p q n {xs = a} {ys = x} f g) (union_type unmarked r) e =
    absurd (function_no_union p q (Mark m.Arrow n ∷ x ++ zs) ws f r (ap (λ v. Mark m.OpenParen p ∷ v) (sym (append_assoc a (Mark m.CloseParen q ∷ Mark m.Arrow n ∷ x) zs)) ∙ e))
types_going zs ws (function_type p q n f g) (union_type (marked at) r) e = cc
types_going zs ws (union_type unmarked r) (function_type p q n {xs = a} {ys = x} f g) e =
    absurd (function_no_union p q (Mark m.Arrow n ∷ x ++ ws) zs f r (ap (λ v. Mark m.OpenParen p ∷ v) (sym (append_assoc a (Mark m.CloseParen q ∷ Mark m.Arrow n ∷ x) ws)) ∙ sym e))
types_going zs ws (union_type (marked at) r) (function_type p q n f g) e = cc
types_going zs ws (union_type unmarked q) (union_type unmarked r) e = unions_going zs ws q r e
types_going zs ws (union_type unmarked q) (union_type {ys = b} (marked at) r) e = absurd (union_begins m.Bar at (b ++ ws) zs refl q (sym e))
types_going zs ws (union_type {ys = a} (marked at) q) (union_type unmarked r) e = absurd (union_begins m.Bar at (a ++ zs) ws refl r e)
types_going zs ws (union_type {ys = a} (marked at) q) (union_type {ys = b} (marked at') r) e =
    going_behind (Mark m.Bar at ∷ []) (Mark m.Bar at' ∷ []) refl refl (unions_going zs ws q r cc)

-- ---- behind a shorter type

-- where the symbol behind a shorter type is a word, `[` follows that
pub word_behind : {a b : List Sym} {u v : TypeExpr} {own depth own' depth' : ℕ} (k : Word) (s : List ℕ) (o : ℕ) (zs ws : List Sym) → IsType a u own depth → IsType b v own' depth'
    → a ++ (Lex (c.Word k) s o ∷ zs) ≡ b ++ ws → length ws < suc (length zs) → (at : ℕ) × (vs : List Sym) × (zs ≡ Mark m.OpenBracket at ∷ vs)
word_behind {a = a} {b = b} k s o zs ws q r e h = go (types_going (Lex (c.Word k) s o ∷ zs) ws q r e)
  where
    on : On a (Lex (c.Word k) s o ∷ zs) ws → (at : ℕ) × (vs : List Sym) × (zs ≡ Mark m.OpenBracket at ∷ vs)
    on (brackets_on n p f i) = cc
    on (read_only_on front x at n p f i t g j) = (n, Mark m.CloseBracket p ∷ (f ++ ws), (atom_word k s o zs (Mark m.OpenBracket n ∷ Mark m.CloseBracket p ∷ (f ++ ws)) t j).1)

    go : Going Beyond a (Lex (c.Word k) s o ∷ zs) b ws → (at : ℕ) × (vs : List Sym) × (zs ≡ Mark m.OpenBracket at ∷ vs)
    go (same i) = absurd (omega (arith, h, ap length i))
    go (left (bar_on n f i)) = cc
    go (left (element_on f)) = on f
    go (right f) = absurd (omega (arith, h, beyond_longer f))

-- so no type stands behind that word
pub as_apart : {a b x : List Sym} {u v t : TypeExpr} {own depth own' depth' own'' depth'' : ℕ} (k : Word) (s : List ℕ) (o : ℕ) (zs ws us : List Sym) → IsType a u own depth → IsType b v own' depth'
    → a ++ (Lex (c.Word k) s o ∷ zs) ≡ b ++ ws → length ws < suc (length zs) → IsType x t own'' depth'' → zs ≡ x ++ us → ⊥
as_apart k s o zs ws us q r e h t i = let f = word_behind k s o zs ws q r e h in type_no_bracket f.0 f.1 us t (sym f.2 ∙ i)

-- a type that ended in the name `readonly`, and `[ ]` behind the group that follows it
abbrev pub AfterGroup : List Sym → List Sym → List Sym → Type 0
AfterGroup a zs ws = (front : List Sym) × (s : List ℕ) × (at : ℕ) × (i : ℕ) × (j : ℕ) × (r : List Sym) × (a ≡ front ++ (word w.Readonly s at ∷ [])) × Rest r
    × (zs ≡ Mark m.OpenBracket i ∷ Mark m.CloseBracket j ∷ (r ++ ws))

-- Where a balanced group in braces stands behind a shorter type, that type ended in the name `readonly`, and behind the group stands
-- `[ ]` within the longer type.
pub brace_behind : {a b x : List Sym} {u v : TypeExpr} {own depth own' depth' : ℕ} (o p : ℕ) (zs ws : List Sym) → IsType a u own depth → IsType b v own' depth' → Even x
    → a ++ (Mark m.OpenBrace o ∷ (x ++ (Mark m.CloseBrace p ∷ zs))) ≡ b ++ ws → length ws < length (Mark m.OpenBrace o ∷ (x ++ (Mark m.CloseBrace p ∷ zs)))
    → AfterGroup a zs ws
brace_behind {a = a} {b = b} {x = x} o p zs ws q r d e h = go (types_going (Mark m.OpenBrace o ∷ (x ++ (Mark m.CloseBrace p ∷ zs))) ws q r e)
  where
    on : On a (Mark m.OpenBrace o ∷ (x ++ (Mark m.CloseBrace p ∷ zs))) ws → AfterGroup a zs ws
    on (brackets_on n p f i) = cc
    on (read_only_on front s at n t f i y g j) = (front, s, at, n, t, f, i, g, atom_brace o p zs (Mark m.OpenBracket n ∷ Mark m.CloseBracket t ∷ (f ++ ws)) d y j)

    go : Going Beyond a (Mark m.OpenBrace o ∷ (x ++ (Mark m.CloseBrace p ∷ zs))) b ws → AfterGroup a zs ws
    go (same i) = absurd (omega (arith, h, ap length i))
    go (left (bar_on n f i)) = cc
    go (left (element_on f)) = on f
    go (right f) = absurd (omega (arith, h, beyond_longer f))
