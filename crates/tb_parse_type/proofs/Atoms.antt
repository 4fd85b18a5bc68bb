-- The longest atom at the front of a list.
use Rattle.std.proofs.Common.{◌≡◌, ◌≢◌, ℕ, ◌+◌, ◌≤◌, ◌<◌, Bool, true, false, List, [], ◌∷◌, ◌++◌, refl, sym, ◌∙◌, ap, subst, inl, arith}
use Rattle.std.specs.Prelude.{Option, Some, None, ◌||◌, if◌then◌else◌}
use Rattle.tb_tree.specs.declared.marks.Mark.{Mark as MarkKind}
use Rattle.tb_tree.specs.declared.marks.Mark.TheVariants as m
use Rattle.tb_tree.specs.declared.words.Word.{Word}
use Rattle.tb_tree.specs.declared.words.Word.TheVariants as w
use Rattle.tb_tree.specs.declared.words.Class.{Class}
use Rattle.tb_tree.specs.declared.words.Class.TheVariants as c
use Rattle.tb_tree.specs.declared.types.TypeKeyword.{TypeKeyword}
use Rattle.tb_tree.specs.declared.types.TypeExpr.{TypeExpr}
use Rattle.tb_tree.specs.declared.types.TypeExpr.TheVariants as t
use Rattle.tb_tree.specs.declared.types.TypeMember.{TypeMember}
use Rattle.tb_parse_type.specs.declared.reader.Limits.{Limits}
use Rattle.tb_tree.specs.Sym.{Sym, Mark, Lex}
use Rattle.tb_tree.specs.Words.{is_type_name}
use Rattle.tb_tree.specs.Longest.{Found, Lacks, Ends, Starts, Never}
use Rattle.tb_tree.specs.Shapes.{word, start_of, is_zero, is_positive}
use Rattle.tb_tree.specs.Types.{IsAtom, keyword_type, boolean_type, string_type, integer_type, minus_type, written_type, parens_type, object_type, IsElement, plain_element, read_only_element, IsUnion, one_element, several_elements, IsType, function_type, union_type, IsTypeMembers, keyword_of, truth_of}
use Rattle.tb_tree.proofs.Ends.{starts_by}
use Rattle.tb_parse_type.specs.Rules.{Counted, inside, in_parens, AtomUpto, TypeUpto, MembersUpto, word_by, single_type, InElement, InType, InMembers}
use Rattle.tb_parse_type.proofs.Joins.{IsBack, found_by, lacks_by, Delimited, delimited, delimited_lacks, delimited_lacks_close, in_delimiters}

-- ---- types that are one symbol

truth_no_keyword : (k : Word) {v : Bool} → truth_of k ≡ Some v → keyword_of k ≡ None
truth_no_keyword w.True e = refl
truth_no_keyword w.False e = refl
truth_no_keyword _ e = cc

named_no_keyword : (k : Word) → is_type_name k ≡ true → keyword_of k ≡ None
named_no_keyword w.Any e = cc
named_no_keyword w.Unknown e = cc
named_no_keyword w.Never e = cc
named_no_keyword w.Number e = cc
named_no_keyword w.String e = cc
named_no_keyword w.Boolean e = cc
named_no_keyword w.Void e = cc
named_no_keyword w.Null e = cc
named_no_keyword w.Undefined e = cc
named_no_keyword _ e = refl

named_no_truth : (k : Word) → is_type_name k ≡ true → truth_of k ≡ None
named_no_truth w.True e = cc
named_no_truth w.False e = cc
named_no_truth _ e = refl

-- what an atom is, by what it begins with
pub data AtomView : List Sym → TypeExpr → ℕ → ℕ → Type 0 where
  single : {s : Sym} {of : TypeExpr} → single_type s ≡ Some of → AtomView (s ∷ []) of 1 1
  minus : (digits : List ℕ) (at digits_at : ℕ) → is_positive digits ≡ true → AtomView (Mark m.Minus at ∷ Lex c.Number digits digits_at ∷ []) (t.Integer at true digits) 1 1
  parens : (open_at close_at : ℕ) {xs : List Sym} {of : TypeExpr} {own depth : ℕ} → IsType xs of own depth
      → AtomView (Mark m.OpenParen open_at ∷ xs ++ Mark m.CloseParen close_at ∷ []) of (own + 1) depth
  braces : (open_at close_at : ℕ) {xs : List Sym} {of : List TypeMember} {own depth : ℕ} → IsTypeMembers xs of own depth
      → AtomView (Mark m.OpenBrace open_at ∷ xs ++ Mark m.CloseBrace close_at ∷ []) (t.Object open_at of) (own + 1) (depth + 1)

pub view : {xs : List Sym} {of : TypeExpr} {own depth : ℕ} → IsAtom xs of own depth → AtomView xs of own depth
view (keyword_type {kind = kind} spelled at e) = single (ap (λ k. word_by k (truth_of kind) (is_type_name kind) spelled at) e)
view (boolean_type {kind = kind} spelled at e) =
    single (ap (λ k. word_by k (truth_of kind) (is_type_name kind) spelled at) (truth_no_keyword kind e) ∙ ap (λ v. word_by None v (is_type_name kind) spelled at) e)
view (string_type spelled at) = single refl
view (integer_type digits at e) = single (ap (λ (b : Bool). if b then Some (t.Integer at false digits) else None) e)
view (minus_type digits at digits_at e) = minus digits at digits_at e
view (written_type {kind = kind} spelled at e) =
    single (ap (λ k. word_by k (truth_of kind) (is_type_name kind) spelled at) (named_no_keyword kind e)
    ∙ ap (λ v. word_by None v (is_type_name kind) spelled at) (named_no_truth kind e)
    ∙ ap (λ n. word_by None None n spelled at) e)
view (parens_type open_at close_at q) = parens open_at close_at q
view (object_type open_at close_at q) = braces open_at close_at q

as_atom : {xs : List Sym} {u of : TypeExpr} → u ≡ of → IsAtom xs u 1 1 → IsAtom xs of 1 1
as_atom {xs = xs} e q = subst (λ x. IsAtom xs x 1 1) e q

word_in : {of : TypeExpr} (kind : Word) (spelled : List ℕ) (at : ℕ) (k : Option TypeKeyword) (v : Option Bool) (n : Bool) → keyword_of kind ≡ k → truth_of kind ≡ v → is_type_name kind ≡ n
    → word_by k v n spelled at ≡ Some of → IsAtom (word kind spelled at ∷ []) of 1 1
word_in kind spelled at (Some k) v n p q r e = as_atom (cc) (keyword_type spelled at p)
word_in kind spelled at None (Some v) n p q r e = as_atom (cc) (boolean_type spelled at q)
word_in kind spelled at None None true p q r e = as_atom (cc) (written_type spelled at r)
word_in kind spelled at None None false p q r e = cc

integer_in : {of : TypeExpr} (digits : List ℕ) (at : ℕ) (b : Bool) → (is_zero digits || is_positive digits) ≡ b → (if b then Some (t.Integer at false digits) else None) ≡ Some of
    → IsAtom (Lex c.Number digits at ∷ []) of 1 1
integer_in digits at true p e = as_atom (cc) (integer_type digits at p)
integer_in digits at false p e = cc

single_in : (s : Sym) {of : TypeExpr} → single_type s ≡ Some of → IsAtom (s ∷ []) of 1 1
single_in (Lex (c.Word kind) spelled at) e = word_in kind spelled at (keyword_of kind) (truth_of kind) (is_type_name kind) refl refl refl e
single_in (Lex c.Number spelled at) e = integer_in spelled at (is_zero spelled || is_positive spelled) refl e
single_in (Lex c.String spelled at) e = as_atom (cc) (string_type spelled at)
single_in (Lex (c.Template k) spelled at) e = cc
single_in (Lex c.Bad spelled at) e = cc
single_in (Mark k at) e = cc

-- no mark is a type by itself
pub mark_not_single : {of : TypeExpr} (s : Sym) (k : MarkKind) (at : ℕ) → single_type s ≡ Some of → s ≡ Mark k at → ⊥
mark_not_single {of = of} s k at e i = let n : None ≡ Some of = ap single_type (sym i) ∙ e in cc

pub atom_single : {s : Sym} {of : TypeExpr} (l : Limits) (ys : List Sym) → 0 < l.own → 0 < l.depth → single_type s ≡ Some of → Found (AtomUpto l) Never (s ∷ ys) (of, 1, 1) ys
atom_single {s = s} {of = of} l ys h k e = record {
  front = s ∷ [];
  whole = refl;
  derives = (single_in s e, (omega (arith, h), omega (arith, k)));
  longest = λ a y zs d w. go zs (view d.0) w;
}
  where
    go : {a : List Sym} {u : TypeExpr} {own depth : ℕ} (zs : List Sym) → AtomView a u own depth → s ∷ ys ≡ a ++ zs → Ends {X = Counted TypeExpr} Never (of, 1, 1) ys (u, own, depth) zs
    go zs (single {s = v} {of = u} f) w =
        let i : s ≡ v = cc in
        let j : Some of ≡ Some u = sym e ∙ ap single_type i ∙ f in
        inl (cc, cc)
    go zs (minus digits at digits_at f) w = absurd (mark_not_single s m.Minus at e cc)
    go zs (parens o q f) w = absurd (mark_not_single s m.OpenParen o e cc)
    go zs (braces o q f) w = absurd (mark_not_single s m.OpenBrace o e cc)

pub atom_lacks_class : (k : Class) (spelled : List ℕ) (at : ℕ) (l : Limits) (ys : List Sym) → single_type (Lex k spelled at) ≡ None → Lacks (AtomUpto l) (Lex k spelled at ∷ ys)
atom_lacks_class k spelled at l ys e = record { none = λ a y zs d w. go zs (view d.0) w }
  where
    go : {a : List Sym} {u : TypeExpr} {own depth : ℕ} (zs : List Sym) → AtomView a u own depth → Lex k spelled at ∷ ys ≡ a ++ zs → ⊥
    go zs (single {s = v} {of = u} f) w =
        let i : Lex k spelled at ≡ v = cc in
        let j : None ≡ Some u = sym e ∙ ap single_type i ∙ f in
        cc
    go zs (minus digits p q f) w = cc
    go zs (parens o q f) w = cc
    go zs (braces o q f) w = cc

pub atom_lacks_mark : (k : MarkKind) (at : ℕ) (l : Limits) (ys : List Sym) → k ≢ m.Minus → k ≢ m.OpenParen → k ≢ m.OpenBrace → Lacks (AtomUpto l) (Mark k at ∷ ys)
atom_lacks_mark k at l ys no_minus no_paren no_brace = record { none = λ a y zs d w. go zs (view d.0) w }
  where
    go : {a : List Sym} {u : TypeExpr} {own depth : ℕ} (zs : List Sym) → AtomView a u own depth → Mark k at ∷ ys ≡ a ++ zs → ⊥
    go zs (single {s = v} f) w = mark_not_single v k at f cc
    go zs (minus digits p q f) w = no_minus cc
    go zs (parens o q f) w = no_paren cc
    go zs (braces o q f) w = no_brace cc

pub atom_lacks_end : (l : Limits) → Lacks (AtomUpto l) []
atom_lacks_end l = record { none = λ a y zs d w. go zs (view d.0) w }
  where
    go : {a : List Sym} {u : TypeExpr} {own depth : ℕ} (zs : List Sym) → AtomView a u own depth → [] ≡ a ++ zs → ⊥
    go zs (single f) w = cc
    go zs (minus digits p q f) w = cc
    go zs (parens o q f) w = cc
    go zs (braces o q f) w = cc

-- ---- a minus and an integer

pub atom_minus : (l : Limits) (digits : List ℕ) (at digits_at : ℕ) (ys : List Sym) → 0 < l.own → 0 < l.depth → is_positive digits ≡ true
    → Found (AtomUpto l) Never (Mark m.Minus at ∷ Lex c.Number digits digits_at ∷ ys) (t.Integer at true digits, 1, 1) ys
atom_minus l digits at digits_at ys h k e = record {
  front = Mark m.Minus at ∷ Lex c.Number digits digits_at ∷ [];
  whole = refl;
  derives = (minus_type digits at digits_at e, (omega (arith, h), omega (arith, k)));
  longest = λ a y zs d w. go zs (view d.0) w;
}
  where
    go : {a : List Sym} {u : TypeExpr} {own depth : ℕ} (zs : List Sym) → AtomView a u own depth → Mark m.Minus at ∷ Lex c.Number digits digits_at ∷ ys ≡ a ++ zs
        → Ends {X = Counted TypeExpr} Never (t.Integer at true digits, 1, 1) ys (u, own, depth) zs
    go zs (single {s = v} f) w = absurd (mark_not_single v m.Minus at f cc)
    go zs (minus digits p q f) w = inl (cc, cc)
    go zs (parens o q f) w = cc
    go zs (braces o q f) w = cc

pub atom_lacks_minus : (l : Limits) (at : ℕ) (ys : List Sym) → ((digits : List ℕ) (o : ℕ) → is_positive digits ≡ true → (zs : List Sym) → ys ≡ Lex c.Number digits o ∷ zs → ⊥)
    → Lacks (AtomUpto l) (Mark m.Minus at ∷ ys)
atom_lacks_minus l at ys h = record { none = λ a y zs d w. go zs (view d.0) w }
  where
    go : {a : List Sym} {u : TypeExpr} {own depth : ℕ} (zs : List Sym) → AtomView a u own depth → Mark m.Minus at ∷ ys ≡ a ++ zs → ⊥
    go zs (single {s = v} f) w = mark_not_single v m.Minus at f cc
    go zs (minus digits p q f) w = h digits q f zs cc
    go zs (parens o q f) w = cc
    go zs (braces o q f) w = cc

-- ---- a type in parentheses

abbrev paren_of : ℕ × (Counted TypeExpr × ℕ) → Counted TypeExpr
paren_of r = (r.1.0.0, r.1.0.1 + 1, r.1.0.2)

paren_forth : (l : Limits) → 0 < l.own → (a : List Sym) (x : ℕ × (Counted TypeExpr × ℕ)) → Delimited m.OpenParen m.CloseParen (TypeUpto (in_parens l)) a x → AtomUpto l a (paren_of x)
paren_forth l h a x d =
    let q = in_delimiters (TypeUpto (in_parens l)) d in
    (subst (λ v. IsAtom v x.1.0.0 (x.1.0.1 + 1) x.1.0.2) (sym q.1) (parens_type x.0 x.1.1 q.2.0), (omega (arith, h, q.2.1.0), q.2.1.1))

paren_back : (l : Limits) (o : ℕ) (xs : List Sym) → IsBack paren_of (Delimited m.OpenParen m.CloseParen (TypeUpto (in_parens l))) (AtomUpto l) (Mark m.OpenParen o ∷ xs)
paren_back l o xs a u us d w = go us (view d.0) d.1.0 d.1.1 w
  where
    go : {a : List Sym} {u : TypeExpr} {own depth : ℕ} (us : List Sym) → AtomView a u own depth → own ≤ l.own → depth ≤ l.depth → Mark m.OpenParen o ∷ xs ≡ a ++ us
        → (v : ℕ × (Counted TypeExpr × ℕ)) × Delimited m.OpenParen m.CloseParen (TypeUpto (in_parens l)) a v × (◌≡◌ {A = Counted TypeExpr} (paren_of v) (u, own, depth))
    go us (single {s = v} f) i j w = absurd (mark_not_single v m.OpenParen o f cc)
    go us (minus digits p q f) i j w = cc
    go us (parens p q {xs = b} {of = of} {own = own} {depth = depth} f) i j w =
        ((p, ((of, own, depth), q)), (Mark m.OpenParen p ∷ [], b ++ Mark m.CloseParen q ∷ [], refl, refl, (b, Mark m.CloseParen q ∷ [], refl, (f, (omega (arith, i), j)), refl)), refl)
    go us (braces p q f) i j w = cc

type_ends : (at : ℕ) → InType (Mark m.CloseParen at) → ⊥
type_ends at h = let n : false ≡ true = h in cc

pub atom_paren : {r : Counted TypeExpr} {xs : List Sym} (l : Limits) (o p : ℕ) (ys : List Sym) → 0 < l.own → Found (TypeUpto (in_parens l)) InType xs r (Mark m.CloseParen p ∷ ys)
    → Found (AtomUpto l) Never (Mark m.OpenParen o ∷ xs) (r.0, r.1 + 1, r.2) ys
atom_paren {r = r} {xs = xs} l o p ys h f = found_by paren_of (λ a w d. paren_forth l h a (o, (r, p)) d) (paren_back l o xs) (delimited o p ys type_ends f)

pub atom_lacks_inside : {xs : List Sym} (l : Limits) (o : ℕ) → Lacks (TypeUpto (in_parens l)) xs → Lacks (AtomUpto l) (Mark m.OpenParen o ∷ xs)
atom_lacks_inside {xs = xs} l o f = lacks_by paren_of (paren_back l o xs) (delimited_lacks o f)

pub atom_lacks_close : {r : Counted TypeExpr} {xs ys : List Sym} (l : Limits) (o : ℕ) → Found (TypeUpto (in_parens l)) InType xs r ys
    → ((at : ℕ) (zs : List Sym) → ys ≡ Mark m.CloseParen at ∷ zs → ⊥) → Lacks (AtomUpto l) (Mark m.OpenParen o ∷ xs)
atom_lacks_close {xs = xs} l o f n = lacks_by paren_of (paren_back l o xs) (delimited_lacks_close o type_ends f n)

-- ---- members in braces

abbrev object_of : ℕ × (Counted (List TypeMember) × ℕ) → Counted TypeExpr
object_of r = (t.Object r.0 r.1.0.0, r.1.0.1 + 1, r.1.0.2 + 1)

object_forth : (l : Limits) → 0 < l.own → 0 < l.depth → (a : List Sym) (x : ℕ × (Counted (List TypeMember) × ℕ)) → Delimited m.OpenBrace m.CloseBrace (MembersUpto (inside l)) a x → AtomUpto l a (object_of x)
object_forth l h k a x d =
    let q = in_delimiters (MembersUpto (inside l)) d in
    (subst (λ v. IsAtom v (t.Object x.0 x.1.0.0) (x.1.0.1 + 1) (x.1.0.2 + 1)) (sym q.1) (object_type x.0 x.1.1 q.2.0), (omega (arith, h, q.2.1.0), omega (arith, k, q.2.1.1)))

object_back : (l : Limits) (o : ℕ) (xs : List Sym) → IsBack object_of (Delimited m.OpenBrace m.CloseBrace (MembersUpto (inside l))) (AtomUpto l) (Mark m.OpenBrace o ∷ xs)
object_back l o xs a u us d w = go us (view d.0) d.1.0 d.1.1 w
  where
    go : {a : List Sym} {u : TypeExpr} {own depth : ℕ} (us : List Sym) → AtomView a u own depth → own ≤ l.own → depth ≤ l.depth → Mark m.OpenBrace o ∷ xs ≡ a ++ us
        → (v : ℕ × (Counted (List TypeMember) × ℕ)) × Delimited m.OpenBrace m.CloseBrace (MembersUpto (inside l)) a v × (◌≡◌ {A = Counted TypeExpr} (object_of v) (u, own, depth))
    go us (single {s = v} f) i j w = absurd (mark_not_single v m.OpenBrace o f cc)
    go us (minus digits p q f) i j w = cc
    go us (parens p q f) i j w = cc
    go us (braces p q {xs = b} {of = of} {own = own} {depth = depth} f) i j w =
        ((p, ((of, own, depth), q)), (Mark m.OpenBrace p ∷ [], b ++ Mark m.CloseBrace q ∷ [], refl, refl, (b, Mark m.CloseBrace q ∷ [], refl, (f, (omega (arith, i), omega (arith, j))), refl)), refl)

members_end : (at : ℕ) → InMembers (Mark m.CloseBrace at) → ⊥
members_end at h = let n : true ≡ false = h in cc

pub atom_object : {r : Counted (List TypeMember)} {xs : List Sym} (l : Limits) (o p : ℕ) (ys : List Sym) → 0 < l.own → 0 < l.depth
    → Found (MembersUpto (inside l)) InMembers xs r (Mark m.CloseBrace p ∷ ys) → Found (AtomUpto l) Never (Mark m.OpenBrace o ∷ xs) (t.Object o r.0, r.1 + 1, r.2 + 1) ys
atom_object {r = r} {xs = xs} l o p ys h k f = found_by object_of (λ a w d. object_forth l h k a (o, (r, p)) d) (object_back l o xs) (delimited o p ys members_end f)

pub atom_lacks_members : {r : Counted (List TypeMember)} {xs ys : List Sym} (l : Limits) (o : ℕ) → Found (MembersUpto (inside l)) InMembers xs r ys
    → ((at : ℕ) (zs : List Sym) → ys ≡ Mark m.CloseBrace at ∷ zs → ⊥) → Lacks (AtomUpto l) (Mark m.OpenBrace o ∷ xs)
atom_lacks_members {xs = xs} l o f n = lacks_by object_of (object_back l o xs) (delimited_lacks_close o members_end f n)

-- ---- what all atoms have

single_continues : {of : TypeExpr} (s : Sym) → single_type s ≡ Some of → InElement s
single_continues (Lex (c.Word kind) spelled at) e = refl
single_continues (Lex c.Number spelled at) e = refl
single_continues (Lex c.String spelled at) e = refl
single_continues (Lex (c.Template k) spelled at) e = cc
single_continues (Lex c.Bad spelled at) e = cc
single_continues (Mark k at) e = cc

view_starts : {a : List Sym} {u : TypeExpr} {own depth : ℕ} (ys zs : List Sym) → AtomView a u own depth → ys ≡ a ++ zs → Starts InElement ys
view_starts ys zs (single {s = s} e) w = starts_by InElement w (single_continues s e)
view_starts ys zs (minus digits p q e) w = starts_by InElement w refl
view_starts ys zs (parens p q e) w = starts_by InElement w refl
view_starts ys zs (braces p q e) w = starts_by InElement w refl

pub atom_starts : {a : List Sym} {u : TypeExpr} {own depth : ℕ} (ys zs : List Sym) → IsAtom a u own depth → ys ≡ a ++ zs → Starts InElement ys
atom_starts ys zs q w = view_starts ys zs (view q) w

view_start : {a : List Sym} {u : TypeExpr} {own depth : ℕ} (zs : List Sym) → AtomView a u own depth → start_of (a ++ zs) ≡ start_of a
view_start zs (single e) = refl
view_start zs (minus digits p q e) = refl
view_start zs (parens p q e) = refl
view_start zs (braces p q e) = refl

-- where an atom begins, whatever follows it
pub atom_start : {a : List Sym} {u : TypeExpr} {own depth : ℕ} (zs : List Sym) → IsAtom a u own depth → start_of (a ++ zs) ≡ start_of a
atom_start zs q = view_start zs (view q)

-- no count is nothing
mutual
  pub atom_counts : {a : List Sym} {u : TypeExpr} {own depth : ℕ} → IsAtom a u own depth → (1 ≤ own) × (1 ≤ depth)
  atom_counts (keyword_type spelled at e) = (omega arith, omega arith)
  atom_counts (boolean_type spelled at e) = (omega arith, omega arith)
  atom_counts (string_type spelled at) = (omega arith, omega arith)
  atom_counts (integer_type digits at e) = (omega arith, omega arith)
  atom_counts (minus_type digits at p e) = (omega arith, omega arith)
  atom_counts (written_type spelled at e) = (omega arith, omega arith)
  atom_counts (parens_type p q f) = let h = type_counts f in (omega arith, h.1)
  atom_counts (object_type p q f) = (omega arith, omega arith)

  pub element_counts : {a : List Sym} {u : TypeExpr} {own depth : ℕ} → IsElement a u own depth → (1 ≤ own) × (1 ≤ depth)
  element_counts (plain_element f b) = let h = atom_counts f in (omega (arith, h.0), omega (arith, h.1))
  element_counts (read_only_element spelled at f b) = (omega arith, omega arith)

  pub union_counts : {a : List Sym} {u : TypeExpr} {own depth : ℕ} → IsUnion a u own depth → (1 ≤ own) × (1 ≤ depth)
  union_counts (one_element f) = element_counts f
  union_counts (several_elements bar f g h) = (omega arith, omega arith)

  pub type_counts : {a : List Sym} {u : TypeExpr} {own depth : ℕ} → IsType a u own depth → (1 ≤ own) × (1 ≤ depth)
  type_counts (function_type p q o f g) = (omega arith, omega arith)
  type_counts (union_type b f) = union_counts f

pub atom_lacks_room : (l : Limits) (xs : List Sym) → (0 < l.own → 0 < l.depth → ⊥) → Lacks (AtomUpto l) xs
atom_lacks_room l xs h = record { none = λ a y zs d w. let n = atom_counts d.0 in h (omega (arith, n.0, d.1.0)) (omega (arith, n.1, d.1.1)) }
