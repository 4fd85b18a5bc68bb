-- Symbols are one type at most, where what follows cannot go on a type.
use Rattle.std.proofs.Common.{◌≡◌, ℕ, suc, Bool, true, false, List, [], ◌∷◌, ◌++◌, Option, Some, None, refl, sym, ap, subst, ◌∙◌, append_assoc}
use Rattle.std.proofs.lemmas.List.{append-nil}
use Rattle.tb_tree.specs.declared.marks.Mark.{Mark as MarkKind}
use Rattle.tb_tree.specs.declared.marks.Mark.TheVariants as m
use Rattle.tb_tree.specs.declared.words.Class.{Class}
use Rattle.tb_tree.specs.declared.words.Class.TheVariants as c
use Rattle.tb_tree.specs.declared.words.Word.{Word}
use Rattle.tb_tree.specs.declared.words.Word.TheVariants as w
use Rattle.tb_tree.specs.declared.types.TypeKeyword.{TypeKeyword}
use Rattle.tb_tree.specs.declared.types.TypeExpr.{TypeExpr}
use Rattle.tb_tree.specs.declared.types.TypeExpr.TheVariants as t
use Rattle.tb_tree.specs.declared.types.TypeParam.{TypeParam}
use Rattle.tb_tree.specs.Sym.{Sym, Mark, Lex}
use Rattle.tb_tree.specs.Words.{is_type_name}
use Rattle.tb_tree.specs.Shapes.{word, start_of, unmarked, marked}
use Rattle.tb_tree.specs.Types as g
use Rattle.tb_tree.specs.Types.{keyword_of, truth_of, ends_member, IsAtom, IsBrackets, IsElement, IsTail, IsUnion, IsType, IsTypeParam, IsTypeParams}
use Rattle.tb_tree.proofs.Ends.{ap_both}

-- ---- what follows

abbrev pub ends_type : List Sym → Bool
ends_type [] = true
ends_type (Mark m.CloseParen at ∷ zs) = true
ends_type (Mark m.Comma at ∷ zs) = true
ends_type (Mark m.Semicolon at ∷ zs) = true
ends_type (Mark m.CloseBrace at ∷ zs) = true
ends_type _ = false

abbrev pub ends_element : List Sym → Bool
ends_element [] = true
ends_element (Mark m.CloseParen at ∷ zs) = true
ends_element (Mark m.Comma at ∷ zs) = true
ends_element (Mark m.Semicolon at ∷ zs) = true
ends_element (Mark m.CloseBrace at ∷ zs) = true
ends_element (Mark m.Bar at ∷ zs) = true
ends_element _ = false

-- with what an atom begins
abbrev pub is_start : List Sym → Bool
is_start [] = false
is_start (Lex class spelled at ∷ zs) = true
is_start (Mark m.Minus at ∷ zs) = true
is_start (Mark m.OpenParen at ∷ zs) = true
is_start (Mark m.OpenBrace at ∷ zs) = true
is_start (Mark _ at ∷ zs) = false

abbrev pub closes_params : List Sym → Bool
closes_params (Mark m.CloseParen at ∷ zs) = true
closes_params _ = false

abbrev pub closes_body : List Sym → Bool
closes_body (Mark m.CloseBrace at ∷ zs) = true
closes_body _ = false

-- lists that pass a test, and lists that do not
pub apart : (test : List Sym → Bool) {xs ys : List Sym} → xs ≡ ys → test xs ≡ true → test ys ≡ false → ⊥
apart test e h n = let no : true ≡ false = sym h ∙ (ap test e ∙ n) in cc

pub part_by : (xs ys zs : List Sym) {vs : List Sym} → xs ++ ys ++ zs ≡ vs → xs ++ (ys ++ zs) ≡ vs
part_by xs ys zs e = sym (append_assoc xs ys zs) ∙ e

-- two lists that are one, each in three parts
pub parted : (xs ys zs fs bs cs : List Sym) → xs ++ ys ++ zs ≡ fs ++ bs ++ cs → xs ++ (ys ++ zs) ≡ fs ++ (bs ++ cs)
parted xs ys zs fs bs cs e = sym (append_assoc xs ys zs) ∙ (e ∙ append_assoc fs bs cs)

pub type_element : (zs : List Sym) → ends_type zs ≡ true → ends_element zs ≡ true
type_element [] h = refl
type_element (Mark m.CloseParen at ∷ zs) h = refl
type_element (Mark m.Comma at ∷ zs) h = refl
type_element (Mark m.Semicolon at ∷ zs) h = refl
type_element (Mark m.CloseBrace at ∷ zs) h = refl
type_element _ h = let no : false ≡ true = h in absurd cc

element_no_start : (zs : List Sym) → ends_element zs ≡ true → is_start zs ≡ false
element_no_start [] h = refl
element_no_start (Mark m.CloseParen at ∷ zs) h = refl
element_no_start (Mark m.Comma at ∷ zs) h = refl
element_no_start (Mark m.Semicolon at ∷ zs) h = refl
element_no_start (Mark m.CloseBrace at ∷ zs) h = refl
element_no_start (Mark m.Bar at ∷ zs) h = refl
element_no_start _ h = let no : false ≡ true = h in absurd cc

pub params_type : (zs : List Sym) → closes_params zs ≡ true → ends_type zs ≡ true
params_type (Mark m.CloseParen at ∷ zs) h = refl
params_type _ h = let no : false ≡ true = h in absurd cc

pub body_type : (zs : List Sym) → closes_body zs ≡ true → ends_type zs ≡ true
body_type (Mark m.CloseBrace at ∷ zs) h = refl
body_type _ h = let no : false ≡ true = h in absurd cc

pub member_type : (mark : MarkKind) (at : ℕ) (zs : List Sym) → ends_member mark ≡ true → ends_type (Mark mark at ∷ zs) ≡ true
member_type m.Semicolon at zs h = refl
member_type m.Comma at zs h = refl
member_type _ at zs h = let no : false ≡ true = h in absurd cc

pub member_no_close : (mark : MarkKind) (at : ℕ) (zs : List Sym) → ends_member mark ≡ true → closes_body (Mark mark at ∷ zs) ≡ false
member_no_close m.Semicolon at zs h = refl
member_no_close m.Comma at zs h = refl
member_no_close _ at zs h = let no : false ≡ true = h in absurd cc

-- ---- single symbols

abbrev pub word_by : Option TypeKeyword → Option Bool → List ℕ → ℕ → TypeExpr
word_by (Some of) value spelled at = t.Keyword at of
word_by None (Some value) spelled at = t.Boolean at value
word_by None None spelled at = t.Written at spelled []

-- the type that one symbol is, if it is one
abbrev pub single_of : Sym → TypeExpr
single_of (Lex (c.Word kind) spelled at) = word_by (keyword_of kind) (truth_of kind) spelled at
single_of (Lex c.String spelled at) = t.String at spelled
single_of (Lex c.Number spelled at) = t.Integer at false spelled
single_of (Lex _ spelled at) = t.Written at spelled []
single_of (Mark kind at) = t.Written at [] []

truth_alone : (kind : Word) {value : Bool} → truth_of kind ≡ Some value → keyword_of kind ≡ None
truth_alone w.True e = refl
truth_alone w.False e = refl
truth_alone _ e = absurd (cc e)

name_no_keyword : (kind : Word) → is_type_name kind ≡ true → keyword_of kind ≡ None
name_no_keyword w.Any e = absurd (cc e)
name_no_keyword w.Unknown e = absurd (cc e)
name_no_keyword w.Never e = absurd (cc e)
name_no_keyword w.Number e = absurd (cc e)
name_no_keyword w.String e = absurd (cc e)
name_no_keyword w.Boolean e = absurd (cc e)
name_no_keyword w.Void e = absurd (cc e)
name_no_keyword w.Null e = absurd (cc e)
name_no_keyword w.Undefined e = absurd (cc e)
name_no_keyword _ e = refl

name_no_truth : (kind : Word) → is_type_name kind ≡ true → truth_of kind ≡ None
name_no_truth w.True e = absurd (cc e)
name_no_truth w.False e = absurd (cc e)
name_no_truth _ e = refl

pub keyword_is : (kind : Word) {of : TypeKeyword} (spelled : List ℕ) (at : ℕ) → keyword_of kind ≡ Some of → t.Keyword at of ≡ single_of (word kind spelled at)
keyword_is kind spelled at e = sym (ap (λ v. word_by v (truth_of kind) spelled at) e)

pub boolean_is : (kind : Word) {value : Bool} (spelled : List ℕ) (at : ℕ) → truth_of kind ≡ Some value → t.Boolean at value ≡ single_of (word kind spelled at)
boolean_is kind spelled at e = sym (ap_both (λ v u. word_by v u spelled at) (truth_alone kind e) e)

pub written_is : (kind : Word) (spelled : List ℕ) (at : ℕ) → is_type_name kind ≡ true → t.Written at spelled [] ≡ single_of (word kind spelled at)
written_is kind spelled at h = sym (ap_both (λ v u. word_by v u spelled at) (name_no_keyword kind h) (name_no_truth kind h))

-- an atom that is one symbol, or with what mark it begins
pub data View : List Sym → TypeExpr → Type 0 where
  single : (class : Class) (spelled : List ℕ) (at : ℕ) {of : TypeExpr} → of ≡ single_of (Lex class spelled at) → View (Lex class spelled at ∷ []) of
  minus : (digits : List ℕ) (at digits_at : ℕ) → View (Mark m.Minus at ∷ Lex c.Number digits digits_at ∷ []) (t.Integer at true digits)
  parens : (o p : ℕ) (xs : List Sym) (of : TypeExpr) → View (Mark m.OpenParen o ∷ xs ++ Mark m.CloseParen p ∷ []) of
  object : (o p : ℕ) (xs : List Sym) (of : TypeExpr) → View (Mark m.OpenBrace o ∷ xs ++ Mark m.CloseBrace p ∷ []) of

pub view : {xs : List Sym} {of : TypeExpr} {own depth : ℕ} → IsAtom xs of own depth → View xs of
view (g.keyword_type {kind = kind} spelled at e) = single (c.Word kind) spelled at (keyword_is kind spelled at e)
view (g.boolean_type {kind = kind} spelled at e) = single (c.Word kind) spelled at (boolean_is kind spelled at e)
view (g.string_type spelled at) = single c.String spelled at refl
view (g.integer_type digits at h) = single c.Number digits at refl
view (g.minus_type digits at digits_at h) = minus digits at digits_at
view (g.written_type {kind = kind} spelled at h) = single (c.Word kind) spelled at (written_is kind spelled at h)
view (g.parens_type o p {xs = xs} {of = of} q) = parens o p xs of
view (g.object_type o p {xs = xs} {of = of} q) = object o p xs (t.Object o of)

view_starts : {xs : List Sym} {of : TypeExpr} → View xs of → (zs : List Sym) → is_start (xs ++ zs) ≡ true
view_starts (single class spelled at e) zs = refl
view_starts (minus digits at digits_at) zs = refl
view_starts (parens o p inner whole) zs = refl
view_starts (object o p inner whole) zs = refl

pub view_begins : {xs : List Sym} {of : TypeExpr} → View xs of → (zs : List Sym) → start_of (xs ++ zs) ≡ start_of xs
view_begins (single class spelled at e) zs = refl
view_begins (minus digits at digits_at) zs = refl
view_begins (parens o p inner whole) zs = refl
view_begins (object o p inner whole) zs = refl

abbrev pub Same : TypeExpr → TypeExpr → List Sym → List Sym → Type 0
Same of other fs bs = (of ≡ other) × (fs ≡ bs)

pub single_same : (s : Sym) {b : List Sym} {of other : TypeExpr} {fs bs : List Sym} → of ≡ single_of s → View b other → ((kind : MarkKind) (at : ℕ) → s ≡ Mark kind at → ⊥) → s ∷ fs ≡ b ++ bs → Same of other fs bs
single_same s h (single class spelled at l) n e = let same : s ≡ Lex class spelled at = cc in (h ∙ (ap single_of same ∙ sym l), cc)
single_same s h (minus digits at digits_at) n e = absurd (n m.Minus at cc)
single_same s h (parens o p inner whole) n e = absurd (n m.OpenParen o cc)
single_same s h (object o p inner whole) n e = absurd (n m.OpenBrace o cc)

pub no_mark : (class : Class) (spelled : List ℕ) (place : ℕ) (kind : MarkKind) (at : ℕ) → Lex class spelled place ≡ Mark kind at → ⊥
no_mark class spelled place kind at e = cc

pub minus_same : (digits : List ℕ) (at digits_at : ℕ) {b : List Sym} {other : TypeExpr} {fs bs : List Sym} → View b other → Mark m.Minus at ∷ Lex c.Number digits digits_at ∷ fs ≡ b ++ bs
    → Same (t.Integer at true digits) other fs bs
minus_same digits at digits_at (minus ds i j) e = let same : digits ≡ ds = cc in let place : at ≡ i = cc in (ap_both (λ v u. t.Integer v true u) place same, cc)
minus_same digits at digits_at (single class spelled i l) e = absurd (cc e)
minus_same digits at digits_at (parens o p inner whole) e = absurd (cc e)
minus_same digits at digits_at (object o p inner whole) e = absurd (cc e)

-- ---- brackets

pub brackets_one : {n k : ℕ} {a b : List Sym} → IsBrackets n a → IsBrackets k b → (fs bs : List Sym) → a ++ fs ≡ b ++ bs → ends_element fs ≡ true → ends_element bs ≡ true → (n ≡ k) × (fs ≡ bs)
brackets_one g.no_brackets g.no_brackets fs bs e h l = (refl, e)
brackets_one g.no_brackets (g.brackets o p q) fs bs e h l = absurd (apart ends_element e h refl)
brackets_one (g.brackets o p q) g.no_brackets fs bs e h l = absurd (apart ends_element (sym e) l refl)
brackets_one (g.brackets o p {xs = xs} q) (g.brackets i j {xs = ys} r) fs bs e h l =
    let rest : xs ++ fs ≡ ys ++ bs = cc in
    let same = brackets_one q r fs bs rest h l in (ap suc same.0, same.1)

brackets_no_start : {n : ℕ} {a : List Sym} → IsBrackets n a → (fs : List Sym) → ends_element fs ≡ true → is_start (a ++ fs) ≡ false
brackets_no_start g.no_brackets fs h = element_no_start fs h
brackets_no_start (g.brackets o p q) fs h = refl

-- a type that is `readonly` alone is no read-only array
pub read_only_apart : {a b : List Sym} {of other : TypeExpr} {n : ℕ} (spelled : List ℕ) (at : ℕ) {ys : List Sym} (fs bs : List Sym) → View a of → IsBrackets n ys → View b other → ends_element fs ≡ true
    → a ++ (ys ++ fs) ≡ word w.Readonly spelled at ∷ b ++ bs → ⊥
read_only_apart {b = b} spelled at {ys = ys} fs bs (single class text i l) q v h e = apart is_start (let rest : ys ++ fs ≡ b ++ bs = cc in sym rest) (view_starts v bs) (brackets_no_start q fs h)
read_only_apart spelled at fs bs (minus digits i j) q v h e = cc
read_only_apart spelled at fs bs (parens o p inner whole) q v h e = cc
read_only_apart spelled at fs bs (object o p inner whole) q v h e = cc

-- ---- what types are followed by and begin with

pub tail_ends : {a : List Sym} {of : List TypeExpr} {own depth : ℕ} → IsTail a of own depth → (fs : List Sym) → ends_type fs ≡ true → ends_element (a ++ fs) ≡ true
tail_ends g.no_tail fs h = type_element fs h
tail_ends (g.more_tail bar q r) fs h = refl

element_starts : {a : List Sym} {of : TypeExpr} {own depth : ℕ} → IsElement a of own depth → (zs : List Sym) → is_start (a ++ zs) ≡ true
element_starts (g.plain_element {xs = xs} {ys = ys} q r) zs = ap is_start (append_assoc xs ys zs) ∙ view_starts (view q) (ys ++ zs)
element_starts (g.read_only_element spelled at q r) zs = refl

pub element_begins : {a : List Sym} {of : TypeExpr} {own depth : ℕ} → IsElement a of own depth → (zs : List Sym) → start_of (a ++ zs) ≡ start_of a
element_begins (g.plain_element {xs = xs} {ys = ys} q r) zs = ap start_of (append_assoc xs ys zs) ∙ (view_begins (view q) (ys ++ zs) ∙ sym (view_begins (view q) ys))
element_begins (g.read_only_element spelled at q r) zs = refl

pub union_starts : {a : List Sym} {of : TypeExpr} {own depth : ℕ} → IsUnion a of own depth → (zs : List Sym) → is_start (a ++ zs) ≡ true
union_starts (g.one_element q) zs = element_starts q zs
union_starts (g.several_elements bar {xs = xs} {ys = ys} {zs = vs} q r s) zs =
    ap is_start (append_assoc (xs ++ Mark m.Bar bar ∷ ys) vs zs ∙ append_assoc xs (Mark m.Bar bar ∷ ys) (vs ++ zs)) ∙ element_starts q (Mark m.Bar bar ∷ (ys ++ (vs ++ zs)))

-- a type begins with no `)`
start_no_close : (zs : List Sym) → is_start zs ≡ true → closes_params zs ≡ false
start_no_close (Lex class spelled at ∷ zs) h = refl
start_no_close (Mark m.Minus at ∷ zs) h = refl
start_no_close (Mark m.OpenParen at ∷ zs) h = refl
start_no_close (Mark m.OpenBrace at ∷ zs) h = refl
start_no_close _ h = let no : false ≡ true = h in absurd cc

type_no_close : {a : List Sym} {of : TypeExpr} {own depth : ℕ} → IsType a of own depth → (zs : List Sym) → closes_params (a ++ zs) ≡ false
type_no_close (g.function_type o p j q r) zs = refl
type_no_close (g.union_type unmarked q) zs = start_no_close _ (union_starts q zs)
type_no_close (g.union_type (marked at) q) zs = refl

-- `?` or `:`
abbrev pub is_named : List Sym → Bool
is_named (Mark m.Question at ∷ zs) = true
is_named (Mark m.Colon at ∷ zs) = true
is_named _ = false

ends_no_name : (zs : List Sym) → ends_element zs ≡ true → is_named zs ≡ false
ends_no_name [] h = refl
ends_no_name (Mark m.CloseParen at ∷ zs) h = refl
ends_no_name (Mark m.Comma at ∷ zs) h = refl
ends_no_name (Mark m.Semicolon at ∷ zs) h = refl
ends_no_name (Mark m.CloseBrace at ∷ zs) h = refl
ends_no_name (Mark m.Bar at ∷ zs) h = refl
ends_no_name _ h = let no : false ≡ true = h in absurd cc

start_no_name : (zs : List Sym) → is_start zs ≡ true → is_named zs ≡ false
start_no_name (Lex class spelled at ∷ zs) h = refl
start_no_name (Mark m.Minus at ∷ zs) h = refl
start_no_name (Mark m.OpenParen at ∷ zs) h = refl
start_no_name (Mark m.OpenBrace at ∷ zs) h = refl
start_no_name _ h = let no : false ≡ true = h in absurd cc

brackets_no_name : {n : ℕ} {a : List Sym} → IsBrackets n a → (fs : List Sym) → ends_element fs ≡ true → is_named (a ++ fs) ≡ false
brackets_no_name g.no_brackets fs h = ends_no_name fs h
brackets_no_name (g.brackets o p q) fs h = refl

view_no_name : {a : List Sym} {of : TypeExpr} → View a of → (s : Sym) (zs ws : List Sym) → a ++ zs ≡ s ∷ ws → ((kind : MarkKind) (at : ℕ) → s ≡ Mark kind at → ⊥) → is_named zs ≡ false → is_named ws ≡ false
view_no_name (single class spelled at l) s zs ws e n h = let rest : zs ≡ ws = cc in sym (ap is_named rest) ∙ h
view_no_name (minus digits at j) s zs ws e n h = absurd (n m.Minus at cc)
view_no_name (parens o p inner whole) s zs ws e n h = absurd (n m.OpenParen o cc)
view_no_name (object o p inner whole) s zs ws e n h = absurd (n m.OpenBrace o cc)

element_no_name : {a : List Sym} {of : TypeExpr} {own depth : ℕ} → IsElement a of own depth → (s : Sym) (zs ws : List Sym) → a ++ zs ≡ s ∷ ws → ((kind : MarkKind) (at : ℕ) → s ≡ Mark kind at → ⊥) → ends_element zs ≡ true
    → is_named ws ≡ false
element_no_name (g.plain_element {xs = xs} {ys = ys} q r) s zs ws e n h = view_no_name (view q) s (ys ++ zs) ws (sym (append_assoc xs ys zs) ∙ e) n (brackets_no_name r zs h)
element_no_name (g.read_only_element spelled at {xs = xs} {ys = ys} q r) s zs ws e n h =
    let rest : xs ++ ys ++ zs ≡ ws = cc in
    sym (ap is_named rest) ∙ start_no_name (xs ++ ys ++ zs) (ap is_start (append_assoc xs ys zs) ∙ view_starts (view q) (ys ++ zs))

union_no_name : {a : List Sym} {of : TypeExpr} {own depth : ℕ} → IsUnion a of own depth → (s : Sym) (zs ws : List Sym) → a ++ zs ≡ s ∷ ws → ((kind : MarkKind) (at : ℕ) → s ≡ Mark kind at → ⊥) → ends_type zs ≡ true
    → is_named ws ≡ false
union_no_name (g.one_element q) s zs ws e n h = element_no_name q s zs ws e n (type_element zs h)
union_no_name (g.several_elements bar {xs = xs} {ys = ys} {zs = vs} q r t) s zs ws e n h =
    element_no_name q s (Mark m.Bar bar ∷ (ys ++ (vs ++ zs))) ws (sym (append_assoc xs (Mark m.Bar bar ∷ ys) (vs ++ zs)) ∙ (sym (append_assoc (xs ++ Mark m.Bar bar ∷ ys) vs zs) ∙ e)) n refl

-- behind its first word no type goes on with `?` or `:`
type_no_name : {a : List Sym} {of : TypeExpr} {own depth : ℕ} → IsType a of own depth → (s : Sym) (zs ws : List Sym) → a ++ zs ≡ s ∷ ws → ((kind : MarkKind) (at : ℕ) → s ≡ Mark kind at → ⊥) → ends_type zs ≡ true
    → is_named ws ≡ false
type_no_name (g.function_type o p j q r) s zs ws e n h = absurd (n m.OpenParen o cc)
type_no_name (g.union_type unmarked q) s zs ws e n h = union_no_name q s zs ws e n h
type_no_name (g.union_type (marked at) q) s zs ws e n h = absurd (n m.Bar at cc)

-- ---- parameters are no type

-- how parameters begin: not at all, or with a name and `?` or `:`
pub data Begun : List Sym → Type 0 where
  not_begun : Begun []
  begun : (kind : Word) (spelled : List ℕ) (at : ℕ) (ws : List Sym) → ((zs : List Sym) → is_named (ws ++ zs) ≡ true) → Begun (word kind spelled at ∷ ws)

param_begun : {a : List Sym} {of : TypeParam} {own depth : ℕ} → IsTypeParam a of own depth → (vs : List Sym) → Begun (a ++ vs)
param_begun (g.type_param {kind = kind} spelled at colon {ys = ys} h unmarked q) vs = begun kind spelled at (Mark m.Colon colon ∷ ys ++ vs) (λ zs. refl)
param_begun (g.type_param {kind = kind} spelled at colon {ys = ys} h (marked i) q) vs = begun kind spelled at (Mark m.Question i ∷ Mark m.Colon colon ∷ ys ++ vs) (λ zs. refl)

pub params_begun : {a : List Sym} {of : List TypeParam} {own depth : ℕ} → IsTypeParams a of own depth → Begun a
params_begun g.no_type_params = not_begun
params_begun (g.last_type_param {xs = xs} q) = subst Begun (append-nil xs) (param_begun q [])
params_begun (g.more_type_params comma {ys = ys} q r) = param_begun q (Mark m.Comma comma ∷ ys)

begun_no_type : {a b : List Sym} {of : TypeExpr} {own depth : ℕ} (p : ℕ) (ws zs : List Sym) → Begun a → IsType b of own depth → ends_type zs ≡ true → a ++ Mark m.CloseParen p ∷ ws ≡ b ++ zs → ⊥
begun_no_type p ws zs not_begun q h e = apart closes_params e refl (type_no_close q zs)
begun_no_type p ws zs (begun kind spelled at vs f) q h e =
    let rest = type_no_name q (word kind spelled at) zs (vs ++ Mark m.CloseParen p ∷ ws) (sym e) (no_mark (c.Word kind) spelled at) h in
    let no : true ≡ false = sym (f (Mark m.CloseParen p ∷ ws)) ∙ rest in cc

-- a function is no union
no_atom : {a b : List Sym} {of : TypeExpr} {own depth : ℕ} (o p : ℕ) (ws zs : List Sym) → Begun a → IsAtom b of own depth → Mark m.OpenParen o ∷ (a ++ Mark m.CloseParen p ∷ ws) ≡ b ++ zs → ⊥
no_atom {a = a} o p ws zs v (g.parens_type i j {xs = xs} q) e =
    let rest : a ++ Mark m.CloseParen p ∷ ws ≡ xs ++ Mark m.CloseParen j ∷ [] ++ zs = cc in
    begun_no_type p ws (Mark m.CloseParen j ∷ zs) v q refl (rest ∙ append_assoc xs (Mark m.CloseParen j ∷ []) zs)
no_atom o p ws zs v (g.keyword_type spelled at h) e = cc
no_atom o p ws zs v (g.boolean_type spelled at h) e = cc
no_atom o p ws zs v (g.string_type spelled at) e = cc
no_atom o p ws zs v (g.integer_type digits at h) e = cc
no_atom o p ws zs v (g.minus_type digits at digits_at h) e = cc
no_atom o p ws zs v (g.written_type spelled at h) e = cc
no_atom o p ws zs v (g.object_type i j q) e = cc

no_element : {a b : List Sym} {of : TypeExpr} {own depth : ℕ} (o p : ℕ) (ws zs : List Sym) → Begun a → IsElement b of own depth → Mark m.OpenParen o ∷ (a ++ Mark m.CloseParen p ∷ ws) ≡ b ++ zs → ⊥
no_element o p ws zs v (g.plain_element {xs = xs} {ys = ys} q r) e = no_atom o p ws (ys ++ zs) v q (e ∙ append_assoc xs ys zs)
no_element o p ws zs v (g.read_only_element spelled at q r) e = cc

pub no_union : {a b : List Sym} {of : TypeExpr} {own depth : ℕ} (o p : ℕ) (ws zs : List Sym) → Begun a → IsUnion b of own depth → Mark m.OpenParen o ∷ (a ++ Mark m.CloseParen p ∷ ws) ≡ b ++ zs → ⊥
no_union o p ws zs v (g.one_element q) e = no_element o p ws zs v q e
no_union o p ws zs v (g.several_elements bar {xs = xs} {ys = ys} {zs = vs} q r s) e =
    no_element o p ws (Mark m.Bar bar ∷ (ys ++ (vs ++ zs))) v q (e ∙ (append_assoc (xs ++ Mark m.Bar bar ∷ ys) vs zs ∙ append_assoc xs (Mark m.Bar bar ∷ ys) (vs ++ zs)))
