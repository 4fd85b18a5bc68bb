-- Symbols are one type at most, where what follows cannot go on a type: type by type, member by member.
use Rattle.std.proofs.Common.{◌≡◌, ℕ, zero, suc, Bool, true, false, List, [], ◌∷◌, ◌++◌, Some, None, refl, sym, ap, ◌∙◌, append_assoc}
use Rattle.tb_tree.specs.declared.marks.Mark.{Mark as MarkKind}
use Rattle.tb_tree.specs.declared.marks.Mark.TheVariants as m
use Rattle.tb_tree.specs.declared.words.Class.TheVariants as c
use Rattle.tb_tree.specs.declared.words.Word.TheVariants as w
use Rattle.tb_tree.specs.declared.types.Key.{Key}
use Rattle.tb_tree.specs.declared.types.TypeExpr.{TypeExpr}
use Rattle.tb_tree.specs.declared.types.TypeExpr.TheVariants as ty
use Rattle.tb_tree.specs.declared.types.TypeParam.{TypeParam, roll-TypeParam}
use Rattle.tb_tree.specs.declared.types.TypeMember.{TypeMember}
use Rattle.tb_tree.specs.declared.types.TypeMember.TheVariants as tm
use Rattle.tb_tree.specs.Sym.{Sym, Mark, Lex, at_of}
use Rattle.tb_tree.specs.Shapes.{word, start_of, key_of, IsMarked, unmarked, marked, unworded, worded}
use Rattle.tb_tree.specs.Types as g
use Rattle.tb_tree.specs.Types.{arrays, parts_of, IsAtom, IsElement, IsTail, IsUnion, IsType, IsTypeParam, IsTypeParams, IsTypeMember, IsTypeMembers}
use Rattle.tb_tree.proofs.Ends.{ap_both}
use Rattle.tb_emit_law.proofs.Back.{ap_three, ap_four}
use Rattle.tb_emit_law.proofs.DeclOneType.{ends_type, ends_element, is_start, closes_params, closes_body, apart, parted, type_element, params_type, body_type, member_type, member_no_close, View, single, minus, parens, object, view, view_begins, Same, keyword_is, boolean_is, written_is, single_same, minus_same, no_mark, brackets_one, read_only_apart, tail_ends, element_begins, union_starts, params_begun, no_union}

-- ---- atoms without types in them

abbrev is_flat : {a : List Sym} {of : TypeExpr} → View a of → Bool
is_flat (single class spelled at e) = true
is_flat (minus digits at digits_at) = true
is_flat (parens o p ws kind) = false
is_flat (object o p ws kind) = false

flat_same : {a b : List Sym} {of other : TypeExpr} (v : View a of) → is_flat v ≡ true → View b other → (fs bs : List Sym) → a ++ fs ≡ b ++ bs → Same of other fs bs
flat_same (single class spelled at l) h v fs bs e = single_same (Lex class spelled at) l v (no_mark class spelled at) e
flat_same (minus digits at digits_at) h v fs bs e = minus_same digits at digits_at v e
flat_same (parens o p ws kind) h v fs bs e = absurd (cc h)
flat_same (object o p ws kind) h v fs bs e = absurd (cc h)

flat_back : {a b : List Sym} {of other : TypeExpr} (v : View b other) → is_flat v ≡ true → View a of → (fs bs : List Sym) → a ++ fs ≡ b ++ bs → Same of other fs bs
flat_back v h u fs bs e = let same = flat_same v h u bs fs (sym e) in (sym same.0, sym same.1)

abbrev less : ℕ → ℕ
less zero = zero
less (suc n) = n

-- ---- a mark that may be left out

pub question_one : {a b : List Sym} {x y : Bool} → IsMarked m.Question a x → IsMarked m.Question b y → (k n : MarkKind) (i j : ℕ) (fs bs : List Sym) → a ++ Mark k i ∷ fs ≡ b ++ Mark n j ∷ bs
    → (k ≡ m.Question → ⊥) → (n ≡ m.Question → ⊥) → (x ≡ y) × (Mark k i ∷ fs ≡ Mark n j ∷ bs)
question_one unmarked unmarked k n i j fs bs e h l = (refl, e)
question_one unmarked (marked at) k n i j fs bs e h l = absurd (h cc)
question_one (marked at) unmarked k n i j fs bs e h l = absurd (l cc)
question_one (marked at) (marked other) k n i j fs bs e h l = (refl, cc)

pub no_colon : m.Colon ≡ m.Question → ⊥
no_colon e = cc

pub no_open : m.OpenParen ≡ m.Question → ⊥
no_open e = cc

-- a key stands before no mark
no_key : {key : Key} {a : List Sym} {x : Bool} → IsMarked m.Question a x → (k : MarkKind) (i : ℕ) (fs : List Sym) (s : Sym) (bs : List Sym) → a ++ Mark k i ∷ fs ≡ s ∷ bs → key_of s ≡ Some key → ⊥
no_key unmarked k i fs s bs e h = let same : Mark k i ≡ s = cc in let no : None ≡ Some _ = ap key_of same ∙ h in cc
no_key (marked at) k i fs s bs e h = let same : Mark m.Question at ≡ s = cc in let no : None ≡ Some _ = ap key_of same ∙ h in cc

key_no_close : {key : Key} (s : Sym) (zs : List Sym) → key_of s ≡ Some key → closes_body (s ∷ zs) ≡ false
key_no_close (Lex class spelled at) zs e = refl
key_no_close (Mark kind at) zs e = absurd (cc e)

same_key : {key other : Key} {s u : Sym} → s ≡ u → key_of s ≡ Some key → key_of u ≡ Some other → key ≡ other
same_key e h l = let keys : Some _ ≡ Some _ = sym h ∙ (ap key_of e ∙ l) in cc

param_no_close : {a : List Sym} {of : TypeParam} {own depth : ℕ} → IsTypeParam a of own depth → (zs : List Sym) → closes_params (a ++ zs) ≡ false
param_no_close (g.type_param spelled at colon h q r) zs = refl

member_opens : {a : List Sym} {of : TypeMember} {own depth : ℕ} → IsTypeMember a of own depth → (zs : List Sym) → closes_body (a ++ zs) ≡ false
member_opens (g.property_member s colon unworded e q r) zs = key_no_close s _ e
member_opens (g.property_member s colon (worded spelled at) e q r) zs = refl
member_opens (g.method_member s o p colon e q r t) zs = key_no_close s _ e

same_method : {a u : ℕ} {b v : Key} {c w : Bool} {d x : List TypeParam} {e y : TypeExpr} → a ≡ u → b ≡ v → c ≡ w → d ≡ x → e ≡ y → tm.Method a b c d e ≡ tm.Method u v w x y
same_method {a = a} {v = v} {w = w} {x = x} {y = y} h i j k l = ap_four (λ m n q r. tm.Method a m n q r) i j k l ∙ ap (λ n. tm.Method n v w x y) h

-- how lists of several parts come apart
pub several_parts : (xs : List Sym) (s : Sym) (ys zs fs : List Sym) → xs ++ s ∷ ys ++ zs ++ fs ≡ xs ++ s ∷ (ys ++ (zs ++ fs))
several_parts xs s ys zs fs = append_assoc (xs ++ s ∷ ys) zs fs ∙ append_assoc xs (s ∷ ys) (zs ++ fs)

mutual
  atom_one : {a b : List Sym} {of other : TypeExpr} {o d e f : ℕ} → IsAtom a of o d → IsAtom b other e f → (fs bs : List Sym) → a ++ fs ≡ b ++ bs → Same of other fs bs
  atom_one (g.parens_type i j {xs = xs} q) (g.parens_type k n {xs = ys} r) fs bs e =
      let rest : xs ++ Mark m.CloseParen j ∷ [] ++ fs ≡ ys ++ Mark m.CloseParen n ∷ [] ++ bs = cc in
      let same = type_one q r (Mark m.CloseParen j ∷ fs) (Mark m.CloseParen n ∷ bs) (parted xs (Mark m.CloseParen j ∷ []) fs ys (Mark m.CloseParen n ∷ []) bs rest) refl refl in
      let last = same.1 in
      (same.0, cc last)
  atom_one (g.object_type i j {xs = xs} q) (g.object_type k n {xs = ys} r) fs bs e =
      let rest : xs ++ Mark m.CloseBrace j ∷ [] ++ fs ≡ ys ++ Mark m.CloseBrace n ∷ [] ++ bs = cc in
      let place : i ≡ k = cc in
      let same = members_one q r (Mark m.CloseBrace j ∷ fs) (Mark m.CloseBrace n ∷ bs) (parted xs (Mark m.CloseBrace j ∷ []) fs ys (Mark m.CloseBrace n ∷ []) bs rest) refl refl in
      let last = same.1 in
      (ap_both (λ v u. ty.Object v u) place same.0, cc last)
  atom_one (g.keyword_type {kind = kind} {of = keyword} spelled at h) r fs bs e = flat_same (single (c.Word kind) spelled at (keyword_is kind spelled at h)) refl (view r) fs bs e
  atom_one (g.boolean_type {kind = kind} {value = value} spelled at h) r fs bs e = flat_same (single (c.Word kind) spelled at (boolean_is kind spelled at h)) refl (view r) fs bs e
  atom_one (g.string_type spelled at) r fs bs e = flat_same (single c.String spelled at refl) refl (view r) fs bs e
  atom_one (g.integer_type digits at h) r fs bs e = flat_same (single c.Number digits at refl) refl (view r) fs bs e
  atom_one (g.minus_type digits at digits_at h) r fs bs e = flat_same (minus digits at digits_at) refl (view r) fs bs e
  atom_one (g.written_type {kind = kind} spelled at h) r fs bs e = flat_same (single (c.Word kind) spelled at (written_is kind spelled at h)) refl (view r) fs bs e
  atom_one (g.parens_type i j q) (g.keyword_type {kind = kind} {of = keyword} spelled at h) fs bs e = flat_back (single (c.Word kind) spelled at (keyword_is kind spelled at h)) refl (view (g.parens_type i j q)) fs bs e
  atom_one (g.parens_type i j q) (g.boolean_type {kind = kind} {value = value} spelled at h) fs bs e = flat_back (single (c.Word kind) spelled at (boolean_is kind spelled at h)) refl (view (g.parens_type i j q)) fs bs e
  atom_one (g.parens_type i j q) (g.string_type spelled at) fs bs e = flat_back (single c.String spelled at refl) refl (view (g.parens_type i j q)) fs bs e
  atom_one (g.parens_type i j q) (g.integer_type digits at h) fs bs e = flat_back (single c.Number digits at refl) refl (view (g.parens_type i j q)) fs bs e
  atom_one (g.parens_type i j q) (g.minus_type digits at digits_at h) fs bs e = flat_back (minus digits at digits_at) refl (view (g.parens_type i j q)) fs bs e
  atom_one (g.parens_type i j q) (g.written_type {kind = kind} spelled at h) fs bs e = flat_back (single (c.Word kind) spelled at (written_is kind spelled at h)) refl (view (g.parens_type i j q)) fs bs e
  atom_one (g.object_type i j q) (g.keyword_type {kind = kind} {of = keyword} spelled at h) fs bs e = flat_back (single (c.Word kind) spelled at (keyword_is kind spelled at h)) refl (view (g.object_type i j q)) fs bs e
  atom_one (g.object_type i j q) (g.boolean_type {kind = kind} {value = value} spelled at h) fs bs e = flat_back (single (c.Word kind) spelled at (boolean_is kind spelled at h)) refl (view (g.object_type i j q)) fs bs e
  atom_one (g.object_type i j q) (g.string_type spelled at) fs bs e = flat_back (single c.String spelled at refl) refl (view (g.object_type i j q)) fs bs e
  atom_one (g.object_type i j q) (g.integer_type digits at h) fs bs e = flat_back (single c.Number digits at refl) refl (view (g.object_type i j q)) fs bs e
  atom_one (g.object_type i j q) (g.minus_type digits at digits_at h) fs bs e = flat_back (minus digits at digits_at) refl (view (g.object_type i j q)) fs bs e
  atom_one (g.object_type i j q) (g.written_type {kind = kind} spelled at h) fs bs e = flat_back (single (c.Word kind) spelled at (written_is kind spelled at h)) refl (view (g.object_type i j q)) fs bs e
  atom_one (g.parens_type i j q) (g.object_type k n r) fs bs e = absurd (cc e)
  atom_one (g.object_type i j q) (g.parens_type k n r) fs bs e = absurd (cc e)

  element_one : {a b : List Sym} {of other : TypeExpr} {o d e f : ℕ} → IsElement a of o d → IsElement b other e f → (fs bs : List Sym) → a ++ fs ≡ b ++ bs → ends_element fs ≡ true → ends_element bs ≡ true
      → Same of other fs bs
  element_one (g.plain_element {xs = xs} {ys = ys} q r) (g.plain_element {xs = vs} {ys = us} s t) fs bs e h l =
      let whole = parted xs ys fs vs us bs e in
      let atoms = atom_one q s (ys ++ fs) (us ++ bs) whole in
      let rest = brackets_one r t fs bs atoms.1 h l in
      let place = sym (view_begins (view q) (ys ++ fs)) ∙ (ap start_of whole ∙ view_begins (view s) (us ++ bs)) in
      (ap_three (λ v u n. arrays v u n) place rest.0 atoms.0, rest.1)
  element_one (g.plain_element {xs = xs} {ys = ys} q r) (g.read_only_element spelled at {xs = vs} {ys = us} s t) fs bs e h l =
      absurd (read_only_apart spelled at fs (us ++ bs) (view q) r (view s) h (parted xs ys fs (word w.Readonly spelled at ∷ vs) us bs e))
  element_one (g.read_only_element spelled at {xs = xs} {ys = ys} q r) (g.plain_element {xs = vs} {ys = us} s t) fs bs e h l =
      absurd (read_only_apart spelled at bs (ys ++ fs) (view s) t (view q) l (parted vs us bs (word w.Readonly spelled at ∷ xs) ys fs (sym e)))
  element_one (g.read_only_element spelled at {xs = xs} {ys = ys} q r) (g.read_only_element other i {xs = vs} {ys = us} s t) fs bs e h l =
      let place : at ≡ i = cc in
      let inner : xs ++ ys ++ fs ≡ vs ++ us ++ bs = cc in
      let whole = parted xs ys fs vs us bs inner in
      let atoms = atom_one q s (ys ++ fs) (us ++ bs) whole in
      let rest = brackets_one r t fs bs atoms.1 h l in
      let begins = sym (view_begins (view q) (ys ++ fs)) ∙ (ap start_of whole ∙ view_begins (view s) (us ++ bs)) in
      let count = ap less rest.0 in
      (ap_both (λ v u. ty.Array v true u) place (ap_three (λ v u n. arrays v u n) begins count atoms.0), rest.1)

  tail_one : {a b : List Sym} {of other : List TypeExpr} {o d e f : ℕ} → IsTail a of o d → IsTail b other e f → (fs bs : List Sym) → a ++ fs ≡ b ++ bs → ends_type fs ≡ true → ends_type bs ≡ true
      → (of ≡ other) × (fs ≡ bs)
  tail_one g.no_tail g.no_tail fs bs e h l = (refl, e)
  tail_one g.no_tail (g.more_tail bar q r) fs bs e h l = absurd (apart ends_type e h refl)
  tail_one (g.more_tail bar q r) g.no_tail fs bs e h l = absurd (apart ends_type (sym e) l refl)
  tail_one (g.more_tail bar {xs = xs} {ys = ys} q r) (g.more_tail other {xs = vs} {ys = us} s t) fs bs e h l =
      let inner : xs ++ ys ++ fs ≡ vs ++ us ++ bs = cc in
      let first = element_one q s (ys ++ fs) (us ++ bs) (parted xs ys fs vs us bs inner) (tail_ends r fs h) (tail_ends t bs l) in
      let rest = tail_one r t fs bs first.1 h l in
      (ap_both (λ v u. parts_of v ++ u) first.0 rest.0, rest.1)

  union_one : {a b : List Sym} {of other : TypeExpr} {o d e f : ℕ} → IsUnion a of o d → IsUnion b other e f → (fs bs : List Sym) → a ++ fs ≡ b ++ bs → ends_type fs ≡ true → ends_type bs ≡ true → Same of other fs bs
  union_one (g.one_element q) (g.one_element r) fs bs e h l = element_one q r fs bs e (type_element fs h) (type_element bs l)
  union_one (g.one_element q) (g.several_elements bar {xs = vs} {ys = us} {zs = ws} r s t) fs bs e h l =
      let same = element_one q r fs (Mark m.Bar bar ∷ (us ++ (ws ++ bs))) (e ∙ several_parts vs (Mark m.Bar bar) us ws bs) (type_element fs h) refl in
      absurd (apart ends_type same.1 h refl)
  union_one (g.several_elements bar {xs = xs} {ys = ys} {zs = zs} r s t) (g.one_element q) fs bs e h l =
      let same = element_one r q (Mark m.Bar bar ∷ (ys ++ (zs ++ fs))) bs (sym (several_parts xs (Mark m.Bar bar) ys zs fs) ∙ e) refl (type_element bs l) in
      absurd (apart ends_type (sym same.1) l refl)
  union_one (g.several_elements bar {xs = xs} {ys = ys} {zs = zs} q r s) (g.several_elements other {xs = vs} {ys = us} {zs = ws} i j k) fs bs e h l =
      let whole = sym (several_parts xs (Mark m.Bar bar) ys zs fs) ∙ (e ∙ several_parts vs (Mark m.Bar other) us ws bs) in
      let first = element_one q i (Mark m.Bar bar ∷ (ys ++ (zs ++ fs))) (Mark m.Bar other ∷ (us ++ (ws ++ bs))) whole refl refl in
      let joined = first.1 in
      let inner : ys ++ (zs ++ fs) ≡ us ++ (ws ++ bs) = cc joined in
      let second = element_one r j (zs ++ fs) (ws ++ bs) inner (tail_ends s fs h) (tail_ends k bs l) in
      let rest = tail_one s k fs bs second.1 h l in
      let begins = sym (element_begins q (Mark m.Bar bar ∷ (ys ++ (zs ++ fs)))) ∙ (ap start_of whole ∙ element_begins i (Mark m.Bar other ∷ (us ++ (ws ++ bs)))) in
      (ap_four (λ v u n o. ty.Union v (parts_of u ++ parts_of n ++ o)) begins first.0 second.0 rest.0, rest.1)

  pub type_one : {a b : List Sym} {of other : TypeExpr} {o d e f : ℕ} → IsType a of o d → IsType b other e f → (fs bs : List Sym) → a ++ fs ≡ b ++ bs → ends_type fs ≡ true → ends_type bs ≡ true → Same of other fs bs
  type_one (g.function_type o p j {xs = xs} {ys = ys} q r) (g.function_type i k n {xs = vs} {ys = us} s t) fs bs e h l =
      let place : o ≡ i = cc in
      let inner : xs ++ Mark m.CloseParen p ∷ Mark m.Arrow j ∷ ys ++ fs ≡ vs ++ Mark m.CloseParen k ∷ Mark m.Arrow n ∷ us ++ bs = cc in
      let params = params_one q s (Mark m.CloseParen p ∷ Mark m.Arrow j ∷ (ys ++ fs)) (Mark m.CloseParen k ∷ Mark m.Arrow n ∷ (us ++ bs))
      (parted xs (Mark m.CloseParen p ∷ Mark m.Arrow j ∷ ys) fs vs (Mark m.CloseParen k ∷ Mark m.Arrow n ∷ us) bs inner) refl refl in
      let behind = params.1 in
      let result : ys ++ fs ≡ us ++ bs = cc behind in
      let same = type_one r t fs bs result h l in
      (ap_three (λ v u n. ty.Function v u n) place params.0 same.0, same.1)
  type_one (g.function_type o p j {xs = xs} {ys = ys} q r) (g.union_type unmarked s) fs bs e h l =
      absurd (no_union o p (Mark m.Arrow j ∷ (ys ++ fs)) bs (params_begun q) s (sym (append_assoc (Mark m.OpenParen o ∷ xs) (Mark m.CloseParen p ∷ Mark m.Arrow j ∷ ys) fs) ∙ e))
  type_one (g.function_type o p j q r) (g.union_type (marked at) s) fs bs e h l = absurd (cc e)
  type_one (g.union_type unmarked s) (g.function_type o p j {xs = xs} {ys = ys} q r) fs bs e h l =
      absurd (no_union o p (Mark m.Arrow j ∷ (ys ++ bs)) fs (params_begun q) s (sym (append_assoc (Mark m.OpenParen o ∷ xs) (Mark m.CloseParen p ∷ Mark m.Arrow j ∷ ys) bs) ∙ sym e))
  type_one (g.union_type (marked at) s) (g.function_type o p j q r) fs bs e h l = absurd (cc e)
  type_one (g.union_type unmarked q) (g.union_type unmarked r) fs bs e h l = union_one q r fs bs e h l
  type_one (g.union_type {ys = xs} (marked at) q) (g.union_type {ys = ys} (marked i) r) fs bs e h l = let inner : xs ++ fs ≡ ys ++ bs = cc in union_one q r fs bs inner h l
  type_one (g.union_type unmarked q) (g.union_type (marked i) r) fs bs e h l = absurd (apart is_start e (union_starts q fs) refl)
  type_one (g.union_type (marked i) q) (g.union_type unmarked r) fs bs e h l = absurd (apart is_start (sym e) (union_starts r bs) refl)

  param_one : {a b : List Sym} {of other : TypeParam} {o d e f : ℕ} → IsTypeParam a of o d → IsTypeParam b other e f → (fs bs : List Sym) → a ++ fs ≡ b ++ bs → ends_type fs ≡ true → ends_type bs ≡ true
      → (of ≡ other) × (fs ≡ bs)
  param_one (g.type_param {kind = kind} spelled at colon {xs = xs} {ys = ys} n q r) (g.type_param {kind = other} text i j {xs = vs} {ys = us} k s t) fs bs e h l =
      let place : at ≡ i = cc in
      let name : spelled ≡ text = cc in
      let inner : xs ++ Mark m.Colon colon ∷ ys ++ fs ≡ vs ++ Mark m.Colon j ∷ us ++ bs = cc in
      let question = question_one q s m.Colon m.Colon colon j (ys ++ fs) (us ++ bs) (parted xs (Mark m.Colon colon ∷ ys) fs vs (Mark m.Colon j ∷ us) bs inner) no_colon no_colon in
      let behind = question.1 in
      let shape : ys ++ fs ≡ us ++ bs = cc behind in
      let same = type_one r t fs bs shape h l in
      (ap_four (λ v u n o. roll-TypeParam (record { at = v; name = u; optional = n; shape = o })) place name question.0 same.0, same.1)

  pub params_one : {a b : List Sym} {of other : List TypeParam} {o d e f : ℕ} → IsTypeParams a of o d → IsTypeParams b other e f → (fs bs : List Sym) → a ++ fs ≡ b ++ bs → closes_params fs ≡ true → closes_params bs ≡ true
      → (of ≡ other) × (fs ≡ bs)
  params_one g.no_type_params g.no_type_params fs bs e h l = (refl, e)
  params_one g.no_type_params (g.last_type_param r) fs bs e h l = absurd (apart closes_params e h (param_no_close r bs))
  params_one g.no_type_params (g.more_type_params comma {xs = vs} {ys = us} r s) fs bs e h l = absurd (apart closes_params (e ∙ append_assoc vs (Mark m.Comma comma ∷ us) bs) h (param_no_close r (Mark m.Comma comma ∷ (us ++ bs))))
  params_one (g.last_type_param q) g.no_type_params fs bs e h l = absurd (apart closes_params (sym e) l (param_no_close q fs))
  params_one (g.more_type_params comma {xs = xs} {ys = ys} q r) g.no_type_params fs bs e h l =
      absurd (apart closes_params (sym e ∙ append_assoc xs (Mark m.Comma comma ∷ ys) fs) l (param_no_close q (Mark m.Comma comma ∷ (ys ++ fs))))
  params_one (g.last_type_param q) (g.last_type_param r) fs bs e h l = let same = param_one q r fs bs e (params_type fs h) (params_type bs l) in (ap (λ v. v ∷ []) same.0, same.1)
  params_one (g.last_type_param q) (g.more_type_params comma {xs = vs} {ys = us} r s) fs bs e h l =
      let same = param_one q r fs (Mark m.Comma comma ∷ (us ++ bs)) (e ∙ append_assoc vs (Mark m.Comma comma ∷ us) bs) (params_type fs h) refl in absurd (apart closes_params same.1 h refl)
  params_one (g.more_type_params comma {xs = xs} {ys = ys} q r) (g.last_type_param s) fs bs e h l =
      let same = param_one q s (Mark m.Comma comma ∷ (ys ++ fs)) bs (sym (append_assoc xs (Mark m.Comma comma ∷ ys) fs) ∙ e) refl (params_type bs l) in absurd (apart closes_params (sym same.1) l refl)
  params_one (g.more_type_params comma {xs = xs} {ys = ys} q r) (g.more_type_params other {xs = vs} {ys = us} s t) fs bs e h l =
      let first = param_one q s (Mark m.Comma comma ∷ (ys ++ fs)) (Mark m.Comma other ∷ (us ++ bs)) (parted xs (Mark m.Comma comma ∷ ys) fs vs (Mark m.Comma other ∷ us) bs e) refl refl in
      let behind = first.1 in
      let inner : ys ++ fs ≡ us ++ bs = cc behind in
      let rest = params_one r t fs bs inner h l in
      (ap_both (λ v u. v ∷ u) first.0 rest.0, rest.1)

  member_one : {a b : List Sym} {of other : TypeMember} {o d e f : ℕ} → IsTypeMember a of o d → IsTypeMember b other e f → (fs bs : List Sym) → a ++ fs ≡ b ++ bs → ends_type fs ≡ true → ends_type bs ≡ true
      → (of ≡ other) × (fs ≡ bs)
  member_one (g.property_member s colon {ys = ys} {zs = zs} unworded k q r) (g.property_member u j {ys = us} {zs = ws} unworded n i t) fs bs e h l =
      let same : s ≡ u = cc in
      let inner : ys ++ Mark m.Colon colon ∷ zs ++ fs ≡ us ++ Mark m.Colon j ∷ ws ++ bs = cc in
      let question = question_one q i m.Colon m.Colon colon j (zs ++ fs) (ws ++ bs) (parted ys (Mark m.Colon colon ∷ zs) fs us (Mark m.Colon j ∷ ws) bs inner) no_colon no_colon in
      let behind = question.1 in
      let shape : zs ++ fs ≡ ws ++ bs = cc behind in
      let typed = type_one r t fs bs shape h l in
      (ap_four (λ v x y z. tm.Property v false x y z) (ap at_of same) (same_key same k n) question.0 typed.0, typed.1)
  member_one (g.property_member s colon {ys = ys} {zs = zs} (worded text place) k q r) (g.property_member u j {ys = us} {zs = ws} (worded other at) n i t) fs bs e h l =
      let same : s ≡ u = cc in
      let inner : ys ++ Mark m.Colon colon ∷ zs ++ fs ≡ us ++ Mark m.Colon j ∷ ws ++ bs = cc in
      let question = question_one q i m.Colon m.Colon colon j (zs ++ fs) (ws ++ bs) (parted ys (Mark m.Colon colon ∷ zs) fs us (Mark m.Colon j ∷ ws) bs inner) no_colon no_colon in
      let behind = question.1 in
      let shape : zs ++ fs ≡ ws ++ bs = cc behind in
      let typed = type_one r t fs bs shape h l in
      (ap_four (λ v x y z. tm.Property v true x y z) (ap at_of same) (same_key same k n) question.0 typed.0, typed.1)
  member_one (g.property_member s colon {ys = ys} {zs = zs} unworded k q r) (g.property_member u j {ys = us} {zs = ws} (worded other at) n i t) fs bs e h l =
      let inner : ys ++ Mark m.Colon colon ∷ zs ++ fs ≡ u ∷ (us ++ Mark m.Colon j ∷ ws ++ bs) = cc in
      absurd (no_key q m.Colon colon (zs ++ fs) u (us ++ Mark m.Colon j ∷ ws ++ bs) (sym (append_assoc ys (Mark m.Colon colon ∷ zs) fs) ∙ inner) n)
  member_one (g.property_member s colon {ys = ys} {zs = zs} (worded text place) k q r) (g.property_member u j {ys = us} {zs = ws} unworded n i t) fs bs e h l =
      let inner : us ++ Mark m.Colon j ∷ ws ++ bs ≡ s ∷ (ys ++ Mark m.Colon colon ∷ zs ++ fs) = cc in
      absurd (no_key i m.Colon j (ws ++ bs) s (ys ++ Mark m.Colon colon ∷ zs ++ fs) (sym (append_assoc us (Mark m.Colon j ∷ ws) bs) ∙ inner) k)
  member_one (g.method_member s o p colon {xs = xs} {ys = ys} {zs = zs} k q r t) (g.method_member u i j n {xs = vs} {ys = us} {zs = ws} key x y z) fs bs e h l =
      let same : s ≡ u = cc in
      let inner : xs ++ Mark m.OpenParen o ∷ ys ++ Mark m.CloseParen p ∷ Mark m.Colon colon ∷ zs ++ fs ≡ vs ++ Mark m.OpenParen i ∷ us ++ Mark m.CloseParen j ∷ Mark m.Colon n ∷ ws ++ bs = cc in
      let whole = sym (several_parts xs (Mark m.OpenParen o) ys (Mark m.CloseParen p ∷ Mark m.Colon colon ∷ zs) fs) ∙ (inner ∙ several_parts vs (Mark m.OpenParen i) us (Mark m.CloseParen j ∷ Mark m.Colon n ∷ ws) bs) in
      let question = question_one q x m.OpenParen m.OpenParen o i (ys ++ Mark m.CloseParen p ∷ Mark m.Colon colon ∷ (zs ++ fs)) (us ++ Mark m.CloseParen j ∷ Mark m.Colon n ∷ (ws ++ bs)) whole no_open no_open in
      let behind = question.1 in
      let opened : ys ++ Mark m.CloseParen p ∷ Mark m.Colon colon ∷ (zs ++ fs) ≡ us ++ Mark m.CloseParen j ∷ Mark m.Colon n ∷ (ws ++ bs) = cc behind in
      let params = params_one r y (Mark m.CloseParen p ∷ Mark m.Colon colon ∷ (zs ++ fs)) (Mark m.CloseParen j ∷ Mark m.Colon n ∷ (ws ++ bs)) opened refl refl in
      let closed = params.1 in
      let shape : zs ++ fs ≡ ws ++ bs = cc closed in
      let typed = type_one t z fs bs shape h l in
      (same_method (ap at_of same) (same_key same k key) question.0 params.0 typed.0, typed.1)
  member_one (g.property_member s colon {ys = ys} {zs = zs} unworded k q r) (g.method_member u i j n {xs = vs} {ys = us} {zs = ws} key x y z) fs bs e h l =
      let inner : ys ++ Mark m.Colon colon ∷ zs ++ fs ≡ vs ++ Mark m.OpenParen i ∷ us ++ Mark m.CloseParen j ∷ Mark m.Colon n ∷ ws ++ bs = cc in
      let whole = sym (append_assoc ys (Mark m.Colon colon ∷ zs) fs) ∙ (inner ∙ several_parts vs (Mark m.OpenParen i) us (Mark m.CloseParen j ∷ Mark m.Colon n ∷ ws) bs) in
      let question = question_one q x m.Colon m.OpenParen colon i (zs ++ fs) (us ++ Mark m.CloseParen j ∷ Mark m.Colon n ∷ (ws ++ bs)) whole no_colon no_open in
      let behind = question.1 in
      absurd (cc behind)
  member_one (g.method_member s o p colon {xs = xs} {ys = ys} {zs = zs} k q r t) (g.property_member u j {ys = us} {zs = ws} unworded n i x) fs bs e h l =
      let inner : xs ++ Mark m.OpenParen o ∷ ys ++ Mark m.CloseParen p ∷ Mark m.Colon colon ∷ zs ++ fs ≡ us ++ Mark m.Colon j ∷ ws ++ bs = cc in
      let whole = sym (several_parts xs (Mark m.OpenParen o) ys (Mark m.CloseParen p ∷ Mark m.Colon colon ∷ zs) fs) ∙ (inner ∙ append_assoc us (Mark m.Colon j ∷ ws) bs) in
      let question = question_one q i m.OpenParen m.Colon o j (ys ++ Mark m.CloseParen p ∷ Mark m.Colon colon ∷ (zs ++ fs)) (ws ++ bs) whole no_open no_colon in
      let behind = question.1 in
      absurd (cc behind)
  member_one (g.property_member s colon {ys = ys} {zs = zs} (worded text place) k q r) (g.method_member u i j n {xs = vs} {ys = us} {zs = ws} key x y z) fs bs e h l =
      let inner : vs ++ Mark m.OpenParen i ∷ us ++ Mark m.CloseParen j ∷ Mark m.Colon n ∷ ws ++ bs ≡ s ∷ (ys ++ Mark m.Colon colon ∷ zs ++ fs) = cc in
      absurd (no_key x m.OpenParen i (us ++ Mark m.CloseParen j ∷ Mark m.Colon n ∷ (ws ++ bs)) s (ys ++ Mark m.Colon colon ∷ zs ++ fs)
      (sym (several_parts vs (Mark m.OpenParen i) us (Mark m.CloseParen j ∷ Mark m.Colon n ∷ ws) bs) ∙ inner) k)
  member_one (g.method_member s o p colon {xs = xs} {ys = ys} {zs = zs} k q r t) (g.property_member u j {ys = us} {zs = ws} (worded text place) n i x) fs bs e h l =
      let inner : xs ++ Mark m.OpenParen o ∷ ys ++ Mark m.CloseParen p ∷ Mark m.Colon colon ∷ zs ++ fs ≡ u ∷ (us ++ Mark m.Colon j ∷ ws ++ bs) = cc in
      absurd (no_key q m.OpenParen o (ys ++ Mark m.CloseParen p ∷ Mark m.Colon colon ∷ (zs ++ fs)) u (us ++ Mark m.Colon j ∷ ws ++ bs)
      (sym (several_parts xs (Mark m.OpenParen o) ys (Mark m.CloseParen p ∷ Mark m.Colon colon ∷ zs) fs) ∙ inner) n)

  pub members_one : {a b : List Sym} {of other : List TypeMember} {o d e f : ℕ} → IsTypeMembers a of o d → IsTypeMembers b other e f → (fs bs : List Sym) → a ++ fs ≡ b ++ bs → closes_body fs ≡ true → closes_body bs ≡ true
      → (of ≡ other) × (fs ≡ bs)
  members_one g.no_type_members g.no_type_members fs bs e h l = (refl, e)
  members_one g.no_type_members (g.last_type_member r) fs bs e h l = absurd (apart closes_body e h (member_opens r bs))
  members_one g.no_type_members (g.more_type_members mark at {xs = vs} {ys = us} r n s) fs bs e h l = absurd (apart closes_body (e ∙ append_assoc vs (Mark mark at ∷ us) bs) h (member_opens r (Mark mark at ∷ (us ++ bs))))
  members_one (g.last_type_member q) g.no_type_members fs bs e h l = absurd (apart closes_body (sym e) l (member_opens q fs))
  members_one (g.more_type_members mark at {xs = xs} {ys = ys} q n r) g.no_type_members fs bs e h l =
      absurd (apart closes_body (sym e ∙ append_assoc xs (Mark mark at ∷ ys) fs) l (member_opens q (Mark mark at ∷ (ys ++ fs))))
  members_one (g.last_type_member q) (g.last_type_member r) fs bs e h l = let same = member_one q r fs bs e (body_type fs h) (body_type bs l) in (ap (λ v. v ∷ []) same.0, same.1)
  members_one (g.last_type_member q) (g.more_type_members mark at {xs = vs} {ys = us} r n s) fs bs e h l =
      let same = member_one q r fs (Mark mark at ∷ (us ++ bs)) (e ∙ append_assoc vs (Mark mark at ∷ us) bs) (body_type fs h) (member_type mark at (us ++ bs) n) in
      absurd (apart closes_body same.1 h (member_no_close mark at (us ++ bs) n))
  members_one (g.more_type_members mark at {xs = xs} {ys = ys} q n r) (g.last_type_member s) fs bs e h l =
      let same = member_one q s (Mark mark at ∷ (ys ++ fs)) bs (sym (append_assoc xs (Mark mark at ∷ ys) fs) ∙ e) (member_type mark at (ys ++ fs) n) (body_type bs l) in
      absurd (apart closes_body (sym same.1) l (member_no_close mark at (ys ++ fs) n))
  members_one (g.more_type_members mark at {xs = xs} {ys = ys} q n r) (g.more_type_members other i {xs = vs} {ys = us} s k t) fs bs e h l =
      let first = member_one q s (Mark mark at ∷ (ys ++ fs)) (Mark other i ∷ (us ++ bs)) (parted xs (Mark mark at ∷ ys) fs vs (Mark other i ∷ us) bs e) (member_type mark at (ys ++ fs) n) (member_type other i (us ++ bs) k) in
      let behind = first.1 in
      let inner : ys ++ fs ≡ us ++ bs = cc behind in
      let rest = members_one r t fs bs inner h l in
      (ap_both (λ v u. v ∷ u) first.0 rest.0, rest.1)
