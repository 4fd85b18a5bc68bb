-- Parameters and members as lists of items.
use Rattle.std.proofs.Common.{◌≡◌, ℕ, ◌≤◌, max, Bool, true, false, List, ◌∷◌, ◌++◌, length, refl, sym, ◌∙◌, ap, subst, arith}
use Rattle.tb_tree.specs.declared.marks.Mark.{Mark as MarkKind}
use Rattle.tb_tree.specs.declared.marks.Mark.TheVariants as m
use Rattle.std.specs.Prelude.{Some}
use Rattle.tb_tree.specs.declared.types.Key.{Key}
use Rattle.tb_tree.specs.declared.types.TypeParam.{TypeParam}
use Rattle.tb_tree.specs.declared.types.TypeMember.{TypeMember}
use Rattle.tb_parse_type.specs.declared.reader.Limits.{Limits}
use Rattle.tb_tree.specs.Sym.{Sym, Mark, Lex}
use Rattle.tb_tree.specs.Longest.{Found, Starts}
use Rattle.tb_tree.specs.Shapes.{unworded, worded, key_of}
use Rattle.tb_tree.specs.Types.{IsTypeParam, type_param, IsTypeParams, no_type_params, last_type_param, more_type_params, IsTypeMember, property_member, method_member, IsTypeMembers, no_type_members, last_type_member, more_type_members, ends_member}
use Rattle.tb_parse_type.specs.Rules.{Counted, ParamUpto, ParamsUpto, MemberUpto, MembersUpto, InType, InParams, InMembers}
use Rattle.tb_parse_type.proofs.Joins.{IsBack, found_by}
use Rattle.tb_parse_type.proofs.Lists.{IsList, no_items, last_item, more_items, ListRule, Separates}

-- ---- parameters

abbrev pub is_comma : MarkKind → Bool
is_comma m.Comma = true
is_comma _ = false

only_comma : (k : MarkKind) → is_comma k ≡ true → k ≡ m.Comma
only_comma m.Comma e = refl
only_comma _ e = cc

-- what goes on with a type goes on with parameters, and with members
type_in_params : (s : Sym) → InType s → InParams s
type_in_params (Lex k w at) h = refl
type_in_params (Mark m.CloseParen at) h = let n : false ≡ true = h in cc
type_in_params (Mark _ at) h = refl

type_in_members : (s : Sym) → InType s → InMembers s
type_in_members (Lex k w at) h = refl
type_in_members (Mark m.CloseBrace at) h = let n : false ≡ true = h in cc
type_in_members (Mark _ at) h = refl

comma_apart : (k : MarkKind) (at : ℕ) → is_comma k ≡ true → InType (Mark k at) → ⊥
comma_apart m.Comma at e h = let n : false ≡ true = h in cc
comma_apart _ at e h = cc

comma_in_params : (k : MarkKind) (at : ℕ) → is_comma k ≡ true → InParams (Mark k at)
comma_in_params m.Comma at e = refl
comma_in_params _ at e = cc

param_starts : {a : List Sym} {u : TypeParam} {own depth : ℕ} (us : List Sym) → IsTypeParam a u own depth → Starts InParams (a ++ us)
param_starts us (type_param s at colon n q f) = refl

param_long : {a : List Sym} {u : TypeParam} {own depth : ℕ} → IsTypeParam a u own depth → 1 ≤ length a
param_long (type_param s at colon n q f) = omega arith

pub params_separate : (l : Limits) → Separates (ParamUpto l) is_comma InType InParams
params_separate l = record {
  separator = comma_apart;
  more = comma_in_params;
  wider = type_in_params;
  starts = λ a x us d. param_starts us d.0;
  long = λ a x d. param_long d.0;
}

params_forth : (l : Limits) {a : List Sym} {us : List TypeParam} {own depth : ℕ} → IsList (ParamUpto l) is_comma a us own depth → ParamsUpto l a (us, own, depth)
params_forth l no_items = (no_type_params, (omega arith, omega arith))
params_forth l (last_item d) = (last_type_param d.0, d.1)
params_forth l (more_items k at {xs = xs} {ys = ys} {of = of} {rest = rest} {own = own} {depth = depth} {rest_own = e} {rest_depth = n} d s q) =
    let r = params_forth l q in (
      subst (λ (k : MarkKind). IsTypeParams (xs ++ Mark k at ∷ ys) (of ∷ rest) (max own e) (max depth n)) (sym (only_comma k s)) (more_type_params at d.0 r.0),
      (omega (arith, d.1.0, r.1.0), omega (arith, d.1.1, r.1.1)),
    )

params_back : {a : List Sym} {us : List TypeParam} {own depth : ℕ} (l : Limits) → IsTypeParams a us own depth → own ≤ l.own → depth ≤ l.depth → IsList (ParamUpto l) is_comma a us own depth
params_back l no_type_params h k = no_items
params_back l (last_type_param q) h k = last_item (q, (h, k))
params_back l (more_type_params comma q r) h k = more_items m.Comma comma (q, (omega (arith, h), omega (arith, k))) refl (params_back l r (omega (arith, h)) (omega (arith, k)))

abbrev same : {X : Type 0} → Counted X → Counted X
same r = r

params_as : (l : Limits) (xs : List Sym) → IsBack same (ListRule (ParamUpto l) is_comma) (ParamsUpto l) xs
params_as l xs a u us d w = (u, params_back l d.0 d.1.0 d.1.1, refl)

pub params_found : {r : Counted (List TypeParam)} {xs ys : List Sym} (l : Limits) → Found (ListRule (ParamUpto l) is_comma) InParams xs r ys → Found (ParamsUpto l) InParams xs r ys
params_found {xs = xs} l f = found_by same (λ a w d. params_forth l d) (params_as l xs) f

-- ---- members

end_apart : (k : MarkKind) (at : ℕ) → ends_member k ≡ true → InType (Mark k at) → ⊥
end_apart m.Semicolon at e h = let n : false ≡ true = h in cc
end_apart m.Comma at e h = let n : false ≡ true = h in cc
end_apart _ at e h = cc

end_in_members : (k : MarkKind) (at : ℕ) → ends_member k ≡ true → InMembers (Mark k at)
end_in_members m.Semicolon at e = refl
end_in_members m.Comma at e = refl
end_in_members _ at e = cc

key_in_members : {key : Key} (s : Sym) → key_of s ≡ Some key → InMembers s
key_in_members (Lex k w at) e = refl
key_in_members (Mark k at) e = cc

member_starts : {a : List Sym} {u : TypeMember} {own depth : ℕ} (us : List Sym) → IsTypeMember a u own depth → Starts InMembers (a ++ us)
member_starts us (property_member s colon unworded e n f) = key_in_members s e
member_starts us (property_member s colon (worded w at) e n f) = refl
member_starts us (method_member s o c colon e n f g) = key_in_members s e

member_long : {a : List Sym} {u : TypeMember} {own depth : ℕ} → IsTypeMember a u own depth → 1 ≤ length a
member_long (property_member s colon unworded e n f) = omega arith
member_long (property_member s colon (worded w at) e n f) = omega arith
member_long (method_member s o c colon e n f g) = omega arith

pub members_separate : (l : Limits) → Separates (MemberUpto l) ends_member InType InMembers
members_separate l = record {
  separator = end_apart;
  more = end_in_members;
  wider = type_in_members;
  starts = λ a x us d. member_starts us d.0;
  long = λ a x d. member_long d.0;
}

members_forth : (l : Limits) {a : List Sym} {us : List TypeMember} {own depth : ℕ} → IsList (MemberUpto l) ends_member a us own depth → MembersUpto l a (us, own, depth)
members_forth l no_items = (no_type_members, (omega arith, omega arith))
members_forth l (last_item d) = (last_type_member d.0, d.1)
members_forth l (more_items k at d s q) = let r = members_forth l q in (more_type_members k at d.0 s r.0, (omega (arith, d.1.0, r.1.0), omega (arith, d.1.1, r.1.1)))

members_back : {a : List Sym} {us : List TypeMember} {own depth : ℕ} (l : Limits) → IsTypeMembers a us own depth → own ≤ l.own → depth ≤ l.depth → IsList (MemberUpto l) ends_member a us own depth
members_back l no_type_members h k = no_items
members_back l (last_type_member q) h k = last_item (q, (h, k))
members_back l (more_type_members mark at q e r) h k = more_items mark at (q, (omega (arith, h), omega (arith, k))) e (members_back l r (omega (arith, h)) (omega (arith, k)))

members_as : (l : Limits) (xs : List Sym) → IsBack same (ListRule (MemberUpto l) ends_member) (MembersUpto l) xs
members_as l xs a u us d w = (u, members_back l d.0 d.1.0 d.1.1, refl)

pub members_found : {r : Counted (List TypeMember)} {xs ys : List Sym} (l : Limits) → Found (ListRule (MemberUpto l) ends_member) InMembers xs r ys → Found (MembersUpto l) InMembers xs r ys
members_found {xs = xs} l f = found_by same (λ a w d. members_forth l d) (members_as l xs) f

-- where no comma stands, nothing separates
pub no_comma : (xs : List Sym) → ((o : ℕ) (zs : List Sym) → xs ≡ Mark m.Comma o ∷ zs → ⊥) → (k : MarkKind) (at : ℕ) → is_comma k ≡ true → (zs : List Sym) → xs ≡ Mark k at ∷ zs → ⊥
no_comma xs h k at e zs i = h at zs (i ∙ ap (λ (k : MarkKind). Mark k at ∷ zs) (only_comma k e))
