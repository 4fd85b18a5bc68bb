-- The second count of a type's derivation is the depth of its tree.
use Rattle.std.proofs.Common.{◌≡◌, ℕ, zero, suc, ◌+◌, max, false, true, map, List, [], ◌∷◌, ◌++◌, refl, sym, ap, ◌∙◌, arith}
use Rattle.tb_tree.specs.declared.types.TypeExpr.{TypeExpr, out-TypeExpr}
use Rattle.tb_tree.specs.declared.types.TypeExpr.TheVariants as t
use Rattle.tb_tree.specs.declared.types.TypeExpr.TheOpen.{TypeExpr-F}
use Rattle.tb_tree.specs.declared.types.TypeParam.{TypeParam}
use Rattle.tb_tree.specs.declared.types.TypeMember.{TypeMember}
use Rattle.tb_tree.specs.Sym.{Sym}
use Rattle.tb_tree.specs.Shapes.{start_of}
use Rattle.tb_tree.specs.Types as g
use Rattle.tb_tree.specs.Depth.{greatest, type_depth, types_depth, member_depth, members_depth, type_param_depth, type_params_depth}
use Rattle.tb_tree.proofs.TypeLayers as l
use Rattle.tb_tree.proofs.Ends.{ap_both}

-- ---- arrays and unions

arrays_depth : (at n : ℕ) (of : TypeExpr) → type_depth (g.arrays at n of) ≡ type_depth of + n
arrays_depth at zero of = omega arith
arrays_depth at (suc n) of = let deeper = arrays_depth at n (t.Array at false of) in let array = l.array_type at false of in omega (arith, deeper, array)

types_append : (xs ys : List TypeExpr) → types_depth (xs ++ ys) ≡ max (types_depth xs) (types_depth ys)
types_append [] ys = omega arith
types_append (x ∷ xs) ys = let rest = types_append xs ys in omega (arith, rest)

-- a type by its form
parts_opened : (of : TypeExpr) (layer : TypeExpr-F TypeExpr TypeMember TypeParam) → type_depth of ≡ l.open_type layer
    → types_depth (g.parts_at of layer) ≡ g.count_at (type_depth of) layer
parts_opened of (TypeExpr-F.Union at parts) e = omega (arith, e)
parts_opened of _ e = omega arith

parts_depth : (of : TypeExpr) → types_depth (g.parts_of of) ≡ g.part_count of (type_depth of)
parts_depth of = parts_opened of (out-TypeExpr of) (l.type_out of)

part_counted : (of : TypeExpr) {d : ℕ} → d ≡ type_depth of → g.part_count of d ≡ types_depth (g.parts_of of)
part_counted of e = ap (g.part_count of) e ∙ sym (parts_depth of)

-- ---- derivations

mutual
  atom_deep : {xs : List Sym} {of : TypeExpr} {own d : ℕ} → g.IsAtom xs of own d → d ≡ type_depth of
  atom_deep (g.keyword_type s at q) = sym (l.keyword_type _ _)
  atom_deep (g.boolean_type s at q) = sym (l.boolean_type _ _)
  atom_deep (g.string_type s at) = sym (l.string_type _ _)
  atom_deep (g.integer_type s at q) = sym (l.integer_type _ _ _)
  atom_deep (g.minus_type s at digits_at q) = sym (l.integer_type _ _ _)
  atom_deep (g.written_type s at q) = sym (l.written_type _ _ _)
  atom_deep (g.parens_type o c q) = type_deep q
  atom_deep (g.object_type o c q) = ap (λ n. n + 1) (members_deep q) ∙ sym (l.object_type _ _)

  element_deep : {xs : List Sym} {of : TypeExpr} {own d : ℕ} → g.IsElement xs of own d → d ≡ type_depth of
  element_deep (g.plain_element {xs = xs} {of = of} {n = n} q b) = let whole = arrays_depth (start_of xs) n of in omega (arith, atom_deep q, whole)
  element_deep (g.read_only_element s at {xs = xs} {of = of} {n = n} q b) =
      let inner = arrays_depth (start_of xs) n of in
      let whole = l.array_type at true (g.arrays (start_of xs) n of) in omega (arith, atom_deep q, inner, whole)

  tail_deep : {xs : List Sym} {of : List TypeExpr} {own d : ℕ} → g.IsTail xs of own d → d ≡ types_depth of
  tail_deep g.no_tail = refl
  tail_deep (g.more_tail bar {of = of} q r) = ap_both max (part_counted of (element_deep q)) (tail_deep r) ∙ sym (types_append _ _)

  union_deep : {xs : List Sym} {of : TypeExpr} {own d : ℕ} → g.IsUnion xs of own d → d ≡ type_depth of
  union_deep (g.one_element q) = element_deep q
  union_deep (g.several_elements bar {xs = xs} {of = of} {next = next} {rest = rest} p q r) =
      let two = types_append (g.parts_of of) (g.parts_of next) in
      let all = types_append (g.parts_of of ++ g.parts_of next) rest in
      let whole = l.union_type (start_of xs) (g.parts_of of ++ g.parts_of next ++ rest) in
      omega (arith, part_counted of (element_deep p), part_counted next (element_deep q), tail_deep r, two, all, whole)

  pub type_deep : {xs : List Sym} {of : TypeExpr} {own d : ℕ} → g.IsType xs of own d → d ≡ type_depth of
  type_deep (g.function_type o c a p q) = ap_both (λ m n. max m n + 1) (params_deep p) (type_deep q) ∙ sym (l.function_type _ _ _)
  type_deep (g.union_type bar q) = union_deep q

  param_deep : {xs : List Sym} {of : TypeParam} {own d : ℕ} → g.IsTypeParam xs of own d → d ≡ type_param_depth of
  param_deep (g.type_param s at colon n p q) = type_deep q ∙ sym (l.type_param_rolled _)

  pub params_deep : {xs : List Sym} {of : List TypeParam} {own d : ℕ} → g.IsTypeParams xs of own d → d ≡ type_params_depth of
  params_deep g.no_type_params = refl
  params_deep (g.last_type_param q) = let first = param_deep q in omega (arith, first)
  params_deep (g.more_type_params comma q r) = ap_both max (param_deep q) (params_deep r)

  member_deep : {xs : List Sym} {of : TypeMember} {own d : ℕ} → g.IsTypeMember xs of own d → d ≡ member_depth of
  member_deep (g.property_member s colon r k o q) = type_deep q ∙ sym (l.property_member _ _ _ _ _)
  member_deep (g.method_member s o c colon k p q r) = ap_both max (params_deep q) (type_deep r) ∙ sym (l.method_member _ _ _ _ _)

  pub members_deep : {xs : List Sym} {of : List TypeMember} {own d : ℕ} → g.IsTypeMembers xs of own d → d ≡ members_depth of
  members_deep g.no_type_members = refl
  members_deep (g.last_type_member q) = let first = member_deep q in omega (arith, first)
  members_deep (g.more_type_members mark at q e r) = ap_both max (member_deep q) (members_deep r)

-- an optional `: Type`, and one that stands there
pub shape_deep : {xs : List Sym} {of : TypeExpr} {d : ℕ} → g.IsShape xs of d → d ≡ type_depth of
shape_deep (g.shape colon q h) = type_deep q
