-- A type's share in the depth of an item is no greater than its own count, which has the parentheses beside.
use Rattle.std.proofs.Common.{◌≡◌, ℕ, ◌≤◌, Bool, true, false, List, refl, arith}
use Rattle.tb_tree.specs.declared.types.TypeExpr.{TypeExpr}
use Rattle.tb_tree.specs.declared.types.TypeParam.{TypeParam}
use Rattle.tb_tree.specs.declared.types.TypeMember.{TypeMember}
use Rattle.tb_tree.specs.Sym.{Sym}
use Rattle.tb_tree.specs.Types.{IsAtom, keyword_type, boolean_type, string_type, integer_type, minus_type, written_type, parens_type, object_type, IsElement, plain_element, read_only_element, IsTail, no_tail, more_tail, IsUnion, one_element, several_elements, IsType, function_type, union_type, IsTypeParam, type_param, IsTypeParams, no_type_params, last_type_param, more_type_params, IsTypeMember, property_member, method_member, IsTypeMembers, no_type_members, last_type_member, more_type_members, part_count}
use Rattle.tb_parse_type.specs.Rules.{is_union}
use Rattle.tb_parse_type.proofs.Unions.{part_is}

part_shallow : (of : TypeExpr) (own depth : ℕ) → depth ≤ own → part_count of depth ≤ part_count of own
part_shallow of own depth h = go (is_union of) refl
  where
    go : (b : Bool) → is_union of ≡ b → part_count of depth ≤ part_count of own
    go true e = omega (arith, h, part_is own of true e, part_is depth of true e)
    go false e = omega (arith, h, part_is own of false e, part_is depth of false e)

mutual
  atom_shallow : {a : List Sym} {u : TypeExpr} {own depth : ℕ} → IsAtom a u own depth → depth ≤ own
  atom_shallow (keyword_type s at e) = omega arith
  atom_shallow (boolean_type s at e) = omega arith
  atom_shallow (string_type s at) = omega arith
  atom_shallow (integer_type s at e) = omega arith
  atom_shallow (minus_type s at p e) = omega arith
  atom_shallow (written_type s at e) = omega arith
  atom_shallow (parens_type p q f) = omega (arith, type_shallow f)
  atom_shallow (object_type p q f) = omega (arith, members_shallow f)

  element_shallow : {a : List Sym} {u : TypeExpr} {own depth : ℕ} → IsElement a u own depth → depth ≤ own
  element_shallow (plain_element f b) = omega (arith, atom_shallow f)
  element_shallow (read_only_element s at f b) = omega (arith, atom_shallow f)

  tail_shallow : {a : List Sym} {us : List TypeExpr} {own depth : ℕ} → IsTail a us own depth → depth ≤ own
  tail_shallow no_tail = omega arith
  tail_shallow (more_tail bar {of = of} {own = own} {depth = depth} f g) = omega (arith, part_shallow of own depth (element_shallow f), tail_shallow g)

  union_shallow : {a : List Sym} {u : TypeExpr} {own depth : ℕ} → IsUnion a u own depth → depth ≤ own
  union_shallow (one_element f) = element_shallow f
  union_shallow (several_elements bar {of = of} {next = next} {own = own} {depth = depth} {next_own = e} {next_depth = d} f g h) =
      omega (arith, part_shallow of own depth (element_shallow f), part_shallow next e d (element_shallow g), tail_shallow h)

  pub type_shallow : {a : List Sym} {u : TypeExpr} {own depth : ℕ} → IsType a u own depth → depth ≤ own
  type_shallow (function_type p q o f g) = omega (arith, params_shallow f, type_shallow g)
  type_shallow (union_type b f) = union_shallow f

  param_shallow : {a : List Sym} {u : TypeParam} {own depth : ℕ} → IsTypeParam a u own depth → depth ≤ own
  param_shallow (type_param s at colon n q f) = type_shallow f

  params_shallow : {a : List Sym} {us : List TypeParam} {own depth : ℕ} → IsTypeParams a us own depth → depth ≤ own
  params_shallow no_type_params = omega arith
  params_shallow (last_type_param f) = param_shallow f
  params_shallow (more_type_params comma f g) = omega (arith, param_shallow f, params_shallow g)

  member_shallow : {a : List Sym} {u : TypeMember} {own depth : ℕ} → IsTypeMember a u own depth → depth ≤ own
  member_shallow (property_member s colon q e n f) = type_shallow f
  member_shallow (method_member s o c colon e n f g) = omega (arith, params_shallow f, type_shallow g)

  members_shallow : {a : List Sym} {us : List TypeMember} {own depth : ℕ} → IsTypeMembers a us own depth → depth ≤ own
  members_shallow no_type_members = omega arith
  members_shallow (last_type_member f) = member_shallow f
  members_shallow (more_type_members mark at f e g) = omega (arith, member_shallow f, members_shallow g)
