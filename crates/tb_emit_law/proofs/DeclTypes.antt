-- The symbols of the layout of a type that was read are this type, but for offsets and for the spelling of strings, with no greater
-- counts.
use Rattle.std.proofs.Common.{◌≡◌, ℕ, zero, suc, ◌+◌, ◌≤◌, max, true, false, List, [], ◌∷◌, ◌++◌, map, flat_map, refl, sym, ap, subst, ◌∙◌, arith}
use Rattle.std.specs.List.{AllByRecursion}
use Rattle.tb_tree.specs.declared.marks.Mark.TheVariants as m
use Rattle.tb_tree.specs.declared.types.TypeExpr.{TypeExpr}
use Rattle.tb_tree.specs.declared.types.TypeExpr.TheVariants as t
use Rattle.tb_tree.specs.declared.types.TypeParam.{TypeParam}
use Rattle.tb_tree.specs.declared.types.TypeMember.{TypeMember}
use Rattle.tb_tree.specs.Sym.{Sym, Mark, at_of}
use Rattle.tb_tree.specs.Words.{is_type_name}
use Rattle.tb_tree.specs.Shapes.{start_of, unmarked}
use Rattle.tb_tree.specs.Types as g
use Rattle.tb_tree.specs.Types.{arrays, parts_of, part_count, IsAtom, IsElement, IsTail, IsUnion, IsType, IsTypeParam, IsTypeParams, IsTypeMember, IsTypeMembers}
use Rattle.tb_layout.specs.Pieces.{Piece, listed}
use Rattle.tb_layout.specs.Js.{in_parens}
use Rattle.tb_layout.specs.Shown.{Shown, Tight, ReadOnly, Arrow, part_pieces, element_pieces, barred, shown_type, shown_member, shown_type_param, type_pieces}
use Rattle.tb_layout.proofs.Showing as showing
use Rattle.tb_emit_law.proofs.Back.{Back, IsClassed, seen, told_by, fore, aft, named}
use Rattle.tb_emit_law.proofs.DeclPlain.{plain_type, plain_param, plain_member, is_union, is_union_at, parts_single, count_single, parts_union, count_union}
use Rattle.tb_emit_law.proofs.DeclSteps.{Under, exactly, by_other, weaker, keyword_step, boolean_step, string_step, integer_step, minus_step, written_step, parens_step, IsPlain, atom_plain, plain_element, element_type, array_step, read_only_step, function_step, no_params_step, last_param_step, more_params_step, param_step, property_step, method_step, closed_pieces, no_members_step, more_members_step, object_step, no_tail_step, more_tail_step, union_step, tail_pieces, barred_told}

-- ---- types by what decides about parentheses

-- a part of a union, with the parentheses that it has there
pub record PartBack (o d : ℕ) (of : TypeExpr) : Type 0 where
  pub single : is_union of ≡ false
  pub back : Back (Under IsElement o) plain_type (part_pieces (shown_type of)) of d

pub data PartsBack (o d : ℕ) : List TypeExpr → Type 0 where
  no_parts : PartsBack o d []
  more_parts : {of : TypeExpr} {rest : List TypeExpr} → PartBack o d of → PartsBack o d rest → PartsBack o d (of ∷ rest)

-- its symbols read back as this type, with counts up to these
pub data TypeBack : TypeExpr → ℕ → ℕ → Type 0 where
  is_tight : {of : TypeExpr} {o d : ℕ} (p : List Piece) → shown_type of ≡ record { form = Tight; pieces = p } → is_union of ≡ false → Back (Under IsPlain o) plain_type p of d → TypeBack of o d
  is_read_only : {of : TypeExpr} {o d : ℕ} (p : List Piece) → shown_type of ≡ record { form = ReadOnly; pieces = p } → is_union of ≡ false → Back (Under IsElement o) plain_type p of d → TypeBack of o d
  is_arrow : {of : TypeExpr} {o d : ℕ} (p : List Piece) → shown_type of ≡ record { form = Arrow; pieces = p } → is_union of ≡ false → Back (Under IsType o) plain_type p of d → TypeBack of o d
  is_joined : {first next : TypeExpr} {rest : List TypeExpr} {o d e f : ℕ} (at : ℕ) → PartsBack o d (first ∷ next ∷ rest) → o + 1 ≤ e → d + 1 ≤ f → TypeBack (t.Union at (first ∷ next ∷ rest)) e f

plain_to_element : {p : List Piece} {of : TypeExpr} {o d : ℕ} → Back (Under IsPlain o) plain_type p of d → Back (Under IsElement o) plain_type p of d
plain_to_element x = by_other (λ xs of own depth r. exactly (plain_element r)) x

element_to_type : {p : List Piece} {of : TypeExpr} {o d : ℕ} → Back (Under IsElement o) plain_type p of d → Back (Under IsType o) plain_type p of d
element_to_type x = by_other (λ xs of own depth r. exactly (element_type r)) x

atom_to_plain : {p : List Piece} {of : TypeExpr} {o d : ℕ} → Back (Under IsAtom o) plain_type p of d → Back (Under IsPlain o) plain_type p of d
atom_to_plain x = by_other (λ xs of own depth r. atom_plain r) x

union_to_type : {p : List Piece} {of : TypeExpr} {o d : ℕ} → Back (Under IsUnion o) plain_type p of d → Back (Under IsType o) plain_type p of d
union_to_type x = by_other (λ xs of own depth r. exactly (g.union_type unmarked r)) x

in_parens_back : {p : List Piece} {of : TypeExpr} {o d : ℕ} → Back (Under IsType o) plain_type p of d → Back (Under IsPlain (o + 1)) plain_type (in_parens p) of d
in_parens_back x = atom_to_plain (parens_step x)

parts_weaker : {o d e f : ℕ} {all : List TypeExpr} → o ≤ e → d ≤ f → PartsBack o d all → PartsBack e f all
parts_weaker h l no_parts = no_parts
parts_weaker h l (more_parts x r) = more_parts (record { single = x.single; back = weaker h l x.back }) (parts_weaker h l r)

parts_append : {o d e f : ℕ} {xs ys : List TypeExpr} → PartsBack o d xs → PartsBack e f ys → PartsBack (max o e) (max d f) (xs ++ ys)
parts_append {o = o} {d = d} {e = e} {f = f} no_parts r = parts_weaker (omega arith) (omega arith) r
parts_append {o = o} {d = d} {e = e} {f = f} (more_parts x q) r = more_parts (record { single = x.single; back = weaker (omega arith) (omega arith) x.back }) (parts_append q r)

tail_back : {o d : ℕ} {all : List TypeExpr} → PartsBack o d all → Back (Under IsTail o) (map plain_type) (tail_pieces (map shown_type all)) all d
tail_back no_parts = no_tail_step
tail_back (more_parts x r) = more_tail_step x.single x.back (tail_back r)

union_back : {o d : ℕ} {first next : TypeExpr} {rest : List TypeExpr} (at : ℕ) → PartsBack o d (first ∷ next ∷ rest)
    → Back (Under IsUnion (o + 1)) plain_type (barred (map shown_type (first ∷ next ∷ rest))) (t.Union at (first ∷ next ∷ rest)) (d + 1)
union_back {first = first} {next = next} {rest = rest} at (more_parts x (more_parts y r)) =
    told_by (barred_told (shown_type first) (map shown_type (next ∷ rest))) (union_step at x.single y.single x.back y.back (tail_back r))

pub type_back : {of : TypeExpr} {o d : ℕ} → TypeBack of o d → Back (Under IsType o) plain_type (type_pieces of) of d
type_back (is_tight p e n x) = seen (ap (λ (s : Shown). s.pieces) e) refl (element_to_type (plain_to_element x))
type_back (is_read_only p e n x) = seen (ap (λ (s : Shown). s.pieces) e) refl (element_to_type x)
type_back (is_arrow p e n x) = seen (ap (λ (s : Shown). s.pieces) e) refl x
type_back (is_joined {first = first} {next = next} {rest = rest} at parts h l) = seen (showing.union_pieces_of at (first ∷ next ∷ rest)) refl (weaker h l (union_to_type (union_back at parts)))

plain_back : {of : TypeExpr} {o d : ℕ} → TypeBack of o d → Back (Under IsPlain (o + 1)) plain_type (element_pieces (shown_type of)) of d
plain_back (is_tight p e n x) = seen (ap element_pieces e) refl (weaker (omega arith) (omega arith) x)
plain_back (is_read_only p e n x) = seen (ap element_pieces e) refl (in_parens_back (element_to_type x))
plain_back (is_arrow p e n x) = seen (ap element_pieces e) refl (in_parens_back x)
plain_back (is_joined {first = first} {next = next} {rest = rest} at parts h l) =
    seen (ap element_pieces (showing.union_type at (first ∷ next ∷ rest))) refl (in_parens_back (weaker h l (union_to_type (union_back at parts))))

type_weaker : {of : TypeExpr} {o d e f : ℕ} → o ≤ e → d ≤ f → TypeBack of o d → TypeBack of e f
type_weaker h l (is_tight p e n x) = is_tight p e n (weaker h l x)
type_weaker h l (is_read_only p e n x) = is_read_only p e n (weaker h l x)
type_weaker h l (is_arrow p e n x) = is_arrow p e n (weaker h l x)
type_weaker h l (is_joined at parts i j) = is_joined at parts (omega (arith, h, i)) (omega (arith, l, j))

-- ---- types where they may be elements of arrays, and parts of unions

pub record AtomBack (of : TypeExpr) (o d : ℕ) : Type 0 where
  pub back : TypeBack of o d
  pub plain : Back (Under IsPlain o) plain_type (element_pieces (shown_type of)) of d

data Some : List TypeExpr → Type 0 where
  some : {of : TypeExpr} {rest : List TypeExpr} → Some (of ∷ rest)

pub record ElementBack (of : TypeExpr) (o d : ℕ) : Type 0 where
  pub back : TypeBack of o d
  pub parts : PartsBack (part_count of o) (part_count of d) (parts_of of)

atom_weaker : {of : TypeExpr} {o d e f : ℕ} → o ≤ e → d ≤ f → AtomBack of o d → AtomBack of e f
atom_weaker h l x = record { back = type_weaker h l x.back; plain = weaker h l x.plain }

tight_atom : {of : TypeExpr} {o d : ℕ} (p : List Piece) → shown_type of ≡ record { form = Tight; pieces = p } → is_union of ≡ false → Back (Under IsAtom o) plain_type p of d → AtomBack of o d
tight_atom p e n x = record { back = is_tight p e n (atom_to_plain x); plain = seen (ap element_pieces e) refl (atom_to_plain x) }

one_part : {of : TypeExpr} {o d : ℕ} → is_union of ≡ false → Back (Under IsElement o) plain_type (part_pieces (shown_type of)) of d → PartsBack (part_count of o) (part_count of d) (parts_of of)
one_part {of = of} {o = o} {d = d} n x =
    subst (λ v. PartsBack (part_count of o) (part_count of d) v) (sym (parts_single of n))
    (subst (λ v. PartsBack v (part_count of d) (of ∷ [])) (sym (count_single of o n))
    (subst (λ v. PartsBack o v (of ∷ [])) (sym (count_single of d n)) (more_parts (record { single = n; back = x }) no_parts)))

parts_in : {of : TypeExpr} {o d : ℕ} → TypeBack of o d → Back (Under IsPlain o) plain_type (element_pieces (shown_type of)) of d → PartsBack (part_count of o) (part_count of d) (parts_of of)
parts_in (is_tight p e n x) y = one_part n (seen (ap part_pieces e) refl (plain_to_element x))
parts_in (is_read_only p e n x) y = one_part n (seen (ap part_pieces e) refl x)
parts_in (is_arrow p e n x) y = one_part n (seen (ap part_pieces e ∙ sym (ap element_pieces e)) refl (plain_to_element y))
parts_in (is_joined {first = first} {next = next} {rest = rest} {e = e} {f = f} at parts h l) y =
    let all = first ∷ next ∷ rest in
    let of = t.Union at all in
    subst (λ v. PartsBack (part_count of e) (part_count of f) v) (sym (parts_union at all))
    (parts_weaker (omega (arith, h, count_union at all e)) (omega (arith, l, count_union at all f)) parts)

element_of : {of : TypeExpr} {o d : ℕ} → AtomBack of o d → ElementBack of o d
element_of x = record { back = x.back; parts = parts_in x.back x.plain }

some_parts : {of : TypeExpr} {o d : ℕ} → TypeBack of o d → Some (parts_of of)
some_parts {of = of} (is_tight p e n x) = subst Some (sym (parts_single of n)) some
some_parts {of = of} (is_read_only p e n x) = subst Some (sym (parts_single of n)) some
some_parts {of = of} (is_arrow p e n x) = subst Some (sym (parts_single of n)) some
some_parts (is_joined {first = first} {next = next} {rest = rest} at parts h l) = subst Some (sym (parts_union at (first ∷ next ∷ rest))) some

joined_of : {o d e f : ℕ} (at : ℕ) (xs ys zs : List TypeExpr) → Some xs → Some ys → PartsBack o d (xs ++ ys ++ zs) → o + 1 ≤ e → d + 1 ≤ f → TypeBack (t.Union at (xs ++ ys ++ zs)) e f
joined_of at (x ∷ []) (y ∷ ys) zs some some parts h l = is_joined at parts h l
joined_of at (x ∷ v ∷ xs) ys zs some n parts h l = is_joined at parts h l
joined_of at [] ys zs e n parts h l = elim e [ ]
joined_of at (x ∷ []) [] zs e n parts h l = elim n [ ]

array_atom : {of : TypeExpr} {o d : ℕ} (at : ℕ) → AtomBack of o d → AtomBack (t.Array at false of) (o + 1) (d + 1)
array_atom {of = of} at x = record {
  back = is_tight _ (showing.array_type at false of) (ap is_union_at (t.outs-Array at false of)) (array_step at x.plain);
  plain = seen (ap element_pieces (showing.array_type at false of)) refl (array_step at x.plain);
}

array_atoms : (at n : ℕ) {of : TypeExpr} {o d : ℕ} → AtomBack of o d → AtomBack (arrays at n of) (o + n) (d + n)
array_atoms at zero x = atom_weaker (omega arith) (omega arith) x
array_atoms at (suc n) x = atom_weaker (omega arith) (omega arith) (array_atoms at n (array_atom at x))

read_only_back : {of : TypeExpr} {o d e f : ℕ} (at : ℕ) → o + 1 ≤ e → d + 1 ≤ f → AtomBack of o d → ElementBack (t.Array at true of) e f
read_only_back {of = of} at h l x =
    let single : is_union (t.Array at true of) ≡ false = ap is_union_at (t.outs-Array at true of) in
    record {
      back = is_read_only _ (showing.array_type at true of) single (weaker h l (read_only_step at x.plain));
      parts = one_part single (seen (ap part_pieces (showing.array_type at true of)) refl (weaker h l (read_only_step at x.plain)));
    }

params_more : {of : TypeParam} {o d e f : ℕ} (rest : List TypeParam) → Back (Under IsTypeParam o) plain_param (shown_type_param of) of d
    → Back (Under IsTypeParams e) (map plain_param) (listed (map shown_type_param rest)) rest f
    → Back (Under IsTypeParams (max o e)) (map plain_param) (listed (map shown_type_param (of ∷ rest))) (of ∷ rest) (max d f)
params_more [] x y = weaker (omega arith) (omega arith) (last_param_step x)
params_more (next ∷ rest) x y = more_params_step x y

-- ---- what was read

abbrev pub Classed : List Sym → Type 0
Classed = AllByRecursion IsClassed

mutual
  atom_read : {xs : List Sym} {of : TypeExpr} {own depth : ℕ} → IsAtom xs of own depth → Classed xs → AtomBack of own depth
  atom_read (g.keyword_type {of = of} spelled at e) all = tight_atom _ (showing.keyword_type at of) (ap is_union_at (t.outs-Keyword at of)) (keyword_step at of)
  atom_read (g.boolean_type {value = value} spelled at e) all = tight_atom _ (showing.boolean_type at value) (ap is_union_at (t.outs-Boolean at value)) (boolean_step at value)
  atom_read (g.string_type spelled at) all = tight_atom _ (showing.string_type at spelled) (ap is_union_at (t.outs-String at spelled)) (string_step at spelled)
  atom_read (g.integer_type digits at h) all = tight_atom _ (showing.integer_type at false digits) (ap is_union_at (t.outs-Integer at false digits)) (integer_step at digits h)
  atom_read (g.minus_type digits at digits_at h) all = tight_atom _ (showing.integer_type at true digits) (ap is_union_at (t.outs-Integer at true digits)) (minus_step at digits h)
  atom_read (g.written_type {kind = kind} spelled at h) all =
      tight_atom _ (showing.written_type at spelled []) (ap is_union_at (t.outs-Written at spelled [])) (written_step at spelled (sym (ap is_type_name all.0) ∙ h))
  atom_read (g.parens_type a b {xs = xs} q) all =
      let x = type_read q (fore xs (Mark m.CloseParen b ∷ []) all.1) in
      record { back = type_weaker (omega arith) (omega arith) x; plain = plain_back x }
  atom_read (g.object_type a b {xs = xs} {of = of} q) all =
      tight_atom _ (showing.object_type a of) (ap is_union_at (t.outs-Object a of)) (object_step a (map shown_member of) (members_read q (fore xs (Mark m.CloseBrace b ∷ []) all.1)))

  element_read : {xs : List Sym} {of : TypeExpr} {own depth : ℕ} → IsElement xs of own depth → Classed xs → ElementBack of own depth
  element_read (g.plain_element {xs = xs} {ys = ys} {n = n} a q) all = element_of (array_atoms (start_of xs) n (atom_read a (fore xs ys all)))
  element_read (g.read_only_element spelled at {xs = xs} {ys = ys} {n = n} a q) all =
      read_only_back at (omega arith) (omega arith) (array_atoms (start_of xs) n (atom_read a (fore xs ys all.1)))

  tail_read : {xs : List Sym} {of : List TypeExpr} {own depth : ℕ} → IsTail xs of own depth → Classed xs → PartsBack own depth of
  tail_read g.no_tail all = no_parts
  tail_read (g.more_tail bar {xs = xs} {ys = ys} q r) all = let x = element_read q (fore xs ys all.1) in parts_append x.parts (tail_read r (aft xs ys all.1))

  union_read : {xs : List Sym} {of : TypeExpr} {own depth : ℕ} → IsUnion xs of own depth → Classed xs → TypeBack of own depth
  union_read (g.one_element q) all = let x = element_read q all in x.back
  union_read (g.several_elements bar {xs = xs} {ys = ys} {zs = zs} {of = of} {next = next} {rest = rest} p q r) all =
      let front = fore (xs ++ Mark m.Bar bar ∷ ys) zs all in
      let x = element_read p (fore xs (Mark m.Bar bar ∷ ys) front) in
      let y = element_read q (aft xs (Mark m.Bar bar ∷ ys) front).1 in
      let z = tail_read r (aft (xs ++ Mark m.Bar bar ∷ ys) zs all) in
      joined_of (start_of xs) (parts_of of) (parts_of next) rest (some_parts x.back) (some_parts y.back) (parts_append (parts_append x.parts y.parts) z) (omega arith) (omega arith)

  pub type_read : {xs : List Sym} {of : TypeExpr} {own depth : ℕ} → IsType xs of own depth → Classed xs → TypeBack of own depth
  type_read (g.function_type a b j {xs = xs} {ys = ys} {params = params} {of = of} q r) all =
      let more = Mark m.CloseParen b ∷ Mark m.Arrow j ∷ ys in
      is_arrow _ (showing.function_type a params of) (ap is_union_at (t.outs-Function a params of))
      (function_step a (params_read q (fore xs more all.1)) (type_back (type_read r (aft xs more all.1).1.1)))
  type_read (g.union_type {xs = xs} {ys = ys} b q) all = union_read q (aft xs ys all)

  pub param_read : {xs : List Sym} {of : TypeParam} {own depth : ℕ} → IsTypeParam xs of own depth → Classed xs → Back (Under IsTypeParam own) plain_param (shown_type_param of) of depth
  param_read (g.type_param {optional = optional} spelled at colon {xs = xs} {ys = ys} {of = of} h q r) all =
      seen (showing.type_param_rolled (record { at = at; name = spelled; optional = optional; shape = of })) refl
      (param_step at spelled optional (named spelled all.0 h) (type_back (type_read r (aft xs (Mark m.Colon colon ∷ ys) all.1).1)))

  pub params_read : {xs : List Sym} {of : List TypeParam} {own depth : ℕ} → IsTypeParams xs of own depth → Classed xs
      → Back (Under IsTypeParams own) (map plain_param) (listed (map shown_type_param of)) of depth
  params_read g.no_type_params all = no_params_step
  params_read (g.last_type_param q) all = last_param_step (param_read q all)
  params_read (g.more_type_params comma {xs = xs} {ys = ys} {rest = rest} q r) all =
      params_more rest (param_read q (fore xs (Mark m.Comma comma ∷ ys) all)) (params_read r (aft xs (Mark m.Comma comma ∷ ys) all).1)

  pub member_read : {xs : List Sym} {of : TypeMember} {own depth : ℕ} → IsTypeMember xs of own depth → Classed xs → Back (Under IsTypeMember own) plain_member (shown_member of) of depth
  member_read (g.property_member s {key = key} {read_only = read_only} {optional = optional} colon {xs = xs} {ys = ys} {zs = zs} {of = of} p e q r) all =
      seen (showing.property_member (at_of s) read_only key optional of) refl
      (property_step (at_of s) read_only key optional (type_back (type_read r (aft (xs ++ s ∷ ys) (Mark m.Colon colon ∷ zs) all).1)))
  member_read (g.method_member s {key = key} {optional = optional} a b j {xs = xs} {ys = ys} {zs = zs} {params = params} {of = of} e q p r) all =
      let more = Mark m.CloseParen b ∷ Mark m.Colon j ∷ zs in
      let front = fore (s ∷ xs ++ Mark m.OpenParen a ∷ ys) more all in
      seen (showing.method_member (at_of s) key optional params of) refl
      (method_step (at_of s) key optional (params_read p (aft (s ∷ xs) (Mark m.OpenParen a ∷ ys) front).1) (type_back (type_read r (aft (s ∷ xs ++ Mark m.OpenParen a ∷ ys) more all).1.1)))

  pub members_read : {xs : List Sym} {of : List TypeMember} {own depth : ℕ} → IsTypeMembers xs of own depth → Classed xs
      → Back (Under IsTypeMembers own) (map plain_member) (flat_map closed_pieces (map shown_member of)) of depth
  members_read g.no_type_members all = no_members_step
  members_read (g.last_type_member q) all = weaker (omega arith) (omega arith) (more_members_step (member_read q all) (no_members_step {o = 0} {d = 0}))
  members_read (g.more_type_members mark at {xs = xs} {ys = ys} q e r) all =
      more_members_step (member_read q (fore xs (Mark mark at ∷ ys) all)) (members_read r (aft xs (Mark mark at ∷ ys) all).1)
