-- From the answers of the rules inside to the answer of a rule.
use Rattle.std.proofs.Common.{◌≡◌, ℕ, ◌+◌, Bool, false, List}
use Rattle.std.specs.Prelude.{Option, Some, None}
use Rattle.tb_tree.specs.declared.marks.Mark.TheVariants as m
use Rattle.tb_tree.specs.declared.types.TypeExpr.{TypeExpr}
use Rattle.tb_tree.specs.declared.types.TypeMember.{TypeMember}
use Rattle.tb_tree.specs.Sym.{Sym, Mark}
use Rattle.tb_tree.specs.Shapes.{IsMarked}
use Rattle.tb_tree.specs.Longest.{Found, Lacks}
use Rattle.tb_tree.proofs.Ends.{found_from, lacks_from}
use Rattle.tb_parse_type.specs.declared.reader.Limits.{Limits}
use Rattle.tb_parse_type.specs.declared.reader.Reader.{Reader}
use Rattle.tb_parse_type.specs.declared.reader.Read.{Read}
use Rattle.tb_parse_type.specs.Reading.{rest, Stands, LacksSym, Reads}
use Rattle.tb_parse_type.specs.Rules.{Head, HeadRule, TypeUpto, ShapeUpto, FunctionUpto, UnionUpto, PropertyRest, MethodRest, MemberRest, MemberUpto, InType, InHead, InQuestion}
use Rattle.tb_parse_type.proofs.Members.{shape_found, shape_lacks, shape_lacks_colon, property_lacks, rest_property, rest_lacks, rest_method, member_found, member_lacks, method_lacks, parens_lacks_open}
use Rattle.tb_parse_type.proofs.Types.{type_lead, type_lacks_lead, type_bare, type_lacks}

pub shape_reads : (l : Limits) (r : Reader) (at place : ℕ) (o : Option (Read TypeExpr)) → Stands r at (Mark m.Colon place) → Reads (TypeUpto l) InType r (at + 1) o → Reads (ShapeUpto l) InType r at o
shape_reads l r at place None s h = lacks_from s.2 (shape_lacks l place h)
shape_reads l r at place (Some x) s h = (h.0, found_from s.2 (shape_found l place h.1))

-- a method, where `(` follows the head
pub method_reads : (l : Limits) (h : Head) (optional : Bool) (r : Reader) (at place : ℕ) (o : Option (Read TypeMember)) → h.0 ≡ false → Stands r at (Mark m.OpenParen place)
    → Reads (MethodRest l h optional) InType r at o → Reads (MemberRest l h optional) InType r at o
method_reads l h optional r at place o e s q = go o q
  where
    none : Lacks (PropertyRest l h optional) (rest r at)
    none = property_lacks l h optional (lacks_from s.2 (shape_lacks_colon l _ (λ o zs e. cc)))

    go : (o : Option (Read TypeMember)) → Reads (MethodRest l h optional) InType r at o → Reads (MemberRest l h optional) InType r at o
    go None q = rest_lacks l h optional (λ i. q) none
    go (Some x) q = (q.0, rest_method l h optional e none q.1)

-- a property elsewhere
pub property_reads : (l : Limits) (h : Head) (optional : Bool) (r : Reader) (at : ℕ) (o : Option (Read TypeMember)) → (h.0 ≡ false → (p : ℕ) → LacksSym r at (Mark m.OpenParen p))
    → Reads (PropertyRest l h optional) InType r at o → Reads (MemberRest l h optional) InType r at o
property_reads l h optional r at o n q = go o q
  where
    none : h.0 ≡ false → Lacks (MethodRest l h optional) (rest r at)
    none e = method_lacks l h optional (parens_lacks_open l _ (n e))

    go : (o : Option (Read TypeMember)) → Reads (PropertyRest l h optional) InType r at o → Reads (MemberRest l h optional) InType r at o
    go None q = rest_lacks l h optional none q
    go (Some x) q = (q.0, rest_property l h optional none q.1)

pub member_reads : {h : Head} {optional : Bool} {xs : List Sym} (l : Limits) (r : Reader) (at next : ℕ) (o : Option (Read TypeMember)) → Found HeadRule InHead (rest r at) h xs
    → Found (IsMarked m.Question) InQuestion xs optional (rest r next) → Reads (MemberRest l h optional) InType r next o → Reads (MemberUpto l) InType r at o
member_reads l r at next None f g h = member_lacks l f g h
member_reads l r at next (Some x) f g h = (h.0, member_found l f g h.1)

pub lead_reads : (l : Limits) (r : Reader) (at place : ℕ) (o : Option (Read TypeExpr)) → Stands r at (Mark m.Bar place) → Reads (UnionUpto l) InType r (at + 1) o → Reads (TypeUpto l) InType r at o
lead_reads l r at place None s h = lacks_from s.2 (type_lacks_lead l place h)
lead_reads l r at place (Some x) s h = (h.0, found_from s.2 (type_lead l place h.1))

pub bare_reads : (l : Limits) (r : Reader) (at : ℕ) (o : Option (Read TypeExpr)) → Lacks (FunctionUpto l) (rest r at) → ((p : ℕ) → LacksSym r at (Mark m.Bar p)) → Reads (UnionUpto l) InType r at o
    → Reads (TypeUpto l) InType r at o
bare_reads l r at None f b h = type_lacks l f b h
bare_reads l r at (Some x) f b h = (h.0, type_bare l f b h.1)
