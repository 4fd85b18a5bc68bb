-- A declaration that is written part by part.
use Rattle.std.proofs.Common.{◌≡◌, ℕ, List, ◌++◌, map, flat_map, codes, sym, ap, ◌∙◌, append_assoc}
use Rattle.tb_tree.specs.declared.exprs.Identifier.{Identifier}
use Rattle.tb_tree.specs.declared.types.TypeExpr.{TypeExpr}
use Rattle.tb_tree.specs.declared.types.TypeParam.{TypeParam}
use Rattle.tb_tree.specs.declared.items.Base.{Base}
use Rattle.tb_tree.specs.declared.items.DeclaredClass.{DeclaredClass}
use Rattle.tb_tree.specs.declared.items.DeclaredMember.{DeclaredMember}
use Rattle.tb_tree.specs.declared.items.Declared.{Declared}
use Rattle.tb_tree.specs.declared.items.Declared.TheVariants as declared
use Rattle.tb_layout.specs.Pieces.{text_of}
use Rattle.tb_layout.specs.Shown.{colon_pieces, type_pieces}
use Rattle.tb_layout.specs.Dts.{variables_pieces, params_pieces, bases_pieces, member_line, declared_member_pieces, class_pieces, declare_pieces, declared_pieces}
use Rattle.tb_emit_dts.proofs.Forms.{class_text, function_text}

grow2 : (o0 o1 o2 a b t : List ℕ) → o1 ≡ o0 ++ a → o2 ≡ o1 ++ b → t ≡ a ++ b → o2 ≡ o0 ++ t
grow2 o0 o1 o2 a b t f g e = g ∙ ap (λ x. x ++ b) f ∙ append_assoc o0 a b ∙ ap (λ x. o0 ++ x) (sym e)

-- two parts as one
both : (o1 o2 o3 a b : List ℕ) → o2 ≡ o1 ++ a → o3 ≡ o2 ++ b → o3 ≡ o1 ++ (a ++ b)
both o1 o2 o3 a b f g = g ∙ ap (λ x. x ++ b) f ∙ append_assoc o1 a b

grow3 : (o0 o1 o2 o3 a1 a2 a3 t : List ℕ) → o1 ≡ o0 ++ a1 → o2 ≡ o1 ++ a2 → o3 ≡ o2 ++ a3
    → t ≡ a1 ++ (a2 ++ a3) → o3 ≡ o0 ++ t
grow3 o0 o1 o2 o3 a1 a2 a3 t f1 f2 f3 e = grow2 o0 o1 o3 a1 (a2 ++ a3) t f1 (both o1 o2 o3 a2 a3 f2 f3) e

grow4 : (o0 o1 o2 o3 o4 a1 a2 a3 a4 t : List ℕ) → o1 ≡ o0 ++ a1 → o2 ≡ o1 ++ a2 → o3 ≡ o2 ++ a3 → o4 ≡ o3 ++ a4
    → t ≡ a1 ++ (a2 ++ (a3 ++ a4)) → o4 ≡ o0 ++ t
grow4 o0 o1 o2 o3 o4 a1 a2 a3 a4 t f1 f2 f3 f4 e = grow3 o0 o1 o2 o4 a1 a2 (a3 ++ a4) t f1 f2 (both o2 o3 o4 a3 a4 f3 f4) e

grow5 : (o0 o1 o2 o3 o4 o5 a1 a2 a3 a4 a5 t : List ℕ) → o1 ≡ o0 ++ a1 → o2 ≡ o1 ++ a2 → o3 ≡ o2 ++ a3 → o4 ≡ o3 ++ a4 → o5 ≡ o4 ++ a5
    → t ≡ a1 ++ (a2 ++ (a3 ++ (a4 ++ a5))) → o5 ≡ o0 ++ t
grow5 o0 o1 o2 o3 o4 o5 a1 a2 a3 a4 a5 t f1 f2 f3 f4 f5 e = grow4 o0 o1 o2 o3 o5 a1 a2 a3 (a4 ++ a5) t f1 f2 f3 (both o3 o4 o5 a4 a5 f4 f5) e

grow6 : (o0 o1 o2 o3 o4 o5 o6 a1 a2 a3 a4 a5 a6 t : List ℕ) → o1 ≡ o0 ++ a1 → o2 ≡ o1 ++ a2 → o3 ≡ o2 ++ a3 → o4 ≡ o3 ++ a4 → o5 ≡ o4 ++ a5 → o6 ≡ o5 ++ a6
    → t ≡ a1 ++ (a2 ++ (a3 ++ (a4 ++ (a5 ++ a6)))) → o6 ≡ o0 ++ t
grow6 o0 o1 o2 o3 o4 o5 o6 a1 a2 a3 a4 a5 a6 t f1 f2 f3 f4 f5 f6 e = grow5 o0 o1 o2 o3 o4 o6 a1 a2 a3 a4 (a5 ++ a6) t f1 f2 f3 f4 (both o4 o5 o6 a5 a6 f5 f6) e

pub class_grown : (o0 o1 o2 o3 o4 o5 o6 : List ℕ) (of : DeclaredClass) (name : List ℕ) (bases : List Base) (members : List DeclaredMember)
    → name ≡ of.name → bases ≡ of.implements → members ≡ of.members
    → o1 ≡ o0 ++ codes "declare class " → o2 ≡ o1 ++ name → o3 ≡ o2 ++ text_of (bases_pieces (codes "implements") bases) → o4 ≡ o3 ++ codes " {"
    → o5 ≡ o4 ++ text_of (flat_map member_line (map declared_member_pieces members)) → o6 ≡ o5 ++ codes "\n}"
    → o6 ≡ o0 ++ text_of (declare_pieces ++ class_pieces of)
class_grown o0 o1 o2 o3 o4 o5 o6 of name bases members name_is bases_is members_is f g h i j k =
    grow6 o0 o1 o2 o3 o4 o5 o6 (codes "declare class ") of.name (text_of (bases_pieces (codes "implements") of.implements)) (codes " {")
    (text_of (flat_map member_line (map declared_member_pieces of.members))) (codes "\n}") (text_of (declare_pieces ++ class_pieces of))
    f (g ∙ ap (λ x. o1 ++ x) name_is) (h ∙ ap (λ xs. o2 ++ text_of (bases_pieces (codes "implements") xs)) bases_is) i
    (j ∙ ap (λ xs. o4 ++ text_of (flat_map member_line (map declared_member_pieces xs))) members_is) k (class_text of)

pub function_grown : (o0 o1 o2 o3 o4 o5 o6 : List ℕ) (of : Declared) (at : ℕ) (name : List ℕ) (variables : List Identifier) (params : List TypeParam) (result : TypeExpr)
    (text : List ℕ) (vs : List Identifier) (ps : List TypeParam) → of ≡ declared.Function at name variables params result → text ≡ name → vs ≡ variables → ps ≡ params
    → o1 ≡ o0 ++ codes "declare function " → o2 ≡ o1 ++ text → o3 ≡ o2 ++ text_of (variables_pieces vs) → o4 ≡ o3 ++ text_of (params_pieces ps)
    → o5 ≡ o4 ++ text_of (colon_pieces (type_pieces result)) → o6 ≡ o5 ++ codes ";" → o6 ≡ o0 ++ text_of (declared_pieces of)
function_grown o0 o1 o2 o3 o4 o5 o6 of at name variables params result text vs ps is text_is vs_is ps_is f g h i j k =
    grow6 o0 o1 o2 o3 o4 o5 o6 (codes "declare function ") name (text_of (variables_pieces variables)) (text_of (params_pieces params))
    (text_of (colon_pieces (type_pieces result))) (codes ";") (text_of (declared_pieces of))
    f (g ∙ ap (λ x. o1 ++ x) text_is) (h ∙ ap (λ xs. o2 ++ text_of (variables_pieces xs)) vs_is) (i ∙ ap (λ xs. o3 ++ text_of (params_pieces xs)) ps_is) j k
    (ap (λ x. text_of (declared_pieces x)) is ∙ function_text at name variables params result)
