-- What is written for each form of a type, part by part.
use Rattle.std.proofs.Common.{◌≡◌, ℕ, Bool, List, [], ◌∷◌, ◌++◌, map, codes, refl, ◌∙◌, ap, append_assoc}
use Rattle.std.proofs.lemmas.List.{append-nil}
use Rattle.tb_tree.specs.declared.marks.Mark.TheVariants as m
use Rattle.tb_tree.specs.declared.words.Class.TheVariants as c
use Rattle.tb_tree.specs.declared.types.Key.{Key}
use Rattle.tb_tree.specs.declared.types.Key.TheVariants as k
use Rattle.tb_tree.specs.declared.types.TypeKeyword.{TypeKeyword}
use Rattle.tb_tree.specs.declared.types.TypeExpr.{TypeExpr}
use Rattle.tb_tree.specs.declared.types.TypeExpr.TheVariants as t
use Rattle.tb_tree.specs.declared.types.TypeExpr.TheOpen.{TypeParam-F}
use Rattle.tb_tree.specs.declared.types.TypeMember.{TypeMember}
use Rattle.tb_tree.specs.declared.types.TypeMember.TheVariants as p
use Rattle.tb_tree.specs.declared.types.TypeParam.{TypeParam, out-TypeParam}
use Rattle.tb_layout.specs.Pieces.{Piece, Lex, mark, word, space, listed, text_of}
use Rattle.tb_layout.specs.Js.{truth_pieces}
use Rattle.tb_layout.specs.Quoted.{quoted}
use Rattle.tb_layout.specs.Shown.{string_pieces, shown_key, keyword_text, minus_pieces, optional_pieces, read_only_pieces, angled_pieces, element_pieces, barred, body_pieces, typeof_pieces, shown_type, shown_member, shown_type_param, type_pieces}
use Rattle.tb_layout.proofs.Showing as s
use Rattle.tb_show.proofs.Joins.{text_join}

pub property_member_text : (at : ℕ) (read_only : Bool) (key : Key) (optional : Bool) (shape : TypeExpr) → text_of (shown_member (p.Property at read_only key optional shape)) ≡ text_of (read_only_pieces read_only) ++ (text_of (shown_key key) ++ (text_of (optional_pieces optional) ++ (codes ": " ++ text_of (type_pieces shape))))
property_member_text at read_only key optional shape = ap text_of (s.property_member at read_only key optional shape) ∙ text_join (((read_only_pieces read_only ++ shown_key key) ++ optional_pieces optional)) (((mark m.Colon ++ space) ++ type_pieces shape)) ∙ ap (λ t. text_of (((read_only_pieces read_only ++ shown_key key) ++ optional_pieces optional)) ++ t) (text_join ((mark m.Colon ++ space)) (type_pieces shape) ∙ ap (λ t. text_of ((mark m.Colon ++ space)) ++ t) (refl) ∙ ap (λ t. t ++ (text_of (type_pieces shape))) (text_join (mark m.Colon) space) ∙ append_assoc (text_of (mark m.Colon)) (text_of space) (text_of (type_pieces shape)) ∙ ap (λ t. text_of (mark m.Colon) ++ t) (refl) ∙ refl) ∙ ap (λ t. t ++ (codes ": " ++ text_of (type_pieces shape))) (text_join ((read_only_pieces read_only ++ shown_key key)) (optional_pieces optional)) ∙ append_assoc (text_of ((read_only_pieces read_only ++ shown_key key))) (text_of (optional_pieces optional)) (codes ": " ++ text_of (type_pieces shape)) ∙ ap (λ t. text_of ((read_only_pieces read_only ++ shown_key key)) ++ t) (refl) ∙ ap (λ t. t ++ (text_of (optional_pieces optional) ++ (codes ": " ++ text_of (type_pieces shape)))) (text_join (read_only_pieces read_only) (shown_key key)) ∙ append_assoc (text_of (read_only_pieces read_only)) (text_of (shown_key key)) (text_of (optional_pieces optional) ++ (codes ": " ++ text_of (type_pieces shape))) ∙ ap (λ t. text_of (read_only_pieces read_only) ++ t) (refl) ∙ refl

pub method_member_text : (at : ℕ) (key : Key) (optional : Bool) (params : List TypeParam) (result : TypeExpr) → text_of (shown_member (p.Method at key optional params result)) ≡ text_of (shown_key key) ++ (text_of (optional_pieces optional) ++ (codes "(" ++ (text_of (listed (map shown_type_param params)) ++ (codes "): " ++ text_of (type_pieces result)))))
method_member_text at key optional params result = ap text_of (s.method_member at key optional params result) ∙ text_join (((shown_key key ++ optional_pieces optional) ++ ((mark m.OpenParen ++ listed (map shown_type_param params)) ++ mark m.CloseParen))) (((mark m.Colon ++ space) ++ type_pieces result)) ∙ ap (λ t. text_of (((shown_key key ++ optional_pieces optional) ++ ((mark m.OpenParen ++ listed (map shown_type_param params)) ++ mark m.CloseParen))) ++ t) (text_join ((mark m.Colon ++ space)) (type_pieces result) ∙ ap (λ t. text_of ((mark m.Colon ++ space)) ++ t) (refl) ∙ ap (λ t. t ++ (text_of (type_pieces result))) (text_join (mark m.Colon) space) ∙ append_assoc (text_of (mark m.Colon)) (text_of space) (text_of (type_pieces result)) ∙ ap (λ t. text_of (mark m.Colon) ++ t) (refl) ∙ refl) ∙ ap (λ t. t ++ (codes ": " ++ text_of (type_pieces result))) (text_join ((shown_key key ++ optional_pieces optional)) (((mark m.OpenParen ++ listed (map shown_type_param params)) ++ mark m.CloseParen))) ∙ append_assoc (text_of ((shown_key key ++ optional_pieces optional))) (text_of (((mark m.OpenParen ++ listed (map shown_type_param params)) ++ mark m.CloseParen))) (codes ": " ++ text_of (type_pieces result)) ∙ ap (λ t. text_of ((shown_key key ++ optional_pieces optional)) ++ t) (ap (λ t. t ++ (codes ": " ++ text_of (type_pieces result))) (text_join ((mark m.OpenParen ++ listed (map shown_type_param params))) (mark m.CloseParen)) ∙ append_assoc (text_of ((mark m.OpenParen ++ listed (map shown_type_param params)))) (text_of (mark m.CloseParen)) (codes ": " ++ text_of (type_pieces result)) ∙ ap (λ t. text_of ((mark m.OpenParen ++ listed (map shown_type_param params))) ++ t) (refl) ∙ ap (λ t. t ++ (codes "): " ++ text_of (type_pieces result))) (text_join (mark m.OpenParen) (listed (map shown_type_param params))) ∙ append_assoc (text_of (mark m.OpenParen)) (text_of (listed (map shown_type_param params))) (codes "): " ++ text_of (type_pieces result)) ∙ ap (λ t. text_of (mark m.OpenParen) ++ t) (refl) ∙ refl) ∙ ap (λ t. t ++ (codes "(" ++ (text_of (listed (map shown_type_param params)) ++ (codes "): " ++ text_of (type_pieces result))))) (text_join (shown_key key) (optional_pieces optional)) ∙ append_assoc (text_of (shown_key key)) (text_of (optional_pieces optional)) (codes "(" ++ (text_of (listed (map shown_type_param params)) ++ (codes "): " ++ text_of (type_pieces result)))) ∙ ap (λ t. text_of (shown_key key) ++ t) (refl) ∙ refl

pub keyword_type_text : (at : ℕ) (keyword : TypeKeyword) → text_of (type_pieces (t.Keyword at keyword)) ≡ keyword_text keyword
keyword_type_text at keyword = ap text_of (s.keyword_pieces_of at keyword) ∙ append-nil (keyword_text keyword)

pub boolean_type_text : (at : ℕ) (value : Bool) → text_of (type_pieces (t.Boolean at value)) ≡ text_of (truth_pieces value)
boolean_type_text at value = ap text_of (s.boolean_pieces_of at value)

pub string_type_text : (at : ℕ) (spelled : List ℕ) → text_of (type_pieces (t.String at spelled)) ≡ quoted spelled
string_type_text at spelled = ap text_of (s.string_pieces_of at spelled) ∙ append-nil (quoted spelled)

pub integer_type_text : (at : ℕ) (minus : Bool) (digits : List ℕ) → text_of (type_pieces (t.Integer at minus digits)) ≡ text_of (minus_pieces minus) ++ digits
integer_type_text at minus digits = ap text_of (s.integer_pieces_of at minus digits) ∙ text_join (minus_pieces minus) ((Lex c.Number digits ∷ [])) ∙ ap (λ t. text_of (minus_pieces minus) ++ t) (append-nil digits) ∙ refl

pub written_type_text : (at : ℕ) (name : List ℕ) (arguments : List TypeExpr) → text_of (type_pieces (t.Written at name arguments)) ≡ name ++ text_of (angled_pieces (map type_pieces arguments))
written_type_text at name arguments = ap text_of (s.written_pieces_of at name arguments) ∙ text_join (word name) (angled_pieces (map type_pieces arguments)) ∙ ap (λ t. text_of (word name) ++ t) (refl) ∙ ap (λ t. t ++ (text_of (angled_pieces (map type_pieces arguments)))) (append-nil name)

pub array_type_text : (at : ℕ) (read_only : Bool) (element : TypeExpr) → text_of (type_pieces (t.Array at read_only element)) ≡ text_of (read_only_pieces read_only) ++ (text_of (element_pieces (shown_type element)) ++ codes "[]")
array_type_text at read_only element = ap text_of (s.array_pieces_of at read_only element) ∙ text_join (((read_only_pieces read_only ++ element_pieces (shown_type element)) ++ mark m.OpenBracket)) (mark m.CloseBracket) ∙ ap (λ t. text_of (((read_only_pieces read_only ++ element_pieces (shown_type element)) ++ mark m.OpenBracket)) ++ t) (refl) ∙ ap (λ t. t ++ (codes "]")) (text_join ((read_only_pieces read_only ++ element_pieces (shown_type element))) (mark m.OpenBracket)) ∙ append_assoc (text_of ((read_only_pieces read_only ++ element_pieces (shown_type element)))) (text_of (mark m.OpenBracket)) (codes "]") ∙ ap (λ t. text_of ((read_only_pieces read_only ++ element_pieces (shown_type element))) ++ t) (refl) ∙ ap (λ t. t ++ (codes "[]")) (text_join (read_only_pieces read_only) (element_pieces (shown_type element))) ∙ append_assoc (text_of (read_only_pieces read_only)) (text_of (element_pieces (shown_type element))) (codes "[]") ∙ ap (λ t. text_of (read_only_pieces read_only) ++ t) (refl) ∙ refl

pub function_type_text : (at : ℕ) (params : List TypeParam) (result : TypeExpr) → text_of (type_pieces (t.Function at params result)) ≡ codes "(" ++ (text_of (listed (map shown_type_param params)) ++ (codes ") => " ++ text_of (type_pieces result)))
function_type_text at params result = ap text_of (s.function_pieces_of at params result) ∙ text_join ((((((mark m.OpenParen ++ listed (map shown_type_param params)) ++ mark m.CloseParen) ++ space) ++ mark m.Arrow) ++ space)) (type_pieces result) ∙ ap (λ t. text_of ((((((mark m.OpenParen ++ listed (map shown_type_param params)) ++ mark m.CloseParen) ++ space) ++ mark m.Arrow) ++ space)) ++ t) (refl) ∙ ap (λ t. t ++ (text_of (type_pieces result))) (text_join (((((mark m.OpenParen ++ listed (map shown_type_param params)) ++ mark m.CloseParen) ++ space) ++ mark m.Arrow)) space) ∙ append_assoc (text_of (((((mark m.OpenParen ++ listed (map shown_type_param params)) ++ mark m.CloseParen) ++ space) ++ mark m.Arrow))) (text_of space) (text_of (type_pieces result)) ∙ ap (λ t. text_of (((((mark m.OpenParen ++ listed (map shown_type_param params)) ++ mark m.CloseParen) ++ space) ++ mark m.Arrow)) ++ t) (refl) ∙ ap (λ t. t ++ (codes " " ++ text_of (type_pieces result))) (text_join ((((mark m.OpenParen ++ listed (map shown_type_param params)) ++ mark m.CloseParen) ++ space)) (mark m.Arrow)) ∙ append_assoc (text_of ((((mark m.OpenParen ++ listed (map shown_type_param params)) ++ mark m.CloseParen) ++ space))) (text_of (mark m.Arrow)) (codes " " ++ text_of (type_pieces result)) ∙ ap (λ t. text_of ((((mark m.OpenParen ++ listed (map shown_type_param params)) ++ mark m.CloseParen) ++ space)) ++ t) (refl) ∙ ap (λ t. t ++ (codes "=> " ++ text_of (type_pieces result))) (text_join (((mark m.OpenParen ++ listed (map shown_type_param params)) ++ mark m.CloseParen)) space) ∙ append_assoc (text_of (((mark m.OpenParen ++ listed (map shown_type_param params)) ++ mark m.CloseParen))) (text_of space) (codes "=> " ++ text_of (type_pieces result)) ∙ ap (λ t. text_of (((mark m.OpenParen ++ listed (map shown_type_param params)) ++ mark m.CloseParen)) ++ t) (refl) ∙ ap (λ t. t ++ (codes " => " ++ text_of (type_pieces result))) (text_join ((mark m.OpenParen ++ listed (map shown_type_param params))) (mark m.CloseParen)) ∙ append_assoc (text_of ((mark m.OpenParen ++ listed (map shown_type_param params)))) (text_of (mark m.CloseParen)) (codes " => " ++ text_of (type_pieces result)) ∙ ap (λ t. text_of ((mark m.OpenParen ++ listed (map shown_type_param params))) ++ t) (refl) ∙ ap (λ t. t ++ (codes ") => " ++ text_of (type_pieces result))) (text_join (mark m.OpenParen) (listed (map shown_type_param params))) ∙ append_assoc (text_of (mark m.OpenParen)) (text_of (listed (map shown_type_param params))) (codes ") => " ++ text_of (type_pieces result)) ∙ ap (λ t. text_of (mark m.OpenParen) ++ t) (refl) ∙ refl

pub object_type_text : (at : ℕ) (members : List TypeMember) → text_of (type_pieces (t.Object at members)) ≡ text_of (body_pieces (map shown_member members))
object_type_text at members = ap text_of (s.object_pieces_of at members)

pub union_type_text : (at : ℕ) (parts : List TypeExpr) → text_of (type_pieces (t.Union at parts)) ≡ text_of (barred (map shown_type parts))
union_type_text at parts = ap text_of (s.union_pieces_of at parts)

pub named_type_text : (path : List ℕ) (name : List ℕ) (arguments : List TypeExpr) → text_of (type_pieces (t.Named path name arguments)) ≡ name ++ text_of (angled_pieces (map type_pieces arguments))
named_type_text path name arguments = ap text_of (s.named_pieces_of path name arguments) ∙ text_join (word name) (angled_pieces (map type_pieces arguments)) ∙ ap (λ t. text_of (word name) ++ t) (refl) ∙ ap (λ t. t ++ (text_of (angled_pieces (map type_pieces arguments)))) (append-nil name)

pub class_type_text : (path : List ℕ) (name : List ℕ) → text_of (type_pieces (t.Class path name)) ≡ text_of (typeof_pieces name)
class_type_text path name = ap text_of (s.class_pieces_of path name)

pub param_type_text : (owner : List ℕ) (name : List ℕ) → text_of (type_pieces (t.Param owner name)) ≡ name
param_type_text owner name = ap text_of (s.param_pieces_of owner name) ∙ append-nil name

pub generic_type_text : (path : List ℕ) (name : List ℕ) → text_of (type_pieces (t.Generic path name)) ≡ text_of (typeof_pieces name)
generic_type_text path name = ap text_of (s.generic_pieces_of path name)

abbrev pub said_type_param : TypeParam-F TypeExpr TypeMember TypeParam → List ℕ
said_type_param layer = layer.name ++ (text_of (optional_pieces layer.optional) ++ (codes ": " ++ text_of (type_pieces layer.shape)))

type_param_said : (layer : TypeParam-F TypeExpr TypeMember TypeParam) → text_of (s.open_type_param layer) ≡ said_type_param layer
type_param_said layer = text_join ((word layer.name ++ optional_pieces layer.optional)) (((mark m.Colon ++ space) ++ type_pieces layer.shape)) ∙ ap (λ t. text_of ((word layer.name ++ optional_pieces layer.optional)) ++ t) (text_join ((mark m.Colon ++ space)) (type_pieces layer.shape) ∙ ap (λ t. text_of ((mark m.Colon ++ space)) ++ t) (refl) ∙ ap (λ t. t ++ (text_of (type_pieces layer.shape))) (text_join (mark m.Colon) space) ∙ append_assoc (text_of (mark m.Colon)) (text_of space) (text_of (type_pieces layer.shape)) ∙ ap (λ t. text_of (mark m.Colon) ++ t) (refl) ∙ refl) ∙ ap (λ t. t ++ (codes ": " ++ text_of (type_pieces layer.shape))) (text_join (word layer.name) (optional_pieces layer.optional)) ∙ append_assoc (text_of (word layer.name)) (text_of (optional_pieces layer.optional)) (codes ": " ++ text_of (type_pieces layer.shape)) ∙ ap (λ t. text_of (word layer.name) ++ t) (refl) ∙ ap (λ t. t ++ (text_of (optional_pieces layer.optional) ++ (codes ": " ++ text_of (type_pieces layer.shape)))) (append-nil layer.name)

pub type_param_text : (of : TypeParam) → text_of (shown_type_param of) ≡ said_type_param (out-TypeParam of)
type_param_text of = ap text_of (s.type_param_out of) ∙ type_param_said (out-TypeParam of)

pub typeof_text : (name : List ℕ) → text_of (typeof_pieces name) ≡ codes "typeof " ++ name
typeof_text name = text_join ((word (codes "typeof") ++ space)) (word name) ∙ ap (λ t. text_of ((word (codes "typeof") ++ space)) ++ t) (append-nil name) ∙ ap (λ t. t ++ name) (text_join (word (codes "typeof")) space) ∙ append_assoc (text_of (word (codes "typeof"))) (text_of space) name ∙ ap (λ t. text_of (word (codes "typeof")) ++ t) (refl) ∙ refl

pub word_key_text : (spelled : List ℕ) → text_of (shown_key (k.Word spelled)) ≡ spelled
word_key_text spelled = append-nil spelled

pub string_key_text : (spelled : List ℕ) → text_of (shown_key (k.String spelled)) ≡ quoted spelled
string_key_text spelled = append-nil (quoted spelled)

-- ---- all forms of types

pub ruleset type_texts = (keyword_type_text, boolean_type_text, string_type_text, integer_type_text, written_type_text, array_type_text, function_type_text, object_type_text, union_type_text, named_type_text, class_type_text, param_type_text, generic_type_text)
