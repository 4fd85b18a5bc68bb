-- Where an item of a declaration file ends: behind `export` and `declare`, a class and an interface with the `}` of their outermost
-- brace, any other item with the first `;` outside braces. So of all items that a list begins with, each ends at one place.
use Rattle.std.proofs.Common.{◌≡◌, ℕ, zero, suc, Bool, true, false, List, [], ◌∷◌, ◌++◌, Option, Some, None, refl, ap, ◌∙◌, append_assoc}
use Rattle.tb_tree.specs.declared.marks.Mark.{Mark as MarkKind}
use Rattle.tb_tree.specs.declared.marks.Mark.TheVariants as m
use Rattle.tb_tree.specs.declared.words.Class.TheVariants as c
use Rattle.tb_tree.specs.declared.words.Word.{Word}
use Rattle.tb_tree.specs.declared.words.Word.TheVariants as w
use Rattle.tb_tree.specs.declared.types.Key.{Key}
use Rattle.tb_tree.specs.declared.types.TypeExpr.{TypeExpr}
use Rattle.tb_tree.specs.declared.types.TypeParam.{TypeParam}
use Rattle.tb_tree.specs.declared.types.TypeMember.{TypeMember}
use Rattle.tb_tree.specs.declared.exprs.VarKind.{VarKind}
use Rattle.tb_tree.specs.declared.items.Specifier.{Specifier}
use Rattle.tb_tree.specs.declared.items.Spec.{Spec}
use Rattle.tb_tree.specs.declared.items.Import.{Import}
use Rattle.tb_tree.specs.declared.items.ExportList.{ExportList}
use Rattle.tb_tree.specs.declared.items.Base.{Base}
use Rattle.tb_tree.specs.declared.items.DeclaredMember.{DeclaredMember}
use Rattle.tb_tree.specs.declared.items.Declared.{Declared}
use Rattle.tb_tree.specs.declared.items.SurfaceItem.{SurfaceItem}
use Rattle.tb_tree.specs.Sym.{Sym, Mark, Lex}
use Rattle.tb_tree.specs.Shapes.{word, key_of, IsMarked, unmarked, marked, IsWorded, unworded, worded, IsListed, none_listed, last_listed, more_listed, IsJoined, last_joined, more_joined}
use Rattle.tb_tree.specs.Types as g
use Rattle.tb_tree.specs.Types.{ends_member, IsAtom, IsBrackets, IsElement, IsTail, IsUnion, IsType, IsTypeParam, IsTypeParams, IsTypeMember, IsTypeMembers, IsShape, shape}
use Rattle.tb_tree.specs.Exprs.{kind_of}
use Rattle.tb_tree.specs.Items as grammar
use Rattle.tb_tree.specs.Items.{IsSpec, IsSpecs, IsFrom, IsImport, IsExportList, IsBase, IsBases}
use Rattle.tb_tree.specs.Surfaces as surfaces
use Rattle.tb_tree.specs.Surfaces.{IsSignature, IsDeclaredMember, IsDeclaredMembers, IsDeclared, IsDeclItem}

-- ---- what ends an item

-- before the brace of a class or an interface; in its braces, and in so many further ones; in so many braces of an item that `;` ends
pub data Standing : Type 0 where
  Head : Standing
  Body : ℕ → Standing
  Line : ℕ → Standing

pub data Turn : Type 0 where
  Opens : Turn
  Closes : Turn
  Stops : Turn
  Plain : Turn

abbrev pub turn_of : Sym → Turn
turn_of (Mark m.OpenBrace at) = Opens
turn_of (Mark m.CloseBrace at) = Closes
turn_of (Mark m.Semicolon at) = Stops
turn_of _ = Plain

abbrev closed_body : ℕ → Option Standing
closed_body zero = None
closed_body (suc n) = Some (Body n)

abbrev closed_line : ℕ → Option Standing
closed_line zero = Some (Line zero)
closed_line (suc n) = Some (Line n)

abbrev stopped_line : ℕ → Option Standing
stopped_line zero = None
stopped_line (suc n) = Some (Line (suc n))

-- where the next symbol stands; nowhere, if the item ends
abbrev pub next : Turn → Standing → Option Standing
next Plain s = Some s
next Opens Head = Some (Body 0)
next Opens (Body n) = Some (Body (suc n))
next Opens (Line n) = Some (Line (suc n))
next Closes Head = Some Head
next Closes (Body n) = closed_body n
next Closes (Line n) = closed_line n
next Stops Head = Some Head
next Stops (Body n) = Some (Body n)
next Stops (Line n) = stopped_line n

abbrev pub choose : Option Standing → (Standing → List Sym) → List Sym → List Sym
choose None more xs = xs
choose (Some s) more xs = more s

-- what stands behind the item
unfoldable pub behind : Standing → List Sym → List Sym
behind s [] = []
behind s (x ∷ xs) = choose (next (turn_of x) s) (λ (t : Standing). behind t xs) xs

-- ---- symbols that end no item

abbrev inside : Bool → ℕ → Standing
inside true n = Body n
inside false n = Line n

abbrev within : Bool → ℕ → Standing
within true n = Body n
within false n = Line (suc n)

-- anywhere; outside the head of a class and an interface; in braces
record Flat (xs : List Sym) : Type 0 where
  pub flat : (s : Standing) (zs : List Sym) → behind s (xs ++ zs) ≡ behind s zs

record Calm (xs : List Sym) : Type 0 where
  pub calm : (b : Bool) (n : ℕ) (zs : List Sym) → behind (inside b n) (xs ++ zs) ≡ behind (inside b n) zs

record Loose (xs : List Sym) : Type 0 where
  pub loose : (b : Bool) (n : ℕ) (zs : List Sym) → behind (within b n) (xs ++ zs) ≡ behind (within b n) zs

flat_calm : {xs : List Sym} → Flat xs → Calm xs
flat_calm f = record { calm = λ b n zs. f.flat (inside b n) zs }

calm_loose : {xs : List Sym} → Calm xs → Loose xs
calm_loose {xs = xs} f = record { loose = by }
  where
    by : (b : Bool) (n : ℕ) (zs : List Sym) → behind (within b n) (xs ++ zs) ≡ behind (within b n) zs
    by true n zs = f.calm true n zs
    by false n zs = f.calm false (suc n) zs

flat_nil : Flat []
flat_nil = record { flat = λ s zs. refl }

calm_nil : Calm []
calm_nil = record { calm = λ b n zs. refl }

loose_nil : Loose []
loose_nil = record { loose = λ b n zs. refl }

passes : (x : Sym) → turn_of x ≡ Plain → (s : Standing) (zs : List Sym) → behind s (x ∷ zs) ≡ behind s zs
unfolding behind
passes x e s zs = ap (λ t. choose (next t s) (λ (t : Standing). behind t zs) zs) e

flat_cons : {x : Sym} {xs : List Sym} → turn_of x ≡ Plain → Flat xs → Flat (x ∷ xs)
flat_cons {x = x} {xs = xs} e f = record { flat = λ s zs. passes x e s (xs ++ zs) ∙ f.flat s zs }

calm_cons : {x : Sym} {xs : List Sym} → turn_of x ≡ Plain → Calm xs → Calm (x ∷ xs)
calm_cons {x = x} {xs = xs} e f = record { calm = λ b n zs. passes x e (inside b n) (xs ++ zs) ∙ f.calm b n zs }

flat_append : {xs ys : List Sym} → Flat xs → Flat ys → Flat (xs ++ ys)
flat_append {xs = xs} {ys = ys} f g = record { flat = λ s zs. ap (behind s) (append_assoc xs ys zs) ∙ (f.flat s (ys ++ zs) ∙ g.flat s zs) }

calm_append : {xs ys : List Sym} → Calm xs → Calm ys → Calm (xs ++ ys)
calm_append {xs = xs} {ys = ys} f g = record { calm = λ b n zs. ap (behind (inside b n)) (append_assoc xs ys zs) ∙ (f.calm b n (ys ++ zs) ∙ g.calm b n zs) }

loose_append : {xs ys : List Sym} → Loose xs → Loose ys → Loose (xs ++ ys)
loose_append {xs = xs} {ys = ys} f g = record { loose = λ b n zs. ap (behind (within b n)) (append_assoc xs ys zs) ∙ (f.loose b n (ys ++ zs) ∙ g.loose b n zs) }

flat_one : (x : Sym) → turn_of x ≡ Plain → Flat (x ∷ [])
flat_one x e = flat_cons e flat_nil

calm_one : (x : Sym) → turn_of x ≡ Plain → Calm (x ∷ [])
calm_one x e = calm_cons e calm_nil

-- braces round anything
calm_braces : (o p : ℕ) {xs : List Sym} → Loose xs → Calm (Mark m.OpenBrace o ∷ xs ++ Mark m.CloseBrace p ∷ [])
unfolding behind
calm_braces o p {xs = xs} f = record { calm = by }
  where
    whole : (zs : List Sym) → xs ++ Mark m.CloseBrace p ∷ [] ++ zs ≡ xs ++ Mark m.CloseBrace p ∷ zs
    whole zs = append_assoc xs (Mark m.CloseBrace p ∷ []) zs

    by : (b : Bool) (n : ℕ) (zs : List Sym) → behind (inside b n) (Mark m.OpenBrace o ∷ xs ++ Mark m.CloseBrace p ∷ [] ++ zs) ≡ behind (inside b n) zs
    by true n zs = ap (behind (Body (suc n))) (whole zs) ∙ f.loose true (suc n) (Mark m.CloseBrace p ∷ zs)
    by false n zs = ap (behind (Line (suc n))) (whole zs) ∙ f.loose false n (Mark m.CloseBrace p ∷ zs)

-- ---- types

marked_flat : {kind : MarkKind} {xs : List Sym} {b : Bool} → turn_of (Mark kind 0) ≡ Plain → IsMarked kind xs b → Flat xs
marked_flat e unmarked = flat_nil
marked_flat {kind = kind} e (marked at) = flat_one (Mark kind at) (same kind e)
  where
    same : (kind : MarkKind) → turn_of (Mark kind 0) ≡ Plain → turn_of (Mark kind at) ≡ Plain
    same m.OpenBrace e = e
    same m.CloseBrace e = e
    same m.Semicolon e = e
    same _ e = refl

worded_flat : {kind : Word} {xs : List Sym} {b : Bool} → IsWorded kind xs b → Flat xs
worded_flat unworded = flat_nil
worded_flat {kind = kind} (worded spelled at) = flat_one (word kind spelled at) refl

question_flat : {xs : List Sym} {b : Bool} → IsMarked m.Question xs b → Flat xs
question_flat q = marked_flat refl q

key_plain : {key : Key} (s : Sym) → key_of s ≡ Some key → turn_of s ≡ Plain
key_plain (Lex class spelled at) e = refl
key_plain (Mark kind at) e = absurd (cc e)

loose_mark : (mark : MarkKind) (at : ℕ) → ends_member mark ≡ true → Loose (Mark mark at ∷ [])
unfolding behind
loose_mark m.Semicolon at e = record { loose = by }
  where
    by : (b : Bool) (n : ℕ) (zs : List Sym) → behind (within b n) (Mark m.Semicolon at ∷ zs) ≡ behind (within b n) zs
    by true n zs = refl
    by false n zs = refl
loose_mark m.Comma at e = calm_loose (calm_one (Mark m.Comma at) refl)
loose_mark _ at e = let no : false ≡ true = e in absurd cc

loose_stop : (at : ℕ) → Loose (Mark m.Semicolon at ∷ [])
loose_stop at = loose_mark m.Semicolon at refl

brackets_flat : {n : ℕ} {xs : List Sym} → IsBrackets n xs → Flat xs
brackets_flat g.no_brackets = flat_nil
brackets_flat (g.brackets o p q) = flat_cons refl (flat_cons refl (brackets_flat q))

mutual
  atom_calm : {xs : List Sym} {of : TypeExpr} {own depth : ℕ} → IsAtom xs of own depth → Calm xs
  atom_calm (g.keyword_type {kind = kind} spelled at e) = calm_one (word kind spelled at) refl
  atom_calm (g.boolean_type {kind = kind} spelled at e) = calm_one (word kind spelled at) refl
  atom_calm (g.string_type spelled at) = calm_one (Lex c.String spelled at) refl
  atom_calm (g.integer_type digits at h) = calm_one (Lex c.Number digits at) refl
  atom_calm (g.minus_type digits at digits_at h) = calm_cons refl (calm_one (Lex c.Number digits digits_at) refl)
  atom_calm (g.written_type {kind = kind} spelled at h) = calm_one (word kind spelled at) refl
  atom_calm (g.parens_type o p q) = calm_cons refl (calm_append (type_calm q) (calm_one (Mark m.CloseParen p) refl))
  atom_calm (g.object_type o p q) = calm_braces o p (members_loose q)

  element_calm : {xs : List Sym} {of : TypeExpr} {own depth : ℕ} → IsElement xs of own depth → Calm xs
  element_calm (g.plain_element a q) = calm_append (atom_calm a) (flat_calm (brackets_flat q))
  element_calm (g.read_only_element spelled at a q) = calm_cons refl (calm_append (atom_calm a) (flat_calm (brackets_flat q)))

  tail_calm : {xs : List Sym} {of : List TypeExpr} {own depth : ℕ} → IsTail xs of own depth → Calm xs
  tail_calm g.no_tail = calm_nil
  tail_calm (g.more_tail bar q r) = calm_cons refl (calm_append (element_calm q) (tail_calm r))

  union_calm : {xs : List Sym} {of : TypeExpr} {own depth : ℕ} → IsUnion xs of own depth → Calm xs
  union_calm (g.one_element q) = element_calm q
  union_calm (g.several_elements bar p q r) = calm_append (calm_append (element_calm p) (calm_cons refl (element_calm q))) (tail_calm r)

  type_calm : {xs : List Sym} {of : TypeExpr} {own depth : ℕ} → IsType xs of own depth → Calm xs
  type_calm (g.function_type o p a q r) = calm_cons refl (calm_append (params_calm q) (calm_cons refl (calm_cons refl (type_calm r))))
  type_calm (g.union_type b q) = calm_append (flat_calm (marked_flat refl b)) (union_calm q)

  param_calm : {xs : List Sym} {of : TypeParam} {own depth : ℕ} → IsTypeParam xs of own depth → Calm xs
  param_calm (g.type_param spelled at colon h q r) = calm_cons refl (calm_append (flat_calm (question_flat q)) (calm_cons refl (type_calm r)))

  params_calm : {xs : List Sym} {of : List TypeParam} {own depth : ℕ} → IsTypeParams xs of own depth → Calm xs
  params_calm g.no_type_params = calm_nil
  params_calm (g.last_type_param q) = param_calm q
  params_calm (g.more_type_params comma q r) = calm_append (param_calm q) (calm_cons refl (params_calm r))

  member_calm : {xs : List Sym} {of : TypeMember} {own depth : ℕ} → IsTypeMember xs of own depth → Calm xs
  member_calm (g.property_member s colon p e q r) =
      calm_append (calm_append (flat_calm (worded_flat p)) (calm_cons (key_plain s e) (flat_calm (question_flat q)))) (calm_cons refl (type_calm r))
  member_calm (g.method_member s o p colon e q r t) =
      calm_append (calm_append (calm_cons (key_plain s e) (flat_calm (question_flat q))) (calm_cons refl (params_calm r))) (calm_cons refl (calm_cons refl (type_calm t)))

  members_loose : {xs : List Sym} {of : List TypeMember} {own depth : ℕ} → IsTypeMembers xs of own depth → Loose xs
  members_loose g.no_type_members = loose_nil
  members_loose (g.last_type_member q) = calm_loose (member_calm q)
  members_loose (g.more_type_members mark at q e r) = loose_append (calm_loose (member_calm q)) (loose_append (loose_mark mark at e) (members_loose r))

-- ---- parts of items

spec_flat : {local : Word → Word → Bool} {typed : Bool} {xs : List Sym} {of : Spec} → IsSpec local typed xs of → Flat xs
spec_flat (grammar.plain_spec spelled at h) = flat_cons refl flat_nil
spec_flat (grammar.renamed_spec spelled at as_spelled as_at other_spelled other_at h) = flat_cons refl (flat_cons refl (flat_cons refl flat_nil))
spec_flat (grammar.type_spec type_spelled type_at spelled at t n h) = flat_cons refl (flat_cons refl flat_nil)
spec_flat (grammar.renamed_type_spec type_spelled type_at spelled at as_spelled as_at other_spelled other_at t n h) = flat_cons refl (flat_cons refl (flat_cons refl (flat_cons refl flat_nil)))

listed_flat : {local : Word → Word → Bool} {typed : Bool} {xs : List Sym} {of : List Spec} → IsListed (IsSpec local typed) xs of → Flat xs
listed_flat none_listed = flat_nil
listed_flat (last_listed q) = spec_flat q
listed_flat (more_listed comma q r) = flat_append (spec_flat q) (flat_cons refl (listed_flat r))

specs_calm : {local : Word → Word → Bool} {typed : Bool} {xs : List Sym} {of : List Spec} → IsSpecs local typed xs of → Calm xs
specs_calm (grammar.specs o p q) = calm_braces o p (calm_loose (flat_calm (listed_flat q)))

from_flat : {xs : List Sym} {of : Specifier} → IsFrom xs of → Flat xs
from_flat (grammar.from from_spelled from_at spelled at) = flat_cons refl (flat_cons refl flat_nil)

joined_flat : {xs : List Sym} {of : List Base} → IsJoined IsBase xs of → Flat xs
joined_flat (last_joined (grammar.base spelled at h)) = flat_cons refl flat_nil
joined_flat (more_joined comma (grammar.base spelled at h) r) = flat_cons refl (flat_cons refl (joined_flat r))

bases_flat : {kind : Word} {xs : List Sym} {of : List Base} → IsBases kind xs of → Flat xs
bases_flat grammar.no_bases = flat_nil
bases_flat (grammar.some_bases spelled at q) = flat_cons refl (joined_flat q)

shape_calm : {xs : List Sym} {of : TypeExpr} {d : ℕ} → IsShape xs of d → Calm xs
shape_calm (shape colon q h) = calm_cons refl (type_calm q)

signature_calm : {xs : List Sym} {of : List TypeParam} {d : ℕ} → IsSignature xs of d → Calm xs
signature_calm (surfaces.signature o p q h) = calm_cons refl (calm_append (params_calm q) (calm_one (Mark m.CloseParen p) refl))

member_loose : {built : Bool} {xs : List Sym} {of : DeclaredMember} {d : ℕ} → IsDeclaredMember built xs of d → Loose xs
member_loose (surfaces.declared_field kind spelled at i s r h q t) =
    loose_append (calm_loose (calm_append (calm_append (calm_append (flat_calm (worded_flat s)) (flat_calm (worded_flat r))) (calm_cons refl (flat_calm (question_flat q)))) (shape_calm t))) (loose_stop i)
member_loose (surfaces.declared_constructor spelled at i q) = loose_append (calm_loose (calm_cons refl (signature_calm q))) (loose_stop i)
member_loose (surfaces.declared_method kind spelled at i s h q t) =
    loose_append (calm_loose (calm_append (calm_append (flat_calm (worded_flat s)) (calm_cons refl (signature_calm q))) (shape_calm t))) (loose_stop i)

declared_members_loose : {built : Bool} {xs : List Sym} {of : List DeclaredMember} {d : ℕ} → IsDeclaredMembers built xs of d → Loose xs
declared_members_loose surfaces.no_declared_members = loose_nil
declared_members_loose (surfaces.more_declared_members q r h) = loose_append (member_loose q) (declared_members_loose r)

-- ---- items

-- where its first symbol stands
abbrev first_standing : Word → Standing → Standing
first_standing w.Export later = later
first_standing w.Declare later = later
first_standing w.Class later = Head
first_standing w.Interface later = Head
first_standing _ later = Line 0

unfoldable pub standing_of : List Sym → Standing
standing_of [] = Line 0
standing_of (Lex (c.Word kind) spelled at ∷ xs) = first_standing kind (standing_of xs)
standing_of (_ ∷ xs) = Line 0

-- what stands behind the first item
abbrev pub behind_item : List Sym → List Sym
behind_item xs = behind (standing_of xs) xs

-- an item with `;` at its end
line_ends : (i : ℕ) {xs : List Sym} → Calm xs → (zs : List Sym) → behind (Line 0) (xs ++ Mark m.Semicolon i ∷ [] ++ zs) ≡ zs
unfolding behind
line_ends i {xs = xs} f zs = ap (behind (Line 0)) (append_assoc xs (Mark m.Semicolon i ∷ []) zs) ∙ f.calm false 0 (Mark m.Semicolon i ∷ zs)

-- and one with braces
block_ends : (o p : ℕ) {xs ys : List Sym} → Flat xs → Loose ys → (zs : List Sym) → behind Head (xs ++ Mark m.OpenBrace o ∷ ys ++ Mark m.CloseBrace p ∷ [] ++ zs) ≡ zs
unfolding behind
block_ends o p {xs = xs} {ys = ys} f l zs =
    ap (behind Head) (append_assoc (xs ++ Mark m.OpenBrace o ∷ ys) (Mark m.CloseBrace p ∷ []) zs ∙ append_assoc xs (Mark m.OpenBrace o ∷ ys) (Mark m.CloseBrace p ∷ zs))
    ∙ (f.flat Head (Mark m.OpenBrace o ∷ (ys ++ Mark m.CloseBrace p ∷ zs)) ∙ l.loose true 0 (Mark m.CloseBrace p ∷ zs))

import_ends : {xs : List Sym} {of : Import} → IsImport xs of → (zs : List Sym) → behind_item (xs ++ zs) ≡ zs
unfolding standing_of
import_ends (grammar.import_list spelled at i t s q) zs = line_ends i (calm_append (calm_append (calm_cons refl (flat_calm (worded_flat t))) (specs_calm s)) (flat_calm (from_flat q))) zs
import_ends (grammar.import_bare spelled at from_spelled from_at i) zs = line_ends i (calm_cons {x = word w.Import spelled at} refl (calm_one (Lex c.String from_spelled from_at) refl)) zs

list_ends : {xs : List Sym} {of : ExportList} → IsExportList xs of → (zs : List Sym) → behind_item (xs ++ zs) ≡ zs
unfolding standing_of
list_ends (grammar.export_list spelled at i unworded (grammar.specs o p q)) zs = line_ends i (calm_cons {x = word w.Export spelled at} refl (specs_calm (grammar.specs o p q))) zs
list_ends (grammar.export_list spelled at i (worded type_spelled type_at) s) zs = line_ends i (calm_cons {x = word w.Export spelled at} refl (calm_cons {x = word w.Type type_spelled type_at} refl (specs_calm s))) zs
list_ends (grammar.export_from spelled at i unworded (grammar.specs o p q) f) zs =
    line_ends i (calm_append (calm_cons {x = word w.Export spelled at} refl (specs_calm (grammar.specs o p q))) (flat_calm (from_flat f))) zs
list_ends (grammar.export_from spelled at i (worded type_spelled type_at) s f) zs =
    line_ends i (calm_append (calm_cons {x = word w.Export spelled at} refl (calm_cons {x = word w.Type type_spelled type_at} refl (specs_calm s))) (flat_calm (from_flat f))) zs

variable_stands : (kind : Word) {of : VarKind} (xs : List Sym) (spelled : List ℕ) (at : ℕ) → kind_of kind ≡ Some of → standing_of (word kind spelled at ∷ xs) ≡ Line 0
unfolding standing_of
variable_stands w.Const xs spelled at e = refl
variable_stands w.Let xs spelled at e = refl
variable_stands _ xs spelled at e = absurd (cc e)

declared_ends : {xs : List Sym} {of : Declared} {d : ℕ} → IsDeclared xs of d → (zs : List Sym) → behind_item (xs ++ zs) ≡ zs
unfolding standing_of
declared_ends (surfaces.declared_variable {word_kind = word_kind} {name_kind = name_kind} kind_spelled kind_at spelled at i {xs = xs} e h q) zs =
    ap (λ s. behind s (word word_kind kind_spelled kind_at ∷ word name_kind spelled at ∷ xs ++ Mark m.Semicolon i ∷ [] ++ zs)) (variable_stands word_kind (word name_kind spelled at ∷ (xs ++ Mark m.Semicolon i ∷ [] ++ zs)) kind_spelled kind_at e)
    ∙ line_ends i (calm_cons {x = word word_kind kind_spelled kind_at} refl (calm_cons {x = word name_kind spelled at} refl (shape_calm q))) zs
declared_ends (surfaces.declared_function {kind = kind} function_spelled function_at spelled at i h q r) zs =
    line_ends i (calm_append (calm_cons {x = word w.Function function_spelled function_at} refl (calm_cons {x = word kind spelled at} refl (signature_calm q))) (shape_calm r)) zs
declared_ends (surfaces.declared_class {kind = kind} class_spelled class_at spelled at o p h b q) zs =
    block_ends o p (flat_cons {x = word w.Class class_spelled class_at} refl (flat_cons {x = word kind spelled at} refl (bases_flat b))) (declared_members_loose q) zs
declared_ends (surfaces.declared_interface (grammar.interface {kind = kind} interface_spelled interface_at spelled at o p h b q l)) zs =
    block_ends o p (flat_cons {x = word w.Interface interface_spelled interface_at} refl (flat_cons {x = word kind spelled at} refl (bases_flat b))) (members_loose q) zs
declared_ends (surfaces.declared_alias (grammar.alias {kind = kind} type_spelled type_at spelled at assign i h q l)) zs =
    line_ends i (calm_cons {x = word w.Type type_spelled type_at} refl (calm_cons {x = word kind spelled at} refl (calm_cons {x = Mark m.Assign assign} refl (type_calm q)))) zs

pub item_ends : {xs : List Sym} {of : List SurfaceItem} {d : ℕ} → IsDeclItem xs of d → (zs : List Sym) → behind_item (xs ++ zs) ≡ zs
unfolding standing_of behind
item_ends (surfaces.declared_import q) zs = import_ends q zs
item_ends (surfaces.declared_list q) zs = list_ends q zs
item_ends (surfaces.declared_item unworded unworded q) zs = declared_ends q zs
item_ends (surfaces.declared_item (worded s at) unworded q) zs = declared_ends q zs
item_ends (surfaces.declared_item unworded (worded s at) q) zs = declared_ends q zs
item_ends (surfaces.declared_item (worded s at) (worded t i) q) zs = declared_ends q zs
