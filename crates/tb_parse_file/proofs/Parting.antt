-- Behind an item that is a shorter front of a list than another item, no item begins. So where symbols are items one after the other,
-- each is the longest front that is one.
use Rattle.std.proofs.Common.{◌≡◌, ℕ, ◌≤◌, ◌<◌, Bool, false, List, [], ◌∷◌, ◌++◌, length, refl, sym, ◌∙◌, ap, inl, inr, arith, append_assoc}
use Rattle.std.proofs.lemmas.Bool.{cases_order}
use Rattle.std.specs.Prelude.{◌⊎◌, Some}
use Rattle.tb_tree.specs.declared.marks.Mark.TheVariants as m
use Rattle.tb_tree.specs.declared.words.Word.{Word}
use Rattle.tb_tree.specs.declared.words.Word.TheVariants as w
use Rattle.tb_tree.specs.declared.exprs.VarKind.{VarKind}
use Rattle.tb_tree.specs.declared.exprs.Function.{Function}
use Rattle.tb_tree.specs.declared.items.Specifier.{Specifier}
use Rattle.tb_tree.specs.declared.items.Spec.{Spec}
use Rattle.tb_tree.specs.declared.items.Base.{Base}
use Rattle.tb_tree.specs.declared.items.ClassMember.{ClassMember}
use Rattle.tb_tree.specs.declared.items.Item.{Item}
use Rattle.tb_tree.specs.Sym.{Sym, Mark}
use Rattle.tb_tree.specs.Shapes.{word, IsMarked, unmarked, marked, IsWorded, unworded, worded, IsListed, none_listed, last_listed, more_listed, IsJoined, last_joined, more_joined}
use Rattle.tb_tree.specs.Exprs as g
use Rattle.tb_tree.specs.Items as i
use Rattle.tb_tree.proofs.Ends.{append_three}
use Rattle.tb_parse_body.proofs.Even.{Opens, Goes, turn_of, Even, even_nil, even_one, even_append, even_by, even_cons, even_between, parens_even, group_exact, members_even, annotation_even, value_even, params_even, block_even}
use Rattle.tb_parse_body.proofs.Functions.{BehindBody, function_goes, no_item_behind}
use Rattle.tb_parse_file.proofs.ItemStarts.{item_no_else}
use Rattle.tb_parse_file.proofs.NoSemicolon.{Clear, clear_nil, clear_one, clear_cons, clear_append, clear_braces, type_clear, declarators_clear}
use Rattle.tb_parse_file.proofs.StmtParts.{word_sort, sort, sort_more, Bone, sentence, braces, switches, whiles, fors, does, ifs, if_elses, bone, Else, same, left, right, Sides, bones_part}

-- ---- parts of items

worded_even : {k : Word} {xs : List Sym} {b : Bool} → IsWorded k xs b → Even xs
worded_even unworded = even_nil
worded_even (worded s at) = even_one refl

question_even : {xs : List Sym} {b : Bool} → IsMarked m.Question xs b → Even xs
question_even unmarked = even_nil
question_even (marked at) = even_one refl

worded_clear : {k : Word} {xs : List Sym} {b : Bool} → IsWorded k xs b → Clear xs
worded_clear unworded = clear_nil
worded_clear (worded s at) = clear_one refl

spec_even : {local : Word → Word → Bool} {type_only : Bool} {xs : List Sym} {of : Spec} → i.IsSpec local type_only xs of → Even xs
spec_even (i.plain_spec s at h) = even_one refl
spec_even (i.renamed_spec s at s' at' s'' at'' h) = even_cons refl (even_cons refl (even_one refl))
spec_even (i.type_spec s at s' at' h n k) = even_cons refl (even_one refl)
spec_even (i.renamed_type_spec s at s' at' s'' at'' s''' at''' h n k) = even_cons refl (even_cons refl (even_cons refl (even_one refl)))

listed_even : {local : Word → Word → Bool} {type_only : Bool} {xs : List Sym} {of : List Spec} → IsListed (i.IsSpec local type_only) xs of → Even xs
listed_even none_listed = even_nil
listed_even (last_listed q) = spec_even q
listed_even (more_listed comma q r) = even_between (Mark m.Comma comma) refl (spec_even q) (listed_even r)

specs_clear : {local : Word → Word → Bool} {type_only : Bool} {xs : List Sym} {of : List Spec} → i.IsSpecs local type_only xs of → Clear xs
specs_clear (i.specs o p q) = clear_braces o p (listed_even q) clear_nil

from_clear : {xs : List Sym} {of : Specifier} → i.IsFrom xs of → Clear xs
from_clear (i.from fs fa s at) = clear_cons refl (clear_one refl)

module _ (ordered : Bool) where
  class_member_even : {here : Bool} {xs : List Sym} {of : ClassMember} {d : ℕ} → i.IsClassMember ordered here xs of d → Even xs
  class_member_even (i.field k s at semicolon q r n o a v) =
      even_append (even_append (even_append (even_append (even_append (worded_even q) (worded_even r)) (even_cons refl (question_even o))) (annotation_even a)) (value_even ordered v)) (even_one refl)
  class_member_even (i.constructor s at o p q r) = even_cons refl (parens_even o p (params_even ordered q) (block_even ordered r))
  class_member_even (i.class_method k s at o p {xs = xs} {ys = ys} {zs = zs} q n r a b) =
      even_append
      (even_by (append_assoc xs (word k s at ∷ Mark m.OpenParen o ∷ ys) (Mark m.CloseParen p ∷ zs)) (even_append (worded_even q) (even_cons refl (parens_even o p (params_even ordered r) (annotation_even a)))))
      (block_even ordered b)

  pub class_members_even : {here : Bool} {xs : List Sym} {of : List ClassMember} {d : ℕ} → i.IsClassMembers ordered here xs of d → Even xs
  class_members_even i.no_class_members = even_nil
  class_members_even (i.more_class_members q r h) = even_append (class_member_even q) (class_members_even r)

-- ---- symbols without brackets

data Flat : List Sym → Type 0 where
  flat_nil : Flat []
  flat_cons : {s : Sym} {xs : List Sym} → turn_of s ≡ Goes → Flat xs → Flat (s ∷ xs)

flat_append : {xs ys : List Sym} → Flat xs → Flat ys → Flat (xs ++ ys)
flat_append flat_nil r = r
flat_append (flat_cons e q) r = flat_cons e (flat_append q r)

brace_no_flat : (o : ℕ) (s : Sym) → turn_of s ≡ Goes → Mark m.OpenBrace o ≡ s → ⊥
brace_no_flat o s h e = let n : Opens ≡ Goes = ap turn_of e ∙ h in cc

-- the first `{` stands at one place
flat_same : {xs ys : List Sym} (o p : ℕ) (us ws : List Sym) → Flat xs → Flat ys → xs ++ (Mark m.OpenBrace o ∷ us) ≡ ys ++ (Mark m.OpenBrace p ∷ ws) → us ≡ ws
flat_same o p us ws flat_nil flat_nil e = cc
flat_same o p us ws flat_nil (flat_cons {s = s} h q) e = absurd (brace_no_flat o s h cc)
flat_same o p us ws (flat_cons {s = s} h q) flat_nil e = absurd (brace_no_flat p s h cc)
flat_same o p us ws (flat_cons h q) (flat_cons k r) e = flat_same o p us ws q r cc

joined_flat : {xs : List Sym} {of : List Base} → IsJoined i.IsBase xs of → Flat xs
joined_flat (last_joined (i.base s at n)) = flat_cons refl flat_nil
joined_flat (more_joined comma (i.base s at n) r) = flat_cons refl (flat_cons refl (joined_flat r))

bases_flat : {k : Word} {xs : List Sym} {of : List Base} → i.IsBases k xs of → Flat xs
bases_flat i.no_bases = flat_nil
bases_flat (i.some_bases s at q) = flat_cons refl (joined_flat q)

-- ---- items by their sort

-- what ends with its first outer `;`, and statements; functions; and classes and interfaces
data Frame (ordered : Bool) : List Sym → Type 0 where
  boned : {xs : List Sym} → Bone false xs → Frame ordered xs
  functional : {exported : Bool} {xs ys : List Sym} {of : Function} {d : ℕ} → IsWorded w.Export xs exported → g.IsFunction ordered ys of d → Frame ordered (xs ++ ys)
  braced : (o p : ℕ) {xs ys : List Sym} → Flat xs → ((vs : List Sym) → sort (xs ++ vs) ≡ 3) → Even ys → Frame ordered (xs ++ Mark m.OpenBrace o ∷ ys ++ Mark m.CloseBrace p ∷ [])

kind_sort : (k : Word) (v : VarKind) (s : List ℕ) (at : ℕ) (ss : List Sym) → g.kind_of k ≡ Some v → (sort (word k s at ∷ ss) ≡ 0) × (word_sort k ≡ 0)
kind_sort w.Const v s at ss e = (refl, refl)
kind_sort w.Let v s at ss e = (refl, refl)
kind_sort _ v s at ss e = cc

frame : {ordered : Bool} {a : List Sym} {of : Item} {d : ℕ} → i.IsItem ordered a of d → Frame ordered a
frame {ordered = ordered} (i.import_item (i.import_list s at semicolon q r f)) =
    boned (sentence semicolon (clear_append (clear_append (clear_cons refl (worded_clear q)) (specs_clear r)) (from_clear f)) refl)
frame {ordered = ordered} (i.import_item (i.import_bare s at fs fa semicolon)) = boned (sentence semicolon (clear_cons refl (clear_one refl)) refl)
frame {ordered = ordered} (i.export_list_item (i.export_list s at semicolon unworded (i.specs o p q))) =
    boned (sentence semicolon (clear_cons refl (clear_braces o p (listed_even q) clear_nil)) refl)
frame {ordered = ordered} (i.export_list_item (i.export_list s at semicolon (worded ts ta) r)) = boned (sentence semicolon (clear_cons refl (clear_cons refl (specs_clear r))) refl)
frame {ordered = ordered} (i.export_list_item (i.export_from s at semicolon unworded (i.specs o p q) f)) =
    boned (sentence semicolon (clear_append (clear_cons refl (clear_braces o p (listed_even q) clear_nil)) (from_clear f)) refl)
frame {ordered = ordered} (i.export_list_item (i.export_from s at semicolon (worded ts ta) r f)) =
    boned (sentence semicolon (clear_append (clear_cons refl (clear_cons refl (specs_clear r))) (from_clear f)) refl)
frame {ordered = ordered} (i.declaration_item unworded (i.var_declaration (g.var {word_kind = k} {kind = v} s at semicolon {xs = xs} h q))) =
    boned (sentence semicolon (clear_cons refl (declarators_clear ordered q)) (kind_sort k v s at (xs ++ Mark m.Semicolon semicolon ∷ []) h).0)
frame {ordered = ordered} (i.declaration_item (worded es ea) (i.var_declaration (g.var {word_kind = k} {kind = v} s at semicolon {xs = xs} h q))) =
    boned (sentence semicolon (clear_cons refl (clear_cons refl (declarators_clear ordered q))) (kind_sort k v s at [] h).1)
frame {ordered = ordered} (i.declaration_item e (i.function_declaration q)) = functional e q
frame {ordered = ordered} (i.declaration_item unworded (i.class_declaration (i.class cs ca s at o p n q r))) =
    braced o p (flat_cons refl (flat_cons refl (bases_flat q))) (λ vs. refl) (class_members_even ordered r)
frame {ordered = ordered} (i.declaration_item (worded es ea) (i.class_declaration (i.class cs ca s at o p n q r))) =
    braced o p (flat_cons refl (flat_cons refl (flat_cons refl (bases_flat q)))) (λ vs. refl) (class_members_even ordered r)
frame {ordered = ordered} (i.declaration_item unworded (i.interface_declaration (i.interface is ia s at o p n q r h))) =
    braced o p (flat_cons refl (flat_cons refl (bases_flat q))) (λ vs. refl) (members_even r)
frame {ordered = ordered} (i.declaration_item (worded es ea) (i.interface_declaration (i.interface is ia s at o p n q r h))) =
    braced o p (flat_cons refl (flat_cons refl (flat_cons refl (bases_flat q)))) (λ vs. refl) (members_even r)
frame {ordered = ordered} (i.declaration_item unworded (i.alias_declaration (i.alias ts ta s at assign semicolon n q h))) =
    boned (sentence semicolon (clear_cons refl (clear_cons refl (clear_cons refl (type_clear q)))) refl)
frame {ordered = ordered} (i.declaration_item (worded es ea) (i.alias_declaration (i.alias ts ta s at assign semicolon n q h))) =
    boned (sentence semicolon (clear_cons refl (clear_cons refl (clear_cons refl (clear_cons refl (type_clear q))))) refl)
frame {ordered = ordered} (i.stmt_item q) = boned (bone q)

bone_sort : {closed : Bool} {a : List Sym} (us : List Sym) → Bone closed a → sort (a ++ us) ≤ 1
bone_sort us (sentence at {xs = xs} q h) = omega (arith, h, sort_more xs us at)
bone_sort us (braces o p q) = omega arith
bone_sort us (switches s at o p ob pb q r) = omega arith
bone_sort us (whiles s at o p q r) = omega arith
bone_sort us (fors s at o p q r) = omega arith
bone_sort us (does s at ws wa o p semicolon q r) = omega arith
bone_sort us (ifs s at o p q r) = omega arith
bone_sort us (if_elses s at o p es ea q r f) = omega arith

function_sort : {ordered exported : Bool} {xs ys : List Sym} {of : Function} {d : ℕ} (us : List Sym) → IsWorded w.Export xs exported → g.IsFunction ordered ys of d → sort (xs ++ ys ++ us) ≡ 2
function_sort us unworded (g.function fs fa s at o p n q r b) = refl
function_sort us (worded es ea) (g.function fs fa s at o p n q r b) = refl

braced_sort : (xs : List Sym) (o p : ℕ) (ys us : List Sym) → ((vs : List Sym) → sort (xs ++ vs) ≡ 3) → sort (xs ++ Mark m.OpenBrace o ∷ ys ++ Mark m.CloseBrace p ∷ [] ++ us) ≡ 3
braced_sort xs o p ys us h = ap sort (append_three xs (Mark m.OpenBrace o ∷ ys) (Mark m.CloseBrace p ∷ []) us) ∙ h _

-- ---- how two items part

functions_part : {ordered exported other : Bool} {xs ys xs' ys' : List Sym} {f t : Function} {d e : ℕ} (us ws : List Sym) → IsWorded w.Export xs exported → g.IsFunction ordered ys f d
    → IsWorded w.Export xs' other → g.IsFunction ordered ys' t e → xs ++ ys ++ us ≡ xs' ++ ys' ++ ws → length ws < length us → BehindBody us
functions_part {ordered = ordered} us ws unworded q unworded r e h = function_goes ordered us ws q r e h
functions_part {ordered = ordered} us ws (worded es ea) q (worded es' ea') r e h = function_goes ordered us ws q r (cc) h
functions_part us ws unworded (g.function fs fa s at o p n q b c) (worded es' ea') r e h = cc
functions_part us ws (worded es ea) q unworded (g.function fs fa s at o p n r b c) e h = cc

braced_same : {xs ys xs' ys' : List Sym} (o p o' p' : ℕ) (us ws : List Sym) → Flat xs → Even ys → Flat xs' → Even ys'
    → xs ++ Mark m.OpenBrace o ∷ ys ++ Mark m.CloseBrace p ∷ [] ++ us ≡ xs' ++ Mark m.OpenBrace o' ∷ ys' ++ Mark m.CloseBrace p' ∷ [] ++ ws → us ≡ ws
braced_same {xs = xs} {ys = ys} {xs' = xs'} {ys' = ys'} o p o' p' us ws f q k r e =
    let j = flat_same o o' (ys ++ (Mark m.CloseBrace p ∷ us)) (ys' ++ (Mark m.CloseBrace p' ∷ ws)) f k
    (sym (append_three xs (Mark m.OpenBrace o ∷ ys) (Mark m.CloseBrace p ∷ []) us) ∙ e ∙ append_three xs' (Mark m.OpenBrace o' ∷ ys') (Mark m.CloseBrace p' ∷ []) ws) in
    (group_exact (Mark m.CloseBrace p) (Mark m.CloseBrace p') us ws q r refl refl j).2

sides_part : {us ws : List Sym} → length ws < length us → Sides false false us ws → Else us ⊎ BehindBody us
sides_part h (same e) = absurd (omega (arith, h, ap length e))
sides_part h (left c f k) = inl f
sides_part h (right c f k) = absurd (omega (arith, h, k))

frames_part : {ordered : Bool} {a b : List Sym} (us ws : List Sym) → Frame ordered a → Frame ordered b → a ++ us ≡ b ++ ws → length ws < length us → Else us ⊎ BehindBody us
frames_part us ws (boned q) (boned r) e h = sides_part h (bones_part us ws q r e)
frames_part us ws (boned q) (functional x r) e h = absurd (omega (arith, ap sort e, bone_sort us q, function_sort ws x r))
frames_part us ws (boned q) (braced o p {xs = xs} {ys = ys} f k r) e h = absurd (omega (arith, ap sort e, bone_sort us q, braced_sort xs o p ys ws k))
frames_part us ws (functional x q) (boned r) e h = absurd (omega (arith, ap sort e, function_sort us x q, bone_sort ws r))
frames_part us ws (functional x q) (functional y r) e h = inr (functions_part us ws x q y r e h)
frames_part us ws (functional x q) (braced o p {xs = xs} {ys = ys} f k r) e h = absurd (omega (arith, ap sort e, function_sort us x q, braced_sort xs o p ys ws k))
frames_part us ws (braced o p {xs = xs} {ys = ys} f k q) (boned r) e h = absurd (omega (arith, ap sort e, braced_sort xs o p ys us k, bone_sort ws r))
frames_part us ws (braced o p {xs = xs} {ys = ys} f k q) (functional x r) e h = absurd (omega (arith, ap sort e, braced_sort xs o p ys us k, function_sort ws x r))
frames_part us ws (braced o p f k q) (braced o' p' f' k' r) e h = absurd (omega (arith, h, ap length (braced_same o p o' p' us ws f q f' r e)))

-- Behind the shorter of two items of one list stands `else`, or what stands behind the body of a function that follows the type
-- `readonly`.
pub items_part : {ordered : Bool} {a b : List Sym} {f t : Item} {d e : ℕ} (us ws : List Sym) → i.IsItem ordered a f d → i.IsItem ordered b t e → a ++ us ≡ b ++ ws → length ws < length us → Else us ⊎ BehindBody us
items_part us ws q r e h = frames_part us ws (frame q) (frame r) e h

-- ---- no item begins there

no_item_behind_body : {ordered : Bool} {x us : List Sym} {of : Item} {d : ℕ} (zs : List Sym) → BehindBody us → i.IsItem ordered x of d → us ≡ x ++ zs → ⊥
no_item_behind_body zs f (i.import_item (i.import_list s at semicolon q r b)) e = let j = sym f.3 ∙ e in cc
no_item_behind_body zs f (i.import_item (i.import_bare s at fs fa semicolon)) e = let j = sym f.3 ∙ e in cc
no_item_behind_body zs f (i.export_list_item (i.export_list s at semicolon q r)) e = let j = sym f.3 ∙ e in cc
no_item_behind_body zs f (i.export_list_item (i.export_from s at semicolon q r b)) e = let j = sym f.3 ∙ e in cc
no_item_behind_body zs f (i.declaration_item (worded s at) q) e = let j = sym f.3 ∙ e in cc
no_item_behind_body {ordered = ordered} zs f (i.declaration_item unworded (i.var_declaration q)) e = no_item_behind ordered {around = g.no_body} zs f (g.var_item q) e
no_item_behind_body {ordered = ordered} zs f (i.declaration_item unworded (i.function_declaration q)) e = no_item_behind ordered {around = g.no_body} zs f (g.function_item q) e
no_item_behind_body zs f (i.declaration_item unworded (i.class_declaration (i.class cs ca s at o p n q r))) e = let j = sym f.3 ∙ e in cc
no_item_behind_body zs f (i.declaration_item unworded (i.interface_declaration (i.interface is ia s at o p n q r h))) e = let j = sym f.3 ∙ e in cc
no_item_behind_body zs f (i.declaration_item unworded (i.alias_declaration (i.alias ts ta s at assign semicolon n q h))) e = let j = sym f.3 ∙ e in cc
no_item_behind_body {ordered = ordered} zs f (i.stmt_item q) e = no_item_behind ordered zs f (g.stmt_item q) e

-- behind an item that is a shorter front of a list than another item, no item begins
pub parting : {ordered : Bool} {a b x : List Sym} {f t h : Item} {d e n : ℕ} (us ws zs : List Sym) → i.IsItem ordered a f d → i.IsItem ordered b t e → a ++ us ≡ b ++ ws → length ws < length us
    → i.IsItem ordered x h n → us ≡ x ++ zs → ⊥
parting us ws zs q r e l p w = elim (items_part us ws q r e l) [ inl o ↦ item_no_else o.0 o.1 o.2 zs p (sym o.3 ∙ w) | inr o ↦ no_item_behind_body zs o p w ]

-- nothing follows, or an item does
abbrev pub Followed : Bool → List Sym → Type 0
Followed ordered us = (us ≡ []) ⊎ ((x : List Sym) × (of : Item) × (d : ℕ) × (zs : List Sym) × i.IsItem ordered x of d × (us ≡ x ++ zs))

-- an item that nothing or an item follows is a longest front
pub longest_item : {ordered : Bool} {a b : List Sym} {f t : Item} {d e : ℕ} (us ws : List Sym) → i.IsItem ordered a f d → i.IsItem ordered b t e → a ++ us ≡ b ++ ws → Followed ordered us → length us ≤ length ws
longest_item us ws q r e l = elim (cases_order (length us) (length ws)) [
  | inl o ↦ omega (arith, o)
  | inr k ↦ elim k [
    | inl o ↦ omega (arith, o)
    | inr o ↦ elim l [
      | inl n ↦ absurd (omega (arith, o, ap length n))
      | inr p ↦ absurd (parting us ws p.3 q r e o p.4 p.5)
    ]
  ]
]

-- the same by cases
pub same_length : {ordered : Bool} {a b : List Sym} {f t : Item} {d e : ℕ} (us ws : List Sym) → i.IsItem ordered a f d → i.IsItem ordered b t e → a ++ us ≡ b ++ ws → Followed ordered us
    → (length ws ≡ length us) ⊎ (length us < length ws)
same_length us ws q r e l = elim (cases_order (length us) (length ws)) [
  | inl o ↦ inl (sym o)
  | inr k ↦ elim k [
    | inl o ↦ inr o
    | inr o ↦ let n = longest_item us ws q r e l in absurd (omega (arith, o, n))
  ]
]
