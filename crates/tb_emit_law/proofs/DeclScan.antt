-- The layouts of types and of items of declaration files that were read scan as what was laid out.
use Rattle.std.proofs.Common.{◌≡◌, ℕ, zero, suc, ◌==◌, Bool, true, false, List, [], ◌∷◌, ◌++◌, map, flat_map, codes, Some, refl, sym, ap, subst, inl, inr, lit<}
use Rattle.std.specs.Prelude.{◌||◌, IsUtf8}
use Rattle.std.specs.List.{AllByRecursion}
use Rattle.std.proofs.lemmas.Bool.{eqb-true}
use Rattle.std.proofs.lemmas.List.{append-nil}
use Rattle.tb_scan.specs.declared.braces.Bracket.TheVariants.{Brace}
use Rattle.tb_scan.specs.declared.token.Kind.TheVariants as kind
use Rattle.tb_scan.specs.Characters.{begins_where}
use Rattle.tb_scan.specs.Pieces.{Run}
use Rattle.tb_scan.proofs.NumberLemmas.{or_either}
use Rattle.tb_tree.specs.declared.marks.Mark.TheVariants as m
use Rattle.tb_tree.specs.declared.words.Class.TheVariants as c
use Rattle.tb_tree.specs.declared.types.Key.{Key}
use Rattle.tb_tree.specs.declared.types.Key.TheVariants as k
use Rattle.tb_tree.specs.declared.types.TypeKeyword.{TypeKeyword}
use Rattle.tb_tree.specs.declared.types.TypeKeyword.TheVariants as b
use Rattle.tb_tree.specs.declared.types.TypeExpr.{TypeExpr}
use Rattle.tb_tree.specs.declared.types.TypeExpr.TheVariants as t
use Rattle.tb_tree.specs.declared.types.TypeParam.{TypeParam}
use Rattle.tb_tree.specs.declared.types.TypeMember.{TypeMember}
use Rattle.tb_tree.specs.declared.exprs.UnaryOperator.TheVariants as unary
use Rattle.tb_tree.specs.Sym.{Sym, Mark, Lex, at_of}
use Rattle.tb_tree.specs.Shapes.{start_of, key_of}
use Rattle.tb_tree.specs.Types as g
use Rattle.tb_tree.specs.Types.{arrays, parts_of, IsAtom, IsElement, IsTail, IsUnion, IsType, IsTypeParam, IsTypeParams, IsTypeMember, IsTypeMembers}
use Rattle.tb_layout.specs.Pieces.{Piece, mark, word, listed}
use Rattle.tb_layout.specs.Pieces as pieces
use Rattle.tb_layout.specs.Quoted.{quoted}
use Rattle.tb_layout.specs.Shown.{string_pieces, shown_key, keyword_text, optional_pieces, read_only_pieces, colon_pieces, is_loose_element, is_loose_part, parens_if, element_pieces, part_pieces, barred, inline_pieces, body_pieces, shown_type, shown_member, shown_type_param, type_pieces}
use Rattle.tb_layout.specs.Dts.{member_line, lines_pieces}
use Rattle.tb_layout.proofs.Showing as showing
use Rattle.tb_emit_law.proofs.Alone.{ends_before, mark_token, stops_byte}
use Rattle.tb_emit_law.proofs.Told as told
use Rattle.tb_emit_law.proofs.Source.{IsFormed}
use Rattle.tb_emit_law.proofs.Sound.{Sound, anything, off_words, off_numbers, is_apart, moves_any, sound_any, sound_both, sound_none, from_any, from_words, weaken, space_sound, line_sound, word_sound, letters_sound, number_sound, string_sound, alone_sound, before_sound, open_moves, close_moves}
use Rattle.tb_emit_law.proofs.Parts.{parens_sound, sound_by, number_solid, truth_fits, prefixed_fits}
use Rattle.tb_emit_law.proofs.SoundExprs.{Formed, front, back, sides}
use Rattle.tb_emit_law.proofs.DeclPlain.{is_union, is_union_at, parts_single, parts_union}
use Rattle.tb_emit_law.proofs.DeclStrings.{quoted_text}

-- ---- small parts

pub keyword_sound : (keyword : TypeKeyword) → Sound off_words (word (keyword_text keyword))
keyword_sound b.Any = letters_sound (codes "any") refl refl
keyword_sound b.Unknown = letters_sound (codes "unknown") refl refl
keyword_sound b.Never = letters_sound (codes "never") refl refl
keyword_sound b.Number = letters_sound (codes "number") refl refl
keyword_sound b.String = letters_sound (codes "string") refl refl
keyword_sound b.Boolean = letters_sound (codes "boolean") refl refl
keyword_sound b.Void = letters_sound (codes "void") refl refl
keyword_sound b.Null = letters_sound (codes "null") refl refl
keyword_sound b.Undefined = letters_sound (codes "undefined") refl refl

pub quoted_sound : (spelled : List ℕ) → IsUtf8 spelled → Sound anything (string_pieces spelled)
quoted_sound spelled u = let text = quoted_text spelled u in string_sound (quoted spelled) text.0 text.1

pub listed_sound : (ps : List (List Piece)) → AllByRecursion (Sound off_numbers) ps → Sound off_numbers (listed ps)
listed_sound [] h = sound_none
listed_sound (x ∷ []) h = h.0
listed_sound (x ∷ y ∷ rest) h = sound_any (sound_any (sound_both h.0 (alone_sound m.Comma refl) (λ ys l. refl)) space_sound) (listed_sound (y ∷ rest) h.1)

-- `:` or `(` follows
abbrev is_behind : ℕ → Bool
is_behind b = (b == 58) || (b == 40)

abbrev pub off_marks : List ℕ → Bool
off_marks = begins_where is_behind

behind_apart : (b : ℕ) → is_behind b ≡ true → is_apart b ≡ true
behind_apart b h = elim (or_either (b == 58) (b == 40) h) [
  | inl e ↦ subst (λ x. is_apart x ≡ true) (sym (eqb-true b 58 e)) refl
  | inr e ↦ subst (λ x. is_apart x ≡ true) (sym (eqb-true b 40 e)) refl
]

marks_words : (ys : List ℕ) → off_marks ys ≡ true → off_words ys ≡ true
marks_words [] h = h
marks_words (b ∷ ys) h = behind_apart b h

question_ends : (ys : List ℕ) → off_marks ys ≡ true → ends_before (codes "?") ys ≡ true
question_ends [] h = let no : false ≡ true = h in absurd cc
question_ends (b ∷ s) h = elim (or_either (b == 58) (b == 40) h) [
  | inl e ↦ subst (λ x. ends_before (codes "?") (x ∷ s) ≡ true) (sym (eqb-true b 58 e)) refl
  | inr e ↦ subst (λ x. ends_before (codes "?") (x ∷ s) ≡ true) (sym (eqb-true b 40 e)) refl
]

question_sound : Sound off_marks (mark m.Question)
question_sound opened = record {
  good = (tt, tt);
  told = λ ys words h t. told.next opened [] (codes "?") ys kind.Mark words (Run.none (63 ∷ ys)) (stops_byte 63 ys (lit< tt) refl refl) (mark_token opened (codes "?") ys refl (question_ends ys h)) t;
}

-- a name and perhaps `?`
pub optional_sound : (optional : Bool) {p : List Piece} → Sound off_words p → Sound off_marks (p ++ optional_pieces optional)
optional_sound true f = sound_both f question_sound (λ ys l. refl)
optional_sound false f = sound_by (append-nil _) (λ opened. weaken (f opened) marks_words)

pub read_only_sound : (read_only : Bool) → Sound anything (read_only_pieces read_only)
read_only_sound true = sound_both (letters_sound (codes "readonly") refl refl) space_sound (λ ys l. refl)
read_only_sound false = sound_none

pub colon_sound : {p : List Piece} → Sound off_numbers p → Sound off_numbers (colon_pieces p)
colon_sound f = sound_any (sound_any (alone_sound m.Colon refl) space_sound) f

pub typed_sound : (optional : Bool) {p q : List Piece} → Sound off_words p → Sound off_numbers q → Sound off_numbers (p ++ optional_pieces optional ++ colon_pieces q)
typed_sound optional f g = sound_both (optional_sound optional f) (colon_sound g) (λ ys l. refl)

loosened : (b : Bool) {p : List Piece} → Sound off_numbers p → Sound off_numbers (parens_if b p)
loosened true f = from_any (parens_sound f)
loosened false f = f

key_scans : (s : Sym) (key : Key) → key_of s ≡ Some key → IsFormed s → Sound off_words (shown_key key)
key_scans (Lex (c.Word kind) t at) key e f = let same : k.Word t ≡ key = cc in subst (λ x. Sound off_words (shown_key x)) same (word_sound t f.1 f.2)
key_scans (Lex c.String t at) key e f = let same : k.String t ≡ key = cc in subst (λ x. Sound off_words (shown_key x)) same (from_any (quoted_sound t f.1))
key_scans (Lex c.Number t at) key e f = absurd (cc e)
key_scans (Lex (c.Template of) t at) key e f = absurd (cc e)
key_scans (Lex c.Bad t at) key e f = absurd (cc e)
key_scans (Mark kind at) key e f = absurd (cc e)

-- members on one line, and on lines of their own
inline_sound : (all : List (List Piece)) → AllByRecursion (Sound off_numbers) all → Sound anything (flat_map inline_pieces all)
inline_sound [] h = sound_none
inline_sound (x ∷ all) h = sound_any (sound_both (sound_any space_sound h.0) (alone_sound m.Semicolon refl) (λ ys l. refl)) (inline_sound all h.1)

body_sound : (all : List (List Piece)) → AllByRecursion (Sound off_numbers) all → Sound anything (body_pieces all)
body_sound [] h opened = moves_any (open_moves opened) (close_moves opened)
body_sound (x ∷ all) h opened = moves_any (moves_any (moves_any (open_moves opened) (inline_sound (x ∷ all) h (Brace ∷ opened))) (space_sound (Brace ∷ opened))) (close_moves opened)

members_lines : (all : List (List Piece)) → AllByRecursion (Sound off_numbers) all → Sound anything (flat_map member_line all)
members_lines [] h = sound_none
members_lines (x ∷ all) h = sound_any (sound_both (sound_any (line_sound 1) h.0) (alone_sound m.Semicolon refl) (λ ys l. refl)) (members_lines all h.1)

pub lines_scan : (all : List (List Piece)) → AllByRecursion (Sound off_numbers) all → Sound anything (lines_pieces all)
lines_scan all h opened =
    moves_any (moves_any (moves_any (moves_any (space_sound opened) (open_moves opened)) (members_lines all h (Brace ∷ opened))) (line_sound 0 (Brace ∷ opened))) (close_moves opened)

-- ---- types

abbrev pub TypeScans : TypeExpr → Type 0
TypeScans of = Sound off_numbers (type_pieces of)

-- a type, or a union of such types
data Scans : TypeExpr → Type 0 where
  single : {of : TypeExpr} → is_union of ≡ false → TypeScans of → Scans of
  joined : (at : ℕ) (parts : List TypeExpr) → AllByRecursion TypeScans parts → Scans (t.Union at parts)

part_scans : (of : TypeExpr) → TypeScans of → Sound off_numbers (part_pieces (shown_type of))
part_scans of f = let shown = shown_type of in loosened (is_loose_part shown.form) f

element_scans : (of : TypeExpr) → TypeScans of → Sound off_numbers (element_pieces (shown_type of))
element_scans of f = let shown = shown_type of in loosened (is_loose_element shown.form) f

barred_scans : (all : List TypeExpr) → AllByRecursion TypeScans all → Sound off_numbers (barred (map shown_type all))
barred_scans [] h = sound_none
barred_scans (x ∷ []) h = part_scans x h.0
barred_scans (x ∷ y ∷ rest) h =
    sound_any (sound_both (sound_any (sound_both (part_scans x h.0) space_sound (λ ys l. refl)) (before_sound m.Bar refl)) space_sound (λ ys l. refl)) (barred_scans (y ∷ rest) h.1)

whole_scans : {of : TypeExpr} → Scans of → TypeScans of
whole_scans (single n f) = f
whole_scans (joined at parts h) = sound_by (showing.union_pieces_of at parts) (barred_scans parts h)

parts_scan : {of : TypeExpr} → Scans of → AllByRecursion TypeScans (parts_of of)
parts_scan {of = of} (single n f) = subst (AllByRecursion TypeScans) (sym (parts_single of n)) (f, tt)
parts_scan (joined at parts h) = subst (AllByRecursion TypeScans) (sym (parts_union at parts)) h

all_both : {X : Type 0} (P : X → Type 0) (xs ys : List X) → AllByRecursion P xs → AllByRecursion P ys → AllByRecursion P (xs ++ ys)
all_both P [] ys h l = l
all_both P (x ∷ xs) ys h l = (h.0, all_both P xs ys h.1 l)

array_scans : (at : ℕ) (read_only : Bool) (of : TypeExpr) → TypeScans of → Scans (t.Array at read_only of)
array_scans at read_only of f =
    single (ap is_union_at (t.outs-Array at read_only of))
    (sound_by (showing.array_pieces_of at read_only of)
    (from_any (sound_any (sound_both (sound_any (read_only_sound read_only) (element_scans of f)) (alone_sound m.OpenBracket refl) (λ ys l. refl)) (alone_sound m.CloseBracket refl))))

arrays_scan : (at n : ℕ) {of : TypeExpr} → Scans of → Scans (arrays at n of)
arrays_scan at zero f = f
arrays_scan at (suc n) {of = of} f = arrays_scan at n (array_scans at false of (whole_scans f))

mutual
  atom_scans : {xs : List Sym} {of : TypeExpr} {own depth : ℕ} → IsAtom xs of own depth → Formed xs → Scans of
  atom_scans (g.keyword_type {of = of} spelled at e) f = single (ap is_union_at (t.outs-Keyword at of)) (sound_by (showing.keyword_pieces_of at of) (from_words (keyword_sound of)))
  atom_scans (g.boolean_type {value = value} spelled at e) f = single (ap is_union_at (t.outs-Boolean at value)) (sound_by (showing.boolean_pieces_of at value) (from_words (truth_fits value).0))
  atom_scans (g.string_type spelled at) f = single (ap is_union_at (t.outs-String at spelled)) (sound_by (showing.string_pieces_of at spelled) (from_any (quoted_sound spelled f.0.1)))
  atom_scans (g.integer_type digits at h) f = single (ap is_union_at (t.outs-Integer at false digits)) (sound_by (showing.integer_pieces_of at false digits) (number_sound digits f.0.0 f.0.1))
  atom_scans (g.minus_type digits at digits_at h) f =
      single (ap is_union_at (t.outs-Integer at true digits))
      (sound_by (showing.integer_pieces_of at true digits) (prefixed_fits unary.Minus (pieces.Lex c.Number digits ∷ []) (number_sound digits f.1.0.0 f.1.0.1, number_solid digits f.1.0.0)).0)
  atom_scans (g.written_type spelled at h) f =
      single (ap is_union_at (t.outs-Written at spelled [])) (sound_by (showing.written_pieces_of at spelled []) (sound_by (append-nil (word spelled)) (from_words (word_sound spelled f.0.1 f.0.2))))
  atom_scans (g.parens_type o p {xs = xs} q) f = type_scans q (front xs (Mark m.CloseParen p ∷ []) f.1)
  atom_scans (g.object_type o p {xs = xs} {of = of} q) f =
      single (ap is_union_at (t.outs-Object o of)) (sound_by (showing.object_pieces_of o of) (from_any (body_sound (map shown_member of) (members_scan q (front xs (Mark m.CloseBrace p ∷ []) f.1)))))

  element_scan : {xs : List Sym} {of : TypeExpr} {own depth : ℕ} → IsElement xs of own depth → Formed xs → Scans of
  element_scan (g.plain_element {xs = xs} {ys = ys} {n = n} a q) f = arrays_scan (start_of xs) n (atom_scans a (front xs ys f))
  element_scan (g.read_only_element spelled at {xs = xs} {ys = ys} {of = of} {n = n} a q) f = array_scans at true (arrays (start_of xs) n of) (whole_scans (arrays_scan (start_of xs) n (atom_scans a (front xs ys f.1))))

  tail_scan : {xs : List Sym} {of : List TypeExpr} {own depth : ℕ} → IsTail xs of own depth → Formed xs → AllByRecursion TypeScans of
  tail_scan g.no_tail f = tt
  tail_scan (g.more_tail bar {xs = xs} {ys = ys} {of = of} {rest = rest} q r) f = all_both TypeScans (parts_of of) rest (parts_scan (element_scan q (front xs ys f.1))) (tail_scan r (back xs ys f.1))

  union_scan : {xs : List Sym} {of : TypeExpr} {own depth : ℕ} → IsUnion xs of own depth → Formed xs → Scans of
  union_scan (g.one_element q) f = element_scan q f
  union_scan (g.several_elements bar {xs = xs} {ys = ys} {zs = zs} {of = of} {next = next} {rest = rest} p q r) f =
      let head = sides xs (Mark m.Bar bar) ys (front (xs ++ Mark m.Bar bar ∷ ys) zs f) in
      joined (start_of xs) (parts_of of ++ parts_of next ++ rest)
      (all_both TypeScans (parts_of of ++ parts_of next) rest (all_both TypeScans (parts_of of) (parts_of next) (parts_scan (element_scan p head.0)) (parts_scan (element_scan q head.1)))
      (tail_scan r (back (xs ++ Mark m.Bar bar ∷ ys) zs f)))

  type_scans : {xs : List Sym} {of : TypeExpr} {own depth : ℕ} → IsType xs of own depth → Formed xs → Scans of
  type_scans (g.function_type o p a {xs = xs} {ys = ys} {params = params} {of = of} q r) f =
      let parts = sides xs (Mark m.CloseParen p) (Mark m.Arrow a ∷ ys) f.1 in
      single (ap is_union_at (t.outs-Function o params of))
      (sound_by (showing.function_pieces_of o params of)
      (sound_any (sound_both (sound_any (sound_any (parens_sound (listed_sound (map shown_type_param params) (params_scan q parts.0))) space_sound) (before_sound m.Arrow refl)) space_sound (λ ys l. refl)) (whole_scans (type_scans r parts.1.1))))
  type_scans (g.union_type {xs = xs} {ys = ys} b q) f = union_scan q (back xs ys f)

  param_scans : {xs : List Sym} {of : TypeParam} {own depth : ℕ} → IsTypeParam xs of own depth → Formed xs → Sound off_numbers (shown_type_param of)
  param_scans (g.type_param {optional = optional} spelled at colon {xs = xs} {ys = ys} {of = of} h q r) f =
      sound_by (showing.type_param_rolled (record { at = at; name = spelled; optional = optional; shape = of }))
      (typed_sound optional (word_sound spelled f.0.1 f.0.2) (whole_scans (type_scans r (back xs (Mark m.Colon colon ∷ ys) f.1).1)))

  pub params_scan : {xs : List Sym} {of : List TypeParam} {own depth : ℕ} → IsTypeParams xs of own depth → Formed xs → AllByRecursion (Sound off_numbers) (map shown_type_param of)
  params_scan g.no_type_params f = tt
  params_scan (g.last_type_param q) f = (param_scans q f, tt)
  params_scan (g.more_type_params comma {xs = xs} {ys = ys} q r) f = let parts = sides xs (Mark m.Comma comma) ys f in (param_scans q parts.0, params_scan r parts.1)

  member_scans : {xs : List Sym} {of : TypeMember} {own depth : ℕ} → IsTypeMember xs of own depth → Formed xs → Sound off_numbers (shown_member of)
  member_scans (g.property_member s {key = key} {read_only = read_only} {optional = optional} colon {xs = xs} {ys = ys} {zs = zs} {of = of} p e q r) f =
      let parts = sides (xs ++ s ∷ ys) (Mark m.Colon colon) zs f in
      let named = (back xs (s ∷ ys) parts.0).0 in
      sound_by (showing.property_member (at_of s) read_only key optional of) (typed_sound optional (sound_any (read_only_sound read_only) (key_scans s key e named)) (whole_scans (type_scans r parts.1)))
  member_scans (g.method_member s {key = key} {optional = optional} o p colon {xs = xs} {ys = ys} {zs = zs} {params = params} {of = of} e q r h) f =
      let parts = sides (s ∷ xs ++ Mark m.OpenParen o ∷ ys) (Mark m.CloseParen p) (Mark m.Colon colon ∷ zs) f in
      let inner = back (s ∷ xs) (Mark m.OpenParen o ∷ ys) parts.0 in
      sound_by (showing.method_member (at_of s) key optional params of)
      (sound_any (sound_both (optional_sound optional (key_scans s key e parts.0.0)) (parens_sound (listed_sound (map shown_type_param params) (params_scan r inner.1))) (λ ys l. refl))
      (colon_sound (whole_scans (type_scans h parts.1.1))))

  pub members_scan : {xs : List Sym} {of : List TypeMember} {own depth : ℕ} → IsTypeMembers xs of own depth → Formed xs → AllByRecursion (Sound off_numbers) (map shown_member of)
  members_scan g.no_type_members f = tt
  members_scan (g.last_type_member q) f = (member_scans q f, tt)
  members_scan (g.more_type_members mark at {xs = xs} {ys = ys} q e r) f = let parts = sides xs (Mark mark at) ys f in (member_scans q parts.0, members_scan r parts.1)

pub type_scan : {xs : List Sym} {of : TypeExpr} {own depth : ℕ} → IsType xs of own depth → Formed xs → TypeScans of
type_scan q f = whole_scans (type_scans q f)
