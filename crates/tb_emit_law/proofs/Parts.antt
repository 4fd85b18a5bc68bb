-- The parts of layouts, one after the other, and with what they begin.
use Rattle.std.proofs.Common.{◌≡◌, ℕ, suc, ◌<◌, ◌==◌, Bool, true, false, if◌then◌else◌, List, [], ◌∷◌, ◌++◌, sym, ap, subst, ◌∙◌, refl, inl, inr, arith, lit<, append_assoc}
use Rattle.std.specs.Prelude.{◌&&◌, ◌||◌, not, codes, encode_utf8, IsUtf8, Some, None}
use Rattle.std.specs.List.{AllByRecursion, list_all}
use Rattle.std.proofs.lemmas.Bool.{cases_Bool, eqb-true}
use Rattle.std.proofs.lemmas.List.{append-nil}
use Rattle.tb_scan.specs.declared.braces.Bracket.{Bracket}
use Rattle.tb_scan.specs.declared.braces.Bracket.TheVariants.{Brace, Hole}
use Rattle.tb_scan.specs.Characters.{is_quote, is_word_start, begins_where}
use Rattle.tb_scan.specs.Pieces.{Stops, IsSpacing}
use Rattle.tb_scan.specs.Numbers.{IsNumber}
use Rattle.tb_scan.proofs.Exact.{ascii_first}
use Rattle.tb_scan.proofs.NumberLemmas.{or_either}
use Rattle.tb_scan.proofs.Reading.{quote_low}
use Rattle.tb_tree.specs.declared.marks.Mark.{Mark as MarkKind}
use Rattle.tb_tree.specs.declared.marks.Mark.TheVariants as m
use Rattle.tb_tree.specs.declared.words.Class.TheVariants as c
use Rattle.tb_tree.specs.declared.words.Template.TheVariants as part
use Rattle.tb_tree.specs.declared.exprs.UnaryOperator.{UnaryOperator}
use Rattle.tb_tree.specs.declared.exprs.UnaryOperator.TheVariants as unary
use Rattle.tb_tree.specs.declared.exprs.VarKind.{VarKind}
use Rattle.tb_tree.specs.declared.exprs.VarKind.TheVariants as v
use Rattle.tb_layout.specs.Pieces.{Piece, Mark, Lex, Blank, text_of, mark, word, space, new_line, listed}
use Rattle.tb_layout.specs.Js.{Laid, LaidStmt, in_parens, joined, object_pieces, lines, block_pieces, body_pieces, part_pieces, value_pieces, kind_pieces, truth_pieces, laid_all, laid_list, spans_pieces, template_pieces, prefixed, spaced_if, begins_with_plus, begins_with_minus}
use Rattle.tb_emit_law.proofs.Firsts.{First, number_first, clash, apart, below, is_start, is_decimal, start_ascii}
use Rattle.tb_emit_law.proofs.Alone.{IsWordText, IsStringText, IsPartText, tick, hole, stops_before_word, stops_before_number, stops_before_string, stops_before_part, stops_byte}
use Rattle.tb_emit_law.proofs.Sound.{Moves, Sound, anything, off_words, off_numbers, off_equals, off_sign, is_letters, is_low, is_brace, moves_both, moves_any, sound_any, sound_both, sound_none, from_any, from_words, letters, space_sound, line_sound, word_sound, letters_sound, head_moves, middle_moves, tail_moves, before_sound, alone_sound, open_moves, close_moves, not_sound, plus_sound, minus_sound}

-- ---- lists, brackets and lines

listed_sound : (ps : List (List Piece)) → AllByRecursion (Sound off_numbers) ps → Sound off_numbers (listed ps)
listed_sound [] h = sound_none
listed_sound (x ∷ []) h = h.0
listed_sound (x ∷ y ∷ rest) h =
    sound_any (sound_any (sound_both h.0 (alone_sound m.Comma refl) (λ ys l. refl)) space_sound) (listed_sound (y ∷ rest) h.1)

-- what stands on any line
abbrev pub AllLaid : (List ℕ → Bool) → List Laid → Type 0
AllLaid C all = AllByRecursion (λ (x : Laid). (n : ℕ) → Sound C (x n)) all

pub laid_all_sound : (n : ℕ) (all : List Laid) → AllLaid off_numbers all → AllByRecursion (Sound off_numbers) (laid_all n all)
laid_all_sound n [] h = tt
laid_all_sound n (x ∷ all) h = (h.0 n, laid_all_sound n all h.1)

pub laid_list_sound : (n : ℕ) (all : List Laid) → AllLaid off_numbers all → Sound off_numbers (laid_list n all)
laid_list_sound n all h = listed_sound (laid_all n all) (laid_all_sound n all h)

pub parens_sound : {p : List Piece} → Sound off_numbers p → Sound anything (in_parens p)
parens_sound f = sound_both (sound_any (alone_sound m.OpenParen refl) f) (alone_sound m.CloseParen refl) (λ ys l. refl)

pub brackets_sound : {p : List Piece} → Sound off_numbers p → Sound anything (mark m.OpenBracket ++ p ++ mark m.CloseBracket)
brackets_sound f = sound_both (sound_any (alone_sound m.OpenBracket refl) f) (alone_sound m.CloseBracket refl) (λ ys l. refl)

joined_sound : {left right : List Piece} (kind : MarkKind) → is_brace kind ≡ false → Sound off_numbers left → Sound off_numbers right → Sound off_numbers (joined left kind right)
joined_sound kind h f g = sound_any (sound_both (sound_any (sound_both f space_sound (λ ys l. refl)) (before_sound kind h)) space_sound (λ ys l. refl)) g

pub object_sound : (ps : List (List Piece)) → AllByRecursion (Sound off_numbers) ps → Sound anything (object_pieces ps)
object_sound [] h opened = moves_any (open_moves opened) (close_moves opened)
object_sound (x ∷ rest) h opened =
    moves_any (moves_both (moves_any (moves_any (open_moves opened) (space_sound (Brace ∷ opened))) (listed_sound (x ∷ rest) h (Brace ∷ opened))) (space_sound (Brace ∷ opened)) (λ ys l. refl)) (close_moves opened)

pub lines_sound : (n : ℕ) (all : List Laid) → AllLaid anything all → Sound anything (lines n all)
lines_sound n [] h = sound_none
lines_sound n (x ∷ all) h = sound_any (sound_any (line_sound (suc n)) (h.0 (suc n))) (lines_sound n all h.1)

-- lines in braces, and the closing brace on a line of its own
braced_lines : (n : ℕ) (all : List Laid) → AllLaid anything all → Sound anything (mark m.OpenBrace ++ lines n all ++ new_line n ++ mark m.CloseBrace)
braced_lines n all h opened = moves_any (moves_any (moves_any (open_moves opened) (lines_sound n all h (Brace ∷ opened))) (line_sound n (Brace ∷ opened))) (close_moves opened)

block_sound : (n : ℕ) (all : List Laid) → AllLaid anything all → Sound anything (block_pieces n all)
block_sound n [] h opened = moves_any (moves_any (open_moves opened) (space_sound (Brace ∷ opened))) (close_moves opened)
block_sound n (x ∷ all) h opened = braced_lines n (x ∷ all) h opened

-- a statement behind a head, or behind `else` and `do`
body_by : (b : Bool) (laid : Laid) (n : ℕ) → ((n : ℕ) → Sound anything (laid n)) → Sound anything (if b then space ++ laid n else new_line (suc n) ++ laid (suc n))
body_by true laid n h = sound_any space_sound (h n)
body_by false laid n h = sound_any (line_sound (suc n)) (h (suc n))

pub body_sound : (n : ℕ) (of : LaidStmt) → ((n : ℕ) → Sound anything (of.laid n)) → Sound anything (body_pieces n of)
body_sound n of h = body_by of.is_block of.laid n h

body_first : (b : Bool) (laid : Laid) (n : ℕ) (ys : List ℕ) → off_words (text_of (if b then space ++ laid n else new_line (suc n) ++ laid (suc n)) ++ ys) ≡ true
body_first true laid n ys = refl
body_first false laid n ys = refl

-- a word and then a body
pub word_body_sound : {p : List Piece} (n : ℕ) (of : LaidStmt) → Sound off_words p → ((n : ℕ) → Sound anything (of.laid n)) → Sound anything (p ++ body_pieces n of)
word_body_sound n of f h = sound_both f (body_sound n of h) (λ ys l. body_first of.is_block of.laid n ys)

pub part_sound : (n : ℕ) {laid : Laid} → ((n : ℕ) → Sound off_numbers (laid n)) → Sound off_numbers (part_pieces n (Some laid))
part_sound n h = sound_any space_sound (h n)

value_sound : (n : ℕ) {laid : Laid} → ((n : ℕ) → Sound off_numbers (laid n)) → Sound off_numbers (value_pieces n (Some laid))
value_sound n h = sound_any (sound_both (sound_any space_sound (before_sound m.Assign refl)) space_sound (λ ys l. refl)) (h n)

-- ---- with what pieces begin

abbrev is_sign : ℕ → Bool
is_sign b = (b == 61) || ((b == 45) || (b == 43))

-- neither with a blank nor with a comment, nor with `=`, `+` or `-`
abbrev pub IsSolid : List ℕ → Type 0
IsSolid t = (r : List ℕ) → Stops IsSpacing (t ++ r) × (begins_where is_sign (t ++ r) ≡ false)

abbrev pub is_opening : MarkKind → Bool
is_opening m.OpenParen = true
is_opening m.OpenBracket = true
is_opening m.OpenBrace = true
is_opening m.Not = true
is_opening m.Plus = true
is_opening m.Minus = true
is_opening m.PlusPlus = true
is_opening m.MinusMinus = true
is_opening m.Semicolon = true
is_opening _ = false

abbrev pub Opens : List Piece → Type 0
Opens [] = ⊥
Opens (Mark kind ∷ rest) = is_opening kind ≡ true
Opens (Lex class t ∷ rest) = IsSolid t
Opens (Blank b ∷ rest) = ⊥

pub opens_more : (p q : List Piece) → Opens p → Opens (p ++ q)
opens_more [] q h = absurd h
opens_more (Mark kind ∷ rest) q h = h
opens_more (Lex class t ∷ rest) q h = h
opens_more (Blank b ∷ rest) q h = absurd h

sign_low : (b : ℕ) → is_sign b ≡ true → b < 128
sign_low b h = elim (or_either (b == 61) ((b == 45) || (b == 43)) h) [
  | inl e ↦ omega (arith, eqb-true b 61 e)
  | inr f ↦ elim (or_either (b == 45) (b == 43) f) [
    | inl e ↦ omega (arith, eqb-true b 45 e)
    | inr e ↦ omega (arith, eqb-true b 43 e)
  ]
]

word_sign : (xs : List ℕ) (d : ℕ) (r : List ℕ) → xs ≡ encode_utf8 d ++ r → is_word_start d ≡ true → begins_where is_sign xs ≡ false
unfolding below
word_sign [] d r e h = refl
word_sign (b ∷ xs) d r e h = elim (cases_Bool (is_sign b)) [
  | inl s ↦
      let low = sign_low b s in
      let same : d ≡ b = (ascii_first d b r xs (sym e) low).0 in
      absurd (clash is_sign is_start b refl low s (sym (start_ascii b low) ∙ ap is_word_start (sym same) ∙ h))
  | inr f ↦ f
]

first_sign : (test : ℕ → Bool) (xs : List ℕ) → apart is_sign test ≡ true → First test xs → begins_where is_sign xs ≡ false
first_sign test xs h at = elim (cases_Bool (is_sign at.byte)) [
  | inl s ↦ absurd (clash is_sign test at.byte h at.low s at.passes)
  | inr f ↦ ap (begins_where is_sign) at.whole ∙ f
]

pub word_solid : (t : List ℕ) → IsWordText t → IsSolid t
word_solid t text = λ r. (stops_before_word t r text, word_sign (t ++ r) text.first (text.more ++ r) (ap (λ x. x ++ r) text.whole ∙ append_assoc (encode_utf8 text.first) text.more r) text.start)

pub number_solid : (t : List ℕ) → IsNumber t → IsSolid t
unfolding below
number_solid t number = λ r. (stops_before_number t r number, first_sign is_decimal (t ++ r) refl (number_first r number))

pub string_solid : (t : List ℕ) → IsStringText t → IsSolid t
unfolding below
string_solid t text = λ r. (
  stops_before_string t r text,
  first_sign is_quote (t ++ r) refl (record { byte = text.quote; rest = (text.body ++ text.quote ∷ []) ++ r; whole = ap (λ x. x ++ r) text.whole; low = quote_low text.quote text.quoted; passes = text.quoted }),
)

pub ticked_solid : (last t : List ℕ) → IsPartText 96 last t → IsSolid t
ticked_solid last t text = λ r. (stops_before_part 96 last t r (lit< tt) refl refl text, ap (λ x. begins_where is_sign (x ++ r)) text.whole)

off_by : (xs : List ℕ) → begins_where is_sign xs ≡ false → off_equals xs ≡ true
off_by [] h = refl
off_by (b ∷ xs) h = first (b == 61) ((b == 45) || (b == 43)) h
  where
    first : (x y : Bool) → (x || y) ≡ false → not x ≡ true
    first true y h = sym h
    first false y h = refl

minus_by : (xs : List ℕ) → begins_where is_sign xs ≡ false → off_sign 45 xs ≡ true
minus_by [] h = refl
minus_by (b ∷ xs) h = both (b == 61) (b == 45) (b == 43) h
  where
    both : (x y z : Bool) → (x || (y || z)) ≡ false → (not y && not x) ≡ true
    both true y z h = let no : true ≡ false = h in cc
    both false true z h = let no : true ≡ false = h in cc
    both false false z h = refl

plus_by : (xs : List ℕ) → begins_where is_sign xs ≡ false → off_sign 43 xs ≡ true
plus_by [] h = refl
plus_by (b ∷ xs) h = both (b == 61) (b == 45) (b == 43) h
  where
    both : (x y z : Bool) → (x || (y || z)) ≡ false → (not z && not x) ≡ true
    both true y z h = let no : true ≡ false = h in cc
    both false true z h = let no : true ≡ false = h in cc
    both false false true h = let no : true ≡ false = h in cc
    both false false false h = refl

-- what begins with a token begins with no sign
lex_sign : (t : List ℕ) (rest : List ℕ) (ys : List ℕ) → IsSolid t → begins_where is_sign ((t ++ rest) ++ ys) ≡ false
lex_sign t rest ys h = ap (begins_where is_sign) (append_assoc t rest ys) ∙ (h (rest ++ ys)).1

mark_equals : (kind : MarkKind) (rest : List Piece) (ys : List ℕ) → is_opening kind ≡ true → off_equals (text_of (Mark kind ∷ rest) ++ ys) ≡ true
mark_equals m.OpenParen rest ys h = refl
mark_equals m.OpenBracket rest ys h = refl
mark_equals m.OpenBrace rest ys h = refl
mark_equals m.Not rest ys h = refl
mark_equals m.Plus rest ys h = refl
mark_equals m.Minus rest ys h = refl
mark_equals m.PlusPlus rest ys h = refl
mark_equals m.MinusMinus rest ys h = refl
mark_equals m.Semicolon rest ys h = refl
mark_equals _ rest ys h = let no : false ≡ true = h in absurd cc

mark_minus : (kind : MarkKind) (rest : List Piece) (ys : List ℕ) → is_opening kind ≡ true → begins_with_minus (Mark kind ∷ rest) ≡ false → off_sign 45 (text_of (Mark kind ∷ rest) ++ ys) ≡ true
mark_minus m.OpenParen rest ys h e = refl
mark_minus m.OpenBracket rest ys h e = refl
mark_minus m.OpenBrace rest ys h e = refl
mark_minus m.Not rest ys h e = refl
mark_minus m.Plus rest ys h e = refl
mark_minus m.PlusPlus rest ys h e = refl
mark_minus m.Semicolon rest ys h e = refl
mark_minus m.Minus rest ys h e = let no : true ≡ false = e in absurd cc
mark_minus m.MinusMinus rest ys h e = let no : true ≡ false = e in absurd cc
mark_minus _ rest ys h e = let no : false ≡ true = h in absurd cc

mark_plus : (kind : MarkKind) (rest : List Piece) (ys : List ℕ) → is_opening kind ≡ true → begins_with_plus (Mark kind ∷ rest) ≡ false → off_sign 43 (text_of (Mark kind ∷ rest) ++ ys) ≡ true
mark_plus m.OpenParen rest ys h e = refl
mark_plus m.OpenBracket rest ys h e = refl
mark_plus m.OpenBrace rest ys h e = refl
mark_plus m.Not rest ys h e = refl
mark_plus m.Minus rest ys h e = refl
mark_plus m.MinusMinus rest ys h e = refl
mark_plus m.Semicolon rest ys h e = refl
mark_plus m.Plus rest ys h e = let no : true ≡ false = e in absurd cc
mark_plus m.PlusPlus rest ys h e = let no : true ≡ false = e in absurd cc
mark_plus _ rest ys h e = let no : false ≡ true = h in absurd cc

mark_stops : (kind : MarkKind) (rest : List Piece) (ys : List ℕ) → is_opening kind ≡ true → Stops IsSpacing (text_of (Mark kind ∷ rest) ++ ys)
mark_stops m.OpenParen rest ys h = stops_byte 40 _ (lit< tt) refl refl
mark_stops m.OpenBracket rest ys h = stops_byte 91 _ (lit< tt) refl refl
mark_stops m.OpenBrace rest ys h = stops_byte 123 _ (lit< tt) refl refl
mark_stops m.Not rest ys h = stops_byte 33 _ (lit< tt) refl refl
mark_stops m.Plus rest ys h = stops_byte 43 _ (lit< tt) refl refl
mark_stops m.Minus rest ys h = stops_byte 45 _ (lit< tt) refl refl
mark_stops m.PlusPlus rest ys h = stops_byte 43 _ (lit< tt) refl refl
mark_stops m.MinusMinus rest ys h = stops_byte 45 _ (lit< tt) refl refl
mark_stops m.Semicolon rest ys h = stops_byte 59 _ (lit< tt) refl refl
mark_stops _ rest ys h = let no : false ≡ true = h in absurd cc

opens_equals : (p : List Piece) (ys : List ℕ) → Opens p → off_equals (text_of p ++ ys) ≡ true
opens_equals [] ys h = absurd h
opens_equals (Mark kind ∷ rest) ys h = mark_equals kind rest ys h
opens_equals (Lex class t ∷ rest) ys h = off_by ((t ++ text_of rest) ++ ys) (lex_sign t (text_of rest) ys h)
opens_equals (Blank b ∷ rest) ys h = absurd h

opens_minus : (p : List Piece) (ys : List ℕ) → Opens p → begins_with_minus p ≡ false → off_sign 45 (text_of p ++ ys) ≡ true
opens_minus [] ys h e = absurd h
opens_minus (Mark kind ∷ rest) ys h e = mark_minus kind rest ys h e
opens_minus (Lex class t ∷ rest) ys h e = minus_by ((t ++ text_of rest) ++ ys) (lex_sign t (text_of rest) ys h)
opens_minus (Blank b ∷ rest) ys h e = absurd h

opens_plus : (p : List Piece) (ys : List ℕ) → Opens p → begins_with_plus p ≡ false → off_sign 43 (text_of p ++ ys) ≡ true
opens_plus [] ys h e = absurd h
opens_plus (Mark kind ∷ rest) ys h e = mark_plus kind rest ys h e
opens_plus (Lex class t ∷ rest) ys h e = plus_by ((t ++ text_of rest) ++ ys) (lex_sign t (text_of rest) ys h)
opens_plus (Blank b ∷ rest) ys h e = absurd h

-- neither a blank nor a comment begins such pieces
pub opens_stops : (p : List Piece) (ys : List ℕ) → Opens p → Stops IsSpacing (text_of p ++ ys)
opens_stops [] ys h = absurd h
opens_stops (Mark kind ∷ rest) ys h = mark_stops kind rest ys h
opens_stops (Lex class t ∷ rest) ys h = subst (λ x. Stops IsSpacing x) (sym (append_assoc t (text_of rest) ys)) (h (text_of rest ++ ys)).0
opens_stops (Blank b ∷ rest) ys h = absurd h

-- ---- both

abbrev pub Fits : (List ℕ → Bool) → List Piece → Type 0
Fits C p = Sound C p × Opens p

pub fits_by : {C : List ℕ → Bool} {p q : List Piece} → p ≡ q → Fits C q → Fits C p
fits_by {C = C} e f = subst (λ x. Fits C x) (sym e) f

pub sound_by : {C : List ℕ → Bool} {p q : List Piece} → p ≡ q → Sound C q → Sound C p
sound_by {C = C} e f = subst (λ x. Sound C x) (sym e) f

pub fits_both : {C D : List ℕ → Bool} {p q : List Piece} → Fits C p → Sound D q → ((ys : List ℕ) → D ys ≡ true → C (text_of q ++ ys) ≡ true) → Fits D (p ++ q)
fits_both {p = p} {q = q} f g h = (sound_both f.0 g h, opens_more p q f.1)

pub fits_any : {D : List ℕ → Bool} {p q : List Piece} → Fits anything p → Sound D q → Fits D (p ++ q)
fits_any {p = p} {q = q} f g = (sound_any f.0 g, opens_more p q f.1)

pub fits_from : {C : List ℕ → Bool} {p : List Piece} → Fits anything p → Fits C p
fits_from f = (from_any f.0, f.1)

pub fits_words : {p : List Piece} → Fits off_words p → Fits off_numbers p
fits_words f = (from_words f.0, f.1)

pub word_fits : (t : List ℕ) → IsWordText t → IsUtf8 t → Fits off_words (word t)
word_fits t text utf8 = (word_sound t text utf8, word_solid t text)

-- a word that layouts have
pub letters_fits : (t : List ℕ) → is_letters t ≡ true → list_all is_low t ≡ true → Fits off_words (word t)
letters_fits t h l = (letters_sound t h l, word_solid t (letters t h))

pub truth_fits : (b : Bool) → Fits off_words (truth_pieces b)
truth_fits true = letters_fits (codes "true") refl refl
truth_fits false = letters_fits (codes "false") refl refl

pub kind_fits : (of : VarKind) → Fits off_words (kind_pieces of)
kind_fits v.Const = letters_fits (codes "const") refl refl
kind_fits v.Let = letters_fits (codes "let") refl refl

-- a mark before an operand
minus_sound_by : (operand : List Piece) → Fits off_numbers operand → (b : Bool) → begins_with_minus operand ≡ b → Sound off_numbers (mark m.Minus ++ spaced_if b ++ operand)
minus_sound_by operand f true e = sound_both minus_sound (sound_any space_sound f.0) (λ ys l. refl)
minus_sound_by operand f false e = sound_both minus_sound f.0 (λ ys l. opens_minus operand ys f.1 e)

plus_sound_by : (operand : List Piece) → Fits off_numbers operand → (b : Bool) → begins_with_plus operand ≡ b → Sound off_numbers (mark m.Plus ++ spaced_if b ++ operand)
plus_sound_by operand f true e = sound_both plus_sound (sound_any space_sound f.0) (λ ys l. refl)
plus_sound_by operand f false e = sound_both plus_sound f.0 (λ ys l. opens_plus operand ys f.1 e)

pub prefixed_fits : (operator : UnaryOperator) (operand : List Piece) → Fits off_numbers operand → Fits off_numbers (prefixed operator operand)
prefixed_fits unary.Not operand f = (sound_both not_sound f.0 (λ ys l. opens_equals operand ys f.1), refl)
prefixed_fits unary.Minus operand f = (minus_sound_by operand f (begins_with_minus operand) refl, refl)
prefixed_fits unary.Plus operand f = (plus_sound_by operand f (begins_with_plus operand) refl, refl)
prefixed_fits unary.Typeof operand f = fits_both (letters_fits (codes "typeof") refl refl) (sound_any space_sound f.0) (λ ys l. refl)

pub joined_fits : {left right : List Piece} (kind : MarkKind) → is_brace kind ≡ false → Fits off_numbers left → Sound off_numbers right → Fits off_numbers (joined left kind right)
joined_fits {left = left} {right = right} kind h f g =
    (joined_sound kind h f.0 g, opens_more (left ++ space ++ mark kind ++ space) right (opens_more (left ++ space ++ mark kind) space (opens_more (left ++ space) (mark kind) (opens_more left space f.1))))

pub parens_fits : {p : List Piece} → Sound off_numbers p → Fits anything (in_parens p)
parens_fits f = (parens_sound f, refl)

pub object_fits : (ps : List (List Piece)) → AllByRecursion (Sound off_numbers) ps → Fits anything (object_pieces ps)
object_fits [] h = (object_sound [] h, refl)
object_fits (x ∷ rest) h = (object_sound (x ∷ rest) h, refl)

pub block_fits : (n : ℕ) (all : List Laid) → AllLaid anything all → Fits anything (block_pieces n all)
block_fits n [] h = (block_sound n [] h, refl)
block_fits n (x ∷ all) h = (block_sound n (x ∷ all) h, refl)

-- a name and perhaps a value
pub named_none : {p : List Piece} (n : ℕ) → Sound off_words p → Sound off_numbers (p ++ value_pieces n None)
named_none n f = sound_by (append-nil _) (from_words f)

pub named_some : {p : List Piece} (n : ℕ) {laid : Laid} → Sound off_words p → ((n : ℕ) → Sound off_numbers (laid n)) → Sound off_numbers (p ++ value_pieces n (Some laid))
named_some n f h = sound_both f (value_sound n h) (λ ys l. refl)

-- ---- templates

-- pieces and texts, of which the last is a tail
pub data Spanned : List (List Piece × List ℕ) → Type 0 where
  last_part : (p : List Piece) (t : List ℕ) → Sound off_numbers p → IsPartText 125 tick t → IsUtf8 t → Spanned ((p, t) ∷ [])
  more_parts : (p : List Piece) (t : List ℕ) {rest : List (List Piece × List ℕ)} → Sound off_numbers p → IsPartText 125 hole t → IsUtf8 t → Spanned rest → Spanned ((p, t) ∷ rest)

part_first : (last t r ys : List ℕ) → IsPartText 125 last t → off_numbers ((t ++ r) ++ ys) ≡ true
part_first last t r ys text = ap (λ x. off_numbers ((x ++ r) ++ ys)) text.whole

last_moves : (opened : List Bracket) (p : List Piece) (t : List ℕ) → Sound off_numbers p → IsPartText 125 tick t → IsUtf8 t → Moves (Hole ∷ opened) opened anything (p ++ Lex (c.Template part.Tail) t ∷ [])
last_moves opened p t f text utf8 = moves_both (f (Hole ∷ opened)) (tail_moves opened t text utf8) (λ ys l. part_first tick t [] ys text)

more_moves : (opened : List Bracket) (p q : List Piece) (t : List ℕ) → Sound off_numbers p → IsPartText 125 hole t → IsUtf8 t → Moves (Hole ∷ opened) opened anything q
    → Moves (Hole ∷ opened) opened anything (p ++ Lex (c.Template part.Middle) t ∷ q)
more_moves opened p q t f text utf8 g = moves_both (f (Hole ∷ opened)) (moves_any (middle_moves opened t text utf8) g) (λ ys l. part_first hole t (text_of q) ys text)

spans_moves : (opened : List Bracket) {all : List (List Piece × List ℕ)} → Spanned all → Moves (Hole ∷ opened) opened anything (spans_pieces all)
spans_moves opened (last_part p t f text utf8) = last_moves opened p t f text utf8
spans_moves opened (more_parts p t f text utf8 (last_part q s g own coded)) = more_moves opened p _ t f text utf8 (spans_moves opened (last_part q s g own coded))
spans_moves opened (more_parts p t f text utf8 (more_parts q s g own coded r)) = more_moves opened p _ t f text utf8 (spans_moves opened (more_parts q s g own coded r))

template_sound : (head : List ℕ) → IsPartText 96 hole head → IsUtf8 head → {all : List (List Piece × List ℕ)} → Spanned all → Sound anything (template_pieces head all)
template_sound head text utf8 (last_part p t f own coded) opened = moves_any (head_moves opened head text utf8) (spans_moves opened (last_part p t f own coded))
template_sound head text utf8 (more_parts p t f own coded r) opened = moves_any (head_moves opened head text utf8) (spans_moves opened (more_parts p t f own coded r))

template_opens : (head : List ℕ) → IsPartText 96 hole head → {all : List (List Piece × List ℕ)} → Spanned all → Opens (template_pieces head all)
template_opens head text (last_part p t f own coded) = ticked_solid hole head text
template_opens head text (more_parts p t f own coded r) = ticked_solid hole head text

pub template_fits : (head : List ℕ) → IsPartText 96 hole head → IsUtf8 head → {all : List (List Piece × List ℕ)} → Spanned all → Fits anything (template_pieces head all)
template_fits head text utf8 s = (template_sound head text utf8 s, template_opens head text s)
