-- Pieces that scan as the tokens that were laid out.
use Rattle.std.proofs.Common.{◌≡◌, ℕ, zero, suc, ◌<◌, ◌==◌, Bool, true, false, if◌then◌else◌, List, [], ◌∷◌, ◌++◌, length, drop, map, flat_map, sym, ap, subst, ◌∙◌, refl, arith, lit<, append_assoc}
use Rattle.std.specs.Prelude.{◌&&◌, ◌||◌, not, nat_lt, codes, encode_utf8, IsUtf8, Some}
use Rattle.std.specs.List.{AllByRecursion, list_all}
use Rattle.std.specs.Str.{bytes_eq}
use Rattle.std.proofs.lemmas.Bool.{eqb-true}
use Rattle.std.proofs.lemmas.Grind.{flat_map-append}
use Rattle.std.proofs.lemmas.List.{append-nil}
use Rattle.std.proofs.lemmas.Str.{encode_ascii, IsUtf8-append, IsUtf8-nil, IsUtf8-from_ascii}
use Rattle.std.specs.Str.{IsAscii}
use Rattle.std.proofs.lemmas.Str.Ascii.{IsAscii-nil, IsAscii-cons}
use Rattle.tb_scan.specs.declared.inside.Inside.TheVariants.{Word}
use Rattle.tb_scan.specs.declared.braces.Bracket.{Bracket}
use Rattle.tb_scan.specs.declared.braces.Bracket.TheVariants.{Brace, Hole}
use Rattle.tb_scan.specs.declared.token.Kind.{Kind}
use Rattle.tb_scan.specs.declared.token.Kind.TheVariants as k
use Rattle.tb_scan.specs.Characters.{is_blank, is_word_part, begins, begins_where}
use Rattle.tb_scan.specs.Pieces.{Run, Stops, IsPiece, IsSpacing}
use Rattle.tb_scan.specs.Numbers.{IsNumber}
use Rattle.tb_scan.specs.Marks.{is_mark}
use Rattle.tb_scan.specs.Tokens.{IsToken, after, in_hole, is_plain_mark}
use Rattle.tb_scan.proofs.TestLemmas.{and_left, and_right, and_both}
use Rattle.tb_scan.proofs.Templates.{mark_shapes}
use Rattle.tb_tree.specs.declared.marks.Mark.{Mark as MarkKind}
use Rattle.tb_tree.specs.declared.marks.Mark.TheVariants as m
use Rattle.tb_tree.specs.declared.words.Class.{Class}
use Rattle.tb_tree.specs.declared.words.Class.TheVariants as c
use Rattle.tb_tree.specs.declared.words.Template.TheVariants as part
use Rattle.tb_tree.specs.Sym as sym
use Rattle.tb_tree.specs.Sym.{Sym}
use Rattle.tb_tree.specs.Words.{word_of, mark_of, bracket, joining, operator}
use Rattle.tb_tree.proofs.Ends.{ap_both}
use Rattle.tb_parse_type.specs.Symbols.{placed, symbol_of, mark_or_bad}
use Rattle.tb_layout.specs.Pieces.{Piece, Mark, Lex, Blank, mark_text, piece_text, text_of, mark, word, space, deep, new_line}
use Rattle.tb_emit_law.proofs.Symbols.{symbols_in}
use Rattle.tb_emit_law.proofs.Firsts.{not_true, low_by, is_start, is_part, start_ascii, part_ascii}
use Rattle.tb_emit_law.proofs.Alone.{IsWordText, IsStringText, IsPartText, tick, hole, in_number, ends_before, word_token, number_token, string_token, whole_token, head_token, middle_token, tail_token, mark_token, stops_before_word, stops_before_number, stops_before_string, stops_before_part, stops_byte, stops_slash}
use Rattle.tb_emit_law.proofs.Told.{Told, end, next}

-- ---- the tokens of pieces

abbrev pub kind_of : Class → Kind
kind_of (c.Word w) = k.Word
kind_of c.Number = k.Number
kind_of c.String = k.Str
kind_of (c.Template part.Whole) = k.Whole
kind_of (c.Template part.Head) = k.Head
kind_of (c.Template part.Middle) = k.Middle
kind_of (c.Template part.Tail) = k.Tail
kind_of c.Bad = k.Bad

abbrev pub word_in : Piece → List (Kind × List ℕ)
word_in (Mark kind) = (k.Mark, mark_text kind) ∷ []
word_in (Lex class spelled) = (kind_of class, spelled) ∷ []
word_in (Blank blanks) = []

abbrev pub words_in : List Piece → List (Kind × List ℕ)
words_in pieces = flat_map word_in pieces

-- the symbol of a token, as it would stand at the beginning
abbrev pub bare_of : Kind × List ℕ → Sym
bare_of t = placed (symbol_of t.0 t.1) t.1 0

abbrev pub IsText : Kind × List ℕ → Type 0
IsText t = IsUtf8 t.1

-- a piece in UTF-8, whose class is that of its spelling
abbrev pub IsGood : Piece → Type 0
IsGood (Mark kind) = Unit {0}
IsGood (Lex (c.Word w) spelled) = (w ≡ word_of spelled) × IsUtf8 spelled
IsGood (Lex c.Number spelled) = IsUtf8 spelled
IsGood (Lex c.String spelled) = IsUtf8 spelled
IsGood (Lex (c.Template of) spelled) = IsUtf8 spelled
IsGood (Lex c.Bad spelled) = IsUtf8 spelled
IsGood (Blank blanks) = IsUtf8 blanks

mark_back : (kind : MarkKind) → mark_of (mark_text kind) ≡ Some kind
unfolding bracket joining operator
mark_back m.OpenBrace = refl
mark_back m.CloseBrace = refl
mark_back m.OpenParen = refl
mark_back m.CloseParen = refl
mark_back m.OpenBracket = refl
mark_back m.CloseBracket = refl
mark_back m.Dot = refl
mark_back m.Semicolon = refl
mark_back m.Comma = refl
mark_back m.Colon = refl
mark_back m.Question = refl
mark_back m.Arrow = refl
mark_back m.Bar = refl
mark_back m.Less = refl
mark_back m.Greater = refl
mark_back m.LessEqual = refl
mark_back m.GreaterEqual = refl
mark_back m.Same = refl
mark_back m.NotSame = refl
mark_back m.Plus = refl
mark_back m.Minus = refl
mark_back m.Star = refl
mark_back m.Slash = refl
mark_back m.Percent = refl
mark_back m.PlusPlus = refl
mark_back m.MinusMinus = refl
mark_back m.Not = refl
mark_back m.And = refl
mark_back m.Or = refl
mark_back m.Nullish = refl
mark_back m.Assign = refl
mark_back m.PlusAssign = refl
mark_back m.MinusAssign = refl
mark_back m.StarAssign = refl
mark_back m.SlashAssign = refl
mark_back m.PercentAssign = refl

is_mark_text : (kind : MarkKind) → is_mark (mark_text kind) ≡ true
is_mark_text m.OpenBrace = refl
is_mark_text m.CloseBrace = refl
is_mark_text m.OpenParen = refl
is_mark_text m.CloseParen = refl
is_mark_text m.OpenBracket = refl
is_mark_text m.CloseBracket = refl
is_mark_text m.Dot = refl
is_mark_text m.Semicolon = refl
is_mark_text m.Comma = refl
is_mark_text m.Colon = refl
is_mark_text m.Question = refl
is_mark_text m.Arrow = refl
is_mark_text m.Bar = refl
is_mark_text m.Less = refl
is_mark_text m.Greater = refl
is_mark_text m.LessEqual = refl
is_mark_text m.GreaterEqual = refl
is_mark_text m.Same = refl
is_mark_text m.NotSame = refl
is_mark_text m.Plus = refl
is_mark_text m.Minus = refl
is_mark_text m.Star = refl
is_mark_text m.Slash = refl
is_mark_text m.Percent = refl
is_mark_text m.PlusPlus = refl
is_mark_text m.MinusMinus = refl
is_mark_text m.Not = refl
is_mark_text m.And = refl
is_mark_text m.Or = refl
is_mark_text m.Nullish = refl
is_mark_text m.Assign = refl
is_mark_text m.PlusAssign = refl
is_mark_text m.MinusAssign = refl
is_mark_text m.StarAssign = refl
is_mark_text m.SlashAssign = refl
is_mark_text m.PercentAssign = refl

-- ---- what good pieces have

abbrev pub is_low : ℕ → Bool
is_low b = nat_lt b 128

ascii : (t : List ℕ) → list_all is_low t ≡ true → IsAscii t
ascii [] h = IsAscii-nil
ascii (b ∷ t) h = IsAscii-cons b t (low_by b (and_left (is_low b) (list_all is_low t) h)) (ascii t (and_right (is_low b) (list_all is_low t) h))

utf8_low : (t : List ℕ) → list_all is_low t ≡ true → IsUtf8 t
utf8_low t h = IsUtf8-from_ascii t (ascii t h)

mark_utf8 : (kind : MarkKind) → IsUtf8 (mark_text kind)
mark_utf8 kind = utf8_low (mark_text kind) (and_right (nat_lt 0 (length (mark_text kind))) (list_all is_low (mark_text kind)) (mark_shapes (mark_text kind) (is_mark_text kind)))

lex_utf8 : (class : Class) (t : List ℕ) → IsGood (Lex class t) → IsUtf8 t
lex_utf8 (c.Word w) t h = h.1
lex_utf8 c.Number t h = h
lex_utf8 c.String t h = h
lex_utf8 (c.Template of) t h = h
lex_utf8 c.Bad t h = h

piece_utf8 : (p : Piece) → IsGood p → IsUtf8 (piece_text p)
piece_utf8 (Mark kind) h = mark_utf8 kind
piece_utf8 (Lex class t) h = lex_utf8 class t h
piece_utf8 (Blank t) h = h

pub text_utf8 : (ps : List Piece) → AllByRecursion IsGood ps → IsUtf8 (text_of ps)
text_utf8 [] h = IsUtf8-nil
text_utf8 (p ∷ ps) h = IsUtf8-append (piece_text p) (text_of ps) (piece_utf8 p h.0) (text_utf8 ps h.1)

pub words_utf8 : (ps : List Piece) → AllByRecursion IsGood ps → AllByRecursion IsText (words_in ps)
words_utf8 [] h = tt
words_utf8 (Mark kind ∷ ps) h = (mark_utf8 kind, words_utf8 ps h.1)
words_utf8 (Lex class t ∷ ps) h = (lex_utf8 class t h.0, words_utf8 ps h.1)
words_utf8 (Blank t ∷ ps) h = words_utf8 ps h.1

lex_named : (class : Class) (t : List ℕ) → IsGood (Lex class t) → bare_of (kind_of class, t) ≡ sym.Lex class t 0
lex_named (c.Word w) t h = ap (λ x. sym.Lex (c.Word x) t 0) (sym h.0)
lex_named c.Number t h = refl
lex_named c.String t h = refl
lex_named (c.Template part.Whole) t h = refl
lex_named (c.Template part.Head) t h = refl
lex_named (c.Template part.Middle) t h = refl
lex_named (c.Template part.Tail) t h = refl
lex_named c.Bad t h = refl

consed : {x y : Sym} {xs ys : List Sym} → x ≡ y → xs ≡ ys → x ∷ xs ≡ y ∷ ys
consed p q = ap_both (λ (x : Sym) (xs : List Sym). x ∷ xs) p q

-- the tokens are the symbols that were laid out
pub words_named : (ps : List Piece) → AllByRecursion IsGood ps → map bare_of (words_in ps) ≡ symbols_in ps
words_named [] h = refl
words_named (Mark kind ∷ ps) h = consed (ap (λ o. placed (mark_or_bad o) (mark_text kind) 0) (mark_back kind)) (words_named ps h.1)
words_named (Lex class t ∷ ps) h = consed (lex_named class t h.0) (words_named ps h.1)
words_named (Blank t ∷ ps) h = words_named ps h.1

good_both : (ps qs : List Piece) → AllByRecursion IsGood ps → AllByRecursion IsGood qs → AllByRecursion IsGood (ps ++ qs)
good_both [] qs h l = l
good_both (p ∷ ps) qs h l = (h.0, good_both ps qs h.1 l)

-- ---- pieces before what may follow them

-- Where these brackets are open, the pieces scan as their tokens before any text that passes the test, and leave those brackets open.
pub record Moves (before behind : List Bracket) (C : List ℕ → Bool) (pieces : List Piece) : Type 0 where
  pub good : AllByRecursion IsGood pieces
  pub told : (ys : List ℕ) (words : List (Kind × List ℕ)) → C ys ≡ true → Told behind ys words → Told before (text_of pieces ++ ys) (words_in pieces ++ words)

-- the same brackets are open before and behind, whichever they are
abbrev pub Sound : (List ℕ → Bool) → List Piece → Type 0
Sound C pieces = (opened : List Bracket) → Moves opened opened C pieces

-- what follows: anything; a byte that goes on no word; one that goes on no word and no number
abbrev pub anything : List ℕ → Bool
anything ys = true

abbrev pub is_apart : ℕ → Bool
is_apart b = nat_lt b 128 && not (is_part b)

abbrev pub off_words : List ℕ → Bool
off_words = begins_where is_apart

abbrev pub is_free : ℕ → Bool
is_free b = nat_lt b 128 && not (in_number b)

abbrev pub off_numbers : List ℕ → Bool
off_numbers = begins_where is_free

free_apart : (ys : List ℕ) → off_numbers ys ≡ true → off_words ys ≡ true
free_apart [] h = h
free_apart (b ∷ ys) h =
    and_both (nat_lt b 128) (not (is_part b)) (and_left (nat_lt b 128) (not (in_number b)) h) (neither (is_part b) ((b == 46) || ((b == 43) || (b == 45))) (and_right (nat_lt b 128) (not (in_number b)) h))
  where
    neither : (a c : Bool) → not (a || c) ≡ true → not a ≡ true
    neither true c h = h
    neither false c h = refl

pub weaken : {before behind : List Bracket} {C D : List ℕ → Bool} {p : List Piece} → Moves before behind C p → ((ys : List ℕ) → D ys ≡ true → C ys ≡ true) → Moves before behind D p
weaken f h = record { good = f.good; told = λ ys words l t. f.told ys words (h ys l) t }

pub moves_both : {a b d : List Bracket} {C D : List ℕ → Bool} {p q : List Piece} → Moves a b C p → Moves b d D q → ((ys : List ℕ) → D ys ≡ true → C (text_of q ++ ys) ≡ true) → Moves a d D (p ++ q)
moves_both {a = a} {p = p} {q = q} f g h = record {
  good = good_both p q f.good g.good;
  told = λ ys words l t.
      subst (λ x. Told a x (words_in (p ++ q) ++ words)) (sym (ap (λ x. x ++ ys) (flat_map-append piece_text p q) ∙ append_assoc (text_of p) (text_of q) ys))
      (subst (λ x. Told a (text_of p ++ (text_of q ++ ys)) x) (sym (ap (λ x. x ++ words) (flat_map-append word_in p q) ∙ append_assoc (words_in p) (words_in q) words))
      (f.told (text_of q ++ ys) (words_in q ++ words) (h ys l) (g.told ys words l t)));
}

-- one behind the other: where the first may stand before anything, and where it may not
pub moves_any : {a b d : List Bracket} {D : List ℕ → Bool} {p q : List Piece} → Moves a b anything p → Moves b d D q → Moves a d D (p ++ q)
moves_any f g = moves_both f g (λ ys h. refl)

pub sound_any : {D : List ℕ → Bool} {p q : List Piece} → Sound anything p → Sound D q → Sound D (p ++ q)
sound_any f g opened = moves_any (f opened) (g opened)

pub sound_both : {C D : List ℕ → Bool} {p q : List Piece} → Sound C p → Sound D q → ((ys : List ℕ) → D ys ≡ true → C (text_of q ++ ys) ≡ true) → Sound D (p ++ q)
sound_both f g h opened = moves_both (f opened) (g opened) h

pub sound_none : {C : List ℕ → Bool} → Sound C []
sound_none opened = record { good = tt; told = λ ys words h t. t }

-- before less
pub from_any : {C : List ℕ → Bool} {p : List Piece} → Sound anything p → Sound C p
from_any f opened = weaken (f opened) (λ ys h. refl)

pub from_words : {p : List Piece} → Sound off_words p → Sound off_numbers p
from_words f opened = weaken (f opened) free_apart

-- ---- blanks

abbrev is_plain_blank : ℕ → Bool
is_plain_blank b = nat_lt b 128 && is_blank b

blanks_run : (t ys : List ℕ) → list_all is_plain_blank t ≡ true → Run IsSpacing t ys
blanks_run [] ys h = Run.none ys
blanks_run (b ∷ t) ys h =
    let here = and_left (is_plain_blank b) (list_all is_plain_blank t) h in
    subst (λ x. Run IsSpacing (x ++ t) ys) (encode_ascii b (low_by b (and_left (nat_lt b 128) (is_blank b) here)))
    (Run.more (encode_utf8 b) t ys (IsSpacing.blank b (t ++ ys) (and_right (nat_lt b 128) (is_blank b) here)) (blanks_run t ys (and_right (is_plain_blank b) (list_all is_plain_blank t) h)))

run_both : (P : List ℕ → List ℕ → Type 0) (t s ys : List ℕ) {xs : List ℕ} → xs ≡ s ++ ys → Run P t xs → Run P s ys → Run P (t ++ s) ys
run_both P _ s ys e (Run.none _) r = r
run_both P _ s ys e (Run.more p t xs h q) r =
    subst (λ x. Run P x ys) (sym (append_assoc p t s))
    (Run.more p (t ++ s) ys (subst (λ x. P p x) (ap (λ x. t ++ x) e ∙ sym (append_assoc t s ys)) h) (run_both P t s ys e q r))

blank_told : (b : List ℕ) {opened : List Bracket} {ys : List ℕ} {words : List (Kind × List ℕ)} → ((zs : List ℕ) → Run IsSpacing b zs) → Told opened ys words → Told opened (b ++ ys) words
blank_told b run (end opened xs r) = end opened (b ++ xs) (run_both IsSpacing b xs [] (sym (append-nil xs)) (run xs) r)
blank_told b run (next opened spacing t ys kind rest r stops reads told) =
    subst (λ x. Told opened x ((kind, t) ∷ rest)) (append_assoc b spacing (t ++ ys))
    (next opened (b ++ spacing) t ys kind rest (run_both IsSpacing b spacing (t ++ ys) refl (run (spacing ++ (t ++ ys))) r) stops reads told)

low_blanks : (t : List ℕ) → list_all is_plain_blank t ≡ true → list_all is_low t ≡ true
low_blanks [] h = refl
low_blanks (b ∷ t) h =
    and_both (is_low b) (list_all is_low t) (and_left (is_low b) (is_blank b) (and_left (is_plain_blank b) (list_all is_plain_blank t) h))
    (low_blanks t (and_right (is_plain_blank b) (list_all is_plain_blank t) h))

blank_sound : (b : List ℕ) → list_all is_plain_blank b ≡ true → Sound anything (Blank b ∷ [])
blank_sound b h opened = record {
  good = (utf8_low b (low_blanks b h), tt);
  told = λ ys words l t. subst (λ x. Told opened x words) (sym (ap (λ x. x ++ ys) (append-nil b))) (blank_told b (λ zs. blanks_run b zs h) t);
}

pub space_sound : Sound anything space
space_sound = blank_sound (codes " ") refl

deep_blanks : (n : ℕ) → list_all is_plain_blank (deep n) ≡ true
deep_blanks zero = refl
deep_blanks (suc n) = deep_blanks n

pub line_sound : (n : ℕ) → Sound anything (new_line n)
line_sound n = blank_sound (10 ∷ deep n) (deep_blanks n)

-- ---- words, numbers, strings and templates

-- one token and nothing else
token_moves : (before behind : List Bracket) (C : List ℕ → Bool) (class : Class) (t : List ℕ) → IsGood (Lex class t) → after (kind_of class) t before ≡ behind
    → ((ys : List ℕ) → Stops IsSpacing (t ++ ys)) → ((ys : List ℕ) → C ys ≡ true → IsToken before (kind_of class) t ys) → Moves before behind C (Lex class t ∷ [])
token_moves before behind C class t good left stops reads = record {
  good = (good, tt);
  told = λ ys words l told.
      subst (λ x. Told before x ((kind_of class, t) ∷ words)) (sym (ap (λ x. x ++ ys) (append-nil t)))
      (next before [] t ys (kind_of class) words (Run.none (t ++ ys)) (stops ys) (reads ys l) (subst (λ x. Told x ys words) (sym left) told));
}

reads_word : (opened : List Bracket) (t ys : List ℕ) → IsWordText t → off_words ys ≡ true → IsToken opened k.Word t ys
reads_word opened t [] word h = let no : false ≡ true = h in absurd cc
reads_word opened t (e ∷ s) word h =
    word_token opened t e s word (low_by e (and_left (nat_lt e 128) (not (is_part e)) h)) (not_true (is_part e) (and_right (nat_lt e 128) (not (is_part e)) h))

reads_number : (opened : List Bracket) (t ys : List ℕ) → IsNumber t → off_numbers ys ≡ true → IsToken opened k.Number t ys
reads_number opened t [] number h = let no : false ≡ true = h in absurd cc
reads_number opened t (e ∷ s) number h =
    number_token opened t e s number (low_by e (and_left (nat_lt e 128) (not (in_number e)) h)) (not_true (in_number e) (and_right (nat_lt e 128) (not (in_number e)) h))

pub word_sound : (t : List ℕ) → IsWordText t → IsUtf8 t → Sound off_words (word t)
word_sound t text utf8 opened = token_moves opened opened off_words (c.Word (word_of t)) t (refl, utf8) refl (λ ys. stops_before_word t ys text) (λ ys h. reads_word opened t ys text h)

pub number_sound : (t : List ℕ) → IsNumber t → IsUtf8 t → Sound off_numbers (Lex c.Number t ∷ [])
number_sound t number utf8 opened = token_moves opened opened off_numbers c.Number t utf8 refl (λ ys. stops_before_number t ys number) (λ ys h. reads_number opened t ys number h)

pub string_sound : (t : List ℕ) → IsStringText t → IsUtf8 t → Sound anything (Lex c.String t ∷ [])
string_sound t text utf8 opened = token_moves opened opened anything c.String t utf8 refl (λ ys. stops_before_string t ys text) (λ ys h. string_token opened t ys text)

pub whole_sound : (t : List ℕ) → IsPartText 96 tick t → IsUtf8 t → Sound anything (Lex (c.Template part.Whole) t ∷ [])
whole_sound t text utf8 opened =
    token_moves opened opened anything (c.Template part.Whole) t utf8 refl (λ ys. stops_before_part 96 tick t ys (lit< tt) refl refl text) (λ ys h. whole_token opened t ys text)

pub head_moves : (opened : List Bracket) (t : List ℕ) → IsPartText 96 hole t → IsUtf8 t → Moves opened (Hole ∷ opened) anything (Lex (c.Template part.Head) t ∷ [])
head_moves opened t text utf8 =
    token_moves opened (Hole ∷ opened) anything (c.Template part.Head) t utf8 refl (λ ys. stops_before_part 96 hole t ys (lit< tt) refl refl text) (λ ys h. head_token opened t ys text)

pub middle_moves : (opened : List Bracket) (t : List ℕ) → IsPartText 125 hole t → IsUtf8 t → Moves (Hole ∷ opened) (Hole ∷ opened) anything (Lex (c.Template part.Middle) t ∷ [])
middle_moves opened t text utf8 =
    token_moves (Hole ∷ opened) (Hole ∷ opened) anything (c.Template part.Middle) t utf8 refl (λ ys. stops_before_part 125 hole t ys (lit< tt) refl refl text)
    (λ ys h. middle_token (Hole ∷ opened) t ys refl text)

pub tail_moves : (opened : List Bracket) (t : List ℕ) → IsPartText 125 tick t → IsUtf8 t → Moves (Hole ∷ opened) opened anything (Lex (c.Template part.Tail) t ∷ [])
tail_moves opened t text utf8 =
    token_moves (Hole ∷ opened) opened anything (c.Template part.Tail) t utf8 refl (λ ys. stops_before_part 125 tick t ys (lit< tt) refl refl text)
    (λ ys h. tail_token (Hole ∷ opened) t ys refl text)

-- a word of letters
abbrev pub is_low_part : ℕ → Bool
is_low_part b = nat_lt b 128 && is_part b

part_run : (t ys : List ℕ) → list_all is_low_part t ≡ true → Run (IsPiece Word) t ys
part_run [] ys h = Run.none ys
part_run (b ∷ t) ys h =
    let here = and_left (is_low_part b) (list_all is_low_part t) h in
    let small : b < 128 = low_by b (and_left (nat_lt b 128) (is_part b) here) in
    let stands : is_word_part b ≡ true = part_ascii b small ∙ and_right (nat_lt b 128) (is_part b) here in
    subst (λ x. Run (IsPiece Word) (x ++ t) ys) (encode_ascii b small)
    (Run.more (encode_utf8 b) t ys (IsPiece.character b (t ++ ys) stands) (part_run t ys (and_right (is_low_part b) (list_all is_low_part t) h)))

abbrev pub is_letters : List ℕ → Bool
is_letters [] = false
is_letters (b ∷ t) = nat_lt b 128 && (is_start b && (not (is_blank b) && list_all is_low_part t))

pub letters : (t : List ℕ) → is_letters t ≡ true → IsWordText t
letters [] h = let no : false ≡ true = h in absurd cc
letters (b ∷ t) h =
    let parts = list_all is_low_part t in
    let small : b < 128 = low_by b (and_left (nat_lt b 128) (is_start b && (not (is_blank b) && parts)) h) in
    let more = and_right (nat_lt b 128) (is_start b && (not (is_blank b) && parts)) h in
    let rest = and_right (is_start b) (not (is_blank b) && parts) more in
    record {
      first = b;
      more = t;
      whole = ap (λ x. x ++ t) (sym (encode_ascii b small));
      start = start_ascii b small ∙ and_left (is_start b) (not (is_blank b) && parts) more;
      solid = not_true (is_blank b) (and_left (not (is_blank b)) parts rest);
      run = λ ys. part_run t ys (and_right (not (is_blank b)) parts rest);
    }

-- a word that layouts have
pub letters_sound : (t : List ℕ) → is_letters t ≡ true → list_all is_low t ≡ true → Sound off_words (word t)
letters_sound t h l = word_sound t (letters t h) (utf8_low t l)

-- ---- marks

-- no brace and no `/`
abbrev is_plain : MarkKind → Bool
is_plain m.OpenBrace = false
is_plain m.CloseBrace = false
is_plain m.Slash = false
is_plain m.SlashAssign = false
is_plain _ = true

abbrev is_solid : ℕ → Bool
is_solid b = nat_lt b 128 && (not (is_blank b) && not (b == 47))

abbrev is_plain_text : List ℕ → Bool
is_plain_text t = is_mark t && (not (bytes_eq t (codes "{")) && (not (bytes_eq t (codes "}")) && (not (bytes_eq t (codes "/")) && begins_where is_solid t)))

plain_text : (kind : MarkKind) → is_plain kind ≡ true → is_plain_text (mark_text kind) ≡ true
plain_text m.OpenBrace h = let no : false ≡ true = h in absurd cc
plain_text m.CloseBrace h = let no : false ≡ true = h in absurd cc
plain_text m.OpenParen h = refl
plain_text m.CloseParen h = refl
plain_text m.OpenBracket h = refl
plain_text m.CloseBracket h = refl
plain_text m.Dot h = refl
plain_text m.Semicolon h = refl
plain_text m.Comma h = refl
plain_text m.Colon h = refl
plain_text m.Question h = refl
plain_text m.Arrow h = refl
plain_text m.Bar h = refl
plain_text m.Less h = refl
plain_text m.Greater h = refl
plain_text m.LessEqual h = refl
plain_text m.GreaterEqual h = refl
plain_text m.Same h = refl
plain_text m.NotSame h = refl
plain_text m.Plus h = refl
plain_text m.Minus h = refl
plain_text m.Star h = refl
plain_text m.Slash h = let no : false ≡ true = h in absurd cc
plain_text m.Percent h = refl
plain_text m.PlusPlus h = refl
plain_text m.MinusMinus h = refl
plain_text m.Not h = refl
plain_text m.And h = refl
plain_text m.Or h = refl
plain_text m.Nullish h = refl
plain_text m.Assign h = refl
plain_text m.PlusAssign h = refl
plain_text m.MinusAssign h = refl
plain_text m.StarAssign h = refl
plain_text m.SlashAssign h = let no : false ≡ true = h in absurd cc
plain_text m.PercentAssign h = refl

stops_solid : (t ys : List ℕ) → begins_where is_solid t ≡ true → Stops IsSpacing (t ++ ys)
stops_solid [] ys h = let no : false ≡ true = h in absurd cc
stops_solid (b ∷ t) ys h =
    let rest = and_right (nat_lt b 128) (not (is_blank b) && not (b == 47)) h in
    stops_byte b (t ++ ys) (low_by b (and_left (nat_lt b 128) (not (is_blank b) && not (b == 47)) h)) (not_true (is_blank b) (and_left (not (is_blank b)) (not (b == 47)) rest))
    (not_true (b == 47) (and_right (not (is_blank b)) (not (b == 47)) rest))

plain_left : (t : List ℕ) (opened : List Bracket) → bytes_eq t (codes "{") ≡ false → bytes_eq t (codes "}") ≡ false → after k.Mark t opened ≡ opened
plain_left t opened e f =
    ap (λ (b : Bool). if b then Brace ∷ opened else (if bytes_eq t (codes "}") then drop 1 opened else opened)) e ∙ ap (λ (b : Bool). if b then drop 1 opened else opened) f

plain_told : (t : List ℕ) (opened : List Bracket) (ys : List ℕ) (words : List (Kind × List ℕ)) → is_plain_text t ≡ true → ends_before t ys ≡ true → Told opened ys words
    → Told opened (t ++ ys) ((k.Mark, t) ∷ words)
plain_told t opened ys words h alone told =
    let solid = begins_where is_solid t in
    let no_slash = not (bytes_eq t (codes "/")) in
    let no_close = not (bytes_eq t (codes "}")) in
    let no_open = not (bytes_eq t (codes "{")) in
    let past_mark = and_right (is_mark t) (no_open && (no_close && (no_slash && solid))) h in
    let past_open = and_right no_open (no_close && (no_slash && solid)) past_mark in
    let past_close = and_right no_close (no_slash && solid) past_open in
    let open_is = not_true (bytes_eq t (codes "{")) (and_left no_open (no_close && (no_slash && solid)) past_mark) in
    let close_is = not_true (bytes_eq t (codes "}")) (and_left no_close (no_slash && solid) past_open) in
    let slash_is = not_true (bytes_eq t (codes "/")) (and_left no_slash solid past_close) in
    let plain : is_plain_mark opened t ys ≡ true =
    and_both (is_mark t) (not (bytes_eq t (codes "}") && in_hole opened) && not (bytes_eq t (codes "/") && begins 42 ys)) (and_left (is_mark t) (no_open && (no_close && (no_slash && solid))) h)
    (and_both (not (bytes_eq t (codes "}") && in_hole opened)) (not (bytes_eq t (codes "/") && begins 42 ys)) (ap (λ b. not (b && in_hole opened)) close_is) (ap (λ b. not (b && begins 42 ys)) slash_is)) in
    next opened [] t ys k.Mark words (Run.none (t ++ ys)) (stops_solid t ys (and_right no_slash solid past_close)) (mark_token opened t ys plain alone)
    (subst (λ x. Told x ys words) (sym (plain_left t opened open_is close_is)) told)

-- a mark before what begins no longer one with it
mark_sound : (C : List ℕ → Bool) (kind : MarkKind) → is_plain kind ≡ true → ((ys : List ℕ) → C ys ≡ true → ends_before (mark_text kind) ys ≡ true) → Sound C (mark kind)
mark_sound C kind h alone opened = record {
  good = (tt, tt);
  told = λ ys words l t.
      subst (λ x. Told opened x ((k.Mark, mark_text kind) ∷ words)) (sym (ap (λ x. x ++ ys) (append-nil (mark_text kind))))
      (plain_told (mark_text kind) opened ys words (plain_text kind h) (alone ys l) t);
}

-- marks that no longer mark begins with
abbrev pub is_alone : MarkKind → Bool
is_alone m.OpenParen = true
is_alone m.CloseParen = true
is_alone m.OpenBracket = true
is_alone m.CloseBracket = true
is_alone m.Dot = true
is_alone m.Semicolon = true
is_alone m.Comma = true
is_alone m.Colon = true
is_alone m.PlusPlus = true
is_alone m.MinusMinus = true
is_alone _ = false

alone_plain : (kind : MarkKind) → is_alone kind ≡ true → is_plain kind ≡ true
alone_plain m.OpenParen h = refl
alone_plain m.CloseParen h = refl
alone_plain m.OpenBracket h = refl
alone_plain m.CloseBracket h = refl
alone_plain m.Dot h = refl
alone_plain m.Semicolon h = refl
alone_plain m.Comma h = refl
alone_plain m.Colon h = refl
alone_plain m.PlusPlus h = refl
alone_plain m.MinusMinus h = refl
alone_plain _ h = let no : false ≡ true = h in absurd cc

alone_ends : (kind : MarkKind) (ys : List ℕ) → is_alone kind ≡ true → ends_before (mark_text kind) ys ≡ true
alone_ends m.OpenParen [] h = refl
alone_ends m.OpenParen (e ∷ s) h = refl
alone_ends m.CloseParen [] h = refl
alone_ends m.CloseParen (e ∷ s) h = refl
alone_ends m.OpenBracket [] h = refl
alone_ends m.OpenBracket (e ∷ s) h = refl
alone_ends m.CloseBracket [] h = refl
alone_ends m.CloseBracket (e ∷ s) h = refl
alone_ends m.Dot [] h = refl
alone_ends m.Dot (e ∷ s) h = refl
alone_ends m.Semicolon [] h = refl
alone_ends m.Semicolon (e ∷ s) h = refl
alone_ends m.Comma [] h = refl
alone_ends m.Comma (e ∷ s) h = refl
alone_ends m.Colon [] h = refl
alone_ends m.Colon (e ∷ s) h = refl
alone_ends m.PlusPlus [] h = refl
alone_ends m.PlusPlus (e ∷ s) h = refl
alone_ends m.MinusMinus [] h = refl
alone_ends m.MinusMinus (e ∷ s) h = refl
alone_ends _ ys h = let no : false ≡ true = h in absurd cc

pub alone_sound : (kind : MarkKind) → is_alone kind ≡ true → Sound anything (mark kind)
alone_sound kind h = mark_sound anything kind (alone_plain kind h) (λ ys l. alone_ends kind ys h)

-- a mark before a space
spaced_ends : (kind : MarkKind) (s : List ℕ) → ends_before (mark_text kind) (32 ∷ s) ≡ true
spaced_ends m.OpenBrace s = refl
spaced_ends m.CloseBrace s = refl
spaced_ends m.OpenParen s = refl
spaced_ends m.CloseParen s = refl
spaced_ends m.OpenBracket s = refl
spaced_ends m.CloseBracket s = refl
spaced_ends m.Dot s = refl
spaced_ends m.Semicolon s = refl
spaced_ends m.Comma s = refl
spaced_ends m.Colon s = refl
spaced_ends m.Question s = refl
spaced_ends m.Arrow s = refl
spaced_ends m.Bar s = refl
spaced_ends m.Less s = refl
spaced_ends m.Greater s = refl
spaced_ends m.LessEqual s = refl
spaced_ends m.GreaterEqual s = refl
spaced_ends m.Same s = refl
spaced_ends m.NotSame s = refl
spaced_ends m.Plus s = refl
spaced_ends m.Minus s = refl
spaced_ends m.Star s = refl
spaced_ends m.Slash s = refl
spaced_ends m.Percent s = refl
spaced_ends m.PlusPlus s = refl
spaced_ends m.MinusMinus s = refl
spaced_ends m.Not s = refl
spaced_ends m.And s = refl
spaced_ends m.Or s = refl
spaced_ends m.Nullish s = refl
spaced_ends m.Assign s = refl
spaced_ends m.PlusAssign s = refl
spaced_ends m.MinusAssign s = refl
spaced_ends m.StarAssign s = refl
spaced_ends m.SlashAssign s = refl
spaced_ends m.PercentAssign s = refl

abbrev pub before_space : List ℕ → Bool
before_space = begins 32

space_ends : (kind : MarkKind) (ys : List ℕ) → before_space ys ≡ true → ends_before (mark_text kind) ys ≡ true
space_ends kind [] h = let no : false ≡ true = h in absurd cc
space_ends kind (b ∷ s) h = ap (λ x. ends_before (mark_text kind) (x ∷ s)) (eqb-true b 32 h) ∙ spaced_ends kind s

divided_told : (opened : List Bracket) (s : List ℕ) (words : List (Kind × List ℕ)) → Told opened (32 ∷ s) words → Told opened (47 ∷ 32 ∷ s) ((k.Mark, codes "/") ∷ words)
divided_told opened s words told =
    next opened [] (codes "/") (32 ∷ s) k.Mark words (Run.none (47 ∷ 32 ∷ s)) (stops_slash 32 s (λ e. omega (arith, e)) (λ e. omega (arith, e))) (mark_token opened (codes "/") (32 ∷ s) refl refl) told

divides_told : (opened : List Bracket) (s : List ℕ) (words : List (Kind × List ℕ)) → Told opened (32 ∷ s) words → Told opened (47 ∷ 61 ∷ 32 ∷ s) ((k.Mark, codes "/=") ∷ words)
divides_told opened s words told =
    next opened [] (codes "/=") (32 ∷ s) k.Mark words (Run.none (47 ∷ 61 ∷ 32 ∷ s)) (stops_slash 61 (32 ∷ s) (λ e. omega (arith, e)) (λ e. omega (arith, e))) (mark_token opened (codes "/=") (32 ∷ s) refl refl) told

slash_told : (opened : List Bracket) (ys : List ℕ) (words : List (Kind × List ℕ)) → before_space ys ≡ true → Told opened ys words → Told opened (47 ∷ ys) ((k.Mark, codes "/") ∷ words)
slash_told opened [] words h told = let no : false ≡ true = h in absurd cc
slash_told opened (b ∷ s) words h told =
    let same = eqb-true b 32 h in
    subst (λ x. Told opened (47 ∷ x ∷ s) ((k.Mark, codes "/") ∷ words)) (sym same) (divided_told opened s words (subst (λ x. Told opened (x ∷ s) words) same told))

slashes_told : (opened : List Bracket) (ys : List ℕ) (words : List (Kind × List ℕ)) → before_space ys ≡ true → Told opened ys words → Told opened (47 ∷ 61 ∷ ys) ((k.Mark, codes "/=") ∷ words)
slashes_told opened [] words h told = let no : false ≡ true = h in absurd cc
slashes_told opened (b ∷ s) words h told =
    let same = eqb-true b 32 h in
    subst (λ x. Told opened (47 ∷ 61 ∷ x ∷ s) ((k.Mark, codes "/=") ∷ words)) (sym same) (divides_told opened s words (subst (λ x. Told opened (x ∷ s) words) same told))

slash_sound : Sound before_space (mark m.Slash)
slash_sound opened = record { good = (tt, tt); told = λ ys words l t. slash_told opened ys words l t }

slashes_sound : Sound before_space (mark m.SlashAssign)
slashes_sound opened = record { good = (tt, tt); told = λ ys words l t. slashes_told opened ys words l t }

abbrev pub is_brace : MarkKind → Bool
is_brace m.OpenBrace = true
is_brace m.CloseBrace = true
is_brace _ = false

pub before_sound : (kind : MarkKind) → is_brace kind ≡ false → Sound before_space (mark kind)
before_sound m.Slash h = slash_sound
before_sound m.SlashAssign h = slashes_sound
before_sound m.OpenBrace h = let no : true ≡ false = h in absurd cc
before_sound m.CloseBrace h = let no : true ≡ false = h in absurd cc
before_sound m.OpenParen h = mark_sound before_space m.OpenParen refl (space_ends m.OpenParen)
before_sound m.CloseParen h = mark_sound before_space m.CloseParen refl (space_ends m.CloseParen)
before_sound m.OpenBracket h = mark_sound before_space m.OpenBracket refl (space_ends m.OpenBracket)
before_sound m.CloseBracket h = mark_sound before_space m.CloseBracket refl (space_ends m.CloseBracket)
before_sound m.Dot h = mark_sound before_space m.Dot refl (space_ends m.Dot)
before_sound m.Semicolon h = mark_sound before_space m.Semicolon refl (space_ends m.Semicolon)
before_sound m.Comma h = mark_sound before_space m.Comma refl (space_ends m.Comma)
before_sound m.Colon h = mark_sound before_space m.Colon refl (space_ends m.Colon)
before_sound m.Question h = mark_sound before_space m.Question refl (space_ends m.Question)
before_sound m.Arrow h = mark_sound before_space m.Arrow refl (space_ends m.Arrow)
before_sound m.Bar h = mark_sound before_space m.Bar refl (space_ends m.Bar)
before_sound m.Less h = mark_sound before_space m.Less refl (space_ends m.Less)
before_sound m.Greater h = mark_sound before_space m.Greater refl (space_ends m.Greater)
before_sound m.LessEqual h = mark_sound before_space m.LessEqual refl (space_ends m.LessEqual)
before_sound m.GreaterEqual h = mark_sound before_space m.GreaterEqual refl (space_ends m.GreaterEqual)
before_sound m.Same h = mark_sound before_space m.Same refl (space_ends m.Same)
before_sound m.NotSame h = mark_sound before_space m.NotSame refl (space_ends m.NotSame)
before_sound m.Plus h = mark_sound before_space m.Plus refl (space_ends m.Plus)
before_sound m.Minus h = mark_sound before_space m.Minus refl (space_ends m.Minus)
before_sound m.Star h = mark_sound before_space m.Star refl (space_ends m.Star)
before_sound m.Percent h = mark_sound before_space m.Percent refl (space_ends m.Percent)
before_sound m.PlusPlus h = mark_sound before_space m.PlusPlus refl (space_ends m.PlusPlus)
before_sound m.MinusMinus h = mark_sound before_space m.MinusMinus refl (space_ends m.MinusMinus)
before_sound m.Not h = mark_sound before_space m.Not refl (space_ends m.Not)
before_sound m.And h = mark_sound before_space m.And refl (space_ends m.And)
before_sound m.Or h = mark_sound before_space m.Or refl (space_ends m.Or)
before_sound m.Nullish h = mark_sound before_space m.Nullish refl (space_ends m.Nullish)
before_sound m.Assign h = mark_sound before_space m.Assign refl (space_ends m.Assign)
before_sound m.PlusAssign h = mark_sound before_space m.PlusAssign refl (space_ends m.PlusAssign)
before_sound m.MinusAssign h = mark_sound before_space m.MinusAssign refl (space_ends m.MinusAssign)
before_sound m.StarAssign h = mark_sound before_space m.StarAssign refl (space_ends m.StarAssign)
before_sound m.PercentAssign h = mark_sound before_space m.PercentAssign refl (space_ends m.PercentAssign)

-- braces
pub open_moves : (opened : List Bracket) → Moves opened (Brace ∷ opened) anything (mark m.OpenBrace)
open_moves opened = record {
  good = (tt, tt);
  told = λ ys words h t. next opened [] (codes "{") ys k.Mark words (Run.none (123 ∷ ys)) (stops_byte 123 ys (lit< tt) refl refl) (mark_token opened (codes "{") ys refl (open_ends ys)) t;
}
  where
    open_ends : (ys : List ℕ) → ends_before (codes "{") ys ≡ true
    open_ends [] = refl
    open_ends (e ∷ s) = refl

pub close_moves : (opened : List Bracket) → Moves (Brace ∷ opened) opened anything (mark m.CloseBrace)
close_moves opened = record {
  good = (tt, tt);
  told = λ ys words h t. next (Brace ∷ opened) [] (codes "}") ys k.Mark words (Run.none (125 ∷ ys)) (stops_byte 125 ys (lit< tt) refl refl) (mark_token (Brace ∷ opened) (codes "}") ys refl (close_ends ys)) t;
}
  where
    close_ends : (ys : List ℕ) → ends_before (codes "}") ys ≡ true
    close_ends [] = refl
    close_ends (e ∷ s) = refl

-- the signs before an operand
abbrev pub off_equals : List ℕ → Bool
off_equals ys = not (begins 61 ys)

abbrev pub off_sign : ℕ → List ℕ → Bool
off_sign b ys = not (begins b ys) && not (begins 61 ys)

not_ends : (ys : List ℕ) → off_equals ys ≡ true → ends_before (codes "!") ys ≡ true
not_ends [] h = refl
not_ends (e ∷ s) h = and_both (not (e == 61)) true h refl

plus_ends : (ys : List ℕ) → off_sign 43 ys ≡ true → ends_before (codes "+") ys ≡ true
plus_ends [] h = refl
plus_ends (e ∷ s) h =
    and_both (not (e == 43)) (not (e == 61) && true) (and_left (not (e == 43)) (not (e == 61)) h) (and_both (not (e == 61)) true (and_right (not (e == 43)) (not (e == 61)) h) refl)

minus_ends : (ys : List ℕ) → off_sign 45 ys ≡ true → ends_before (codes "-") ys ≡ true
minus_ends [] h = refl
minus_ends (e ∷ s) h =
    and_both (not (e == 45)) (not (e == 61) && true) (and_left (not (e == 45)) (not (e == 61)) h) (and_both (not (e == 61)) true (and_right (not (e == 45)) (not (e == 61)) h) refl)

pub not_sound : Sound off_equals (mark m.Not)
not_sound = mark_sound off_equals m.Not refl not_ends

pub plus_sound : Sound (off_sign 43) (mark m.Plus)
plus_sound = mark_sound (off_sign 43) m.Plus refl plus_ends

pub minus_sound : Sound (off_sign 45) (mark m.Minus)
minus_sound = mark_sound (off_sign 45) m.Minus refl minus_ends
