-- What the symbols of a source are: words, numbers and strings are spelled as such, in UTF-8.
use Rattle.std.proofs.Common.{◌≡◌, ℕ, ◌+◌, ◌≤◌, ◌==◌, Bool, true, false, List, [], ◌∷◌, ◌++◌, length, take, drop, sym, ap, subst, ◌∙◌, refl, inl, inr, arith, append_assoc}
use Rattle.std.specs.Prelude.{◌&&◌, ◌||◌, not, if◌then◌else◌, nat_le, nat_eq, encode_utf8, slice_range, IsUtf8, Option, Some, None}
use Rattle.std.specs.List.{AllByRecursion, starts_with}
use Rattle.std.proofs.lemmas.Bool.{cases_Bool}
use Rattle.std.proofs.lemmas.Bool.Decides.{nat_tests}
use Rattle.std.proofs.lemmas.Slice.Eq.{bytes_eq-Decides}
use Rattle.std.proofs.lemmas.List.{take-append-drop}
use Rattle.std.proofs.lemmas.Str.{IsUtf8-past_char, is_utf8-from_IsUtf8}
use Rattle.tb_text.specs.Messages.{without_mark}
use Rattle.tb_scan.specs.declared.inside.Inside.TheVariants.{Word, Quoted, Template}
use Rattle.tb_scan.specs.declared.braces.Bracket.{Bracket}
use Rattle.tb_scan.specs.declared.token.Kind.{Kind}
use Rattle.tb_scan.specs.declared.token.Token.{Token}
use Rattle.tb_scan.specs.Characters.{is_blank, is_digit, begins_where}
use Rattle.tb_scan.specs.Pieces.{Run, Stops, IsPiece, IsEscape, IsSpacing, may_stand}
use Rattle.tb_scan.specs.Numbers.{IsNumber}
use Rattle.tb_scan.specs.Tokens.{IsForm, IsToken, Scans}
use Rattle.tb_tree.specs.declared.marks.Mark as marks
use Rattle.tb_tree.specs.declared.words.Class.TheVariants as c
use Rattle.tb_tree.specs.declared.words.Template.TheVariants as part
use Rattle.tb_tree.specs.Sym.{Sym, Lex}
use Rattle.tb_tree.specs.Words.{word_of, mark_of}
use Rattle.tb_parse_type.specs.Symbols.{symbols, spelled, as_text, placed, symbol_of, mark_or_bad}
use Rattle.tb_parse_file.specs.Files.{HasSymbols}
use Rattle.tb_emit_law.proofs.Alone.{IsWordText, IsStringText, IsPartText, tick, hole}
use Rattle.tb_emit_law.proofs.Coded.{coded_text, coded_spacing, token_rest}
use Rattle.tb_emit_law.proofs.Told.{behind_token, slice_is, within}

-- a word, a number, a string or a part of a template, spelled as such
abbrev pub IsFormed : Sym → Type 0
IsFormed (Lex (c.Word kind) t at) = (kind ≡ word_of t) × IsWordText t × IsUtf8 t
IsFormed (Lex c.Number t at) = IsNumber t × IsUtf8 t
IsFormed (Lex c.String t at) = IsStringText t × IsUtf8 t
IsFormed (Lex (c.Template part.Whole) t at) = IsPartText 96 tick t × IsUtf8 t
IsFormed (Lex (c.Template part.Head) t at) = IsPartText 96 hole t × IsUtf8 t
IsFormed (Lex (c.Template part.Middle) t at) = IsPartText 125 hole t × IsUtf8 t
IsFormed (Lex (c.Template part.Tail) t at) = IsPartText 125 tick t × IsUtf8 t
IsFormed _ = Unit {0}

-- ---- forms before any text

run_word : {t ys : List ℕ} (zs : List ℕ) → Run (IsPiece Word) t ys → Run (IsPiece Word) t zs
run_word zs (Run.none ys) = Run.none zs
run_word zs (Run.more _ t ys (IsPiece.character d _ h) r) = Run.more (encode_utf8 d) t zs (IsPiece.character d (t ++ zs) h) (run_word zs r)
run_word zs (Run.more _ t ys (IsPiece.escape e _ h s) r) = absurd (let never : false ≡ true = h in cc)

same_begin : (p : ℕ → Bool) (q : ℕ) (t w ys zs : List ℕ) → w ≡ q ∷ ys → begins_where p (t ++ w) ≡ begins_where p (t ++ q ∷ zs)
same_begin p q [] w ys zs e = ap (begins_where p) e
same_begin p q (b ∷ t) w ys zs e = refl

escape_on : (q : ℕ) {e : List ℕ} (x t w ys zs : List ℕ) → x ≡ t ++ w → w ≡ q ∷ ys → IsEscape e x → IsEscape e (t ++ q ∷ zs)
escape_on q x t w ys zs f g (IsEscape.simple d _ h) = IsEscape.simple d (t ++ q ∷ zs) h
escape_on q x t w ys zs f g (IsEscape.zero _ h) = IsEscape.zero (t ++ q ∷ zs) (sym (same_begin (is_digit 10) q t w ys zs g) ∙ sym (ap (begins_where (is_digit 10)) f) ∙ h)
escape_on q x t w ys zs f g (IsEscape.byte ds _ h) = IsEscape.byte ds (t ++ q ∷ zs) h
escape_on q x t w ys zs f g (IsEscape.unit ds _ h s) = IsEscape.unit ds (t ++ q ∷ zs) h s
escape_on q x t w ys zs f g (IsEscape.braced ds _ n h a b s) = IsEscape.braced ds (t ++ q ∷ zs) n h a b s

run_quoted : (q : ℕ) (ys zs : List ℕ) {t w : List ℕ} → w ≡ q ∷ ys → Run (IsPiece (Quoted q)) t w → Run (IsPiece (Quoted q)) t (q ∷ zs)
run_quoted q ys zs g (Run.none _) = Run.none (q ∷ zs)
run_quoted q ys zs g (Run.more _ t w (IsPiece.character d _ h) r) = Run.more (encode_utf8 d) t (q ∷ zs) (IsPiece.character d (t ++ q ∷ zs) h) (run_quoted q ys zs g r)
run_quoted q ys zs g (Run.more _ t w (IsPiece.escape e _ h s) r) =
    Run.more e t (q ∷ zs) (IsPiece.escape e (t ++ q ∷ zs) h (escape_on q (t ++ w) t w ys zs refl g s)) (run_quoted q ys zs g r)

-- what stands before the end of a template stands there before any text behind it
same_stand : (q d : ℕ) (t w ys zs : List ℕ) → w ≡ q ∷ ys → may_stand Template d (t ++ w) ≡ true → may_stand Template d (t ++ q ∷ zs) ≡ true
same_stand q d t w ys zs e h = sym (ap (λ b. not ((d == 96) || (d == 92) || ((d == 36) && b))) (same_begin (λ x. x == 123) q t w ys zs e)) ∙ h

run_part : (q : ℕ) (ys zs : List ℕ) {t w : List ℕ} → w ≡ q ∷ ys → Run (IsPiece Template) t w → Run (IsPiece Template) t (q ∷ zs)
run_part q ys zs g (Run.none _) = Run.none (q ∷ zs)
run_part q ys zs g (Run.more _ t w (IsPiece.character d _ h) r) =
    Run.more (encode_utf8 d) t (q ∷ zs) (IsPiece.character d (t ++ q ∷ zs) (same_stand q d t w ys zs g h)) (run_part q ys zs g r)
run_part q ys zs g (Run.more _ t w (IsPiece.escape e _ h s) r) =
    Run.more e t (q ∷ zs) (IsPiece.escape e (t ++ q ∷ zs) h (escape_on q (t ++ w) t w ys zs refl g s)) (run_part q ys zs g r)

ticked : (first : ℕ) (body ys : List ℕ) → Run (IsPiece Template) body (96 ∷ ys) → IsPartText first tick (first ∷ body ++ 96 ∷ [])
ticked first body ys run = record { body = body; whole = refl; run = λ zs. run_part 96 ys zs refl run }

holed : (first : ℕ) (body ys : List ℕ) → Run (IsPiece Template) body (36 ∷ 123 ∷ ys) → IsPartText first hole (first ∷ body ++ 36 ∷ 123 ∷ [])
holed first body ys run = record { body = body; whole = refl; run = λ zs. run_part 36 (123 ∷ ys) (123 ∷ zs) refl run }

solid : (d : ℕ) (r : List ℕ) → Stops IsSpacing (encode_utf8 d ++ r) → is_blank d ≡ false
solid d r s = elim (cases_Bool (is_blank d)) [ inl e ↦ absurd (s.never (encode_utf8 d) r refl (IsSpacing.blank d r e)) | inr e ↦ e ]

-- ---- symbols

mark_formed : (o : Option marks.Mark) (t : List ℕ) (at : ℕ) → IsFormed (placed (mark_or_bad o) t at)
mark_formed (Some m) t at = tt
mark_formed None t at = tt

form_formed : {opened : List Bracket} {kind : Kind} {t ys : List ℕ} (at : ℕ) → IsForm opened kind t ys → Stops IsSpacing (t ++ ys) → IsUtf8 t → IsFormed (placed (symbol_of kind t) t at)
form_formed at (IsForm.word d rest ys start run) stops u = (
  refl,
  record {
    first = d;
    more = rest;
    whole = refl;
    start = start;
    solid = solid d (rest ++ ys) (subst (Stops IsSpacing) (append_assoc (encode_utf8 d) rest ys) stops);
    run = λ zs. run_word zs run;
  },
  u,
)
form_formed at (IsForm.number t ys n) stops u = (n, u)
form_formed at (IsForm.string q body ys h run) stops u = (record { quote = q; body = body; whole = refl; quoted = h; run = λ zs. run_quoted q ys zs refl run }, u)
form_formed at (IsForm.whole body ys run) stops u = (ticked 96 body ys run, u)
form_formed at (IsForm.head body ys run) stops u = (holed 96 body ys run, u)
form_formed at (IsForm.middle body ys h run) stops u = (holed 125 body ys run, u)
form_formed at (IsForm.tail body ys h run) stops u = (ticked 125 body ys run, u)
form_formed at (IsForm.mark t ys m) stops u = mark_formed (mark_of t) t at

token_formed : {opened : List Bracket} {kind : Kind} {t ys : List ℕ} (at : ℕ) → IsToken opened kind t ys → Stops IsSpacing (t ++ ys) → IsUtf8 t → IsFormed (placed (symbol_of kind t) t at)
token_formed at (IsToken.formed kind t ys l f) stops u = form_formed at l.form stops u
token_formed at (IsToken.glued t d ys l g) stops u = tt
token_formed at (IsToken.unfinished xs o n) stops u = tt
token_formed at (IsToken.stray d ys o n) stops u = tt

as_text_of : (bs : List ℕ) → IsUtf8 bs → as_text bs ≡ bs
as_text_of bs u = ap (λ (b : Bool). if b then bs else []) (is_utf8-from_IsUtf8 bs u)

-- how a token is spelled that stands in a text
pub spelled_is : (text t : List ℕ) (token : Token) → token.start ≤ token.end → token.end ≤ length text → slice_range text token.start token.end ≡ t → IsUtf8 t → spelled text token ≡ t
spelled_is text t token l w e u =
    let cut = slice_range text token.start token.end in
    ap (λ (b : Bool). if b then as_text cut else []) (both token.start token.end (length text) l w) ∙ ap as_text e ∙ as_text_of t u
  where
    both : (a b n : ℕ) → a ≤ b → b ≤ n → (nat_le a b && nat_le b n) ≡ true
    both a b n l w = grind (arith, nat_tests)

formed_from : {text : List ℕ} {at : ℕ} {opened : List Bracket} {tokens : List Token} → at ≤ length text → IsUtf8 (drop at text) → Scans text at opened tokens → AllByRecursion IsFormed (symbols text tokens)
formed_from h u (Scans.done at opened e) = tt
formed_from {text = text} h u (Scans.more at opened left token tokens n r) =
    let whole = n.whole in
    let inner = (coded_spacing n.spaced).past (n.spelled ++ n.rest) (subst IsUtf8 whole u) in
    let behind = token_rest n.reads inner in
    let own = coded_text n.spelled n.rest inner behind in
    let starts = n.starts in
    let ends = n.ends ∙ ap (λ x. x + length n.spelled) starts in
    let past : token.end ≤ length text = subst (λ x. x ≤ length text) (sym ends) (within text n.spacing n.spelled n.rest at whole h) in
    let cut : slice_range text token.start token.end ≡ n.spelled =
    subst (λ x. slice_range text x token.end ≡ n.spelled) (sym starts) (subst (λ x. slice_range text (at + length n.spacing) x ≡ n.spelled) (sym ends) (slice_is text n.spacing n.spelled n.rest at whole)) in
    let spelling : spelled text token ≡ n.spelled = spelled_is text n.spelled token (omega (arith, n.ends)) past cut own in
    let left_over : drop token.end text ≡ n.rest = ap (λ x. drop x text) ends ∙ behind_token text n.spacing n.spelled n.rest at whole in (
      subst (λ x. IsFormed (placed (symbol_of token.kind x) x token.start)) (sym spelling) (token_formed token.start n.reads n.begun own),
      formed_from past (subst IsUtf8 (sym left_over) behind) r,
    )

-- a byte order mark is a whole character
after_mark : (text : List ℕ) → IsUtf8 text → starts_with nat_eq text (239 ∷ 187 ∷ 191 ∷ []) ≡ true → IsUtf8 (drop 3 text)
unfolding lib.Utf8.encode
after_mark text u e =
    let begun : take 3 text ≡ 239 ∷ 187 ∷ 191 ∷ [] = sym ((bytes_eq-Decides (239 ∷ 187 ∷ 191 ∷ []) (take 3 text)).0 e) in
    IsUtf8-past_char text (drop 3 text) 65279 u (sym (take-append-drop 3 text) ∙ ap (λ v. v ++ drop 3 text) begun)

unmarked : (text : List ℕ) → IsUtf8 text → IsUtf8 (without_mark text)
unmarked text u = by_cases (starts_with nat_eq text (239 ∷ 187 ∷ 191 ∷ [])) refl where
  by_cases : (b : Bool) → starts_with nat_eq text (239 ∷ 187 ∷ 191 ∷ []) ≡ b → IsUtf8 (if b then drop 3 text else text)
  by_cases true e = after_mark text u e
  by_cases false e = u

pub source_formed : {source : List ℕ} {ss : List Sym} → HasSymbols source ss → AllByRecursion IsFormed ss
source_formed {source = source} h = subst (AllByRecursion IsFormed) (sym h.same) (formed_from (omega arith) (unmarked source h.utf8) h.scanned)
