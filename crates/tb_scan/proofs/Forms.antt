-- Which forms begin with which characters.
use Rattle.std.proofs.Common.{inl, inr, ◌≡◌, ℕ, zero, suc, ◌<◌, ◌==◌, Bool, true, false, cond, List, [], ◌∷◌, ◌++◌, sym, ap, subst, ◌∙◌, refl, arith, append_assoc, lit<, lit≤}
use Rattle.std.specs.Prelude.{◌&&◌, ◌||◌, not, nat_lt, encode_utf8, codes}
use Rattle.std.specs.Char.{is_ascii_alphabetic}
use Rattle.std.specs.List.{list_all, list_any}
use Rattle.std.specs.Str.{bytes_eq}
use Rattle.std.proofs.lemmas.Bool.{eqb-true, ltb-true, cases_lt}
use Rattle.std.proofs.lemmas.Str.{encode_same, encode_ascii}
use Rattle.unicode_ident.proofs.IdentLemmas.{is_xid_start-ascii}
use Rattle.tb_scan.specs.declared.token.Kind.{Kind}
use Rattle.tb_scan.specs.declared.token.Kind.TheVariants as k
use Rattle.tb_scan.specs.declared.braces.Bracket.{Bracket}
use Rattle.tb_scan.specs.Characters.{is_word_start, is_digit, is_quote, begins, begins_where}
use Rattle.tb_scan.specs.Numbers.{IsNumber}
use Rattle.tb_scan.specs.Marks.{is_mark, marks}
use Rattle.tb_scan.specs.Tokens.{IsForm, IsOther, in_hole, is_plain_mark}
use Rattle.tb_scan.proofs.Exact.{ascii_first}
use Rattle.tb_scan.proofs.EscapeLemmas.{digit_low}
use Rattle.tb_scan.proofs.NumberLemmas.{or_either, whole_digits}
use Rattle.tb_scan.proofs.TestLemmas.{and_left, and_right, not_both}

-- what a table of the numbers below n says
passes_below : (ℕ → Bool) → ℕ → Bool
passes_below p zero = true
passes_below p (suc n) = p n && passes_below p n

at_number : (p : ℕ → Bool) (n : ℕ) → passes_below p n ≡ true → (c : ℕ) → c < n → p c ≡ true
unfolding passes_below
at_number p zero h c l = absurd (omega (arith, l))
at_number p (suc n) h c l = elim (cases_lt c n) [
  | inl less ↦ at_number p n (and_right (p n) (passes_below p n) h) c less
  | inr last ↦ let same : c ≡ n = omega arith in subst (λ x. p x ≡ true) (sym same) (and_left (p n) (passes_below p n) h)
]

-- `is_word_start` below 128
abbrev low_start : ℕ → Bool
low_start c = (c == 36) || (c == 95) || is_ascii_alphabetic c

word_start_low : (c : ℕ) → c < 128 → is_word_start c ≡ low_start c
word_start_low c h = ap (λ b. (c == 36) || (c == 95) || b) (is_xid_start-ascii c h)

-- the group of forms that begin with a character: words 1, numbers 2, strings 3, templates from a backtick 4 and from a `}` 5, marks 6
abbrev group_by : Bool → Bool → Bool → Bool → Bool → ℕ
group_by word digit quote tick closing = cond word 1 (cond digit 2 (cond quote 3 (cond tick 4 (cond closing 5 6))))

abbrev pub group : List Bracket → ℕ → ℕ
group opened c = group_by (is_word_start c) (is_digit 10 c) (is_quote c) (c == 96) ((c == 125) && in_hole opened)

abbrev pub kind_group : Kind → ℕ
kind_group k.Word = 1
kind_group k.Number = 2
kind_group k.Str = 3
kind_group k.Whole = 4
kind_group k.Head = 4
kind_group k.Middle = 5
kind_group k.Tail = 5
kind_group k.Mark = 6
kind_group k.Bad = 0

group_low : (opened : List Bracket) (b : ℕ) → b < 128 → group opened b ≡ group_by (low_start b) (is_digit 10 b) (is_quote b) (b == 96) ((b == 125) && in_hole opened)
group_low opened b h = ap (λ w. group_by w (is_digit 10 b) (is_quote b) (b == 96) ((b == 125) && in_hole opened)) (word_start_low b h)

-- the group of a text that begins with this byte
group_byte : (opened : List Bracket) (c b : ℕ) (r s : List ℕ) → b ∷ s ≡ encode_utf8 c ++ r → b < 128
    → group opened c ≡ group_by (low_start b) (is_digit 10 b) (is_quote b) (b == 96) ((b == 125) && in_hole opened)
group_byte opened c b r s e h = ap (λ x. group opened x) (ascii_first c b r s (sym e) h).0 ∙ group_low opened b h

not_true : (b : Bool) → not b ≡ true → b ≡ false
not_true true h = sym h
not_true false h = refl

digit_no_start : (d : ℕ) → is_digit 10 d ≡ true → (low_start d ≡ false) × (is_digit 10 d ≡ true)
unfolding passes_below
digit_no_start d h =
    let table : not (is_digit 10 d && low_start d) ≡ true = at_number (λ c. not (is_digit 10 c && low_start c)) 128 refl d (digit_low 10 d (lit≤ tt) h) in
    (not_true (low_start d) (subst (λ b. not (b && low_start d) ≡ true) h table), h)

pub number_first : (t ys : List ℕ) → IsNumber t → begins_where (is_digit 10) (t ++ ys) ≡ true
number_first _ ys (IsNumber.decimal [] f e h i j) = let no : false ≡ true = h in cc
number_first _ ys (IsNumber.decimal (d ∷ w) f e h i j) = and_left (is_digit 10 d) (list_all (is_digit 10) w) (whole_digits (d ∷ w) h)
number_first _ ys (IsNumber.based letter base ds h i) = refl

digit_group : (opened : List Bracket) (c : ℕ) (r xs : List ℕ) → begins_where (is_digit 10) xs ≡ true → xs ≡ encode_utf8 c ++ r → group opened c ≡ 2
digit_group opened c r [] h e = absurd (let no : false ≡ true = h in not_both false no refl)
digit_group opened c r (d ∷ s) h e =
    let no_start = digit_no_start d h in
    group_byte opened c d r s e (digit_low 10 d (lit≤ tt) h)
    ∙ ap (λ w. group_by w (is_digit 10 d) (is_quote d) (d == 96) ((d == 125) && in_hole opened)) no_start.0
    ∙ ap (λ w. group_by false w (is_quote d) (d == 96) ((d == 125) && in_hole opened)) no_start.1

pub bytes_same : (xs ys : List ℕ) → bytes_eq xs ys ≡ true → xs ≡ ys
bytes_same [] [] h = refl
bytes_same [] (y ∷ ys) h = let no : false ≡ true = h in cc
bytes_same (x ∷ xs) [] h = let no : false ≡ true = h in cc
bytes_same (x ∷ xs) (y ∷ ys) h =
    ap (λ z. z ∷ xs) (eqb-true x y (and_left (x == y) (bytes_eq xs ys) h)) ∙ ap (λ z. y ∷ z) (bytes_same xs ys (and_right (x == y) (bytes_eq xs ys) h))

-- what holds of each mark of a table
pub of_marks : (p : List ℕ → Bool) (ms : List (List ℕ)) (t : List ℕ) → list_all p ms ≡ true → list_any (λ m. bytes_eq t m) ms ≡ true → p t ≡ true
of_marks p [] t h e = absurd (let no : false ≡ true = e in not_both false no refl)
of_marks p (m ∷ ms) t h e = elim (or_either (bytes_eq t m) (list_any (λ x. bytes_eq t x) ms) e) [
  | inl here ↦ subst (λ x. p x ≡ true) (sym (bytes_same t m here)) (and_left (p m) (list_all p ms) h)
  | inr there ↦ of_marks p ms t (and_right (p m) (list_all p ms) h) there
]

abbrev mark_test : List ℕ → Bool
mark_test [] = false
mark_test (c ∷ r) = nat_lt c 128 && (not (low_start c) && (not (is_digit 10 c) && (not (is_quote c) && (not (c == 96) && (not (c == 125) || bytes_eq (c ∷ r) (codes "}"))))))

mark_tests : (t : List ℕ) → is_mark t ≡ true → mark_test t ≡ true
mark_tests t h = of_marks mark_test marks t refl h

closing_none : (a b h : Bool) → (not a || b) ≡ true → not (b && h) ≡ true → (a && h) ≡ false
closing_none false b h e k = refl
closing_none true true h e k = not_true h k
closing_none true false h e k = absurd (not_both false e refl)

mark_group : (opened : List Bracket) (c : ℕ) (r t ys : List ℕ) → is_plain_mark opened t ys ≡ true → t ++ ys ≡ encode_utf8 c ++ r → group opened c ≡ 6
mark_group opened c r [] ys h e = absurd (not_both false (mark_tests [] (and_left (is_mark []) (not (bytes_eq [] (codes "}") && in_hole opened) && not (bytes_eq [] (codes "/") && begins 42 ys)) h)) refl)
mark_group opened c r (m ∷ t) ys h e =
    let plain = not (bytes_eq (m ∷ t) (codes "}") && in_hole opened) in
    let bare = not (bytes_eq (m ∷ t) (codes "/") && begins 42 ys) in
    let tests = mark_tests (m ∷ t) (and_left (is_mark (m ∷ t)) (plain && bare) h) in
    let last = not (m == 125) || bytes_eq (m ∷ t) (codes "}") in
    let fifth = not (m == 96) && last in
    let fourth = not (is_quote m) && fifth in
    let third = not (is_digit 10 m) && fourth in
    let second = not (low_start m) && third in
    let past_low = and_right (nat_lt m 128) second tests in
    let past_start = and_right (not (low_start m)) third past_low in
    let past_digit = and_right (not (is_digit 10 m)) fourth past_start in
    let past_quote = and_right (not (is_quote m)) fifth past_digit in
    let past_tick = and_right (not (m == 96)) last past_quote in
    let closing : ((m == 125) && in_hole opened) ≡ false =
    closing_none (m == 125) (bytes_eq (m ∷ t) (codes "}")) (in_hole opened) past_tick (and_left plain bare (and_right (is_mark (m ∷ t)) (plain && bare) h)) in
    group_byte opened c m r (t ++ ys) e (ltb-true m 128 (and_left (nat_lt m 128) second tests))
    ∙ ap (λ w. group_by w (is_digit 10 m) (is_quote m) (m == 96) ((m == 125) && in_hole opened)) (not_true (low_start m) (and_left (not (low_start m)) third past_low))
    ∙ ap (λ w. group_by false w (is_quote m) (m == 96) ((m == 125) && in_hole opened)) (not_true (is_digit 10 m) (and_left (not (is_digit 10 m)) fourth past_start))
    ∙ ap (λ w. group_by false false w (m == 96) ((m == 125) && in_hole opened)) (not_true (is_quote m) (and_left (not (is_quote m)) fifth past_digit))
    ∙ ap (λ w. group_by false false false w ((m == 125) && in_hole opened)) (not_true (m == 96) (and_left (not (m == 96)) last past_quote))
    ∙ ap (λ w. group_by false false false false w) closing

form_group_of : (opened : List Bracket) (kind : Kind) (t ys : List ℕ) → IsForm opened kind t ys → (c : ℕ) (r : List ℕ) → t ++ ys ≡ encode_utf8 c ++ r → group opened c ≡ kind_group kind
form_group_of opened _ _ ys (IsForm.word d rest _ h run) c r e =
    let same = encode_same d c (rest ++ ys) r (sym (append_assoc (encode_utf8 d) rest ys) ∙ e) in
    ap (λ b. group_by b (is_digit 10 c) (is_quote c) (c == 96) ((c == 125) && in_hole opened)) (subst (λ x. is_word_start x ≡ true) same.0 h)
form_group_of opened _ _ ys (IsForm.number t _ h) c r e = digit_group opened c r (t ++ ys) (number_first t ys h) e
form_group_of opened _ _ ys (IsForm.string q body _ h run) c r e = elim (or_either (q == 34) (q == 39) h) [
  | inl double ↦ group_byte opened c 34 r (body ++ q ∷ [] ++ ys) (ap (λ x. x ∷ body ++ q ∷ [] ++ ys) (sym (eqb-true q 34 double)) ∙ e) (lit< tt)
  | inr single ↦ group_byte opened c 39 r (body ++ q ∷ [] ++ ys) (ap (λ x. x ∷ body ++ q ∷ [] ++ ys) (sym (eqb-true q 39 single)) ∙ e) (lit< tt)
]
form_group_of opened _ _ ys (IsForm.whole body _ run) c r e = group_byte opened c 96 r (body ++ 96 ∷ [] ++ ys) e (lit< tt)
form_group_of opened _ _ ys (IsForm.head body _ run) c r e = group_byte opened c 96 r (body ++ 36 ∷ 123 ∷ [] ++ ys) e (lit< tt)
form_group_of opened _ _ ys (IsForm.middle body _ h run) c r e =
    group_byte opened c 125 r (body ++ 36 ∷ 123 ∷ [] ++ ys) e (lit< tt) ∙ ap (λ b. cond b 5 6) h
form_group_of opened _ _ ys (IsForm.tail body _ h run) c r e =
    group_byte opened c 125 r (body ++ 96 ∷ [] ++ ys) e (lit< tt) ∙ ap (λ b. cond b 5 6) h
form_group_of opened _ _ ys (IsForm.mark t _ h) c r e = mark_group opened c r t ys h e

pub form_group : (opened : List Bracket) (kind : Kind) (t ys : List ℕ) → IsForm opened kind t ys → (c : ℕ) (r : List ℕ) → t ++ ys ≡ encode_utf8 c ++ r → group opened c ≡ kind_group kind
form_group = form_group_of

-- the group of a character that begins a word, a digit, and one that begins only marks
pub group_word : (opened : List Bracket) (c : ℕ) → is_word_start c ≡ true → group opened c ≡ 1
group_word opened c h = ap (λ b. group_by b (is_digit 10 c) (is_quote c) (c == 96) ((c == 125) && in_hole opened)) h

pub group_other : (opened : List Bracket) (c : ℕ) → IsOther opened c → group opened c ≡ 6
group_other opened c h =
    ap (λ b. group_by b (is_digit 10 c) (is_quote c) (c == 96) ((c == 125) && in_hole opened)) h.no_word
    ∙ ap (λ b. group_by false b (is_quote c) (c == 96) ((c == 125) && in_hole opened)) h.no_digit
    ∙ ap (λ b. group_by false false b (c == 96) ((c == 125) && in_hole opened)) h.no_quote
    ∙ ap (λ b. group_by false false false b ((c == 125) && in_hole opened)) h.no_template
    ∙ ap (λ b. group_by false false false false b) h.no_closing

-- the group of each form of a text that begins with this byte
pub form_byte : (opened : List Bracket) (kind : Kind) (t ys : List ℕ) → IsForm opened kind t ys → (b : ℕ) (s : List ℕ) → b ∷ s ≡ t ++ ys → b < 128 → kind_group kind ≡ group opened b
form_byte opened kind t ys f b s e h = sym (form_group opened kind t ys f b s (sym e ∙ sym (ap (λ x. x ++ s) (encode_ascii b h))))

pub group_digit : (opened : List Bracket) (d : ℕ) → is_digit 10 d ≡ true → group opened d ≡ 2
group_digit opened d h = digit_group opened d [] (d ∷ []) h (sym (ap (λ x. x ++ []) (encode_ascii d (digit_low 10 d (lit≤ tt) h))))

pub group_quote : (opened : List Bracket) (q : ℕ) → is_quote q ≡ true → (q < 128) × (group opened q ≡ 3)
group_quote opened q h = elim (or_either (q == 34) (q == 39) h) [
  | inl double ↦ let same = eqb-true q 34 double in (omega (arith, same), ap (λ x. group opened x) same ∙ group_low opened 34 (lit< tt))
  | inr single ↦ let same = eqb-true q 39 single in (omega (arith, same), ap (λ x. group opened x) same ∙ group_low opened 39 (lit< tt))
]

pub group_tick : (opened : List Bracket) → group opened 96 ≡ 4
group_tick opened = group_low opened 96 (lit< tt)

pub group_closing : (opened : List Bracket) → in_hole opened ≡ true → group opened 125 ≡ 5
group_closing opened h = group_low opened 125 (lit< tt) ∙ ap (λ b. cond b 5 6) h
