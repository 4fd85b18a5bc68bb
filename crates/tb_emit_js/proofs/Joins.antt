-- What is written for pieces that stand one behind another, for lists and for lines.
use Rattle.std.proofs.Common.{◌≡◌, ℕ, suc, ◌≤◌, ◌<◌, ◌+◌, true, false, List, [], ◌∷◌, ◌++◌, map, flat_map, length, ◌-◌, codes, refl, ap, sym, arith, ◌∙◌, append_assoc}
use Rattle.std.specs.List.{repeat}
use Rattle.std.proofs.lemmas.List.{append-nil}
use Rattle.std.proofs.lemmas.Grind.{flat_map-append}
use Rattle.tb_tree.specs.declared.marks.Mark.TheVariants as m
use Rattle.tb_layout.specs.Pieces.{Piece, mark, space, new_line, listed, piece_text, text_of}
use Rattle.tb_layout.specs.Js.{Laid, Span, laid_list, laid_all, laid_spans, lines, object_pieces, template_pieces, spans_pieces}
use Rattle.tb_emit_js.specs.Lines.{span_text, further_text}

pub text_join : (xs ys : List Piece) → text_of (xs ++ ys) ≡ text_of xs ++ text_of ys
text_join xs ys = flat_map-append piece_text xs ys

-- ---- lists with commas

abbrev pub after_comma : {A : Type 0} (f : A → Laid) (n : ℕ) → A → List ℕ
after_comma f n x = codes ", " ++ text_of (f x n)

pub listed_first : {A : Type 0} (f : A → Laid) (n : ℕ) (x : A) (xs : List A) → text_of (laid_list n (map f (x ∷ xs))) ≡ text_of (f x n) ++ flat_map (after_comma f n) xs
listed_first f n x [] = sym (append-nil (text_of (f x n)))
listed_first f n x (y ∷ ys) =
    let rest = laid_list n (map f (y ∷ ys)) in
    text_join (f x n ++ mark m.Comma ++ space) rest
    ∙ ap (λ t. t ++ text_of rest) (text_join (f x n ++ mark m.Comma) space ∙ ap (λ t. t ++ codes " ") (text_join (f x n) (mark m.Comma)))
    ∙ ap (λ t. text_of (f x n) ++ codes "," ++ codes " " ++ t) (listed_first f n y ys)
    ∙ ap (λ t. t ++ (text_of (f y n) ++ flat_map (after_comma f n) ys)) (append_assoc (text_of (f x n)) (codes ",") (codes " "))
    ∙ append_assoc (text_of (f x n)) (codes ", ") (text_of (f y n) ++ flat_map (after_comma f n) ys)
    ∙ ap (λ t. text_of (f x n) ++ t) (sym (append_assoc (codes ", ") (text_of (f y n)) (flat_map (after_comma f n) ys)))

further_some : {A : Type 0} (f : A → Laid) (n : ℕ) (xs : List A) → further_text f n true xs ≡ flat_map (after_comma f n) xs
further_some f n [] = refl
further_some f n (x ∷ xs) =
    ap (λ t. codes ", " ++ (text_of (f x n) ++ t)) (further_some f n xs) ∙ sym (append_assoc (codes ", ") (text_of (f x n)) (flat_map (after_comma f n) xs))

pub list_text : {A : Type 0} (f : A → Laid) (n : ℕ) (xs : List A) → further_text f n false xs ≡ text_of (laid_list n (map f xs))
list_text f n [] = refl
list_text f n (x ∷ xs) = ap (λ t. text_of (f x n) ++ t) (further_some f n xs) ∙ sym (listed_first f n x xs)

-- ---- objects

pub object_none : {A : Type 0} (f : A → Laid) (n : ℕ) (xs : List A) → length xs ≤ 0 → text_of (object_pieces (laid_all n (map f xs))) ≡ codes "{}"
object_none f n [] few = refl
object_none f n (x ∷ xs) few = absurd (omega (arith, few))

pub object_some : {A : Type 0} (f : A → Laid) (n : ℕ) (xs : List A) → 1 ≤ length xs
    → text_of (object_pieces (laid_all n (map f xs))) ≡ codes "{ " ++ (text_of (laid_list n (map f xs)) ++ codes " }")
object_some f n [] few = absurd (omega (arith, few))
object_some f n (x ∷ xs) few =
    let inner = laid_list n (map f (x ∷ xs)) in
    text_join (mark m.OpenBrace ++ space ++ inner ++ space) (mark m.CloseBrace)
    ∙ ap (λ t. t ++ codes "}") (text_join (mark m.OpenBrace ++ space ++ inner) space)
    ∙ ap (λ t. codes "{ " ++ t) (append_assoc (text_of inner) (codes " ") (codes "}"))

-- ---- templates

pub spans_text : (n : ℕ) (x : List Piece × List ℕ) (xs : List (List Piece × List ℕ)) → text_of (spans_pieces (x ∷ xs)) ≡ flat_map span_text (x ∷ xs)
spans_text n x [] = text_join x.0 _ ∙ ap (λ t. text_of x.0 ++ t) (append-nil x.1) ∙ sym (append-nil (text_of x.0 ++ x.1))
spans_text n x (y ∷ ys) =
    text_join x.0 _ ∙ ap (λ t. text_of x.0 ++ (x.1 ++ t)) (spans_text n y ys) ∙ sym (append_assoc (text_of x.0) x.1 (flat_map span_text (y ∷ ys)))

map_flat : {A B : Type 0} (f : A → B) (g : B → List ℕ) (xs : List A) → flat_map g (map f xs) ≡ flat_map (λ x. g (f x)) xs
map_flat f g [] = refl
map_flat f g (x ∷ xs) = ap (λ t. g (f x) ++ t) (map_flat f g xs)

pub template_text : {A : Type 0} (f : A → Span) (n : ℕ) (head : List ℕ) (spans : List A)
    → text_of (template_pieces head (laid_spans n (map f spans))) ≡ head ++ flat_map (λ of. span_text (f of n)) spans
template_text f n head [] = refl
template_text f n head (x ∷ xs) =
    ap (λ t. head ++ t) (spans_text n (f x n) (laid_spans n (map f xs))
    ∙ ap (λ t. span_text (f x n) ++ t) (map_flat (λ (g : Span). g n) span_text (map f xs) ∙ map_flat f (λ (g : Span). span_text (g n)) xs))

-- ---- lines

pub lines_none : {A : Type 0} (f : A → Laid) (n : ℕ) → text_of (lines n (map f [])) ≡ []
lines_none f n = refl

pub lines_step : {A : Type 0} (f : A → Laid) (n : ℕ) (x : A) (xs : List A)
    → text_of (lines n (map f (x ∷ xs))) ≡ text_of (new_line (suc n)) ++ (text_of (f x (suc n)) ++ text_of (lines n (map f xs)))
lines_step f n x xs =
    text_join (new_line (suc n) ++ f x (suc n)) (lines n (map f xs))
    ∙ ap (λ t. t ++ text_of (lines n (map f xs))) (text_join (new_line (suc n)) (f x (suc n)))
    ∙ append_assoc (text_of (new_line (suc n))) (text_of (f x (suc n))) (text_of (lines n (map f xs)))

-- ---- further lines

abbrev pub blanks : List ℕ
blanks = codes "    "

pub repeat_step : (n k : ℕ) → k < n → repeat (n - k) blanks ≡ blanks ++ repeat (n - (k + 1)) blanks
repeat_step n k less = let e : n - k ≡ suc (n - (k + 1)) = omega (arith, less) in ap (λ m. repeat m blanks) e

-- what stands written once the line has all its blanks
pub line_ended : (o before w : List ℕ) (n k : ℕ) → n ≤ k → o ++ repeat (n - k) blanks ≡ w ++ repeat n blanks → w ≡ before ++ codes "\n" → o ≡ before ++ text_of (new_line n)
line_ended o before w n k past is first =
    let e : n - k ≡ 0 = omega (arith, past) in
    sym (append-nil o) ∙ ap (λ m. o ++ repeat m blanks) (sym e) ∙ is ∙ ap (λ t. t ++ repeat n blanks) first
    ∙ append_assoc before (codes "\n") (repeat n blanks) ∙ ap (λ t. before ++ t) (sym (append-nil (codes "\n" ++ repeat n blanks)))

pub line_further : (o new all : List ℕ) (n k : ℕ) → k < n → new ≡ o ++ blanks → o ++ repeat (n - k) blanks ≡ all → new ++ repeat (n - (k + 1)) blanks ≡ all
line_further o new all n k less new_is is =
    ap (λ t. t ++ repeat (n - (k + 1)) blanks) new_is ∙ append_assoc o blanks (repeat (n - (k + 1)) blanks)
    ∙ ap (λ t. o ++ t) (sym (repeat_step n k less)) ∙ is

pub assoc : (a b c : List ℕ) → a ++ b ++ c ≡ a ++ (b ++ c)
assoc a b c = append_assoc a b c
