-- What is written for pieces that stand one behind another, and for lists.
use Rattle.std.proofs.Common.{◌≡◌, ℕ, suc, ◌≤◌, Bool, true, false, List, [], ◌∷◌, ◌++◌, map, flat_map, length, drop, codes, refl, ap, sym, arith, ◌∙◌, append_assoc}
use Rattle.std.proofs.lemmas.List.{append-nil, drop_all}
use Rattle.std.proofs.lemmas.Grind.{flat_map-append}
use Rattle.tb_tree.specs.declared.marks.Mark.TheVariants as m
use Rattle.tb_tree.specs.declared.types.TypeExpr.{TypeExpr}
use Rattle.tb_layout.specs.Pieces.{Piece, mark, space, listed, piece_text, text_of}
use Rattle.tb_layout.specs.Shown.{shown_type, barred, angled_pieces, inline_pieces, body_pieces}
use Rattle.tb_show.specs.Lists.{further_text}
use Rattle.tb_show.specs.Loose.{part_pieces}

pub text_join : (xs ys : List Piece) → text_of (xs ++ ys) ≡ text_of xs ++ text_of ys
text_join xs ys = flat_map-append piece_text xs ys

pub assoc : (a b c : List ℕ) → a ++ b ++ c ≡ a ++ (b ++ c)
assoc a b c = append_assoc a b c

-- ---- lists with a gap between their members

abbrev behind : {A : Type 0} → List ℕ → (A → List Piece) → A → List ℕ
behind gap f x = gap ++ text_of (f x)

further_some : {A : Type 0} (gap : List ℕ) (f : A → List Piece) (xs : List A) → further_text gap f true xs ≡ flat_map (behind gap f) xs
further_some gap f [] = refl
further_some gap f (x ∷ xs) =
    ap (λ t. gap ++ (text_of (f x) ++ t)) (further_some gap f xs) ∙ sym (append_assoc gap (text_of (f x)) (flat_map (behind gap f) xs))

further_first : {A : Type 0} (gap : List ℕ) (f : A → List Piece) (x : A) (xs : List A)
    → further_text gap f false (x ∷ xs) ≡ text_of (f x) ++ flat_map (behind gap f) xs
further_first gap f x xs = ap (λ t. text_of (f x) ++ t) (further_some gap f xs)

listed_first : {A : Type 0} (f : A → List Piece) (x : A) (xs : List A)
    → text_of (listed (map f (x ∷ xs))) ≡ text_of (f x) ++ flat_map (behind (codes ", ") f) xs
listed_first f x [] = sym (append-nil (text_of (f x)))
listed_first f x (y ∷ ys) =
    let rest = listed (map f (y ∷ ys)) in
    text_join (f x ++ mark m.Comma ++ space) rest
    ∙ ap (λ t. t ++ text_of rest) (text_join (f x ++ mark m.Comma) space ∙ ap (λ t. t ++ codes " ") (text_join (f x) (mark m.Comma)))
    ∙ ap (λ t. text_of (f x) ++ codes "," ++ codes " " ++ t) (listed_first f y ys)
    ∙ ap (λ t. t ++ (text_of (f y) ++ flat_map (behind (codes ", ") f) ys)) (append_assoc (text_of (f x)) (codes ",") (codes " "))
    ∙ append_assoc (text_of (f x)) (codes ", ") (text_of (f y) ++ flat_map (behind (codes ", ") f) ys)
    ∙ ap (λ t. text_of (f x) ++ t) (sym (append_assoc (codes ", ") (text_of (f y)) (flat_map (behind (codes ", ") f) ys)))

pub list_text : {A : Type 0} (f : A → List Piece) (xs : List A) → further_text (codes ", ") f false xs ≡ text_of (listed (map f xs))
list_text f [] = refl
list_text f (x ∷ xs) = further_first (codes ", ") f x xs ∙ sym (listed_first f x xs)

barred_first : (x : TypeExpr) (xs : List TypeExpr)
    → text_of (barred (map shown_type (x ∷ xs))) ≡ text_of (part_pieces x) ++ flat_map (behind (codes " | ") part_pieces) xs
barred_first x [] = sym (append-nil (text_of (part_pieces x)))
barred_first x (y ∷ ys) =
    let rest = barred (map shown_type (y ∷ ys)) in
    text_join (part_pieces x ++ space ++ mark m.Bar ++ space) rest
    ∙ ap (λ t. t ++ text_of rest) (text_join (part_pieces x ++ space ++ mark m.Bar) space
    ∙ ap (λ t. t ++ codes " ") (text_join (part_pieces x ++ space) (mark m.Bar) ∙ ap (λ t. t ++ codes "|") (text_join (part_pieces x) space)))
    ∙ ap (λ t. text_of (part_pieces x) ++ codes " " ++ codes "|" ++ codes " " ++ t) (barred_first y ys)
    ∙ ap (λ t. t ++ (text_of (part_pieces y) ++ flat_map (behind (codes " | ") part_pieces) ys))
    (append_assoc (text_of (part_pieces x) ++ codes " ") (codes "|") (codes " ") ∙ append_assoc (text_of (part_pieces x)) (codes " ") (codes "| "))
    ∙ append_assoc (text_of (part_pieces x)) (codes " | ") (text_of (part_pieces y) ++ flat_map (behind (codes " | ") part_pieces) ys)
    ∙ ap (λ t. text_of (part_pieces x) ++ t) (sym (append_assoc (codes " | ") (text_of (part_pieces y)) (flat_map (behind (codes " | ") part_pieces) ys)))

pub bar_list_text : (xs : List TypeExpr) → further_text (codes " | ") part_pieces false xs ≡ text_of (barred (map shown_type xs))
bar_list_text [] = refl
bar_list_text (x ∷ xs) = further_first (codes " | ") part_pieces x xs ∙ sym (barred_first x xs)

-- what stands written once each member does
pub list_whole : {A : Type 0} (gap : List ℕ) (f : A → List Piece) (o before all : List ℕ) (xs : List A) (some : Bool) (k : ℕ) → length xs ≤ k
    → further_text gap f false xs ≡ all → o ++ further_text gap f some (drop k xs) ≡ before ++ further_text gap f false xs → o ≡ before ++ all
list_whole gap f o before all xs some k past whole is =
    sym (append-nil o) ∙ ap (λ ys. o ++ further_text gap f some ys) (sym (drop_all k xs past)) ∙ is ∙ ap (λ t. before ++ t) whole

-- ---- angles

pub angled_none : {A : Type 0} (f : A → List Piece) (xs : List A) → length xs ≤ 0 → text_of (angled_pieces (map f xs)) ≡ []
angled_none f [] few = refl
angled_none f (x ∷ xs) few = absurd (omega (arith, few))

pub angled_some : {A : Type 0} (f : A → List Piece) (xs : List A) → 1 ≤ length xs
    → text_of (angled_pieces (map f xs)) ≡ codes "<" ++ (text_of (listed (map f xs)) ++ codes ">")
angled_some f [] few = absurd (omega (arith, few))
angled_some f (x ∷ xs) few = text_join (mark m.Less ++ listed (map f (x ∷ xs))) (mark m.Greater)

-- ---- members on one line

pub body_none : {A : Type 0} (f : A → List Piece) (xs : List A) → length xs ≤ 0 → text_of (body_pieces (map f xs)) ≡ codes "{}"
body_none f [] few = refl
body_none f (x ∷ xs) few = absurd (omega (arith, few))

pub body_some : {A : Type 0} (f : A → List Piece) (xs : List A) → 1 ≤ length xs
    → text_of (body_pieces (map f xs)) ≡ codes "{" ++ (text_of (flat_map inline_pieces (map f xs)) ++ codes " }")
body_some f [] few = absurd (omega (arith, few))
body_some f (x ∷ xs) few =
    let inner = flat_map inline_pieces (map f (x ∷ xs)) in
    text_join (mark m.OpenBrace ++ inner ++ space) (mark m.CloseBrace)
    ∙ ap (λ t. t ++ codes "}") (text_join (mark m.OpenBrace ++ inner) space)
    ∙ ap (λ t. codes "{" ++ t) (append_assoc (text_of inner) (codes " ") (codes "}"))

pub inline_step : {A : Type 0} (f : A → List Piece) (x : A) (xs : List A)
    → text_of (flat_map inline_pieces (map f (x ∷ xs))) ≡ codes " " ++ (text_of (f x) ++ (codes ";" ++ text_of (flat_map inline_pieces (map f xs))))
inline_step f x xs =
    text_join (inline_pieces (f x)) (flat_map inline_pieces (map f xs))
    ∙ ap (λ t. t ++ text_of (flat_map inline_pieces (map f xs))) (text_join (space ++ f x) (mark m.Semicolon))
    ∙ append_assoc (codes " " ++ text_of (f x)) (codes ";") (text_of (flat_map inline_pieces (map f xs)))
