-- Lists one behind another, and one member further.
use Rattle.std.proofs.Common.{◌≡◌, ℕ, ◌+◌, ◌<◌, ◌≤◌, take, drop, Bool, true, false, cond, map, List, [], ◌∷◌, ◌++◌, length, get_or, refl, sym, ap, subst, ◌∙◌, append_assoc, append-nil, arith}
use Rattle.std.specs.Prelude.{Result, OnOk}
use Rattle.std.specs.List.{filter, flat_map}
use Rattle.std.proofs.lemmas.Result.{on_ok_weaker}
use Rattle.std.proofs.lemmas.List.{take_more, take_all, drop_more, map_push}
use Rattle.std.proofs.lemmas.Grind.{flat_map-append}

pub assoc : {X : Type 0} (a b c : List X) → a ++ b ++ c ≡ a ++ (b ++ c)
assoc a b c = append_assoc a b c

pub taken : {X : Type 0} (xs : List X) (i : ℕ) (x : X) → i < length xs → x ≡ get_or xs i x → take (i + 1) xs ≡ take i xs ++ x ∷ []
taken xs i x lt e = take_more xs i x lt ∙ ap (λ y. take i xs ++ y ∷ []) (sym e)

pub flat_push : {X Y : Type 0} (f : X → List Y) (xs : List X) (x : X) → flat_map f (xs ++ x ∷ []) ≡ flat_map f xs ++ f x
flat_push f xs x = flat_map-append f xs (x ∷ []) ∙ ap (λ l. flat_map f xs ++ l) (append-nil (f x))

pub filter_all : {X : Type 0} (p : X → Bool) (xs : List X) → ((x : X) → p x ≡ true) → filter p xs ≡ xs
filter_all p [] all = refl
filter_all p (x ∷ xs) all = ap (λ b. cond b (x ∷ filter p xs) (filter p xs)) (all x) ∙ ap (λ l. x ∷ l) (filter_all p xs all)

pub filter_same : {X : Type 0} (p q : X → Bool) (xs : List X) → ((x : X) → p x ≡ q x) → filter p xs ≡ filter q xs
filter_same p q [] same = refl
filter_same p q (x ∷ xs) same = ap (λ b. cond b (x ∷ filter p xs) (filter p xs)) (same x) ∙ ap (λ l. cond (q x) (x ∷ l) l) (filter_same p q xs same)

filter_one : {X : Type 0} (p : X → Bool) (x : X) (ys : List X) → cond (p x) (x ∷ ys) ys ≡ cond (p x) (x ∷ []) [] ++ ys
filter_one p x ys = elim (p x) as (λ b. cond b (x ∷ ys) ys ≡ cond b (x ∷ []) [] ++ ys) [ true ↦ refl | false ↦ refl ]

filter_join : {X : Type 0} (p : X → Bool) (xs ys : List X) → filter p (xs ++ ys) ≡ filter p xs ++ filter p ys
filter_join p [] ys = refl
filter_join p (x ∷ xs) ys =
    filter_one p x (filter p (xs ++ ys)) ∙ ap (λ l. cond (p x) (x ∷ []) [] ++ l) (filter_join p xs ys)
    ∙ sym (append_assoc (cond (p x) (x ∷ []) []) (filter p xs) (filter p ys)) ∙ ap (λ l. l ++ filter p ys) (sym (filter_one p x (filter p xs)))

-- what stands behind what passed, where one more was asked
pub filter_push : {X : Type 0} (p : X → Bool) (xs : List X) (x : X) → filter p (xs ++ x ∷ []) ≡ filter p xs ++ cond (p x) (x ∷ []) []
filter_push p xs x = filter_join p xs (x ∷ [])

-- one member more, in what was written for all of them
pub more_flat : {X Y : Type 0} (f : X → List Y) (all : List X) (i : ℕ) (x : X) (start before after : List Y) → i < length all → x ≡ get_or all i x
    → before ≡ start ++ flat_map f (take i all) → after ≡ before ++ f x → after ≡ start ++ flat_map f (take (i + 1) all)
more_flat f all i x start before after lt is was grew =
    grew ∙ ap (λ l. l ++ f x) was ∙ append_assoc start (flat_map f (take i all)) (f x)
    ∙ ap (λ l. start ++ l) (sym (ap (flat_map f) (taken all i x lt is) ∙ flat_push f (take i all) x))

pub whole_flat : {X Y : Type 0} (f : X → List Y) (all : List X) (i : ℕ) (start now : List Y) → length all ≤ i → now ≡ start ++ flat_map f (take i all) → now ≡ start ++ flat_map f all
whole_flat f all i start now past is = is ∙ ap (λ l. start ++ flat_map f l) (take_all i all past)

pub dropped : {X : Type 0} (xs : List X) (i : ℕ) (x : X) → i < length xs → x ≡ get_or xs i x → drop i xs ≡ x ∷ drop (i + 1) xs
dropped xs i x lt e = drop_more xs i x lt ∙ ap (λ y. y ∷ drop (i + 1) xs) (sym e)

-- ---- what was added by the parts of a form

pub nothing : {X : Type 0} (o whole : List X) → whole ≡ [] → o ≡ o ++ whole
nothing o whole none = sym (append-nil o) ∙ ap (λ l. o ++ l) (sym none)

pub one : {X T E : Type 0} (r : Result T E) (o0 o1 part whole : List X) → OnOk r (o1 ≡ o0 ++ part) → part ≡ whole → OnOk r (o1 ≡ o0 ++ whole)
one r o0 o1 part whole h is = on_ok_weaker r (λ (e : o1 ≡ o0 ++ part). e ∙ ap (λ l. o0 ++ l) is) h

pub single : {X : Type 0} (o0 o1 a a1 whole : List X) → o1 ≡ o0 ++ a → a ≡ a1 → whole ≡ a1 → o1 ≡ o0 ++ whole
single o0 o1 a a1 whole f p is = f ∙ ap (λ l. o0 ++ l) (p ∙ sym is)

pub two : {X : Type 0} (o0 o1 o2 a b a1 b1 whole : List X) → o1 ≡ o0 ++ a → o2 ≡ o1 ++ b → a ≡ a1 → b ≡ b1 → whole ≡ a1 ++ b1 → o2 ≡ o0 ++ whole
two o0 o1 o2 a b a1 b1 whole f g p q is =
    g ∙ ap (λ l. l ++ b) f ∙ append_assoc o0 a b ∙ ap (λ l. o0 ++ (l ++ b)) p ∙ ap (λ l. o0 ++ (a1 ++ l)) q ∙ ap (λ l. o0 ++ l) (sym is)

pub three : {X : Type 0} (o0 o1 o2 o3 a b c a1 b1 c1 whole : List X) → o1 ≡ o0 ++ a → o2 ≡ o1 ++ b → o3 ≡ o2 ++ c → a ≡ a1 → b ≡ b1 → c ≡ c1 → whole ≡ a1 ++ b1 ++ c1 → o3 ≡ o0 ++ whole
three o0 o1 o2 o3 a b c a1 b1 c1 whole f g h p q r is = two o0 o2 o3 (a1 ++ b1) c (a1 ++ b1) c1 whole (two o0 o1 o2 a b a1 b1 (a1 ++ b1) f g p q refl) h refl r is

pub four : {X : Type 0} (o0 o1 o2 o3 o4 a b c d a1 b1 c1 d1 whole : List X) → o1 ≡ o0 ++ a → o2 ≡ o1 ++ b → o3 ≡ o2 ++ c → o4 ≡ o3 ++ d → a ≡ a1 → b ≡ b1 → c ≡ c1 → d ≡ d1
    → whole ≡ a1 ++ b1 ++ c1 ++ d1 → o4 ≡ o0 ++ whole
four o0 o1 o2 o3 o4 a b c d a1 b1 c1 d1 whole f g h k p q r s is = two o0 o3 o4 (a1 ++ b1 ++ c1) d (a1 ++ b1 ++ c1) d1 whole (three o0 o1 o2 o3 a b c a1 b1 c1 (a1 ++ b1 ++ c1) f g h p q r refl) k refl s is

pub begun : {X : Type 0} (o : List X) → o ≡ o ++ []
begun o = sym (append-nil o)

-- what holds once it is done holds of what is the same
pub moved : {A T E : Type 0} (P : A → Type 0) (r : Result T E) (a b : A) → b ≡ a → OnOk r (P a) → OnOk r (P b)
moved P r a b is h = on_ok_weaker r (λ (x : P a). subst P (sym is) x) h

pub more_map : {X Y : Type 0} (f : X → Y) (all : List X) (i : ℕ) (x : X) (before after : List Y) (y : Y) → i < length all → x ≡ get_or all i x
    → before ≡ map f (take i all) → y ≡ f x → after ≡ before ++ y ∷ [] → after ≡ map f (take (i + 1) all)
more_map f all i x before after y lt is was made grew =
    grew ∙ ap (λ l. l ++ y ∷ []) was ∙ ap (λ z. map f (take i all) ++ z ∷ []) made
    ∙ sym (ap (map f) (taken all i x lt is) ∙ map_push f (take i all) x)

pub more_taken : {X : Type 0} (all : List X) (i : ℕ) (x y : X) (before after : List X) → i < length all → x ≡ get_or all i x → before ≡ take i all → y ≡ x → after ≡ before ++ y ∷ [] → after ≡ take (i + 1) all
more_taken all i x y before after lt is was same grew =
    grew ∙ ap (λ l. l ++ y ∷ []) was ∙ ap (λ z. take i all ++ z ∷ []) same ∙ sym (taken all i x lt is)

pub nothing_left : {X : Type 0} (xs : List X) → length xs ≡ 0 → xs ≡ []
nothing_left [] e = refl
nothing_left (x ∷ xs) e = absurd (omega arith)
