-- The end of a walk: the last row, the answer that it gives, and what is cut off.
use Rattle.std.proofs.Common.{◌≡◌, ℕ, zero, suc, ◌+◌, ◌<◌, ◌≢◌, Bool, true, false, List, [], ◌∷◌, ◌++◌, length, take, drop, map, get_or, set, refl, sym, ap, ◌∙◌, subst, inl, inr, arith, get_or-set_other, get_or-set_same}
use Rattle.std.specs.Prelude.{◌&&◌, ◌||◌, ◌==◌, min}
use Rattle.std.specs.List.{list_any, slice_split, take-map}
use Rattle.std.proofs.lemmas.Bool.{cases_eq}
use Rattle.std.proofs.lemmas.List.{drop_all, drop_min, take_min, drop-map}
use denote.Ref.{Bor}
use Rattle.tb_text.specs.Paths.{segments}
use Rattle.tb_text.specs.Walks.{texts}
use Rattle.tb_globs.specs.Globs.{through, fits_then, fits, may_pass, part_then, all_match, fronts, parts_match, last_of, named_parts, own_part}
use Rattle.tb_globs.specs.Rows.{IsRow, ends, reaches}
use Rattle.tb_globs.specs.declared.parts.Part.{Part}
use Rattle.tb_globs.specs.declared.parts.Part.TheVariants.{Folders, Literal, Wild}
use Rattle.tb_globs.specs.declared.parts.UseOf.{UseOf}
use Rattle.tb_globs.specs.declared.parts.UseOf.TheVariants.{Include, Exclude}

-- ---- the last row

ends_none : (usage : UseOf) → ends usage [] ≡ true
ends_none Include = refl
ends_none Exclude = refl

ends_some : (usage : UseOf) (ss : List (List ℕ)) → 0 < length ss → ends usage ([] ∷ []) ≡ ends usage ss
ends_some usage [] l = absurd (omega (arith, l))
ends_some Include (s ∷ ss) l = refl
ends_some Exclude (s ∷ ss) l = refl

some_left : (ss : List (List ℕ)) (k : ℕ) → k < length ss → 0 < length (drop k ss)
some_left [] k l = absurd (omega (arith, l))
some_left (s ∷ ss) zero l = omega arith
some_left (s ∷ ss) (suc k) l = some_left ss k (omega (arith, l))

pub end_row : (usage : UseOf) (row : List Bool) (v : Bool) (n : ℕ) (ss : List (List ℕ)) → v ≡ ends usage ([] ∷ []) → ((k : ℕ) → k < length row → get_or row k false ≡ v) → n ≡ length ss → length row ≡ length ss + 1 → IsRow (set row n true) (ends usage) ss
end_row usage row v n ss is_v all e len = record {
  at = λ k l. elim (cases_eq k n) [
    | inl same ↦ subst (λ (j : ℕ). get_or (set row n true) j false ≡ ends usage (drop j ss)) (sym same)
        (get_or-set_same row n true false (omega arith) ∙ sym (ends_none usage) ∙ sym (ap (ends usage) (drop_all n ss (omega arith))))
    | inr differs ↦ let other : k ≢ n = differs in
        rw get_or-set_other (all k (omega (arith, differs)) ∙ is_v ∙ ends_some usage (drop k ss) (some_left ss k (omega (arith, differs))))
  ];
}

-- ---- what the first answer says

through_same : (usage : UseOf) (f g : List (List ℕ) → Bool) → ((ss : List (List ℕ)) → f ss ≡ g ss) → (ss : List (List ℕ)) → through usage f ss ≡ through usage g ss
through_same usage f g h [] = h []
through_same usage f g h (s ∷ ss) = ap (λ (a : Bool). a || may_pass usage s && through usage f ss) (h (s ∷ ss)) ∙ ap (λ (a : Bool). g (s ∷ ss) || may_pass usage s && a) (through_same usage f g h ss)

fits_same : (usage : UseOf) (part : Part) (f g : List (List ℕ) → Bool) → ((ss : List (List ℕ)) → f ss ≡ g ss) → (ss : List (List ℕ)) → fits_then usage part f ss ≡ fits_then usage part g ss
fits_same usage part f g h [] = refl
fits_same usage part f g h (s ∷ ss) = ap (λ (a : Bool). fits usage part s && a) (h ss)

part_same : (usage : UseOf) (part : Part) (f g : List (List ℕ) → Bool) → ((ss : List (List ℕ)) → f ss ≡ g ss) → (ss : List (List ℕ)) → part_then usage part f ss ≡ part_then usage part g ss
part_same usage Folders f g h ss = through_same usage f g h ss
part_same usage (Literal name) f g h ss = fits_same usage (Literal name) f g h ss
part_same usage (Wild ps) f g h ss = fits_same usage (Wild ps) f g h ss

all_reached : (parts : List Part) (ss : List (List ℕ)) → all_match Include parts ss ≡ reaches Include parts ss
all_reached [] [] = refl
all_reached [] (s ∷ ss) = refl
all_reached (part ∷ parts) ss = part_same Include part (all_match Include parts) (reaches Include parts) (all_reached parts) ss

-- some front of the segments passes
abbrev some_front : (List (List ℕ) → Bool) → List (List ℕ) → Bool
some_front f ss = list_any f (fronts ss)

any_map : {A B : Type 0} (f : B → Bool) (g : A → B) (xs : List A) → list_any f (map g xs) ≡ list_any (λ x. f (g x)) xs
any_map f g [] = refl
any_map f g (x ∷ xs) = ap (λ (a : Bool). f (g x) || a) (any_map f g xs)

any_and : {A : Type 0} (b : Bool) (f : A → Bool) (xs : List A) → list_any (λ x. b && f x) xs ≡ (b && list_any f xs)
any_and true f xs = refl
any_and false f [] = refl
any_and false f (x ∷ xs) = any_and false f xs

or_swap : (a b c d : Bool) → ((a || b) || (c || d)) ≡ ((a || c) || (b || d))
or_swap true b c d = refl
or_swap false true true d = refl
or_swap false true false d = refl
or_swap false false c d = refl

any_or : {A : Type 0} (f g : A → Bool) (xs : List A) → list_any (λ x. f x || g x) xs ≡ (list_any f xs || list_any g xs)
any_or f g [] = refl
any_or f g (x ∷ xs) = ap (λ (a : Bool). (f x || g x) || a) (any_or f g xs) ∙ or_swap (f x) (g x) (list_any f xs) (list_any g xs)

or_assoc : (a b c : Bool) → (a || (b || c)) ≡ ((a || b) || c)
or_assoc true b c = refl
or_assoc false b c = refl

through_front : (f : List (List ℕ) → Bool) (ss : List (List ℕ)) → some_front (through Exclude f) ss ≡ through Exclude (some_front f) ss
through_front f [] = refl
through_front f (s ∷ ss) =
    ap (λ (a : Bool). f [] || a) (any_map (through Exclude f) (λ front. s ∷ front) (fronts ss)
    ∙ any_or (λ front. f (s ∷ front)) (λ front. true && through Exclude f front) (fronts ss)
    ∙ ap (λ (a : Bool). a || list_any (through Exclude f) (fronts ss)) (sym (any_map f (λ front. s ∷ front) (fronts ss)))
    ∙ ap (λ (a : Bool). list_any f (map (λ front. s ∷ front) (fronts ss)) || a) (through_front f ss))
    ∙ or_assoc (f []) (list_any f (map (λ front. s ∷ front) (fronts ss))) (through Exclude (some_front f) ss)

fits_front : (part : Part) (f : List (List ℕ) → Bool) (ss : List (List ℕ)) → some_front (fits_then Exclude part f) ss ≡ fits_then Exclude part (some_front f) ss
fits_front part f [] = refl
fits_front part f (s ∷ ss) = any_map (fits_then Exclude part f) (λ front. s ∷ front) (fronts ss) ∙ any_and (fits Exclude part s) f (fronts ss)

part_front : (part : Part) (f : List (List ℕ) → Bool) (ss : List (List ℕ)) → some_front (part_then Exclude part f) ss ≡ part_then Exclude part (some_front f) ss
part_front Folders f ss = through_front f ss
part_front (Literal name) f ss = fits_front (Literal name) f ss
part_front (Wild ps) f ss = fits_front (Wild ps) f ss

front_reached : (parts : List Part) (ss : List (List ℕ)) → some_front (all_match Exclude parts) ss ≡ reaches Exclude parts ss
front_reached [] [] = refl
front_reached [] (s ∷ ss) = refl
front_reached (part ∷ parts) ss = part_front part (all_match Exclude parts) ss ∙ part_same Exclude part (some_front (all_match Exclude parts)) (reaches Exclude parts) (front_reached parts) ss

pub reached : (usage : UseOf) (parts : List Part) (ss : List (List ℕ)) → reaches usage parts ss ≡ parts_match usage parts ss
reached Include parts ss = sym (all_reached parts ss)
reached Exclude parts ss = sym (front_reached parts ss)

-- ---- segments

pub segments_full : (text : List ℕ) → 0 < length text → segments text ≡ slice_split (λ b. b == 47) text
segments_full [] some = absurd (omega (arith, some))
segments_full (b ∷ rest) some = refl

pub last_text : (ss : List (Bor (List ℕ))) (n : ℕ) (d : Bor (List ℕ)) → length ss ≡ n + 1 → (get_or ss n d).now ≡ last_of (texts ss)
last_text [] n d e = absurd (omega (arith, e))
last_text (s ∷ []) zero d e = refl
last_text (s ∷ []) (suc n) d e = absurd (omega (arith, e))
last_text (s ∷ next ∷ rest) zero d e = absurd (omega (arith, e))
last_text (s ∷ next ∷ rest) (suc n) d e = last_text (next ∷ rest) n d (omega (arith, e))

pub named_is : (ss : List (Bor (List ℕ))) (n k : ℕ) (front back : List (Bor (List ℕ))) → k ≡ min n (length ss) → front ≡ take k ss → back ≡ drop k ss → map Literal (texts front) ++ map own_part (texts back) ≡ named_parts n (texts ss)
named_is ss n k front back e is_front is_back =
    let first : texts front ≡ take n (texts ss) = ap texts (is_front ∙ ap (λ (j : ℕ). take j ss) e ∙ take_min n ss) ∙ sym (take-map (λ s. s.now) n ss) in
    let later : texts back ≡ drop n (texts ss) = ap texts (is_back ∙ ap (λ (j : ℕ). drop j ss) e ∙ drop_min n ss) ∙ sym (drop-map (λ s. s.now) n ss) in
    ap (λ (xs : List (List ℕ)). map Literal xs ++ map own_part (texts back)) first ∙ ap (λ (xs : List (List ℕ)). map Literal (take n (texts ss)) ++ map own_part xs) later
