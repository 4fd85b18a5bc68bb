-- The paths of outputs lie in the output folder, and differ.
use Rattle.std.proofs.Common.{◌≡◌, ◌⊎◌, inl, inr, ℕ, ◌<◌, ◌==◌, Bool, true, false, List, [], ◌∷◌, ◌++◌, length, get_or, reverse, refl, sym, ap, ◌∙◌, codes, arith, append_assoc, length-append}
use Rattle.std.specs.Prelude.{◌&&◌, ◌||◌, Some}
use Rattle.std.specs.Str.{bytes_eq}
use Rattle.std.proofs.lemmas.Bool.{true≢false}
use Rattle.std.proofs.lemmas.List.{append_cancel_left, append_cancel_right, reverse-append}
use Rattle.std.proofs.lemmas.Slice.Eq.{bytes_eq-Decides}
use Rattle.tb_text.specs.Paths.{is_inside, is_proper_front, path_text, segments}
use Rattle.tb_text.proofs.Inside.{inside_root}
use Rattle.tb_text.proofs.Segments.{and_both, inside_folder, text_back}
use Rattle.tb_face.specs.Outputs.{in_folder, output_text, info_text, stem_text}
use Rattle.tb_face.proofs.Stems.{stem_is}
use Rattle.tb_plan.specs.Folders.{is_shared}

-- ---- in the folder

pub inside : (folder name : List ℕ) → 0 < length name → is_inside folder (in_folder folder name) ≡ true
inside [] name some = (inside_root name).1 some
inside (b ∷ rest) name some = (inside_folder b rest (in_folder (b ∷ rest) name)).1 (name, append_assoc (b ∷ rest) (codes "/") name)

pub output_inside : (folder stem ending : List ℕ) → 0 < length ending → is_inside folder (output_text folder stem ending) ≡ true
output_inside folder stem ending some = inside folder (stem ++ ending) (omega (arith, some, length-append stem ending))

pub info_inside : (folder : List ℕ) → is_inside folder (info_text folder) ≡ true
info_inside folder = inside folder (codes "tsconfig.tsbuildinfo") (omega arith)

-- ---- they differ

same_name : (folder x y : List ℕ) → in_folder folder x ≡ in_folder folder y → x ≡ y
same_name [] x y e = e
same_name (b ∷ rest) x y e = append_cancel_left ((b ∷ rest) ++ codes "/") x y e

-- outputs with one ending differ in their stems
pub one_stem : (folder s t ending : List ℕ) → output_text folder s ending ≡ output_text folder t ending → s ≡ t
one_stem folder s t ending e = append_cancel_right s t ending (same_name folder (s ++ ending) (t ++ ending) e)

-- read from the end
backwards : (folder s t x y : List ℕ) → in_folder folder (s ++ x) ≡ in_folder folder (t ++ y) → reverse x ++ reverse s ≡ reverse y ++ reverse t
backwards folder s t x y e = sym (reverse-append s x) ∙ ap reverse (same_name folder (s ++ x) (t ++ y) e) ∙ reverse-append t y

-- the byte at this place from the end
at_end : ℕ → List ℕ → ℕ
at_end place bytes = get_or bytes place 0

pub js_not_declaration : (folder s t : List ℕ) → output_text folder s (codes ".js") ≡ output_text folder t (codes ".d.ts") → ⊥
unfolding at_end
js_not_declaration folder s t e = true≢false (ap (λ (bytes : List ℕ). at_end 1 bytes == 106) (backwards folder s t (codes ".js") (codes ".d.ts") e))

pub js_not_info : (folder s : List ℕ) → output_text folder s (codes ".js") ≡ info_text folder → ⊥
unfolding at_end
js_not_info folder s e = true≢false (ap (λ (bytes : List ℕ). at_end 0 bytes == 115) (backwards folder s [] (codes ".js") (codes "tsconfig.tsbuildinfo") e))

pub declaration_not_info : (folder s : List ℕ) → output_text folder s (codes ".d.ts") ≡ info_text folder → ⊥
unfolding at_end
declaration_not_info folder s e = true≢false (ap (λ (bytes : List ℕ). at_end 0 bytes == 115) (backwards folder s [] (codes ".d.ts") (codes "tsconfig.tsbuildinfo") e))

-- paths with one stem in a root are one
pub one_path : (root p q stem : List ℕ) → stem_text root p ≡ Some stem → stem_text root q ≡ Some stem → p ≡ q
one_path root p q stem a b = ((stem_is root p stem).0 a).0 ∙ sym ((stem_is root q stem).0 b).0

-- ---- folders apart

both : {a b : Bool} → a ≡ true → b ≡ true → (a && b) ≡ true
both {b = b} p q = ap (λ v. v && b) p ∙ q

-- two proper fronts of a list are one, or one is a proper front of the other
fronts : (xs ys zs : List (List ℕ)) → is_proper_front xs zs ≡ true → is_proper_front ys zs ≡ true
    → (xs ≡ ys) ⊎ (is_proper_front xs ys ≡ true) ⊎ (is_proper_front ys xs ≡ true)
fronts [] [] zs a b = inl refl
fronts [] (y ∷ ys) zs a b = inr (inl refl)
fronts (x ∷ xs) [] zs a b = inr (inr refl)
fronts (x ∷ xs) (y ∷ ys) [] a b = absurd (cc)
fronts (x ∷ xs) (y ∷ ys) (z ∷ zs) a b =
    let one = and_both (bytes_eq x z) (is_proper_front xs zs) a in
    let two = and_both (bytes_eq y z) (is_proper_front ys zs) b in
    let same : x ≡ y = (bytes_eq-Decides x z).0 one.0 ∙ sym ((bytes_eq-Decides y z).0 two.0) in
    elim (fronts xs ys zs one.1 two.1) [
      | inl e ↦ inl (λ i. same i ∷ e i)
      | inr more ↦ elim more [
        | inl f ↦ inr (inl (both ((bytes_eq-Decides x y).1 same) f))
        | inr g ↦ inr (inr (both ((bytes_eq-Decides y x).1 (sym same)) g))
      ]
    ]

none_of : (a b c : Bool) → (a || b || c) ≡ false → (a ≡ false) × (b ≡ false) × (c ≡ false)
none_of true b c e = absurd (cc)
none_of false true c e = absurd (cc)
none_of false false c e = (refl, refl, e)

-- no path lies in two folders that are apart
pub not_both : (f g path : List ℕ) → is_shared f g ≡ false → is_inside f path ≡ true → is_inside g path ≡ true → ⊥
not_both f g path apart a b =
    let none = none_of (bytes_eq f g) (is_inside f g) (is_inside g f) apart in
    elim (fronts (segments f) (segments g) (segments path) a b) [
      | inl e ↦ true≢false (sym ((bytes_eq-Decides f g).1 (sym (text_back f) ∙ ap path_text e ∙ text_back g)) ∙ none.0)
      | inr more ↦ elim more [
        | inl h ↦ true≢false (sym h ∙ none.1)
        | inr h ↦ true≢false (sym h ∙ none.2)
      ]
    ]
