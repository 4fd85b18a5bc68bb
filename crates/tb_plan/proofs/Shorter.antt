-- The text `x.ts` is a path where `x.d.ts` is one.
use Rattle.std.proofs.Common.{◌≡◌, ℕ, zero, suc, ◌<◌, ◌≤◌, ◌==◌, Bool, true, false, cond, List, [], ◌∷◌, ◌++◌, length, refl, sym, ap, ◌∙◌, arith, length-append}
use Rattle.std.specs.Prelude.{◌&&◌, not, nat_le, codes}
use Rattle.std.specs.List.{list_all, onto_first}
use Rattle.std.specs.Str.{bytes_eq}
use Rattle.std.proofs.lemmas.Bool.{leb-true, le-leb}
use Rattle.std.proofs.lemmas.List.Folds.{list_all-append}
use Rattle.std.proofs.lemmas.List.Splits.{slice_split_none}
use Rattle.std.proofs.lemmas.Slice.Eq.{bytes_eq-Decides}
use Rattle.tb_text.specs.Paths.{is_path, is_segment, is_dots, segments}
use Rattle.tb_text.specs.Walks.{Bare}
use Rattle.tb_text.proofs.Segments.{split, and_both, some_part, segments_full}

-- the last of some segments goes on
with_end : List (List ℕ) → List ℕ → List (List ℕ)
with_end [] e = []
with_end (s ∷ []) e = (s ++ e) ∷ []
with_end (s ∷ t ∷ rest) e = s ∷ with_end (t ∷ rest) e

onto_end : (b : ℕ) (parts : List (List ℕ)) (e : List ℕ) → 0 < length parts → with_end (onto_first b parts) e ≡ onto_first b (with_end parts e)
unfolding with_end
onto_end b [] e lt = absurd (omega arith)
onto_end b (s ∷ []) e lt = refl
onto_end b (s ∷ t ∷ rest) e lt = refl

end_step : (b : ℕ) (parts : List (List ℕ)) (e : List ℕ) (t : Bool) → 0 < length parts → with_end (cond t ([] ∷ parts) (onto_first b parts)) e ≡ cond t ([] ∷ with_end parts e) (onto_first b (with_end parts e))
unfolding with_end
end_step b [] e t lt = absurd (omega arith)
end_step b (s ∷ parts) e true lt = refl
end_step b (s ∷ parts) e false lt = onto_end b (s ∷ parts) e lt

split_end : (x e : List ℕ) → Bare e → split (x ++ e) ≡ with_end (split x) e
unfolding with_end
split_end [] e bare = slice_split_none (λ c. c == 47) e bare
split_end (b ∷ x) e bare =
    ap (λ (parts : List (List ℕ)). cond (b == 47) ([] ∷ parts) (onto_first b parts)) (split_end x e bare) ∙ sym (end_step b (split x) e (b == 47) (some_part x))

-- ---- one segment

abbrev is_clean : List ℕ → Bool
is_clean s = list_all (λ b. nat_le 32 b && not (b == 92)) s

not_equal : (s t : List ℕ) → ¬ (s ≡ t) → bytes_eq s t ≡ false
not_equal s t apart = elim (bytes_eq s t) as (λ b. bytes_eq s t ≡ b → b ≡ false) [ true ↦ λ e. absurd (apart ((bytes_eq-Decides s t).0 e)) | false ↦ λ e. refl ] refl

long_is_no_dots : (s : List ℕ) → 2 < length s → is_dots s ≡ false
long_is_no_dots s lt =
    let a = not_equal s [] (λ e. omega (arith, ap length e)) in
    let b = not_equal s (46 ∷ []) (λ e. omega (arith, ap length e)) in
    let c = not_equal s (46 ∷ 46 ∷ []) (λ e. omega (arith, ap length e)) in
    rw (a, b, c) refl

clean_front : (s e : List ℕ) → is_clean (s ++ e) ≡ true → is_clean s ≡ true
clean_front s e h = (and_both (is_clean s) (is_clean e) (sym (list_all-append (λ b. nat_le 32 b && not (b == 92)) s e) ∙ h)).0

short_segment : (s : List ℕ) → is_segment (s ++ codes ".d.ts") ≡ true → is_segment (s ++ codes ".ts") ≡ true
short_segment s h =
    let clean = clean_front s (codes ".d.ts") (and_both (not (is_dots (s ++ codes ".d.ts"))) (is_clean (s ++ codes ".d.ts")) h).1 in
    ap (λ b. not b && is_clean (s ++ codes ".ts")) (long_is_no_dots (s ++ codes ".ts") (omega (arith, length-append s (codes ".ts"))))
    ∙ list_all-append (λ b. nat_le 32 b && not (b == 92)) s (codes ".ts") ∙ ap (λ b. b && is_clean (codes ".ts")) clean

short_parts : (parts : List (List ℕ)) → list_all is_segment (with_end parts (codes ".d.ts")) ≡ true → list_all is_segment (with_end parts (codes ".ts")) ≡ true
unfolding with_end
short_parts [] h = refl
short_parts (s ∷ []) h = ap (λ b. b && true) (short_segment s (and_both (is_segment (s ++ codes ".d.ts")) true h).0)
short_parts (s ∷ t ∷ rest) h =
    let both = and_both (is_segment s) (list_all is_segment (with_end (t ∷ rest) (codes ".d.ts"))) h in
    ap (λ b. b && list_all is_segment (with_end (t ∷ rest) (codes ".ts"))) both.0 ∙ short_parts (t ∷ rest) both.1

bare_declaration : Bare (codes ".d.ts")
bare_declaration zero d lt = refl
bare_declaration (suc zero) d lt = refl
bare_declaration (suc (suc zero)) d lt = refl
bare_declaration (suc (suc (suc zero))) d lt = refl
bare_declaration (suc (suc (suc (suc zero)))) d lt = refl
bare_declaration (suc (suc (suc (suc (suc k))))) d lt = absurd (omega arith)

bare_source : Bare (codes ".ts")
bare_source zero d lt = refl
bare_source (suc zero) d lt = refl
bare_source (suc (suc zero)) d lt = refl
bare_source (suc (suc (suc k))) d lt = absurd (omega arith)

pub source_is_path : (x : List ℕ) → is_path (x ++ codes ".d.ts") ≡ true → is_path (x ++ codes ".ts") ≡ true
source_is_path x h =
    let both = and_both (nat_le (length (x ++ codes ".d.ts")) 1024) (list_all is_segment (segments (x ++ codes ".d.ts"))) h in
    let size : length (x ++ codes ".ts") ≤ 1024 = omega (arith, leb-true (length (x ++ codes ".d.ts")) 1024 both.0, length-append x (codes ".d.ts"), length-append x (codes ".ts")) in
    let cut : segments (x ++ codes ".d.ts") ≡ with_end (split x) (codes ".d.ts") = segments_full (x ++ codes ".d.ts") (omega (arith, length-append x (codes ".d.ts"))) ∙ split_end x (codes ".d.ts") bare_declaration in
    let again : segments (x ++ codes ".ts") ≡ with_end (split x) (codes ".ts") = segments_full (x ++ codes ".ts") (omega (arith, length-append x (codes ".ts"))) ∙ split_end x (codes ".ts") bare_source in
    ap (λ b. b && list_all is_segment (segments (x ++ codes ".ts"))) (le-leb (length (x ++ codes ".ts")) 1024 size)
    ∙ ap (list_all is_segment) again ∙ short_parts (split x) (ap (list_all is_segment) (sym cut) ∙ both.1)
