-- The files below a folder, as a filter of all paths.
use Rattle.std.proofs.Common.{◌≡◌, inl, inr, ℕ, Bool, true, false, List, [], ◌∷◌, refl, sym, ap, subst, ◌∙◌}
use Rattle.std.specs.Prelude.{◌&&◌, is_some, Contains}
use Rattle.std.specs.List.{filter, list_any}
use Rattle.std.specs.List.Sorted.{IsStrictlySortedBy}
use Rattle.std.specs.Ordering.{eq_by_cmp}
use Rattle.std.specs.FinMap.{FinMap, get, keys, contains_key-keys}
use Rattle.std.specs.Cmp.{eq_by_cmp_equiv}
use Rattle.std.specs.Cmp.Lexicographic.{nat_list_cmp_total}
use Rattle.std.proofs.lemmas.Bool.{cases_Bool}
use Rattle.std.proofs.lemmas.List.Kept.{IsStrictlySortedBy-filter}
use Rattle.std.proofs.lemmas.Map.Lookups.{exact_bytes}
use Rattle.std.proofs.lemmas.Map.Views.{list_any-from_Contains, Contains-from_any, tells_apart}
use Rattle.tb_text.specs.Bytes.{bytes_cmp}
use Rattle.tb_text.specs.Paths.{is_inside}
use Rattle.tb_outside.specs.Disk.{Files, ListsFolder}
use Rattle.tb_memory.specs.Crashes.{ListsAll}

abbrev same : List ℕ → List ℕ → Bool
same = eq_by_cmp bytes_cmp

filtered : (p : List ℕ → Bool) (q : List ℕ) (ks : List (List ℕ)) → list_any (same q) (filter p ks) ≡ (p q && list_any (same q) ks)
filtered p q [] = elim (p q) as (λ b. false ≡ (b && false)) [ true ↦ refl | false ↦ refl ]
filtered p q (k ∷ ks) = elim (cases_Bool (same q k)) [
  | inl eq ↦
      let is : q ≡ k = tells_apart exact_bytes q k eq in
      elim (cases_Bool (p k)) [
        | inl passes ↦ let pq : p q ≡ true = ap p is ∙ passes in rw (passes, pq, eq) refl
        | inr fails ↦ let pq : p q ≡ false = ap p is ∙ fails in let ih = filtered p q ks in rw (fails, pq) (rw pq at ih)
      ]
  | inr ne ↦ elim (cases_Bool (p k)) [
    | inl passes ↦ rw (passes, ne) (filtered p q ks)
    | inr fails ↦ rw (fails, ne) (filtered p q ks)
  ]
]

both_true : (a b : Bool) → (a && b) ≡ true → (a ≡ true) × (b ≡ true)
both_true true b h = (refl, h)
both_true false b h = absurd (cc h)

pub lists_folder : (m : FinMap bytes_cmp (List ℕ)) (files : Files) (folder : List ℕ) → ((q : List ℕ) → get m q ≡ files q) → IsStrictlySortedBy bytes_cmp (keys m)
    → (paths : List (List ℕ)) → paths ≡ filter (λ path. is_inside folder path) (keys m) → ListsFolder folder files paths
lists_folder m files folder reads sorted paths is = record {
  members = λ q. (
    (λ among.
        let found : list_any (same q) (filter (λ path. is_inside folder path) (keys m)) ≡ true = list_any-from_Contains (eq_by_cmp_equiv nat_list_cmp_total) q (filter (λ path. is_inside folder path) (keys m)) (subst (λ (l : List (List ℕ)). Contains l q) is among) in
        let parts = both_true (is_inside folder q) (list_any (same q) (keys m)) (sym (filtered (λ path. is_inside folder path) q (keys m)) ∙ found) in
        (parts.0, ap is_some (sym (reads q)) ∙ contains_key-keys m q ∙ parts.1)),
    (λ inside.
        let here : list_any (same q) (keys m) ≡ true = sym (contains_key-keys m q) ∙ ap is_some (reads q) ∙ inside.1 in
        let found : list_any (same q) (filter (λ path. is_inside folder path) (keys m)) ≡ true = filtered (λ path. is_inside folder path) q (keys m) ∙ rw (inside.0, here) refl in
        subst (λ (l : List (List ℕ)). Contains l q) (sym is) (Contains-from_any (tells_apart exact_bytes) q (filter (λ path. is_inside folder path) (keys m)) found)),
  );
  ascending = subst (λ (l : List (List ℕ)). IsStrictlySortedBy bytes_cmp l) (sym is) (IsStrictlySortedBy-filter bytes_cmp (λ path. is_inside folder path) (keys m) sorted);
}

-- all files, as the keys of a map
pub lists_all : (m : FinMap bytes_cmp (List ℕ)) (files : Files) → ((q : List ℕ) → get m q ≡ files q) → (paths : List (List ℕ)) → paths ≡ keys m → IsStrictlySortedBy bytes_cmp paths → ListsAll files paths
lists_all m files reads paths is sorted = record {
  members = λ q. (
    (λ among.
        let found : list_any (same q) (keys m) ≡ true = list_any-from_Contains (eq_by_cmp_equiv nat_list_cmp_total) q (keys m) (subst (λ (l : List (List ℕ)). Contains l q) is among) in
        ap is_some (sym (reads q)) ∙ contains_key-keys m q ∙ found),
    (λ inside.
        let here : list_any (same q) (keys m) ≡ true = sym (contains_key-keys m q) ∙ ap is_some (reads q) ∙ inside in
        subst (λ (l : List (List ℕ)). Contains l q) (sym is) (Contains-from_any (tells_apart exact_bytes) q (keys m) here)),
  );
  ascending = sorted;
}
