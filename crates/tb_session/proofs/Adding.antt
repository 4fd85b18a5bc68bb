-- Reading the files of a tree one after the other.
use Rattle.std.proofs.Common.{◌≡◌, ℕ, Bool, true, false, cond, List, [], ◌∷◌, ◌++◌, take, refl, sym, ap, ◌∙◌, inl, inr}
use Rattle.std.specs.Prelude.{Option, Some, None}
use Rattle.std.specs.List.{filter_map, cons_option}
use Rattle.std.specs.Ordering.{eq_by_cmp, is_eq}
use Rattle.std.specs.declared.cmp.Ordering.{Ordering}
use Rattle.std.specs.declared.cmp.Ordering.TheVariants.{Less, Equal, Greater}
use Rattle.std.specs.Cmp.Lexicographic.{nat_list_cmp_total}
use Rattle.std.proofs.lemmas.Bool.{cases_Bool}
use Rattle.std.proofs.lemmas.List.Elements.{filter_map-append}
use Rattle.std.proofs.lemmas.List.{append-nil}
use Rattle.std.proofs.lemmas.Map.Lookups.{exact_bytes}
use Rattle.std.specs.FinMap.{from_entries, find, get-from_entries, get-insert, same_map}
use Rattle.tb_text.specs.Bytes.{bytes_cmp}
use Rattle.tb_outside.specs.Told.{bytes_at}
use Rattle.tb_session.specs.Generations.{Tree, is_source, read_at, read_all, most_bytes}
use Rattle.tb_session.specs.Adding.{with_text}

-- what is read at a path
abbrev cut : Tree → List ℕ → List ℕ
cut told path = take most_bytes (bytes_at told path)

abbrev ties : List ℕ → List ℕ → Bool
ties q p = eq_by_cmp bytes_cmp q p

swap : {X : Type 0} (a b : Bool) (u v rest : X) → (a ≡ true → b ≡ true → u ≡ v) → cond a u (cond b v rest) ≡ cond b v (cond a u rest)
swap true true u v rest alike = alike refl refl
swap true false u v rest alike = refl
swap false true u v rest alike = refl
swap false false u v rest alike = refl

is_equal : (r : Ordering) → is_eq r ≡ true → r ≡ Equal
is_equal Less e = cc
is_equal Equal e = refl
is_equal Greater e = cc

same_path : (q p : List ℕ) → ties q p ≡ true → q ≡ p
same_path q p t = exact_bytes q p (is_equal (bytes_cmp q p) t)

module _ (told : Tree) (q p : List ℕ) where
  found : List (List ℕ) → Option (List ℕ)
  found ys = find bytes_cmp q (filter_map (read_at told) ys)

  one_more : is_source p ≡ true → (ys : List (List ℕ)) → find bytes_cmp q (filter_map (read_at told) (ys ++ p ∷ [])) ≡ cond (ties q p) (Some (cut told p)) (find bytes_cmp q (filter_map (read_at told) ys))
  one_more source [] = rw source refl
  one_more source (y ∷ ys) =
      elim (is_source y) as (λ b. find bytes_cmp q (cons_option (cond b (Some (y, cut told y)) None) (filter_map (read_at told) (ys ++ p ∷ [])))
      ≡ cond (ties q p) (Some (cut told p)) (find bytes_cmp q (cons_option (cond b (Some (y, cut told y)) None) (filter_map (read_at told) ys)))) [
        | true ↦ ap (cond (ties q y) (Some (cut told y))) (one_more source ys) ∙ swap (ties q y) (ties q p) (Some (cut told y)) (Some (cut told p)) _ (λ ty tp. ap (λ (path : List ℕ). Some (cut told path)) (sym (same_path q y ty) ∙ same_path q p tp))
        | false ↦ one_more source ys
      ]

pub added : (told : Tree) (ys : List (List ℕ)) (p : List ℕ) → with_text told (read_all told ys) p ≡ read_all told (ys ++ p ∷ [])
added told ys p = elim (cases_Bool (is_source p)) [
  | inl source ↦ rw source (same_map nat_list_cmp_total exact_bytes _ _ (λ q.
      get-insert nat_list_cmp_total (read_all told ys) p (cut told p) q
      ∙ ap (cond (ties q p) (Some (cut told p))) (get-from_entries nat_list_cmp_total (filter_map (read_at told) ys) q)
      ∙ sym (one_more told q p source ys)
      ∙ sym (get-from_entries nat_list_cmp_total (filter_map (read_at told) (ys ++ p ∷ [])) q)))
  | inr not_source ↦ rw (not_source, filter_map-append (read_at told) ys (p ∷ []), not_source) (sym (ap from_entries (append-nil (filter_map (read_at told) ys))))
]
