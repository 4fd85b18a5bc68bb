-- What holds of each of the one list holds of each of another that shows the same.
use Rattle.std.proofs.Common.{◌≡◌, ℕ, ◌<◌, List, map, subst, sym}
use Rattle.std.specs.Prelude.{All}
use Rattle.std.proofs.lemmas.List.{get_or-map, length-map}
use Rattle.std.proofs.lemmas.List.Elements.{All-map}

pub all_shared : {A B : Type 0} (P : List ℕ → Type 0) (f : A → List ℕ) (g : B → List ℕ) (xs : List A) (ys : List B) → map f xs ≡ map g ys → All (λ x. P (f x)) xs → All (λ y. P (g y)) ys
all_shared P f g xs ys same all = λ k d lt.
    let shared : All P (map g ys) = subst (λ (l : List (List ℕ)). All P l) same (All-map P f xs all) in
    subst P (get_or-map g ys k d (g d) lt) (shared k (g d) (subst (λ (n : ℕ). k < n) (sym (length-map ys g)) lt))
