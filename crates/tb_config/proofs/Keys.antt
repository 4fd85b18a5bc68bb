-- A config with bases is a file of the tree.
use Rattle.std.proofs.Common.{ℕ, ◌≡◌, Bool, true, List, [], ◌∷◌, ◌||◌, Option, Some, None, is_some, ◌⊎◌, inl, inr, sym, ap, ◌∙◌, refl}
use Rattle.std.specs.FinMap as map
use Rattle.std.specs.List.{list_any}
use Rattle.std.specs.Ordering.{eq_by_cmp}
use Rattle.std.specs.Str.{bytes_eq}
use Rattle.tb_text.specs.Bytes.{bytes_cmp}
use Rattle.tb_config.specs.Bases.{bases_of}
use Rattle.tb_config.specs.Configs.{Tree, content_in}
use Rattle.tb_config.specs.Walks.{is_in}
use Rattle.tb_config.specs.Stacks.{arranged, taken}
use Rattle.tb_config.specs.declared.walks.Order.{Order}
use Rattle.tb_config.specs.declared.walks.Order.TheVariants.{AsWritten, LastFirst}
use Rattle.tb_config.proofs.Paths.{is_eq-path}

pub same_tests : (p q : List ℕ → Bool) → ((x : List ℕ) → p x ≡ q x) → (xs : List (List ℕ)) → list_any p xs ≡ list_any q xs
same_tests p q same [] = refl
same_tests p q same (x ∷ xs) = ap (λ b. b || list_any p xs) (same x) ∙ ap (λ b. q x || b) (same_tests p q same xs)

pub is_in-keys : (tree : Tree) (path : List ℕ) → map.contains_key tree path ≡ is_in (map.keys tree) path
is_in-keys tree path = map.contains_key-keys tree path ∙ same_tests (eq_by_cmp bytes_cmp path) (bytes_eq path) (is_eq-path path) (map.keys tree)

none_arranged : (order : Order) → arranged order [] ≡ []
none_arranged AsWritten = refl
none_arranged LastFirst = refl

by_file : (order : Order) (tree : Tree) (path : List ℕ) (file : Option (List ℕ)) → map.get tree path ≡ file → (is_in (map.keys tree) path ≡ true) ⊎ (taken order tree path ≡ [])
by_file order tree path None none = inr (ap (λ f. arranged order (bases_of (record { path = path; content = content_in f }))) none ∙ none_arranged order)
by_file order tree path (Some bytes) some = inl (sym (is_in-keys tree path) ∙ ap is_some some)

pub keys_or_none : (order : Order) (tree : Tree) (path : List ℕ) → (is_in (map.keys tree) path ≡ true) ⊎ (taken order tree path ≡ [])
keys_or_none order tree path = by_file order tree path (map.get tree path) refl
