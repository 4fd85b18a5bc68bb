-- Paths that are equal, and paths that stand in a list.
use Rattle.std.proofs.Common.{ℕ, ◌≡◌, true, List, ◌++◌, ◌||◌, sym, refl}
use Rattle.std.proofs.lemmas.Bool.Decides.{same_from_decides, Decides-like}
use Rattle.std.proofs.lemmas.List.Folds.{list_any-append}
use Rattle.std.proofs.lemmas.Map.Text.{is_eq-slice_cmp}
use Rattle.std.proofs.lemmas.Slice.Eq.{bytes_eq-Decides}
use Rattle.std.specs.Ordering.{is_eq}
use Rattle.std.specs.Str.{bytes_eq}
use Rattle.tb_text.specs.Bytes.{bytes_cmp}
use Rattle.tb_config.specs.Walks.{is_in}

pub same_path : (p q : List ℕ) → bytes_eq p q ≡ true → p ≡ q
same_path p q e = (bytes_eq-Decides p q).0 e

pub path_itself : (p : List ℕ) → bytes_eq p p ≡ true
path_itself p = (bytes_eq-Decides p p).1 refl

pub bytes_eq-symm : (p q : List ℕ) → bytes_eq p q ≡ bytes_eq q p
bytes_eq-symm p q = same_from_decides (bytes_eq p q) (bytes_eq q p) (bytes_eq-Decides p q) (Decides-like (bytes_eq q p) sym sym (bytes_eq-Decides q p))

pub is_eq-path : (p q : List ℕ) → is_eq (bytes_cmp p q) ≡ bytes_eq p q
is_eq-path = is_eq-slice_cmp

pub is_in-append : (xs ys : List (List ℕ)) (p : List ℕ) → is_in (xs ++ ys) p ≡ (is_in xs p || is_in ys p)
is_in-append xs ys p = list_any-append (bytes_eq p) xs ys
