-- What lies inside a folder, said by the bytes of the texts: laws of `is_inside` for the crates above.
use Rattle.std.proofs.Common.{◌≡◌, ℕ, ◌<◌, List, [], ◌∷◌, ◌++◌, length, arith}
use Rattle.std.specs.Prelude.{◌↔◌, IsTrue}
use Rattle.tb_text.specs.Paths.{is_inside}
use Rattle.tb_text.proofs.Segments.{front_at, inside_folder, some_part, split}

-- inside a folder other than the root lies what goes on behind the folder's text with a "/"
pub inside_nonempty : (folder path : List ℕ) → 0 < length folder → IsTrue (is_inside folder path) ↔ ((rest : List ℕ) × (path ≡ folder ++ 47 ∷ rest))
inside_nonempty [] path l = absurd (omega arith)
inside_nonempty (b ∷ folder) path l = inside_folder b folder path

-- inside the root lies every text but the empty one
pub inside_root : (path : List ℕ) → IsTrue (is_inside [] path) ↔ (0 < length path)
inside_root [] = ((λ e. absurd (cc)), (λ l. absurd (omega arith)))
inside_root (b ∷ path) = ((λ e. omega arith), (λ l. front_at [] (split (b ∷ path)) (some_part (b ∷ path))))
