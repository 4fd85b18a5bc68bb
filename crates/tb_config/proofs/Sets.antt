-- Sets of paths, after one more was put in.
use Rattle.std.proofs.Common.{ℕ, ◌≡◌, Bool, true, false, cond, List, ◌∷◌, ◌||◌, sym, ap, ◌∙◌, refl}
use Rattle.std.specs.BTreeSet.{BTreeSet, contains, UpdatesBy}
use Rattle.std.specs.Ordering.{is_eq}
use Rattle.std.specs.Str.{bytes_eq}
use Rattle.tb_text.specs.Bytes.{bytes_cmp}
use Rattle.tb_config.specs.Walks.{is_in}
use Rattle.tb_config.proofs.Frames.{at_path}
use Rattle.tb_config.proofs.Keys.{same_tests}
use Rattle.tb_config.proofs.Paths.{is_eq-path}

moved : (a e r : Bool) → (a || (e || r)) ≡ (cond e true a || r)
moved true true r = refl
moved true false r = refl
moved false true r = refl
moved false false r = refl

-- the next of the paths that are left moves into the set
pub inserts_next : (old new : BTreeSet (List ℕ)) (path : List ℕ) (rest : List (List ℕ)) → UpdatesBy bytes_cmp (bytes_cmp path) old new true
    → (p : List ℕ) → (contains bytes_cmp old p || is_in (path ∷ rest) p) ≡ (contains bytes_cmp new p || is_in rest p)
inserts_next old new path rest updates p =
    moved (contains bytes_cmp old p) (bytes_eq p path) (is_in rest p)
    ∙ ap (λ e. cond e true (contains bytes_cmp old p) || is_in rest p) (sym (at_path path p)) ∙ ap (λ b. b || is_in rest p) (sym (updates.0 p))

-- what a set has stands in the list of its keys
pub contains-keys : (paths : BTreeSet (List ℕ)) (p : List ℕ) → contains bytes_cmp paths p ≡ is_in paths.keys p
contains-keys paths p = same_tests (λ k. is_eq (bytes_cmp p k)) (bytes_eq p) (is_eq-path p) paths.keys
