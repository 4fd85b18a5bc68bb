-- A path has a stem exactly where it is the stem with `.ts` in the root.
use Rattle.std.proofs.Common.{◌≡◌, ◌↔◌, ◌==◌, ◌++◌, ◌-◌, ℕ, Bool, true, false, List, [], ◌∷◌, Option, Some, None, IsFalse, if◌then◌else◌, option_and_then, codes, length, length-append, append_assoc, refl, sym, ap, ◌∙◌, arith}
use Rattle.std.specs.List.{starts_with, ends_with}
use Rattle.std.proofs.lemmas.Bool.Decides.{Decides-eqb}
use Rattle.std.proofs.lemmas.List.{drop_at, take_at}
use Rattle.std.proofs.lemmas.Slice.Eq.{starts_is, ends_is}
use Rattle.tb_face.specs.Outputs.{after_start, before_ending, relative, stem_in, stem_text, in_folder}

-- ---- what stands in a choice

some_if : {X : Type 0} (b : Bool) (x y : X) → (if b then Some x else None) ≡ Some y → (b ≡ true) × (x ≡ y)
some_if true x y e = (refl, cc)
some_if false x y e = absurd (cc)

none_if : {X : Type 0} (b : Bool) (o : Option X) (y : X) → (if b then None else o) ≡ Some y → (b ≡ false) × (o ≡ Some y)
none_if true o y e = absurd (cc)
none_if false o y e = (refl, e)

some_then : {X Y : Type 0} (f : X → Option Y) (o : Option X) (y : Y) → option_and_then f o ≡ Some y → (x : X) × (o ≡ Some x) × (f x ≡ Some y)
some_then f None y e = absurd (cc)
some_then f (Some x) y e = (x, refl, e)

-- ---- starts and endings

from_start : (start text rest : List ℕ) → after_start start text ≡ Some rest → text ≡ start ++ rest
from_start start text rest e =
    let parts = some_if (starts_with (λ a b. a == b) text start) _ rest e in
    (starts_is Decides-eqb text start _ refl).0 parts.0 ∙ ap (λ l. start ++ l) parts.1

to_start : (start rest : List ℕ) → after_start start (start ++ rest) ≡ Some rest
to_start start rest =
    let begins : starts_with (λ a b. a == b) (start ++ rest) start ≡ true = (starts_is Decides-eqb (start ++ rest) start _ refl).1 rest refl in
    rw begins (ap Some (drop_at start rest (length start) refl))

from_ending : (ending text stem : List ℕ) → before_ending ending text ≡ Some stem → text ≡ stem ++ ending
from_ending ending text stem e =
    let parts = some_if (ends_with (λ a b. a == b) text ending) _ stem e in
    (ends_is Decides-eqb text ending _ refl).0 parts.0 ∙ ap (λ l. l ++ ending) parts.1

to_ending : (ending stem : List ℕ) → before_ending ending (stem ++ ending) ≡ Some stem
to_ending ending stem =
    let ends : ends_with (λ a b. a == b) (stem ++ ending) ending ≡ true = (ends_is Decides-eqb (stem ++ ending) ending _ refl).1 stem refl in
    let place : length stem ≡ length (stem ++ ending) - length ending = omega (arith, length-append stem ending) in
    rw ends (ap Some (take_at stem ending _ place))

-- ---- relative paths

from_relative : (folder path rest : List ℕ) → relative folder path ≡ Some rest → path ≡ in_folder folder rest
from_relative [] path rest e = cc
from_relative (b ∷ front) path rest e =
    let found = some_then (after_start (codes "/")) (after_start (b ∷ front) path) rest e in
    from_start (b ∷ front) path found.0 found.1 ∙ ap (λ l. (b ∷ front) ++ l) (from_start (codes "/") found.0 rest found.2) ∙ sym (append_assoc (b ∷ front) (codes "/") rest)

to_relative : (folder rest : List ℕ) → relative folder (in_folder folder rest) ≡ Some rest
to_relative [] rest = refl
to_relative (b ∷ front) rest = ap (relative (b ∷ front)) (append_assoc (b ∷ front) (codes "/") rest) ∙ ap (option_and_then (after_start (codes "/"))) (to_start (b ∷ front) (codes "/" ++ rest)) ∙ to_start (codes "/") rest

-- ---- stems

from_stem : (root path stem : List ℕ) → stem_text root path ≡ Some stem → (path ≡ in_folder root (stem ++ codes ".ts")) × IsFalse (ends_with (λ a b. a == b) (stem ++ codes ".ts") (codes ".d.ts"))
from_stem root path stem e =
    let found = some_then stem_in (relative root path) stem e in
    let parts = none_if (ends_with (λ a b. a == b) found.0 (codes ".d.ts")) _ stem found.2 in
    let is = from_ending (codes ".ts") found.0 stem parts.1 in
    (from_relative root path found.0 found.1 ∙ ap (in_folder root) is, rw (sym is) parts.0)

to_stem : (root path stem : List ℕ) → path ≡ in_folder root (stem ++ codes ".ts") → IsFalse (ends_with (λ a b. a == b) (stem ++ codes ".ts") (codes ".d.ts")) → stem_text root path ≡ Some stem
to_stem root path stem is other =
    let there : relative root path ≡ Some (stem ++ codes ".ts") = ap (relative root) is ∙ to_relative root (stem ++ codes ".ts") in
    let stem_there : stem_in (stem ++ codes ".ts") ≡ Some stem = rw other (to_ending (codes ".ts") stem) in
    ap (option_and_then stem_in) there ∙ stem_there

pub stem_is : (root path stem : List ℕ)
    → (stem_text root path ≡ Some stem) ↔ ((path ≡ in_folder root (stem ++ codes ".ts")) × IsFalse (ends_with (λ a b. a == b) (stem ++ codes ".ts") (codes ".d.ts")))
stem_is root path stem = (from_stem root path stem, λ h. to_stem root path stem h.0 h.1)
