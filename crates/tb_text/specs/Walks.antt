-- Where the parts of a text lead, as a list of borrowed texts is changed on the way. This project's own.
use Rattle.std.specs.Prelude.{ℕ, ◌≡◌, ◌==◌, Bool, true, false, List, All, map, Option, Some, None}
use Rattle.std.specs.List.{AllByRecursion}
use denote.Ref.{Bor}

-- the texts that a list of borrows shows
abbrev pub texts : List (Bor (List ℕ)) → List (List ℕ)
texts = map (λ s. s.now)

-- the place that is reached, or none
abbrev pub reached : Bool → List (List ℕ) → Option (List (List ℕ))
reached true at = Some at
reached false at = None

-- without a "/"
abbrev pub Bare : List ℕ → Type 0
Bare = All (λ b. (b == 47) ≡ false)

-- each without a "/"
abbrev pub AllBare : List (List ℕ) → Type 0
AllBare = AllByRecursion Bare
