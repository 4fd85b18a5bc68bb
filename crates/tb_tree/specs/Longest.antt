-- The longest front of a list that a relation derives. This project's own.
use Rattle.std.specs.Prelude.{⊤, ◌≡◌, ◌<◌, ◌⊎◌, List, [], ◌∷◌, ◌++◌, length}
use Rattle.tb_tree.specs.Sym.{Sym}

-- a list begins with a symbol of C
abbrev pub Starts : (Sym → Type 0) → List Sym → Type 0
Starts C [] = ⊥
Starts C (s ∷ ss) = C s

-- the reading (x, ys) is the reading (y, zs), or goes on behind it, with a symbol of C
abbrev pub Ends : {X : Type 0} → (Sym → Type 0) → X → List Sym → X → List Sym → Type 0
Ends C x ys y zs = ((x ≡ y) × (ys ≡ zs)) ⊎ ((length ys < length zs) × Starts C zs)

-- x is derived by the longest front of xs that derives anything, it alone, and ys is what follows that front
pub record Found {X : Type 0} (D : List Sym → X → Type 0) (C : Sym → Type 0) (xs : List Sym) (x : X) (ys : List Sym) : Type 0 where
  pub front : List Sym
  pub whole : xs ≡ front ++ ys
  pub derives : D front x
  pub longest : (a : List Sym) (y : X) (zs : List Sym) → D a y → xs ≡ a ++ zs → Ends C x ys y zs

-- no front of xs derives anything
pub record Lacks {X : Type 0} (D : List Sym → X → Type 0) (xs : List Sym) : Type 0 where
  pub none : (a : List Sym) (y : X) (zs : List Sym) → D a y → xs ≡ a ++ zs → ⊥

-- no symbol, and any symbol
abbrev pub Never : Sym → Type 0
Never s = ⊥

abbrev pub Any : Sym → Type 0
Any s = ⊤
