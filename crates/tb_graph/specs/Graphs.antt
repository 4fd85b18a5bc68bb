-- Graphs whose nodes are numbers, given by the list of the references of each node.
-- That what is referenced is built first is the Project References chapter of the TypeScript Handbook; the rest is this project's own.
use Rattle.std.specs.Prelude.{ℕ, ◌<◌, List, [], ◌∷◌, length, take, slice_index, slice_index_or, All, Contains}

-- the references of a node, as written
abbrev pub refs_of : List (List ℕ) → ℕ → List ℕ
refs_of refs node = slice_index_or refs node []

-- each number of a list is a node
abbrev pub AreNodes : List (List ℕ) → List ℕ → Type 0
AreNodes refs nodes = All (λ node. node < length refs) nodes

-- what is reached from the roots: they, and all that something reached refers to
pub data Reached (refs : List (List ℕ)) (roots : List ℕ) : ℕ → Type 0 where
  root : (node : ℕ) → Contains roots node → Reached refs roots node
  further : (node far : ℕ) → Reached refs roots node → Contains (refs_of refs node) far → Reached refs roots far

-- the relation holds of each member and those before it
abbrev pub EachAfter : (List ℕ → ℕ → Type 0) → List ℕ → Type 0
EachAfter P order = (k : ℕ) → k < length order → P (take k order) (slice_index order k)

-- an order of what is reached, in which the references of each node stand before it
pub record IsOrder (refs : List (List ℕ)) (roots order : List ℕ) : Type 0 where
  pub once : EachAfter (λ before node. ¬ Contains before node) order
  pub behind : EachAfter (λ before node. (ref : ℕ) → Contains (refs_of refs node) ref → Contains before ref) order
  pub roots_in : All (Contains order) roots
  pub all : (node : ℕ) → Reached refs roots node → Contains order node
  pub only : All (Reached refs roots) order
  pub nodes : AreNodes refs order

-- the head of a list, or else this node
abbrev pub head_or : ℕ → List ℕ → ℕ
head_or node [] = node
head_or node (next ∷ rest) = next

-- each node of the list refers to the next, and the last to this one
abbrev pub LeadsTo : List (List ℕ) → ℕ → List ℕ → Type 0
LeadsTo refs to [] = Unit {0}
LeadsTo refs to (node ∷ rest) = Contains (refs_of refs node) (head_or to rest) × LeadsTo refs to rest

-- reached nodes each of which refers to the next, and the last to the first
abbrev pub IsCycle : List (List ℕ) → List ℕ → List ℕ → Type 0
IsCycle refs roots [] = ⊥
IsCycle refs roots (first ∷ rest) = All (Reached refs roots) (first ∷ rest) × LeadsTo refs first (first ∷ rest)
