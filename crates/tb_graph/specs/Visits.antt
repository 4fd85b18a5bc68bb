-- The depth-first visit, by cases on the references. This project's own: the place of each node, and which cycle is the first.
use Rattle.std.specs.Prelude.{ℕ, List, [], ◌∷◌, ◌++◌, Contains, ◌==◌, if◌then◌else◌, Result, Ok, Err, ◌≡◌}
use Rattle.tb_graph.specs.Graphs.{refs_of}
use Rattle.tb_graph.specs.declared.orders.OrderFault.{OrderFault}
use Rattle.tb_graph.specs.declared.orders.OrderFault.TheVariants as fault

-- how a visit ends: with all nodes that are finished, in order, or with the first cycle
pub data Outcome : Type 0 where
  Ordered : List ℕ → Outcome
  Cyclic : List ℕ → Outcome

-- the part of a path from a node on
abbrev pub path_from : ℕ → List ℕ → List ℕ
path_from node [] = []
path_from node (at ∷ rest) = if at == node then at ∷ rest else path_from node rest

-- Visits refs path done todo outcome: `path` is being visited, each of its nodes from the one before it; `done` is finished;
-- the nodes of `todo` are met one after the other
pub data Visits (refs : List (List ℕ)) : List ℕ → List ℕ → List ℕ → Outcome → Type 0 where
  -- nothing is left to meet
  ended : (path done : List ℕ) → Visits refs path done [] (Ordered done)
  -- a finished node is passed over
  passed : (path done : List ℕ) (node : ℕ) (todo : List ℕ) (outcome : Outcome) → Contains done node
      → Visits refs path done todo outcome → Visits refs path done (node ∷ todo) outcome
  -- a node that is being visited closes a cycle
  met : (path done : List ℕ) (node : ℕ) (todo : List ℕ) → ¬ Contains done node → Contains path node
      → Visits refs path done (node ∷ todo) (Cyclic (path_from node path))
  -- any other node is visited: its references, then it is finished itself, then what is left is met
  entered : (path done : List ℕ) (node : ℕ) (todo between : List ℕ) (outcome : Outcome) → ¬ Contains done node → ¬ Contains path node
      → Visits refs (path ++ node ∷ []) done (refs_of refs node) (Ordered between)
      → Visits refs path (between ++ node ∷ []) todo outcome → Visits refs path done (node ∷ todo) outcome
  -- a cycle met below a node ends the visit
  failed : (path done : List ℕ) (node : ℕ) (todo cycle : List ℕ) → ¬ Contains done node → ¬ Contains path node
      → Visits refs (path ++ node ∷ []) done (refs_of refs node) (Cyclic cycle) → Visits refs path done (node ∷ todo) (Cyclic cycle)

-- an answer says how the visit ends; want of memory says nothing
abbrev pub Answers : Result (List ℕ) OrderFault → Outcome → Type 0
Answers (Ok order) outcome = outcome ≡ Ordered order
Answers (Err (fault.Cycle cycle)) outcome = outcome ≡ Cyclic cycle
Answers (Err fault.NoMemory) outcome = Unit {0}

-- what a fault says of its cycle; want of memory says nothing
abbrev pub OfCycle : (List ℕ → Type 0) → OrderFault → Type 0
OfCycle P (fault.Cycle cycle) = P cycle
OfCycle P fault.NoMemory = Unit {0}
