-- A visit that was begun, as the code keeps it: marks, a stack of frames, and the finished nodes.
use Rattle.std.specs.Prelude.{ℕ, ◌+◌, ◌-◌, ◌<◌, ◌≡◌, List, [], ◌∷◌, ◌++◌, length, drop, map, reverse, slice_index_or, sum_by, All, Contains}
use Rattle.tb_graph.specs.Graphs.{refs_of}
use Rattle.tb_graph.specs.Visits.{Outcome, Ordered, Cyclic, Visits}
use Rattle.tb_graph.specs.declared.visits.Frame.{Frame}
use Rattle.tb_graph.specs.declared.visits.Mark.{Mark}
use Rattle.tb_graph.specs.declared.visits.Mark.TheVariants.{Unseen, Visiting, Finished}

-- ---- what is left to do; here frames stand with the innermost first

-- the nodes that are being visited, each from the one before it
abbrev pub path_of : List Frame → List ℕ
path_of [] = []
path_of (frame ∷ below) = path_of below ++ frame.node ∷ []

-- what is left to meet at the innermost node, or of the roots
abbrev pub todo_of : List (List ℕ) → List ℕ → List Frame → List ℕ
todo_of refs rest [] = rest
todo_of refs rest (frame ∷ below) = drop frame.next (refs_of refs frame.node)

-- how the visit ends if `todo` is met at the innermost node, and then what is left at those below it and of the roots
pub data Resumes (refs : List (List ℕ)) (rest : List ℕ) : List ℕ → List Frame → List ℕ → Outcome → Type 0 where
  bottom : (todo done : List ℕ) (outcome : Outcome) → Visits refs [] done todo outcome → Resumes refs rest todo [] done outcome
  up : (todo : List ℕ) (frame : Frame) (below : List Frame) (done between : List ℕ) (outcome : Outcome)
      → Visits refs (path_of below ++ frame.node ∷ []) done todo (Ordered between)
      → Resumes refs rest (todo_of refs rest below) below (between ++ frame.node ∷ []) outcome → Resumes refs rest todo (frame ∷ below) done outcome
  stopped : (todo : List ℕ) (frame : Frame) (below : List Frame) (done cycle : List ℕ)
      → Visits refs (path_of below ++ frame.node ∷ []) done todo (Cyclic cycle) → Resumes refs rest todo (frame ∷ below) done (Cyclic cycle)

-- ---- the code's own lists; here frames stand with the outermost first

abbrev pub nodes_of : List Frame → List ℕ
nodes_of frames = map (λ frame. frame.node) frames

-- how the visit ends from a state, with these roots left
abbrev pub Goes : List (List ℕ) → List ℕ → List Frame → List ℕ → Outcome → Type 0
Goes refs rest frames done outcome = Resumes refs rest (todo_of refs rest (reverse frames)) (reverse frames) done outcome

-- how it ends if a node is met first
abbrev pub GoesBy : List (List ℕ) → List ℕ → ℕ → List Frame → List ℕ → Outcome → Type 0
GoesBy refs rest node frames done outcome = Resumes refs rest (node ∷ todo_of refs rest (reverse frames)) (reverse frames) done outcome

-- what a mark says of its node
abbrev pub Marks : Mark → List ℕ → List ℕ → ℕ → Type 0
Marks Unseen done path node = ¬ Contains done node × ¬ Contains path node
Marks Visiting done path node = ¬ Contains done node × Contains path node
Marks Finished done path node = Contains done node

-- the marks are right, and only nodes are being visited
pub record IsSound (refs : List (List ℕ)) (marks : List Mark) (frames : List Frame) (done : List ℕ) : Type 0 where
  pub marked : length marks ≡ length refs
  pub right : (node : ℕ) → node < length refs → Marks (slice_index_or marks node Unseen) done (nodes_of frames) node
  pub nodes : All (λ frame. frame.node < length refs) frames

-- ---- how much work is left at most

abbrev pub unseen_work : List (List ℕ) → List Mark → ℕ
unseen_work [] marks = 0
unseen_work (of ∷ refs) [] = 0
unseen_work (of ∷ refs) (Unseen ∷ marks) = length of + 1 + unseen_work refs marks
unseen_work (of ∷ refs) (Visiting ∷ marks) = unseen_work refs marks
unseen_work (of ∷ refs) (Finished ∷ marks) = unseen_work refs marks

abbrev pub frame_work : List (List ℕ) → Frame → ℕ
frame_work refs frame = length (refs_of refs frame.node) - frame.next + 1

abbrev pub work : List (List ℕ) → List Mark → List Frame → ℕ
work refs marks frames = unseen_work refs marks + sum_by (frame_work refs) frames
