-- The headline: whatever tree and edits, each generation that a run reports settled has, at every output path, exactly
-- the bytes, and exactly the ordered diagnostics, of one clean build of that generation's texts; and a run that returns
-- settles its last generation, unless memory was refused, an outside call failed, or the texts are not built yet.
use Rattle.std.specs.Prelude.{◌≡◌, ◌⊎◌, ◌<◌, ◌≤◌, ◌++◌, ℕ, Bool, false, IsTrue, List, [], ◌∷◌, length, take, drop, Some, Contains}
use Rattle.std.specs.List.{AllByRecursion}
use Rattle.std.specs.List.Sorted.{IsStrictlyIncreasing}
use Rattle.tb_text.specs.declared.statuses.Status.{Status}
use Rattle.tb_outside.specs.Causes.{Rose}
use Rattle.tb_outside.specs.Disk.{Files}
use Rattle.tb_outside.specs.declared.feeds.Turn.{Turn}
use Rattle.tb_words.specs.declared.commands.Command.{Command}
use Rattle.tb_session.specs.Blame.{Counts}
use Rattle.tb_session.specs.Generations.{Tree, opening, taken, batches, quiets_from, texts_at}
use Rattle.tb_session.specs.Builds.{Clean, IsClean, checks_of, builds_of}
use Rattle.tb_session.specs.Reports.{report_text, status_of}
use Rattle.tb_session.specs.Ends.{IsSettled}

-- what a run was given and what it left, as far as the objects tell it
pub record Run : Type 0 where
  pub command : Command
  -- the tree's texts at the start
  pub tree : Tree
  -- the turns of the feed, at the start and at the end
  pub turns : List Turn
  pub turns_left : List Turn
  -- what the sink had taken, at the start and at the end
  pub printed : List ℕ
  pub printed_last : List ℕ
  -- what the disk reads at the end
  pub files : Files
  pub before : Counts
  pub after : Counts
  pub status : Status
  pub settled : List ℕ
  pub checked : ℕ
  pub built : ℕ

-- what has to be told for the headline
pub record Premises (tree_tells : Bool) : Type 0 where
  pub tree : IsTrue tree_tells

abbrev pub turns_taken : Run → List Turn
turns_taken run = taken run.command.watch run.command.turns run.turns

-- the number of batches before each Quiet turn
abbrev pub quiets : Run → List ℕ
quiets run = quiets_from 0 (turns_taken run)

abbrev pub last : Run → ℕ
last run = length (batches (turns_taken run))

-- the texts of a generation
abbrev pub texts_of : Run → ℕ → Tree
texts_of run g = texts_at (opening run.tree) (batches (turns_taken run)) g

-- this is the clean build of a generation
abbrev pub IsCleanAt : Run → ℕ → Clean → Type 0
IsCleanAt run g clean = IsClean (texts_of run g) run.command.roots clean

-- the generations that a run may settle
abbrev pub IsDue : Run → ℕ → Type 0
IsDue run g = Contains (quiets run) g ⊎ (g ≡ last run)

-- the report of a generation
abbrev pub report_of : Run → ℕ → Clean → List ℕ
report_of run g clean = report_text g run.command.verbose (texts_of run g) clean

-- the reports of these generations, one after the other
pub data AreReports (run : Run) : List ℕ → List ℕ → Type 0 where
  none : AreReports run [] []
  more : (g : ℕ) (gs text : List ℕ) (clean : Clean) → IsCleanAt run g clean → AreReports run gs text
      → AreReports run (g ∷ gs) (report_of run g clean ++ text)

-- this generation may be settled, and lies above every settled one
abbrev pub IsNext : Run → ℕ → Type 0
IsNext run g = IsDue run g × ((h : ℕ) → Contains run.settled h → h < g)

-- what follows the reports of the settled generations: nothing, or, where a `put` failed, a front of one further
-- report, which is the next one where the run builds alone
pub data IsTail (alone : Bool) (run : Run) : List ℕ → Type 0 where
  nothing : IsTail alone run []
  cut : (g n : ℕ) (clean : Clean) → Rose run.before.sink run.after.sink → IsNext run g → (IsTrue alone → (h : ℕ) → IsNext run h → g ≤ h)
      → IsCleanAt run g clean → IsTail alone run (take n (report_of run g clean))

-- what the sink took in the run
pub record Prints (alone : Bool) (run : Run) : Type 0 where
  pub reports : List ℕ
  pub tail : List ℕ
  pub taken : run.printed_last ≡ run.printed ++ reports ++ tail
  pub are_reports : AreReports run run.settled reports
  pub is_tail : IsTail alone run tail

-- each output path has the bytes of the clean build
abbrev pub HasOutputs : Files → Clean → Type 0
HasOutputs files clean = AllByRecursion (λ output. files output.0 ≡ Some output.1) clean.outputs

-- the last of the generations
abbrev pub EndsIn : List ℕ → ℕ → Type 0
EndsIn gs g = (before : List ℕ) × (gs ≡ before ++ g ∷ [])

-- `alone` says whether the run builds on one thread
pub record Headline (alone disk_tells feed_tells sink_tells : Bool) (run : Run) : Type 0 where
  -- where the sink tells what it took, the reports of just the settled generations were printed, whole and in order
  pub diagnostics : IsTrue sink_tells → Prints alone run
  -- where the run settles, the disk has the bytes of a clean build of the last generation's texts
  pub bytes : IsTrue disk_tells → IsSettled run.status → (clean : Clean) → IsCleanAt run (last run) clean → HasOutputs run.files clean
  -- each settled generation has a clean build
  pub clean : (g : ℕ) → Contains run.settled g → (clean : Clean) × IsCleanAt run g clean
  -- the settled generations ascend, and each stands at a Quiet turn or is the last; built alone, where the run settles, these are all
  pub ascending : IsStrictlyIncreasing run.settled
  pub due : (g : ℕ) → Contains run.settled g → IsDue run g
  pub all : IsTrue alone → IsSettled run.status → (g : ℕ) → IsDue run g → Contains run.settled g
  -- without `--watch` nothing is settled where the run does not settle
  pub once : run.command.watch ≡ false → (IsSettled run.status → ⊥) → run.settled ≡ []
  -- where the run settles, the feed has left the turns after those that were taken
  pub left : IsTrue feed_tells → IsSettled run.status → run.turns_left ≡ drop (length (turns_taken run)) run.turns
  -- where the run settles, it has settled the last generation, and the status is that of its clean build
  pub settles : IsSettled run.status → EndsIn run.settled (last run)
  pub status : IsSettled run.status → (clean : Clean) → IsCleanAt run (last run) clean → run.status ≡ status_of clean
  -- what was checked and built
  pub sums : IsSettled run.status → (clean : Clean) → IsCleanAt run (last run) clean
      → (run.checked ≡ checks_of clean) × (run.built ≡ builds_of clean)

-- no clean build is of these texts from these roots: they are not built yet
abbrev pub NotServed : Tree → List (List ℕ) → Type 0
NotServed texts roots = (clean : Clean) → IsClean texts roots clean → ⊥
