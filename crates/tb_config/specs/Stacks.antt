-- A walk that was begun, as the code keeps it: the frames of the configs whose bases are being met. This project's own.
use Rattle.std.specs.Prelude.{ℕ, ◌≡◌, ◌+◌, ◌*◌, false, List, [], ◌∷◌, ◌++◌, length, map, reverse}
use Rattle.std.specs.BTreeSet.{BTreeSet, contains}
use Rattle.std.specs.FinMap as tree_map
use Rattle.tb_text.specs.Bytes.{bytes_cmp}
use Rattle.tb_config.specs.Bases.{bases_at}
use Rattle.tb_config.specs.Configs.{Tree}
use Rattle.tb_config.specs.Going.{Goes, work}
use Rattle.tb_config.specs.Walks as spec
use Rattle.tb_config.specs.Walks.{Step, is_in}
use Rattle.tb_config.specs.declared.walks.Frame.{Frame}
use Rattle.tb_config.specs.declared.walks.Order.{Order}
use Rattle.tb_config.specs.declared.walks.Order.TheVariants.{AsWritten, LastFirst}
use Rattle.tb_config.specs.declared.walks.Walk.{Walk}

-- bases in the order in which they are met
abbrev pub arranged : Order → List (List ℕ) → List (List ℕ)
arranged AsWritten bases = bases
arranged LastFirst bases = reverse bases

abbrev pub taken : Order → Tree → List ℕ → List (List ℕ)
taken order tree path = arranged order (bases_at tree path)

-- what a walk has found
abbrev pub found : Walk → spec.Walk
found walk = record { entered = walk.entered.items; circles = walk.circles.items }

-- ---- frames, with the innermost first

abbrev pub chain_in : List Frame → List (List ℕ)
chain_in frames = map (λ frame. frame.path) frames

abbrev pub steps_in : List Frame → List Step
steps_in [] = []
steps_in (frame ∷ below) = map (λ base. (frame.path ∷ chain_in below, base)) (reverse frame.left.items) ++ steps_in below

-- ---- frames, with the outermost first

-- the configs that led here, the nearest first
abbrev pub chain_of : List Frame → List (List ℕ)
chain_of frames = chain_in (reverse frames)

-- the steps that are left
abbrev pub steps_of : List Frame → List Step
steps_of frames = steps_in (reverse frames)

-- the steps that are left where this config is met first
abbrev pub steps_to : List ℕ → List Frame → List Step
steps_to path frames = (chain_of frames, path) ∷ steps_of frames

abbrev pub GoesOn : Order → Tree → spec.Walk → List Step → spec.Walk → Type 0
GoesOn order tree = Goes (taken order tree) (tree_map.keys tree)

-- how much is left to do at most
abbrev pub effort : Order → Tree → List (List ℕ) → List Step → List Frame → ℕ
effort order tree entered steps frames = 2 * work (taken order tree) (tree_map.keys tree) entered steps + length frames

-- ---- the sets

-- no path stands twice
abbrev pub AreApart : List (List ℕ) → Type 0
AreApart [] = Unit {0}
AreApart (path ∷ rest) = (is_in rest path ≡ false) × AreApart rest

-- the sets have what the lists have
pub record IsSound (known opened : BTreeSet (List ℕ)) (entered : List (List ℕ)) (frames : List Frame) : Type 0 where
  pub knows : (path : List ℕ) → contains bytes_cmp known path ≡ is_in entered path
  pub opens : (path : List ℕ) → contains bytes_cmp opened path ≡ is_in (chain_of frames) path
  pub apart : AreApart (chain_of frames)
