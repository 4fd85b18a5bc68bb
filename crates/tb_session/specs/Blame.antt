-- Which object of the outside a run stopped at.
use Rattle.std.specs.Prelude.{◌≡◌, ◌≢◌, ℕ}
use Rattle.tb_text.specs.declared.statuses.Which.{Which}
use Rattle.tb_text.specs.declared.statuses.Which.TheVariants.{Tree, Disk, Feed, Sink}
use Rattle.tb_outside.specs.Causes.{Rose}

-- the counts of faults of the four objects
pub record Counts : Type 0 where
  pub tree : ℕ
  pub disk : ℕ
  pub feed : ℕ
  pub sink : ℕ

abbrev pub count_of : Which → Counts → ℕ
count_of Tree counts = counts.tree
count_of Disk counts = counts.disk
count_of Feed counts = counts.feed
count_of Sink counts = counts.sink

-- a call of this object failed, and of no other
pub record OnlyFailed (which : Which) (before after : Counts) : Type 0 where
  pub rose : Rose (count_of which before) (count_of which after)
  pub others : (other : Which) → other ≢ which → count_of other after ≡ count_of other before

-- no call of an object failed
abbrev pub NoneFailed : Counts → Counts → Type 0
NoneFailed before after = (which : Which) → Rose (count_of which before) (count_of which after) → ⊥
