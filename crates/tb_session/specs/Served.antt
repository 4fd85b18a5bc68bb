-- When a run whose words are served ends with which status.
use Rattle.std.specs.Prelude.{◌≡◌, ◌⊎◌, ℕ, List, Option}
use Rattle.tb_text.specs.declared.statuses.Which.{Which}
use Rattle.tb_text.specs.declared.statuses.UsageFault.{UsageFault}
use Rattle.tb_text.specs.declared.statuses.Status.{Status}
use Rattle.tb_text.specs.declared.statuses.Status.TheVariants as status
use Rattle.tb_session.specs.Blame.{Counts, OnlyFailed, NoneFailed}
use Rattle.tb_session.specs.Ends.{IsNamed, IsSettled}

pub record EndsServed (before after : Counts) (ended : Status) : Type 0 where
  pub outside : (which : Which) (project : Option (List ℕ)) → ended ≡ status.Outside which project → OnlyFailed which before after × IsNamed which project
  pub inside : ((which : Which) (project : Option (List ℕ)) → ended ≡ status.Outside which project → ⊥) → after ≡ before
  pub usage : (fault : UsageFault) → ended ≡ status.Usage fault → ⊥
  pub complete : NoneFailed before after → IsSettled ended ⊎ (ended ≡ status.NoMemory) ⊎ (ended ≡ status.NotBuilt)
