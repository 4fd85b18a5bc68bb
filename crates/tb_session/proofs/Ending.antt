-- When a run ends with which status, from how it ended.
use Rattle.std.proofs.Common.{◌≡◌, ◌≢◌, ℕ, ◌≤◌, Bool, List, refl, sym, ap, ◌∙◌, subst, arith, ◌⊎◌, inl, inr}
use Rattle.std.specs.Prelude.{Option, Some, None}
use Rattle.tb_text.specs.declared.statuses.Which.{Which}
use Rattle.tb_text.specs.declared.statuses.Which.TheVariants.{Tree, Disk, Feed, Sink}
use Rattle.tb_text.specs.declared.statuses.UsageFault.{UsageFault}
use Rattle.tb_text.specs.declared.statuses.Status.{Status}
use Rattle.tb_text.specs.declared.statuses.Status.TheVariants as status
use Rattle.tb_outside.specs.Causes.{Rose}
use Rattle.tb_session.specs.Blame.{Counts, OnlyFailed, count_of}
use Rattle.tb_session.specs.Ends.{IsNamed, IsSettled}
use Rattle.tb_session.specs.Served.{EndsServed}
use Rattle.tb_session.specs.Publishes.{Seen, Answer, Publishes}
use Rattle.tb_session.specs.declared.publishes.Publication.{Publication}

which_or : Status → Which
which_or (status.Outside which project) = which
which_or _ = Tree

project_or : Status → Option (List ℕ)
project_or (status.Outside which project) = project
project_or _ = None

no_usage : (which : Which) (project : Option (List ℕ)) (fault : UsageFault) → status.Outside which project ≡ status.Usage fault → ⊥
no_usage which project fault e = cc

-- a call of one object failed
pub failed_ends : (before after : Counts) (s : Status) (w : Which) (named : Option (List ℕ)) → s ≡ status.Outside w named → OnlyFailed w before after → IsNamed w named → EndsServed before after s
unfolding which_or project_or
failed_ends before after s w named is only names = record {
  outside = λ which project e.
      let same : w ≡ which = ap which_or (sym is ∙ e) in
      let one : named ≡ project = ap project_or (sym is ∙ e) in
      (subst (λ (v : Which). OnlyFailed v before after) same only, subst (λ (v : Which). IsNamed v project) same (subst (IsNamed w) one names));
  inside = λ none. absurd (none w named is);
  usage = λ fault e. no_usage w named fault (sym is ∙ e);
  complete = λ none. absurd (none w only.rose);
}

-- no call failed
pub quiet_ends : (before after : Counts) (s : Status) → after ≡ before → ((which : Which) (project : Option (List ℕ)) → s ≡ status.Outside which project → ⊥)
    → ((fault : UsageFault) → s ≡ status.Usage fault → ⊥) → IsSettled s ⊎ (s ≡ status.NoMemory) ⊎ (s ≡ status.NotBuilt) → EndsServed before after s
quiet_ends before after s same outside usage kind = record { outside = λ which project e. absurd (outside which project e); inside = λ none. same; usage = usage; complete = λ none. kind }

-- the count of each object but the one that failed is as before
pub only_tree : (before after : Counts) → Rose before.tree after.tree → after.disk ≡ before.disk → after.feed ≡ before.feed → after.sink ≡ before.sink → OnlyFailed Tree before after
only_tree before after rose disk feed sink = record { rose = rose; others = others }
  where
    others : (other : Which) → other ≢ Tree → count_of other after ≡ count_of other before
    others Tree ne = absurd (ne refl)
    others Disk ne = disk
    others Feed ne = feed
    others Sink ne = sink

only_disk : (before after : Counts) → Rose before.disk after.disk → after.tree ≡ before.tree → after.feed ≡ before.feed → after.sink ≡ before.sink → OnlyFailed Disk before after
only_disk before after rose tree feed sink = record { rose = rose; others = others }
  where
    others : (other : Which) → other ≢ Disk → count_of other after ≡ count_of other before
    others Tree ne = tree
    others Disk ne = absurd (ne refl)
    others Feed ne = feed
    others Sink ne = sink

only_sink : (before after : Counts) → Rose before.sink after.sink → after.tree ≡ before.tree → after.disk ≡ before.disk → after.feed ≡ before.feed → OnlyFailed Sink before after
only_sink before after rose tree disk feed = record { rose = rose; others = others }
  where
    others : (other : Which) → other ≢ Sink → count_of other after ≡ count_of other before
    others Tree ne = tree
    others Disk ne = disk
    others Feed ne = feed
    others Sink ne = absurd (ne refl)

-- ---- a settled status is no other

pub unsettled_outside : (s : Status) (which : Which) (project : Option (List ℕ)) → s ≡ status.Outside which project → IsSettled s → ⊥
unsettled_outside s which project e done = let le : 74 ≤ 4 = subst IsSettled e done in omega (arith, le)

pub unsettled_usage : (s : Status) (fault : UsageFault) → s ≡ status.Usage fault → IsSettled s → ⊥
unsettled_usage s fault e done = let le : 64 ≤ 4 = subst IsSettled e done in omega (arith, le)

pub unsettled_memory : (s : Status) → s ≡ status.NoMemory → IsSettled s → ⊥
unsettled_memory s e done = let le : 70 ≤ 4 = subst IsSettled e done in omega (arith, le)

pub unsettled_not_built : (s : Status) → s ≡ status.NotBuilt → IsSettled s → ⊥
unsettled_not_built s e done = let le : 75 ≤ 4 = subst IsSettled e done in omega (arith, le)

pub published_ends : (before after : Counts) (disk_tells sink_tells : Bool) (p : Publication) (old new : Seen) (answer : Answer)
    → IsSettled p.status → after.tree ≡ before.tree → after.feed ≡ before.feed
    → old.disk_count ≡ before.disk → new.disk_count ≡ after.disk → old.sink_count ≡ before.sink → new.sink_count ≡ after.sink
    → Publishes disk_tells sink_tells p old new answer → EndsServed before after answer.status
published_ends before after disk_tells sink_tells p old new answer settles tree feed old_disk new_disk old_sink new_sink by = elim by [
  | inl done ↦
      let ends : IsSettled answer.status = subst IsSettled (λ i. (sym done.ended i).status) settles in
      quiet_ends before after answer.status
      (λ i. record { tree = tree i; disk = (sym new_disk ∙ done.disk_count ∙ old_disk) i; feed = feed i; sink = (sym new_sink ∙ done.sink_count ∙ old_sink) i })
      (λ which project e. unsettled_outside answer.status which project e ends) (λ fault e. unsettled_usage answer.status fault e ends)
      (inl ends)
  | inr other ↦ elim other [
    | inl disk ↦ failed_ends before after answer.status Disk (Some disk.config) (λ i. (disk.ended i).status)
        (only_disk before after (subst (λ (n : ℕ). Rose n after.disk) old_disk (subst (λ (n : ℕ). Rose old.disk_count n) new_disk disk.disk_count)) tree feed (sym new_sink ∙ disk.sink_count ∙ old_sink)) refl
    | inr sink ↦ failed_ends before after answer.status Sink None (λ i. (sink.ended i).status)
        (only_sink before after (subst (λ (n : ℕ). Rose n after.sink) old_sink (subst (λ (n : ℕ). Rose old.sink_count n) new_sink sink.sink_count)) tree (sym new_disk ∙ sink.disk_count ∙ old_disk) feed) refl
  ]
]
