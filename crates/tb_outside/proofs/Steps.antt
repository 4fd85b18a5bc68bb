-- How a run of steps goes on.
use Rattle.std.proofs.Common.{◌≡◌, inl, inr, ℕ, ◌+◌, ◌<◌, ◌≤◌, List, [], ◌∷◌, ◌++◌, length, take, sym, ap, subst, ◌∙◌, arith}
use Rattle.std.specs.Prelude.{Result, Ok, Err, OnOk}
use Rattle.std.proofs.lemmas.Bool.{cases_lt}
use Rattle.tb_outside.specs.Playing.{AfterSome, BeforeOrAfter}
use Rattle.tb_outside.specs.declared.disks.DiskStep.{DiskStep}
use Rattle.tb_outside.specs.Disk.{Files, Outcomes, Same, read_after, left_after, read_after_all, left_after_all}
use Rattle.tb_outside.specs.Laws.{one_files, within_on, left_more, read_one_more, left_one_more}
use Rattle.tb_outside.specs.Moments.{Within, Elapses}

pub on_ok : {T E : Type 0} (r : Result T E) (P : Type 0) → P → OnOk r P
on_ok (Ok value) P p = p
on_ok (Err e) P p = tt

module _ (steps : List DiskStep) (first : Files) (old : Outcomes) (i : ℕ) (step : DiskStep) (more : take (i + 1) steps ≡ take i steps ++ step ∷ [])
    (files : Files) (reads : Same (read_after_all (take i steps) first) files) where
  is_files : read_after_all (take i steps) first ≡ files
  is_files = one_files (read_after_all (take i steps) first) files reads

  pub next_reads : (next : Files) → Same (read_after step files) next → Same (read_after_all (take (i + 1) steps) first) next
  next_reads next done q =
      let reached : read_after_all (take (i + 1) steps) first ≡ read_after step files =
      ap (λ (ss : List DiskStep). read_after_all ss first) more ∙ read_one_more (take i steps) step first ∙ ap (λ (f : Files). read_after step f) is_files in
      done q ∙ sym (ap (λ (f : Files). f q) reached)

  pub next_left : (now next : Outcomes) → Within (left_after_all (take i steps) first old) now → Within (left_after step files now) next → Within (left_after_all (take (i + 1) steps) first old) next
  next_left now next left done q content h =
      let from : left_after step files (left_after_all (take i steps) first old) q content = left_more step files (left_after_all (take i steps) first old) now left q content (done q content h) in
      let there : left_after step (read_after_all (take i steps) first) (left_after_all (take i steps) first old) q content =
      subst (λ (f : Files). left_after step f (left_after_all (take i steps) first old) q content) (sym is_files) from in
      subst (λ (ss : List DiskStep). left_after_all ss first old q content) (sym more) (left_one_more (take i steps) step first old q content there)

  pub one_moment : (now mid : Outcomes) → i < length steps → Within (left_after_all (take i steps) first old) now → BeforeOrAfter step files now mid → AfterSome steps first old mid
  one_moment now mid lt left (inl after) = (i + 1, omega arith, next_left now mid left after)
  one_moment now mid lt left (inr before) = (i, omega arith, within_on (left_after_all (take i steps) first old) now mid left before)

-- the moments of a run, and then those of a step
pub moments_on : (steps : List DiskStep) (first : Files) (old : Outcomes) (a b c : ℕ) (second third : ℕ → Outcomes) → Elapses b c second third
    → ((k : ℕ) → a ≤ k → k ≤ b → AfterSome steps first old (second k)) → ((k : ℕ) → b < k → k ≤ c → AfterSome steps first old (third k))
    → (k : ℕ) → a ≤ k → k ≤ c → AfterSome steps first old (third k)
moments_on steps first old a b c second third time run step k from to = elim (cases_lt b k) [
  | inl lt ↦ step k lt to
  | inr le ↦ let at = run k from le in (at.0, at.1, λ q content h. at.2 q content ((time.keeps k q content le).0 h))
]

pub on_both : {T E : Type 0} (r : Result T E) (P Q R : Type 0) → (P → Q → R) → OnOk r P → OnOk r Q → OnOk r R
on_both (Ok value) P Q R f p q = f p q
on_both (Err e) P Q R f p q = tt
