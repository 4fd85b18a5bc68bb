-- What a disk tells after a call that took a step, cut it in its midst, or did nothing.
use Rattle.std.proofs.Common.{◌≡◌, ◌⊎◌, inl, inr, ℕ, ◌≤◌, List, [], ◌∷◌, ◌++◌, length, take, refl, sym, ap, subst, ◌∙◌, arith, length-append, Bool, false}
use Rattle.std.specs.Prelude.{Result, Ok, Err, OnOk, OnErr, IsTrue, IsFalse}
use Rattle.std.proofs.lemmas.Bool.{cases_Bool}
use Rattle.std.proofs.lemmas.List.{take-append-le}
use Rattle.std.proofs.Math.Seq.{take-length}
use Rattle.tb_outside.specs.declared.errors.Failed.{Failed}
use Rattle.tb_outside.specs.declared.disks.DiskStep.{DiskStep}
use Rattle.tb_outside.specs.Causes.{has_failed}
use Rattle.tb_outside.specs.Disk.{Files, Outcomes, Same, no_files, read_after, left_after, left_after_all}
use Rattle.tb_outside.specs.Moments.{Within, EachMoment, Elapses}
use Rattle.tb_outside.specs.Laws.{started, one_files, read_one_more, left_append}
use Rattle.tb_memory.specs.Crashes.{DiskState, read_of, reads_of, left_of, done_of, Nothing, Takes}
use Rattle.tb_memory.specs.Laws.{front_of}

pub on_ok : {T : Type 0} (r : Result T Failed) (P : Type 0) → (IsFalse (has_failed r) → P) → OnOk r P
on_ok (Ok value) P p = p refl
on_ok (Err e) P p = tt

pub on_err : {T : Type 0} (r : Result T Failed) (P : Type 0) → (IsTrue (has_failed r) → P) → OnErr r P
on_err (Ok value) P p = tt
on_err (Err e) P p = p refl

module _ (old : List DiskStep) (step : DiskStep) where
  earlier : (k : ℕ) → k ≤ length old → take k (old ++ step ∷ []) ≡ take k old
  earlier k le = take-append-le k old (step ∷ []) le

  elapses_step : Elapses (length old) (length (old ++ step ∷ [])) (left_of old) (left_of (old ++ step ∷ []))
  elapses_step = record {
    later = omega (arith, length-append old (step ∷ []));
    keeps = λ k q content le. (
      λ h. subst (λ (l : List DiskStep). left_after_all l no_files Nothing q content) (earlier k le) h,
      λ h. subst (λ (l : List DiskStep). left_after_all l no_files Nothing q content) (sym (earlier k le)) h,
    );
  }

  left_step : Within (left_after step (read_of old) (left_of old (length old))) (left_of (old ++ step ∷ []) (length (old ++ step ∷ [])))
  left_step q content h =
      let all : left_after_all (old ++ step ∷ []) no_files Nothing q content =
      subst (λ (l : List DiskStep). left_after_all l no_files Nothing q content) (take-length (old ++ step ∷ [])) h in
      subst (λ (l : List DiskStep). left_after step (read_of old) (left_after_all l no_files Nothing) q content) (sym (take-length old)) (left_append old (step ∷ []) no_files Nothing q content all)

  during_step : EachMoment (length old) (length (old ++ step ∷ [])) (left_of (old ++ step ∷ [])) (left_after step (read_of old) (left_of old (length old)))
  during_step k from to =
      let last : length (old ++ step ∷ []) ≡ k = omega (arith, length-append old (step ∷ [])) in
      subst (λ (n : ℕ). Within (left_after step (read_of old) (left_of old (length old))) (left_of (old ++ step ∷ []) n)) last left_step

pub elapses_none : (old new : List DiskStep) → new ≡ old → Elapses (length old) (length new) (left_of old) (left_of new)
elapses_none old new is = subst (λ (l : List DiskStep). Elapses (length old) (length l) (left_of old) (left_of l)) (sym is) (started (length old) (left_of old))

pub during_none : (old new : List DiskStep) (most : Outcomes) → new ≡ old → EachMoment (length old) (length new) (left_of new) most
during_none old new most is k from to = absurd (omega (arith, ap length is))

-- a disk whose last step was not cut reads by all of its steps
pub whole_reads : (log : List DiskStep) (cut : Bool) → cut ≡ false → read_of (done_of log cut) ≡ read_of log
whole_reads log cut is = ap (λ (c : Bool). read_of (done_of log c)) is

module _ (old : DiskState) (step : DiskStep) (new : DiskState) (failed : Bool) (takes : Takes old step new failed) where
  abbrev Grows : Type 0
  Grows = (new.log ≡ old.log ++ step ∷ []) × (old.cut ≡ false)

  grows_or : Grows ⊎ (new.log ≡ old.log)
  grows_or = elim (cases_Bool failed) [
    | inl t ↦ elim (takes.stopped t) [
      | inl stays ↦ inr stays.0
      | inr cuts ↦ inl (cuts.0, cuts.1)
    ]
    | inr f ↦ let done = takes.done f in inl (done.0, done.1)
  ]

  pub reads_done : IsFalse failed → Same (read_after step (reads_of old)) (reads_of new)
  reads_done f q =
      let done = takes.done f in
      let before : read_of (done_of old.log old.cut) ≡ read_of old.log = whole_reads old.log old.cut done.1 in
      let after : read_of (done_of new.log new.cut) ≡ read_of new.log = whole_reads new.log new.cut done.2 in
      ap (λ (g : Files). g q) after ∙ ap (λ (l : List DiskStep). read_of l q) done.0 ∙ ap (λ (g : Files). g q) (read_one_more old.log step no_files) ∙ sym (ap (λ (g : Files). read_after step g q) before)

  pub reads_kept : IsTrue failed → Same (reads_of old) (reads_of new)
  reads_kept t q = elim (takes.stopped t) [
    | inl stays ↦ ap (λ (l : List DiskStep). read_of (done_of l new.cut) q) stays.0 ∙ ap (λ (c : Bool). read_of (done_of old.log c) q) stays.1
    | inr cuts ↦
        ap (λ (l : List DiskStep). read_of (done_of l new.cut) q) cuts.0 ∙ ap (λ (c : Bool). read_of (done_of (old.log ++ step ∷ []) c) q) cuts.2
        ∙ ap (λ (l : List DiskStep). read_of l q) (front_of old.log step) ∙ sym (ap (λ (c : Bool). read_of (done_of old.log c) q) cuts.1)
  ]

  pub reads_either : (P : Files → Type 0) → P (read_after step (reads_of old)) → P (reads_of old) → P (reads_of new)
  reads_either P after before = elim (cases_Bool failed) [
    | inl t ↦ subst P (one_files (reads_of old) (reads_of new) (reads_kept t)) before
    | inr f ↦ subst P (one_files (read_after step (reads_of old)) (reads_of new) (reads_done f)) after
  ]

  pub time_of : Elapses (length old.log) (length new.log) (left_of old.log) (left_of new.log)
  time_of = elim grows_or [
    | inl grows ↦ subst (λ (l : List DiskStep). Elapses (length old.log) (length l) (left_of old.log) (left_of l)) (sym grows.0) (elapses_step old.log step)
    | inr is ↦ elapses_none old.log new.log is
  ]

  pub during : EachMoment (length old.log) (length new.log) (left_of new.log) (left_after step (reads_of old) (left_of old.log (length old.log)))
  during = elim grows_or [
    | inl grows ↦
        let before : read_of old.log ≡ read_of (done_of old.log old.cut) = sym (whole_reads old.log old.cut grows.1) in
        subst (λ (f : Files). EachMoment (length old.log) (length new.log) (left_of new.log) (left_after step f (left_of old.log (length old.log)))) before
        (subst (λ (l : List DiskStep). EachMoment (length old.log) (length l) (left_of l) (left_after step (read_of old.log) (left_of old.log (length old.log)))) (sym grows.0) (during_step old.log step))
    | inr is ↦ during_none old.log new.log (left_after step (reads_of old) (left_of old.log (length old.log))) is
  ]

  pub last_left : IsFalse failed → Within (left_after step (reads_of old) (left_of old.log (length old.log))) (left_of new.log (length new.log))
  last_left f =
      let done = takes.done f in
      let before : read_of old.log ≡ read_of (done_of old.log old.cut) = sym (whole_reads old.log old.cut done.1) in
      subst (λ (g : Files). Within (left_after step g (left_of old.log (length old.log))) (left_of new.log (length new.log))) before
      (subst (λ (l : List DiskStep). Within (left_after step (read_of old.log) (left_of old.log (length old.log))) (left_of l (length l))) (sym done.0) (left_step old.log step))
