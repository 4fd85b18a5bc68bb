-- Laws of the steps of a disk, and of its moments.
use Rattle.std.specs.Prelude.{◌≡◌, ◌≢◌, ◌⊎◌, ◌↔◌, ℕ, Bool, cond, true, false, ◌<◌, ◌≤◌, List, [], ◌∷◌, ◌++◌, refl, Option, Some, None, is_some}
use Rattle.std.proofs.Common.{inl, inr, ⊎_elim, sym, ap, subst, ◌∙◌, arith}
use Rattle.std.specs.Str.{bytes_eq}
use Rattle.std.proofs.lemmas.Bool.{cases_lt, cases_Bool, false_from_ne_true}
use Rattle.std.proofs.lemmas.Slice.Eq.{bytes_eq-Decides}
use Rattle.tb_outside.specs.declared.disks.DiskStep.{DiskStep}
use Rattle.tb_outside.specs.declared.disks.DiskStep.TheVariants.{Write, Rename, Remove, Sync}
use Rattle.tb_outside.specs.Disk.{Files, Outcomes, Same, put_at, moved, read_after, left_after, read_after_all, left_after_all, AfterWrite, AfterRename, AfterRemove}
use Rattle.tb_outside.specs.Moments.{Within, EachMoment, Elapses, IsImage, Always, LeavesOnly, AddsNothing, HadMoment}

pub same_path : (p : List ℕ) → bytes_eq p p ≡ true
same_path p = (bytes_eq-Decides p p).1 refl

pub other_path : (q p : List ℕ) → q ≢ p → bytes_eq q p ≡ false
other_path q p ne = false_from_ne_true (bytes_eq q p) (λ t. ne ((bytes_eq-Decides q p).0 t))

pub which_path : (q p : List ℕ) → (q ≡ p) ⊎ (q ≢ p)
which_path q p = elim (cases_Bool (bytes_eq q p)) [
  | inl t ↦ inl ((bytes_eq-Decides q p).0 t)
  | inr f ↦ inr (λ e. let t : bytes_eq q p ≡ true = (bytes_eq-Decides q p).1 e in cc)
]

pub put_here : (path : List ℕ) (content : Option (List ℕ)) (files : Files) → put_at path content files path ≡ content
put_here path content files = ap (λ (b : Bool). cond b content (files path)) (same_path path)

pub put_other : (path : List ℕ) (content : Option (List ℕ)) (files : Files) (q : List ℕ) → q ≢ path → put_at path content files q ≡ files q
put_other path content files q ne = ap (λ (b : Bool). cond b content (files q)) (other_path q path ne)

module _ (from to : List ℕ) (files : Files) where
  pub moved_other : (q : List ℕ) → q ≢ from → q ≢ to → moved from to files q ≡ files q
  moved_other q ne_from ne_to = elim (is_some (files from)) as (λ b. cond b (put_at to (files from) (put_at from None files) q) (files q) ≡ files q) [
    | true ↦ put_other to (files from) (put_at from None files) q ne_to ∙ put_other from None files q ne_from
    | false ↦ refl
  ]

  pub moved_to : (text : List ℕ) → files from ≡ Some text → moved from to files to ≡ Some text
  moved_to text e =
      ap (λ (c : Option (List ℕ)). cond (is_some c) (put_at to c (put_at from None files) to) (files to)) e ∙ put_here to (Some text) (put_at from None files)

  -- a rename of nothing changes nothing
  pub moved_nothing : files from ≡ None → (q : List ℕ) → moved from to files q ≡ files q
  moved_nothing none q = ap (λ (c : Option (List ℕ)). cond (is_some c) (put_at to c (put_at from None files) q) (files q)) none

  pub moved_target : (moved from to files to ≡ files to) ⊎ (moved from to files to ≡ files from)
  moved_target = elim (is_some (files from)) as (λ b. (cond b (put_at to (files from) (put_at from None files) to) (files to) ≡ files to) ⊎ (cond b (put_at to (files from) (put_at from None files) to) (files to) ≡ files from)) [
    | true ↦ inr (put_here to (files from) (put_at from None files))
    | false ↦ inl refl
  ]

  pub moved_source : (moved from to files from ≡ files from) ⊎ (moved from to files from ≡ None)
  moved_source = elim (is_some (files from)) as (λ b. (cond b (put_at to (files from) (put_at from None files) from) (files from) ≡ files from) ⊎ (cond b (put_at to (files from) (put_at from None files) from) (files from) ≡ None)) [
    | true ↦ elim (which_path from to) [
      | inl e ↦ inl (subst (λ (p : List ℕ). put_at to (files from) (put_at from None files) p ≡ files from) (sym e) (put_here to (files from) (put_at from None files)))
      | inr ne ↦ inr (put_other to (files from) (put_at from None files) from ne ∙ put_here from None files)
    ]
    | false ↦ inl refl
  ]

-- files that read alike are one
pub one_files : (f g : Files) → Same f g → f ≡ g
one_files f g same = λ i q. (sym (same q)) i

pub started : (now : ℕ) (left : ℕ → Outcomes) → Elapses now now left left
started now left = record { later = omega arith; keeps = λ k q content le. (λ h. h, λ h. h) }

pub goes_on : (a b c : ℕ) (first second third : ℕ → Outcomes) → Elapses a b first second → Elapses b c second third → Elapses a c first third
goes_on a b c first second third so_far time = record {
  later = omega (arith, so_far.later, time.later);
  keeps = λ k q content le.
      let one = so_far.keeps k q content le in
      let two = time.keeps k q content (omega (arith, so_far.later, le)) in
      (λ h. one.0 (two.0 h), λ h. two.1 (one.1 h));
}

-- where the clock stands still, a crash leaves what it left
pub stands_still : (a b : ℕ) (past left : ℕ → Outcomes) → Elapses a b past left → b ≤ a → (q : List ℕ) (content : Option (List ℕ)) → left b q content ↔ past a q content
stands_still a b past left time stands q content =
    let same : a ≡ b = omega (arith, time.later, stands) in
    subst (λ (k : ℕ). left k q content ↔ past a q content) same (time.keeps a q content (omega arith))

-- so a call that changes what a crash may leave moves the clock on
pub clock_moves : (a b : ℕ) (past left : ℕ → Outcomes) → Elapses a b past left → (((q : List ℕ) (content : Option (List ℕ)) → left b q content ↔ past a q content) → ⊥) → a < b
clock_moves a b past left time changed = elim (cases_lt a b) [
  | inl lt ↦ lt
  | inr ge ↦ absurd (changed (λ q content. stands_still a b past left time ge q content))
]

-- what holds of each moment of a call, and of the state before it, holds of the state after it
pub at_end : (a b : ℕ) (past left : ℕ → Outcomes) (most : Outcomes) → Elapses a b past left → EachMoment a b left most → Within most (past a) → Within most (left b)
at_end a b past left most time during before = elim (cases_lt a b) [
  | inl lt ↦ during b lt (omega arith)
  | inr ge ↦
      let same : a ≡ b = omega (arith, time.later, ge) in
      let P : ℕ → Type 0 = λ k. Within most (left k) in
      subst P same (λ q content h. before q content ((time.keeps a q content (omega arith)).0 h))
]

pub within_self : (outcomes : Outcomes) → Within outcomes outcomes
within_self outcomes q content h = h

pub within_on : (first second third : Outcomes) → Within first second → Within second third → Within first third
within_on first second third one two q content h = one q content (two q content h)

-- a step of more leaves more
pub left_more : (step : DiskStep) (files : Files) (most now : Outcomes) → Within most now → Within (left_after step files most) (left_after step files now)
left_more (Write path text) files most now more q content h = λ ne. more q content (h ne)
left_more (Rename from to) files most now more q content h = (
  λ none. more q content (h.0 none),
  record {
    target = λ e. ⊎_elim (λ l. inl (more to content l)) (λ r. inr (more from content r)) (h.1.target e);
    source = λ e. ⊎_elim (λ l. inl (more from content l)) (λ r. inr r) (h.1.source e);
    others = λ f t. more q content (h.1.others f t);
  },
)
left_more (Remove path) files most now more q content h = record {
  target = λ e. ⊎_elim (λ l. inl (more path content l)) (λ r. inr r) (h.target e);
  others = λ ne. more q content (h.others ne);
}
left_more Sync files most now more q content h = h

-- one step more
pub read_one_more : (steps : List DiskStep) (step : DiskStep) (files : Files) → read_after_all (steps ++ step ∷ []) files ≡ read_after step (read_after_all steps files)
read_one_more [] step files = refl
read_one_more (s ∷ steps) step files = read_one_more steps step (read_after s files)

pub left_one_more : (steps : List DiskStep) (step : DiskStep) (files : Files) (old : Outcomes) → Within (left_after_all (steps ++ step ∷ []) files old) (left_after step (read_after_all steps files) (left_after_all steps files old))
left_one_more [] step files old = within_self (left_after step files old)
left_one_more (s ∷ steps) step files old = left_one_more steps step (read_after s files) (left_after s files old)

-- what was left before a step is among what is left after it, unless it is a sync
pub write_was : (path : List ℕ) (old : Outcomes) → Within (AfterWrite path old) old
write_was path old q content h = λ ne. h

pub rename_was : (from to : List ℕ) (old : Outcomes) → Within (AfterRename from to old) old
rename_was from to old q content h = record {
  target = λ e. inl (subst (λ (p : List ℕ). old p content) e h);
  source = λ e. inl (subst (λ (p : List ℕ). old p content) e h);
  others = λ f t. h;
}

pub move_was : (from to : List ℕ) (files : Files) (old : Outcomes) → Within (left_after (Rename from to) files old) old
move_was from to files old q content h = (λ none. h, rename_was from to old q content h)

pub remove_was : (path : List ℕ) (old : Outcomes) → Within (AfterRemove path old) old
remove_was path old q content h = record {
  target = λ e. inl (subst (λ (p : List ℕ). old p content) e h);
  others = λ ne. h;
}

-- the two clauses of a rename are what a crash may leave after it
pub rename_leaves : (from to : List ℕ) (files : Files) (a b : ℕ) (left : ℕ → Outcomes) (old : Outcomes) → EachMoment a b left (AfterRename from to old) → (files from ≡ None → EachMoment a b left old) → EachMoment a b left (left_after (Rename from to) files old)
rename_leaves from to files a b left old crash absent k gt le q content h = (λ none. absent none k gt le q content h, crash k gt le q content h)

-- some steps, and then others
pub read_append : (some rest : List DiskStep) (files : Files) → read_after_all (some ++ rest) files ≡ read_after_all rest (read_after_all some files)
read_append [] rest files = refl
read_append (s ∷ some) rest files = read_append some rest (read_after s files)

pub left_append : (some rest : List DiskStep) (files : Files) (old : Outcomes) → Within (left_after_all rest (read_after_all some files) (left_after_all some files old)) (left_after_all (some ++ rest) files old)
left_append [] rest files old = within_self (left_after_all rest files old)
left_append (s ∷ some) rest files old = left_append some rest (read_after s files) (left_after s files old)

-- what is read may be left
pub step_is_left : (step : DiskStep) (files : Files) (old : Outcomes) → IsImage old files → IsImage (left_after step files old) (read_after step files)
step_is_left (Write path text) files old here q = λ ne. subst (λ (c : Option (List ℕ)). old q c) (sym (put_other path (Some text) files q ne)) (here q)
step_is_left (Remove path) files old here q = record {
  target = λ e. inr (subst (λ (p : List ℕ). put_at path None files p ≡ None) (sym e) (put_here path None files));
  others = λ ne. subst (λ (c : Option (List ℕ)). old q c) (sym (put_other path None files q ne)) (here q);
}
step_is_left Sync files old here q = refl
step_is_left (Rename from to) files old here q = (
  λ none. subst (λ (c : Option (List ℕ)). old q c) (sym (moved_nothing from to files none q)) (here q),
  record {
    target = λ e. subst (λ (p : List ℕ). old to (moved from to files p) ⊎ old from (moved from to files p)) (sym e)
        (⊎_elim (λ at. inl (subst (λ (c : Option (List ℕ)). old to c) (sym at) (here to))) (λ at. inr (subst (λ (c : Option (List ℕ)). old from c) (sym at) (here from))) (moved_target from to files));
    source = λ e. subst (λ (p : List ℕ). old from (moved from to files p) ⊎ (moved from to files p ≡ None)) (sym e)
        (⊎_elim (λ at. inl (subst (λ (c : Option (List ℕ)). old from c) (sym at) (here from))) (λ at. inr at) (moved_source from to files));
    others = λ f t. subst (λ (c : Option (List ℕ)). old q c) (sym (moved_other from to files q f t)) (here q);
  },
)

pub all_is_left : (steps : List DiskStep) (files : Files) (old : Outcomes) → IsImage old files → IsImage (left_after_all steps files old) (read_after_all steps files)
all_is_left [] files old here = here
all_is_left (step ∷ steps) files old here = all_is_left steps (read_after step files) (left_after step files old) (step_is_left step files old here)

-- where a crash leaves what a read gives, each image has what the files have
pub just_always : (P : Files → Type 0) (files : Files) (now : Outcomes) → Within (λ q content. content ≡ files q) now → P files → Always P now
just_always P files now just holds image is = subst P (one_files files image (λ q. just q (image q) (is q))) holds

-- each image of the one is an image of the other
pub always_within : (P : Files → Type 0) (most now : Outcomes) → Within most now → Always P most → Always P now
always_within P most now more always image is = always image (λ q. more q (image q) (is q))

-- each path that a call names reads one of its images, whatever it answered, where the clock's images are bounded
pub reads_within : (files : Files) (most now : Outcomes) → Within most now → IsImage now files → IsImage most files
reads_within files most now more is q = more q (files q) (is q)

-- runs one after another
module _ {D : Type 0} (clock : D → ℕ) (left : D → ℕ → Outcomes) where
  pub leaves_start : (disk : D) (P : Files → Type 0) → Always P (left disk (clock disk)) → LeavesOnly clock left disk disk P
  leaves_start disk P always = record {
    time = started (clock disk) (left disk);
    each = λ k from to. let same : clock disk ≡ k = omega arith in subst (λ (n : ℕ). Always P (left disk n)) same always;
  }

  pub leaves_now : (old new : D) (P : Files → Type 0) → LeavesOnly clock left old new P → Always P (left new (clock new))
  leaves_now old new P run = run.each (clock new) run.time.later (omega arith)

  pub leaves_then : (old mid new : D) (P : Files → Type 0) → LeavesOnly clock left old mid P → LeavesOnly clock left mid new P → LeavesOnly clock left old new P
  leaves_then old mid new P run more = record {
    time = goes_on (clock old) (clock mid) (clock new) (left old) (left mid) (left new) run.time more.time;
    each = λ k from to. elim (cases_lt (clock mid) k) [
      | inl lt ↦ more.each k (omega arith) to
      | inr le ↦ λ image is. run.each k from le image (λ q. (more.time.keeps k q (image q) le).0 (is q))
    ];
  }

  pub leaves_nothing : (old new : D) (P : Files → Type 0) → AddsNothing clock left old new → Always P (left old (clock old)) → LeavesOnly clock left old new P
  leaves_nothing old new P quiet always = record {
    time = quiet.time;
    each = λ k from to. elim (cases_lt (clock old) k) [
      | inl lt ↦ λ image is. always image (λ q. quiet.during k lt to q (image q) (is q))
      | inr le ↦
          let same : clock old ≡ k = omega arith in
          λ image is. always image (λ q. subst (λ (n : ℕ). left old n q (image q)) (sym same) ((quiet.time.keeps k q (image q) le).0 (is q)))
    ];
  }

  -- a moment stays one
  pub moment_stays : (from : ℕ) (old new : D) (Q : Files → Type 0) → HadMoment clock left from old Q → Elapses (clock old) (clock new) (left old) (left new) → HadMoment clock left from new Q
  moment_stays from old new Q at time = (at.0, at.1, omega (arith, at.2, time.later), λ image is. at.3 image (λ q. (time.keeps at.0 q (image q) at.2).0 (is q)))
