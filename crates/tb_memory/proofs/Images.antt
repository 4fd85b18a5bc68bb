-- What a crash may leave, by the steps up to a moment.
use Rattle.std.proofs.Common.{◌≡◌, inl, inr, ℕ, zero, suc, ◌+◌, ◌<◌, ◌≤◌, Bool, false, true, List, [], ◌∷◌, ◌++◌, length, take, drop, get_or, refl, sym, ap, subst, ◌∙◌, arith}
use Rattle.std.specs.Prelude.{Option, Some, if◌then◌else◌, ◌-◌, ◌/◌}
use Rattle.std.proofs.lemmas.Bool.{cases_lt, cases_Bool}
use Rattle.std.proofs.lemmas.List.{take_more, drop_more, drop_all, drop-take, length-take-le, get_or-take}
use Rattle.std.proofs.Math.Seq.{take-length}
use Rattle.tb_outside.specs.declared.disks.DiskStep.{DiskStep}
use Rattle.tb_outside.specs.declared.disks.DiskStep.TheVariants.{Write, Rename, Remove, Sync}
use Rattle.tb_outside.specs.Disk.{Files, Outcomes, no_files, put_at, read_after, left_after, read_after_all, left_after_all}
use Rattle.tb_outside.specs.Moments.{Within, IsImage}
use Rattle.tb_outside.specs.Laws.{which_path, put_other, all_is_left, write_was, move_was, remove_was, read_append, read_one_more, left_append, left_one_more}
use Rattle.tb_memory.specs.declared.crashes.Crash.{Crash}
use Rattle.tb_memory.specs.declared.crashes.Crash.TheVariants.{Old, New, Half}
use Rattle.tb_memory.specs.Crashes.{read_of, left_of, Nothing, is_sync, last_sync, unsynced, halves, left_steps}

-- only a sync takes away what was left before it
was_left : (step : DiskStep) → is_sync step ≡ false → (files : Files) (old : Outcomes) → Within (left_after step files old) old
was_left (Write path text) other files old = write_was path old
was_left (Rename from to) other files old = move_was from to files old
was_left (Remove path) other files old = remove_was path old
was_left Sync other files old = absurd (cc other)

module _ (log : List DiskStep) where
  abbrev at : ℕ → DiskStep
  at i = get_or log i Sync

  -- one step more
  left_next : (i : ℕ) → i < length log → Within (left_of log (i + 1)) (left_after (at i) (read_of (take i log)) (left_of log i))
  left_next i lt q content h =
      subst (λ (l : List DiskStep). left_after_all l no_files Nothing q content) (sym (take_more log i Sync lt)) (left_one_more (take i log) (at i) no_files Nothing q content h)

  abbrev Unsynced : ℕ → ℕ → Type 0
  Unsynced a b = (j : ℕ) → a ≤ j → j < b → is_sync (at j) ≡ false

  -- what was left stays so while no sync follows
  stays : (a d : ℕ) → a + d ≤ length log → Unsynced a (a + d) → Within (left_of log (a + d)) (left_of log a)
  stays a zero within unsynced q content h = let same : a ≡ a + 0 = omega arith in subst (λ (k : ℕ). left_of log k q content) same h
  stays a (suc d) within unsynced q content h =
      let before = stays a d (omega (arith, within)) (λ j from to. unsynced j from (omega (arith, to))) q content h in
      let last : is_sync (at (a + d)) ≡ false = unsynced (a + d) (omega arith) (omega arith) in
      let there : left_of log (a + d + 1) q content = left_next (a + d) (omega (arith, within)) q content (was_left (at (a + d)) last (read_of (take (a + d) log)) (left_of log (a + d)) q content before) in
      let same : a + d + 1 ≡ a + suc d = omega arith in
      subst (λ (k : ℕ). left_of log k q content) same there

  stays_to : (a k : ℕ) → a ≤ k → k ≤ length log → Unsynced a k → Within (left_of log k) (left_of log a)
  stays_to a k le within unsynced =
      let same : a + (k - a) ≡ k = omega (arith, le) in
      subst (λ (n : ℕ). Within (left_of log n) (left_of log a)) same
      (stays a (k - a) (omega (arith, le, within)) (λ j from to. unsynced j from (omega (arith, le, to))))

  last_within : (k : ℕ) → last_sync log k ≤ k
  last_within zero = omega arith
  last_within (suc k) = elim (is_sync (at k)) as (λ b. (if b then suc k else last_sync log k) ≤ suc k) [
    | true ↦ omega arith
    | false ↦ let so_far = last_within k in omega (arith, so_far)
  ]

  last_unsynced : (k : ℕ) → Unsynced (last_sync log k) k
  last_unsynced zero = λ j from to. absurd (omega (arith, to))
  last_unsynced (suc k) = elim (cases_Bool (is_sync (at k))) [
    | inl t ↦
        let here : last_sync log (suc k) ≡ suc k = ap (λ (b : Bool). if b then suc k else last_sync log k) t in
        λ j from to. absurd (omega (arith, here, from, to))
    | inr f ↦
        let here : last_sync log (suc k) ≡ last_sync log k = ap (λ (b : Bool). if b then suc k else last_sync log k) f in
        λ j from to. elim (cases_lt j k) [
          | inl lt ↦ last_unsynced k j (omega (arith, here, from)) lt
          | inr ge ↦ let same : k ≡ j = omega (arith, to, ge) in subst (λ (n : ℕ). is_sync (at n) ≡ false) same f
        ]
  ]

  -- each file that these steps write may hold anything
  abbrev Free : Outcomes → List DiskStep → Type 0
  Free most [] = Unit {0}
  Free most (Write path text ∷ steps) = ((content : Option (List ℕ)) → most path content) × Free most steps
  Free most (Rename from to ∷ steps) = Free most steps
  Free most (Remove path ∷ steps) = Free most steps
  Free most (Sync ∷ steps) = Free most steps

  free_step : (most : Outcomes) (step : DiskStep) (steps : List DiskStep) → ((path text : List ℕ) → step ≡ Write path text → (content : Option (List ℕ)) → most path content) → Free most steps → Free most (step ∷ steps)
  free_step most (Write path text) steps any free = (any path text refl, free)
  free_step most (Rename from to) steps any free = free
  free_step most (Remove path) steps any free = free
  free_step most Sync steps any free = free

  -- what a write leaves at its path
  wrote : (i k : ℕ) → i < k → k ≤ length log → Unsynced i k → (path text : List ℕ) → at i ≡ Write path text → (content : Option (List ℕ)) → left_of log k path content
  wrote i k lt within unsynced path text is content =
      let here : left_after (at i) (read_of (take i log)) (left_of log i) path content =
      subst (λ (step : DiskStep). left_after step (read_of (take i log)) (left_of log i) path content) (sym is) (λ ne. absurd (ne refl)) in
      stays_to (i + 1) k (omega (arith, lt)) within (λ j from to. unsynced j (omega (arith, from)) to) path content (left_next i (omega (arith, lt, within)) path content here)

  free_from : (k : ℕ) → k ≤ length log → (d s : ℕ) → s + d ≡ k → Unsynced s k → Free (left_of log k) (drop s (take k log))
  free_from k within zero s is unsynced =
      let none : drop s (take k log) ≡ [] = drop_all s (take k log) (omega (arith, length-take-le k log within, is)) in
      subst (λ (l : List DiskStep). Free (left_of log k) l) (sym none) tt
  free_from k within (suc d) s is unsynced =
      let long : s < length (take k log) = omega (arith, length-take-le k log within, is) in
      let more : drop s (take k log) ≡ get_or (take k log) s Sync ∷ drop (s + 1) (take k log) = drop_more (take k log) s Sync long in
      let first : get_or (take k log) s Sync ≡ at s = get_or-take k log s Sync (omega (arith, is)) in
      let rest : Free (left_of log k) (drop (s + 1) (take k log)) = free_from k within d (s + 1) (omega (arith, is)) (λ j from to. unsynced j (omega (arith, from)) to) in
      let all : Free (left_of log k) (at s ∷ drop (s + 1) (take k log)) =
      free_step (left_of log k) (at s) (drop (s + 1) (take k log)) (λ path text e. wrote s k (omega (arith, is)) within unsynced path text e) rest in
      subst (λ (l : List DiskStep). Free (left_of log k) l) (sym (more ∙ ap (λ (x : DiskStep). x ∷ drop (s + 1) (take k log)) first)) all

  image_halves : (most : Outcomes) (steps : List DiskStep) (files : Files) → Free most steps → IsImage most files → IsImage most (read_after_all (halves steps) files)
  image_halves most [] files free is = is
  image_halves most (Write path text ∷ steps) files free is =
      image_halves most steps (read_after (Write path (take (length text / 2) text)) files) free.1
      (λ q. elim (which_path q path) [
        | inl e ↦ subst (λ (p : List ℕ). most p (put_at path (Some (take (length text / 2) text)) files p)) (sym e) (free.0 (put_at path (Some (take (length text / 2) text)) files path))
        | inr ne ↦ subst (λ (c : Option (List ℕ)). most q c) (sym (put_other path (Some (take (length text / 2) text)) files q ne)) (is q)
      ])
  image_halves most (Rename from to ∷ steps) files free is = image_halves most steps files free is
  image_halves most (Remove path ∷ steps) files free is = image_halves most steps files free is
  image_halves most (Sync ∷ steps) files free is = image_halves most steps files free is

  done_image : (k : ℕ) → IsImage (left_of log k) (read_of (take k log))
  done_image k = all_is_left (take k log) no_files Nothing (λ q. refl)

  -- each crash leaves an image
  pub crash_image : (crash : Crash) (k : ℕ) → k ≤ length log → IsImage (left_of log k) (read_of (left_steps crash log k))
  crash_image Old k within = λ q. stays_to (last_sync log k) k (last_within k) within (last_unsynced k) q (read_of (take (last_sync log k) log) q) (done_image (last_sync log k) q)
  crash_image New k within = done_image k
  crash_image Half k within =
      let last = last_sync log k in
      let le = last_within k in
      let whole : last + (k - last) ≡ k = omega (arith, le) in
      let part : drop last (take k log) ≡ unsynced log k =
      subst (λ (n : ℕ). drop last (take n log) ≡ take (k - last) (drop last log)) whole (drop-take last (k - last) log) in
      let free : Free (left_of log k) (unsynced log k) = subst (λ (l : List DiskStep). Free (left_of log k) l) part (free_from k within (k - last) last whole (last_unsynced k)) in
      subst (λ (f : Files). IsImage (left_of log k) f) (sym (read_append (take k log) (halves (unsynced log k)) no_files))
      (image_halves (left_of log k) (unsynced log k) (read_of (take k log)) free (done_image k))

pub halves_more : (steps : List DiskStep) (i : ℕ) (step : DiskStep) → i < length steps → step ≡ get_or steps i step → halves (drop i steps) ≡ halves (step ∷ drop (i + 1) steps)
halves_more steps i step lt is = ap halves (drop_more steps i step lt) ∙ ap (λ (x : DiskStep). halves (x ∷ drop (i + 1) steps)) (sym is)

-- a disk that a crash left is synced
module _ (steps log : List DiskStep) (is : log ≡ steps ++ Sync ∷ []) where
  pub synced_reads : read_of log ≡ read_of steps
  synced_reads = ap (λ (l : List DiskStep). read_of l) is ∙ read_one_more steps Sync no_files

  pub synced_left : Within (λ q content. content ≡ read_of log q) (left_of log (length log))
  synced_left q content h =
      let all : left_after_all log no_files Nothing q content = subst (λ (l : List DiskStep). left_after_all l no_files Nothing q content) (take-length log) h in
      let last : content ≡ read_of steps q = left_append steps (Sync ∷ []) no_files Nothing q content (subst (λ (l : List DiskStep). left_after_all l no_files Nothing q content) is all) in
      last ∙ sym (ap (λ (f : Files). f q) synced_reads)
