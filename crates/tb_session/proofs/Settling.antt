-- The headline from how a run ended.
use Rattle.std.proofs.Common.{◌≡◌, ℕ, ◌<◌, Bool, true, false, List, [], ◌∷◌, ◌++◌, ◌⊎◌, take, refl, sym, ap, ◌∙◌, subst, arith, IsTrue, inl, inr}
use Rattle.std.specs.Prelude.{Option, Some, None, Contains, slice_index_or, zero, suc}
use Rattle.std.specs.List.{AllByRecursion}
use Rattle.std.specs.List.Sorted.{IsStrictlyIncreasing}
use Rattle.std.proofs.lemmas.List.{append-nil}
use Rattle.tb_text.specs.declared.statuses.Status.TheVariants as status
use Rattle.tb_text.specs.declared.statuses.Which.{Which}
use Rattle.tb_text.specs.declared.statuses.Which.TheVariants.{Disk, Sink}
use Rattle.tb_text.specs.declared.statuses.Which.TheVariants as object
use Rattle.tb_outside.specs.Causes.{Rose}
use Rattle.tb_outside.specs.Disk.{Files, Outcomes, read_after_all}
use Rattle.tb_outside.specs.Laws.{just_always}
use Rattle.tb_outside.specs.Moments.{Within, Always}
use Rattle.tb_plan.specs.Plans.{plan_of}
use Rattle.tb_session.specs.Blamed.{Blamed}
use Rattle.tb_session.specs.Builds.{Clean, IsClean, IsNoOutput, checks_of, builds_of}
use Rattle.tb_session.specs.Ends.{IsSettled}
use Rattle.tb_session.specs.Generations.{Tree, opening}
use Rattle.tb_session.specs.Headline.{Run, Headline, AreReports, IsTail, HasOutputs, NotServed, texts_of, report_of}
use Rattle.tb_session.specs.Plans.{IsOutside}
use Rattle.tb_session.specs.Publishes.{Answer, Publishes, Seen, steps_of}
use Rattle.tb_session.specs.Ready.{IsReady}
use Rattle.tb_session.specs.Reports.{status_of}
use Rattle.tb_session.specs.declared.publishes.Publication.{Publication}
use Rattle.tb_session.specs.declared.publishes.Script.{Script}
use Rattle.tb_session.proofs.Ending.{unsettled_not_built, unsettled_outside}
use Rattle.tb_session.proofs.OneBuild.{one_build}
use Rattle.tb_session.proofs.Readied.{is_clean, settles, all_read, outside, untouched, blamed, failed_elsewhere}

-- files that read alike have the same outputs
pub outputs_on : (old new : Files) (outputs : List (List ℕ × List ℕ)) → ((path : List ℕ) → new path ≡ old path) → AllByRecursion (λ output. old output.0 ≡ Some output.1) outputs → AllByRecursion (λ output. new output.0 ≡ Some output.1) outputs
outputs_on old new [] same has = tt
outputs_on old new (o ∷ outputs) same has = (same o.0 ∙ has.0, outputs_on old new outputs same has.1)

-- ---- lists of generations

pub none_in : (g : ℕ) → Contains [] g → ⊥
none_in g h = omega (arith, h.1)

pub zero_in : Contains {X = ℕ} (0 ∷ []) 0
zero_in = (0, omega arith, refl)

one_at : (g k : ℕ) → k < 1 → slice_index_or (0 ∷ []) k g ≡ g → g ≡ 0
one_at g zero lt e = sym e
one_at g (suc k) lt e = absurd (omega (arith, lt))

pub only_zero : (g : ℕ) → Contains (0 ∷ []) g → g ≡ 0
only_zero g h = one_at g h.0 h.1 h.2

-- ---- a run that stopped

pub stopped : (alone disk_tells feed_tells sink_tells : Bool) (run : Run) → run.settled ≡ [] → run.printed_last ≡ run.printed → (IsSettled run.status → ⊥) → Headline alone disk_tells feed_tells sink_tells run
stopped alone disk_tells feed_tells sink_tells run settled printed ends = record {
  diagnostics = λ told. record {
    reports = [];
    tail = [];
    taken = printed ∙ sym (append-nil run.printed) ∙ sym (append-nil (run.printed ++ []));
    are_reports = subst (λ (gs : List ℕ). AreReports run gs []) (sym settled) AreReports.none;
    is_tail = IsTail.nothing;
  };
  bytes = λ told is. absurd (ends is);
  clean = λ g h. absurd (none_in g (subst (λ (gs : List ℕ). Contains gs g) settled h));
  ascending = subst IsStrictlyIncreasing (sym settled) (λ k lt. absurd (omega (arith, lt)));
  due = λ g h. absurd (none_in g (subst (λ (gs : List ℕ). Contains gs g) settled h));
  all = λ told is. absurd (ends is);
  once = λ watch no. settled;
  left = λ told is. absurd (ends is);
  settles = λ is. absurd (ends is);
  status = λ is. absurd (ends is);
  sums = λ is. absurd (ends is);
}

-- ---- a run that builds

-- the same without `--watch`
abbrev pub once : Run → Run
once r = record r { command = record r.command { watch = false } }

module _ (texts : Tree) (roots : List (List ℕ)) (verbose : Bool) (p : Publication) (ready : IsReady texts roots verbose p) where
  pub served : NotServed texts roots → ⊥
  served none = none ready.clean (is_clean texts roots ready.clean p.scripts ready.writes)

  pub publication_settles : IsSettled p.status
  publication_settles = subst IsSettled (sym ready.status) (settles texts roots ready.clean p.scripts ready.writes)

module _ (alone disk_tells feed_tells sink_tells : Bool) (r : Run) (p : Publication) (ready : IsReady (opening r.tree) r.command.roots r.command.verbose p) where
  all_done : r.settled ≡ 0 ∷ [] → r.status ≡ p.status → r.checked ≡ p.checked → r.built ≡ p.built
      → (IsTrue disk_tells → HasOutputs r.files ready.clean)
      → (IsTrue sink_tells → r.printed_last ≡ r.printed ++ p.report) → (IsTrue feed_tells → r.turns_left ≡ r.turns)
      → Headline alone disk_tells feed_tells sink_tells (once r)
  all_done settled ended checked built has printed left =
      let run : Run = once r in
      let texts : Tree = opening r.tree in
      let roots : List (List ℕ) = r.command.roots in
      let made : Clean = ready.clean in
      let report : List ℕ = report_of run 0 made in
      let is : IsClean texts roots made = is_clean texts roots made p.scripts ready.writes in
      let same : (clean : Clean) → IsClean texts roots clean → clean ≡ made = λ clean c_is. one_build texts roots clean made c_is is in
      let zero_settled : (g : ℕ) → Contains r.settled g → g ≡ 0 = λ g h. only_zero g (subst (λ (gs : List ℕ). Contains gs g) settled h) in
      let done : IsSettled r.status = subst IsSettled (sym ended) (publication_settles texts roots r.command.verbose p ready) in
      record {
        diagnostics = λ heard. record {
          reports = report ++ [];
          tail = [];
          taken = printed heard ∙ (λ i. r.printed ++ ready.report i) ∙ (λ i. r.printed ++ sym (append-nil report) i) ∙ sym (append-nil (r.printed ++ (report ++ [])));
          are_reports = subst (λ (gs : List ℕ). AreReports run gs (report ++ [])) (sym settled) (AreReports.more 0 [] [] made is AreReports.none);
          is_tail = IsTail.nothing;
        };
        bytes = λ told yes c c_is. subst (λ (x : Clean). HasOutputs r.files x) (sym (same c c_is)) (has told);
        clean = λ g h. (made, subst (λ (n : ℕ). IsClean (texts_of run n) roots made) (sym (zero_settled g h)) is);
        ascending = subst IsStrictlyIncreasing (sym settled) (λ k lt. absurd (omega (arith, lt)));
        due = λ g h. inr (zero_settled g h);
        all = λ told yes g due. elim due [
          | inl q ↦ absurd (none_in g q)
          | inr e ↦ subst (λ (n : ℕ). Contains r.settled n) (sym e) (subst (λ (gs : List ℕ). Contains gs 0) (sym settled) zero_in)
        ];
        once = λ watch no. absurd (no done);
        left = λ told yes. left told;
        settles = λ yes. ([], settled);
        status = λ yes c c_is. ended ∙ ready.status ∙ sym (ap status_of (same c c_is));
        sums = λ yes c c_is. (checked ∙ ready.checked ∙ sym (ap checks_of (same c c_is)), built ∙ ready.built ∙ sym (ap builds_of (same c c_is)));
      }

  cut_short : r.settled ≡ [] → (IsSettled r.status → ⊥) → Rose r.before.sink r.after.sink
      → (IsTrue sink_tells → (n : ℕ) × (r.printed_last ≡ r.printed ++ take n p.report)) → Headline alone disk_tells feed_tells sink_tells (once r)
  cut_short settled ends rose printed =
      let run : Run = once r in
      let made : Clean = ready.clean in
      let is : IsClean (opening r.tree) r.command.roots made = is_clean (opening r.tree) r.command.roots made p.scripts ready.writes in
      let none : (g : ℕ) → Contains r.settled g → ⊥ = λ g h. none_in g (subst (λ (gs : List ℕ). Contains gs g) settled h) in
      record {
        diagnostics = λ heard. record {
          reports = [];
          tail = take (printed heard).0 (report_of run 0 made);
          taken = (printed heard).1 ∙ (λ i. r.printed ++ take (printed heard).0 (ready.report i)) ∙ (λ i. sym (append-nil r.printed) i ++ take (printed heard).0 (report_of run 0 made));
          are_reports = subst (λ (gs : List ℕ). AreReports run gs []) (sym settled) AreReports.none;
          is_tail = IsTail.cut 0 (printed heard).0 made rose (inr refl, λ h c. absurd (none h c)) (λ told h next. omega arith) is;
        };
        bytes = λ told done. absurd (ends done);
        clean = λ g h. absurd (none g h);
        ascending = subst IsStrictlyIncreasing (sym settled) (λ k lt. absurd (omega (arith, lt)));
        due = λ g h. absurd (none g h);
        all = λ told done. absurd (ends done);
        once = λ watch no. settled;
        left = λ told done. absurd (ends done);
        settles = λ done. absurd (ends done);
        status = λ done. absurd (ends done);
        sums = λ done. absurd (ends done);
      }

-- ---- what was published

module _ (alone disk_tells sink_tells feed_tells : Bool) (r : Run) (p : Publication) (ready : IsReady (opening r.tree) r.command.roots r.command.verbose p)
    (old_files : Files) (left : r.turns_left ≡ r.turns) where
  at_once : Publishes disk_tells sink_tells p
      (record { files = old_files; printed = r.printed; disk_count = r.before.disk; sink_count = r.before.sink })
      (record { files = r.files; printed = r.printed_last; disk_count = r.after.disk; sink_count = r.after.sink })
      (record { status = r.status; settled = r.settled; checked = r.checked; built = r.built })
      → Headline alone disk_tells feed_tells sink_tells (once r)
  at_once by = elim by [
    | inl done ↦ all_done alone disk_tells feed_tells sink_tells r p ready (ap (λ (a : Answer). a.settled) done.ended ∙ ready.settled) (ap (λ (a : Answer). a.status) done.ended)
        (ap (λ (a : Answer). a.checked) done.ended) (ap (λ (a : Answer). a.built) done.ended)
        (λ told. outputs_on (read_after_all (steps_of p.scripts) old_files) r.files ready.clean.outputs (done.files told)
        (all_read (opening r.tree) r.command.roots ready.clean p.scripts ready.writes old_files))
        done.printed (λ told. left)
    | inr other ↦ elim other [
      | inl disk ↦ stopped alone disk_tells feed_tells sink_tells (once r) (ap (λ (a : Answer). a.settled) disk.ended) disk.printed
          (unsettled_outside r.status Disk (Some disk.config) (ap (λ (a : Answer). a.status) disk.ended))
      | inr sink ↦ cut_short alone disk_tells feed_tells sink_tells r p ready (ap (λ (a : Answer). a.settled) sink.ended)
          (unsettled_outside r.status Sink None (ap (λ (a : Answer). a.status) sink.ended)) sink.sink_count sink.printed
    ]
  ]

  pub published : r.command.watch ≡ false → Publishes disk_tells sink_tells p
      (record { files = old_files; printed = r.printed; disk_count = r.before.disk; sink_count = r.before.sink })
      (record { files = r.files; printed = r.printed_last; disk_count = r.after.disk; sink_count = r.after.sink })
      (record { status = r.status; settled = r.settled; checked = r.checked; built = r.built })
      → Headline alone disk_tells feed_tells sink_tells r
  published watch by = subst (λ (w : Bool). Headline alone disk_tells feed_tells sink_tells (record r { command = record r.command { watch = w } })) (sym watch) (at_once by)

module _ (texts : Tree) (roots : List (List ℕ)) (verbose disk_tells sink_tells : Bool) (p : Publication) (ready : IsReady texts roots verbose p) (old new : Seen) (answer : Answer) (by : Publishes disk_tells sink_tells p old new answer) where
  -- what is settled where the run does not settle
  pub unsettled : (IsSettled answer.status → ⊥) → answer.settled ≡ []
  unsettled ends = elim by [
    | inl done ↦ absurd (ends (subst IsSettled (sym (ap (λ (a : Answer). a.status) done.ended)) (publication_settles texts roots verbose p ready)))
    | inr other ↦ elim other [
      | inl disk ↦ ap (λ (a : Answer). a.settled) disk.ended
      | inr sink ↦ ap (λ (a : Answer). a.settled) sink.ended
    ]
  ]

  -- what is counted there, but for a sink that failed
  pub uncounted : (IsSettled answer.status → ⊥) → (answer.status ≡ status.Outside Sink None → ⊥) → (answer.checked ≡ 0) × (answer.built ≡ 0)
  uncounted ends no_sink = elim by [
    | inl done ↦ absurd (ends (subst IsSettled (sym (ap (λ (a : Answer). a.status) done.ended)) (publication_settles texts roots verbose p ready)))
    | inr other ↦ elim other [
      | inl disk ↦ (ap (λ (a : Answer). a.checked) disk.ended, ap (λ (a : Answer). a.built) disk.ended)
      | inr sink ↦ absurd (no_sink (ap (λ (a : Answer). a.status) sink.ended))
    ]
  ]

  -- where the sink failed, all was written
  pub unprinted : answer.status ≡ status.Outside Sink None → (clean : Clean) → IsClean texts roots clean → (answer.checked ≡ checks_of clean) × (answer.built ≡ builds_of clean)
  unprinted e clean is =
      let same : clean ≡ ready.clean = one_build texts roots clean ready.clean is (is_clean texts roots ready.clean p.scripts ready.writes) in
      elim by [
        | inl done ↦ absurd (unsettled_outside answer.status Sink None e (subst IsSettled (sym (ap (λ (a : Answer). a.status) done.ended)) (publication_settles texts roots verbose p ready)))
        | inr other ↦ elim other [
          | inl disk ↦ absurd (no_sink disk.config (sym (ap (λ (a : Answer). a.status) disk.ended) ∙ e))
          | inr sink ↦ (
            ap (λ (a : Answer). a.checked) sink.ended ∙ ready.checked ∙ sym (ap checks_of same),
            ap (λ (a : Answer). a.built) sink.ended ∙ ready.built ∙ sym (ap builds_of same),
          )
        ]
      ]
    where
      no_sink : (config : List ℕ) → status.Outside Disk (Some config) ≡ status.Outside Sink None → ⊥
      no_sink config e = cc

  -- what a crash leaves has all outputs
  pub stays : IsTrue disk_tells → IsSettled answer.status → (left : Outcomes)
      → (((config : List ℕ) → answer.status ≡ status.Outside Disk (Some config) → ⊥) → (p.scripts ≡ []) ⊎ Within (λ q content. content ≡ new.files q) left)
      → (clean : Clean) → IsClean texts roots clean → Always (λ files. HasOutputs files clean) left
  stays told settled left synced clean is =
      let made : Clean = ready.clean in
      let same : clean ≡ made = one_build texts roots clean made is (is_clean texts roots made p.scripts ready.writes) in
      subst (λ (c : Clean). Always (λ (files : Files). HasOutputs files c) left) (sym same) (elim (synced (λ config e. unsettled_outside answer.status Disk (Some config) e settled)) [
        | inl none ↦ λ image is_left.
            subst (λ (scripts : List Script). AllByRecursion (λ (output : List ℕ × List ℕ). read_after_all (steps_of scripts) image output.0 ≡ Some output.1) made.outputs) none
            (all_read texts roots made p.scripts ready.writes image)
        | inr just ↦ just_always (λ (files : Files). HasOutputs files made) new.files left just (elim by [
          | inl done ↦ outputs_on (read_after_all (steps_of p.scripts) old.files) new.files made.outputs (done.files told) (all_read texts roots made p.scripts ready.writes old.files)
          | inr other ↦ elim other [
            | inl disk ↦ absurd (unsettled_outside answer.status Disk (Some disk.config) (ap (λ (a : Answer). a.status) disk.ended) settled)
            | inr sink ↦ absurd (unsettled_outside answer.status Sink None (ap (λ (a : Answer). a.status) sink.ended) settled)
          ]
        ])
      ])

  -- the tree is not read any more
  pub not_the_tree : answer.status ≡ status.Outside object.Tree None → ⊥
  not_the_tree e = elim by [
    | inl done ↦ unsettled_outside answer.status object.Tree None e (subst IsSettled (sym (ap (λ (a : Answer). a.status) done.ended)) (publication_settles texts roots verbose p ready))
    | inr other ↦ elim other [
      | inl disk ↦ no_disk disk.config (sym (ap (λ (a : Answer). a.status) disk.ended) ∙ e)
      | inr sink ↦ no_sink (sym (ap (λ (a : Answer). a.status) sink.ended) ∙ e)
    ]
  ]
    where
      no_disk : (config : List ℕ) → status.Outside Disk (Some config) ≡ status.Outside object.Tree None → ⊥
      no_disk config e = cc

      no_sink : status.Outside Sink None ≡ status.Outside object.Tree None → ⊥
      no_sink e = cc

  -- where nothing is written
  kept_here : IsTrue disk_tells → (path : List ℕ) → IsNoOutput ready.clean path → new.files path ≡ old.files path
  kept_here told path apart = elim by [
    | inl done ↦ done.files told path ∙ untouched texts roots ready.clean p.scripts ready.writes old.files path apart
    | inr other ↦ elim other [
      | inl disk ↦ failed_elsewhere texts roots ready.clean p.scripts ready.writes disk_tells disk.config old.files new.files told disk.fails path apart
      | inr sink ↦ sink.files told path ∙ untouched texts roots ready.clean p.scripts ready.writes old.files path apart
    ]
  ]

  -- at all paths but those of outputs
  pub kept : IsTrue disk_tells → (clean : Clean) → IsClean texts roots clean → (path : List ℕ) → IsNoOutput clean path → new.files path ≡ old.files path
  kept told clean is path apart =
      kept_here told path (subst (λ (made : Clean). IsNoOutput made path) (one_build texts roots clean ready.clean is (is_clean texts roots ready.clean p.scripts ready.writes)) apart)

  -- outside all output folders
  pub nothing_else : IsTrue disk_tells → (path : List ℕ) → IsOutside (plan_of texts roots) path → new.files path ≡ old.files path
  nothing_else told path out = kept_here told path (outside texts roots ready.clean p.scripts ready.writes path out)

  -- the project that is named
  pub names : IsTrue disk_tells → (config : List ℕ) → answer.status ≡ status.Outside Disk (Some config) → Blamed texts roots config old.files new.files
  names told config e = elim by [
    | inl done ↦ absurd (unsettled_outside answer.status Disk (Some config) e (subst IsSettled (sym (ap (λ (a : Answer). a.status) done.ended)) (publication_settles texts roots verbose p ready)))
    | inr other ↦ elim other [
      | inl disk ↦ subst (λ (c : List ℕ). Blamed texts roots c old.files new.files) (one_config disk.config config (sym (ap (λ (a : Answer). a.status) disk.ended) ∙ e))
          (blamed texts roots ready.clean p.scripts ready.writes disk_tells disk.config old.files new.files told disk.fails)
      | inr sink ↦ absurd (no_disk config (sym (ap (λ (a : Answer). a.status) sink.ended) ∙ e))
    ]
  ]
    where
      one_config : (a b : List ℕ) → status.Outside Disk (Some a) ≡ status.Outside Disk (Some b) → a ≡ b
      one_config a b e = cc

      no_disk : (config : List ℕ) → status.Outside Sink None ≡ status.Outside Disk (Some config) → ⊥
      no_disk config e = cc

-- ---- what holds of a run alone holds of any run

tail_on : (run : Run) {tail : List ℕ} → IsTail true run tail → IsTail false run tail
tail_on run IsTail.nothing = IsTail.nothing
tail_on run (IsTail.cut g n clean rose next least is) = IsTail.cut g n clean rose next (λ told. absurd (cc)) is

pub not_alone : (disk_tells feed_tells sink_tells : Bool) (run : Run) → Headline true disk_tells feed_tells sink_tells run → Headline false disk_tells feed_tells sink_tells run
not_alone disk_tells feed_tells sink_tells run h = record {
  diagnostics = λ heard. record {
    reports = (h.diagnostics heard).reports;
    tail = (h.diagnostics heard).tail;
    taken = (h.diagnostics heard).taken;
    are_reports = (h.diagnostics heard).are_reports;
    is_tail = tail_on run (h.diagnostics heard).is_tail;
  };
  bytes = h.bytes;
  clean = h.clean;
  ascending = h.ascending;
  due = h.due;
  all = λ told. absurd (cc);
  once = h.once;
  left = h.left;
  settles = h.settles;
  status = h.status;
  sums = h.sums;
}

-- ---- a publication that is not built

pub not_unbuilt : (texts : Tree) (roots : List (List ℕ)) (verbose disk_tells sink_tells : Bool) (p : Publication) (old new : Seen) (answer : Answer) → IsReady texts roots verbose p → Publishes disk_tells sink_tells p old new answer → answer.status ≡ status.NotBuilt → ⊥
not_unbuilt texts roots verbose disk_tells sink_tells p old new answer ready by e = elim by [
  | inl done ↦ unsettled_not_built answer.status e (subst IsSettled (sym (ap (λ (a : Answer). a.status) done.ended)) (publication_settles texts roots verbose p ready))
  | inr other ↦ elim other [
    | inl disk ↦ outside Disk (Some disk.config) (sym (ap (λ (a : Answer). a.status) disk.ended) ∙ e)
    | inr sink ↦ outside Sink None (sym (ap (λ (a : Answer). a.status) sink.ended) ∙ e)
  ]
]
  where
    outside : (which : Which) (project : Option (List ℕ)) → status.Outside which project ≡ status.NotBuilt → ⊥
    outside which project e = cc
