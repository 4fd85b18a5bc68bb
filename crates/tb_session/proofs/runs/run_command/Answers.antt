use Rattle.std.proofs.Common.{true, refl, ap, ◌∙◌, subst, List, ℕ}
use Rattle.std.specs.Prelude.{Option, None, Err, IfSome, is_some}
use Rattle.tb_outside.specs.Causes.{has_fault}
use Rattle.tb_text.specs.declared.statuses.Which.TheVariants.{Tree}
use Rattle.tb_session.specs.Generations.{opening}
use Rattle.tb_session.specs.Generations as generations
use Rattle.tb_session.specs.Headline.{NotServed, Run}
use Rattle.tb_session.specs.Ready.{IsReady}
use Rattle.tb_session.specs.declared.publishes.Publication.{Publication}
use Rattle.tb_session.proofs.Ending.{failed_ends, only_tree, published_ends, unsettled_outside, unsettled_memory, unsettled_not_built}
use Rattle.tb_session.proofs.Settling.{stopped, published, publication_settles, served, unsettled, nothing_else, kept, names, not_unbuilt, not_the_tree, stays, uncounted, unprinted}
use Rattle.tb_session.proofs.runs.run_command.Goals as goal

-- ---- the tree failed

pub returns-in-Err-Failed-clause-headline : goal.returns-in-Err-Failed-clause-headline
returns-in-Err-Failed-clause-headline g c told =
    let e = c.stopped.ensures in
    stopped _ _ _ _ _ (λ i. (e i).settled) (λ i. g.O.Sink.taken (e i).out) (unsettled_outside _ Tree None (λ i. (e i).status))

pub returns-in-Err-Failed-clause-ends : goal.returns-in-Err-Failed-clause-ends
returns-in-Err-Failed-clause-ends g c =
    let e = c.stopped.ensures in
    failed_ends _ _ _ Tree None (λ i. (e i).status)
    (only_tree _ _ (c.read_texts.ensures.cause.rose (ap has_fault (c.in-Err-Failed.is ∙ ap Err c.in-Err-Failed.field-0-is)))
    (λ i. g.D.Disk.count (e i).disk) (λ i. g.F.Feed.count (e i).feed) (λ i. g.O.Sink.count (e i).out)) refl

-- ---- memory was wanted, or the texts are not built

pub returns-in-Err-NoMemory-clause-headline : goal.returns-in-Err-NoMemory-clause-headline
returns-in-Err-NoMemory-clause-headline g c told =
    let e = c.stopped-in-Err-NoMemory.ensures in
    stopped _ _ _ _ _ (λ i. (e i).settled) (λ i. g.O.Sink.taken (e i).out) (unsettled_memory _ (λ i. (e i).status))

pub returns-in-Ok-None-clause-headline : goal.returns-in-Ok-None-clause-headline
returns-in-Ok-None-clause-headline g c told =
    let e = c.stopped-in-Ok-None.ensures in
    stopped _ _ _ _ _ (λ i. (e i).settled) (λ i. g.O.Sink.taken (e i).out) (unsettled_not_built _ (λ i. (e i).status))

pub returns-in-Ok-None-clause-not_built : goal.returns-in-Ok-None-clause-not_built
returns-in-Ok-None-clause-not_built g c told nb =
    subst (λ (t : generations.Tree). NotServed t c.args.command.roots) (c.in-Ok.ensures.texts told)
    (subst (λ (rs : List (List ℕ)). NotServed c.in-Ok.texts rs) c.as_slice.ensures (c.in-Ok-None.ensures.none (ap is_some c.in-Ok-None.field-0-is)))

pub returns-clause-headline : goal.returns-clause-headline
returns-clause-headline g c told =
    let e = c.stopped-in-Err.ensures in
    stopped _ _ _ _ _ (λ i. (e i).settled) (λ i. g.O.Sink.taken (e i).out) (unsettled_memory _ (λ i. (e i).status))

-- ---- all was ready

pub returns-in-Ok-Some-clause-headline : goal.returns-in-Ok-Some-clause-headline
returns-in-Ok-Some-clause-headline g c told =
    let p : Publication = c.in-Ok-Some.publication in
    let roots : List (List ℕ) = c.args.command.roots in
    let verbose = c.args.command.verbose in
    let ready : IsReady c.in-Ok.texts roots verbose p = subst (λ (rs : List (List ℕ)). IsReady c.in-Ok.texts rs verbose p) c.as_slice.ensures
    (subst (λ (o : Option Publication). IfSome o (IsReady c.in-Ok.texts c.as_slice.result.now verbose)) c.in-Ok-Some.field-0-is c.in-Ok-Some.ensures.ready) in
    let texts : generations.Tree = opening (g.T.Tree.texts c.args.tree.now) in
    let here : IsReady texts roots verbose p = subst (λ (t : generations.Tree). IsReady t roots verbose p) (c.in-Ok.ensures.texts told) ready in
    let run : Run = record {
      command = c.args.command;
      tree = g.T.Tree.texts c.args.tree.now;
      turns = g.F.Feed.turns c.args.feed;
      turns_left = g.F.Feed.turns c.publish.result.feed;
      printed = g.O.Sink.taken c.args.out;
      printed_last = g.O.Sink.taken c.publish.result.out;
      files = g.D.Disk.reads c.publish.result.disk;
      before = record { tree = g.T.Tree.count c.args.tree.now; disk = g.D.Disk.count c.args.disk; feed = g.F.Feed.count c.args.feed; sink = g.O.Sink.count c.args.out };
      after = record { tree = g.T.Tree.count c.read_texts.new.tree; disk = g.D.Disk.count c.publish.result.disk; feed = g.F.Feed.count c.publish.result.feed; sink = g.O.Sink.count c.publish.result.out };
      status = c.publish.result.status;
      settled = c.publish.result.settled;
      checked = c.publish.result.checked;
      built = c.publish.result.built;
    } in
    published true g.D.Disk.tells g.O.Sink.tells g.F.Feed.tells run p here (g.D.Disk.reads c.args.disk) (λ i. g.F.Feed.turns (c.publish.ensures.feed i)) c.requires c.publish.ensures.published

pub returns-in-Ok-Some-clause-ends : goal.returns-in-Ok-Some-clause-ends
returns-in-Ok-Some-clause-ends g c =
    let p : Publication = c.in-Ok-Some.publication in
    let roots : List (List ℕ) = c.args.command.roots in
    let verbose = c.args.command.verbose in
    let ready : IsReady c.in-Ok.texts roots verbose p = subst (λ (rs : List (List ℕ)). IsReady c.in-Ok.texts rs verbose p) c.as_slice.ensures
    (subst (λ (o : Option Publication). IfSome o (IsReady c.in-Ok.texts c.as_slice.result.now verbose)) c.in-Ok-Some.field-0-is c.in-Ok-Some.ensures.ready) in
    published_ends
    (record { tree = g.T.Tree.count c.args.tree.now; disk = g.D.Disk.count c.args.disk; feed = g.F.Feed.count c.args.feed; sink = g.O.Sink.count c.args.out })
    (record { tree = g.T.Tree.count c.read_texts.new.tree; disk = g.D.Disk.count c.publish.result.disk; feed = g.F.Feed.count c.publish.result.feed; sink = g.O.Sink.count c.publish.result.out })
    g.D.Disk.tells g.O.Sink.tells p
    (record { files = g.D.Disk.reads c.args.disk; printed = g.O.Sink.taken c.args.out; disk_count = g.D.Disk.count c.args.disk; sink_count = g.O.Sink.count c.args.out })
    (record { files = g.D.Disk.reads c.publish.result.disk; printed = g.O.Sink.taken c.publish.result.out; disk_count = g.D.Disk.count c.publish.result.disk; sink_count = g.O.Sink.count c.publish.result.out })
    (record { status = c.publish.result.status; settled = c.publish.result.settled; checked = c.publish.result.checked; built = c.publish.result.built })
    (publication_settles c.in-Ok.texts roots verbose p ready) (c.read_texts.ensures.cause.still (ap has_fault c.in-Ok.is)) (λ i. g.F.Feed.count (c.publish.ensures.feed i))
    refl refl refl refl c.publish.ensures.published

pub returns-in-Ok-Some-clause-not_built : goal.returns-in-Ok-Some-clause-not_built
returns-in-Ok-Some-clause-not_built g c told nb =
    let p : Publication = c.in-Ok-Some.publication in
    let roots : List (List ℕ) = c.args.command.roots in
    let verbose = c.args.command.verbose in
    let ready : IsReady c.in-Ok.texts roots verbose p = subst (λ (rs : List (List ℕ)). IsReady c.in-Ok.texts rs verbose p) c.as_slice.ensures
    (subst (λ (o : Option Publication). IfSome o (IsReady c.in-Ok.texts c.as_slice.result.now verbose)) c.in-Ok-Some.field-0-is c.in-Ok-Some.ensures.ready) in
    absurd (not_unbuilt c.in-Ok.texts roots verbose g.D.Disk.tells g.O.Sink.tells p (record { files = g.D.Disk.reads c.args.disk; printed = g.O.Sink.taken c.args.out; disk_count = g.D.Disk.count c.args.disk; sink_count = g.O.Sink.count c.args.out }) (record { files = g.D.Disk.reads c.publish.result.disk; printed = g.O.Sink.taken c.publish.result.out; disk_count = g.D.Disk.count c.publish.result.disk; sink_count = g.O.Sink.count c.publish.result.out }) (record { status = c.publish.result.status; settled = c.publish.result.settled; checked = c.publish.result.checked; built = c.publish.result.built }) ready c.publish.ensures.published nb)

pub returns-in-Ok-Some-clause-untouched : goal.returns-in-Ok-Some-clause-untouched
returns-in-Ok-Some-clause-untouched g c nb =
    let p : Publication = c.in-Ok-Some.publication in
    let roots : List (List ℕ) = c.args.command.roots in
    let verbose = c.args.command.verbose in
    let ready : IsReady c.in-Ok.texts roots verbose p = subst (λ (rs : List (List ℕ)). IsReady c.in-Ok.texts rs verbose p) c.as_slice.ensures
    (subst (λ (o : Option Publication). IfSome o (IsReady c.in-Ok.texts c.as_slice.result.now verbose)) c.in-Ok-Some.field-0-is c.in-Ok-Some.ensures.ready) in
    absurd (not_unbuilt c.in-Ok.texts roots verbose g.D.Disk.tells g.O.Sink.tells p (record { files = g.D.Disk.reads c.args.disk; printed = g.O.Sink.taken c.args.out; disk_count = g.D.Disk.count c.args.disk; sink_count = g.O.Sink.count c.args.out }) (record { files = g.D.Disk.reads c.publish.result.disk; printed = g.O.Sink.taken c.publish.result.out; disk_count = g.D.Disk.count c.publish.result.disk; sink_count = g.O.Sink.count c.publish.result.out }) (record { status = c.publish.result.status; settled = c.publish.result.settled; checked = c.publish.result.checked; built = c.publish.result.built }) ready c.publish.ensures.published nb)

pub returns-in-Ok-Some-clause-unserved : goal.returns-in-Ok-Some-clause-unserved
returns-in-Ok-Some-clause-unserved g c told none =
    let p : Publication = c.in-Ok-Some.publication in
    let roots : List (List ℕ) = c.args.command.roots in
    let verbose = c.args.command.verbose in
    let ready : IsReady c.in-Ok.texts roots verbose p = subst (λ (rs : List (List ℕ)). IsReady c.in-Ok.texts rs verbose p) c.as_slice.ensures
    (subst (λ (o : Option Publication). IfSome o (IsReady c.in-Ok.texts c.as_slice.result.now verbose)) c.in-Ok-Some.field-0-is c.in-Ok-Some.ensures.ready) in
    let texts : generations.Tree = opening (g.T.Tree.texts c.args.tree.now) in
    let here : IsReady texts roots verbose p = subst (λ (t : generations.Tree). IsReady t roots verbose p) (c.in-Ok.ensures.texts told) ready in
    absurd (served texts roots verbose p here none)

pub returns-in-Ok-Some-clause-unsettled : goal.returns-in-Ok-Some-clause-unsettled
returns-in-Ok-Some-clause-unsettled g c ends =
    let p : Publication = c.in-Ok-Some.publication in
    let roots : List (List ℕ) = c.args.command.roots in
    let verbose = c.args.command.verbose in
    let ready : IsReady c.in-Ok.texts roots verbose p = subst (λ (rs : List (List ℕ)). IsReady c.in-Ok.texts rs verbose p) c.as_slice.ensures
    (subst (λ (o : Option Publication). IfSome o (IsReady c.in-Ok.texts c.as_slice.result.now verbose)) c.in-Ok-Some.field-0-is c.in-Ok-Some.ensures.ready) in
    unsettled c.in-Ok.texts roots verbose g.D.Disk.tells g.O.Sink.tells p ready (record { files = g.D.Disk.reads c.args.disk; printed = g.O.Sink.taken c.args.out; disk_count = g.D.Disk.count c.args.disk; sink_count = g.O.Sink.count c.args.out }) (record { files = g.D.Disk.reads c.publish.result.disk; printed = g.O.Sink.taken c.publish.result.out; disk_count = g.D.Disk.count c.publish.result.disk; sink_count = g.O.Sink.count c.publish.result.out }) (record { status = c.publish.result.status; settled = c.publish.result.settled; checked = c.publish.result.checked; built = c.publish.result.built }) c.publish.ensures.published ends

pub returns-in-Ok-Some-clause-elsewhere : goal.returns-in-Ok-Some-clause-elsewhere
returns-in-Ok-Some-clause-elsewhere g c told written path out =
    let p : Publication = c.in-Ok-Some.publication in
    let roots : List (List ℕ) = c.args.command.roots in
    let verbose = c.args.command.verbose in
    let ready : IsReady c.in-Ok.texts roots verbose p = subst (λ (rs : List (List ℕ)). IsReady c.in-Ok.texts rs verbose p) c.as_slice.ensures
    (subst (λ (o : Option Publication). IfSome o (IsReady c.in-Ok.texts c.as_slice.result.now verbose)) c.in-Ok-Some.field-0-is c.in-Ok-Some.ensures.ready) in
    let texts : generations.Tree = opening (g.T.Tree.texts c.args.tree.now) in
    let here : IsReady texts roots verbose p = subst (λ (t : generations.Tree). IsReady t roots verbose p) (c.in-Ok.ensures.texts told) ready in
    nothing_else texts roots verbose g.D.Disk.tells g.O.Sink.tells p here (record { files = g.D.Disk.reads c.args.disk; printed = g.O.Sink.taken c.args.out; disk_count = g.D.Disk.count c.args.disk; sink_count = g.O.Sink.count c.args.out }) (record { files = g.D.Disk.reads c.publish.result.disk; printed = g.O.Sink.taken c.publish.result.out; disk_count = g.D.Disk.count c.publish.result.disk; sink_count = g.O.Sink.count c.publish.result.out }) (record { status = c.publish.result.status; settled = c.publish.result.settled; checked = c.publish.result.checked; built = c.publish.result.built }) c.publish.ensures.published written path out

pub returns-in-Ok-Some-clause-kept : goal.returns-in-Ok-Some-clause-kept
returns-in-Ok-Some-clause-kept g c told written clean is path apart =
    let p : Publication = c.in-Ok-Some.publication in
    let roots : List (List ℕ) = c.args.command.roots in
    let verbose = c.args.command.verbose in
    let ready : IsReady c.in-Ok.texts roots verbose p = subst (λ (rs : List (List ℕ)). IsReady c.in-Ok.texts rs verbose p) c.as_slice.ensures
    (subst (λ (o : Option Publication). IfSome o (IsReady c.in-Ok.texts c.as_slice.result.now verbose)) c.in-Ok-Some.field-0-is c.in-Ok-Some.ensures.ready) in
    let texts : generations.Tree = opening (g.T.Tree.texts c.args.tree.now) in
    let here : IsReady texts roots verbose p = subst (λ (t : generations.Tree). IsReady t roots verbose p) (c.in-Ok.ensures.texts told) ready in
    kept texts roots verbose g.D.Disk.tells g.O.Sink.tells p here (record { files = g.D.Disk.reads c.args.disk; printed = g.O.Sink.taken c.args.out; disk_count = g.D.Disk.count c.args.disk; sink_count = g.O.Sink.count c.args.out }) (record { files = g.D.Disk.reads c.publish.result.disk; printed = g.O.Sink.taken c.publish.result.out; disk_count = g.D.Disk.count c.publish.result.disk; sink_count = g.O.Sink.count c.publish.result.out }) (record { status = c.publish.result.status; settled = c.publish.result.settled; checked = c.publish.result.checked; built = c.publish.result.built }) c.publish.ensures.published written clean is path apart

pub returns-in-Ok-Some-clause-blamed : goal.returns-in-Ok-Some-clause-blamed
returns-in-Ok-Some-clause-blamed g c told written config e =
    let p : Publication = c.in-Ok-Some.publication in
    let roots : List (List ℕ) = c.args.command.roots in
    let verbose = c.args.command.verbose in
    let ready : IsReady c.in-Ok.texts roots verbose p = subst (λ (rs : List (List ℕ)). IsReady c.in-Ok.texts rs verbose p) c.as_slice.ensures
    (subst (λ (o : Option Publication). IfSome o (IsReady c.in-Ok.texts c.as_slice.result.now verbose)) c.in-Ok-Some.field-0-is c.in-Ok-Some.ensures.ready) in
    let texts : generations.Tree = opening (g.T.Tree.texts c.args.tree.now) in
    let here : IsReady texts roots verbose p = subst (λ (t : generations.Tree). IsReady t roots verbose p) (c.in-Ok.ensures.texts told) ready in
    names texts roots verbose g.D.Disk.tells g.O.Sink.tells p here (record { files = g.D.Disk.reads c.args.disk; printed = g.O.Sink.taken c.args.out; disk_count = g.D.Disk.count c.args.disk; sink_count = g.O.Sink.count c.args.out }) (record { files = g.D.Disk.reads c.publish.result.disk; printed = g.O.Sink.taken c.publish.result.out; disk_count = g.D.Disk.count c.publish.result.disk; sink_count = g.O.Sink.count c.publish.result.out }) (record { status = c.publish.result.status; settled = c.publish.result.settled; checked = c.publish.result.checked; built = c.publish.result.built }) c.publish.ensures.published written config e

pub returns-in-Ok-Some-clause-opening : goal.returns-in-Ok-Some-clause-opening
returns-in-Ok-Some-clause-opening g c e =
    let p : Publication = c.in-Ok-Some.publication in
    let roots : List (List ℕ) = c.args.command.roots in
    let verbose = c.args.command.verbose in
    let ready : IsReady c.in-Ok.texts roots verbose p = subst (λ (rs : List (List ℕ)). IsReady c.in-Ok.texts rs verbose p) c.as_slice.ensures
    (subst (λ (o : Option Publication). IfSome o (IsReady c.in-Ok.texts c.as_slice.result.now verbose)) c.in-Ok-Some.field-0-is c.in-Ok-Some.ensures.ready) in
    absurd (not_the_tree c.in-Ok.texts roots verbose g.D.Disk.tells g.O.Sink.tells p ready (record { files = g.D.Disk.reads c.args.disk; printed = g.O.Sink.taken c.args.out; disk_count = g.D.Disk.count c.args.disk; sink_count = g.O.Sink.count c.args.out }) (record { files = g.D.Disk.reads c.publish.result.disk; printed = g.O.Sink.taken c.publish.result.out; disk_count = g.D.Disk.count c.publish.result.disk; sink_count = g.O.Sink.count c.publish.result.out }) (record { status = c.publish.result.status; settled = c.publish.result.settled; checked = c.publish.result.checked; built = c.publish.result.built }) c.publish.ensures.published e)

pub returns-in-Ok-Some-clause-uncounted : goal.returns-in-Ok-Some-clause-uncounted
returns-in-Ok-Some-clause-uncounted g c ends no_sink =
    let p : Publication = c.in-Ok-Some.publication in
    let roots : List (List ℕ) = c.args.command.roots in
    let verbose = c.args.command.verbose in
    let ready : IsReady c.in-Ok.texts roots verbose p = subst (λ (rs : List (List ℕ)). IsReady c.in-Ok.texts rs verbose p) c.as_slice.ensures
    (subst (λ (o : Option Publication). IfSome o (IsReady c.in-Ok.texts c.as_slice.result.now verbose)) c.in-Ok-Some.field-0-is c.in-Ok-Some.ensures.ready) in
    uncounted c.in-Ok.texts roots verbose g.D.Disk.tells g.O.Sink.tells p ready (record { files = g.D.Disk.reads c.args.disk; printed = g.O.Sink.taken c.args.out; disk_count = g.D.Disk.count c.args.disk; sink_count = g.O.Sink.count c.args.out }) (record { files = g.D.Disk.reads c.publish.result.disk; printed = g.O.Sink.taken c.publish.result.out; disk_count = g.D.Disk.count c.publish.result.disk; sink_count = g.O.Sink.count c.publish.result.out }) (record { status = c.publish.result.status; settled = c.publish.result.settled; checked = c.publish.result.checked; built = c.publish.result.built }) c.publish.ensures.published ends no_sink

pub returns-in-Ok-Some-clause-unprinted : goal.returns-in-Ok-Some-clause-unprinted
returns-in-Ok-Some-clause-unprinted g c told e clean is =
    let p : Publication = c.in-Ok-Some.publication in
    let roots : List (List ℕ) = c.args.command.roots in
    let verbose = c.args.command.verbose in
    let ready : IsReady c.in-Ok.texts roots verbose p = subst (λ (rs : List (List ℕ)). IsReady c.in-Ok.texts rs verbose p) c.as_slice.ensures
    (subst (λ (o : Option Publication). IfSome o (IsReady c.in-Ok.texts c.as_slice.result.now verbose)) c.in-Ok-Some.field-0-is c.in-Ok-Some.ensures.ready) in
    let texts : generations.Tree = opening (g.T.Tree.texts c.args.tree.now) in
    let here : IsReady texts roots verbose p = subst (λ (t : generations.Tree). IsReady t roots verbose p) (c.in-Ok.ensures.texts told) ready in
    unprinted texts roots verbose g.D.Disk.tells g.O.Sink.tells p here (record { files = g.D.Disk.reads c.args.disk; printed = g.O.Sink.taken c.args.out; disk_count = g.D.Disk.count c.args.disk; sink_count = g.O.Sink.count c.args.out }) (record { files = g.D.Disk.reads c.publish.result.disk; printed = g.O.Sink.taken c.publish.result.out; disk_count = g.D.Disk.count c.publish.result.disk; sink_count = g.O.Sink.count c.publish.result.out }) (record { status = c.publish.result.status; settled = c.publish.result.settled; checked = c.publish.result.checked; built = c.publish.result.built }) c.publish.ensures.published e clean is

pub returns-in-Ok-Some-clause-stays : goal.returns-in-Ok-Some-clause-stays
returns-in-Ok-Some-clause-stays g c told written settled clean is =
    let p : Publication = c.in-Ok-Some.publication in
    let roots : List (List ℕ) = c.args.command.roots in
    let verbose = c.args.command.verbose in
    let ready : IsReady c.in-Ok.texts roots verbose p = subst (λ (rs : List (List ℕ)). IsReady c.in-Ok.texts rs verbose p) c.as_slice.ensures
    (subst (λ (o : Option Publication). IfSome o (IsReady c.in-Ok.texts c.as_slice.result.now verbose)) c.in-Ok-Some.field-0-is c.in-Ok-Some.ensures.ready) in
    let texts : generations.Tree = opening (g.T.Tree.texts c.args.tree.now) in
    let here : IsReady texts roots verbose p = subst (λ (t : generations.Tree). IsReady t roots verbose p) (c.in-Ok.ensures.texts told) ready in
    stays texts roots verbose g.D.Disk.tells g.O.Sink.tells p here (record { files = g.D.Disk.reads c.args.disk; printed = g.O.Sink.taken c.args.out; disk_count = g.D.Disk.count c.args.disk; sink_count = g.O.Sink.count c.args.out }) (record { files = g.D.Disk.reads c.publish.result.disk; printed = g.O.Sink.taken c.publish.result.out; disk_count = g.D.Disk.count c.publish.result.disk; sink_count = g.O.Sink.count c.publish.result.out }) (record { status = c.publish.result.status; settled = c.publish.result.settled; checked = c.publish.result.checked; built = c.publish.result.built }) c.publish.ensures.published written settled (g.D.Disk.left c.publish.result.disk (g.D.Disk.clock c.publish.result.disk)) (c.publish.ensures.stays written) clean is

-- where it does not settle, nothing has to stay

pub returns-in-Err-Failed-clause-stays : goal.returns-in-Err-Failed-clause-stays
returns-in-Err-Failed-clause-stays g c told written settled clean is = let e = c.stopped.ensures in absurd (unsettled_outside _ Tree None (λ i. (e i).status) settled)

pub returns-in-Err-NoMemory-clause-stays : goal.returns-in-Err-NoMemory-clause-stays
returns-in-Err-NoMemory-clause-stays g c told written settled clean is = let e = c.stopped-in-Err-NoMemory.ensures in absurd (unsettled_memory _ (λ i. (e i).status) settled)

pub returns-in-Ok-None-clause-stays : goal.returns-in-Ok-None-clause-stays
returns-in-Ok-None-clause-stays g c told written settled clean is = let e = c.stopped-in-Ok-None.ensures in absurd (unsettled_not_built _ (λ i. (e i).status) settled)

pub returns-clause-stays : goal.returns-clause-stays
returns-clause-stays g c told written settled clean is = let e = c.stopped-in-Err.ensures in absurd (unsettled_memory _ (λ i. (e i).status) settled)
