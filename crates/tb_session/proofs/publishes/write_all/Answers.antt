use Rattle.std.proofs.Common.{◌∙◌, List, refl, sym, ap, subst, map-id, length, arith}
use Rattle.std.specs.Prelude.{All}
use Rattle.std.proofs.lemmas.Iterator.Adapters.{YieldsList-from_vec}
use Rattle.std.proofs.lemmas.Iterator.Consumers.{YieldsList-turn, YieldsList-so_far, YieldsList-end}
use Rattle.tb_outside.specs.Disk.{Same, read_after_all}
use Rattle.tb_outside.specs.Playing.{IsElsewhere, StopsAt}
use Rattle.tb_outside.specs.declared.disks.DiskStep.{DiskStep}
use Rattle.tb_session.proofs.Playing.{fails_in, fails_last, from_err, from_ok, no_failure, one_played}
use Rattle.tb_session.proofs.publishes.write_all.Goals as goal

pub returns-then-is_err-clause-failed : goal.returns-then-is_err-clause-failed
returns-then-is_err-clause-failed g c =
    let items = c.into_iter-script-iterator.ensures.into_iter_gives.0 ∙ c.into_vec-script-items.ensures in
    let len = c.into_iter-script-iterator.ensures.into_iter_gives.1 ∙ c.into_vec-script-items.result.ok.0 ∙ ap length c.into_vec-script-items.ensures in
    let given = YieldsList-from_vec {s = c.into_iter-script-iterator.result} c.args.scripts items len in
    let turn = YieldsList-turn given c.loop-script.yielded c.loop-script.script-iterator c.loop-script.yielded_by c.next.result c.next.new.self c.in-Some.script c.in-Some.is c.next.ensures.steps in
    let so_far = sym (map-id c.loop-script.yielded) ∙ YieldsList-so_far given c.loop-script.yielded c.loop-script.script-iterator c.loop-script.yielded_by in
    fails_in g.D.Disk.tells c.args.scripts c.loop-script.yielded c.in-Some.script c.in-Some.script.config (g.D.Disk.reads c.args.disk.now) (g.D.Disk.reads c.loop-script.disk) (g.D.Disk.reads c.play.new.disk)
    turn.0 turn.1 so_far refl c.loop-script.invariant.done (λ told path apart. c.play.ensures.others told path (subst (λ (ss : List DiskStep). All (IsElsewhere path) ss) (sym c.as_slice.ensures) apart))
    (λ told. subst (λ (ss : List DiskStep). StopsAt ss (g.D.Disk.reads c.loop-script.disk) (g.D.Disk.reads c.play.new.disk)) c.as_slice.ensures (from_err c.play.result _ (sym c.is_err.ensures.value ∙ c.if-is_err.true) (c.play.ensures.stopped told)))

pub loop-script-preserved : goal.loop-script-preserved
loop-script-preserved g c =
    let fine = sym c.is_err.ensures.value ∙ c.if-is_err.false in
    record {
      done = λ told.
          one_played c.loop-script.yielded c.in-Some.script (g.D.Disk.reads c.args.disk.now) (g.D.Disk.reads c.loop-script.disk) (g.D.Disk.reads c.play.new.disk) (c.loop-script.invariant.done told)
          (subst (λ (ss : List DiskStep). Same (read_after_all ss (g.D.Disk.reads c.loop-script.disk)) (g.D.Disk.reads c.play.new.disk)) c.as_slice.ensures (from_ok c.play.result _ fine (c.play.ensures.done told)));
      ends = (c.loop-script.yielded, c.in-Some.script, refl, refl);
      cause = record {
        later = omega (arith, c.loop-script.invariant.cause.later, c.play.ensures.cause.later);
        rose = λ e. cc;
        still = λ f. c.play.ensures.cause.still (no_failure c.play.result fine) ∙ c.loop-script.invariant.cause.still f;
      };
    }

pub returns-in-Err-clause-failed : goal.returns-in-Err-clause-failed
returns-in-Err-clause-failed g c =
    let items = c.into_iter-script-iterator.ensures.into_iter_gives.0 ∙ c.into_vec-script-items.ensures in
    let len = c.into_iter-script-iterator.ensures.into_iter_gives.1 ∙ c.into_vec-script-items.result.ok.0 ∙ ap length c.into_vec-script-items.ensures in
    let given = YieldsList-from_vec {s = c.into_iter-script-iterator.result} c.args.scripts items len in
    let end = YieldsList-end given c.loop-script.yielded c.loop-script.script-iterator c.loop-script.yielded_by c.next.result c.next.new.self c.in-None.is c.next.ensures.steps in
    fails_last g.D.Disk.tells c.args.scripts c.loop-script.yielded c.loop-script.last c.in-Some-last.config (g.D.Disk.reads c.args.disk.now) (g.D.Disk.reads c.loop-script.disk) (g.D.Disk.reads c.sync.new.self)
    (sym (map-id c.loop-script.yielded) ∙ end.0) c.in-Some-last.is c.loop-script.invariant.ends c.loop-script.invariant.done c.sync.ensures.same
