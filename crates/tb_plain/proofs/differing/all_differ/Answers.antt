use Rattle.std.proofs.Common.{sym, ◌∙◌}
use Rattle.tb_plain.proofs.Differ.{differ_all, nothing_seen, seen_on, turned}
use Rattle.tb_plain.proofs.differing.all_differ.Goals as goal

pub loop-text-init : goal.loop-text-init
loop-text-init c = differ_all (λ n. n.now) _ (nothing_seen c.new-seen.result c.new-seen.ensures.empty) c.args.texts.now

pub loop-text-preserved : goal.loop-text-preserved
loop-text-preserved c =
    seen_on c.loop-text.seen c.insert.new.self c.args.texts.now c.loop-text.text-index _ _ c.loop-text-test.true (turned _ (sym c.in_ok-insert.ensures.added ∙ c.if-not-branch.false)) c.in_ok-insert.ensures.updates.0
    c.loop-text.invariant
