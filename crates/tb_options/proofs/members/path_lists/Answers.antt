use Rattle.std.proofs.Common.{ap}
use Rattle.serde_json.specs.View.{view, members_view}
use Rattle.tb_options.proofs.Rows.{lists_more}
use Rattle.tb_options.proofs.members.path_lists.Goals as goal

pub loop-key-preserved : goal.loop-key-preserved
loop-key-preserved c = lists_more _ _ _ _ (view c.in-Some-2.value.now) (members_view c.next.new.self) _ c.in_ok-push.ensures.items c.as_str.ensures.value (rw c.in-Some-3.is at c.in_ok-texts.ensures) (rw (ap members_view c.in-Some-2.ensures.steps) at c.loop-key.invariant)
