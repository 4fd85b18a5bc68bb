use Rattle.std.proofs.Common.{◌≡◌, map}
use Rattle.serde_json.specs.View.{members_view}
use Rattle.tb_options.specs.Lists.{list_of}
use Rattle.tb_options.specs.Members.{each_list}
use Rattle.tb_options.proofs.Rows.{with_front}
use Rattle.tb_options.proofs.members.path_lists.Given as goal

abbrev pub invariant-loop-key : goal.invariant-loop-key
invariant-loop-key l = with_front (map list_of l.lists.items) (each_list (members_view l.key-iterator)) ≡ each_list (members_view l.initial.key-iterator)
