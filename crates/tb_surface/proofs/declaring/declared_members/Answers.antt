use Rattle.std.proofs.Common.{◌∙◌, ap, map}
use Rattle.std.proofs.lemmas.List.{take_all}
use Rattle.tb_layout.specs.Surface.{declared_member_of}
use Rattle.tb_surface.proofs.Joins.{more_map}
use Rattle.tb_surface.proofs.declaring.declared_members.Goals as goal

pub loop-member-init : goal.loop-member-init
loop-member-init c = c.new-members.ensures

pub loop-member-preserved : goal.loop-member-preserved
loop-member-preserved c =
    more_map declared_member_of c.args.all.now c.loop-member.member-index c.member-item.result c.loop-member.members c.push.new.self _ c.loop-member-test.true c.member-item.is c.loop-member.invariant c.in_ok-declared_member.ensures c.in_ok-push.ensures.ok

pub returns : goal.returns
returns c = c.loop-member.invariant ∙ ap (map declared_member_of) (take_all c.loop-member.member-index c.args.all.now c.loop-member-test.false)
