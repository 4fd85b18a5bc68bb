use Rattle.tb_layout.specs.Annotations.{member_findings}
use Rattle.tb_surface.proofs.Joins.{begun, more_flat, whole_flat}
use Rattle.tb_surface.proofs.annotations.find_members.Goals as goal

pub loop-member-init : goal.loop-member-init
loop-member-init c = begun c.args.found.now

pub loop-member-preserved : goal.loop-member-preserved
loop-member-preserved c =
    more_flat member_findings c.args.all.now c.loop-member.member-index c.member-item.result c.args.found.now c.loop-member.found c.find_member.new.found c.loop-member-test.true c.member-item.is c.loop-member.invariant c.in_ok-find_member.ensures

pub returns : goal.returns
returns c = whole_flat member_findings c.args.all.now c.loop-member.member-index c.args.found.now c.loop-member.found c.loop-member-test.false c.loop-member.invariant
