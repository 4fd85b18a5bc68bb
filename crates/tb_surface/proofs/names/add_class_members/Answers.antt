use Rattle.tb_layout.specs.Parts.{class_member_names}
use Rattle.tb_surface.proofs.Joins.{begun, more_flat, whole_flat}
use Rattle.tb_surface.proofs.names.add_class_members.Goals as goal

pub loop-member-init : goal.loop-member-init
loop-member-init c = begun c.args.names.now

pub loop-member-preserved : goal.loop-member-preserved
loop-member-preserved c =
    more_flat class_member_names c.args.all.now c.loop-member.member-index c.member-item.result c.args.names.now c.loop-member.names c.add_class_member.new.names c.loop-member-test.true c.member-item.is c.loop-member.invariant c.in_ok-add_class_member.ensures

pub returns : goal.returns
returns c = whole_flat class_member_names c.args.all.now c.loop-member.member-index c.args.names.now c.loop-member.names c.loop-member-test.false c.loop-member.invariant
