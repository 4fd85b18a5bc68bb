use Rattle.std.proofs.Common.{false, refl}
use Rattle.tb_tree.specs.Longest.{Never}
use Rattle.tb_parse_file.specs.DeclRules.{MemberRule}
use Rattle.tb_parse_file.proofs.DeclRows.{members_start, members_on, members_end, member_falls, so_far_as}
use Rattle.tb_parse_file.proofs.PartReadings.{lacking, reading}
use Rattle.tb_parse_file.proofs.decl_members.members_at.Goals as goal

pub loop-members-init : goal.loop-members-init
loop-members-init c = record { within = c.requires; all = so_far_as false refl c.new-members.ensures _ _ (members_start _) }

pub loop-members-smaller : goal.loop-members-smaller
loop-members-smaller c =
    let s = c.loop-members in
    let f = reading (MemberRule s.constructed) Never c.args.reader s.next _ c.in-Some.member c.in-Some.is c.in_ok-member.ensures in
    member_falls s.constructed f.1

pub loop-members-preserved : goal.loop-members-preserved
loop-members-preserved c =
    let s = c.loop-members in
    let f = reading (MemberRule s.constructed) Never c.args.reader s.next _ c.in-Some.member c.in-Some.is c.in_ok-member.ensures in
    record {
      within = f.0;
      all = so_far_as _ c.either-constructed.ensures c.in_ok-push.ensures.ok _ _ (members_on s.constructed _ s.members _ _ _ s.invariant.all f.1);
    }

pub returns : goal.returns
returns c =
    let s = c.loop-members in
    let n = lacking (MemberRule s.constructed) Never c.args.reader s.next _ c.in_default.is c.in_ok-member.ensures in
    (s.invariant.within, members_end s.constructed s.members _ _ s.invariant.all n)
