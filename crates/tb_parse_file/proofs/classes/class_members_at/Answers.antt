use Rattle.std.proofs.Common.{false, refl}
use Rattle.tb_parse_body.specs.Rules.{InBody}
use Rattle.tb_parse_body.proofs.Readings.{lacking, reading}
use Rattle.tb_parse_file.specs.Rules.{MemberUpto}
use Rattle.tb_parse_file.proofs.MemberRows.{members_start, members_on, members_end, member_falls, so_far_as}
use Rattle.tb_parse_file.proofs.classes.class_members_at.Goals as goal

pub loop-members-init : goal.loop-members-init
loop-members-init c = record { within = c.requires; all = so_far_as c.args.limit false refl c.new-members.ensures refl _ _ (members_start c.args.limit _) }

pub loop-members-smaller : goal.loop-members-smaller
loop-members-smaller c =
    let s = c.loop-members in
    let f = reading (MemberUpto s.constructed c.args.limit) InBody c.args.reader s.next _ c.in-Some.member c.in-Some.is c.in_ok-member.ensures in
    member_falls c.args.limit s.constructed f.1

pub loop-members-preserved : goal.loop-members-preserved
loop-members-preserved c =
    let s = c.loop-members in
    let f = reading (MemberUpto s.constructed c.args.limit) InBody c.args.reader s.next _ c.in-Some.member c.in-Some.is c.in_ok-member.ensures in
    record {
      within = f.0;
      all = so_far_as c.args.limit _ c.either-constructed.ensures c.in_ok-push.ensures.ok c.larger-depth.ensures _ _ (members_on c.args.limit s.constructed _ s.members s.depth _ _ _ s.invariant.all f.1);
    }

pub returns : goal.returns
returns c =
    let s = c.loop-members in
    let n = lacking (MemberUpto s.constructed c.args.limit) InBody c.args.reader s.next _ c.in_default.is c.in_ok-member.ensures in
    (s.invariant.within, members_end c.args.limit s.constructed s.members s.depth _ _ s.invariant.all n)
