use Rattle.std.proofs.Common.{arith, refl, ◌+◌, List, ℕ}
use Rattle.tb_tree.specs.declared.types.TypeMember.{TypeMember}
use Rattle.tb_tree.specs.Types.{ends_member}
use Rattle.tb_tree.proofs.Ends.{found_as}
use Rattle.tb_parse_type.specs.Reading.{rest}
use Rattle.tb_parse_type.specs.Rules.{MemberUpto, InMembers, InType}
use Rattle.tb_parse_type.proofs.Items.{members_separate, members_found}
use Rattle.tb_parse_type.proofs.Lists.{ItemsSoFar, items_start, items_on, items_to_last, items_end, item_falls, under_three}
use Rattle.tb_parse_type.proofs.Unions.{counted_as}
use Rattle.tb_parse_type.proofs.Readings.{lacking, reading}
use Rattle.tb_parse_type.proofs.parse.Grammar.members_at.Goals as goal

pub loop-members-init : goal.loop-members-init
loop-members-init g c = record { within = c.requires.within; all = under_three (λ (acc : List TypeMember) (own depth : ℕ). ItemsSoFar (MemberUpto c.args.limits) ends_member InMembers acc own depth (rest c.args.self.now.reader c.args.at) (rest c.args.self.now.reader c.args.at)) c.new-members.ensures refl refl (items_start (MemberUpto c.args.limits) ends_member InMembers _) }

pub returns-then-not-has_member_end : goal.returns-then-not-has_member_end
returns-then-not-has_member_end g c =
    let l = c.args.limits in
    let s = c.loop-members in
    let f = reading (MemberUpto l) InType c.args.self.now.reader s.next _ c.in-Some.member c.in-Some.is c.in_ok-member.ensures in (
      f.0,
      members_found l (found_as (counted_as c.in_ok-push.ensures.ok c.larger-own.ensures c.larger-depth.ensures)
          (items_to_last (members_separate l) s.members s.own s.depth _ _ _ s.invariant.all f.1 c.if-not-has_member_end.ensures)),
    )

pub loop-members-smaller : goal.loop-members-smaller
loop-members-smaller g c =
    let h = c.if-not-has_member_end.ensures in
    let stands = h.2 in
    let f = reading (MemberUpto c.args.limits) InType c.args.self.now.reader c.loop-members.next _ c.in-Some.member c.in-Some.is c.in_ok-member.ensures in
    item_falls h.0 h.1 f.1 stands.2

pub loop-members-preserved : goal.loop-members-preserved
loop-members-preserved g c =
    let l = c.args.limits in
    let s = c.loop-members in
    let r = c.args.self.now.reader in
    let h = c.if-not-has_member_end.ensures in
    let stands = h.2 in
    let f = reading (MemberUpto l) InType r s.next _ c.in-Some.member c.in-Some.is c.in_ok-member.ensures in
    record {
      within = omega (arith, stands.0);
      all = under_three (λ (acc : List TypeMember) (own depth : ℕ). ItemsSoFar (MemberUpto l) ends_member InMembers acc own depth (rest r c.args.at) (rest r (c.in-Some.member.next + 1)))
          c.in_ok-push.ensures.ok c.larger-own.ensures c.larger-depth.ensures
          (items_on (members_separate l) s.members s.own s.depth _ _ _ h.0 h.1 h.3 s.invariant.all f.1 stands.2);
    }

pub returns : goal.returns
returns g c =
    let l = c.args.limits in
    let s = c.loop-members in
    let n = lacking (MemberUpto l) InType c.args.self.now.reader s.next _ c.in_default.is c.in_ok-member.ensures in
    (s.invariant.within, members_found l (items_end s.members s.own s.depth _ _ s.invariant.all n))
