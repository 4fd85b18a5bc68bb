use Rattle.std.proofs.Common.{arith, ap, subst, ◌+◌, ℕ}
use Rattle.tb_tree.specs.declared.types.TypeExpr.TheVariants as t
use Rattle.tb_parse_type.specs.declared.reader.Limits.{Limits}
use Rattle.tb_parse_type.specs.Rules.{Counted, MembersUpto, InMembers}
use Rattle.tb_parse_type.specs.Reading.{FoundAt}
use Rattle.tb_tree.specs.declared.types.TypeExpr.{TypeExpr}
use Rattle.tb_tree.proofs.Ends.{found_from, found_as, found_left, lacks_from}
use Rattle.tb_parse_type.proofs.Atoms.{atom_object, atom_lacks_members}
use Rattle.tb_parse_type.proofs.parse.Grammar.object_at.Goals as goal

pub returns-then-not-is_mark : goal.returns-then-not-is_mark
returns-then-not-is_mark g c =
    let m = c.in_ok-members.members in
    let f = subst (λ (l : Limits). FoundAt (MembersUpto l) InMembers c.args.self.now.reader (c.args.at + 1) (m.tree, m.own, m.depth) m.next) c.inside.ensures c.in_ok-members.ensures in
    lacks_from c.requires.open.2 (atom_lacks_members c.args.limits _ f.1 c.if-not-is_mark.ensures)

pub returns : goal.returns
returns g c =
    let m = c.in_ok-members.members in
    let f = subst (λ (l : Limits). FoundAt (MembersUpto l) InMembers c.args.self.now.reader (c.args.at + 1) (m.tree, m.own, m.depth) m.next) c.inside.ensures c.in_ok-members.ensures in (
      omega (arith, c.if-not-is_mark.ensures.0),
      found_from c.requires.open.2
          (found_as (ap (λ (o : ℕ). let x : Counted TypeExpr = (t.Object o m.tree, m.own + 1, m.depth + 1) in x) c.start_at.ensures)
          (atom_object c.args.limits _ _ _ c.requires.own c.requires.depth (found_left c.if-not-is_mark.ensures.2 f.1))),
    )
