use Rattle.std.proofs.Common.{subst, ap, ◌∙◌, ◌+◌, ℕ}
use Rattle.tb_tree.specs.declared.types.TypeExpr.{TypeExpr}
use Rattle.tb_tree.specs.Longest.{Found, Never}
use Rattle.tb_tree.proofs.Ends.{found_as}
use Rattle.tb_parse_type.specs.Reading.{rest}
use Rattle.tb_parse_type.specs.Rules.{Counted, AtomUpto, BracketsUpto, ReadOnlyUpto, InElement}
use Rattle.tb_parse_type.proofs.Elements.{element_plain, element_lacks, element_lacks_deep, element_read_only}
use Rattle.tb_parse_type.proofs.Readings.{lacking, reading, start_is}
use Rattle.tb_parse_type.proofs.parse.Grammar.element_at.Goals as goal

pub returns-in-Some : goal.returns-in-Some
returns-in-Some g c =
    let f = reading (ReadOnlyUpto c.args.limits) InElement c.args.self.now.reader c.args.at _ c.in-Some.found c.in-Some.is c.in_ok-found.ensures in
    (f.0, element_read_only c.args.limits c.args.flat f.1)

pub returns-in_default-2 : goal.returns-in_default-2
returns-in_default-2 g c =
    let r = c.args.self.now.reader in
    let none = lacking (ReadOnlyUpto c.args.limits) InElement r c.args.at _ c.in_default.is c.in_ok-found.ensures in
    let n = lacking (AtomUpto c.args.flat) Never r c.args.at _ c.in_default-2.is c.in_ok-atom.ensures in
    element_lacks c.args.limits c.args.flat c.requires.flat n none

pub returns-then-is_beyond : goal.returns-then-is_beyond
returns-then-is_beyond g c =
    let r = c.args.self.now.reader in
    let none = lacking (ReadOnlyUpto c.args.limits) InElement r c.args.at _ c.in_default.is c.in_ok-found.ensures in
    let f = reading (AtomUpto c.args.flat) Never r c.args.at _ c.in-Some-2.atom c.in-Some-2.is c.in_ok-atom.ensures in
    element_lacks_deep c.args.limits c.args.flat c.requires.flat f.1 c.if-is_beyond.ensures.0 c.if-is_beyond.ensures.1 none

pub returns : goal.returns
returns g c =
    let r = c.args.self.now.reader in
    let atom = c.in-Some-2.atom in
    let k = c.brackets-count.result.0 in
    let none = lacking (ReadOnlyUpto c.args.limits) InElement r c.args.at _ c.in_default.is c.in_ok-found.ensures in
    let f = reading (AtomUpto c.args.flat) Never r c.args.at _ atom c.in-Some-2.is c.in_ok-atom.ensures in
    let b = subst (λ (n : ℕ). Found (BracketsUpto n) InElement (rest r atom.next) k (rest r c.brackets-count.result.1)) c.room-room.ensures c.brackets-count.ensures.1 in (
      c.brackets-count.ensures.0,
      found_as (ap (λ (x : TypeExpr). let y : Counted TypeExpr = (x, atom.own + k, atom.depth + k) in y) c.in_ok-tree.ensures)
          (element_plain c.args.limits c.args.flat c.start_at-start.result c.requires.flat (c.start_at-start.ensures ∙ start_is r c.args.at) f.1 c.if-is_beyond.ensures b none),
    )
