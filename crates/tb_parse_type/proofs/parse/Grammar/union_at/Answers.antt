use Rattle.std.proofs.Common.{arith, ap, ◌∙◌, ◌+◌, ◌++◌, max, List, ℕ}
use Rattle.tb_tree.specs.declared.types.TypeExpr.{TypeExpr}
use Rattle.tb_tree.specs.declared.types.TypeExpr.TheVariants as t
use Rattle.tb_tree.proofs.Ends.{found_as, ap_both}
use Rattle.tb_parse_type.specs.Rules.{inside, ElementUpto, NextUpto, InElement}
use Rattle.tb_parse_type.proofs.Unions.{union_lacks, union_one, union_several, counted_as}
use Rattle.tb_parse_type.proofs.Readings.{lacking, reading, start_is}
use Rattle.tb_parse_type.proofs.parse.Grammar.union_at.Goals as goal

pub returns-in_default : goal.returns-in_default
returns-in_default g c =
    union_lacks c.args.limits (lacking (ElementUpto c.args.limits c.args.limits) InElement c.args.self.now.reader c.args.at _ c.in_default.is c.in_ok-first.ensures)

pub returns-then-not-has_room : goal.returns-then-not-has_room
returns-then-not-has_room g c =
    let f = reading (ElementUpto c.args.limits c.args.limits) InElement c.args.self.now.reader c.args.at _ c.in-Some.first c.in-Some.is c.in_ok-first.ensures in
    (f.0, union_one c.args.limits f.1 (λ h k. absurd (c.if-not-has_room.ensures (omega (arith, h, c.part_count-own.ensures)) (omega (arith, k, c.part_count-depth.ensures)))))

pub returns-in_default-2 : goal.returns-in_default-2
returns-in_default-2 g c =
    let f = reading (ElementUpto c.args.limits c.args.limits) InElement c.args.self.now.reader c.args.at _ c.in-Some.first c.in-Some.is c.in_ok-first.ensures in
    let n = lacking (NextUpto (inside c.args.limits)) InElement c.args.self.now.reader c.in-Some.first.next _ c.in_default-2.is c.in_ok-second.ensures in
    (f.0, union_one c.args.limits f.1 (λ h k. n))

pub returns : goal.returns
returns g c =
    let r = c.args.self.now.reader in
    let first = c.in-Some.first in
    let second = c.in-Some-2.second in
    let tail = c.in_ok-tail.tail in
    let f = reading (ElementUpto c.args.limits c.args.limits) InElement r c.args.at _ first c.in-Some.is c.in_ok-first.ensures in
    let s = reading (NextUpto (inside c.args.limits)) InElement r first.next _ second c.in-Some-2.is c.in_ok-second.ensures in
    let k = c.in_ok-tail.ensures in
    let room = c.if-not-has_room.ensures in
    let parts = c.in_ok-append-2.ensures ∙ ap (λ (v : List TypeExpr). v ++ tail.tree) (c.in_ok-append.ensures ∙ ap (λ (v : List TypeExpr). v ++ second.tree) c.in_ok-parts.ensures) in
    let own = ap (λ (n : ℕ). n + 1) (c.larger-2.ensures ∙ ap_both (λ (a b : ℕ). max a b) c.part_count-own.ensures c.larger.ensures) in
    let depth = ap (λ (n : ℕ). n + 1) (c.larger-4.ensures ∙ ap_both (λ (a b : ℕ). max a b) c.part_count-depth.ensures c.larger-3.ensures) in (
      k.0,
      found_as (counted_as (ap (λ (v : List TypeExpr). t.Union c.start_at.result v) parts) own depth)
          (union_several c.args.limits c.start_at.result (c.start_at.ensures ∙ start_is r c.args.at) f.1 (omega (arith, room.0, c.part_count-own.ensures)) (omega (arith, room.1, c.part_count-depth.ensures)) s.1 k.1),
    )
