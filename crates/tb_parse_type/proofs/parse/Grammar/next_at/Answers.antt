use Rattle.std.proofs.Common.{◌+◌}
use Rattle.tb_tree.proofs.Ends.{found_from, found_as, lacks_from}
use Rattle.tb_parse_type.specs.declared.reader.Limits.{Limits}
use Rattle.tb_parse_type.specs.Rules.{inside, ElementUpto, InElement}
use Rattle.tb_parse_type.proofs.Unions.{next_found, next_lacks, next_lacks_bar, counted_as}
use Rattle.tb_parse_type.proofs.Readings.{lacking_in, reading_in}
use Rattle.tb_parse_type.proofs.parse.Grammar.next_at.Goals as goal

pub returns-then-not-is_mark : goal.returns-then-not-is_mark
returns-then-not-is_mark g c = next_lacks_bar (inside c.args.limits) _ c.if-not-is_mark.ensures

pub returns-in_default : goal.returns-in_default
returns-in_default g c =
    let n = lacking_in (λ (l : Limits). ElementUpto l c.args.limits) InElement c.inside.result (inside c.args.limits) c.args.self.now.reader (c.args.at + 1) _ c.inside.ensures c.in_default.is c.in_ok-part.ensures in
    lacks_from c.if-not-is_mark.ensures.2 (next_lacks c.args.limits _ c.requires.own c.requires.depth n)

pub returns : goal.returns
returns g c =
    let f = reading_in (λ (l : Limits). ElementUpto l c.args.limits) InElement c.inside.result (inside c.args.limits) c.args.self.now.reader (c.args.at + 1) _ c.in-Some.part c.inside.ensures c.in-Some.is c.in_ok-part.ensures in (
      f.0,
      found_from c.if-not-is_mark.ensures.2
          (found_as (counted_as c.in_ok-parts_of.ensures c.part_count-own.ensures c.part_count-depth.ensures) (next_found c.args.limits _ c.requires.own c.requires.depth f.1)),
    )
