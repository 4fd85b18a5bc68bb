use Rattle.std.proofs.Common.{◌+◌, ◌-◌, ◌∷◌}
use Rattle.tb_tree.specs.declared.marks.Mark.TheVariants as m
use Rattle.tb_tree.specs.Sym.{Mark}
use Rattle.tb_tree.proofs.Ends.{found_from, found_as, lacks_from}
use Rattle.tb_parse_type.specs.Reading.{text_at, start_at}
use Rattle.tb_parse_body.specs.Rules.{ArrowBodyUpto, InExpr}
use Rattle.tb_parse_body.proofs.ArrowParts.{short_found, short_lacks, short_lacks_name, short_lacks_arrow, same_short, two_at}
use Rattle.tb_parse_body.proofs.Sequences.{lacking, reading}
use Rattle.tb_parse_body.proofs.nests.Grammar.short_arrow_at.Goals as goal

pub returns-in_default : goal.returns-in_default
returns-in_default g c = short_lacks_name c.args.typed c.args.limit _ c.requires.open (λ k s o p zs i w. c.in_default.ensures k s o i (Mark m.Arrow p ∷ zs) w)

pub returns-then-not-is_mark : goal.returns-then-not-is_mark
returns-then-not-is_mark g c =
    let s = c.in-Some.ensures in
    let stands = s.1 in
    short_lacks_arrow c.args.typed c.args.limit c.requires.open stands.2 c.if-not-is_mark.ensures

pub returns-in_default-2 : goal.returns-in_default-2
returns-in_default-2 g c =
    let r = c.args.self.now.reader in
    let s = c.in-Some.ensures in
    let stands = s.1 in
    let mark = c.if-not-is_mark.ensures in
    let n = lacking (ArrowBodyUpto c.args.typed (c.args.limit - 1)) (InExpr c.args.typed) r (c.args.at + 2) _ c.in_default-2.is c.in_ok-body.ensures in
    lacks_from (two_at r c.args.at stands.2 mark.2) (short_lacks c.args.typed c.args.limit c.in-Some._word (text_at r c.args.at) (start_at r c.args.at) _ n)

pub returns : goal.returns
returns g c =
    let r = c.args.self.now.reader in
    let s = c.in-Some.ensures in
    let stands = s.1 in
    let mark = c.if-not-is_mark.ensures in
    let body = c.in-Some-2.body in
    let f = reading (ArrowBodyUpto c.args.typed (c.args.limit - 1)) (InExpr c.args.typed) r (c.args.at + 2) _ body c.in-Some-2.is c.in_ok-body.ensures in (
      f.0,
      found_as (same_short body.tree (body.depth + 1) c.start_at-start.ensures c.in_ok-name.ensures c.new-params.ensures c.in_ok-push.ensures.ok)
          (found_from (two_at r c.args.at stands.2 mark.2) (short_found c.args.typed c.args.limit c.in-Some._word (text_at r c.args.at) (start_at r c.args.at) _ c.requires.some s.0 f.1)),
    )
