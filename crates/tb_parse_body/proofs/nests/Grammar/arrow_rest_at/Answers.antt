use Rattle.std.proofs.Common.{◌+◌, refl}
use Rattle.tb_tree.proofs.Ends.{found_as, found_left}
use Rattle.tb_parse_body.specs.Rules.{ArrowBodyUpto, InExpr}
use Rattle.tb_parse_body.proofs.ArrowParts.{rest_found, rest_lacks_arrow, rest_lacks_body}
use Rattle.tb_parse_body.proofs.Sequences.{lacking, reading, deep_as}
use Rattle.tb_parse_body.proofs.nests.Grammar.arrow_rest_at.Goals as goal

pub returns-then-not-is_mark : goal.returns-then-not-is_mark
returns-then-not-is_mark g c = let f = c.in_ok-shape.ensures in rest_lacks_arrow c.args.typed c.args.limit f.1 c.if-not-is_mark.ensures

pub returns-in_default : goal.returns-in_default
returns-in_default g c =
    let f = c.in_ok-shape.ensures in
    let n = lacking (ArrowBodyUpto c.args.typed c.args.limit) (InExpr c.args.typed) c.args.self.now.reader (c.in_ok-shape.shape.next + 1) _ c.in_default.is c.in_ok-body.ensures in
    rest_lacks_body c.args.typed c.args.limit _ (found_left c.if-not-is_mark.ensures.2 f.1) n

pub returns : goal.returns
returns g c =
    let f = c.in_ok-shape.ensures in
    let b = reading (ArrowBodyUpto c.args.typed c.args.limit) (InExpr c.args.typed) c.args.self.now.reader (c.in_ok-shape.shape.next + 1) _ c.in-Some.body c.in-Some.is c.in_ok-body.ensures in
    (b.0, found_as (deep_as refl c.larger.ensures) (rest_found c.args.typed c.args.limit _ (found_left c.if-not-is_mark.ensures.2 f.1) b.1))
