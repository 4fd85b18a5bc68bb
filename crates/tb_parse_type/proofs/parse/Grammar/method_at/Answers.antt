use Rattle.std.proofs.Common.{ap}
use Rattle.tb_tree.specs.declared.types.TypeExpr.{TypeExpr}
use Rattle.tb_tree.specs.declared.types.TypeMember.TheVariants as p
use Rattle.tb_tree.specs.Longest.{Never}
use Rattle.tb_tree.proofs.Ends.{found_as}
use Rattle.tb_parse_type.specs.Reading.{head_of}
use Rattle.tb_parse_type.specs.Rules.{ParensUpto, ShapeUpto, InType}
use Rattle.tb_parse_type.proofs.Members.{method_found, method_lacks, method_lacks_shape}
use Rattle.tb_parse_type.proofs.Unions.{counted_as}
use Rattle.tb_parse_type.proofs.Readings.{lacking, reading}
use Rattle.tb_parse_type.proofs.parse.Grammar.method_at.Goals as goal

pub returns-in_default : goal.returns-in_default
returns-in_default g c =
    method_lacks c.args.limits (head_of c.args.head) c.args.optional (lacking (ParensUpto c.args.limits) Never c.args.self.now.reader c.args.at _ c.in_default.is c.in_ok-params.ensures)

pub returns-in_default-2 : goal.returns-in_default-2
returns-in_default-2 g c =
    let f = reading (ParensUpto c.args.limits) Never c.args.self.now.reader c.args.at _ c.in-Some.params c.in-Some.is c.in_ok-params.ensures in
    let n = lacking (ShapeUpto c.args.limits) InType c.args.self.now.reader c.in-Some.params.next _ c.in_default-2.is c.in_ok-shape.ensures in
    method_lacks_shape c.args.limits (head_of c.args.head) c.args.optional f.1 n

pub returns : goal.returns
returns g c =
    let h = c.args.head in
    let ps = c.in-Some.params in
    let f = reading (ParensUpto c.args.limits) Never c.args.self.now.reader c.args.at _ ps c.in-Some.is c.in_ok-params.ensures in
    let k = reading (ShapeUpto c.args.limits) InType c.args.self.now.reader ps.next _ c.in-Some-2.shape c.in-Some-2.is c.in_ok-shape.ensures in (
      k.0,
      found_as (counted_as (ap (λ (x : TypeExpr). p.Method h.at h.key c.args.optional ps.tree x) c.in_ok-new.ensures) c.larger.ensures c.larger-2.ensures)
          (method_found c.args.limits (head_of h) c.args.optional f.1 k.1),
    )
