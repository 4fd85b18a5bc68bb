use Rattle.std.proofs.Common.{ap, refl}
use Rattle.tb_tree.specs.declared.types.TypeExpr.{TypeExpr}
use Rattle.tb_tree.specs.declared.types.TypeMember.TheVariants as p
use Rattle.tb_tree.proofs.Ends.{found_as}
use Rattle.tb_parse_type.specs.Reading.{head_of}
use Rattle.tb_parse_type.specs.Rules.{ShapeUpto, InType}
use Rattle.tb_parse_type.proofs.Members.{property_found, property_lacks}
use Rattle.tb_parse_type.proofs.Unions.{counted_as}
use Rattle.tb_parse_type.proofs.Readings.{lacking, reading}
use Rattle.tb_parse_type.proofs.parse.Grammar.property_at.Goals as goal

pub returns-in_default : goal.returns-in_default
returns-in_default g c =
    property_lacks c.args.limits (head_of c.args.head) c.args.optional (lacking (ShapeUpto c.args.limits) InType c.args.self.now.reader c.args.at _ c.in_default.is c.in_ok-shape.ensures)

pub returns : goal.returns
returns g c =
    let h = c.args.head in
    let f = reading (ShapeUpto c.args.limits) InType c.args.self.now.reader c.args.at _ c.in-Some.shape c.in-Some.is c.in_ok-shape.ensures in (
      f.0,
      found_as (counted_as (ap (λ (x : TypeExpr). p.Property h.at h.read_only h.key c.args.optional x) c.in_ok-new.ensures) refl refl) (property_found c.args.limits (head_of h) c.args.optional f.1),
    )
