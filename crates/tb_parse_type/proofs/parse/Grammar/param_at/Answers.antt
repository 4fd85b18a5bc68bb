use Rattle.std.proofs.Common.{ap, refl, ◌∙◌, List, ℕ}
use Rattle.tb_tree.specs.declared.types.TypeExpr.{TypeExpr}
use Rattle.tb_tree.proofs.Ends.{found_from, found_as, lacks_from, ap_both}
use Rattle.tb_parse_type.specs.Reading.{start_at, text_at}
use Rattle.tb_parse_type.specs.Rules.{ShapeUpto, InType}
use Rattle.tb_parse_type.proofs.Members.{param_of, param_found, param_lacks, param_lacks_name}
use Rattle.tb_parse_type.proofs.Unions.{counted_as}
use Rattle.tb_parse_type.proofs.Readings.{lacking, reading}
use Rattle.tb_parse_type.proofs.parse.Grammar.param_at.Goals as goal

pub returns-in_default : goal.returns-in_default
returns-in_default g c = param_lacks_name c.args.limits _ c.in_default.ensures

pub returns-in_default-2 : goal.returns-in_default-2
returns-in_default-2 g c =
    let r = c.args.self.now.reader in
    let name = c.in-Some.ensures in
    let stands = name.1 in
    let n = lacking (ShapeUpto c.args.limits) InType r c.question-optional.result.1 _ c.in_default-2.is c.in_ok-shape.ensures in
    lacks_from stands.2 (param_lacks c.args.limits _ _ _ c.question-optional.ensures.1 n)

pub returns : goal.returns
returns g c =
    let r = c.args.self.now.reader in
    let name = c.in-Some.ensures in
    let stands = name.1 in
    let optional = c.question-optional.result.0 in
    let f = reading (ShapeUpto c.args.limits) InType r c.question-optional.result.1 _ c.in-Some-2.shape c.in-Some-2.is c.in_ok-shape.ensures in
    let tree = ap_both (λ (o : ℕ) (w : List ℕ). param_of o w optional c.in_ok-new.field-0) c.start_at.ensures c.in_ok-name.ensures ∙ ap (λ (x : TypeExpr). param_of (start_at r c.args.at) (text_at r c.args.at) optional x) c.in_ok-new.ensures in (
      f.0,
      found_from stands.2 (found_as (counted_as tree refl refl) (param_found c.args.limits _ _ _ name.0 c.question-optional.ensures.1 f.1)),
    )
