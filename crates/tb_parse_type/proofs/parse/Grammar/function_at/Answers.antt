use Rattle.std.proofs.Common.{ap, ◌∙◌, ◌+◌, ℕ}
use Rattle.tb_tree.specs.declared.types.TypeExpr.{TypeExpr}
use Rattle.tb_tree.specs.declared.types.TypeExpr.TheVariants as t
use Rattle.tb_tree.specs.Longest.{Never}
use Rattle.tb_tree.proofs.Ends.{found_as, found_left}
use Rattle.tb_parse_type.specs.Rules.{inside, ParensUpto, TypeUpto, InType}
use Rattle.tb_parse_type.proofs.Types.{function_found, function_lacks, function_lacks_arrow, function_lacks_result}
use Rattle.tb_parse_type.proofs.Unions.{counted_as}
use Rattle.tb_parse_type.proofs.Readings.{lacking_in, reading_in, start_is}
use Rattle.tb_parse_type.proofs.parse.Grammar.function_at.Goals as goal

pub returns-in_default : goal.returns-in_default
returns-in_default g c =
    let n = lacking_in ParensUpto Never c.inside.result (inside c.args.limits) c.args.self.now.reader c.args.at _ c.inside.ensures c.in_default.is c.in_ok-params.ensures in
    function_lacks c.args.limits n

pub returns-then-not-is_mark : goal.returns-then-not-is_mark
returns-then-not-is_mark g c =
    let f = reading_in ParensUpto Never c.inside.result (inside c.args.limits) c.args.self.now.reader c.args.at _ c.in-Some.params c.inside.ensures c.in-Some.is c.in_ok-params.ensures in
    function_lacks_arrow c.args.limits f.1 c.if-not-is_mark.ensures

pub returns-in_default-2 : goal.returns-in_default-2
returns-in_default-2 g c =
    let r = c.args.self.now.reader in
    let f = reading_in ParensUpto Never c.inside.result (inside c.args.limits) r c.args.at _ c.in-Some.params c.inside.ensures c.in-Some.is c.in_ok-params.ensures in
    let n = lacking_in TypeUpto InType c.inside-2.result (inside c.args.limits) r (c.in-Some.params.next + 1) _ c.inside-2.ensures c.in_default-2.is c.in_ok-of.ensures in
    function_lacks_result c.args.limits _ (found_left c.if-not-is_mark.ensures.2 f.1) n

pub returns : goal.returns
returns g c =
    let r = c.args.self.now.reader in
    let f = reading_in ParensUpto Never c.inside.result (inside c.args.limits) r c.args.at _ c.in-Some.params c.inside.ensures c.in-Some.is c.in_ok-params.ensures in
    let k = reading_in TypeUpto InType c.inside-2.result (inside c.args.limits) r (c.in-Some.params.next + 1) _ c.in-Some-2.of c.inside-2.ensures c.in-Some-2.is c.in_ok-of.ensures in
    let tree = ap (λ (x : TypeExpr). t.Function c.start_at.result c.in-Some.params.tree x) c.in_ok-new.ensures in (
      k.0,
      found_as (counted_as tree (ap (λ (n : ℕ). n + 1) c.larger.ensures) (ap (λ (n : ℕ). n + 1) c.larger-2.ensures))
          (function_found c.args.limits c.start_at.result _ (c.start_at.ensures ∙ start_is r c.args.at) (found_left c.if-not-is_mark.ensures.2 f.1) k.1),
    )
