use Rattle.std.proofs.Common.{◌≡◌, ◌∙◌, sym, subst, true, false}
use Rattle.tb_parse_body.specs.Given.{GivesAll}
use Rattle.tb_parse_body.specs.Rules.{ParamUpto, InExpr}
use Rattle.tb_parse_body.proofs.Parameters.{following_found, following_lacks, following_lacks_given}
use Rattle.tb_parse_body.proofs.Sequences.{lacking, reading}
use Rattle.tb_parse_body.proofs.nests.Grammar.next_param_at.Goals as goal

pub returns-in_default : goal.returns-in_default
returns-in_default g c = following_lacks c.args.after c.args.limit (lacking (ParamUpto c.args.limit) (InExpr true) c.args.self.now.reader c.args.at _ c.in_default.is c.in_ok-param.ensures.longest)

pub returns-then-not-may_follow : goal.returns-then-not-may_follow
returns-then-not-may_follow g c =
    let alone = subst (λ o. GivesAll c.args.limit c.args.self.now.reader c.args.at o) c.in-Some.is c.in_ok-param.ensures.given in
    following_lacks_given c.args.after c.in-Some.param.tree.1 c.args.limit (sym c.may_follow.ensures ∙ c.if-not-may_follow.true) alone

pub returns : goal.returns
returns g c =
    let f = reading (ParamUpto c.args.limit) (InExpr true) c.args.self.now.reader c.args.at _ c.in-Some.param c.in-Some.is c.in_ok-param.ensures.longest in
    (f.0, following_found c.args.after c.args.limit (sym c.may_follow.ensures ∙ c.if-not-may_follow.false) f.1)
