use Rattle.std.proofs.Common.{subst}
use Rattle.tb_parse_type.specs.Reading.{ReadsHead}
use Rattle.tb_parse_type.proofs.Members.{member_lacks_head}
use Rattle.tb_parse_type.proofs.Rulings.{member_reads}
use Rattle.tb_parse_type.proofs.parse.Grammar.member_at.Goals as goal

pub returns-in_default : goal.returns-in_default
returns-in_default g c = member_lacks_head c.args.limits (subst (λ o. ReadsHead c.args.self.now.reader c.args.at o) c.in_default.is c.in_ok-head.ensures)

pub returns : goal.returns
returns g c =
    let h = subst (λ o. ReadsHead c.args.self.now.reader c.args.at o) c.in-Some.is c.in_ok-head.ensures in
    member_reads c.args.limits c.args.self.now.reader c.args.at c.question-optional.result.1 _ h.1 c.question-optional.ensures.1 c.in_ok-member.ensures
