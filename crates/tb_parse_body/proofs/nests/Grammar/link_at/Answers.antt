use Rattle.std.proofs.Common.{true, false, ◌≡◌}
use Rattle.tb_parse_body.specs.Links.{MemberRule, IndexUpto, CallUpto}
use Rattle.tb_tree.specs.Longest.{Never}
use Rattle.tb_parse_body.proofs.Sequences.{lacking, reading}
use Rattle.tb_parse_body.proofs.Linking.{link_index, link_call, link_number, link_answer}
use Rattle.tb_parse_body.proofs.nests.Grammar.link_at.Goals as goal

pub returns-in-Some : goal.returns-in-Some
returns-in-Some g c =
    let f = reading (IndexUpto c.args.limit) Never c.args.self.now.reader c.args.at _ c.in-Some.index c.in-Some.is c.in_ok-index.ensures in
    (f.0, link_index c.args.number c.args.limit f.1)

pub returns-in-Some-2 : goal.returns-in-Some-2
returns-in-Some-2 g c =
    let f = reading (CallUpto c.args.limit) Never c.args.self.now.reader c.args.at _ c.in-Some-2.call c.in-Some-2.is c.in_ok-call.ensures in
    (f.0, link_call c.args.number c.args.limit f.1)

pub returns-then-number : goal.returns-then-number
returns-then-number g c =
    let n = lacking (IndexUpto c.args.limit) Never c.args.self.now.reader c.args.at _ c.in_default.is c.in_ok-index.ensures in
    let k = lacking (CallUpto c.args.limit) Never c.args.self.now.reader c.args.at _ c.in_default-2.is c.in_ok-call.ensures in
    link_number c.args.number c.args.limit c.if-number.true n k

pub returns : goal.returns
returns g c =
    let n = lacking (IndexUpto c.args.limit) Never c.args.self.now.reader c.args.at _ c.in_default.is c.in_ok-index.ensures in
    let k = lacking (CallUpto c.args.limit) Never c.args.self.now.reader c.args.at _ c.in_default-2.is c.in_ok-call.ensures in
    link_answer c.args.number c.args.limit c.args.self.now.reader c.args.at _ c.if-number.false n k c.in_ok-member.ensures
