use Rattle.tb_tree.specs.Longest.{Never}
use Rattle.tb_parse_file.specs.DeclRules.{PlainRule, ConstructorRule}
use Rattle.tb_parse_file.proofs.DeclRows.{member_of_plain, member_of_constructor, member_lacks, member_lacks_second}
use Rattle.tb_parse_file.proofs.PartReadings.{lacking, reading}
use Rattle.tb_parse_file.proofs.decl_members.member_at.Goals as goal

pub returns-in-Some : goal.returns-in-Some
returns-in-Some c =
    let f = reading PlainRule Never c.args.reader c.args.at _ c.in-Some.member c.in-Some.is c.in_ok-member.ensures in
    (f.0, member_of_plain c.args.before f.1)

pub returns-then-before : goal.returns-then-before
returns-then-before c =
    let l = lacking PlainRule Never c.args.reader c.args.at _ c.in_default.is c.in_ok-member.ensures in
    member_lacks_second c.args.before c.if-before.true l

pub returns-in_default-2 : goal.returns-in_default-2
returns-in_default-2 c =
    let l = lacking PlainRule Never c.args.reader c.args.at _ c.in_default.is c.in_ok-member.ensures in
    let k = lacking ConstructorRule Never c.args.reader c.args.at _ c.in_default-2.is c.in_ok-constructor.ensures in
    member_lacks c.args.before l k

pub returns : goal.returns
returns c =
    let l = lacking PlainRule Never c.args.reader c.args.at _ c.in_default.is c.in_ok-member.ensures in
    let f = reading ConstructorRule Never c.args.reader c.args.at _ c.in-Some-2.constructor c.in-Some-2.is c.in_ok-constructor.ensures in
    (f.0, member_of_constructor c.args.before c.if-before.false l f.1)
