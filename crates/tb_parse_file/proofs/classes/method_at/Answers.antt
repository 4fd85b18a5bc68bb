use Rattle.tb_tree.specs.Longest.{Never}
use Rattle.tb_tree.proofs.Ends.{found_as}
use Rattle.tb_parse_body.specs.Rules.{SignatureUpto, BodyUpto, InBody}
use Rattle.tb_parse_body.proofs.Readings.{lacking, reading}
use Rattle.tb_parse_file.specs.Classes.{head_of}
use Rattle.tb_parse_file.proofs.MemberParts.{method_found, method_read_only, method_lacks_params, method_lacks_body, same_method}
use Rattle.tb_parse_file.proofs.classes.method_at.Goals as goal

pub returns-then-head : goal.returns-then-head
returns-then-head c = method_read_only c.args.limit (head_of c.args.reader c.args.head) _ c.if-head.true

pub returns-in_default : goal.returns-in_default
returns-in_default c =
    method_lacks_params c.args.limit (head_of c.args.reader c.args.head) (lacking (SignatureUpto c.args.limit) Never c.args.reader c.args.head.next _ c.in_default.is c.in_ok-params.ensures)

pub returns-in_default-2 : goal.returns-in_default-2
returns-in_default-2 c =
    let f = reading (SignatureUpto c.args.limit) Never c.args.reader c.args.head.next _ c.in-Some.params c.in-Some.is c.in_ok-params.ensures in
    method_lacks_body c.args.limit (head_of c.args.reader c.args.head) f.1 (lacking (BodyUpto c.args.limit) InBody c.args.reader c.in-Some.params.next _ c.in_default-2.is c.in_ok-body.ensures)

pub body_at-requires : goal.body_at-requires
body_at-requires c = (reading (SignatureUpto c.args.limit) Never c.args.reader c.args.head.next _ c.in-Some.params c.in-Some.is c.in_ok-params.ensures).0

pub returns : goal.returns
returns c =
    let f = reading (SignatureUpto c.args.limit) Never c.args.reader c.args.head.next _ c.in-Some.params c.in-Some.is c.in_ok-params.ensures in
    let b = reading (BodyUpto c.args.limit) InBody c.args.reader c.in-Some.params.next _ c.in-Some-2.body c.in-Some-2.is c.in_ok-body.ensures in
    let same = same_method c.args.head.is_static c.in-Some.params.tree c.in-Some-2.body.tree.0 c.in-Some-2.body.tree.1 c.start_at.ensures c.in_ok-name.ensures c.larger.ensures in
    (b.0, found_as same (method_found c.args.limit (head_of c.args.reader c.args.head) c.if-head.false f.1 b.1))
