use Rattle.tb_tree.specs.Longest.{Never}
use Rattle.tb_tree.proofs.Ends.{found_as}
use Rattle.tb_parse_file.specs.Classes.{head_of}
use Rattle.tb_parse_file.specs.DeclRules.{SignatureRule}
use Rattle.tb_parse_file.proofs.DeclMembers.{method_found, method_read_only, method_lacks, same_method}
use Rattle.tb_parse_file.proofs.PartReadings.{lacking, reading}
use Rattle.tb_parse_file.proofs.decl_members.method_at.Goals as goal

pub returns-then-head : goal.returns-then-head
returns-then-head c = method_read_only (head_of c.args.reader c.args.head) _ c.if-head.true

pub returns-in_default : goal.returns-in_default
returns-in_default c = method_lacks (head_of c.args.reader c.args.head) (lacking SignatureRule Never c.args.reader c.args.head.next _ c.in_default.is c.in_ok-signature.ensures)

pub returns : goal.returns
returns c =
    let f = reading SignatureRule Never c.args.reader c.args.head.next _ c.in-Some.signature c.in-Some.is c.in_ok-signature.ensures in
    let same = same_method c.args.head.is_static c.in-Some.signature.tree.0 c.in-Some.signature.tree.1 c.start_at.ensures c.in_ok-name.ensures in
    (f.0, found_as same (method_found (head_of c.args.reader c.args.head) c.if-head.false f.1))
