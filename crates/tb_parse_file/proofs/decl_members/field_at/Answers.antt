use Rattle.tb_tree.specs.Longest.{Never}
use Rattle.tb_tree.proofs.Ends.{found_as}
use Rattle.tb_parse_file.specs.Classes.{head_of}
use Rattle.tb_parse_file.specs.DeclRules.{ShapeRule}
use Rattle.tb_parse_file.proofs.DeclMembers.{field_found, field_lacks, same_field}
use Rattle.tb_parse_file.proofs.PartReadings.{lacking, reading}
use Rattle.tb_parse_file.proofs.decl_members.field_at.Goals as goal

pub returns-in_default : goal.returns-in_default
returns-in_default c =
    let q = c.question_at-optional in
    field_lacks (head_of c.args.reader c.args.head) q.ensures.1 (lacking ShapeRule Never c.args.reader q.result.1 _ c.in_default.is c.in_ok-shape.ensures)

pub returns : goal.returns
returns c =
    let q = c.question_at-optional in
    let f = reading ShapeRule Never c.args.reader q.result.1 _ c.in-Some.shape c.in-Some.is c.in_ok-shape.ensures in
    let same = same_field c.args.head.is_static c.args.head.read_only q.result.0 c.in-Some.shape.tree c.start_at.ensures c.in_ok-name.ensures in
    (f.0, found_as same (field_found (head_of c.args.reader c.args.head) q.ensures.1 f.1))
