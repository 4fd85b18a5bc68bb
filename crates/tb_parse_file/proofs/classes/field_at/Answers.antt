use Rattle.std.proofs.Common.{◌+◌, arith}
use Rattle.tb_tree.proofs.Ends.{found_as}
use Rattle.tb_parse_file.specs.Classes.{head_of}
use Rattle.tb_parse_file.proofs.MemberParts.{field_found, field_lacks, same_field}
use Rattle.tb_parse_file.proofs.classes.field_at.Goals as goal

pub returns-then-not-is_mark : goal.returns-then-not-is_mark
returns-then-not-is_mark c =
    field_lacks c.args.limit (head_of c.args.reader c.args.head) c.question_at-optional.ensures.1 c.in_ok-annotation.ensures.1 c.in_ok-value.ensures.1 c.if-not-is_mark.ensures

pub returns : goal.returns
returns c =
    let s = c.if-not-is_mark.ensures in
    let a = c.in_ok-annotation.annotation in
    let v = c.in_ok-value.value in
    let same = same_field c.args.head.is_static c.args.head.read_only c.question_at-optional.result.0 a.tree c.start_at.ensures c.in_ok-name.ensures c.unboxed.ensures c.larger.ensures in
    (omega (arith, s.0), found_as same (field_found c.args.limit (head_of c.args.reader c.args.head) _ c.question_at-optional.ensures.1 c.in_ok-annotation.ensures.1 c.in_ok-value.ensures.1 s.2))
