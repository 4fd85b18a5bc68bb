use Rattle.std.proofs.Common.{◌+◌, arith}
use Rattle.tb_parse_type.specs.Reading.{rest}
use Rattle.tb_parse_file.proofs.MemberHeads.{head_found, head_lacks}
use Rattle.tb_parse_file.proofs.classes.head_at.Goals as goal

pub returns-in_default : goal.returns-in_default
returns-in_default c =
    let r = c.args.reader.now in
    let s = c.modifier_at-is_static in
    let o = c.modifier_at-read_only in
    head_lacks s.result.0 o.result.0 (rest r c.args.at) (rest r s.result.1) (rest r o.result.1) s.ensures.modified o.ensures.modified c.in_default.ensures

pub returns : goal.returns
returns c =
    let r = c.args.reader.now in
    let s = c.modifier_at-is_static in
    let o = c.modifier_at-read_only in
    let w = c.in-Some.ensures in
    (omega (arith, w.0), head_found (rest r s.result.1) c.in-Some.word _ _ s.ensures.modified o.ensures.modified w.2)
