use Rattle.std.proofs.Common.{string_bytes}
use Rattle.tb_emit_dts.proofs.Growing.{class_grown}
use Rattle.tb_emit_dts.proofs.bodies.write_class.Goals as goal

pub returns : goal.returns
returns c =
    class_grown (string_bytes c.args.out.now) (string_bytes c.put.new.out) (string_bytes c.put-2.new.out) (string_bytes c.write_implemented.new.out) (string_bytes c.put-3.new.out) (string_bytes c.write_class_lines.new.out) (string_bytes c.put-4.new.out) c.args.of.now c.as_str.result.now c.as_slice.result.now c.as_slice-2.result.now
    c.as_str.ensures.text c.as_slice.ensures c.as_slice-2.ensures c.in_ok-put.ensures c.in_ok-put-2.ensures c.in_ok-write_implemented.ensures c.in_ok-put-3.ensures c.in_ok-write_class_lines.ensures c.in_ok-put-4.ensures
