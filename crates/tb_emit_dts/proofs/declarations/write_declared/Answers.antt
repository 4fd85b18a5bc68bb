use Rattle.std.proofs.Common.{string_bytes}
use Rattle.tb_emit_dts.proofs.Growing.{function_grown}
use Rattle.tb_emit_dts.proofs.declarations.write_declared.Goals as goal

pub returns-in_ok-put-in-Function-3 : goal.returns-in_ok-put-in-Function-3
returns-in_ok-put-in-Function-3 c =
    function_grown (string_bytes c.args.out.now) (string_bytes c.put-in-Function.new.out) (string_bytes c.put-in-Function-2.new.out) (string_bytes c.write_variables.new.out) (string_bytes c.write_params.new.out) (string_bytes c.write_colon-in-Function.new.out) (string_bytes c.put-in-Function-3.new.out) c.args.of.now c.in-Function.at c.in-Function.name c.in-Function.variables c.in-Function.params c.in-Function.result c.as_str-in-Function.result.now c.as_slice.result.now c.as_slice-in-Function.result.now
    c.in-Function.is c.as_str-in-Function.ensures.text c.as_slice.ensures c.as_slice-in-Function.ensures c.in_ok-put-in-Function.ensures c.in_ok-put-in-Function-2.ensures c.in_ok-write_variables-in-Function.ensures c.in_ok-write_params-in-Function.ensures c.in_ok-write_colon-in-Function.ensures c.in_ok-put-in-Function-3.ensures
