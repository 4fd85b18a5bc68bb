use Rattle.tb_surface.proofs.Found.{variable_found}
use Rattle.tb_surface.proofs.annotations.find_variable.Goals as goal

pub returns : goal.returns
returns c = λ names has.
    variable_found c.args.listed.now names c.args.exported c.args.of.now c.is_kept-kept.result c.args.found.now c.find_kept.new.found c.find_value.new.found has c.is_kept-kept.ensures c.in_ok-find_kept.ensures c.in_ok-find_value.ensures
