use Rattle.std.proofs.Common.{◌≡◌, ◌∙◌, ap, length, arith}
use Rattle.std.proofs.lemmas.Grind.{common_steps}
use Rattle.std.specs.Prelude.{not}
use Rattle.std.specs.List.{filter}
use Rattle.std.specs.BTreeSet.{contains}
use Rattle.tb_text.specs.Bytes.{bytes_cmp}
use Rattle.tb_surface.proofs.Joins.{nothing_left}
use Rattle.tb_surface.proofs.Named.{some_bound, unbound_none}
use Rattle.tb_surface.proofs.names.unbound.Goals as goal

pub returns : goal.returns
returns c =
    c.in_ok-left.ensures ∙ ap (filter (λ name. not (contains bytes_cmp c.in_ok-bound.bound name))) c.as_slice.ensures ∙ some_bound _ c.args.variables.now _ c.in_ok-bound.ensures

pub returns-then-is_empty : goal.returns-then-is_empty
returns-then-is_empty c =
    let none : length c.args.variables.now ≡ 0 = grind (arith, common_steps, c.is_empty.ensures, c.if-is_empty.true) in
    unbound_none c.args.variables.now c.args.names (nothing_left c.args.variables.now none)
