use Rattle.std.proofs.Common.{arith}
use Rattle.tb_tree.proofs.Ends.{found_from, found_as}
use Rattle.tb_parse_file.proofs.Bases.{base_found, same_base}
use Rattle.tb_parse_file.proofs.declarations.base_at.Goals as goal

pub returns : goal.returns
returns c =
    let s = c.in-Some.ensures in
    let stands = s.1 in
    (omega (arith, stands.0), found_as (same_base c.start_at.ensures c.in_ok-name.ensures c.new.ensures) (found_from stands.2 (base_found c.in-Some._word _ _ _ s.0)))
