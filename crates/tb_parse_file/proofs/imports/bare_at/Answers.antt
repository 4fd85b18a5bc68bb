use Rattle.std.proofs.Common.{arith}
use Rattle.tb_tree.proofs.Ends.{found_from, lacks_from}
use Rattle.tb_parse_file.proofs.ListReadings.{bare_found, bare_lacks, bare_lacks_end, no_specifier, a_specifier}
use Rattle.tb_parse_file.proofs.PartReadings.{two_at}
use Rattle.tb_parse_file.proofs.imports.bare_at.Goals as goal

pub returns-in_default : goal.returns-in_default
returns-in_default c = bare_lacks _ (no_specifier c.args.reader.now c.args.at _ c.in_default.is c.in_ok-of.ensures)

pub returns-then-not-is_mark : goal.returns-then-not-is_mark
returns-then-not-is_mark c =
    let s = a_specifier c.args.reader.now c.args.at _ _ c.in-Some.is c.in_ok-of.ensures in
    lacks_from s.2 (bare_lacks_end _ _ _ c.if-not-is_mark.ensures)

pub returns : goal.returns
returns c =
    let s = a_specifier c.args.reader.now c.args.at _ _ c.in-Some.is c.in_ok-of.ensures in
    (omega (arith, c.if-not-is_mark.ensures.0), found_from (two_at c.args.reader.now c.args.at s.2 c.if-not-is_mark.ensures.2) (bare_found _ _ _))
