use Rattle.std.proofs.Common.{arith, sym, ◌∙◌}
use Rattle.tb_tree.proofs.Ends.{found_from, found_as, lacks_from}
use Rattle.tb_parse_file.proofs.PartReadings.{two_at}
use Rattle.tb_parse_file.proofs.SpecReadings.{renamed_found, renamed_lacks_as, renamed_lacks_word, renamed_lacks_end}
use Rattle.tb_parse_file.proofs.imports.renamed_at.Goals as goal

pub returns-then-not-is_word : goal.returns-then-not-is_word
returns-then-not-is_word c = renamed_lacks_as c.args.imported _ c.if-not-is_word.ensures

pub returns-in_default : goal.returns-in_default
returns-in_default c = lacks_from c.if-not-is_word.ensures.2 (renamed_lacks_word c.args.imported _ _ _ c.in_default.ensures)

pub returns-then-not-may_end : goal.returns-then-not-may_end
returns-then-not-may_end c =
    lacks_from (two_at c.args.reader.now c.args.at c.if-not-is_word.ensures.2 c.in-Some.ensures.2) (renamed_lacks_end c.args.imported _ _ _ _ _ (sym c.may_end.ensures ∙ c.if-not-may_end.true))

pub returns : goal.returns
returns c =
    let s = c.in-Some.ensures in
    (omega (arith, s.0), found_from (two_at c.args.reader.now c.args.at c.if-not-is_word.ensures.2 s.2) (found_as c.in_ok-identifier_at.ensures (renamed_found c.args.imported _ _ _ _ _ (sym c.may_end.ensures ∙ c.if-not-may_end.false))))
