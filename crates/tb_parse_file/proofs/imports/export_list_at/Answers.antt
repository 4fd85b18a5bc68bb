use Rattle.std.proofs.Common.{◌≡◌, ap, ◌+◌, ℕ, true, false, sym, ◌∙◌, arith}
use Rattle.std.specs.Prelude.{Some, None}
use Rattle.tb_tree.specs.Longest.{Never}
use Rattle.tb_tree.proofs.Ends.{found_from, found_as, found_left, lacks_from}
use Rattle.tb_parse_file.specs.Lists.{TypedSpecsRule, EndedFromRule, export_of}
use Rattle.tb_parse_file.proofs.ImportReadings.{not_true, not_false, export_from_found, export_list_found, export_lacks, export_lacks_end, export_lacks_word}
use Rattle.tb_parse_file.proofs.PartReadings.{lacking, reading}
use Rattle.tb_parse_file.proofs.imports.export_list_at.Goals as goal

pub returns-then-not-is_word : goal.returns-then-not-is_word
returns-then-not-is_word c = export_lacks_word _ c.if-not-is_word.ensures

pub returns-in_default : goal.returns-in_default
returns-in_default c =
    let l = lacking (TypedSpecsRule false) Never c.args.reader.now (c.args.at + 1) _ c.in_default.is c.in_ok-list.ensures in
    lacks_from c.if-not-is_word.ensures.2 (export_lacks _ _ l)

pub returns-in-Some-2 : goal.returns-in-Some-2
returns-in-Some-2 c =
    let r = c.args.reader.now in
    let f = reading (TypedSpecsRule false) Never r (c.args.at + 1) _ c.in-Some.list c.in-Some.is c.in_ok-list.ensures in
    let h = reading EndedFromRule Never r c.in-Some.list.next _ c.in-Some-2.from c.in-Some-2.is c.in_ok-from.ensures in
    (h.0, found_from c.if-not-is_word.ensures.2 (found_as (c.export_of.ensures ∙ ap (λ (o : ℕ). export_of o c.in-Some.list.tree (Some c.in-Some-2.from.tree)) c.start_at-start.ensures) (export_from_found _ _ f.1 h.1)))

pub returns-then-not-list : goal.returns-then-not-list
returns-then-not-list c =
    let r = c.args.reader.now in
    let f = reading (TypedSpecsRule false) Never r (c.args.at + 1) _ c.in-Some.list c.in-Some.is c.in_ok-list.ensures in
    let n = lacking EndedFromRule Never r c.in-Some.list.next _ c.in_default-2.is c.in_ok-from.ensures in
    lacks_from c.if-not-is_word.ensures.2 (export_lacks_end _ _ f.1 n (λ e at zs i. let k : true ≡ false = sym e ∙ not_true _ c.if-not-list.true in cc))

pub returns-then-not-is_mark : goal.returns-then-not-is_mark
returns-then-not-is_mark c =
    let r = c.args.reader.now in
    let f = reading (TypedSpecsRule false) Never r (c.args.at + 1) _ c.in-Some.list c.in-Some.is c.in_ok-list.ensures in
    let n = lacking EndedFromRule Never r c.in-Some.list.next _ c.in_default-2.is c.in_ok-from.ensures in
    lacks_from c.if-not-is_word.ensures.2 (export_lacks_end _ _ f.1 n (λ e. c.if-not-is_mark.ensures))

pub returns : goal.returns
returns c =
    let r = c.args.reader.now in
    let f = reading (TypedSpecsRule false) Never r (c.args.at + 1) _ c.in-Some.list c.in-Some.is c.in_ok-list.ensures in
    let s = c.if-not-is_mark.ensures in
    (omega (arith, s.0), found_from c.if-not-is_word.ensures.2 (found_as (c.export_of-2.ensures ∙ ap (λ (o : ℕ). export_of o c.in-Some.list.tree None) c.start_at-start.ensures) (export_list_found _ _ _ (found_left s.2 f.1) (not_false _ c.if-not-list.false))))
