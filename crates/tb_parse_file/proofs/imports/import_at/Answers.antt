use Rattle.std.proofs.Common.{ap, ◌+◌, ℕ, true, ◌∙◌}
use Rattle.tb_tree.specs.declared.items.Import.TheVariants as import_form
use Rattle.tb_tree.specs.Longest.{Never}
use Rattle.tb_tree.proofs.Ends.{found_from, found_as, lacks_from}
use Rattle.tb_parse_file.specs.Lists.{BareRule, TypedSpecsRule, EndedFromRule, import_of}
use Rattle.tb_parse_file.proofs.ImportReadings.{import_bare_found, import_list_found, import_lacks_word, import_lacks_list, import_lacks_from}
use Rattle.tb_parse_file.proofs.PartReadings.{lacking, reading}
use Rattle.tb_parse_file.proofs.imports.import_at.Goals as goal

pub returns-then-not-is_word : goal.returns-then-not-is_word
returns-then-not-is_word c = import_lacks_word _ c.if-not-is_word.ensures

pub returns-in-Some : goal.returns-in-Some
returns-in-Some c =
    let f = reading BareRule Never c.args.reader.now (c.args.at + 1) _ c.in-Some.bare c.in-Some.is c.in_ok-bare.ensures in
    (f.0, found_from c.if-not-is_word.ensures.2 (found_as (ap (λ (o : ℕ). import_form.Bare o c.in-Some.bare.tree) c.start_at-start.ensures) (import_bare_found _ _ f.1)))

pub returns-in_default-2 : goal.returns-in_default-2
returns-in_default-2 c =
    let n = lacking BareRule Never c.args.reader.now (c.args.at + 1) _ c.in_default.is c.in_ok-bare.ensures in
    let l = lacking (TypedSpecsRule true) Never c.args.reader.now (c.args.at + 1) _ c.in_default-2.is c.in_ok-list.ensures in
    lacks_from c.if-not-is_word.ensures.2 (import_lacks_list _ _ n l)

pub returns-in_default-3 : goal.returns-in_default-3
returns-in_default-3 c =
    let r = c.args.reader.now in
    let n = lacking BareRule Never r (c.args.at + 1) _ c.in_default.is c.in_ok-bare.ensures in
    let f = reading (TypedSpecsRule true) Never r (c.args.at + 1) _ c.in-Some-2.list c.in-Some-2.is c.in_ok-list.ensures in
    let l = lacking EndedFromRule Never r c.in-Some-2.list.next _ c.in_default-3.is c.in_ok-from.ensures in
    lacks_from c.if-not-is_word.ensures.2 (import_lacks_from _ _ n f.1 l)

pub returns : goal.returns
returns c =
    let r = c.args.reader.now in
    let n = lacking BareRule Never r (c.args.at + 1) _ c.in_default.is c.in_ok-bare.ensures in
    let f = reading (TypedSpecsRule true) Never r (c.args.at + 1) _ c.in-Some-2.list c.in-Some-2.is c.in_ok-list.ensures in
    let h = reading EndedFromRule Never r c.in-Some-2.list.next _ c.in-Some-3.from c.in-Some-3.is c.in_ok-from.ensures in
    (h.0, found_from c.if-not-is_word.ensures.2 (found_as (c.import_of.ensures ∙ ap (λ (o : ℕ). import_of o c.in-Some-2.list.tree c.in-Some-3.from.tree) c.start_at-start.ensures) (import_list_found _ _ n f.1 h.1)))
