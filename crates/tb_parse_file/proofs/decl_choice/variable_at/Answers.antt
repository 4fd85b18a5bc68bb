use Rattle.std.proofs.Common.{◌+◌, sym, ◌∙◌}
use Rattle.tb_tree.specs.Longest.{Never}
use Rattle.tb_tree.proofs.Ends.{found_as, found_from, lacks_from}
use Rattle.tb_parse_file.specs.DeclRules.{IsKind, IsNaming, variable_of, ShapeRule}
use Rattle.tb_parse_file.proofs.DeclNames.{named_found, named_lacks, named_lacks_first, named_lacks_name, no_kind, other_kind, same_variable}
use Rattle.tb_parse_file.proofs.PartReadings.{lacking, reading, two_at}
use Rattle.tb_parse_file.proofs.decl_choice.variable_at.Goals as goal

pub returns-in_default : goal.returns-in_default
returns-in_default c = named_lacks_first IsKind IsNaming variable_of ShapeRule _ (no_kind _ c.in_default.ensures)

pub returns-in_default-kind_of : goal.returns-in_default-kind_of
returns-in_default-kind_of c =
    let s = c.in-Some.ensures in
    named_lacks_first IsKind IsNaming variable_of ShapeRule _ (other_kind c.in-Some.word _ _ s.2 (sym c.in_default-kind_of.is ∙ c.kind_of.ensures))

pub returns-in_default-name_at : goal.returns-in_default-name_at
returns-in_default-name_at c =
    let s = c.in-Some.ensures in
    lacks_from s.2 (named_lacks_name IsKind IsNaming variable_of ShapeRule c.in-Some.word _ _ _ c.in_default-name_at.ensures)

pub returns-in_default-2 : goal.returns-in_default-2
returns-in_default-2 c =
    let r = c.args.reader in
    let s = c.in-Some.ensures in
    let n = c.in-Some-name_at.ensures in
    let stands = n.1 in
    lacks_from (two_at r c.args.at s.2 stands.2)
    (named_lacks IsKind IsNaming variable_of ShapeRule c.in-Some.word _ _ c.in-Some-name_at._word _ _ (lacking ShapeRule Never r (c.args.at + 2) _ c.in_default-2.is c.in_ok-shape.ensures))

pub returns : goal.returns
returns c =
    let r = c.args.reader in
    let s = c.in-Some.ensures in
    let n = c.in-Some-name_at.ensures in
    let stands = n.1 in
    let kind = sym c.in-Some-kind_of.is ∙ c.kind_of.ensures in
    let f = reading ShapeRule Never r (c.args.at + 2) _ c.in-Some-2.shape c.in-Some-2.is c.in_ok-shape.ensures in (
      f.0,
      found_as (same_variable c.in-Some.word c.in-Some-2.shape.tree c.start_at.ensures c.in_ok-name.ensures kind)
          (found_from (two_at r c.args.at s.2 stands.2)
          (named_found IsKind IsNaming variable_of ShapeRule c.in-Some.word _ _ c.in-Some-name_at._word _ _ (c.in-Some-kind_of.kind, sym kind) n.0 f.1)),
    )
