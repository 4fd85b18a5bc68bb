use Rattle.std.proofs.Common.{refl}
use Rattle.tb_tree.specs.declared.words.Word.TheVariants as w
use Rattle.tb_tree.specs.Longest.{Never}
use Rattle.tb_tree.proofs.Ends.{found_as, found_from, lacks_from}
use Rattle.tb_parse_type.specs.Rules.{Then}
use Rattle.tb_parse_file.specs.Rules.{BasesRule}
use Rattle.tb_parse_file.specs.DeclRules.{IsFirst, IsTypeNaming, class_of, BracedMembersRule}
use Rattle.tb_parse_file.proofs.DeclNames.{named_found, named_lacks, named_lacks_first, named_lacks_name, not_first, same_class, class_rest_found, class_rest_lacks}
use Rattle.tb_parse_file.proofs.PartReadings.{lacking, reading, two_at}
use Rattle.tb_parse_file.proofs.decl_members.class_at.Goals as goal

pub returns-then-not-is_word : goal.returns-then-not-is_word
returns-then-not-is_word c =
    named_lacks_first (IsFirst w.Class) IsTypeNaming class_of (Then (BasesRule w.Implements) BracedMembersRule) _ (not_first w.Class _ c.if-not-is_word.ensures)

pub returns-then-not-has_type_name : goal.returns-then-not-has_type_name
returns-then-not-has_type_name c =
    lacks_from c.if-not-is_word.ensures.2 (named_lacks_name (IsFirst w.Class) IsTypeNaming class_of (Then (BasesRule w.Implements) BracedMembersRule) w.Class _ _ _ c.if-not-has_type_name.ensures)

pub returns-in_default : goal.returns-in_default
returns-in_default c =
    let r = c.args.reader in
    let s = c.if-not-has_type_name.ensures in
    let stands = s.2 in
    let l = lacking BracedMembersRule Never r c.in_ok-bases.bases.next _ c.in_default.is c.in_ok-members.ensures in
    lacks_from (two_at r c.args.at c.if-not-is_word.ensures.2 stands.2)
    (named_lacks (IsFirst w.Class) IsTypeNaming class_of (Then (BasesRule w.Implements) BracedMembersRule) w.Class _ _ s.0 _ _ (class_rest_lacks c.in_ok-bases.ensures.1 l))

pub returns : goal.returns
returns c =
    let r = c.args.reader in
    let s = c.if-not-has_type_name.ensures in
    let stands = s.2 in
    let f = reading BracedMembersRule Never r c.in_ok-bases.bases.next _ c.in-Some.members c.in-Some.is c.in_ok-members.ensures in (
      f.0,
      found_as (same_class c.in_ok-bases.bases.tree c.in-Some.members.tree c.start_at.ensures c.in_ok-name.ensures)
          (found_from (two_at r c.args.at c.if-not-is_word.ensures.2 stands.2)
          (named_found (IsFirst w.Class) IsTypeNaming class_of (Then (BasesRule w.Implements) BracedMembersRule) w.Class _ _ s.0 _ _ refl s.1 (class_rest_found c.in_ok-bases.ensures.1 f.1))),
    )
