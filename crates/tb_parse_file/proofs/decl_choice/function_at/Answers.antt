use Rattle.std.proofs.Common.{◌+◌, refl}
use Rattle.tb_tree.specs.declared.words.Word.TheVariants as w
use Rattle.tb_tree.specs.Longest.{Never}
use Rattle.tb_tree.proofs.Ends.{found_as, found_from, lacks_from}
use Rattle.tb_parse_file.specs.DeclRules.{IsFirst, IsNaming, function_of, SignatureRule}
use Rattle.tb_parse_file.proofs.DeclNames.{named_found, named_lacks, named_lacks_first, named_lacks_name, not_first, same_function}
use Rattle.tb_parse_file.proofs.PartReadings.{lacking, reading, two_at}
use Rattle.tb_parse_file.proofs.decl_choice.function_at.Goals as goal

pub returns-then-not-is_word : goal.returns-then-not-is_word
returns-then-not-is_word c = named_lacks_first (IsFirst w.Function) IsNaming function_of SignatureRule _ (not_first w.Function _ c.if-not-is_word.ensures)

pub returns-in_default : goal.returns-in_default
returns-in_default c = lacks_from c.if-not-is_word.ensures.2 (named_lacks_name (IsFirst w.Function) IsNaming function_of SignatureRule w.Function _ _ _ c.in_default.ensures)

pub returns-in_default-2 : goal.returns-in_default-2
returns-in_default-2 c =
    let r = c.args.reader in
    let n = c.in-Some.ensures in
    let stands = n.1 in
    lacks_from (two_at r c.args.at c.if-not-is_word.ensures.2 stands.2)
    (named_lacks (IsFirst w.Function) IsNaming function_of SignatureRule w.Function _ _ c.in-Some._word _ _ (lacking SignatureRule Never r (c.args.at + 2) _ c.in_default-2.is c.in_ok-signature.ensures))

pub returns : goal.returns
returns c =
    let r = c.args.reader in
    let n = c.in-Some.ensures in
    let stands = n.1 in
    let f = reading SignatureRule Never r (c.args.at + 2) _ c.in-Some-2.signature c.in-Some-2.is c.in_ok-signature.ensures in (
      f.0,
      found_as (same_function c.in-Some-2.signature.tree.0 c.in-Some-2.signature.tree.1 c.start_at.ensures c.in_ok-name.ensures c.new.ensures)
          (found_from (two_at r c.args.at c.if-not-is_word.ensures.2 stands.2)
          (named_found (IsFirst w.Function) IsNaming function_of SignatureRule w.Function _ _ c.in-Some._word _ _ refl n.0 f.1)),
    )
