use Rattle.std.proofs.Common.{arith, sym, subst, ◌+◌, List, Bool, true}
use Rattle.tb_tree.specs.declared.items.Spec.{Spec}
use Rattle.tb_tree.proofs.Ends.{found_as, both, under_both}
use Rattle.tb_parse_type.specs.Reading.{rest}
use Rattle.tb_parse_file.specs.Lists.{SpecRule, InSpecs}
use Rattle.tb_parse_file.specs.Rules.{InSpec}
use Rattle.tb_parse_file.proofs.ListReadings.{specs_separate}
use Rattle.tb_parse_file.proofs.NamedLists.{NamedSoFar, named_start, named_on, named_to_last, named_end, comma_falls}
use Rattle.tb_parse_file.proofs.PartReadings.{lacking, reading}
use Rattle.tb_parse_file.proofs.imports.spec_list_at.Goals as goal

pub loop-specs-init : goal.loop-specs-init
loop-specs-init c = record {
  within = c.requires;
  all = subst (λ (acc : List Spec). NamedSoFar (SpecRule c.args.imported c.args.type_only) InSpecs acc true (rest c.args.reader.now c.args.at) (rest c.args.reader.now c.args.at))
      (sym c.new-specs.ensures) (named_start (SpecRule c.args.imported c.args.type_only) InSpecs _);
}

pub returns-then-not-is_mark : goal.returns-then-not-is_mark
returns-then-not-is_mark c =
    let s = c.loop-specs in
    let f = reading (SpecRule c.args.imported c.args.type_only) InSpec c.args.reader.now s.next _ c.in-Some.part c.in-Some.is c.in_ok-part.ensures in (
      f.0,
      found_as (both c.in_ok-push.ensures.ok c.both-all_named.ensures)
          (named_to_last (specs_separate c.args.imported c.args.type_only) s.specs s.all_named _ _ _ s.invariant.all f.1 c.if-not-is_mark.ensures),
    )

pub loop-specs-smaller : goal.loop-specs-smaller
loop-specs-smaller c =
    let f = reading (SpecRule c.args.imported c.args.type_only) InSpec c.args.reader.now c.loop-specs.next _ c.in-Some.part c.in-Some.is c.in_ok-part.ensures in
    comma_falls _ f.1 c.if-not-is_mark.ensures.2

pub loop-specs-preserved : goal.loop-specs-preserved
loop-specs-preserved c =
    let s = c.loop-specs in
    let r = c.args.reader.now in
    let f = reading (SpecRule c.args.imported c.args.type_only) InSpec r s.next _ c.in-Some.part c.in-Some.is c.in_ok-part.ensures in
    record {
      within = omega (arith, c.if-not-is_mark.ensures.0);
      all = under_both (λ (acc : List Spec) (named : Bool). NamedSoFar (SpecRule c.args.imported c.args.type_only) InSpecs acc named (rest r c.args.at) (rest r (c.in-Some.part.next + 1)))
          c.in_ok-push.ensures.ok c.both-all_named.ensures
          (named_on (specs_separate c.args.imported c.args.type_only) s.specs s.all_named _ _ _ _ s.invariant.all f.1 c.if-not-is_mark.ensures.2);
    }

pub returns : goal.returns
returns c =
    let s = c.loop-specs in
    let none = lacking (SpecRule c.args.imported c.args.type_only) InSpec c.args.reader.now s.next _ c.in_default.is c.in_ok-part.ensures in
    (s.invariant.within, named_end s.specs s.all_named _ _ s.invariant.all none)
