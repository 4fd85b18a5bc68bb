use Rattle.std.proofs.Common.{List, ◌++◌, ◌∷◌, [], ap, sym, subst, ◌∙◌}
use Rattle.tb_tree.specs.declared.items.Base.{Base}
use Rattle.tb_tree.specs.Longest.{Never}
use Rattle.tb_tree.specs.Items.{IsBase}
use Rattle.tb_parse_type.specs.Reading.{rest}
use Rattle.tb_parse_file.specs.Declarations.{NextBaseRule}
use Rattle.tb_parse_file.proofs.Bases.{BasesSoFar, bases_start, bases_on, bases_end, list_lacks, next_falls}
use Rattle.tb_parse_file.proofs.PartReadings.{lacking, reading}
use Rattle.tb_parse_file.proofs.declarations.base_list_at.Goals as goal

pub returns-in_default : goal.returns-in_default
returns-in_default c = list_lacks (lacking IsBase Never c.args.reader.now c.args.at _ c.in_default.is c.in_ok-first.ensures)

pub loop-bases-init : goal.loop-bases-init
loop-bases-init c =
    let r = c.args.reader.now in
    let first = c.in-Some.first in
    let f = reading IsBase Never r c.args.at _ first c.in-Some.is c.in_ok-first.ensures in
    record {
      within = f.0;
      all = subst (λ (acc : List Base). BasesSoFar acc (rest r c.args.at) (rest r first.next)) (sym (c.in_ok-push.ensures.ok ∙ ap (λ (v : List Base). v ++ first.tree ∷ []) c.new-bases.ensures)) (bases_start f.1);
    }

pub loop-bases-smaller : goal.loop-bases-smaller
loop-bases-smaller c =
    let f = reading NextBaseRule Never c.args.reader.now c.loop-bases.next _ c.in-Some-2.base c.in-Some-2.is c.in_ok-base.ensures in
    next_falls f.1

pub loop-bases-preserved : goal.loop-bases-preserved
loop-bases-preserved c =
    let s = c.loop-bases in
    let r = c.args.reader.now in
    let x = c.in-Some-2.base in
    let f = reading NextBaseRule Never r s.next _ x c.in-Some-2.is c.in_ok-base.ensures in
    record {
      within = f.0;
      all = subst (λ (acc : List Base). BasesSoFar acc (rest r c.args.at) (rest r x.next)) (sym c.in_ok-push-2.ensures.ok) (bases_on s.bases _ _ s.invariant.all f.1);
    }

pub returns : goal.returns
returns c =
    let s = c.loop-bases in
    let n = lacking NextBaseRule Never c.args.reader.now s.next _ c.in_default-2.is c.in_ok-base.ensures in
    (s.invariant.within, bases_end s.bases _ _ s.invariant.all n)
