use Rattle.std.proofs.Common.{arith, refl, sym, ap, ◌≡◌, ◌∙◌, ◌+◌, ◌-◌, ◌≤◌, ◌<◌, max, ℕ}
use Rattle.tb_tree.specs.Longest.{Never}
use Rattle.tb_parse_body.specs.Links.{LinkUpto, strip}
use Rattle.tb_parse_body.proofs.Places.{lacking, reading, start_is}
use Rattle.tb_parse_body.proofs.Linking.{link_falls, link_as_number, links_lack_number}
use Rattle.tb_parse_body.proofs.Targets.{target_start, target_call, target_move, target_found, target_lacks, target_as, one_more, lacks_room}
use Rattle.tb_parse_body.proofs.nests.Grammar.stem_from.Goals as goal

pub loop-left-init : goal.loop-left-init
loop-left-init g c =
    let f = c.requires.first in
    let h = f.1 in
    record {
      within = f.0;
      base = f.0;
      shallow = h.derives.1;
      counted = omega arith;
      all = target_start c.args.limit c.start_at-start.result (c.start_at-start.ensures ∙ start_is c.args.self.now.reader c.args.at) h;
    }

pub returns-in_default : goal.returns-in_default
returns-in_default g c =
    let s = c.loop-left in
    let l = c.args.limit in
    let n = links_lack_number (l - 1) c.is_number-number.ensures (lacking (LinkUpto c.is_number-number.result (l - 1)) Never c.args.self.now.reader s.left.next _ c.in_default.is c.in_ok-link.ensures) in
    record {
      within = s.invariant.base;
      found = λ t. target_found l c.start_at-start.result s.left.tree s.left.depth s.calls (strip s.calls s.left.tree) refl t s.invariant.all (λ room. n);
      none = λ t. target_lacks l c.start_at-start.result s.left.tree s.left.depth s.calls (strip s.calls s.left.tree) refl t s.invariant.all (λ room. n);
    }

pub loop-left-smaller-then-call : goal.loop-left-smaller-then-call
loop-left-smaller-then-call g c =
    let l = c.args.limit in
    let f = reading (LinkUpto c.is_number-number.result (l - 1)) Never c.args.self.now.reader c.loop-left.left.next _ c.in-Some.link c.in-Some.is c.in_ok-link.ensures in
    link_falls c.is_number-number.result (l - 1) f.1

pub loop-left-preserved-then-call : goal.loop-left-preserved-then-call
loop-left-preserved-then-call g c =
    let s = c.loop-left in
    let l = c.args.limit in
    let f = reading (LinkUpto c.is_number-number.result (l - 1)) Never c.args.self.now.reader s.left.next _ c.in-Some.link c.in-Some.is c.in_ok-link.ensures in
    let h = f.1 in
    let k = link_as_number (l - 1) c.is_number-number.ensures h in
    let deeper : c.larger.result + 1 ≡ max s.left.depth c.in-Some.link.depth + 1 = ap (λ (n : ℕ). n + 1) c.larger.ensures in
    record {
      within = f.0;
      base = s.invariant.base;
      shallow = omega (arith, deeper, h.derives.2, c.loop-left-test.true);
      counted = omega (arith, deeper, s.invariant.counted);
      all = target_as l c.start_at-start.result c.in_ok-linked.ensures deeper (one_more s.calls) refl
          (target_call l c.start_at-start.result s.left.tree s.left.depth s.calls c.loop-left-test.true (sym c.is_call-call.ensures ∙ c.if-call.true) s.invariant.all k);
    }

pub loop-left-smaller : goal.loop-left-smaller
loop-left-smaller g c =
    let l = c.args.limit in
    let f = reading (LinkUpto c.is_number-number.result (l - 1)) Never c.args.self.now.reader c.loop-left.left.next _ c.in-Some.link c.in-Some.is c.in_ok-link.ensures in
    link_falls c.is_number-number.result (l - 1) f.1

pub loop-left-preserved : goal.loop-left-preserved
loop-left-preserved g c =
    let s = c.loop-left in
    let l = c.args.limit in
    let f = reading (LinkUpto c.is_number-number.result (l - 1)) Never c.args.self.now.reader s.left.next _ c.in-Some.link c.in-Some.is c.in_ok-link.ensures in
    let h = f.1 in
    let k = link_as_number (l - 1) c.is_number-number.ensures h in
    let deeper : c.larger.result + 1 ≡ max s.left.depth c.in-Some.link.depth + 1 = ap (λ (n : ℕ). n + 1) c.larger.ensures in
    record {
      within = f.0;
      base = f.0;
      shallow = omega (arith, deeper, h.derives.2, c.loop-left-test.true);
      counted = omega arith;
      all = target_as l c.start_at-start.result c.in_ok-linked.ensures deeper refl deeper
          (target_move l c.start_at-start.result s.left.tree s.left.depth s.calls c.loop-left-test.true (sym c.is_call-call.ensures ∙ c.if-call.false) s.invariant.all k);
    }

pub returns : goal.returns
returns g c =
    let s = c.loop-left in
    let l = c.args.limit in
    let deep : l ≤ s.left.depth = omega (arith, c.loop-left-test.false) in
    record {
      within = s.invariant.base;
      found = λ t. target_found l c.start_at-start.result s.left.tree s.left.depth s.calls (strip s.calls s.left.tree) refl t s.invariant.all (lacks_room _ l s.left.depth deep);
      none = λ t. target_lacks l c.start_at-start.result s.left.tree s.left.depth s.calls (strip s.calls s.left.tree) refl t s.invariant.all (lacks_room _ l s.left.depth deep);
    }
