use Rattle.std.proofs.Common.{arith, refl, sym, ap, subst, ◌≡◌, ◌∙◌, ◌+◌, ◌-◌, ◌≤◌, ◌<◌, max, ℕ, Bool, List}
use Rattle.tb_tree.specs.Longest.{Never, Lacks, Found}
use Rattle.tb_tree.specs.Sym.{Sym}
use Rattle.tb_tree.specs.Exprs.{is_number}
use Rattle.tb_tree.specs.declared.exprs.Expr.{Expr}
use Rattle.tb_parse_type.specs.Reading.{rest}
use Rattle.tb_parse_body.specs.Links.{LinkUpto, linked}
use Rattle.tb_parse_body.proofs.Places.{lacking, reading, start_is}
use Rattle.tb_parse_body.proofs.Linking.{chain_start, chain_on, chain_end, chain_as_far, link_falls, link_as_number, links_lack_number}
use Rattle.tb_parse_body.proofs.nests.Grammar.chain_from.Goals as goal

pub loop-left-init : goal.loop-left-init
loop-left-init g c =
    let r = c.args.self.now.reader in
    let f = c.requires.first in
    let h = f.1 in
    record {
      within = f.0;
      shallow = h.derives.1;
      all = chain_start c.args.limit c.start_at-start.result (c.start_at-start.ensures ∙ start_is r c.args.at) h;
    }

pub returns-in_default : goal.returns-in_default
returns-in_default g c =
    let s = c.loop-left in
    let r = c.args.self.now.reader in
    let l = c.args.limit in
    let n = lacking (LinkUpto c.is_number-number.result (l - 1)) Never r s.left.next _ c.in_default.is c.in_ok-link.ensures in
    (s.invariant.within, chain_end l c.start_at-start.result s.left.tree s.left.depth s.invariant.shallow s.invariant.all (λ room. links_lack_number (l - 1) c.is_number-number.ensures n))

pub loop-left-smaller : goal.loop-left-smaller
loop-left-smaller g c =
    let l = c.args.limit in
    let f = reading (LinkUpto c.is_number-number.result (l - 1)) Never c.args.self.now.reader c.loop-left.left.next _ c.in-Some.link c.in-Some.is c.in_ok-link.ensures in
    link_falls c.is_number-number.result (l - 1) f.1

pub loop-left-preserved : goal.loop-left-preserved
loop-left-preserved g c =
    let s = c.loop-left in
    let r = c.args.self.now.reader in
    let l = c.args.limit in
    let f = reading (LinkUpto c.is_number-number.result (l - 1)) Never r s.left.next _ c.in-Some.link c.in-Some.is c.in_ok-link.ensures in
    let h = f.1 in
    let k = link_as_number (l - 1) c.is_number-number.ensures h in
    let deeper : c.larger.result + 1 ≡ max s.left.depth c.in-Some.link.depth + 1 = ap (λ (n : ℕ). n + 1) c.larger.ensures in
    record {
      within = f.0;
      shallow = omega (arith, deeper, h.derives.2, c.loop-left-test.true);
      all = chain_as_far l c.start_at-start.result c.in_ok-linked.ensures deeper
          (chain_on l c.start_at-start.result s.left.tree s.left.depth c.loop-left-test.true s.invariant.all k);
    }

pub returns : goal.returns
returns g c =
    let s = c.loop-left in
    (s.invariant.within, chain_end c.args.limit c.start_at-start.result s.left.tree s.left.depth s.invariant.shallow s.invariant.all (λ room. absurd (omega (arith, room, c.loop-left-test.false))))
