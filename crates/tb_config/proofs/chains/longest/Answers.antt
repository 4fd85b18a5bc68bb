use Rattle.std.proofs.Common.{◌≡◌, ◌+◌, ◌-◌, suc, length, sym, ap, ◌∙◌, arith}
use Rattle.std.proofs.lemmas.Grind.{common_steps}
use Rattle.tb_config.specs.Bases.{bases_at}
use Rattle.tb_config.specs.Walks.{longest}
use Rattle.tb_config.proofs.Levels.{longest_ends, longest_on}
use Rattle.tb_config.proofs.Sets.{contains-keys}
use Rattle.tb_config.proofs.chains.longest.Goals as goal

pub returns-then-is_empty-clause-longest : goal.returns-then-is_empty-clause-longest
returns-then-is_empty-clause-longest c =
    let bases = bases_at c.args.tree.now in
    let next = c.in_ok-next.next in
    let none : length next.keys ≡ 0 = grind (arith, common_steps, c.is_empty.ensures, c.if-is_empty.true) in
    let ends = longest_ends bases (c.args.count - c.loop-i.i) c.loop-i.level.keys next.keys (λ p. sym (contains-keys next p) ∙ c.in_ok-next.ensures.bases p) none in
    omega (arith, c.loop-i.invariant.longest, ends)

pub loop-i-preserved : goal.loop-i-preserved
loop-i-preserved c =
    let bases = bases_at c.args.tree.now in
    let next = c.in_ok-next.next in
    let left = c.args.count - (c.loop-i.i + 1) in
    let more : c.args.count - c.loop-i.i ≡ suc left = omega arith in
    let some : length next.keys ≡ 0 → ⊥ = λ e. absurd (grind (arith, common_steps, c.is_empty.ensures, c.if-is_empty.false)) in
    let on = longest_on bases left c.loop-i.level.keys next.keys (λ p. sym (contains-keys next p) ∙ c.in_ok-next.ensures.bases p) some in
    let same = ap (λ n. longest bases n c.loop-i.level.keys) more in
    record {
      read = c.in_ok-next.ensures.read;
      kept = λ p h. c.in_ok-next.ensures.kept p (c.loop-i.invariant.kept p h);
      within = omega arith;
      longest = omega (arith, c.loop-i.invariant.longest, same, on);
    }
