use Rattle.std.proofs.Common.{arith, sym, subst, ◌∙◌}
use Rattle.tb_tree.proofs.Ends.{found_from}
use Rattle.tb_parse_type.proofs.Members.{head_read_only, head_key}
use Rattle.tb_parse_type.proofs.Readings.{KeyAnswer, ModifiedAnswer, two_at}
use Rattle.tb_parse_type.proofs.reader.Reader.head_at.Goals as goal

pub returns-in-Some : goal.returns-in-Some
returns-in-Some c =
    let h = subst (λ o. ModifiedAnswer c.args.self.now c.args.at o) c.in-Some.is c.in_ok-key.ensures in
    let first = h.1 in
    let second = h.2 in (
      omega (arith, second.0),
      found_from (two_at c.args.self.now c.args.at first.2 second.2) (head_read_only _ _ _ h.0 _ h.3 (h.4 ∙ sym c.start_at.ensures)),
    )

pub returns : goal.returns
returns c =
    let none = subst (λ o. ModifiedAnswer c.args.self.now c.args.at o) c.in_default.is c.in_ok-key.ensures in
    let h = subst (λ o. KeyAnswer c.args.self.now c.args.at o) c.in-Some-2.is c.in_ok-key-2.ensures in
    let first = h.1 in (
      omega (arith, first.0),
      found_from first.2 (head_key _ h.0 _ h.2 (h.3 ∙ sym c.start_at-2.ensures) (λ s o z l zs e i. none s o z l zs e (first.2 ∙ i))),
    )
