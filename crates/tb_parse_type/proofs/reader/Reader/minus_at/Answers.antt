use Rattle.std.proofs.Common.{arith, List, ℕ, true}
use Rattle.tb_tree.specs.declared.types.TypeExpr.{TypeExpr}
use Rattle.tb_tree.specs.declared.types.TypeExpr.TheVariants as t
use Rattle.tb_tree.proofs.Ends.{found_from, found_as, lacks_from, ap_both}
use Rattle.tb_parse_type.specs.Rules.{Counted}
use Rattle.tb_parse_type.proofs.Atoms.{atom_minus, atom_lacks_minus}
use Rattle.tb_parse_type.proofs.Readings.{two}
use Rattle.tb_parse_type.proofs.reader.Reader.minus_at.Goals as goal

pub returns-then-not-has_positive : goal.returns-then-not-has_positive
returns-then-not-has_positive c = lacks_from c.requires.stands.2 (atom_lacks_minus c.args.limits _ _ (λ w o p zs e. c.if-not-has_positive.ensures w o p zs e))

pub returns : goal.returns
returns c =
    let h = c.if-not-has_positive.ensures in
    let stands = h.0 in (
      omega (arith, stands.0),
      found_from (two c.requires.stands.2 stands.2)
          (found_as (ap_both (λ (o : ℕ) (w : List ℕ). let x : Counted TypeExpr = (t.Integer o true w, 1, 1) in x) c.start_at.ensures c.in_ok-digits.ensures)
          (atom_minus c.args.limits _ _ _ _ c.requires.own c.requires.depth h.1)),
    )
