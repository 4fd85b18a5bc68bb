use Rattle.std.proofs.Common.{arith, ap, ◌∙◌, ◌+◌, sym, ℕ, List, true}
use Rattle.tb_tree.specs.declared.exprs.Prop.{Prop}
use Rattle.tb_tree.specs.declared.exprs.Prop.TheVariants as prop
use Rattle.tb_tree.specs.declared.exprs.Expr.{Expr}
use Rattle.tb_tree.proofs.Ends.{found_from, found_as, lacks_from, ap_both}
use Rattle.tb_parse_body.specs.Rules.{Deep, ExprUpto, InExpr}
use Rattle.tb_parse_body.proofs.Exprlists.{valued_found, valued_lacks, valued_lacks_colon, valued_lacks_key, keyed, unkeyed, two_at}
use Rattle.tb_parse_body.proofs.Sequences.{lacking, reading}
use Rattle.tb_parse_body.proofs.nests.Grammar.valued_prop_at.Goals as goal

pub overflow_add-at : goal.overflow_add-at
overflow_add-at g c = let k = keyed c.args.self.now.reader c.args.at _ _ c.in-Some.is c.in_ok-key.ensures in omega (arith, k.1.1)

pub returns-in_default : goal.returns-in_default
returns-in_default g c = valued_lacks_key c.args.limit _ (unkeyed c.args.self.now.reader c.args.at _ c.in_default.is c.in_ok-key.ensures)

pub returns-then-not-is_mark : goal.returns-then-not-is_mark
returns-then-not-is_mark g c =
    let k = keyed c.args.self.now.reader c.args.at _ _ c.in-Some.is c.in_ok-key.ensures in
    lacks_from k.1.2 (valued_lacks_colon c.args.limit c.if-not-is_mark.ensures)

pub returns-in_default-2 : goal.returns-in_default-2
returns-in_default-2 g c =
    let r = c.args.self.now.reader in
    let k = keyed r c.args.at _ _ c.in-Some.is c.in_ok-key.ensures in
    let n = lacking (ExprUpto true c.args.limit) (InExpr true) r (c.args.at + 2) _ c.in_default-2.is c.in_ok-value.ensures in
    lacks_from (two_at r c.args.at k.1.2 c.if-not-is_mark.ensures.2) (valued_lacks c.args.limit _ n)

pub returns : goal.returns
returns g c =
    let r = c.args.self.now.reader in
    let k = keyed r c.args.at _ _ c.in-Some.is c.in_ok-key.ensures in
    let f = reading (ExprUpto true c.args.limit) (InExpr true) r (c.args.at + 2) _ c.in-Some-2.value c.in-Some-2.is c.in_ok-value.ensures in (
      f.0,
      found_from (two_at r c.args.at k.1.2 c.if-not-is_mark.ensures.2)
          (found_as (ap_both (λ (o : ℕ) (v : Expr). let x : Deep Prop = (prop.Valued o c.in-Some.key v, c.in-Some-2.value.depth) in x) (c.start_at.ensures ∙ sym k.3) c.in_ok-new.ensures)
          (valued_found c.args.limit _ k.2 f.1)),
    )
