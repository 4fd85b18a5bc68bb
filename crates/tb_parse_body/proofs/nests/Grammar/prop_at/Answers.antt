use Rattle.std.proofs.Common.{arith, ℕ, List, true, sym}
use Rattle.tb_tree.specs.declared.exprs.Prop.{Prop}
use Rattle.tb_tree.specs.declared.exprs.Prop.TheVariants as prop
use Rattle.tb_tree.proofs.Ends.{found_from, found_as, lacks_from, ap_both}
use Rattle.tb_parse_body.specs.Rules.{Deep, ValuedPropUpto, InExpr}
use Rattle.tb_parse_body.proofs.Exprlists.{prop_valued, prop_short, prop_lacks}
use Rattle.tb_parse_body.proofs.Sequences.{lacking, reading}
use Rattle.tb_parse_body.proofs.nests.Grammar.prop_at.Goals as goal

pub returns-in-Some : goal.returns-in-Some
returns-in-Some g c =
    let f = reading (ValuedPropUpto c.args.limit) (InExpr true) c.args.self.now.reader c.args.at _ c.in-Some.valued c.in-Some.is c.in_ok-valued.ensures in
    (f.0, prop_valued c.args.limit f.1)

pub returns-in_default-name_at : goal.returns-in_default-name_at
returns-in_default-name_at g c =
    let n = lacking (ValuedPropUpto c.args.limit) (InExpr true) c.args.self.now.reader c.args.at _ c.in_default.is c.in_ok-valued.ensures in
    prop_lacks c.args.limit n c.in_default-name_at.ensures

pub returns : goal.returns
returns g c =
    let r = c.args.self.now.reader in
    let n = lacking (ValuedPropUpto c.args.limit) (InExpr true) r c.args.at _ c.in_default.is c.in_ok-valued.ensures in
    let stands = c.in-Some-name_at.ensures in (
      omega (arith, stands.1.0),
      found_from stands.1.2
          (found_as (ap_both (λ (o : ℕ) (s : List ℕ). let x : Deep Prop = (prop.Short o s, 0) in x) c.start_at.ensures c.in_ok-text_at.ensures)
          (prop_short c.args.limit stands.0 (lacks_from (sym stands.1.2) n))),
    )
