use Rattle.std.proofs.Common.{arith, ◌+◌, ◌-◌, ℕ, List}
use Rattle.tb_tree.specs.declared.exprs.Expr.TheVariants as expr
use Rattle.tb_tree.specs.declared.exprs.Expr.{Expr}
use Rattle.tb_tree.specs.Longest.{Never}
use Rattle.tb_tree.proofs.Ends.{found_from, found_as, lacks_from, ap_both}
use Rattle.tb_parse_body.specs.Rules.{Deep, SpansUpto}
use Rattle.tb_parse_body.proofs.PrimaryFronts.{primary_template, primary_lacks_spans}
use Rattle.tb_parse_body.proofs.Sequences.{lacking, reading}
use Rattle.tb_parse_body.proofs.nests.Grammar.template_at.Goals as goal

pub returns-in_default : goal.returns-in_default
returns-in_default g c =
    let n = lacking (SpansUpto (c.args.limit - 1)) Never c.args.self.now.reader (c.args.at + 1) _ c.in_default.is c.in_ok-spans.ensures in
    lacks_from c.requires.stands.2 (primary_lacks_spans c.args.limit _ _ n)

pub returns : goal.returns
returns g c =
    let s = c.in-Some.spans in
    let f = reading (SpansUpto (c.args.limit - 1)) Never c.args.self.now.reader (c.args.at + 1) _ s c.in-Some.is c.in_ok-spans.ensures in (
      f.0,
      found_from c.requires.stands.2
          (found_as (ap_both (λ (o : ℕ) (t : List ℕ). let x : Deep Expr = (expr.Template o t s.tree, s.depth + 1) in x) c.start_at.ensures c.in_ok-text_at.ensures)
          (primary_template c.args.limit _ _ c.requires.some f.1)),
    )
