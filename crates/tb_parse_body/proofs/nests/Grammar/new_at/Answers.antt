use Rattle.std.proofs.Common.{arith, ap, ◌∙◌, ◌+◌, ◌-◌, ◌∷◌, ℕ, List}
use Rattle.tb_tree.specs.declared.exprs.Expr.TheVariants as expr
use Rattle.tb_tree.specs.declared.exprs.Expr.{Expr}
use Rattle.tb_tree.proofs.Ends.{found_from, found_as, found_left, lacks_from, ap_both}
use Rattle.tb_parse_type.specs.Reading.{start_at, text_at}
use Rattle.tb_parse_body.specs.Rules.{Deep}
use Rattle.tb_parse_body.proofs.PrimaryFronts.{primary_new, primary_lacks_new, primary_lacks_class_name, primary_lacks_class_open, three_at, new_of}
use Rattle.tb_parse_body.proofs.Exprlists.{two_at}
use Rattle.tb_parse_body.proofs.nests.Grammar.new_at.Goals as goal

pub returns-in_default : goal.returns-in_default
returns-in_default g c = lacks_from c.requires.stands.2 (primary_lacks_class_name c.args.limit _ _ _ c.in_default.ensures)

pub returns-then-not-is_mark : goal.returns-then-not-is_mark
returns-then-not-is_mark g c =
    let name = c.in-Some.ensures in
    lacks_from (two_at c.args.self.now.reader c.args.at c.requires.stands.2 name.1.2) (primary_lacks_class_open c.args.limit _ _ _ _ c.if-not-is_mark.ensures)

pub returns-then-not-is_mark-2 : goal.returns-then-not-is_mark-2
returns-then-not-is_mark-2 g c =
    let name = c.in-Some.ensures in
    lacks_from (three_at c.args.self.now.reader c.args.at c.requires.stands.2 name.1.2 c.if-not-is_mark.ensures.2) (primary_lacks_new c.args.limit _ _ _ _ _ _ c.in_ok-arguments.ensures.1 c.if-not-is_mark-2.ensures)

pub returns : goal.returns
returns g c =
    let name = c.in-Some.ensures in
    let e = c.in_ok-arguments.arguments in (
      omega (arith, c.if-not-is_mark-2.ensures.0),
      found_from (three_at c.args.self.now.reader c.args.at c.requires.stands.2 name.1.2 c.if-not-is_mark.ensures.2)
          (found_as (ap_both (λ (o : ℕ) (t : List ℕ). new_of o t c.start_at-2.result (e.tree, e.depth)) c.start_at.ensures c.in_ok-name.ensures
          ∙ ap (λ (p : ℕ). new_of (start_at c.args.self.now.reader c.args.at) (text_at c.args.self.now.reader (c.args.at + 1)) p (e.tree, e.depth)) c.start_at-2.ensures)
          (primary_new c.args.limit _ _ _ _ _ _ _ _ c.requires.some name.0 (found_left c.if-not-is_mark-2.ensures.2 c.in_ok-arguments.ensures.1))),
    )
