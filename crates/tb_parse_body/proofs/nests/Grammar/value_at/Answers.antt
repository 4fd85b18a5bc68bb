use Rattle.std.proofs.Common.{◌+◌, ap, true}
use Rattle.std.specs.Prelude.{Option, Some}
use Rattle.tb_tree.specs.declared.exprs.Expr.{Expr}
use Rattle.tb_tree.proofs.Ends.{found_from, found_as}
use Rattle.tb_parse_body.specs.Rules.{Deep, ExprUpto, InExpr}
use Rattle.tb_parse_body.proofs.Annotations.{value_some, value_none, value_absent}
use Rattle.tb_parse_body.proofs.Sequences.{lacking, reading}
use Rattle.tb_parse_body.proofs.nests.Grammar.value_at.Goals as goal

pub returns-then-not-is_mark : goal.returns-then-not-is_mark
returns-then-not-is_mark g c = (c.requires.within, value_absent c.args.limit _ c.if-not-is_mark.ensures)

pub returns-in_default : goal.returns-in_default
returns-in_default g c =
    let s = c.if-not-is_mark.ensures in
    let n = lacking (ExprUpto true c.args.limit) (InExpr true) c.args.self.now.reader (c.args.at + 1) _ c.in_default.is c.in_ok-value.ensures in
    (c.requires.within, value_none c.args.limit _ s.2 n)

pub returns : goal.returns
returns g c =
    let s = c.if-not-is_mark.ensures in
    let f = reading (ExprUpto true c.args.limit) (InExpr true) c.args.self.now.reader (c.args.at + 1) _ c.in-Some.value c.in-Some.is c.in_ok-value.ensures in
    (f.0, found_from s.2 (found_as (ap (λ (x : Expr). let y : Deep (Option Expr) = (Some x, c.in-Some.value.depth) in y) c.in_ok-new.ensures) (value_some c.args.limit _ f.1)))
