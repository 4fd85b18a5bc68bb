use Rattle.std.proofs.Common.{ℕ, ◌≡◌, ◌+◌, ◌-◌, ◌<◌, arith, ap, refl, ◌∙◌}
use Rattle.tb_tree.specs.declared.exprs.Expr.{Expr}
use Rattle.tb_tree.specs.declared.exprs.Expr.TheVariants as expr
use Rattle.tb_tree.specs.declared.exprs.AssignOperator.TheVariants as assign
use Rattle.tb_tree.proofs.Ends.{found_left, found_as}
use Rattle.tb_parse_type.specs.Reading.{start_at}
use Rattle.tb_parse_body.proofs.ArrowParts.{default_name}
use Rattle.tb_parse_body.proofs.Defaults.{primary_lacks_depth, parens_found, never_valueless}
use Rattle.tb_parse_body.proofs.Sequences.{deep_as}
use Rattle.tb_parse_body.proofs.nests.Grammar.assigned_parens.Goals as goal

pub returns-then-param-limit : goal.returns-then-param-limit
returns-then-param-limit g c =
    let stands = c.requires.stands in
    let d = c.requires.default in
    let ps = c.requires.param in
    primary_lacks_depth c.args.limit _ d.0 d.1 d.2 d.4 d.6 stands.2 (default_name stands.2 d.7) ps.1 c.if-param-limit.true

pub returns-in_default : goal.returns-in_default
returns-in_default g c =
    let stands = c.requires.stands in
    let closes = c.requires.closes in
    let d = c.requires.default in
    let ps = c.requires.param in
    absurd (never_valueless (c.args.limit - 1) d.0 d.1 d.2 d.4 _ (default_name stands.2 d.7) (found_left closes.2 ps.1) c.in_default.is)

pub returns : goal.returns
returns g c =
    let r = c.args.self.now.reader in
    let stands = c.requires.stands in
    let closes = c.requires.closes in
    let d = c.requires.default in
    let ps = c.requires.param in
    let read = c.args.param.tree.0 in
    let v = c.in-Some.value in
    let small : c.args.param.depth + 1 < c.args.limit = omega (arith, c.if-param-limit.false) in
    let inner : c.in_ok-new-2.field-0 ≡ expr.Assign read.at (expr.Name read.at read.name) assign.Assign v =
    c.in_ok-new-2.ensures ∙ ap (λ (t : Expr). expr.Assign read.at t assign.Assign v) c.in_ok-new.ensures in
    let tree : expr.Parens c.start_at.result c.in_ok-new-2.field-0 ≡ expr.Parens (start_at r c.args.at) (expr.Assign read.at (expr.Name read.at read.name) assign.Assign v) =
    ap (λ (k : ℕ). expr.Parens k c.in_ok-new-2.field-0) c.start_at.ensures ∙ ap (λ (t : Expr). expr.Parens (start_at r c.args.at) t) inner in
    (omega (arith, closes.0), found_as (deep_as tree refl) (parens_found c.args.limit (start_at r c.args.at) d.0 d.1 d.2 d.4 _ d.6 stands.2 (default_name stands.2 d.7) (found_left closes.2 ps.1) small v c.in-Some.is))
