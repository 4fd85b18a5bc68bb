use Rattle.std.proofs.Common.{true, false, Bool, subst, sym}
use Rattle.std.specs.Prelude.{Option, None}
use Rattle.tb_tree.specs.declared.exprs.Expr.{Expr}
use Rattle.tb_tree.specs.Longest.{Found}
use Rattle.tb_parse_type.specs.Reading.{rest}
use Rattle.tb_parse_body.specs.Rules.{Deep, DefaultUpto, InExpr}
use Rattle.tb_parse_body.proofs.Annotations.{default_optional, default_given}
use Rattle.tb_parse_body.proofs.nests.Grammar.default_at.Goals as goal

pub returns-then-optional : goal.returns-then-optional
returns-then-optional g c =
    let xs = rest c.args.self.now.reader c.args.at in
    (c.requires.within, subst (λ (o : Bool). Found {X = Deep (Option Expr)} (DefaultUpto o c.args.limit) (InExpr true) xs (None, 0) xs) (sym c.if-optional.true) (default_optional c.args.limit xs))
