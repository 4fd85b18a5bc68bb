use Rattle.std.specs.Prelude.{true}
use Rattle.tb_tree.specs.Shapes.{max_depth}
use Rattle.tb_tree.specs.Exprs.{DerivesExpr}
use Rattle.tb_parse_type.specs.declared.reader.Reader.{Reader}
use Rattle.tb_parse_body.specs.Rules.{ExprUpto, InExpr}
use Rattle.tb_parse_body.proofs.Answering.{is_reading, has_no_reading, Within, Without}
use Rattle.tb_parse_body.proofs.Readings.{lacking, reading}
use Rattle.tb_parse_body.proofs.read_expr.Goals as goal

back : Within (ExprUpto true max_depth) DerivesExpr
back a x d = (d.0, (d.1, d.2))

forth : Without (ExprUpto true max_depth) DerivesExpr
forth a x depth u = (depth, u.0, u.1)

pub returns-in-Ok-Some-clause-found : goal.returns-in-Ok-Some-clause-found
returns-in-Ok-Some-clause-found c =
    let r : Reader = record { alloc = c.args.alloc; tokens = c.args.tokens; text = c.args.text } in
    let f = reading (ExprUpto true max_depth) (InExpr true) r c.args.at _ c.in-Ok-Some.read c.in-Ok-Some.field-0-is c.in-Ok-Some.ensures in
    is_reading back forth c.args.tokens.now c.args.text.now c.args.at c.in-Ok-Some.read.next c.requires f.0 f.1

pub returns-in-Ok-None-clause-none : goal.returns-in-Ok-None-clause-none
returns-in-Ok-None-clause-none c _ =
    let r : Reader = record { alloc = c.args.alloc; tokens = c.args.tokens; text = c.args.text } in
    let n = lacking (ExprUpto true max_depth) (InExpr true) r c.args.at _ c.in-Ok-None.field-0-is c.in-Ok-None.ensures in
    has_no_reading back c.args.tokens.now c.args.text.now c.args.at n
