use Rattle.std.specs.Prelude.{Bool, false}
use Rattle.tb_tree.specs.Shapes.{max_depth}
use Rattle.tb_tree.specs.Exprs.{Around, DerivesStmt}
use Rattle.tb_parse_type.specs.declared.reader.Reader.{Reader}
use Rattle.tb_parse_body.specs.Rules.{StmtUpto, InStmt}
use Rattle.tb_parse_body.proofs.Answering.{is_reading, has_no_reading, Within, Without}
use Rattle.tb_parse_body.proofs.Readings.{stmt_lacking, stmt_reading}
use Rattle.tb_parse_body.proofs.read_stmt.Goals as goal

abbrev alone : Bool → Around
alone in_body = record { in_body = in_body; in_loop = false; in_switch = false }

back : (in_body : Bool) → Within (StmtUpto (alone in_body) false max_depth) (DerivesStmt in_body)
back in_body a x d = (d.0, (d.1, d.2))

forth : (in_body : Bool) → Without (StmtUpto (alone in_body) false max_depth) (DerivesStmt in_body)
forth in_body a x depth u = (depth, u.0, u.1)

pub returns-in-Ok-Some-clause-found : goal.returns-in-Ok-Some-clause-found
returns-in-Ok-Some-clause-found c =
    let r : Reader = record { alloc = c.args.alloc; tokens = c.args.tokens; text = c.args.text } in
    let f = stmt_reading (alone c.args.in_body) max_depth r c.args.at _ c.in-Ok-Some.read c.in-Ok-Some.field-0-is c.in-Ok-Some.ensures in
    let g = f.0 in
    is_reading (back c.args.in_body) (forth c.args.in_body) c.args.tokens.now c.args.text.now c.args.at c.in-Ok-Some.read.next c.requires g.0 g.1

pub returns-in-Ok-None-clause-none : goal.returns-in-Ok-None-clause-none
returns-in-Ok-None-clause-none c _ =
    let r : Reader = record { alloc = c.args.alloc; tokens = c.args.tokens; text = c.args.text } in
    let n = stmt_lacking (alone c.args.in_body) max_depth r c.args.at _ c.in-Ok-None.field-0-is c.in-Ok-None.ensures in
    has_no_reading (back c.args.in_body) c.args.tokens.now c.args.text.now c.args.at n
