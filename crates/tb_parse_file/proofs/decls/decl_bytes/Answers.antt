use Rattle.std.proofs.Common.{sym, subst}
use Rattle.tb_parse_file.specs.Decls.{HasDeclFault, no_text}
use Rattle.tb_parse_file.proofs.decls.decl_bytes.Goals as goal

pub returns-in-Err : goal.returns-in-Err
returns-in-Err c = subst (λ f. HasDeclFault c.args.text.now f) (sym c.finding.ensures) (no_text c.in-Err.ensures.cases.0)
