use Rattle.std.proofs.Common.{sym, subst}
use Rattle.tb_parse_type.specs.declared.reader.Reader.{Reader}
use Rattle.tb_parse_file.specs.DeclReading.{ReadsAll}
use Rattle.tb_parse_file.specs.Decls.{HasDeclFault}
use Rattle.tb_parse_file.proofs.DeclSources.{surface_reads, decl_fault_at}
use Rattle.tb_parse_file.proofs.decls.decl_text.Goals as goal

pub returns-in-Items : goal.returns-in-Items
returns-in-Items c =
    let r : Reader = record { alloc = c.args.alloc; tokens = c.as_slice.result; text = c.without_mark-text.result } in
    let all = subst (λ o. ReadsAll r o) c.in-Items.is c.in_ok-items.ensures in
    surface_reads c.args.text.now c.without_mark-text.result.now c.in_ok-tokens.tokens c.as_slice.result.now c.in-Items.items c.utf8.text c.without_mark-text.ensures c.as_slice.ensures c.in_ok-tokens.ensures.all all

pub returns : goal.returns
returns c =
    let r : Reader = record { alloc = c.args.alloc; tokens = c.as_slice.result; text = c.without_mark-text.result } in
    let stop = subst (λ o. ReadsAll r o) c.in-StopsAt.is c.in_ok-items.ensures in
    subst (λ f. HasDeclFault c.args.text.now f) (sym c.finding.ensures)
    (decl_fault_at c.args.text.now c.without_mark-text.result.now c.in_ok-tokens.tokens c.as_slice.result.now c.in-StopsAt.at c.utf8.text c.without_mark-text.ensures c.as_slice.ensures c.in_ok-tokens.ensures.all stop)
