use Rattle.std.proofs.Common.{sym, subst}
use Rattle.tb_parse_type.specs.declared.reader.Reader.{Reader}
use Rattle.tb_parse_file.specs.Reading.{ReadsAll}
use Rattle.tb_parse_file.specs.Files.{HasFault}
use Rattle.tb_parse_file.proofs.Sources.{fault_at}
use Rattle.tb_parse_file.proofs.read_text.Goals as goal

pub returns : goal.returns
returns c =
    let r : Reader = record { alloc = c.args.alloc; tokens = c.as_slice.result; text = c.without_mark-text.result } in
    let stop = subst (λ o. ReadsAll r o) c.in-StopsAt.is c.in_ok-items.ensures in
    subst (λ f. HasFault c.args.text.now f) (sym c.finding.ensures)
    (fault_at c.args.text.now c.without_mark-text.result.now c.in_ok-tokens.tokens c.as_slice.result.now c.in-StopsAt.at c.utf8.text c.without_mark-text.ensures c.as_slice.ensures c.in_ok-tokens.ensures.all stop)
