use Rattle.std.proofs.Common.{subst, arith}
use Rattle.tb_scan.specs.Numbers.{IsNumber, IsLongestFront}
use Rattle.tb_scan.specs.Tokens.{IsGlueFor}
use Rattle.tb_scan.proofs.Reading as r
use Rattle.tb_scan.proofs.fronts.number_front.Goals as goal

pub range_from-requires : goal.range_from-requires
range_from-requires c =
    let n = c.number_len-length.result in
    λ _. r.number_cut c.args.text.now n c.utf8.text (subst (λ x. IsLongestFront IsNumber x n) c.as_bytes.ensures.value c.number_len-length.ensures)

pub returns-then-glued-eq0 : goal.returns-then-glued-eq0
returns-then-glued-eq0 c = λ opened.
    let text = c.args.text.now in
    let n = c.number_len-length.result in
    r.number_reads opened text n c.glue_len-glued.result c.utf8.text c.requires (subst (λ x. IsLongestFront IsNumber x n) c.as_bytes.ensures.value c.number_len-length.ensures)
    (subst (λ x. IsGlueFor x c.glue_len-glued.result) c.range_from.ensures.value c.glue_len-glued.ensures) c.if-glued-eq0.true

pub returns-else-glued-eq0 : goal.returns-else-glued-eq0
returns-else-glued-eq0 c = λ opened.
    let text = c.args.text.now in
    let n = c.number_len-length.result in
    r.glued_reads opened text n c.glue_len-glued.result c.utf8.text c.requires (subst (λ x. IsLongestFront IsNumber x n) c.as_bytes.ensures.value c.number_len-length.ensures)
    (subst (λ x. IsGlueFor x c.glue_len-glued.result) c.range_from.ensures.value c.glue_len-glued.ensures) (omega (arith, c.if-glued-eq0.false))
