use Rattle.std.proofs.Common.{Some, sym, ap, subst, ◌∙◌, true≢false}
use Rattle.std.proofs.lemmas.Result.{err_from_is_err_and}
use Rattle.serde_json.specs.View.{view}
use Rattle.tb_face.specs.Infos.{WellFormed, spelling}
use Rattle.tb_info.specs.Reading.{Fails}
use Rattle.tb_info.proofs.Again.{again, found_is}
use Rattle.tb_info.proofs.exact.exact.Goals as goal

pub returns-in_err-info-clause-only : goal.returns-in_err-info-clause-only
returns-in_err-info-clause-only c = λ i h same is.
    let p = err_from_is_err_and c.from_residual.result c.from_residual.ensures.1 in
    rw (p.1, p.2) (subst (Fails c.in_err-info.field-0.0) (again i (view c.args.value.now) h is) c.in_err-info.ensures)

pub returns-then-not-is_fit-clause-only : goal.returns-then-not-is_fit-clause-only
returns-then-not-is_fit-clause-only c = λ i h same is.
    let e = found_is i c.in_ok-info.info (view c.args.value.now) h is c.in_ok-info.ensures in
    let t = c.is_fit.ensures.1 (subst WellFormed (sym e) h) in
    absurd (true≢false (sym t ∙ c.if-not-is_fit.true))

pub returns-then-not-is_same-clause-only : goal.returns-then-not-is_same-clause-only
returns-then-not-is_same-clause-only c = λ i h same is.
    let e = found_is i c.in_ok-info.info (view c.args.value.now) h is c.in_ok-info.ensures in
    let t = c.is_same.ensures.1 (c.as_slice.ensures ∙ c.in_ok-text.ensures ∙ ap spelling e ∙ sym same) in
    absurd (true≢false (sym t ∙ c.if-not-is_same.true))

pub returns-clause-only : goal.returns-clause-only
returns-clause-only c = λ i h same is.
    let e = found_is i c.in_ok-info.info (view c.args.value.now) h is c.in_ok-info.ensures in
    ap Some (sym e)
