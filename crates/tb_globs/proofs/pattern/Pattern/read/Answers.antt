use Rattle.std.proofs.Common.{◌≡◌, ◌∙◌, ap, sym, true, false}
use Rattle.std.specs.Prelude.{string_bytes}
use Rattle.std.proofs.lemmas.Result.{err_from_is_err_and}
use Rattle.tb_text.specs.Paths.{is_path, path_text}
use Rattle.tb_globs.specs.Fronts.{names_of}
use Rattle.tb_globs.proofs.Leading.{front_wrong, parts_read}
use Rattle.tb_globs.proofs.pattern.Pattern.read.Goals as goal

pub returns-in_err-folder-clause-bad : goal.returns-in_err-folder-clause-bad
returns-in_err-folder-clause-bad c = λ e.
    let own : is_path (string_bytes c.path.inside.text) ≡ true = c.path.invariant in
    let valid : is_path c.in_ok-path.path ≡ true = ap is_path (sym c.path.view_is) ∙ own in
    let p = err_from_is_err_and c.from_residual-in_err-folder.result c.from_residual-in_err-folder.ensures.1 in
    let bad : is_path (path_text (names_of c.as_slice.result.now)) ≡ false = c.in_err-folder.ensures.bad (cc (e, p.1, p.2)) in
    absurd (front_wrong c.args.base.now c.args.text.now c.in_ok-path.path c.as_slice.result.now valid (c.as_slice.ensures ∙ c.in-Ok.ensures) bad)

pub invariant_of-result : goal.invariant_of-result
invariant_of-result c =
    let own : is_path (string_bytes c.path.inside.text) ≡ true = c.path.invariant in
    let valid : is_path c.in_ok-path.path ≡ true = ap is_path (sym c.path.view_is) ∙ own in
    rw (c.in_ok-clone.ensures.cases, c.in-Ok-copy_of.ensures)
    (parts_read c.args.base.now c.args.text.now c.in_ok-path.path c.in-Ok.parts valid c.in_ok-path.ensures.ok c.in-Ok.ensures c.as_slice.result.now c.as_slice.ensures c.in_ok-folder.folder c.in_ok-folder.ensures.ok)
