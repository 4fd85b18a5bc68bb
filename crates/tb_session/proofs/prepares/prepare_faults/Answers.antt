use Rattle.std.proofs.Common.{◌++◌, ◌∷◌, [], ◌∙◌, List, refl, ap, length, map}
use Rattle.std.specs.List.{concat}
use Rattle.tb_text.specs.Messages.{diag_line}
use Rattle.tb_text.specs.declared.findings.Diag.{Diag}
use Rattle.tb_session.specs.Reports.{last_line}
use Rattle.tb_session.proofs.Readying.{ready_faults}
use Rattle.tb_session.proofs.prepares.prepare_faults.Goals as goal

pub returns : goal.returns
returns c =
    ready_faults c.args.texts.now c.args.roots.now c.args.verbose _ c.args.diags.now c.args.status c.requires c.new.ensures
    (c.in_ok-faulted_report.ensures ∙ ap (λ (ds : List Diag). concat (map (λ fault. diag_line fault [] ++ 10 ∷ []) ds) ++ last_line 0 (length ds) 0) c.as_slice.ensures)
    refl c.in_ok-opening_alone.ensures refl refl
