use Rattle.std.proofs.Common.{List, ◌++◌, ap, sym, ◌∙◌, codes}
use Rattle.std.specs.Prelude.{not}
use Rattle.tb_text.specs.Paths.{is_path}
use Rattle.tb_text.specs.declared.findings.Diag.{Diag}
use Rattle.tb_face.specs.Outputs.{output_text}
use Rattle.tb_plan.specs.Faults.{own_fault}
use Rattle.tb_plan.proofs.Loops.{three_pieces, three_tested}
use Rattle.tb_plan.proofs.outputs.add_stem_faults.Goals as goal

pub returns : goal.returns
returns c =
    three_pieces c.args.faults.now.items _ _ _ _ _ _ c.in_ok-add_path_fault.ensures c.in_ok-add_output_fault.ensures c.in_ok-add_output_fault-2.ensures
    ∙ ap (λ (l : List Diag). c.args.faults.now.items ++ l)
    (sym (three_tested (λ text. not (is_path text)) (own_fault c.args.config.now 5014) c.args.stem.now (output_text c.args.folder.now c.args.stem.now (codes ".js")) (output_text c.args.folder.now c.args.stem.now (codes ".d.ts"))))
