use Rattle.std.proofs.Common.{◌≡◌, List, ℕ, ◌++◌, ◌∷◌, [], take, ap, sym, ◌∙◌, arith}
use Rattle.std.specs.Prelude.{not}
use Rattle.std.specs.List.{flat_map}
use Rattle.std.proofs.lemmas.List.{take_all}
use Rattle.tb_text.specs.Paths.{is_path}
use Rattle.tb_text.specs.declared.findings.Diag.{Diag}
use Rattle.tb_face.specs.Outputs.{new_info_text, stem_text}
use Rattle.tb_plan.specs.Faults.{own_fault}
use Rattle.tb_plan.specs.Outputs.{faults_of, texts_by}
use Rattle.tb_plan.proofs.Loops.{two_pieces, one_tested}
use Rattle.tb_plan.proofs.outputs.add_folder_faults.Goals as goal

pub returns : goal.returns
returns c =
    let one = c.in_ok-add_output_fault.ensures ∙ ap (λ (l : List Diag). c.args.faults.now.items ++ l) (sym (one_tested (λ text. not (is_path text)) (own_fault c.args.config.now 5014) (new_info_text c.args.folder.now))) in
    let all : take c.loop-path.path-index c.args.inputs.now ≡ c.args.inputs.now = take_all c.loop-path.path-index c.args.inputs.now (omega arith) in
    two_pieces c.args.faults.now.items _ _ (faults_of c.args.config.now (new_info_text c.args.folder.now ∷ [])) (flat_map (λ path. faults_of c.args.config.now (texts_by c.args.folder.now (stem_text c.args.root.now path))) c.args.inputs.now)
    one (c.loop-path.invariant ∙ ap (λ (l : List (List ℕ)). c.add_output_fault.new.faults.items ++ flat_map (λ path. faults_of c.args.config.now (texts_by c.args.folder.now (stem_text c.args.root.now path))) l) all)
