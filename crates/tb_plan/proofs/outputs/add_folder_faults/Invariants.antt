use Rattle.std.proofs.Common.{◌≡◌, ◌++◌, take}
use Rattle.std.specs.List.{flat_map}
use Rattle.tb_face.specs.Outputs.{stem_text}
use Rattle.tb_plan.specs.Outputs.{faults_of, texts_by}
use Rattle.tb_plan.proofs.outputs.add_folder_faults.Given as goal

abbrev pub invariant-loop-path : goal.invariant-loop-path
invariant-loop-path l = l.faults.items ≡ l.initial.faults.items ++ flat_map (λ path. faults_of l.config (texts_by l.folder (stem_text l.root path))) (take l.path-index l.inputs)
