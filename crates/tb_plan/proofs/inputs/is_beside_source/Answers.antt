use Rattle.std.proofs.Common.{ap, ◌∙◌, ◌++◌, List, ℕ, codes, Err}
use Rattle.tb_face.specs.Outputs.{before_ending}
use Rattle.tb_plan.proofs.Found.{source_there}
use Rattle.tb_plan.proofs.inputs.is_beside_source.Goals as goal

pub returns-in-Err-BadPath : goal.returns-in-Err-BadPath
returns-in-Err-BadPath c =
    let bad = c.in-Err-BadPath.ensures.bad.0 (ap Err c.in-Err-BadPath.field-0-is) in
    let good = source_there c.args.path.now c.in-Some.stem.now c.as_str-2.result.now (c.in-Some.ensures ∙ ap (before_ending (codes ".d.ts")) c.as_str.ensures.text)
    (c.as_str-2.ensures.value ∙ c.in_ok-push_str.ensures.bytes ∙ ap (λ (l : List ℕ). l ++ codes ".ts") c.in_ok-text.ensures.ok) c.as_str.ensures.path in
    absurd (cc (bad, good))
