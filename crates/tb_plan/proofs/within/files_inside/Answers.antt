use Rattle.std.proofs.Common.{◌≡◌, ◌<◌, ◌++◌, ◌∷◌, [], List, ℕ, length, ◌∙◌, subst, arith}
use Rattle.std.proofs.lemmas.Grind.{common_steps}
use Rattle.tb_text.specs.Paths.{is_inside}
use Rattle.tb_plan.specs.Within.{HasAll, is_between}
use Rattle.tb_plan.proofs.Ranges.{inside_between, weaker}
use Rattle.tb_plan.proofs.within.files_inside.Goals as goal

pub returns : goal.returns
returns c =
    let folder = c.args.folder.now in
    let some : 0 < length folder = grind (arith, common_steps, c.is_empty.ensures, c.if-is_empty.false, c.as_str.ensures.text) in
    let from : c.as_str-2.result.now ≡ folder ++ 47 ∷ [] = c.as_str-2.ensures.value ∙ c.in_ok-from.ensures in
    let to : c.as_str-3.result.now ≡ folder ++ 48 ∷ [] = c.as_str-3.ensures.value ∙ c.in_ok-to.ensures in
    let all = subst (λ (t : List ℕ). HasAll (is_between t c.as_str-3.result.now) c.between.result.now c.args.files.now) from c.between.ensures in
    weaker (is_inside folder) (is_between (folder ++ 47 ∷ []) (folder ++ 48 ∷ [])) c.between.result.now c.args.files.now (λ x e. inside_between folder x some e)
    (subst (λ (t : List ℕ). HasAll (is_between (folder ++ 47 ∷ []) t) c.between.result.now c.args.files.now) to all)
