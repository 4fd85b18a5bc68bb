use Rattle.std.proofs.Common.{◌≡◌, ◌++◌, ◌∷◌, [], List, ℕ, ◌∙◌, subst}
use Rattle.std.specs.Str.{bytes_eq}
use Rattle.tb_plan.specs.Within.{HasAll, is_between}
use Rattle.tb_plan.proofs.Ranges.{itself_between, weaker}
use Rattle.tb_plan.proofs.within.file_at.Goals as goal

pub returns : goal.returns
returns c =
    let path = c.args.path.now in
    let next : c.as_str-2.result.now ≡ path ++ 0 ∷ [] = c.as_str-2.ensures.value ∙ c.in_ok-next.ensures in
    let all = subst (λ (from : List ℕ). HasAll (is_between from c.as_str-2.result.now) c.between.result.now c.args.files.now) c.as_str.ensures.text c.between.ensures in
    weaker (bytes_eq path) (is_between path (path ++ 0 ∷ [])) c.between.result.now c.args.files.now (itself_between path)
    (subst (λ (to : List ℕ). HasAll (is_between path to) c.between.result.now c.args.files.now) next all)
