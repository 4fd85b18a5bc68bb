use Rattle.std.proofs.Common.{ap, ◌∙◌, List, ℕ, [], map, codes, Option, unwrap_or}
use Rattle.std.proofs.lemmas.Result.{IfOk-weaker}
use Rattle.std.specs.Borrow.{Bor}
use Rattle.clap.specs.Matches.{found_of}
use Rattle.clap.proofs.WalkLemmas.{raw_values-rows}
use Rattle.tb_words.proofs.parse.given_roots.Goals as goal

pub returns-in-Some : goal.returns-in-Some
returns-in-Some c =
    let e = c.in-Some.ensures ∙ raw_values-rows (found_of c.args.matches.now) (codes "root") in
    IfOk-weaker c.to_vec.result _ _ (λ v h. ap (map (λ (text : Bor (List ℕ)). text.now)) (h (λ x y i. i)) ∙ ap (λ (o : Option (List (List ℕ))). unwrap_or o []) e) c.to_vec.ensures.items_if_clones_equal

pub returns-in-None : goal.returns-in-None
returns-in-None c =
    let e = c.in-None.ensures ∙ raw_values-rows (found_of c.args.matches.now) (codes "root") in
    ap (map (λ (text : Bor (List ℕ)). text.now)) c.new.ensures.items ∙ ap (λ (o : Option (List (List ℕ))). unwrap_or o []) e
