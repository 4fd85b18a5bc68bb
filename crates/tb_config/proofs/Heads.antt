-- The config itself comes first of the configs that a walk from it enters.
use Rattle.std.proofs.Common.{ℕ, zero, suc, ◌≡◌, Bool, true, false, cond, List, [], ◌∷◌, ◌++◌, length, sym, subst, ◌∙◌, add-one, append_assoc}
use Rattle.std.proofs.lemmas.List.{append-nil}
use Rattle.std.specs.List.{sum_by}
use Rattle.tb_config.specs.Walks.{Walk, Step, is_in, steps_from, walked, walk_from}

-- a list with this front
pub record HasFront (front xs : List (List ℕ)) : Type 0 where
  pub rest : List (List ℕ)
  pub is : xs ≡ front ++ rest

one_of : (a b : Bool) (x y z : Walk) (front : List (List ℕ)) → HasFront front x.entered → HasFront front y.entered → HasFront front z.entered → HasFront front (cond a x (cond b y z)).entered
one_of true b x y z front fx fy fz = fx
one_of false true x y z front fx fy fz = fy
one_of false false x y z front fx fy fz = fz

shorter : (front : List (List ℕ)) (path : List ℕ) (xs : List (List ℕ)) → HasFront (front ++ path ∷ []) xs → HasFront front xs
shorter front path xs h = record { rest = path ∷ h.rest; is = h.is ∙ append_assoc front (path ∷ []) h.rest }

walked_front : (bases : List ℕ → List (List ℕ)) (n : ℕ) (walk : Walk) (steps : List Step) → HasFront walk.entered (walked bases n walk steps).entered
walked_front bases zero walk steps = record { rest = []; is = sym (append-nil walk.entered) }
walked_front bases (suc n) walk [] = record { rest = []; is = sym (append-nil walk.entered) }
walked_front bases (suc n) walk (step ∷ rest) =
    one_of (is_in step.0 step.1) (is_in walk.entered step.1) _ _ _ walk.entered
    (walked_front bases n (record walk { circles = walk.circles ++ step.1 ∷ [] }) rest)
    (walked_front bases n walk rest)
    (shorter walk.entered step.1 _ (walked_front bases n (record walk { entered = walk.entered ++ step.1 ∷ [] }) (steps_from bases step ++ rest)))

pub first_entered : (bases : List ℕ → List (List ℕ)) (paths : List (List ℕ)) (path : List ℕ) → HasFront (path ∷ []) (walk_from bases paths path).entered
first_entered bases paths path =
    let start : Walk = record { entered = []; circles = [] } in
    let one : Walk = record { entered = path ∷ []; circles = [] } in
    let steps : List Step = steps_from bases ([], path) ++ [] in
    subst (λ n. HasFront (path ∷ []) (walked bases n start (([], path) ∷ [])).entered) (sym (add-one (sum_by (λ p. length (bases p)) paths)))
    (walked_front bases (sum_by (λ p. length (bases p)) paths) one steps)
