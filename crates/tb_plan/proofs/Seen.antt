-- Inputs that two projects have, one project further.
use Rattle.std.proofs.Common.{◌≡◌, ℕ, ◌+◌, ◌<◌, Bool, true, false, cond, List, [], ◌∷◌, ◌++◌, length, get_or, take, refl, sym, ap, subst, ◌∙◌, append_assoc, append-nil}
use Rattle.std.specs.Prelude.{map, fold}
use Rattle.std.specs.List.{filter, flat_map, list_any}
use Rattle.std.specs.BTreeMap.{is_at}
use Rattle.std.specs.BTreeSet.{BTreeSet, contains, insert_key}
use Rattle.std.proofs.lemmas.Map.Lookups.{exact_bytes}
use Rattle.tb_text.specs.Bytes.{bytes_cmp}
use Rattle.tb_text.specs.declared.findings.Diag.{Diag}
use Rattle.tb_plan.specs.Faults.{own_fault}
use Rattle.tb_plan.specs.Inputs.{shared_after, shared_faults}
use Rattle.tb_plan.specs.Orders.{Paths, is_among}
use Rattle.tb_plan.specs.declared.sources.Sources.{Sources}
use Rattle.tb_plan.proofs.Among.{any_from, any_in, among_in, in_among}
use Rattle.tb_plan.proofs.Firsts.{flat_push}
use Rattle.tb_plan.proofs.Members.{In, taken}
use Rattle.tb_plan.proofs.Numbered.{at_itself, at_same}
use Rattle.tb_plan.proofs.Sorted.{in_fold, from_fold}

pub both_ways : (a b : Bool) → (a ≡ true → b ≡ true) → (b ≡ true → a ≡ true) → a ≡ b
both_ways true b f g = sym (f refl)
both_ways false true f g = g refl
both_ways false false f g = refl

pub filter_same : {X : Type 0} (p q : X → Bool) → ((x : X) → p x ≡ q x) → (xs : List X) → filter p xs ≡ filter q xs
filter_same p q e [] = refl
filter_same p q e (x ∷ xs) = ap (λ b. cond b (x ∷ filter p xs) (filter p xs)) (e x) ∙ ap (λ l. cond (q x) (x ∷ l) l) (filter_same p q e xs)

-- the set of these paths has just them
seen_is : (before : Paths) (seen : BTreeSet (List ℕ)) → seen.keys ≡ fold (insert_key bytes_cmp) [] before → (q : List ℕ) → contains bytes_cmp seen q ≡ is_among before q
seen_is before seen e q = ap (λ (l : Paths). list_any (is_at (bytes_cmp q)) l) e ∙ both_ways (list_any (is_at (bytes_cmp q)) (fold (insert_key bytes_cmp) [] before)) (is_among before q)
    (λ t. let r = any_from (is_at (bytes_cmp q)) (fold (insert_key bytes_cmp) [] before) t in
    in_among before q (subst (In before) (sym (at_same q r.0 r.2)) (from_fold bytes_cmp exact_bytes before r.0 r.1)))
    (λ t. any_in (is_at (bytes_cmp q)) (fold (insert_key bytes_cmp) [] before) q (in_fold bytes_cmp exact_bytes before q (among_in before q t)) (at_itself q))

abbrev shared_in : Paths → Sources → List Diag
shared_in before p = map (own_fault p.setting.config 5015) (filter (is_among before) p.inputs)

shared_more : (before : Paths) (done : List Sources) (p : Sources) → shared_after before (done ++ p ∷ []) ≡ shared_after before done ++ shared_in (before ++ flat_map (λ q. q.inputs) done) p
shared_more before [] p = append-nil (shared_in before p) ∙ ap (λ (b : Paths). shared_in b p) (sym (append-nil before))
shared_more before (q ∷ done) p =
    ap (λ (l : List Diag). shared_in before q ++ l) (shared_more (before ++ q.inputs) done p)
    ∙ sym (append_assoc (shared_in before q) (shared_after (before ++ q.inputs) done) (shared_in ((before ++ q.inputs) ++ flat_map (λ x. x.inputs) done) p))
    ∙ ap (λ (b : Paths). (shared_in before q ++ shared_after (before ++ q.inputs) done) ++ shared_in b p) (append_assoc before q.inputs (flat_map (λ x. x.inputs) done))

pub shared_step : (projects : List Sources) (i : ℕ) (p : Sources) (seen : BTreeSet (List ℕ)) (start so_far new : List Diag) → i < length projects → p ≡ get_or projects i p
    → seen.keys ≡ fold (insert_key bytes_cmp) [] (flat_map (λ q. q.inputs) (take i projects)) → so_far ≡ start ++ shared_faults (take i projects)
    → new ≡ so_far ++ map (own_fault p.setting.config 5015) (filter (contains bytes_cmp seen) p.inputs) → new ≡ start ++ shared_faults (take (i + 1) projects)
shared_step projects i p seen start so_far new lt at s is e =
    let before : Paths = flat_map (λ q. q.inputs) (take i projects) in
    e ∙ ap (λ (l : Paths). so_far ++ map (own_fault p.setting.config 5015) l) (filter_same (contains bytes_cmp seen) (is_among before) (seen_is before seen s) p.inputs)
    ∙ ap (λ (l : List Diag). l ++ shared_in before p) is ∙ append_assoc start (shared_faults (take i projects)) (shared_in before p)
    ∙ ap (λ (l : List Diag). start ++ l) (sym (ap (λ l. shared_faults l) (taken projects i p lt at) ∙ shared_more [] (take i projects) p))

fold_two : (xs ys start : Paths) → fold (insert_key bytes_cmp) start (xs ++ ys) ≡ fold (insert_key bytes_cmp) (fold (insert_key bytes_cmp) start xs) ys
fold_two [] ys start = refl
fold_two (x ∷ xs) ys start = fold_two xs ys (insert_key bytes_cmp start x)

pub seen_step : (projects : List Sources) (i : ℕ) (p : Sources) (so_far new : Paths) → i < length projects → p ≡ get_or projects i p
    → so_far ≡ fold (insert_key bytes_cmp) [] (flat_map (λ q. q.inputs) (take i projects)) → new ≡ fold (insert_key bytes_cmp) so_far p.inputs
    → new ≡ fold (insert_key bytes_cmp) [] (flat_map (λ q. q.inputs) (take (i + 1) projects))
seen_step projects i p so_far new lt at is e =
    e ∙ ap (λ (l : Paths). fold (insert_key bytes_cmp) l p.inputs) is ∙ sym (fold_two (flat_map (λ q. q.inputs) (take i projects)) p.inputs [])
    ∙ ap (λ (l : Paths). fold (insert_key bytes_cmp) [] l) (sym (ap (λ l. flat_map (λ q. q.inputs) l) (taken projects i p lt at) ∙ flat_push (λ q. q.inputs) (take i projects) p))
