-- Reports, one line further.
use Rattle.std.proofs.Common.{◌≡◌, ℕ, zero, suc, ◌+◌, ◌<◌, ◌≤◌, Bool, true, false, List, [], ◌∷◌, ◌++◌, length, get_or, set, take, drop, drop-cons, add-one, map, refl, sym, ap, ◌∙◌, subst, arith, append_assoc, inl, inr}
use Rattle.std.specs.Prelude.{nat_eq}
use Rattle.std.specs.List.{concat}
use Rattle.std.proofs.lemmas.Bool.{cases_Bool, cases_lt, eqb-true, eqb-false}
use Rattle.std.proofs.lemmas.List.{get_or-set_same, get_or-set_other, length-set, length-take-le}
use Rattle.std.proofs.lemmas.List.Sums.{count_by-le-length, count_by_more_yes, count_by_more_no}
use Rattle.tb_text.specs.declared.findings.Diag.{Diag}
use Rattle.tb_plan.specs.declared.plans.Project.{Project}
use Rattle.tb_session.specs.Reports.{errors_of, project_line, project_lines}

rest_at : {X : Type 0} (xs : List X) (i : ℕ) (x : X) → i < length xs → x ≡ get_or xs i x → drop i xs ≡ x ∷ drop (i + 1) xs
rest_at xs i x lt at = rw add-one (drop-cons xs i x lt ∙ ap (λ y. y ∷ drop (suc i) xs) (sym at))

-- ---- lines

-- the line of a project with so many diagnostics
abbrev pub line_of : ℕ → Project → List ℕ
line_of errors project = project_line project.setting.config (length project.inputs) errors

pub lines_step : (diags : List Diag) (projects : List Project) (i number : ℕ) (project : Project) (so_far new whole : List ℕ) → i < length projects → project ≡ get_or projects i project
    → new ≡ so_far ++ line_of (errors_of number diags) project → so_far ++ project_lines number diags (drop i projects) ≡ whole → new ++ project_lines (number + 1) diags (drop (i + 1) projects) ≡ whole
lines_step diags projects i number project so_far new whole lt at e is =
    ap (λ l. l ++ project_lines (number + 1) diags (drop (i + 1) projects)) e
    ∙ append_assoc so_far (line_of (errors_of number diags) project) (project_lines (number + 1) diags (drop (i + 1) projects))
    ∙ ap (λ ps. so_far ++ project_lines number diags ps) (sym (rest_at projects i project lt at)) ∙ is

pub each_step : {X : Type 0} (f : X → List ℕ) (xs : List X) (i : ℕ) (x : X) (so_far new whole : List ℕ) → i < length xs → x ≡ get_or xs i x
    → new ≡ so_far ++ f x → so_far ++ concat (map f (drop i xs)) ≡ whole → new ++ concat (map f (drop (i + 1) xs)) ≡ whole
each_step f xs i x so_far new whole lt at e is =
    ap (λ l. l ++ concat (map f (drop (i + 1) xs))) e ∙ append_assoc so_far (f x) (concat (map f (drop (i + 1) xs)))
    ∙ ap (λ l. so_far ++ concat (map f l)) (sym (rest_at xs i x lt at)) ∙ is

-- ---- counts

same_at : (xs : List ℕ) (i d e : ℕ) → i < length xs → get_or xs i d ≡ get_or xs i e
same_at [] i d e lt = absurd (omega (arith, lt))
same_at (x ∷ xs) zero d e lt = refl
same_at (x ∷ xs) (suc i) d e lt = same_at xs i d e (omega (arith, lt))

pub errors_at : (counts : List ℕ) (number errors : ℕ) (diags : List Diag) → errors ≡ get_or counts number errors → number < length counts → get_or counts number 0 ≡ errors_of number diags → errors ≡ errors_of number diags
errors_at counts number errors diags is within e = is ∙ same_at counts number errors 0 within ∙ e

-- what was counted so far
abbrev pub Counts : List Diag → List ℕ → Type 0
Counts diags counts = (number : ℕ) → number < length counts → get_or counts number 0 ≡ errors_of number diags

module _ (diags : List Diag) (i : ℕ) (diag : Diag) (counts : List ℕ) (lt : i < length diags) (at : diag ≡ get_or diags i diag) (so_far : Counts (take i diags) counts) where
  is_its : (number : ℕ) (b : Bool) → nat_eq diag.project number ≡ b → nat_eq (get_or diags i diag).project number ≡ b
  is_its number b e = ap (λ (d : Diag). nat_eq d.project number) (sym at) ∙ e

  pub uncounted : length counts ≤ diag.project → Counts (take (i + 1) diags) counts
  uncounted beyond number within =
      so_far number within ∙ sym (count_by_more_no (λ (d : Diag). nat_eq d.project number) diags i diag lt (is_its number false (elim (cases_Bool (nat_eq diag.project number)) [
        | inl same ↦ absurd (omega (arith, beyond, within, eqb-true diag.project number same))
        | inr other ↦ other
      ])))

  pub counted : diag.project < length counts → (number : ℕ) → number < length counts → get_or (set counts diag.project (get_or counts diag.project 0 + 1)) number 0 ≡ errors_of number (take (i + 1) diags)
  counted there number within = elim (cases_Bool (nat_eq diag.project number)) [
    | inl same ↦
        let is : diag.project ≡ number = eqb-true diag.project number same in
        ap (λ n. get_or (set counts n (get_or counts n 0 + 1)) number 0) is ∙ get_or-set_same counts number (get_or counts number 0 + 1) 0 within
        ∙ ap (λ n. n + 1) (so_far number within) ∙ sym (count_by_more_yes (λ (d : Diag). nat_eq d.project number) diags i diag lt (is_its number true same))
    | inr other ↦
        get_or-set_other counts diag.project number (get_or counts diag.project 0 + 1) 0 (λ e. eqb-false diag.project number other (sym e))
        ∙ so_far number within ∙ sym (count_by_more_no (λ (d : Diag). nat_eq d.project number) diags i diag lt (is_its number false other))
  ]

  -- one more was counted, where there is a count
  pub stepped : (new : List ℕ) → (diag.project < length counts → new ≡ set counts diag.project (get_or counts diag.project 0 + 1)) → (length counts ≤ diag.project → new ≡ counts)
      → (length new ≡ length counts) × Counts (take (i + 1) diags) new
  stepped new here beyond = elim (cases_lt diag.project (length counts)) [
    | inl there ↦
        let is = here there in
        let same : length new ≡ length counts = ap length is ∙ length-set counts diag.project (get_or counts diag.project 0 + 1) in
        (same, λ number within. ap (λ l. get_or l number 0) is ∙ counted there number (subst (λ n. number < n) same within))
    | inr out ↦
        let is = beyond out in
        (ap length is, λ number within. ap (λ l. get_or l number 0) is ∙ uncounted out number (subst (λ l. number < length l) is within))
  ]

  -- no count is above the number of all
  pub below : diag.project < length counts → get_or counts diag.project 0 < length diags
  below there =
      omega (arith, so_far diag.project there, count_by-le-length (λ (d : Diag). nat_eq d.project diag.project) (take i diags), length-take-le i diags (omega (arith, lt)), lt)
