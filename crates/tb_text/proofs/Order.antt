-- Laws of the order of diagnostics, for the crates above.
use Rattle.std.proofs.Common.{◌≡◌, ℕ, Bool, true, false, List, refl, ap, ◌∙◌}
use Rattle.std.specs.Ordering.{bool_cmp, nat_cmp, ordering_then}
use Rattle.std.specs.FinMap.{nat_cmp-IsAntisymmetric, slice_cmp-IsAntisymmetric}
use Rattle.std.specs.declared.cmp.Ordering.{Ordering}
use Rattle.tb_text.specs.Bytes.{bytes_cmp}
use Rattle.std.specs.Cmp.{IsTotalOrder, then_total, on_total, nat_cmp_total, bool_cmp_total}
use Rattle.std.specs.Cmp.Lexicographic.{nat_list_cmp_total}
use Rattle.std.specs.declared.cmp.Ordering.TheVariants.{Less, Equal, Greater}
use Rattle.tb_text.specs.declared.findings.Code.{Code}
use Rattle.tb_text.specs.declared.findings.Finding.{Finding}
use Rattle.tb_text.specs.declared.findings.Diag.{Diag}
use Rattle.tb_text.specs.Findings.{code_cmp, diag_cmp, finding_cmp}

pub code_total : IsTotalOrder code_cmp
code_total = then_total (on_total (λ c. c.own) bool_cmp_total) (on_total (λ c. c.number) nat_cmp_total)

pub finding_total : IsTotalOrder finding_cmp
finding_total = then_total (on_total (λ f. f.offset) nat_cmp_total) (then_total (on_total (λ f. f.code) code_total) (then_total (on_total (λ f. f.first) nat_list_cmp_total) (on_total (λ f. f.second) nat_list_cmp_total)))

pub diag_total : IsTotalOrder diag_cmp
diag_total = then_total (on_total (λ d. d.project) nat_cmp_total) (then_total (on_total (λ d. d.path) nat_list_cmp_total) (on_total (λ d. d.finding) finding_total))

-- ---- only equal values are ranked equal

both_equal : (r s : Ordering) → ordering_then r s ≡ Equal → (r ≡ Equal) × (s ≡ Equal)
both_equal Less s e = absurd (cc)
both_equal Equal s e = (refl, e)
both_equal Greater s e = absurd (cc)

same_bool : (a b : Bool) → bool_cmp a b ≡ Equal → a ≡ b
same_bool false false e = refl
same_bool false true e = absurd (cc)
same_bool true false e = absurd (cc)
same_bool true true e = refl

same_number : (a b : ℕ) → nat_cmp a b ≡ Equal → a ≡ b
same_number a b e = nat_cmp-IsAntisymmetric a b e

same_text : (a b : List ℕ) → bytes_cmp a b ≡ Equal → a ≡ b
same_text a b e = slice_cmp-IsAntisymmetric nat_cmp-IsAntisymmetric a b e

pub code_equal : (a b : Code) → code_cmp a b ≡ Equal → a ≡ b
code_equal a b e =
    let both = both_equal (bool_cmp a.own b.own) (nat_cmp a.number b.number) e in
    ap (λ (o : Bool). record a { own = o }) (same_bool a.own b.own both.0) ∙ ap (λ (n : ℕ). record b { number = n }) (same_number a.number b.number both.1)

pub finding_equal : (a b : Finding) → finding_cmp a b ≡ Equal → a ≡ b
finding_equal a b e =
    let place = both_equal (nat_cmp a.offset b.offset) _ e in
    let code = both_equal (code_cmp a.code b.code) _ place.1 in
    let args = both_equal (bytes_cmp a.first b.first) (bytes_cmp a.second b.second) code.1 in
    ap (λ (n : ℕ). record a { offset = n }) (same_number a.offset b.offset place.0)
    ∙ ap (λ (c : Code). record a { offset = b.offset; code = c }) (code_equal a.code b.code code.0)
    ∙ ap (λ (t : List ℕ). record b { first = t; second = a.second }) (same_text a.first b.first args.0)
    ∙ ap (λ (t : List ℕ). record b { second = t }) (same_text a.second b.second args.1)

pub diag_equal : (a b : Diag) → diag_cmp a b ≡ Equal → a ≡ b
diag_equal a b e =
    let project = both_equal (nat_cmp a.project b.project) _ e in
    let rest = both_equal (bytes_cmp a.path b.path) (finding_cmp a.finding b.finding) project.1 in
    ap (λ (n : ℕ). record a { project = n }) (same_number a.project b.project project.0)
    ∙ ap (λ (t : List ℕ). record b { path = t; finding = a.finding }) (same_text a.path b.path rest.0)
    ∙ ap (λ (f : Finding). record b { finding = f }) (finding_equal a.finding b.finding rest.1)
