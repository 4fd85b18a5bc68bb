-- The printed line of a diagnostic, from its parts.
use Rattle.std.proofs.Common.{◌≡◌, ℕ, List, ◌++◌, ap, ◌∙◌}
use Rattle.std.specs.Prelude.{codes, decimal, length, min}
use Rattle.tb_text.specs.Lines.{column_at, line_at}
use Rattle.tb_text.specs.Messages.{code_text, diag_line, line_in, message, without_mark}
use Rattle.tb_text.specs.declared.findings.Diag.{Diag}

abbrev pub printed : List ℕ → ℕ → ℕ → List ℕ → List ℕ → List ℕ
printed path line column code said = path ++ (codes "(" ++ (decimal line ++ (codes "," ++ (decimal column ++ (codes "): error " ++ (code ++ (codes ": " ++ said)))))))

line_of : List ℕ → ℕ → ℕ → List ℕ → List ℕ → List ℕ
line_of = printed

pub line_is : (diag : Diag) (text bytes : List ℕ) (place line column : ℕ) (path code said : List ℕ) → bytes ≡ without_mark text → place ≡ min diag.finding.offset (length bytes) → line ≡ line_at bytes place → column ≡ column_at bytes place → path ≡ diag.path → code ≡ code_text diag.finding.code → said ≡ message diag.finding.code diag.finding.first diag.finding.second → printed path line column code said ≡ diag_line diag text
unfolding line_of
line_is diag text bytes place line column path code said b p l k q c m =
    ap (λ (x : List ℕ). line_of x line column code said) q
    ∙ ap (λ (x : List ℕ). line_of diag.path line column x said) c
    ∙ ap (λ (x : List ℕ). line_of diag.path line column (code_text diag.finding.code) x) m
    ∙ ap (λ (x : ℕ). line_of diag.path x column (code_text diag.finding.code) (message diag.finding.code diag.finding.first diag.finding.second)) (l ∙ ap (line_at bytes) p)
    ∙ ap (λ (x : ℕ). line_of diag.path (line_at bytes (min diag.finding.offset (length bytes))) x (code_text diag.finding.code) (message diag.finding.code diag.finding.first diag.finding.second)) (k ∙ ap (column_at bytes) p)
    ∙ ap (line_in diag) b
