-- The order in which findings and diagnostics are reported. This project's own.
use Rattle.std.specs.declared.cmp.Ordering.{Ordering}
use Rattle.std.specs.Ordering.{bool_cmp, nat_cmp, on, then_cmp}
use Rattle.tb_text.specs.Bytes.{bytes_cmp}
use Rattle.tb_text.specs.declared.findings.Code.{Code}
use Rattle.tb_text.specs.declared.findings.Finding.{Finding}
use Rattle.tb_text.specs.declared.findings.Diag.{Diag}

-- TypeScript's codes before this project's own, then by number
abbrev pub code_cmp : Code → Code → Ordering
code_cmp = then_cmp (on (λ c. c.own) bool_cmp) (on (λ c. c.number) nat_cmp)

-- by place, code and the two arguments
abbrev pub finding_cmp : Finding → Finding → Ordering
finding_cmp = then_cmp (on (λ f. f.offset) nat_cmp) (then_cmp (on (λ f. f.code) code_cmp) (then_cmp (on (λ f. f.first) bytes_cmp) (on (λ f. f.second) bytes_cmp)))

-- by project in the plan's order, path and finding
abbrev pub diag_cmp : Diag → Diag → Ordering
diag_cmp = then_cmp (on (λ d. d.project) nat_cmp) (then_cmp (on (λ d. d.path) bytes_cmp) (on (λ d. d.finding) finding_cmp))
