-- What is found in parameters, and in variables at the top level.
use Rattle.std.proofs.Common.{◌≡◌, ℕ, Bool, List, ◌++◌, ap, ◌∙◌, append_assoc}
use Rattle.std.specs.Prelude.{◌||◌}
use Rattle.std.specs.BTreeSet.{BTreeSet, contains}
use Rattle.tb_text.specs.Bytes.{bytes_cmp}
use Rattle.tb_text.specs.declared.findings.Finding.{Finding}
use Rattle.tb_tree.specs.declared.exprs.Declarator.{Declarator, out-Declarator}
use Rattle.tb_tree.specs.declared.exprs.Param.{Param, out-Param}
use Rattle.tb_layout.specs.Parts.{variable_name}
use Rattle.tb_layout.specs.Annotations.{whole_param, arrow_param, param_findings, lacking_type, value_findings, kept_findings, variable_findings}
use Rattle.tb_layout.proofs.Lacking.{param_out}
use Rattle.tb_surface.specs.Names.{HasNames}
use Rattle.tb_surface.specs.Lacks.{kept_lacking}

abbrev pub own_found : Param → List Finding
own_found of = let opened = out-Param of in lacking_type 9003 opened.at opened.name opened.annotation

abbrev pub inner_found : Param → List Finding
inner_found of = let opened = out-Param of in value_findings opened.value

pub param_whole : (of : Param) → whole_param (param_findings of) ≡ own_found of ++ inner_found of
param_whole of = ap whole_param (param_out of)

pub param_inner : (of : Param) → arrow_param (param_findings of) ≡ inner_found of
param_inner of = ap arrow_param (param_out of)

-- a variable, once what it lacks and what its value lacks are found
pub variable_found : (listed : BTreeSet (List ℕ)) (names : List (List ℕ)) (exported : Bool) (of : Declarator) (kept : Bool) (o0 o1 o2 : List Finding) → HasNames listed names
    → kept ≡ (exported || contains bytes_cmp listed (variable_name of)) → o1 ≡ o0 ++ kept_lacking kept of → (o2 ≡ o1 ++ (let opened = out-Declarator of in value_findings opened.value))
    → o2 ≡ o0 ++ variable_findings names exported of
variable_found listed names exported of kept o0 o1 o2 has is first second =
    second ∙ ap (λ l. l ++ (let opened = out-Declarator of in value_findings opened.value)) first ∙ append_assoc o0 (kept_lacking kept of) (let opened = out-Declarator of in value_findings opened.value)
    ∙ ap (λ b. o0 ++ kept_findings b of) (is ∙ ap (λ b. exported || b) (has (variable_name of)))
