-- What a variable at the top level lacks.
use Rattle.std.specs.Prelude.{Bool, if◌then◌else◌, List, []}
use Rattle.tb_text.specs.declared.findings.Finding.{Finding}
use Rattle.tb_tree.specs.declared.exprs.Declarator.{Declarator, out-Declarator}
use Rattle.tb_layout.specs.Annotations.{lacking_value}

abbrev pub kept_lacking : Bool → Declarator → List Finding
kept_lacking keeps of =
    let opened = out-Declarator of in
    if keeps then lacking_value opened.at opened.name opened.annotation opened.value else []
