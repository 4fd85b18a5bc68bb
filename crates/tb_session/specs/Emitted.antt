-- What the program makes of a source: what is recorded of it, and the steps that write its outputs. This project's own.
use Rattle.std.specs.Prelude.{ℕ, List, [], ◌∷◌, map, codes, Option, Some, None}
use Rattle.std.specs.Option.{option_to_list}
use Rattle.tb_text.specs.declared.findings.Diag.{Diag}
use Rattle.tb_face.specs.Digests.{sha}
use Rattle.tb_face.specs.Outputs.{output_text}
use Rattle.tb_face.specs.declared.infos.Entry.{Entry}
use Rattle.tb_outside.specs.declared.disks.DiskStep.{DiskStep}
use Rattle.tb_outside.specs.declared.disks.DiskStep.TheVariants.{Write}
use Rattle.tb_session.specs.declared.sources.Content.{Content}
use Rattle.tb_session.specs.declared.sources.Made.{Made}
use Rattle.tb_session.specs.declared.sources.Made.TheVariants as made
use Rattle.tb_session.specs.declared.sources.Emitted.{Emitted}
use Rattle.tb_session.specs.declared.sources.Outputs.{Outputs}
use Rattle.tb_session.specs.Builds.{Pair, js_of, declaration_of, js_output, declaration_output, record_of, diag_of}
use Rattle.tb_session.specs.Scripts.{write_of}
use Rattle.tb_session.specs.Sources.{Reading, Plain, Faulty, Source}

-- what is made of a text with this reading, and what is left of it
abbrev pub made_of : Reading → Made
made_of (Plain stem file) = made.Outputs stem (js_of file) (declaration_of file)
made_of (Faulty finding) = made.Fault finding

abbrev pub content_of : List ℕ → Reading → Content
content_of text reading = record { version = sha text; made = made_of reading }

-- the steps that write outputs
abbrev pub outputs_from : List ℕ → Pair → Outputs
outputs_from folder pair = record { stem = pair.stem; js = write_of (js_output folder pair); declaration = write_of (declaration_output folder pair) }

abbrev pub outputs_by : List ℕ → Reading → Option Outputs
outputs_by folder (Plain stem file) = Some (outputs_from folder (record { stem = stem; js = js_of file; declaration = declaration_of file }))
outputs_by folder (Faulty finding) = None

abbrev pub output_steps : Outputs → List DiskStep
output_steps outputs = outputs.js ∷ outputs.declaration ∷ []

abbrev pub emitted_of : List ℕ → Source → Emitted
emitted_of folder source = record { entry = record_of source; outputs = outputs_by folder source.reading }

-- the steps that were made, where there are some
abbrev pub outputs_made : Emitted → List Outputs
outputs_made each = option_to_list each.outputs

-- the same by what is left of the text of an input with this path
abbrev pub emitted_by : List ℕ → List ℕ → List ℕ → Made → Emitted
emitted_by folder path version (made.Outputs stem js declaration) = record {
  entry = record { path = path; version = version; signature = Some (sha declaration); edges = []; reach = []; findings = [] };
  outputs = Some (record { stem = stem; js = Write (output_text folder stem (codes ".js")) js; declaration = Write (output_text folder stem (codes ".d.ts")) declaration });
}
emitted_by folder path version (made.Fault finding) = record {
  entry = record { path = path; version = version; signature = None; edges = []; reach = []; findings = finding ∷ [] };
  outputs = None;
}

abbrev pub emitted_with : List ℕ → List ℕ → Content → Emitted
emitted_with folder path content = emitted_by folder path content.version content.made

-- what is found in the project of this number, by what is recorded
abbrev pub entry_diags : ℕ → Entry → List Diag
entry_diags number entry = map (diag_of number entry.path) entry.findings
