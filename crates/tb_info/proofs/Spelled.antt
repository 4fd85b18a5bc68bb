-- An info's data has no floats.
use Rattle.std.proofs.Common.{◌≡◌, ℕ, ap, ◌∙◌, Option, Some, None, false, List, [], ◌∷◌, map, refl}
use Rattle.serde_json.specs.Data.{Data, string}
use Rattle.serde_json.specs.View.{items_of}
use Rattle.serde_json.specs.Written.{has_float, items_have_float, compact_text}
use Rattle.tb_text.specs.declared.edges.Edge.{Edge}
use Rattle.tb_text.specs.declared.findings.Finding.{Finding}
use Rattle.tb_face.specs.declared.infos.Reach.{Reach}
use Rattle.tb_face.specs.declared.infos.Entry.{Entry}
use Rattle.tb_face.specs.declared.infos.Info.{Info}
use Rattle.tb_face.specs.Infos.{signature_data, edge_data, finding_data, reach_data, entry_data, info_data, spelling}

rows_no_float : {X : Type 0} (f : X → Data) → ((x : X) → has_float (f x) ≡ false) → (xs : List X) → items_have_float (items_of (map f xs)) ≡ false
rows_no_float f h [] = refl
rows_no_float f h (x ∷ xs) = rw (h x, rows_no_float f h xs)

signature_no_float : (s : Option (List ℕ)) → has_float (signature_data s) ≡ false
signature_no_float None = refl
signature_no_float (Some d) = refl

edge_no_float : (e : Edge) → has_float (edge_data e) ≡ false
unfolding edge_data
edge_no_float e = refl

finding_no_float : (f : Finding) → has_float (finding_data f) ≡ false
unfolding finding_data
finding_no_float f = refl

reach_no_float : (r : Reach) → has_float (reach_data r) ≡ false
unfolding reach_data
reach_no_float r = rw (signature_no_float r.signature, rows_no_float edge_data edge_no_float r.edges)

entry_no_float : (e : Entry) → has_float (entry_data e) ≡ false
unfolding entry_data
entry_no_float e = rw (rows_no_float edge_data edge_no_float e.edges, rows_no_float finding_data finding_no_float e.findings, rows_no_float reach_data reach_no_float e.reach, signature_no_float e.signature)

pub info_no_float : (i : Info) → has_float (info_data i) ≡ false
unfolding info_data
info_no_float i = rw (rows_no_float entry_data entry_no_float i.files, rows_no_float string (λ p. refl) i.pending)

pub spelled : (i : Info) (d : Data) (text : List ℕ) → d ≡ info_data i → (has_float d ≡ false → text ≡ compact_text d) → text ≡ spelling i
unfolding spelling
spelled i d text is written = written (rw is (info_no_float i)) ∙ ap compact_text is
