-- How inputs are read as sources.
use Rattle.std.proofs.Common.{◌≡◌, ◌++◌, ◌<◌, ◌∙◌, ℕ, zero, suc, ◌+◌, arith, true, false, List, [], ◌∷◌, length, get_or, take, map, flat_map, codes, refl, sym, ap, subst, Some}
use Rattle.std.specs.Prelude.{Contains}
use Rattle.std.specs.List.{AllZip}
use Rattle.std.proofs.lemmas.Bool.{true≢false}
use Rattle.std.proofs.lemmas.List.{map_push}
use Rattle.tb_text.specs.declared.findings.Finding.{Finding}
use Rattle.tb_face.specs.Outputs.{output_text, stem_text}
use Rattle.tb_parse_file.specs.Files.{ReadsFile, HasFault}
use Rattle.tb_parse_file.specs.Decls.{HasDeclFault}
use Rattle.tb_plain.specs.Plain.{IsPlain}
use Rattle.tb_tree.specs.declared.items.File.{File}
use Rattle.tb_plan.specs.Laws.{HasPaths}
use Rattle.tb_plan.specs.Outputs.{texts_by}
use Rattle.tb_plan.specs.declared.plans.Project.{Project}
use Rattle.tb_session.specs.declared.sources.Content.{Content}
use Rattle.tb_session.specs.declared.sources.Made.{Made}
use Rattle.tb_session.specs.declared.sources.Made.TheVariants as made
use Rattle.tb_session.specs.declared.sources.Emitted.{Emitted}
use Rattle.tb_session.specs.Emitted.{emitted_of, emitted_with, content_of, entry_diags}
use Rattle.tb_session.specs.Builds.{source_diags}
use Rattle.tb_session.specs.Generations.{Tree}
use Rattle.tb_session.specs.Placed.{HasOutputPaths, HaveOutputPaths}
use Rattle.tb_session.specs.Sources.{Reading, Plain, Faulty, ReadsAs, Source, IsSource, AreSources, is_declaration}
use Rattle.tb_session.proofs.Members.{taken}

-- ---- lists that correspond

module _ {A B : Type 0} (R : A → B → Type 0) where
  zip_push : (xs : List A) (ys : List B) (x : A) (y : B) → AllZip R xs ys → R x y → AllZip R (xs ++ x ∷ []) (ys ++ y ∷ [])
  zip_push [] [] x y all is = (is, tt)
  zip_push [] (b ∷ ys) x y all is = absurd all
  zip_push (a ∷ xs) [] x y all is = absurd all
  zip_push (a ∷ xs) (b ∷ ys) x y all is = (all.0, zip_push xs ys x y all.1 is)

  zip_at : (xs : List A) (ys : List B) (k : ℕ) (d : A) (e : B) → AllZip R xs ys → k < length xs → R (get_or xs k d) (get_or ys k e)
  zip_at [] ys k d e all lt = absurd (omega (arith, lt))
  zip_at (a ∷ xs) [] k d e all lt = absurd all
  zip_at (a ∷ xs) (b ∷ ys) zero d e all lt = all.0
  zip_at (a ∷ xs) (b ∷ ys) (suc k) d e all lt = zip_at xs ys k d e all.1 (omega (arith, lt))

-- ---- what is made of an input

with_content : (folder path text : List ℕ) (reading : Reading) → emitted_with folder path (content_of text reading) ≡ emitted_of folder (record { path = path; text = text; reading = reading })
with_content folder path text (Plain stem file) = refl
with_content folder path text (Faulty finding) = refl

pub emits : (folder : List ℕ) (source : Source) → emitted_with folder source.path (content_of source.text source.reading) ≡ emitted_of folder source
emits folder source = with_content folder source.path source.text source.reading

-- what has outputs has the stem of its path
stem_in : Made → List ℕ
stem_in (made.Outputs stem js declaration) = stem
stem_in (made.Fault finding) = []

no_outputs : (finding : Finding) (stem js declaration : List ℕ) → made.Fault finding ≡ made.Outputs stem js declaration → ⊥
no_outputs finding stem js declaration e = cc

pub placed : (root path text folder : List ℕ) (reading : Reading) → ReadsAs root path text reading → ((stem : List ℕ) → stem_text root path ≡ Some stem → HasOutputPaths folder stem)
    → (content : Content) → content ≡ content_of text reading → (stem js declaration : List ℕ) → content.made ≡ made.Outputs stem js declaration → HasOutputPaths folder stem
unfolding stem_in
placed root path text folder (Plain own file) (ReadsAs.plain source named reads plain) have content is stem js declaration e =
    subst (HasOutputPaths folder) (ap stem_in (ap (λ (c : Content). c.made) (sym is) ∙ e)) (have own named)
placed root path text folder (Faulty finding) reads have content is stem js declaration e = absurd (no_outputs finding stem js declaration (ap (λ (c : Content). c.made) (sym is) ∙ e))

-- ---- what is not built yet

-- a text that reads as this file alone, which is not plain
pub no_reading : (root path text : List ℕ) (file : File) (reading : Reading) → is_declaration path ≡ false → ((other : File) → ReadsFile text other → file ≡ other) → ((finding : Finding) → HasFault text finding → ⊥)
    → ((stem : List ℕ) → stem_text root path ≡ Some stem → IsPlain text file → ⊥) → ReadsAs root path text reading → ⊥
no_reading root path text file reading source only right none (ReadsAs.plain d named reads plain) = none _ named (subst (IsPlain text) (sym (only _ reads)) plain)
no_reading root path text file reading source only right none (ReadsAs.faulty d fault) = right _ fault
no_reading root path text file reading source only right none (ReadsAs.faulty_declaration d fault) = true≢false (sym d ∙ source)

-- the text of a declaration file that has no fault
pub no_declaration : (root path text : List ℕ) (reading : Reading) → is_declaration path ≡ true → ((finding : Finding) → HasDeclFault text finding → ⊥) → ReadsAs root path text reading → ⊥
no_declaration root path text reading declared right (ReadsAs.plain d named reads plain) = true≢false (sym declared ∙ d)
no_declaration root path text reading declared right (ReadsAs.faulty d fault) = true≢false (sym declared ∙ d)
no_declaration root path text reading declared right (ReadsAs.faulty_declaration d fault) = right _ fault

-- what is found in them is what is recorded
pub found_diags : (number : ℕ) (folder : List ℕ) (sources : List Source) → flat_map (λ each. entry_diags number each.entry) (map (emitted_of folder) sources) ≡ flat_map (source_diags number) sources
found_diags number folder [] = refl
found_diags number folder (source ∷ rest) = ap (λ l. source_diags number source ++ l) (found_diags number folder rest)

-- ---- one input after the other

module _ (texts : Tree) (root folder : List ℕ) where
  -- what was made of the inputs at these paths
  abbrev pub AreEmitted : List (List ℕ) → List Emitted → Type 0
  AreEmitted paths emitted = (sources : List Source) × AreSources texts root paths sources × (emitted ≡ map (emitted_of folder) sources)

  pub one_more : (paths : List (List ℕ)) (i : ℕ) (path : List ℕ) (emitted new : List Emitted) (each : Emitted) → i < length paths → path ≡ get_or paths i path → AreEmitted (take i paths) emitted
      → (source : Source) × IsSource texts root path source × (each ≡ emitted_of folder source) → new ≡ emitted ++ each ∷ [] → AreEmitted (take (i + 1) paths) new
  one_more paths i path emitted new each lt at are is e = (
    are.0 ++ is.0 ∷ [],
    subst (λ (ps : List (List ℕ)). AreSources texts root ps (are.0 ++ is.0 ∷ [])) (sym (taken paths i path lt at)) (zip_push (IsSource texts root) (take i paths) are.0 path is.0 are.1 is.1),
    e ∙ (λ j. are.2 j ++ is.2 j ∷ []) ∙ sym (map_push (emitted_of folder) are.0 is.0),
  )

  -- each of the paths is that of a source
  pub source_at : (paths : List (List ℕ)) (sources : List Source) (k : ℕ) (path : List ℕ) → AreSources texts root paths sources → k < length paths → path ≡ get_or paths k path
      → (source : Source) × IsSource texts root path source
  source_at paths sources k path are within is =
      let none : Source = record { path = []; text = []; reading = Plain [] (record { items = [] }) } in
      (get_or sources k none, subst (λ (p : List ℕ). IsSource texts root p (get_or sources k none)) (sym is) (zip_at (IsSource texts root) paths sources k path none are within))

-- ---- where the outputs stand

second : (x y z : List ℕ) → Contains (x ∷ y ∷ z ∷ []) y
second x y z = (1, omega arith, refl)

third : (x y z : List ℕ) → Contains (x ∷ y ∷ z ∷ []) z
third x y z = (2, omega arith, refl)

pub outputs_placed : (project : Project) (folder : List ℕ) → HasPaths project folder → HaveOutputPaths project.setting.root folder project.inputs
outputs_placed project folder has path stem named is =
    let js : List ℕ = output_text folder stem (codes ".js") in
    let declaration : List ℕ = output_text folder stem (codes ".d.ts") in
    record {
      js = has.outputs path js named (subst (λ o. Contains (texts_by folder o) js) (sym is) (second stem js declaration));
      declaration = has.outputs path declaration named (subst (λ o. Contains (texts_by folder o) declaration) (sym is) (third stem js declaration));
    }
