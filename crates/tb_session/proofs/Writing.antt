-- What is kept of sources, written in the order of their stems, is their script.
use Rattle.std.proofs.Common.{◌≡◌, ℕ, zero, suc, ◌+◌, List, [], ◌∷◌, ◌++◌, get_or, set, map, swap, flat_map, IsPermutation, IsSortedByKey, refl, sym, ap, ◌∙◌, subst, arith}
use Rattle.std.specs.List.Sorted.{apply_swaps, SwapsInRange}
use Rattle.std.specs.Option.{option_to_list}
use Rattle.std.specs.Ordering.{is_lt}
use Rattle.std.proofs.lemmas.List.{map-set, map-append, length-map, map_push}
use Rattle.tb_text.specs.Bytes.{bytes_cmp}
use Rattle.tb_face.specs.Infos.{spelling}
use Rattle.tb_face.specs.Outputs.{info_text}
use Rattle.tb_face.specs.declared.infos.Entry.{Entry}
use Rattle.tb_outside.specs.declared.disks.DiskStep.{DiskStep}
use Rattle.tb_outside.specs.declared.disks.DiskStep.TheVariants.{Write}
use Rattle.tb_session.specs.declared.sources.Emitted.{Emitted}
use Rattle.tb_session.specs.declared.sources.Outputs.{Outputs}
use Rattle.tb_plan.specs.declared.plans.Project.{Project}
use Rattle.tb_session.specs.Builds.{Pair, pairs_by, pairs_of, outputs_of, info_output, info_with, record_of}
use Rattle.tb_session.specs.Scripts.{write_of, IsScript}
use Rattle.tb_session.specs.Sources.{Reading, Plain, Faulty, Source, Build}
use Rattle.tb_session.specs.Emitted.{emitted_of, outputs_from, outputs_by, output_steps, outputs_made}

-- ---- a permutation of the values of a function

module _ {X Y : Type 0} (f : X → Y) where
  pub get_map : (xs : List X) (k : ℕ) (d : X) → get_or (map f xs) k (f d) ≡ f (get_or xs k d)
  get_map [] k d = refl
  get_map (x ∷ xs) zero d = refl
  get_map (x ∷ xs) (suc k) d = get_map xs k d

  map_swap : (xs : List X) (i j : ℕ) → swap (map f xs) i j ≡ map f (swap xs i j)
  map_swap [] i j = refl
  map_swap (d ∷ ys) i j =
      (λ t. set (set (map f (d ∷ ys)) i (get_map (d ∷ ys) j d t)) j (get_map (d ∷ ys) i d t))
      ∙ ap (λ (l : List Y). set l j (f (get_or (d ∷ ys) i d))) (sym (map-set f (d ∷ ys) i (get_or (d ∷ ys) j d)))
      ∙ sym (map-set f (set (d ∷ ys) i (get_or (d ∷ ys) j d)) j (get_or (d ∷ ys) i d))

  map_swaps : (xs : List X) (moves : List (ℕ × ℕ)) → apply_swaps (map f xs) moves ≡ map f (apply_swaps xs moves)
  map_swaps xs [] = refl
  map_swaps xs (p ∷ ps) = ap (λ (l : List Y). swap l p.0 p.1) (map_swaps xs ps) ∙ map_swap (apply_swaps xs ps) p.0 p.1

  pub unmapped : (xs : List X) (ys : List Y) → IsPermutation (map f xs) ys → (zs : List X) × IsPermutation xs zs × (ys ≡ map f zs)
  unmapped xs ys p = (
    apply_swaps xs p.moves,
    record { moves = p.moves; below = subst (λ (n : ℕ). SwapsInRange n p.moves) (length-map xs f) p.below; is = refl },
    p.is ∙ map_swaps xs p.moves,
  )

-- ---- the steps

abbrev pub info_write : List ℕ → Project → List Entry → DiskStep
info_write folder project entries = Write (info_text folder) (spelling (info_with project entries))

module _ (folder : List ℕ) where
  made_one : (reading : Reading) → option_to_list (outputs_by folder reading) ≡ map (outputs_from folder) (pairs_by reading)
  made_one (Plain stem file) = refl
  made_one (Faulty finding) = refl

  -- what is sorted by the keys of its values is sorted by its own
  keys_back : (zs : List Pair) → IsSortedByKey (λ (own : Outputs). own.stem) bytes_cmp (map (outputs_from folder) zs) → IsSortedByKey (λ (pair : Pair). pair.stem) bytes_cmp zs
  keys_back zs ascending k d low high =
      ap (λ (own : Outputs). is_lt (bytes_cmp own.stem (get_or zs k d).stem)) (sym (get_map (outputs_from folder) zs (k + 1) d))
      ∙ ap (λ (own : Outputs). is_lt (bytes_cmp (get_or (map (outputs_from folder) zs) (k + 1) (outputs_from folder d)).stem own.stem)) (sym (get_map (outputs_from folder) zs k d))
      ∙ ascending k (outputs_from folder d) low (omega (arith, high, length-map zs (outputs_from folder)))

  steps_are : (zs : List Pair) → flat_map output_steps (map (outputs_from folder) zs) ≡ map write_of (flat_map (outputs_of folder) zs)
  steps_are [] = refl
  steps_are (z ∷ zs) = ap (λ (steps : List DiskStep). output_steps (outputs_from folder z) ++ steps) (steps_are zs) ∙ sym (map-append write_of (outputs_of folder z) (flat_map (outputs_of folder) zs))

  entries_are : (sources : List Source) → map (λ (each : Emitted). each.entry) (map (emitted_of folder) sources) ≡ map record_of sources
  entries_are [] = refl
  entries_are (source ∷ rest) = ap (λ (entries : List Entry). record_of source ∷ entries) (entries_are rest)

  outputs_are : (sources : List Source) → flat_map outputs_made (map (emitted_of folder) sources) ≡ map (outputs_from folder) (flat_map pairs_of sources)
  outputs_are [] = refl
  outputs_are (source ∷ rest) = (λ i. made_one source.reading i ++ outputs_are rest i) ∙ sym (map-append (outputs_from folder) (pairs_of source) (flat_map pairs_of rest))

  module _ (project : Project) (emitted : List Emitted) (sources : List Source) (are : emitted ≡ map (emitted_of folder) sources) where
    abbrev build : Build
    build = record { project = project; sources = sources }

    pub is_script : (sorted : List Outputs) (steps : List DiskStep) → IsPermutation (flat_map outputs_made emitted) sorted → IsSortedByKey (λ (own : Outputs). own.stem) bytes_cmp sorted
        → steps ≡ flat_map output_steps sorted ++ info_write folder project (map (λ (each : Emitted). each.entry) emitted) ∷ [] → IsScript folder build steps
    is_script sorted steps moved ascending is =
        let outputs : flat_map outputs_made emitted ≡ map (outputs_from folder) (flat_map pairs_of sources) = ap (flat_map outputs_made) are ∙ outputs_are sources in
        let entries : map (λ (each : Emitted). each.entry) emitted ≡ map record_of sources = ap (map (λ (each : Emitted). each.entry)) are ∙ entries_are sources in
        let back = unmapped (outputs_from folder) (flat_map pairs_of sources) sorted (subst (λ (ws : List Outputs). IsPermutation ws sorted) outputs moved) in
        record {
          ordered = back.0;
          same = back.1;
          ascending = keys_back back.0 (subst (IsSortedByKey (λ (own : Outputs). own.stem) bytes_cmp) back.2 ascending);
          are = is
              ∙ (λ i. flat_map output_steps (back.2 i) ++ info_write folder project (entries i) ∷ [])
              ∙ (λ i. steps_are back.0 i ++ write_of (info_output folder build) ∷ [])
              ∙ sym (map_push write_of (flat_map (outputs_of folder) back.0) (info_output folder build));
        }
