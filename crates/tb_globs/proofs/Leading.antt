-- The front of a pattern: it is a path, and all that the pattern matches in `include` lies within it.
use Rattle.std.proofs.Common.{◌≡◌, ℕ, ◌≤◌, Bool, true, false, List, [], ◌∷◌, ◌++◌, length, take, drop, map, refl, sym, ap, ◌∙◌, subst, arith, append_assoc, length-append, take-append-drop}
use Rattle.std.specs.Prelude.{option_map, ◌||◌, Option, Some, nat_le, if◌then◌else◌}
use Rattle.std.specs.List.{join_by, list_all, list_any}
use Rattle.std.specs.Str.{bytes_eq}
use Rattle.std.proofs.lemmas.Bool.{false≢true, leb-true, or_left, or_right}
use Rattle.std.proofs.lemmas.List.{append-nil}
use Rattle.std.proofs.lemmas.List.Folds.{list_all-append}
use Rattle.std.proofs.lemmas.Slice.Eq.{bytes_eq-Decides}
use Rattle.tb_text.specs.Paths.{is_inside, is_path, joined, is_proper_front, is_segment, path_text, segments}
use Rattle.tb_text.specs.Walks.{AllBare, texts}
use Rattle.tb_text.proofs.Segments.{and_both, front_at, segments_back, segments_bare, text_append, text_back, whole_path}
use denote.Ref.{Bor}
use Rattle.tb_globs.specs.Covers.{is_wild}
use Rattle.tb_globs.specs.Fronts.{AreParts, AreSegments, is_within, names_of}
use Rattle.tb_globs.specs.Globs.{all_match, everything, is_folder_name, is_match, kept, last_of, may_match, named_parts, own_part, parts_at}
use Rattle.tb_globs.specs.declared.parts.Part.{Part}
use Rattle.tb_globs.specs.declared.parts.Part.TheVariants.{Folders, Literal, Wild}
use Rattle.tb_globs.specs.declared.parts.UseOf.TheVariants.{Include}

-- ---- names put together

joined_text : (x : Bor (List ℕ)) (xs : List (Bor (List ℕ))) → join_by (λ (s : Bor (List ℕ)). s.now) (47 ∷ []) (x ∷ xs) ≡ path_text (texts (x ∷ xs))
joined_text x [] = append-nil x.now
joined_text x (y ∷ ys) = ap (λ (t : List ℕ). x.now ++ 47 ∷ t) (joined_text y ys)

pub joined_texts : (xs : List (Bor (List ℕ))) → join_by (λ (s : Bor (List ℕ)). s.now) (47 ∷ []) xs ≡ path_text (texts xs)
joined_texts [] = refl
joined_texts (x ∷ xs) = joined_text x xs

-- the first list is a front of the second
abbrev pub Fronts : List (List ℕ) → List (List ℕ) → Type 0
Fronts xs ys = (more : List (List ℕ)) × (ys ≡ xs ++ more)

-- ---- the names of a pattern are the first segments of its path

literal_names : (xs : List (List ℕ)) (parts : List Part) → names_of (map Literal xs ++ parts) ≡ xs ++ names_of parts
literal_names [] parts = refl
literal_names (x ∷ xs) parts = ap (λ (l : List (List ℕ)). x ∷ l) (literal_names xs parts)

part_names : (star wild : Bool) (s : List ℕ) (parts : List Part) (rest : List (List ℕ)) (ps : List ℕ) → Fronts (names_of parts) rest
    → Fronts (names_of ((if star then Folders else if wild then Wild ps else Literal s) ∷ parts)) (s ∷ rest)
part_names true wild s parts rest ps f = (s ∷ rest, refl)
part_names false true s parts rest ps f = (s ∷ rest, refl)
part_names false false s parts rest ps f = (f.0, ap (λ (l : List (List ℕ)). s ∷ l) f.1)

own_names : (ss : List (List ℕ)) (parts : List Part) → names_of parts ≡ [] → Fronts (names_of (map own_part ss ++ parts)) ss
own_names [] parts none = ([], sym none ∙ sym (append-nil (names_of parts)))
own_names (s ∷ ss) parts none = part_names (bytes_eq s (42 ∷ 42 ∷ [])) (list_any is_wild s) s (map own_part ss ++ parts) ss _ (own_names ss parts none)

named_names : (n : ℕ) (ss : List (List ℕ)) (parts : List Part) → names_of parts ≡ [] → Fronts (names_of (named_parts n ss ++ parts)) ss
named_names n ss parts none =
    let own = own_names (drop n ss) parts none in
    let same : names_of (named_parts n ss ++ parts) ≡ take n ss ++ names_of (map own_part (drop n ss) ++ parts) = ap names_of (append_assoc (map Literal (take n ss)) (map own_part (drop n ss)) parts) ∙ literal_names (take n ss) (map own_part (drop n ss) ++ parts) in
    (own.0, sym (take-append-drop n ss) ∙ ap (λ (l : List (List ℕ)). take n ss ++ l) own.1 ∙ sym (append_assoc (take n ss) (names_of (map own_part (drop n ss) ++ parts)) own.0) ∙ ap (λ (l : List (List ℕ)). l ++ own.0) (sym same))

choice_names : (above folder : Bool) (ss : List (List ℕ)) (n : ℕ) → Fronts (names_of (if above then map Literal ss ++ everything else if folder then named_parts n ss ++ everything else named_parts n ss)) ss
choice_names true folder ss n = ([], sym (append-nil ss) ∙ ap (λ (l : List (List ℕ)). l ++ []) (sym (literal_names ss everything ∙ append-nil ss)))
choice_names false true ss n = named_names n ss everything refl
choice_names false false ss n = subst (λ (parts : List Part). Fronts (names_of parts) ss) (append-nil (named_parts n ss)) (named_names n ss [] refl)

names_front : (base text path : List ℕ) → Fronts (names_of (parts_at base text path)) (segments path)
names_front base text path = choice_names (bytes_eq path base || is_inside path base) (is_folder_name (last_of (segments path))) (segments path) (kept base text)

-- ---- so they are a path

bare_front : (xs ys : List (List ℕ)) → AllBare (xs ++ ys) → AllBare xs
bare_front [] ys all = tt
bare_front (x ∷ xs) ys all = (all.0, bare_front xs ys all.1)

shorter_text : (xs ys : List (List ℕ)) → length (path_text xs) ≤ length (path_text (xs ++ ys))
shorter_text [] ys = omega arith
shorter_text (x ∷ xs) [] = omega (arith, ap (λ (l : List (List ℕ)). length (path_text l)) (append-nil (x ∷ xs)))
shorter_text (x ∷ xs) (y ∷ ys) = omega (arith, ap length (text_append x xs y ys), length-append (path_text (x ∷ xs)) (47 ∷ path_text (y ∷ ys)))

pub front_whole : (base text path : List ℕ) → is_path path ≡ true → AreSegments (names_of (parts_at base text path))
front_whole base text path e =
    let names = names_of (parts_at base text path) in
    let f = names_front base text path in
    let both = and_both (nat_le (length path) 1024) (list_all is_segment (segments path)) e in
    let all = and_both (list_all is_segment names) (list_all is_segment f.0) (sym (list_all-append is_segment names f.0) ∙ ap (list_all is_segment) (sym f.1) ∙ both.1) in
    let size : length (path_text (names ++ f.0)) ≡ length path = ap (λ (l : List (List ℕ)). length (path_text l)) (sym f.1) ∙ ap length (text_back path) in
    record {
      bare = bare_front names f.0 (subst AllBare f.1 (segments_bare path));
      each = all.0;
      short = omega (arith, shorter_text names f.0, size, leb-true (length path) 1024 both.0);
    }

pub front_is_path : (base text path : List ℕ) → is_path path ≡ true → is_path (path_text (names_of (parts_at base text path))) ≡ true
front_is_path base text path e =
    let w = front_whole base text path e in
    whole_path (names_of (parts_at base text path)) w.bare w.short w.each

-- ---- what is matched lies within it

matched_front : (parts : List Part) (ss : List (List ℕ)) → all_match Include parts ss ≡ true → Fronts (names_of parts) ss
matched_front [] ss e = (ss, refl)
matched_front (Folders ∷ parts) ss e = (ss, refl)
matched_front (Wild ps ∷ parts) ss e = (ss, refl)
matched_front (Literal name ∷ parts) [] e = absurd (cc)
matched_front (Literal name ∷ parts) (s ∷ ss) e =
    let both = and_both (bytes_eq name s) (all_match Include parts ss) e in
    let same : name ≡ s = (bytes_eq-Decides name s).0 both.0 in
    let f = matched_front parts ss both.1 in
    (f.0, ap (λ (t : List ℕ). t ∷ ss) (sym same) ∙ ap (λ (l : List (List ℕ)). name ∷ l) f.1)

within : (names more : List (List ℕ)) (path : List ℕ) → AllBare names → list_all is_segment names ≡ true → segments path ≡ names ++ more → is_within (path_text names) path ≡ true
within names [] path bare each e =
    let same : path_text names ≡ path = ap path_text (sym (e ∙ append-nil names)) ∙ text_back path in
    or_left (bytes_eq (path_text names) path) (is_inside (path_text names) path) ((bytes_eq-Decides (path_text names) path).1 same)
within names (y ∷ more) path bare each e =
    or_right (bytes_eq (path_text names) path) (is_inside (path_text names) path)
    (ap (λ (l : List (List ℕ)). is_proper_front l (segments path)) (segments_back names bare each) ∙ ap (is_proper_front names) e ∙ front_at names (y ∷ more) (omega arith))

matched_within : (parts : List Part) (path : List ℕ) → AreSegments (names_of parts) → all_match Include parts (segments path) ≡ true → is_within (path_text (names_of parts)) path ≡ true
matched_within parts path w e = let f = matched_front parts (segments path) e in within (names_of parts) f.0 path w.bare w.each f.1

pub folder_all : (base text : List ℕ) (parts : List Part) (folder : List ℕ) → AreParts base text parts folder → (path : List ℕ) → is_match (base, text) Include path ≡ true → is_within folder path ≡ true
folder_all base text parts folder a path e =
    let matched : all_match Include parts (segments path) ≡ true = sym (ap (λ (o : Option (List Part)). may_match o Include (segments path)) a.are) ∙ e in
    ap (λ (f : List ℕ). is_within f path) a.front ∙ matched_within parts path a.segments matched

-- what was read from a path
pub front_wrong : (base text path : List ℕ) (parts : List Part) → is_path path ≡ true → parts ≡ parts_at base text path → is_path (path_text (names_of parts)) ≡ false → ⊥
front_wrong base text path parts e is bad = false≢true (sym bad ∙ ap (λ (p : List Part). is_path (path_text (names_of p))) is ∙ front_is_path base text path e)

pub parts_read : (base text path : List ℕ) (parts : List Part) → is_path path ≡ true → joined base text ≡ Some path → parts ≡ parts_at base text path → (of_parts : List Part) → of_parts ≡ parts
    → (folder : List ℕ) → folder ≡ path_text (names_of of_parts) → AreParts base text parts folder
parts_read base text path parts e joins is of_parts same folder front = record {
  are = ap (option_map (parts_at base text)) joins ∙ ap Some (sym is);
  front = front ∙ ap (λ (p : List Part). path_text (names_of p)) same;
  segments = subst (λ (p : List Part). AreSegments (names_of p)) (sym is) (front_whole base text path e);
}
