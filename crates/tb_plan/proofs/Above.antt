-- A path lies inside the folder that it stands in, and inside those that this folder lies in, and inside no other.
use Rattle.std.proofs.Common.{◌≡◌, ℕ, ◌<◌, ◌==◌, true, false, List, [], ◌∷◌, ◌++◌, length, refl, sym, ap, subst, ◌∙◌, inl, inr, arith, length-append}
use Rattle.std.specs.Prelude.{◌⊎◌, ◌&&◌, Some, None}
use Rattle.std.specs.Str.{bytes_eq}
use Rattle.std.proofs.lemmas.Bool.{false≢true}
use Rattle.std.proofs.lemmas.List.Splits.{slice_split_at, slice_split_none}
use Rattle.std.proofs.lemmas.Slice.Eq.{bytes_eq-Decides}
use Rattle.tb_text.specs.Paths.{is_inside, is_proper_front, parent_of, path_text, segments, without_last}
use Rattle.tb_text.specs.Walks.{AllBare}
use Rattle.tb_text.proofs.Segments.{split, and_both, text_back, text_append, front_at, some_part, segments_bare, bare_without_last}

-- ---- fronts of lists of segments

front_up : (fs ts : List (List ℕ)) (s : List ℕ) → is_proper_front fs (ts ++ s ∷ []) ≡ true → (fs ≡ ts) ⊎ (is_proper_front fs ts ≡ true)
front_up [] [] s e = inl refl
front_up [] (t ∷ ts) s e = inr refl
front_up (f ∷ []) [] s e = absurd (false≢true ((and_both (bytes_eq f s) false e).1))
front_up (f ∷ g ∷ fs) [] s e = absurd (false≢true ((and_both (bytes_eq f s) false e).1))
front_up (f ∷ fs) (t ∷ ts) s e =
    let both = and_both (bytes_eq f t) (is_proper_front fs (ts ++ s ∷ [])) e in
    elim (front_up fs ts s both.1) [
      | inl same ↦ inl (ap (λ (x : List ℕ). x ∷ fs) ((bytes_eq-Decides f t).0 both.0) ∙ ap (λ (l : List (List ℕ)). t ∷ l) same)
      | inr inside ↦ inr (ap (λ b. b && is_proper_front fs ts) both.0 ∙ inside)
    ]

no_front : (fs : List (List ℕ)) → is_proper_front fs [] ≡ true → ⊥
no_front [] e = false≢true e
no_front (f ∷ fs) e = false≢true e

front_down : (fs ts : List (List ℕ)) (s : List ℕ) → is_proper_front fs ts ≡ true → is_proper_front fs (ts ++ s ∷ []) ≡ true
front_down [] [] s e = absurd (false≢true e)
front_down [] (t ∷ ts) s e = refl
front_down (f ∷ fs) [] s e = absurd (false≢true e)
front_down (f ∷ fs) (t ∷ ts) s e =
    let both = and_both (bytes_eq f t) (is_proper_front fs ts) e in
    ap (λ b. b && is_proper_front fs (ts ++ s ∷ [])) both.0 ∙ front_down fs ts s both.1

last_part : (s : List ℕ) (ss : List (List ℕ)) → (l : List ℕ) × (s ∷ ss ≡ without_last (s ∷ ss) ++ l ∷ [])
last_part s [] = (s, refl)
last_part s (t ∷ ss) = let r = last_part t ss in (r.0, ap (λ (l : List (List ℕ)). s ∷ l) r.1)

-- ---- segments, put together and cut again

split_back : (s : List ℕ) (rest : List (List ℕ)) → AllBare (s ∷ rest) → split (path_text (s ∷ rest)) ≡ s ∷ rest
split_back s [] all = slice_split_none (λ c. c == 47) s all.0
split_back s (next ∷ rest) all = slice_split_at (λ c. c == 47) s 47 (path_text (next ∷ rest)) all.0 refl ∙ ap (λ (parts : List (List ℕ)). s ∷ parts) (split_back next rest all.1)

cut_again : (parts : List (List ℕ)) → AllBare parts → (segments (path_text parts) ≡ parts) ⊎ (parts ≡ [] ∷ [])
cut_again [] all = inl refl
cut_again ([] ∷ []) all = inr refl
cut_again ((b ∷ s) ∷ []) all = inl (split_back (b ∷ s) [] all)
cut_again ([] ∷ next ∷ rest) all = inl (split_back [] (next ∷ rest) all)
cut_again ((b ∷ s) ∷ next ∷ rest) all = inl (split_back (b ∷ s) (next ∷ rest) all)

-- no text has the empty segment alone
never_empty : (t : List ℕ) → segments t ≡ [] ∷ [] → ⊥
never_empty [] e = cc
never_empty (b ∷ t) e = let back : [] ≡ b ∷ t = sym (ap path_text e) ∙ text_back (b ∷ t) in cc

-- ---- the folder that a path stands in

record Stands (path folder : List ℕ) : Type 0 where
  parts : List (List ℕ)
  last : List ℕ
  path_is : segments path ≡ parts ++ last ∷ []
  text : folder ≡ path_text parts
  cut : (segments folder ≡ parts) ⊎ (parts ≡ [] ∷ [])

none_some : (x : List ℕ) → None ≡ Some x → ⊥
none_some x e = cc

some_same : (x y : List ℕ) → Some x ≡ Some y → x ≡ y
some_same x y e = cc

stands_at : (b : ℕ) (rest folder s : List ℕ) (ss : List (List ℕ)) → segments (b ∷ rest) ≡ s ∷ ss → parent_of (b ∷ rest) ≡ Some folder → Stands (b ∷ rest) folder
stands_at b rest folder s ss e up =
    let parts = without_last (s ∷ ss) in
    let text : folder ≡ path_text parts = sym (some_same (path_text (without_last (segments (b ∷ rest)))) folder up) ∙ ap (λ (l : List (List ℕ)). path_text (without_last l)) e in
    let bare : AllBare parts = bare_without_last (s ∷ ss) (subst AllBare e (segments_bare (b ∷ rest))) in
    let l = last_part s ss in
    record {
      parts = parts;
      last = l.0;
      path_is = e ∙ l.1;
      text = text;
      cut = elim (cut_again parts bare) [ inl same ↦ inl (ap segments text ∙ same) | inr one ↦ inr one ];
    }

some_segments : (ss : List (List ℕ)) → 0 < length ss → (s : List ℕ) × (rest : List (List ℕ)) × (ss ≡ s ∷ rest)
some_segments [] lt = absurd (omega arith)
some_segments (s ∷ rest) lt = (s, rest, refl)

stands : (path folder : List ℕ) → parent_of path ≡ Some folder → Stands path folder
stands [] folder up = absurd (none_some folder up)
stands (b ∷ rest) folder up =
    let s = some_segments (segments (b ∷ rest)) (some_part (b ∷ rest)) in
    stands_at b rest folder s.0 s.1 s.2 up

-- the root's text, where the segments of its text are not those that were put together
empty_folder : (path folder : List ℕ) (k : Stands path folder) → k.parts ≡ [] ∷ [] → folder ≡ []
empty_folder path folder k e = k.text ∙ ap path_text e

front_of_one : (ss : List (List ℕ)) (folder : List ℕ) → segments folder ≡ ss → is_proper_front ss ([] ∷ []) ≡ true → folder ≡ []
front_of_one [] folder e h = sym (text_back folder) ∙ ap path_text e
front_of_one (s ∷ []) folder e h = absurd (false≢true (and_both (bytes_eq s []) false h).1)
front_of_one (s ∷ t ∷ ss) folder e h = absurd (false≢true (and_both (bytes_eq s []) false h).1)

not_empty_front : (folder : List ℕ) (parts : List (List ℕ)) → parts ≡ [] ∷ [] → (segments folder ≡ parts) ⊎ (is_proper_front (segments folder) parts ≡ true) → folder ≡ []
not_empty_front folder parts one h = elim h [
  | inl same ↦ absurd (never_empty folder (same ∙ one))
  | inr inside ↦ front_of_one (segments folder) folder refl (ap (is_proper_front (segments folder)) (sym one) ∙ inside)
]

pub up_from : (folder path at : List ℕ) → parent_of path ≡ Some at → is_inside folder path ≡ true → (folder ≡ at) ⊎ (is_inside folder at ≡ true)
up_from folder path at up e =
    let k = stands path at up in
    let h = front_up (segments folder) k.parts k.last (ap (is_proper_front (segments folder)) (sym k.path_is) ∙ e) in
    elim k.cut [
      | inl cut ↦ elim h [
        | inl same ↦ inl (sym (text_back folder) ∙ ap path_text (same ∙ sym cut) ∙ text_back at)
        | inr i ↦ inr (ap (is_proper_front (segments folder)) cut ∙ i)
      ]
      | inr one ↦ inl (not_empty_front folder k.parts one h ∙ sym (empty_folder path at k one))
    ]

pub up_itself : (path at : List ℕ) → parent_of path ≡ Some at → is_inside at path ≡ true
up_itself path at up =
    let k = stands path at up in
    elim k.cut [
      | inl cut ↦ ap (λ (l : List (List ℕ)). is_proper_front l (segments path)) cut ∙ ap (is_proper_front k.parts) k.path_is ∙ front_at k.parts (k.last ∷ []) (omega arith)
      | inr one ↦ ap (λ (f : List ℕ). is_inside f path) (empty_folder path at k one) ∙ ap (is_proper_front []) (k.path_is ∙ ap (λ (l : List (List ℕ)). l ++ k.last ∷ []) one)
    ]

pub up_further : (folder path at : List ℕ) → parent_of path ≡ Some at → is_inside folder at ≡ true → is_inside folder path ≡ true
up_further folder path at up e =
    let k = stands path at up in
    elim k.cut [
      | inl cut ↦ ap (is_proper_front (segments folder)) k.path_is ∙ front_down (segments folder) k.parts k.last (ap (is_proper_front (segments folder)) (sym cut) ∙ e)
      | inr one ↦ absurd (no_front (segments folder) (ap (is_inside folder) (sym (empty_folder path at k one)) ∙ e))
    ]

pub inside_none : (folder path : List ℕ) → parent_of path ≡ None → is_inside folder path ≡ true → ⊥
inside_none folder [] up e = no_front (segments folder) e
inside_none folder (b ∷ rest) up e = cc

text_shorter : (parts : List (List ℕ)) (last : List ℕ) → (length (path_text parts) < length (path_text (parts ++ last ∷ []))) ⊎ (parts ≡ [])
text_shorter [] last = inr refl
text_shorter (p ∷ parts) last = inl (omega (arith, ap length (text_append p parts last []), length-append (path_text (p ∷ parts)) (47 ∷ path_text (last ∷ []))))

-- a folder's text is shorter than that of what stands in it
pub up_shorter : (path at : List ℕ) → parent_of path ≡ Some at → length at < length path
up_shorter [] at up = absurd (none_some at up)
up_shorter (b ∷ rest) at up =
    let k = stands (b ∷ rest) at up in
    let whole : path_text (k.parts ++ k.last ∷ []) ≡ b ∷ rest = ap path_text (sym k.path_is) ∙ text_back (b ∷ rest) in
    elim (text_shorter k.parts k.last) [
      | inl lt ↦ omega (arith, lt, ap length whole, ap length k.text)
      | inr none ↦ omega (arith, ap length (k.text ∙ ap path_text none))
    ]
