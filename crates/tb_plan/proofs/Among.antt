-- A path among paths, and among the files of a tree.
use Rattle.std.proofs.Common.{◌≡◌, ℕ, Bool, true, false, List, [], ◌∷◌, refl, sym, ap, subst, ◌∙◌, inl, inr}
use Rattle.std.specs.Prelude.{◌⊎◌, ◌||◌, Option, Some, None, is_some}
use Rattle.std.specs.List.{list_any}
use Rattle.std.specs.Str.{bytes_eq}
use Rattle.std.specs.FinMap.{get, keys, contains_key-keys}
use Rattle.std.specs.Ordering.{eq_by_cmp}
use Rattle.std.proofs.lemmas.Slice.Eq.{bytes_eq-Decides}
use Rattle.std.proofs.lemmas.Bool.{false≢true}
use Rattle.tb_text.specs.Bytes.{bytes_cmp}
use Rattle.tb_plan.specs.Orders.{Tree, Paths, is_among}
use Rattle.tb_plan.proofs.Members.{In}
use Rattle.tb_plan.proofs.Numbered.{at_same, at_itself}

-- ---- what a test finds

pub any_from : {X : Type 0} (p : X → Bool) (xs : List X) → list_any p xs ≡ true → (x : X) × In xs x × (p x ≡ true)
any_from p [] e = absurd (false≢true e)
any_from p (x ∷ xs) e = elim (p x) as (λ b. p x ≡ b → (b || list_any p xs) ≡ true → (y : _) × In (x ∷ xs) y × (p y ≡ true)) [
  | true ↦ λ t f. (x, inl refl, t)
  | false ↦ λ t f. let r = any_from p xs f in (r.0, inr r.1, r.2)
] refl e

or_right : (a b : Bool) → b ≡ true → (a || b) ≡ true
or_right true b e = refl
or_right false b e = e

pub any_in : {X : Type 0} (p : X → Bool) (xs : List X) (x : X) → In xs x → p x ≡ true → list_any p xs ≡ true
any_in p [] x h e = absurd h
any_in p (y ∷ xs) x h e = elim h [
  | inl s ↦ ap (λ b. b || list_any p xs) (ap p s ∙ e)
  | inr t ↦ or_right (p y) (list_any p xs) (any_in p xs x t e)
]

-- ---- paths

pub among_in : (paths : Paths) (path : List ℕ) → is_among paths path ≡ true → In paths path
among_in paths path e =
    let r = any_from (bytes_eq path) paths e in
    subst (In paths) (sym ((bytes_eq-Decides path r.0).0 r.2)) r.1

pub in_among : (paths : Paths) (path : List ℕ) → In paths path → is_among paths path ≡ true
in_among paths path h = any_in (bytes_eq path) paths path h ((bytes_eq-Decides path path).1 refl)

-- ---- files

pub file_in : (tree : Tree) (path : List ℕ) → is_some (get tree path) ≡ true → In (keys tree) path
file_in tree path e =
    let r = any_from (eq_by_cmp bytes_cmp path) (keys tree) (sym (contains_key-keys tree path) ∙ e) in
    subst (In (keys tree)) (sym (at_same path r.0 r.2)) r.1

pub in_file : (tree : Tree) (path : List ℕ) → In (keys tree) path → is_some (get tree path) ≡ true
in_file tree path h = contains_key-keys tree path ∙ any_in (eq_by_cmp bytes_cmp path) (keys tree) path h (at_itself path)

none_or : (o : Option (List ℕ)) → (o ≡ None) ⊎ (is_some o ≡ true)
none_or None = inl refl
none_or (Some x) = inr refl

pub is_file_or_none : (tree : Tree) (path : List ℕ) → (get tree path ≡ None) ⊎ In (keys tree) path
is_file_or_none tree path = elim (none_or (get tree path)) [ inl e ↦ inl e | inr e ↦ inr (file_in tree path e) ]
