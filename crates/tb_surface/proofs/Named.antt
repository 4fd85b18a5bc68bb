-- Names in lists and in sets.
use Rattle.std.proofs.Common.{◌≡◌, ℕ, ◌+◌, ◌<◌, take, Bool, true, false, cond, List, [], ◌∷◌, ◌++◌, length, get_or, refl, sym, ap, subst, ◌∙◌, inl, inr}
use Rattle.std.specs.Prelude.{◌⊎◌, ◌||◌, ◌&&◌, not, map, if◌then◌else◌}
use Rattle.std.specs.List.{list_any, filter, flat_map}
use Rattle.std.specs.Str.{bytes_eq}
use Rattle.std.specs.BTreeSet.{BTreeSet, contains}
use Rattle.std.specs.BTreeMap.{is_at}
use Rattle.std.specs.Ordering.{is_eq}
use Rattle.std.specs.declared.cmp.Ordering.{Ordering}
use Rattle.std.specs.declared.cmp.Ordering.TheVariants.{Less, Equal, Greater}
use Rattle.std.specs.Cmp.{tied_itself}
use Rattle.std.specs.Cmp.Lexicographic.{nat_list_cmp_total}
use Rattle.std.proofs.lemmas.Map.Lookups.{exact_bytes}
use Rattle.std.proofs.lemmas.Slice.Eq.{bytes_eq-Decides}
use Rattle.std.proofs.lemmas.Bool.{false≢true}
use Rattle.std.proofs.lemmas.List.{map_push}
use Rattle.tb_text.specs.Bytes.{bytes_cmp}
use Rattle.tb_tree.specs.declared.exprs.Identifier.{Identifier}
use Rattle.tb_layout.specs.Parts.{is_one_of, identifier_name, unbound}
use Rattle.tb_surface.specs.Names.{HasNames, Gained}
use Rattle.tb_surface.proofs.Members.{In}
use Rattle.tb_surface.proofs.Joins.{taken, flat_push, filter_all, filter_same, filter_push}

-- ---- truth values

pub true_or_false : (b : Bool) → (b ≡ true) ⊎ (b ≡ false)
true_or_false true = inl refl
true_or_false false = inr refl

pub same_truth : (a b : Bool) → (a ≡ true → b ≡ true) → (b ≡ true → a ≡ true) → a ≡ b
same_truth true true f g = refl
same_truth true false f g = sym (f refl)
same_truth false true f g = g refl
same_truth false false f g = refl

pub or_left : (a b : Bool) → a ≡ true → (a || b) ≡ true
or_left true b e = refl
or_left false b e = absurd (false≢true e)

pub or_right : (a b : Bool) → b ≡ true → (a || b) ≡ true
or_right true b e = refl
or_right false b e = e

pub or_cases : (a b : Bool) → (a || b) ≡ true → (a ≡ true) ⊎ (b ≡ true)
or_cases true b e = inl refl
or_cases false b e = inr e

pub or_false : (a : Bool) → (a || false) ≡ a
or_false true = refl
or_false false = refl

pub or_assoc : (a b c : Bool) → ((a || b) || c) ≡ (a || (b || c))
or_assoc true b c = refl
or_assoc false b c = refl

pub and_false : (a : Bool) → (a && false) ≡ false
and_false true = refl
and_false false = refl

pub and_cases : (a b : Bool) → (a && b) ≡ true → (a ≡ true) × (b ≡ true)
and_cases true b e = (refl, e)
and_cases false b e = absurd (false≢true e)

pub and_both : (a b : Bool) → a ≡ true → b ≡ true → (a && b) ≡ true
and_both true b e f = f
and_both false b e f = absurd (false≢true e)

pub in_if : {X : Type 0} (b : Bool) (xs : List X) (x : X) → In (if b then xs else []) x → (b ≡ true) × In xs x
in_if true xs x h = (refl, h)
in_if false xs x h = absurd h

pub if_in : {X : Type 0} (b : Bool) (xs : List X) (x : X) → b ≡ true → In xs x → In (if b then xs else []) x
if_in true xs x e h = h
if_in false xs x e h = absurd (false≢true e)

-- ---- names

equal_from : (r : Ordering) → is_eq r ≡ true → r ≡ Equal
equal_from Less e = absurd (cc)
equal_from Equal e = refl
equal_from Greater e = absurd (cc)

pub at_itself : (name : List ℕ) → is_at (bytes_cmp name) name ≡ true
at_itself name = ap is_eq (tied_itself nat_list_cmp_total name)

pub at_same : (name other : List ℕ) → is_at (bytes_cmp name) other ≡ true → name ≡ other
at_same name other e = exact_bytes name other (equal_from (bytes_cmp name other) e)

pub eq_itself : (name : List ℕ) → bytes_eq name name ≡ true
eq_itself name = (bytes_eq-Decides name name).1 refl

pub eq_same : (name other : List ℕ) → bytes_eq name other ≡ true → name ≡ other
eq_same name other e = (bytes_eq-Decides name other).0 e

-- the order of names and their equality find the same
pub at_eq : (name other : List ℕ) → is_at (bytes_cmp name) other ≡ bytes_eq other name
at_eq name other =
    same_truth (is_at (bytes_cmp name) other) (bytes_eq other name)
    (λ e. subst (λ x. bytes_eq x name ≡ true) (at_same name other e) (eq_itself name))
    (λ e. subst (λ x. is_at (bytes_cmp name) x ≡ true) (sym (eq_same other name e)) (at_itself name))

any_from : {X : Type 0} (p : X → Bool) (xs : List X) → list_any p xs ≡ true → (x : X) × In xs x × (p x ≡ true)
any_from p [] e = absurd (false≢true e)
any_from p (x ∷ xs) e = elim (p x) as (λ b. p x ≡ b → (b || list_any p xs) ≡ true → (y : _) × In (x ∷ xs) y × (p y ≡ true)) [
  | true ↦ λ t f. (x, inl refl, t)
  | false ↦ λ t f. let r = any_from p xs f in (r.0, inr r.1, r.2)
] refl e

any_in : {X : Type 0} (p : X → Bool) (xs : List X) (x : X) → In xs x → p x ≡ true → list_any p xs ≡ true
any_in p [] x h e = absurd h
any_in p (y ∷ xs) x h e = elim h [
  | inl s ↦ ap (λ b. b || list_any p xs) (ap p s ∙ e)
  | inr t ↦ or_right (p y) (list_any p xs) (any_in p xs x t e)
]

pub one_in : (names : List (List ℕ)) (name : List ℕ) → is_one_of names name ≡ true → In names name
one_in names name e =
    let r = any_from (bytes_eq name) names e in
    subst (In names) (sym (eq_same name r.0 r.2)) r.1

pub in_one : (names : List (List ℕ)) (name : List ℕ) → In names name → is_one_of names name ≡ true
in_one names name h = any_in (bytes_eq name) names name h (eq_itself name)

any_join : {X : Type 0} (p : X → Bool) (xs ys : List X) → list_any p (xs ++ ys) ≡ (list_any p xs || list_any p ys)
any_join p [] ys = refl
any_join p (x ∷ xs) ys = ap (λ b. p x || b) (any_join p xs ys) ∙ sym (or_assoc (p x) (list_any p xs) (list_any p ys))

pub one_join : (xs ys : List (List ℕ)) (name : List ℕ) → is_one_of (xs ++ ys) name ≡ (is_one_of xs name || is_one_of ys name)
one_join xs ys name = any_join (bytes_eq name) xs ys

-- ---- sets of names

pub gained_none : (set : BTreeSet (List ℕ)) → Gained set set []
gained_none set name = sym (or_false (contains bytes_cmp set name))

pub gained_then : (a b c : BTreeSet (List ℕ)) (xs ys : List (List ℕ)) → Gained a b xs → Gained b c ys → Gained a c (xs ++ ys)
gained_then a b c xs ys f g name =
    g name ∙ ap (λ t. t || is_one_of ys name) (f name) ∙ or_assoc (contains bytes_cmp a name) (is_one_of xs name) (is_one_of ys name)
    ∙ ap (λ t. contains bytes_cmp a name || t) (sym (one_join xs ys name))

put_truth : (e m : Bool) → cond e true m ≡ (m || (e || false))
put_truth true true = refl
put_truth true false = refl
put_truth false true = refl
put_truth false false = refl

pub gained_one : (old new : BTreeSet (List ℕ)) (key name : List ℕ) → key ≡ name → ((other : List ℕ) → contains bytes_cmp new other ≡ cond (is_at (bytes_cmp key) other) true (contains bytes_cmp old other))
    → Gained old new (name ∷ [])
gained_one old new key name is put other =
    put other ∙ ap (λ e. cond e true (contains bytes_cmp old other)) (ap (λ k. is_at (bytes_cmp k) other) is ∙ at_eq name other)
    ∙ put_truth (bytes_eq other name) (contains bytes_cmp old other)

-- a set that began with none has what it got
pub has_gained : (old new : BTreeSet (List ℕ)) (names : List (List ℕ)) → old.keys ≡ [] → Gained old new names → HasNames new names
has_gained old new names none f name = f name ∙ ap (λ keys. list_any (is_at (bytes_cmp name)) keys || is_one_of names name) none

pub has_none : (set : BTreeSet (List ℕ)) → set.keys ≡ [] → HasNames set []
has_none set none name = ap (list_any (is_at (bytes_cmp name))) none

pub has_more : (old new : BTreeSet (List ℕ)) (xs ys : List (List ℕ)) → HasNames old xs → Gained old new ys → HasNames new (xs ++ ys)
has_more old new xs ys f g name = g name ∙ ap (λ t. t || is_one_of ys name) (f name) ∙ sym (one_join xs ys name)

pub has_one_more : {X : Type 0} (f : X → List ℕ) (all : List X) (i : ℕ) (x : X) (old new : BTreeSet (List ℕ)) (key : List ℕ) → i < length all → x ≡ get_or all i x
    → HasNames old (map f (take i all)) → key ≡ f x → ((other : List ℕ) → contains bytes_cmp new other ≡ cond (is_at (bytes_cmp key) other) true (contains bytes_cmp old other))
    → HasNames new (map f (take (i + 1) all))
has_one_more f all i x old new key lt is has key_is put =
    subst (HasNames new) (sym (ap (map f) (taken all i x lt is) ∙ map_push f (take i all) x))
    (has_more old new (map f (take i all)) (f x ∷ []) has (gained_one old new key (f x) key_is put))

pub gained_one_more : {X : Type 0} (f : X → List ℕ) (all : List X) (i : ℕ) (x : X) (first old new : BTreeSet (List ℕ)) (key : List ℕ) → i < length all → x ≡ get_or all i x
    → Gained first old (map f (take i all)) → key ≡ f x → ((other : List ℕ) → contains bytes_cmp new other ≡ cond (is_at (bytes_cmp key) other) true (contains bytes_cmp old other))
    → Gained first new (map f (take (i + 1) all))
gained_one_more f all i x first old new key lt is has key_is put =
    subst (Gained first new) (sym (ap (map f) (taken all i x lt is) ∙ map_push f (take i all) x))
    (gained_then first old new (map f (take i all)) (f x ∷ []) has (gained_one old new key (f x) key_is put))

pub has_flat_more : {X : Type 0} (f : X → List (List ℕ)) (all : List X) (i : ℕ) (x : X) (old new : BTreeSet (List ℕ)) → i < length all → x ≡ get_or all i x
    → HasNames old (flat_map f (take i all)) → Gained old new (f x) → HasNames new (flat_map f (take (i + 1) all))
has_flat_more f all i x old new lt is has grew =
    subst (HasNames new) (sym (ap (flat_map f) (taken all i x lt is) ∙ flat_push f (take i all) x)) (has_more old new (flat_map f (take i all)) (f x) has grew)

-- ---- names that no variable binds

pub none_bound : (names : List (List ℕ)) → unbound [] names ≡ names
none_bound names = filter_all (λ name. not (is_one_of [] name)) names (λ name. refl)

pub some_bound : (set : BTreeSet (List ℕ)) (variables : List Identifier) (names : List (List ℕ)) → HasNames set (map identifier_name variables)
    → filter (λ name. not (contains bytes_cmp set name)) names ≡ unbound variables names
some_bound set variables names has = filter_same (λ name. not (contains bytes_cmp set name)) (λ name. not (is_one_of (map identifier_name variables) name)) names (λ name. ap not (has name))

pub kept_unless : (b : Bool) (name : List ℕ) → (if b then [] else (name ∷ [])) ≡ cond (not b) (name ∷ []) []
kept_unless true name = refl
kept_unless false name = refl

pub unbound_none : (variables : List Identifier) (names : List (List ℕ)) → variables ≡ [] → names ≡ unbound variables names
unbound_none variables names none = sym (ap (λ vs. unbound vs names) none ∙ none_bound names)

pub without_next : (set : BTreeSet (List ℕ)) (names : List (List ℕ)) (i : ℕ) (name : List ℕ) (before after : List (List ℕ)) → i < length names → name ≡ get_or names i name
    → before ≡ filter (λ x. not (contains bytes_cmp set x)) (take i names) → after ≡ before ++ (if contains bytes_cmp set name then [] else (name ∷ []))
    → after ≡ filter (λ x. not (contains bytes_cmp set x)) (take (i + 1) names)
without_next set names i name before after lt is was grew =
    grew ∙ ap (λ l. l ++ (if contains bytes_cmp set name then [] else (name ∷ []))) was
    ∙ ap (λ l. filter (λ x. not (contains bytes_cmp set x)) (take i names) ++ l) (kept_unless (contains bytes_cmp set name) name)
    ∙ sym (ap (filter (λ x. not (contains bytes_cmp set x))) (taken names i name lt is) ∙ filter_push (λ x. not (contains bytes_cmp set x)) (take i names) name)
