-- The faults between two projects are those of each project and the ones near it.
use Rattle.std.proofs.Common.{◌≡◌, ℕ, zero, suc, ◌+◌, ◌<◌, ◌≤◌, Bool, true, false, cond, nat_lt, List, [], ◌∷◌, ◌++◌, length, get_or, refl, sym, ap, subst, ◌∙◌, inl, inr, arith, append_assoc, append-nil}
use Rattle.std.specs.Prelude.{◌⊎◌, ◌||◌, slice_get, Option, Some, None}
use Rattle.std.specs.List.{filter, flat_map, range_with_len}
use Rattle.std.specs.BTreeMap.{BTreeMap}
use Rattle.std.specs.Str.{bytes_eq}
use Rattle.std.proofs.lemmas.Bool.{cases_lt, lt-ltb, ltb-true}
use Rattle.std.proofs.lemmas.List.{length_push}
use Rattle.std.proofs.lemmas.Slice.Eq.{bytes_eq-Decides}
use Rattle.tb_text.specs.Paths.{is_inside}
use Rattle.tb_text.specs.declared.findings.Diag.{Diag}
use Rattle.tb_config.specs.declared.setting.Setting.{Setting}
use Rattle.tb_plan.specs.Faults.{own_fault}
use Rattle.tb_plan.specs.Folders.{are_shared, nested_in, nested_after, nested_faults}
use Rattle.tb_plan.specs.Members.{HasSame}
use Rattle.tb_plan.specs.Nested.{pair_of, two_by, is_near, near_in, nested_by}
use Rattle.tb_plan.specs.Owners.{folder_by, folder_at, owners_at, AreOwners, AreAround}
use Rattle.tb_plan.proofs.Covered.{same_trans, same_step}
use Rattle.tb_plan.proofs.Firsts.{flat_push, same_flat}
use Rattle.tb_plan.proofs.Found.{or_cases, or_first, or_second}
use Rattle.tb_plan.proofs.Members.{In, in_from, in_back, in_left, in_right, in_append, in_map, from_map, in_filter, from_filter, in_flat, from_flat, same_by, same_itself, same_append}

-- ---- ranges

pub in_range : (m a n : ℕ) → a ≤ m → m < a + n → In (range_with_len a n) m
in_range m a zero le lt = absurd (omega arith)
in_range m a (suc n) le lt = elim (cases_lt a m) [ inl l ↦ inr (in_range m (a + 1) n (omega arith) (omega arith)) | inr g ↦ inl (omega arith) ]

pub from_range : (m a n : ℕ) → In (range_with_len a n) m → (a ≤ m) × (m < a + n)
from_range m a zero h = absurd h
from_range m a (suc n) h = elim h [
  | inl e ↦ (omega arith, omega arith)
  | inr t ↦ let r = from_range m (a + 1) n t in (omega (arith, r.0), omega (arith, r.1))
]

range_more : (a n m : ℕ) → a + n ≡ m → range_with_len a (suc n) ≡ range_with_len a n ++ m ∷ []
range_more a zero m e = ap (λ k. k ∷ []) (omega arith)
range_more a (suc n) m e = ap (λ (l : List ℕ). a ∷ l) (range_more (a + 1) n m (omega arith))

pub range_push : (n : ℕ) → range_with_len 0 (n + 1) ≡ range_with_len 0 n ++ n ∷ []
range_push n =
    let e : n + 1 ≡ suc n = omega arith in
    ap (range_with_len 0) e ∙ range_more 0 n n (omega arith)

-- ---- members by number

pub within : {X : Type 0} (xs : List X) (n : ℕ) (x : X) → slice_get xs n ≡ Some x → n < length xs
within [] n x e = absurd (cc)
within (y ∷ xs) zero x e = omega arith
within (y ∷ xs) (suc n) x e = omega (arith, within xs n x e)

pub left_get : {X : Type 0} (xs ys : List X) (n : ℕ) (x : X) → slice_get xs n ≡ Some x → slice_get (xs ++ ys) n ≡ Some x
left_get [] ys n x e = absurd (cc)
left_get (y ∷ xs) ys zero x e = e
left_get (y ∷ xs) ys (suc n) x e = left_get xs ys n x e

pub number_in : {X : Type 0} (xs : List X) (x : X) → In xs x → (n : ℕ) × (slice_get xs n ≡ Some x)
number_in [] x h = absurd h
number_in (y ∷ xs) x h = elim h [ inl e ↦ (0, ap Some e) | inr t ↦ let r = number_in xs x t in (suc r.0, r.1) ]

pub at_length : {X : Type 0} (xs ys : List X) (x : X) → slice_get (xs ++ x ∷ ys) (length xs) ≡ Some x
at_length [] ys x = refl
at_length (y ∷ xs) ys x = at_length xs ys x

one_some : {X : Type 0} (a b : X) → Some a ≡ Some b → a ≡ b
one_some a b e = cc

-- a member of the first part, by a number below its length
pub first_part : {X : Type 0} (xs ys : List X) (n : ℕ) (x : X) → n < length xs → slice_get (xs ++ ys) n ≡ Some x → In xs x
first_part [] ys n x lt e = absurd (omega arith)
first_part (y ∷ xs) ys zero x lt e = inl (one_some y x e)
first_part (y ∷ xs) ys (suc n) x lt e = inr (first_part xs ys n x (omega arith) e)

-- ---- two projects that share folders

record Two (settings : List Setting) (d : Diag) : Type 0 where
  earlier : ℕ
  later : ℕ
  before : earlier < later
  t : Setting
  s : Setting
  there : slice_get settings earlier ≡ Some t
  here : slice_get settings later ≡ Some s
  shared : are_shared t.folder s.folder ≡ true
  is : own_fault s.config 5008 t.config ≡ d

two_again : (xs ys : List Setting) (d : Diag) → xs ≡ ys → Two xs d → Two ys d
two_again xs ys d e w = subst (λ (l : List Setting). Two l d) e w

from_nested : (before settings : List Setting) (d : Diag) → In (nested_after before settings) d → Two (before ++ settings) d
from_nested before [] d h = absurd h
from_nested before (s ∷ rest) d h = elim (in_append (nested_in before s) (nested_after (before ++ s ∷ []) rest) d h) [
  | inl a ↦
      let m = from_map (λ t. own_fault s.config 5008 t.config) (filter (λ t. are_shared t.folder s.folder) before) d a in
      let f = from_filter (λ t. are_shared t.folder s.folder) before m.0 m.1 in
      let n = number_in before m.0 f.0 in
      record { earlier = n.0; later = length before; before = within before n.0 m.0 n.1; t = m.0; s = s; there = left_get before (s ∷ rest) n.0 m.0 n.1; here = at_length before rest s; shared = f.1; is = m.2 }
  | inr b ↦ two_again ((before ++ s ∷ []) ++ rest) (before ++ s ∷ rest) d (append_assoc before (s ∷ []) rest) (from_nested (before ++ s ∷ []) rest d b)
]

pub in_nested : (before settings : List Setting) (i j : ℕ) (t s : Setting) → length before ≤ j → i < j → slice_get (before ++ settings) i ≡ Some t → slice_get (before ++ settings) j ≡ Some s
    → are_shared t.folder s.folder ≡ true → In (nested_after before settings) (own_fault s.config 5008 t.config)
in_nested before [] i j t s le lt e f h = absurd (omega (arith, within (before ++ []) j s f, ap length (append-nil before)))
in_nested before (x ∷ rest) i j t s le lt e f h = elim (cases_lt (length before) j) [
  | inl l ↦ in_right (nested_in before x) (nested_after (before ++ x ∷ []) rest) (own_fault s.config 5008 t.config)
      (in_nested (before ++ x ∷ []) rest i j t s (omega (arith, length_push before x)) lt
      (ap (λ (l : List Setting). slice_get l i) (append_assoc before (x ∷ []) rest) ∙ e) (ap (λ (l : List Setting). slice_get l j) (append_assoc before (x ∷ []) rest) ∙ f) h)
  | inr g ↦
      let same : length before ≡ j = omega arith in
      let it : x ≡ s = one_some x s (sym (at_length before rest x) ∙ ap (slice_get (before ++ x ∷ rest)) same ∙ f) in
      let fault : Setting → Setting → Diag = λ a b. own_fault a.config 5008 b.config in
      in_left (nested_in before x) (nested_after (before ++ x ∷ []) rest) (fault s t)
      (subst (λ (y : Setting). In (nested_in before x) (fault y t)) it
      (in_map (fault x) (filter (λ y. are_shared y.folder x.folder) before) t
      (in_filter (λ y. are_shared y.folder x.folder) before t (first_part before (x ∷ rest) i t (omega arith) e) (ap (λ (y : Setting). are_shared t.folder y.folder) it ∙ h))))
]

-- ---- folders that are near

has_folder : (settings : List Setting) (n : ℕ) (f : List ℕ) → folder_at settings n ≡ Some f → (s : Setting) × (slice_get settings n ≡ Some s) × (s.folder ≡ Some f)
has_folder [] n f e = absurd (cc)
has_folder (s ∷ settings) zero f e = (s, refl, e)
has_folder (s ∷ settings) (suc n) f e = has_folder settings n f e

near_some : (folder : List ℕ) (o : Option (List ℕ)) → is_near folder o ≡ true → (g : List ℕ) × (o ≡ Some g) × ((g ≡ folder) ⊎ (is_inside g folder ≡ true))
near_some folder None e = absurd (cc)
near_some folder (Some g) e = (g, refl, elim (or_cases (bytes_eq g folder) (is_inside g folder) e) [ inl a ↦ inl ((bytes_eq-Decides g folder).0 a) | inr b ↦ inr b ])

near_from : (g folder : List ℕ) → (g ≡ folder) ⊎ (is_inside g folder ≡ true) → is_near folder (Some g) ≡ true
near_from g folder h = elim h [
  | inl e ↦ or_first (bytes_eq g folder) (is_inside g folder) ((bytes_eq-Decides g folder).1 e)
  | inr i ↦ or_second (bytes_eq g folder) (is_inside g folder) i
]

in_near : (settings : List Setting) (folder g : List ℕ) (n : ℕ) → folder_at settings n ≡ Some g → (g ≡ folder) ⊎ (is_inside g folder ≡ true) → In (near_in settings folder) n
in_near settings folder g n e h =
    let s = has_folder settings n g e in
    in_filter (λ m. is_near folder (folder_at settings m)) (range_with_len 0 (length settings)) n (in_range n 0 (length settings) (omega arith) (omega (arith, within settings n s.0 s.1)))
    (ap (is_near folder) e ∙ near_from g folder h)

pub near_same : (settings : List Setting) (owners : BTreeMap (List ℕ) (List ℕ)) (folder : List ℕ) (around whole : List ℕ) → AreOwners settings owners (length settings) → AreAround settings folder around
    → whole ≡ around ++ owners_at owners folder → HasSame whole (near_in settings folder)
near_same settings owners folder around whole own h is = subst (λ (l : List ℕ). HasSame l (near_in settings folder)) (sym is) (same_by (around ++ owners_at owners folder) (near_in settings folder)
    (λ n k. elim (in_append around (owners_at owners folder) n k) [
      | inl a ↦ let f = h.only n (in_back around n a) in in_near settings folder f.0 n f.1 (inr f.2)
      | inr b ↦ in_near settings folder folder n (own.only n folder (in_back (owners_at owners folder) n b)) (inl refl)
    ])
    (λ n k.
    let f = from_filter (λ m. is_near folder (folder_at settings m)) (range_with_len 0 (length settings)) n k in
    let g = near_some folder (folder_at settings n) f.1 in
    let s = has_folder settings n g.0 g.1 in
    elim g.2 [
      | inl e ↦ in_right around (owners_at owners folder) n (in_from (owners_at owners folder) n (own.each n folder (within settings n s.0 s.1) (g.1 ∙ ap Some e)))
      | inr i ↦ in_left around (owners_at owners folder) n (in_from around n (h.each n g.0 g.1 i))
    ]))

-- ---- both ways

pair_is : (settings : List Setting) (i j : ℕ) (t s : Setting) → slice_get settings i ≡ Some t → slice_get settings j ≡ Some s → pair_of (slice_get settings j) (slice_get settings i) ≡ own_fault s.config 5008 t.config ∷ []
pair_is settings i j t s e f = ap (λ (o : Option Setting). pair_of o (slice_get settings i)) f ∙ ap (pair_of (Some s)) e

ge_ltb : (a b : ℕ) → b ≤ a → nat_lt a b ≡ false
ge_ltb a b le = elim (nat_lt a b) as (λ t. nat_lt a b ≡ t → t ≡ false) [ true ↦ λ e. absurd (omega (arith, ltb-true a b e)) | false ↦ λ e. refl ] refl

later_first : (settings : List Setting) (i j : ℕ) → i < j → two_by settings j i ≡ pair_of (slice_get settings j) (slice_get settings i)
later_first settings i j lt = ap (λ b. cond b (pair_of (slice_get settings j) (slice_get settings i)) (cond (nat_lt j i) (pair_of (slice_get settings i) (slice_get settings j)) [])) (lt-ltb i j lt)

earlier_first : (settings : List Setting) (i j : ℕ) → i < j → two_by settings i j ≡ pair_of (slice_get settings j) (slice_get settings i)
earlier_first settings i j lt =
    ap (λ b. cond b (pair_of (slice_get settings i) (slice_get settings j)) (cond (nat_lt i j) (pair_of (slice_get settings j) (slice_get settings i)) [])) (ge_ltb j i (omega arith))
    ∙ ap (λ b. cond b (pair_of (slice_get settings j) (slice_get settings i)) []) (lt-ltb i j lt)

same_two : (settings : List Setting) (n : ℕ) → two_by settings n n ≡ []
same_two settings n =
    ap (λ b. cond b (pair_of (slice_get settings n) (slice_get settings n)) (cond b (pair_of (slice_get settings n) (slice_get settings n)) [])) (ge_ltb n n (omega arith))

or_three : (a b c : Bool) → (a || b || c) ≡ true → (a ≡ true) ⊎ (b ≡ true) ⊎ (c ≡ true)
or_three true b c e = inl refl
or_three false true c e = inr (inl refl)
or_three false false true e = inr (inr refl)
or_three false false false e = absurd (cc)

or_of : (a b c : Bool) → (a ≡ true) ⊎ (b ≡ true) ⊎ (c ≡ true) → (a || b || c) ≡ true
or_of true b c h = refl
or_of false true c h = refl
or_of false false true h = refl
or_of false false false h = elim h [ inl e ↦ absurd (cc) | inr t ↦ elim t [ inl e ↦ absurd (cc) | inr e ↦ absurd (cc) ] ]

-- the folder of the earlier is near that of the later
shared_above : (g f : List ℕ) → (g ≡ f) ⊎ (is_inside g f ≡ true) → are_shared (Some g) (Some f) ≡ true
shared_above g f h = or_of (bytes_eq g f) (is_inside g f) (is_inside f g) (elim h [ inl e ↦ inl ((bytes_eq-Decides g f).1 e) | inr i ↦ inr (inl i) ])

-- the folder of the later is near that of the earlier
shared_below : (f g : List ℕ) → (g ≡ f) ⊎ (is_inside g f ≡ true) → are_shared (Some f) (Some g) ≡ true
shared_below f g h = or_of (bytes_eq f g) (is_inside f g) (is_inside g f) (elim h [ inl e ↦ inl ((bytes_eq-Decides f g).1 (sym e)) | inr i ↦ inr (inr i) ])

shared_some : (a b : Option (List ℕ)) → are_shared a b ≡ true → (f g : List ℕ) × (a ≡ Some f) × (b ≡ Some g) × (((f ≡ g) ⊎ (is_inside f g ≡ true)) ⊎ (is_inside g f ≡ true))
shared_some None b e = absurd (cc)
shared_some (Some f) None e = absurd (cc)
shared_some (Some f) (Some g) e = (
  f,
  g,
  refl,
  refl,
  elim (or_three (bytes_eq f g) (is_inside f g) (is_inside g f) e) [
    | inl a ↦ inl (inl ((bytes_eq-Decides f g).0 a))
    | inr t ↦ elim t [ inl b ↦ inl (inr b) | inr c ↦ inr c ]
  ],
)

module _ (settings : List Setting) where
  abbrev by_number : ℕ → List Diag
  by_number n = nested_by settings n (folder_at settings n)

  at_folder : (n : ℕ) (s : Setting) (f : List ℕ) → slice_get settings n ≡ Some s → s.folder ≡ Some f → folder_at settings n ≡ Some f
  at_folder n s f e k = ap folder_by e ∙ k

  nested_of : (d : Diag) (i j : ℕ) (t s : Setting) → i < j → slice_get settings i ≡ Some t → slice_get settings j ≡ Some s → are_shared t.folder s.folder ≡ true
      → In (pair_of (slice_get settings j) (slice_get settings i)) d → In (nested_faults settings) d
  nested_of d i j t s lt e f h k = elim (subst (λ (l : List Diag). In l d) (pair_is settings i j t s e f) k) [
    | inl is ↦ subst (In (nested_faults settings)) is (in_nested [] settings i j t s (omega arith) lt e f h)
    | inr none ↦ absurd none
  ]

  from_two : (d : Diag) (n m : ℕ) (f g : List ℕ) → folder_at settings n ≡ Some f → folder_at settings m ≡ Some g → (g ≡ f) ⊎ (is_inside g f ≡ true) → In (two_by settings n m) d → In (nested_faults settings) d
  from_two d n m f g e k h w =
      let s = has_folder settings n f e in
      let t = has_folder settings m g k in
      elim (cases_lt m n) [
        | inl lt ↦ nested_of d m n t.0 s.0 lt t.1 s.1 (ap (λ (o : Option (List ℕ)). are_shared o s.0.folder) t.2 ∙ ap (are_shared (Some g)) s.2 ∙ shared_above g f h)
            (subst (λ (l : List Diag). In l d) (later_first settings m n lt) w)
        | inr ge ↦ elim (cases_lt n m) [
          | inl lt ↦ nested_of d n m s.0 t.0 lt s.1 t.1 (ap (λ (o : Option (List ℕ)). are_shared o t.0.folder) s.2 ∙ ap (are_shared (Some f)) t.2 ∙ shared_below f g h)
              (subst (λ (l : List Diag). In l d) (earlier_first settings n m lt) w)
          | inr le ↦
              let same : m ≡ n = omega arith in
              absurd (subst (λ (l : List Diag). In l d) (ap (two_by settings n) same ∙ same_two settings n) w)
        ]
      ]

  from_near : (d : Diag) (n : ℕ) (o : Option (List ℕ)) → folder_at settings n ≡ o → In (nested_by settings n o) d → In (nested_faults settings) d
  from_near d n None e h = absurd h
  from_near d n (Some f) e h =
      let r = from_flat (two_by settings n) (near_in settings f) d h in
      let k = from_filter (λ m. is_near f (folder_at settings m)) (range_with_len 0 (length settings)) r.0 r.1 in
      let g = near_some f (folder_at settings r.0) k.1 in
      from_two d n r.0 f g.0 e g.1 g.2 r.2

  by_near : (d : Diag) (n m : ℕ) (s : Setting) (f g : List ℕ) → slice_get settings n ≡ Some s → s.folder ≡ Some f → folder_at settings m ≡ Some g → (g ≡ f) ⊎ (is_inside g f ≡ true)
      → In (two_by settings n m) d → In (flat_map by_number (range_with_len 0 (length settings))) d
  by_near d n m s f g e k l h w =
      in_flat by_number (range_with_len 0 (length settings)) n d (in_range n 0 (length settings) (omega arith) (omega (arith, within settings n s e)))
      (subst (λ (o : Option (List ℕ)). In (nested_by settings n o) d) (sym (at_folder n s f e k)) (in_flat (two_by settings n) (near_in settings f) m d (in_near settings f g m l h) w))

  from_shared : (d : Diag) → Two settings d → In (flat_map by_number (range_with_len 0 (length settings))) d
  from_shared d w =
      let k = shared_some w.t.folder w.s.folder w.shared in
      let it : In (pair_of (slice_get settings w.later) (slice_get settings w.earlier)) d = subst (λ (l : List Diag). In l d) (sym (pair_is settings w.earlier w.later w.t w.s w.there w.here)) (inl w.is) in
      elim k.4 [
        | inl a ↦ by_near d w.later w.earlier w.s k.1 k.0 w.here k.3 (at_folder w.earlier w.t k.0 w.there k.2) a (subst (λ (l : List Diag). In l d) (sym (later_first settings w.earlier w.later w.before)) it)
        | inr b ↦ by_near d w.earlier w.later w.t k.0 k.1 w.there k.2 (at_folder w.later w.s k.1 w.here k.3) (inr b) (subst (λ (l : List Diag). In l d) (sym (earlier_first settings w.earlier w.later w.before)) it)
      ]

  pub nested_same : HasSame (flat_map by_number (range_with_len 0 (length settings))) (nested_faults settings)
  nested_same = same_by (flat_map by_number (range_with_len 0 (length settings))) (nested_faults settings)
      (λ d h. let r = from_flat by_number (range_with_len 0 (length settings)) d h in from_near d r.0 (folder_at settings r.0) refl r.2)
      (λ d h. from_shared d (from_nested [] settings d h))

-- ---- as the code goes

pub near_all : (settings : List Setting) (number : ℕ) (o : Option (List ℕ)) (folder : List ℕ) (others front : List ℕ) (start new : List Diag) → o ≡ Some folder → HasSame others (near_in settings folder) → front ≡ others
    → new ≡ start ++ flat_map (two_by settings number) front → HasSame new (start ++ nested_by settings number o)
near_all settings number o folder others front start new f h all is =
    subst (λ (p : Option (List ℕ)). HasSame new (start ++ nested_by settings number p)) (sym f) (subst (λ (l : List Diag). HasSame l (start ++ flat_map (two_by settings number) (near_in settings folder))) (sym (is ∙ ap (λ (l : List ℕ). start ++ flat_map (two_by settings number) l) all))
    (same_append start start (flat_map (two_by settings number) others) (flat_map (two_by settings number) (near_in settings folder)) (same_itself start) (same_flat (two_by settings number) others (near_in settings folder) h)))

setting_at : (settings : List Setting) (n : ℕ) (s : Setting) → n < length settings → s ≡ get_or settings n s → folder_at settings n ≡ s.folder
setting_at [] n s lt e = absurd (omega arith)
setting_at (t ∷ settings) zero s lt e = ap (λ (x : Setting). x.folder) (sym e)
setting_at (t ∷ settings) (suc n) s lt e = setting_at settings n s (omega arith) e

pub none_near : (settings : List Setting) (number : ℕ) (o : Option (List ℕ)) (start : List Diag) → o ≡ None → HasSame start (start ++ nested_by settings number o)
none_near settings number o start f = subst (λ (p : Option (List ℕ)). HasSame start (start ++ nested_by settings number p)) (sym f) (subst (HasSame start) (sym (append-nil start)) (same_itself start))

pub nested_none : (start : List Diag) → HasSame start (start ++ [])
nested_none start = subst (HasSame start) (sym (append-nil start)) (same_itself start)

pub nested_step : (settings : List Setting) (n : ℕ) (s : Setting) (start so_far new : List Diag) → n < length settings → s ≡ get_or settings n s
    → HasSame so_far (start ++ flat_map (λ number. nested_by settings number (folder_at settings number)) (range_with_len 0 n)) → HasSame new (so_far ++ nested_by settings n s.folder)
    → HasSame new (start ++ flat_map (λ number. nested_by settings number (folder_at settings number)) (range_with_len 0 (n + 1)))
nested_step settings n s start so_far new lt at is h =
    let by : ℕ → List Diag = λ number. nested_by settings number (folder_at settings number) in
    same_step start so_far (flat_map by (range_with_len 0 n)) (nested_by settings n s.folder) new (flat_map by (range_with_len 0 (n + 1))) is h
    (ap (λ (l : List ℕ). flat_map by l) (range_push n) ∙ flat_push by (range_with_len 0 n) n ∙ ap (λ (o : Option (List ℕ)). flat_map by (range_with_len 0 n) ++ nested_by settings n o) (setting_at settings n s lt at))

pub nested_end : (settings : List Setting) (n : ℕ) (start faults : List Diag) → n ≡ length settings → HasSame faults (start ++ flat_map (λ number. nested_by settings number (folder_at settings number)) (range_with_len 0 n)) → HasSame faults (start ++ nested_faults settings)
nested_end settings n start faults e h =
    let by : ℕ → List Diag = λ number. nested_by settings number (folder_at settings number) in
    same_trans faults (start ++ flat_map by (range_with_len 0 (length settings))) (start ++ nested_faults settings)
    (subst (λ m. HasSame faults (start ++ flat_map by (range_with_len 0 m))) e h)
    (same_append start start (flat_map by (range_with_len 0 (length settings))) (nested_faults settings) (same_itself start) (nested_same settings))
