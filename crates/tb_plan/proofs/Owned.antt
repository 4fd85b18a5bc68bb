-- Output folders and the numbers of the projects that have them, one step further.
use Rattle.std.proofs.Common.{◌≡◌, ℕ, zero, suc, ◌+◌, ◌<◌, true, false, cond, List, [], ◌∷◌, ◌++◌, length, get_or, refl, sym, ap, subst, ◌∙◌, inl, inr, arith}
use Rattle.std.specs.Prelude.{Contains, ◌⊎◌, slice_get, Option, Some, None}
use Rattle.std.specs.BTreeMap.{BTreeMap, IsEmpty, is_at}
use Rattle.std.specs.Map.{lookup}
use Rattle.std.proofs.lemmas.Bool.{cases_lt}
use Rattle.std.proofs.lemmas.List.Elements.{Contains-append_left, Contains-append_right, Contains-append_cases, Contains-push, Contains-push_cases}
use Rattle.tb_text.specs.Bytes.{bytes_cmp}
use Rattle.tb_text.specs.Paths.{is_inside, parent_of}
use Rattle.tb_config.specs.declared.setting.Setting.{Setting}
use Rattle.tb_plan.specs.Owners.{folder_by, folder_at, numbers_in, owners_at, AreOwners, AreAround, Adds}
use Rattle.tb_plan.proofs.Numbered.{at_itself, at_same}
use Rattle.tb_plan.proofs.Above.{up_from, up_itself, up_further, up_shorter, inside_none}

-- ---- the projects are added

no_owners_at : (settings : List Setting) (owners : BTreeMap (List ℕ) (List ℕ)) → ((q : List ℕ) → owners_at owners q ≡ []) → AreOwners settings owners 0
no_owners_at settings owners none = record {
  each = λ n f lt e. absurd (omega arith);
  only = λ n f c. absurd (omega (arith, (subst (λ (l : List ℕ). Contains l n) (none f) c).1));
}

pub no_owners : (settings : List Setting) (owners : BTreeMap (List ℕ) (List ℕ)) → IsEmpty owners → AreOwners settings owners 0
no_owners settings owners none = no_owners_at settings owners (λ q. ap (λ (es : List (List ℕ × List ℕ)). numbers_in (lookup (is_at (bytes_cmp q)) es)) none)

there : (settings : List Setting) (n : ℕ) (s : Setting) → n < length settings → s ≡ get_or settings n s → slice_get settings n ≡ Some s
there [] n s lt e = absurd (omega arith)
there (t ∷ settings) zero s lt e = ap Some (sym e)
there (t ∷ settings) (suc n) s lt e = there settings n s (omega arith) e

adds_none : (settings : List Setting) (old new : BTreeMap (List ℕ) (List ℕ)) (n : ℕ) → AreOwners settings old n → folder_at settings n ≡ None → ((q : List ℕ) → owners_at new q ≡ owners_at old q) → AreOwners settings new (n + 1)
adds_none settings old new n h none same = record {
  each = λ m f lt e. elim (cases_lt m n) [
    | inl a ↦ subst (λ (l : List ℕ). Contains l m) (sym (same f)) (h.each m f a e)
    | inr b ↦ let k : m ≡ n = omega arith in let no : None ≡ Some f = sym none ∙ ap (folder_at settings) (sym k) ∙ e in absurd (cc)
  ];
  only = λ m f c. h.only m f (subst (λ (l : List ℕ). Contains l m) (same f) c);
}

module _ (settings : List Setting) (old new : BTreeMap (List ℕ) (List ℕ)) (n : ℕ) (folder : List ℕ) (h : AreOwners settings old n) (here : folder_at settings n ≡ Some folder)
    (put : (q : List ℕ) → owners_at new q ≡ cond (is_at (bytes_cmp folder) q) (owners_at old folder ++ n ∷ []) (owners_at old q)) where
  kept : (m : ℕ) (f : List ℕ) → Contains (owners_at old f) m → Contains (owners_at new f) m
  kept m f c = subst (λ (l : List ℕ). Contains l m) (sym (put f))
      (elim (is_at (bytes_cmp folder) f) as (λ b. is_at (bytes_cmp folder) f ≡ b → Contains (cond b (owners_at old folder ++ n ∷ []) (owners_at old f)) m) [
        | true ↦ λ e. Contains-append_left (owners_at old folder) (n ∷ []) m (subst (λ (q : List ℕ). Contains (owners_at old q) m) (sym (at_same folder f e)) c)
        | false ↦ λ e. c
      ] refl)

  added : Contains (owners_at new folder) n
  added = subst (λ (l : List ℕ). Contains l n) (sym (put folder ∙ ap (λ b. cond b (owners_at old folder ++ n ∷ []) (owners_at old folder)) (at_itself folder))) (Contains-push (owners_at old folder) n)

  only_old : (m : ℕ) (f : List ℕ) → Contains (owners_at new f) m → folder_at settings m ≡ Some f
  only_old m f c = elim (is_at (bytes_cmp folder) f) as (λ b. is_at (bytes_cmp folder) f ≡ b → Contains (cond b (owners_at old folder ++ n ∷ []) (owners_at old f)) m → folder_at settings m ≡ Some f) [
    | true ↦ λ e k. elim (Contains-push_cases (owners_at old folder) n m k) [
      | inl a ↦ h.only m folder a ∙ ap Some (at_same folder f e)
      | inr i ↦ ap (folder_at settings) (sym i) ∙ here ∙ ap Some (at_same folder f e)
    ]
    | false ↦ λ e k. h.only m f k
  ] refl (subst (λ (l : List ℕ). Contains l m) (put f) c)

  adds_some : AreOwners settings new (n + 1)
  adds_some = record {
    each = λ m f lt e. elim (cases_lt m n) [
      | inl a ↦ kept m f (h.each m f a e)
      | inr b ↦
          let k : m ≡ n = omega arith in
          let same : folder ≡ f = one_some folder f (sym here ∙ ap (folder_at settings) (sym k) ∙ e) in
          subst (λ (q : List ℕ). Contains (owners_at new q) m) same (subst (Contains (owners_at new folder)) (sym k) added)
    ];
    only = only_old;
  }
    where
      one_some : (a b : List ℕ) → Some a ≡ Some b → a ≡ b
      one_some a b e = cc

adds_by : (settings : List Setting) (old new : BTreeMap (List ℕ) (List ℕ)) (n : ℕ) (o : Option (List ℕ)) → AreOwners settings old n → folder_at settings n ≡ o → Adds old o n new → AreOwners settings new (n + 1)
adds_by settings old new n None h e put = adds_none settings old new n h e put
adds_by settings old new n (Some folder) h e put = adds_some settings old new n folder h e put

pub owners_step : (settings : List Setting) (old new : BTreeMap (List ℕ) (List ℕ)) (n : ℕ) (s : Setting) → AreOwners settings old n → n < length settings → s ≡ get_or settings n s → Adds old s.folder n new → AreOwners settings new (n + 1)
owners_step settings old new n s h lt at put = adds_by settings old new n s.folder h (ap folder_by (there settings n s lt at)) put

-- ---- going up from a path

-- the folder is this one, or this one lies in it
abbrev pub Over : Option (List ℕ) → List ℕ → Type 0
Over None folder = ⊥
Over (Some at) folder = (folder ≡ at) ⊎ (is_inside folder at ≡ true)

abbrev pub left_up : Option (List ℕ) → ℕ
left_up None = 0
left_up (Some at) = length at + 1

pub record GoesUp (settings : List Setting) (path : List ℕ) (at : Option (List ℕ)) (numbers : List ℕ) : Type 0 where
  pub each : (number : ℕ) (folder : List ℕ) → folder_at settings number ≡ Some folder → is_inside folder path ≡ true → Contains numbers number ⊎ Over at folder
  pub only : (number : ℕ) → Contains numbers number → (folder : List ℕ) × (folder_at settings number ≡ Some folder) × (is_inside folder path ≡ true)
  pub way : (folder : List ℕ) → Over at folder → is_inside folder path ≡ true

over_from : (folder path : List ℕ) (at : Option (List ℕ)) → at ≡ parent_of path → is_inside folder path ≡ true → Over at folder
over_from folder path None up i = absurd (inside_none folder path (sym up) i)
over_from folder path (Some at) up i = up_from folder path at (sym up) i

over_inside : (folder path : List ℕ) (at : Option (List ℕ)) → at ≡ parent_of path → Over at folder → is_inside folder path ≡ true
over_inside folder path None up o = absurd o
over_inside folder path (Some at) up o = elim o [
  | inl e ↦ ap (λ (f : List ℕ). is_inside f path) e ∙ up_itself path at (sym up)
  | inr i ↦ up_further folder path at (sym up) i
]

pub goes_up : (settings : List Setting) (path : List ℕ) (at : Option (List ℕ)) → at ≡ parent_of path → GoesUp settings path at []
goes_up settings path at up = record {
  each = λ n f e i. inr (over_from f path at up i);
  only = λ n c. absurd (omega (arith, c.1));
  way = λ f o. over_inside f path at up o;
}

pub up_step : (settings : List Setting) (owners : BTreeMap (List ℕ) (List ℕ)) (path folder : List ℕ) (next : Option (List ℕ)) (numbers found after : List ℕ) → AreOwners settings owners (length settings)
    → GoesUp settings path (Some folder) numbers → found ≡ owners_at owners folder → after ≡ numbers ++ found → next ≡ parent_of folder → GoesUp settings path next after
up_step settings owners path folder next numbers found after own g f a up = record {
  each = λ n q e i. elim (g.each n q e i) [
    | inl c ↦ inl (subst (λ (l : List ℕ). Contains l n) (sym a) (Contains-append_left numbers found n c))
    | inr o ↦ elim o [
      | inl same ↦ inl (subst (λ (l : List ℕ). Contains l n) (sym a) (Contains-append_right numbers found n
          (subst (λ (l : List ℕ). Contains l n) (sym f) (subst (λ (q : List ℕ). Contains (owners_at owners q) n) same (own.each n q (has_folder settings n q e) e)))))
      | inr inside ↦ inr (over_from q folder next up inside)
    ]
  ];
  only = λ n c. elim (Contains-append_cases numbers found n (subst (λ (l : List ℕ). Contains l n) a c)) [
    | inl l ↦ g.only n l
    | inr r ↦ (folder, own.only n folder (subst (λ (l : List ℕ). Contains l n) f r), g.way folder (inl refl))
  ];
  way = λ q o. g.way q (inr (over_inside q folder next up o));
}
  where
    has_folder : (settings : List Setting) (n : ℕ) (q : List ℕ) → folder_at settings n ≡ Some q → n < length settings
    has_folder [] n q e = absurd (cc)
    has_folder (s ∷ settings) zero q e = omega arith
    has_folder (s ∷ settings) (suc n) q e = omega (arith, has_folder settings n q e)

pub up_end : (settings : List Setting) (path : List ℕ) (numbers : List ℕ) → GoesUp settings path None numbers → AreAround settings path numbers
up_end settings path numbers g = record {
  each = λ n f e i. elim (g.each n f e i) [ inl c ↦ c | inr o ↦ absurd o ];
  only = g.only;
}

pub up_less : (folder : List ℕ) (next : Option (List ℕ)) → next ≡ parent_of folder → left_up next < left_up (Some folder)
up_less folder None up = omega arith
up_less folder (Some at) up = omega (arith, up_shorter folder at (sym up))

pub up_next : (settings : List Setting) (owners : BTreeMap (List ℕ) (List ℕ)) (path folder : List ℕ) (at next : Option (List ℕ)) (numbers found after : List ℕ) → AreOwners settings owners (length settings)
    → GoesUp settings path at numbers → at ≡ Some folder → found ≡ owners_at owners folder → after ≡ numbers ++ found → next ≡ parent_of folder → GoesUp settings path next after
up_next settings owners path folder at next numbers found after own g is f a up =
    up_step settings owners path folder next numbers found after own (subst (λ (o : Option (List ℕ)). GoesUp settings path o numbers) is g) f a up

pub up_falls : (folder : List ℕ) (at next : Option (List ℕ)) → at ≡ Some folder → next ≡ parent_of folder → left_up next < left_up at
up_falls folder at next is up = subst (λ (o : Option (List ℕ)). left_up next < left_up o) (sym is) (up_less folder next up)

pub up_ends : (settings : List Setting) (path : List ℕ) (at : Option (List ℕ)) (numbers : List ℕ) → GoesUp settings path at numbers → at ≡ None → AreAround settings path numbers
up_ends settings path at numbers g is = up_end settings path numbers (subst (λ (o : Option (List ℕ)). GoesUp settings path o numbers) is g)
