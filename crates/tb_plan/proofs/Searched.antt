-- The search for the configs that are reached, one config further.
use Rattle.std.proofs.Common.{◌≡◌, ℕ, ◌+◌, ◌<◌, ◌≤◌, Bool, true, false, List, [], ◌∷◌, ◌++◌, length, take, get_or, refl, sym, ap, subst, ◌∙◌, inl, inr, arith, length-take}
use Rattle.std.specs.Prelude.{Contains, map, sum_by, Option, None}
use Rattle.std.specs.List.{AllZip}
use Rattle.std.specs.BTreeMap as tree
use Rattle.std.specs.BTreeMap.{BTreeMap}
use Rattle.std.specs.FinMap.{get, keys}
use Rattle.std.proofs.lemmas.Bool.{false≢true}
use Rattle.std.proofs.lemmas.List.{length_push, map_push, take-append-le, get_or_append_left, get_or_default, get_or-take}
use Rattle.tb_text.specs.Bytes.{bytes_cmp}
use Rattle.tb_config.specs.Configs.{content_in, config_at}
use Rattle.tb_config.specs.Settings.{Reads, setting_of, setting_by_content, chain_of, configs_of, circles_of}
use Rattle.tb_plan.specs.Orders.{Tree, Paths, is_among, given_by, references_of}
use Rattle.tb_plan.specs.Searches.{path_at, root, further, IsNumbering, AreNumbers, Grew, reads, IsSearch, AreReached, left_of, unread, left}
use Rattle.tb_plan.specs.declared.readings.Reading.{Reading}
use Rattle.tb_plan.proofs.Members.{In, in_from, in_back, in_left, in_right, in_append, taken}
use Rattle.tb_plan.proofs.Among.{among_in, in_among, is_file_or_none}
use Rattle.std.proofs.lemmas.List.Sums.{sum_by-cons}
use Rattle.tb_plan.proofs.Numbered.{are_grown, length_grown, some_same}

-- ---- lists side by side

zip_weaker : {A B : Type 0} (R S : A → B → Type 0) → ((a : A) (b : B) → R a b → S a b) → (xs : List A) (ys : List B) → AllZip R xs ys → AllZip S xs ys
zip_weaker R S f [] [] z = tt
zip_weaker R S f [] (y ∷ ys) z = z
zip_weaker R S f (x ∷ xs) [] z = z
zip_weaker R S f (x ∷ xs) (y ∷ ys) z = (f x y z.0, zip_weaker R S f xs ys z.1)

zip_push : {A B : Type 0} (R : A → B → Type 0) (xs : List A) (ys : List B) (x : A) (y : B) → AllZip R xs ys → R x y → AllZip R (xs ++ x ∷ []) (ys ++ y ∷ [])
zip_push R [] [] x y z r = (r, tt)
zip_push R [] (b ∷ ys) x y z r = absurd z
zip_push R (a ∷ xs) [] x y z r = absurd z
zip_push R (a ∷ xs) (b ∷ ys) x y z r = (z.0, zip_push R xs ys x y z.1 r)

-- ---- files

pub no_file : (tree : Tree) (config : List ℕ) → get tree config ≡ None → references_of tree config ≡ []
no_file tree config e = ap (λ (o : Option (List ℕ)). given_by (setting_by_content (content_in o) (chain_of tree config) (config_at tree config) (configs_of tree config) (circles_of tree config))) e

-- ---- what is left falls

left_less : (a b : Bool) (n : ℕ) → (b ≡ false → a ≡ false) → left_of b n ≤ left_of a n
left_less true true n f = omega arith
left_less true false n f = absurd (false≢true (sym (f refl)))
left_less false true n f = omega arith
left_less false false n f = omega arith

module _ (tree : Tree) (done : Paths) (config : List ℕ) where
  size : List ℕ → ℕ
  size file = length (references_of tree file)

  abbrev then_left : List ℕ → ℕ
  then_left file = left_of (is_among (done ++ config ∷ []) file) (size file)

  abbrev now_left : List ℕ → ℕ
  now_left file = left_of (is_among done file) (size file)

  not_among : (file : List ℕ) → is_among (done ++ config ∷ []) file ≡ false → is_among done file ≡ false
  not_among file e = elim (is_among done file) as (λ b. is_among done file ≡ b → b ≡ false) [
    | true ↦ λ t. absurd (false≢true (sym e ∙ in_among (done ++ config ∷ []) file (in_left done (config ∷ []) file (among_in done file t))))
    | false ↦ λ f. refl
  ] refl

  each_less : (file : List ℕ) → then_left file ≤ now_left file
  each_less file = left_less (is_among done file) (is_among (done ++ config ∷ []) file) (size file) (not_among file)

  all_less : (files : Paths) → sum_by then_left files ≤ sum_by now_left files
  all_less [] = omega arith
  all_less (file ∷ files) = omega (arith, sum_by-cons then_left file files, sum_by-cons now_left file files, each_less file, all_less files)

  here_left : is_among done config ≡ false → then_left config + (size config + 1) ≤ now_left config
  here_left out =
      let a : then_left config ≡ 0 = ap (λ b. left_of b (size config)) (in_among (done ++ config ∷ []) config (in_right done (config ∷ []) config (inl refl))) in
      let b : now_left config ≡ size config + 1 = ap (λ b. left_of b (size config)) out in
      omega (arith, a, b)

  falls_in : (files : Paths) → is_among done config ≡ false → In files config → sum_by then_left files + (size config + 1) ≤ sum_by now_left files
  falls_in [] out h = absurd h
  falls_in (file ∷ files) out h = elim h [
    | inl e ↦
        let first : then_left file + (size config + 1) ≤ now_left file = subst (λ f. then_left f + (size config + 1) ≤ now_left f) (sym e) (here_left out) in
        omega (arith, sum_by-cons then_left file files, sum_by-cons now_left file files, first, all_less files)
    | inr t ↦ omega (arith, sum_by-cons then_left file files, sum_by-cons now_left file files, each_less file, falls_in files out t)
  ]

  falls : is_among done config ≡ false → unread tree (done ++ config ∷ []) (keys tree) + length (references_of tree config) ≤ unread tree done (keys tree)
  unfolding size
  falls out = elim (is_file_or_none tree config) [
    | inl none ↦ omega (arith, ap length (no_file tree config none), all_less (keys tree))
    | inr h ↦ omega (arith, falls_in (keys tree) out h)
  ]

-- ---- the next config is read

front_at : (paths new named : Paths) (n : ℕ) → Grew paths new named → n ≤ length paths → take n new ≡ take n paths
front_at paths new named n g le = ap (λ (l : Paths). take n l) g.whole ∙ take-append-le n paths g.more le

at_front : (paths new named : Paths) (n : ℕ) (config : List ℕ) → Grew paths new named → n < length paths → config ≡ get_or paths n config → config ≡ get_or new n config
at_front paths new named n config g lt e = e ∙ sym (get_or_append_left paths g.more config n lt) ∙ ap (λ (l : Paths). get_or l n config) (sym g.whole)

next_front : (paths new named : Paths) (n : ℕ) (config : List ℕ) → Grew paths new named → n < length paths → config ≡ get_or paths n config → take (n + 1) new ≡ take n paths ++ config ∷ []
next_front paths new named n config g lt e =
    taken new n config (omega (arith, length_grown paths new named g)) (at_front paths new named n config g lt e)
    ∙ ap (λ (l : Paths). l ++ config ∷ []) (front_at paths new named n g (omega arith))

pub search_next : (tree : Tree) (paths new : Paths) (rs : List Reading) (refs : List (List ℕ)) (r : Reading) (ns : List ℕ) (config : List ℕ)
    → IsSearch tree paths rs refs → length rs < length paths → config ≡ get_or paths (length rs) config → reads r ≡ setting_of tree config → Grew paths new (given_by (reads r))
    → AreNumbers new ns (given_by (reads r)) → IsSearch tree new (rs ++ r ∷ []) (refs ++ ns ∷ [])
search_next tree paths new rs refs r ns config h lt at is g are =
    let n : length (rs ++ r ∷ []) ≡ length rs + 1 = length_push rs r in
    record {
      few = omega (arith, n, length_grown paths new (given_by (reads r)) g);
      are = map_push reads rs r ∙ ap (λ (l : List Reads). l ++ reads r ∷ []) h.are ∙ ap (λ (x : Reads). map (setting_of tree) (take (length rs) paths) ++ x ∷ []) is
          ∙ sym (ap (λ (m : ℕ). map (setting_of tree) (take m new)) n ∙ ap (λ (l : Paths). map (setting_of tree) l) (next_front paths new (given_by (reads r)) (length rs) config g lt at) ∙ map_push (setting_of tree) (take (length rs) paths) config);
      lead = zip_push _ refs rs ns r (zip_weaker _ _ (λ ms q k. are_grown paths new (given_by (reads r)) ms (given_by (reads q)) g k) refs rs h.lead) are;
    }

pub reached_next : (tree : Tree) (paths new : Paths) (rs : List Reading) (r : Reading) (config : List ℕ) → length rs < length paths → config ≡ get_or paths (length rs) config
    → reads r ≡ setting_of tree config → Grew paths new (given_by (reads r)) → (roots : Paths) → AreReached tree roots paths → AreReached tree roots new
reached_next tree paths new rs r config lt at is g roots all c in' =
    elim (in_append paths g.more c (in_from (paths ++ g.more) c (subst (λ (l : Paths). Contains l c) g.whole in'))) [
      | inl a ↦ all c (in_back paths c a)
      | inr b ↦ further config c (all config (length rs, lt, sym at)) (subst (λ (x : Reads). Contains (given_by x) c) is (g.from c (in_back g.more c b)))
    ]

-- no path stands twice, so the next one is new among those that were read
next_new : (paths : Paths) (numbers : BTreeMap (List ℕ) ℕ) (n : ℕ) (config : List ℕ) → IsNumbering paths numbers → n < length paths → config ≡ get_or paths n config → is_among (take n paths) config ≡ false
next_new paths numbers n config h lt e = elim (is_among (take n paths) config) as (λ b. is_among (take n paths) config ≡ b → b ≡ false) [
  | true ↦ λ t.
      let c = in_back (take n paths) config (among_in (take n paths) config t) in
      let k : c.0 < n = omega (arith, c.1, length-take n paths) in
      let same : path_at paths c.0 ≡ path_at paths n =
      get_or_default paths c.0 [] config (omega arith) ∙ sym (get_or-take n paths c.0 config k) ∙ c.2 ∙ e ∙ get_or_default paths n config [] lt in
      let one : c.0 ≡ n = some_same c.0 n (sym (h.each c.0 (omega arith)) ∙ ap (tree.get bytes_cmp numbers) same ∙ h.each n lt) in
      absurd (omega arith)
  | false ↦ λ f. refl
] refl

pub left_next : (tree : Tree) (paths new : Paths) (numbers : BTreeMap (List ℕ) ℕ) (rs : List Reading) (r : Reading) (config : List ℕ) → IsNumbering paths numbers → length rs < length paths
    → config ≡ get_or paths (length rs) config → reads r ≡ setting_of tree config → Grew paths new (given_by (reads r)) → left tree new (length (rs ++ r ∷ [])) < left tree paths (length rs)
left_next tree paths new numbers rs r config h lt at is g =
    let n : length (rs ++ r ∷ []) ≡ length rs + 1 = length_push rs r in
    let front : take (length (rs ++ r ∷ [])) new ≡ take (length rs) paths ++ config ∷ [] = ap (λ (m : ℕ). take m new) n ∙ next_front paths new (given_by (reads r)) (length rs) config g lt at in
    let less = falls tree (take (length rs) paths) config (next_new paths numbers (length rs) config h lt at) in
    let same : unread tree (take (length (rs ++ r ∷ [])) new) (keys tree) ≡ unread tree (take (length rs) paths ++ config ∷ []) (keys tree) = ap (λ (l : Paths). unread tree l (keys tree)) front in
    let many : length (given_by (reads r)) ≡ length (references_of tree config) = ap (λ (x : Reads). length (given_by x)) is in
    omega (arith, n, less, same, many, length_grown paths new (given_by (reads r)) g, g.few)

-- ---- the search begins

pub search_none : (tree : Tree) (paths : Paths) → IsSearch tree paths [] []
search_none tree paths = record { few = omega arith; are = refl; lead = tt }

pub reached_roots : (tree : Tree) (paths new roots : Paths) → paths ≡ [] → Grew paths new roots → AreReached tree roots new
reached_roots tree paths new roots none g c in' =
    root c (g.from c (subst (λ (l : Paths). Contains l c) (g.whole ∙ ap (λ (l : Paths). l ++ g.more) none) in'))
