-- The search, one name further.
use Rattle.std.proofs.Common.{◌≡◌, ℕ, ◌+◌, ◌<◌, ◌≤◌, drop, Bool, true, false, cond, List, [], ◌∷◌, ◌++◌, length, get_or, refl, sym, ap, subst, ◌∙◌, inl, inr, append-nil}
use Rattle.std.specs.Prelude.{◌⊎◌, ◌||◌, Option, Some, None, option_to_list}
use Rattle.std.specs.List.{flat_map, list_any}
use Rattle.std.specs.BTreeSet.{BTreeSet, contains}
use Rattle.std.specs.BTreeMap.{BTreeMap, get, is_at}
use Rattle.std.proofs.lemmas.Bool.{false≢true}
use Rattle.std.proofs.lemmas.List.{drop_all}
use Rattle.std.proofs.lemmas.Grind.{flat_map-append}
use Rattle.tb_text.specs.Bytes.{bytes_cmp}
use Rattle.tb_layout.specs.Parts.{is_one_of}
use Rattle.tb_surface.specs.Names.{or_nothing, led_to, Reaches, starts_with, goes_on, AreReached, IsSearch, SearchesOn, waiting}
use Rattle.tb_surface.proofs.Joins.{dropped}
use Rattle.tb_surface.proofs.Members.{In, in_from, in_back, in_left, in_right, in_append}
use Rattle.tb_surface.proofs.Named.{true_or_false, or_left, or_right, or_cases, or_false, at_itself, at_same, one_in, in_one}

abbrev pub all_of : List (List (List ℕ)) → List (List ℕ)
all_of pending = flat_map (λ (of : List (List ℕ)). of) pending

-- ---- what is found behind a name waits

found_in : (found : Option (List (List ℕ))) (q : List ℕ) → In (all_of (option_to_list found)) q → In (or_nothing found) q
found_in None q h = absurd h
found_in (Some xs) q h = elim (in_append xs [] q h) [ inl a ↦ a | inr b ↦ absurd b ]

in_found : (found : Option (List (List ℕ))) (q : List ℕ) → In (or_nothing found) q → In (all_of (option_to_list found)) q
in_found None q h = absurd h
in_found (Some xs) q h = in_left xs [] q h

all_push : (pending : List (List (List ℕ))) (found : Option (List (List ℕ))) → all_of (pending ++ option_to_list found) ≡ all_of pending ++ all_of (option_to_list found)
all_push pending found = flat_map-append (λ (of : List (List ℕ)). of) pending (option_to_list found)

wait_old : (pending : List (List (List ℕ))) (found : Option (List (List ℕ))) (rest : List (List ℕ)) (q : List ℕ) → In (waiting pending rest) q → In (waiting (pending ++ option_to_list found) rest) q
wait_old pending found rest q h = elim (in_append (all_of pending) rest q h) [
  | inl a ↦ in_left (all_of (pending ++ option_to_list found)) rest q (subst (λ l. In l q) (sym (all_push pending found)) (in_left (all_of pending) (all_of (option_to_list found)) q a))
  | inr b ↦ in_right (all_of (pending ++ option_to_list found)) rest q b
]

wait_new : (pending : List (List (List ℕ))) (found : Option (List (List ℕ))) (rest : List (List ℕ)) (q : List ℕ) → In (or_nothing found) q → In (waiting (pending ++ option_to_list found) rest) q
wait_new pending found rest q h =
    in_left (all_of (pending ++ option_to_list found)) rest q
    (subst (λ l. In l q) (sym (all_push pending found)) (in_right (all_of pending) (all_of (option_to_list found)) q (in_found found q h)))

wait_from : (pending : List (List (List ℕ))) (found : Option (List (List ℕ))) (rest : List (List ℕ)) (q : List ℕ) → In (waiting (pending ++ option_to_list found) rest) q
    → In (waiting pending rest) q ⊎ In (or_nothing found) q
wait_from pending found rest q h = elim (in_append (all_of (pending ++ option_to_list found)) rest q h) [
  | inl a ↦ elim (in_append (all_of pending) (all_of (option_to_list found)) q (subst (λ l. In l q) (all_push pending found) a)) [
    | inl c ↦ inl (in_left (all_of pending) rest q c)
    | inr d ↦ inr (found_in found q d)
  ]
  | inr b ↦ inl (in_right (all_of pending) rest q b)
]

wait_first : (pending : List (List (List ℕ))) (name : List ℕ) (rest : List (List ℕ)) (q : List ℕ) → In (waiting pending (name ∷ rest)) q → (name ≡ q) ⊎ In (waiting pending rest) q
wait_first pending name rest q h = elim (in_append (all_of pending) (name ∷ rest) q h) [
  | inl a ↦ inr (in_left (all_of pending) rest q a)
  | inr b ↦ elim b [ inl e ↦ inl e | inr t ↦ inr (in_right (all_of pending) rest q t) ]
]

wait_later : (pending : List (List (List ℕ))) (name : List ℕ) (rest : List (List ℕ)) (q : List ℕ) → In (waiting pending rest) q → In (waiting pending (name ∷ rest)) q
wait_later pending name rest q h = elim (in_append (all_of pending) rest q h) [
  | inl a ↦ in_left (all_of pending) (name ∷ rest) q a
  | inr b ↦ in_right (all_of pending) (name ∷ rest) q (inr b)
]

-- ---- tests

cond_true : (b m : Bool) → cond b true m ≡ true → (b ≡ true) ⊎ (m ≡ true)
cond_true true m e = inl refl
cond_true false m e = inr e

true_cond : (b m : Bool) → m ≡ true → cond b true m ≡ true
true_cond true m e = refl
true_cond false m e = e

cond_false : (b m : Bool) → cond b true m ≡ false → (b ≡ false) × (m ≡ false)
cond_false true m e = absurd (false≢true (sym e))
cond_false false m e = (refl, e)

cond_none : {X : Type 0} (b : Bool) (o : Option X) → o ≡ None → cond b None o ≡ None
cond_none true o e = refl
cond_none false o e = e

-- ---- a name is met

module _ (starts : List (List ℕ)) (further left new_left : BTreeMap (List ℕ) (List (List ℕ))) (met new_met : BTreeSet (List ℕ)) (pending : List (List (List ℕ)))
    (found : Option (List (List ℕ))) (name : List ℕ) (rest : List (List ℕ))
    (put : (q : List ℕ) → contains bytes_cmp new_met q ≡ cond (is_at (bytes_cmp name) q) true (contains bytes_cmp met q))
    (is : found ≡ get bytes_cmp left name)
    (took : (q : List ℕ) → get bytes_cmp new_left q ≡ cond (is_at (bytes_cmp name) q) None (get bytes_cmp left q))
    (h : IsSearch starts further left met (waiting pending (name ∷ rest))) where
  was_met : (q : List ℕ) → contains bytes_cmp new_met q ≡ true → (name ≡ q) ⊎ (contains bytes_cmp met q ≡ true)
  was_met q e = elim (cond_true (is_at (bytes_cmp name) q) (contains bytes_cmp met q) (sym (put q) ∙ e)) [
    | inl a ↦ inl (at_same name q a)
    | inr m ↦ inr m
  ]

  still_met : (q : List ℕ) → contains bytes_cmp met q ≡ true → contains bytes_cmp new_met q ≡ true
  still_met q e = put q ∙ true_cond (is_at (bytes_cmp name) q) (contains bytes_cmp met q) e

  now_met : contains bytes_cmp new_met name ≡ true
  now_met = put name ∙ ap (λ b. cond b true (contains bytes_cmp met name)) (at_itself name)

  first_waits : is_one_of (waiting pending (name ∷ rest)) name ≡ true
  first_waits = in_one (waiting pending (name ∷ rest)) name (in_right (all_of pending) (name ∷ rest) name (inl refl))

  reached_name : Reaches starts further name
  reached_name = h.ahead name first_waits

  -- what is found is where the name leads
  led : contains bytes_cmp met name ≡ false → found ≡ get bytes_cmp further name
  led e = is ∙ h.same name e

  none_found : contains bytes_cmp met name ≡ true → found ≡ None
  none_found e = is ∙ h.gone name e

  -- met or waiting before is so after
  moved : (q : List ℕ) → (contains bytes_cmp met q || is_one_of (waiting pending (name ∷ rest)) q) ≡ true
      → (contains bytes_cmp new_met q || is_one_of (waiting (pending ++ option_to_list found) rest) q) ≡ true
  moved q e = elim (or_cases (contains bytes_cmp met q) (is_one_of (waiting pending (name ∷ rest)) q) e) [
    | inl m ↦ or_left (contains bytes_cmp new_met q) (is_one_of (waiting (pending ++ option_to_list found) rest) q) (still_met q m)
    | inr w ↦ elim (wait_first pending name rest q (one_in (waiting pending (name ∷ rest)) q w)) [
      | inl s ↦ or_left (contains bytes_cmp new_met q) (is_one_of (waiting (pending ++ option_to_list found) rest) q) (subst (λ x. contains bytes_cmp new_met x ≡ true) s now_met)
      | inr t ↦ or_right (contains bytes_cmp new_met q) (is_one_of (waiting (pending ++ option_to_list found) rest) q)
          (in_one (waiting (pending ++ option_to_list found) rest) q (wait_old pending found rest q t))
    ]
  ]

  closed_name : (other : List ℕ) → is_one_of (led_to further name) other ≡ true
      → (contains bytes_cmp new_met other || is_one_of (waiting (pending ++ option_to_list found) rest) other) ≡ true
  closed_name other l = elim (true_or_false (contains bytes_cmp met name)) [
    | inl m ↦ moved other (h.closed name other m l)
    | inr n ↦ or_right (contains bytes_cmp new_met other) (is_one_of (waiting (pending ++ option_to_list found) rest) other)
        (in_one (waiting (pending ++ option_to_list found) rest) other
        (wait_new pending found rest other (subst (λ o. In (or_nothing o) other) (sym (led n)) (one_in (led_to further name) other l))))
  ]

  pub met_next : IsSearch starts further new_left new_met (waiting (pending ++ option_to_list found) rest)
  met_next = record {
    sound = λ q e. elim (was_met q e) [
      | inl s ↦ subst (Reaches starts further) s reached_name
      | inr m ↦ h.sound q m
    ];
    ahead = λ q e. elim (wait_from pending found rest q (one_in (waiting (pending ++ option_to_list found) rest) q e)) [
      | inl w ↦ h.ahead q (in_one (waiting pending (name ∷ rest)) q (wait_later pending name rest q w))
      | inr f ↦ elim (true_or_false (contains bytes_cmp met name)) [
        | inl m ↦ absurd (subst (λ o. In (or_nothing o) q) (none_found m) f)
        | inr n ↦ goes_on reached_name (in_back (led_to further name) q (subst (λ o. In (or_nothing o) q) (led n) f))
      ]
    ];
    gone = λ q e. elim (was_met q e) [
      | inl s ↦ took q ∙ ap (λ b. cond b None (get bytes_cmp left q)) (subst (λ x. is_at (bytes_cmp name) x ≡ true) s (at_itself name))
      | inr m ↦ took q ∙ cond_none (is_at (bytes_cmp name) q) (get bytes_cmp left q) (h.gone q m)
    ];
    same = λ q e.
        let n = cond_false (is_at (bytes_cmp name) q) (contains bytes_cmp met q) (sym (put q) ∙ e) in
        took q ∙ ap (λ b. cond b None (get bytes_cmp left q)) n.0 ∙ h.same q n.1;
    closed = λ q other e l. elim (was_met q e) [
      | inl s ↦ closed_name other (subst (λ x. is_one_of (led_to further x) other ≡ true) (sym s) l)
      | inr m ↦ moved other (h.closed q other m l)
    ];
    begun = λ q e. moved q (h.begun q e);
  }

-- as the code goes
pub meets : (left new_left : BTreeMap (List ℕ) (List (List ℕ))) (met new_met : BTreeSet (List ℕ)) (pending new_pending : List (List (List ℕ))) (found : Option (List (List ℕ))) (name key : List ℕ)
    → key ≡ name → ((q : List ℕ) → contains bytes_cmp new_met q ≡ cond (is_at (bytes_cmp key) q) true (contains bytes_cmp met q))
    → found ≡ get bytes_cmp left name → ((q : List ℕ) → get bytes_cmp new_left q ≡ cond (is_at (bytes_cmp name) q) None (get bytes_cmp left q))
    → new_pending ≡ pending ++ option_to_list found
    → (rest : List (List ℕ)) → SearchesOn left met (waiting pending (name ∷ rest)) new_left new_met (waiting new_pending rest)
meets left new_left met new_met pending new_pending found name key key_is put is took grew rest starts further h =
    subst (λ p. IsSearch starts further new_left new_met (waiting p rest)) (sym grew)
    (met_next starts further left new_left met new_met pending found name rest
    (λ q. put q ∙ ap (λ k. cond (is_at (bytes_cmp k) q) true (contains bytes_cmp met q)) key_is) is took h)

-- ---- the search begins and ends

pub search_begun : (further left : BTreeMap (List ℕ) (List (List ℕ))) (met : BTreeSet (List ℕ)) (pending : List (List (List ℕ))) → left ≡ further → met.keys ≡ [] → pending ≡ []
    → (starts : List (List ℕ)) → IsSearch starts further left met (waiting pending starts)
search_begun further left met pending same none empty starts =
    let unmet = λ (q : List ℕ). ap (list_any (is_at (bytes_cmp q))) none in
    let never = λ (q : List ℕ) (e : contains bytes_cmp met q ≡ true). false≢true (sym (unmet q) ∙ e) in
    subst (λ p. IsSearch starts further left met (waiting p starts)) (sym empty) (record {
      sound = λ q e. absurd (never q e);
      ahead = λ q e. starts_with (in_back starts q (one_in starts q e));
      gone = λ q e. absurd (never q e);
      same = λ q e. ap (λ m. get bytes_cmp m q) same;
      closed = λ q other e l. absurd (never q e);
      begun = λ q e. or_right (contains bytes_cmp met q) (is_one_of starts q) e;
    })

module _ (starts : List (List ℕ)) (further left : BTreeMap (List ℕ) (List (List ℕ))) (met : BTreeSet (List ℕ)) (h : IsSearch starts further left met []) where
  all_met : {name : List ℕ} → Reaches starts further name → contains bytes_cmp met name ≡ true
  all_met (starts_with {name = name} c) = sym (or_false (contains bytes_cmp met name)) ∙ h.begun name (in_one starts name (in_from starts name c))
  all_met (goes_on {name = name} {other = other} r c) =
      sym (or_false (contains bytes_cmp met other)) ∙ h.closed name other (all_met r) (in_one (led_to further name) other (in_from (led_to further name) other c))

  pub search_ended : AreReached starts further met
  search_ended name = (h.sound name, λ r. all_met r)

-- a search that met all names and followed all found what is reached
pub searched : (starts names : List (List ℕ)) (further left left1 left2 : BTreeMap (List ℕ) (List (List ℕ))) (met met1 met2 whole : BTreeSet (List ℕ)) (waits waits1 : List (List ℕ)) → names ≡ starts
    → IsSearch names further left met waits → SearchesOn left met waits left1 met1 waits1 → SearchesOn left1 met1 waits1 left2 met2 [] → whole ≡ met2 → AreReached starts further whole
searched starts names further left left1 left2 met met1 met2 whole waits waits1 same h met_them followed is =
    subst (AreReached starts further) (sym is)
    (subst (λ l. AreReached l further met2) same (search_ended names further left2 met2 (followed names further (met_them names further h))))

-- the names of the last list that waited are met next
pub popped : (pending rest : List (List (List ℕ))) (names : List (List ℕ)) → pending ≡ rest ++ names ∷ [] → waiting pending [] ≡ waiting rest names
popped pending rest names is =
    append-nil (all_of pending) ∙ ap all_of is ∙ flat_map-append (λ (of : List (List ℕ)). of) rest (names ∷ []) ∙ ap (λ l. all_of rest ++ l) (append-nil names)

-- ---- as loops go

pub meets_next : (names : List (List ℕ)) (i : ℕ) (name : List ℕ) (left left1 left2 : BTreeMap (List ℕ) (List (List ℕ))) (met met1 met2 : BTreeSet (List ℕ)) (waits : List (List ℕ)) (pending1 pending2 : List (List (List ℕ)))
    → i < length names → name ≡ get_or names i name → SearchesOn left met waits left1 met1 (waiting pending1 (drop i names))
    → ((rest : List (List ℕ)) → SearchesOn left1 met1 (waiting pending1 (name ∷ rest)) left2 met2 (waiting pending2 rest)) → SearchesOn left met waits left2 met2 (waiting pending2 (drop (i + 1) names))
meets_next names i name left left1 left2 met met1 met2 waits pending1 pending2 lt is so_far next starts further h =
    next (drop (i + 1) names) starts further (subst (λ l. IsSearch starts further left1 met1 (waiting pending1 l)) (dropped names i name lt is) (so_far starts further h))

pub met_all : (names : List (List ℕ)) (i : ℕ) (left left1 : BTreeMap (List ℕ) (List (List ℕ))) (met met1 : BTreeSet (List ℕ)) (waits : List (List ℕ)) (pending1 : List (List (List ℕ))) → length names ≤ i
    → SearchesOn left met waits left1 met1 (waiting pending1 (drop i names)) → SearchesOn left met waits left1 met1 (waiting pending1 [])
met_all names i left left1 met met1 waits pending1 past so_far starts further h =
    subst (λ l. IsSearch starts further left1 met1 (waiting pending1 l)) (drop_all i names past) (so_far starts further h)

pub follows_next : (left left1 left2 : BTreeMap (List ℕ) (List (List ℕ))) (met met1 met2 : BTreeSet (List ℕ)) (waits names next : List (List ℕ)) (pending1 rest pending2 : List (List (List ℕ)))
    → pending1 ≡ rest ++ names ∷ [] → next ≡ names → SearchesOn left met waits left1 met1 (waiting pending1 []) → SearchesOn left1 met1 (waiting rest next) left2 met2 (waiting pending2 [])
    → SearchesOn left met waits left2 met2 (waiting pending2 [])
follows_next left left1 left2 met met1 met2 waits names next pending1 rest pending2 is same so_far further_met starts further h =
    further_met starts further (subst (λ l. IsSearch starts further left1 met1 l) (popped pending1 rest names is ∙ ap (waiting rest) (sym same)) (so_far starts further h))

pub followed_all : (left left1 : BTreeMap (List ℕ) (List (List ℕ))) (met met1 : BTreeSet (List ℕ)) (waits : List (List ℕ)) (pending1 : List (List (List ℕ))) → pending1 ≡ []
    → SearchesOn left met waits left1 met1 (waiting pending1 []) → SearchesOn left met waits left1 met1 []
followed_all left left1 met met1 waits pending1 none so_far starts further h =
    subst (λ p. IsSearch starts further left1 met1 (waiting p [])) none (so_far starts further h)
