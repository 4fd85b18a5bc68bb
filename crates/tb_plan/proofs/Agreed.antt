-- The visit over paths ends as the visit over their numbers does.
use Rattle.std.proofs.Common.{◌≡◌, ℕ, zero, suc, ◌<◌, ◌==◌, Bool, true, false, cond, List, [], ◌∷◌, ◌++◌, length, refl, sym, ap, subst, ◌∙◌, inl, inr}
use Rattle.std.specs.Prelude.{Contains, map, Some, None}
use Rattle.std.specs.Str.{bytes_eq}
use Rattle.std.specs.BTreeMap as tree
use Rattle.std.specs.BTreeMap.{BTreeMap}
use Rattle.std.proofs.lemmas.List.{map_push}
use Rattle.std.proofs.lemmas.Bool.{eq-eqb, ne_eqb, cases_eq}
use Rattle.std.proofs.lemmas.Slice.Eq.{bytes_eq-Decides}
use Rattle.tb_text.specs.Bytes.{bytes_cmp}
use Rattle.tb_graph.specs.Graphs.{refs_of}
use Rattle.tb_graph.specs.Visits.{Outcome, Ordered, Cyclic, Visits, ended, passed, met, entered, failed, path_from}
use Rattle.tb_plan.specs.Orders.{Paths, is_among, Visit, way_from, closing, finishing, met as meets, visited_from}
use Rattle.tb_plan.specs.Searches.{path_at, IsNumbering}
use Rattle.tb_plan.proofs.Members.{In, in_from, in_back, in_map, from_map}
use Rattle.tb_plan.proofs.Among.{among_in, in_among}
use Rattle.tb_plan.proofs.Numbered.{some_same}
use Rattle.tb_plan.proofs.Visited.{HasRoom, no_room, room_rest, room_deeper, went}

abbrev pub Below : ℕ → List ℕ → Type 0
Below n [] = Unit {0}
Below n (x ∷ xs) = (x < n) × Below n xs

below_in : (n : ℕ) (xs : List ℕ) (x : ℕ) → Below n xs → In xs x → x < n
below_in n [] x b h = absurd h
below_in n (y ∷ xs) x b h = elim h [ inl e ↦ subst (λ k. k < n) e b.0 | inr t ↦ below_in n xs x b.1 t ]

below_push : (n : ℕ) (xs : List ℕ) (x : ℕ) → Below n xs → x < n → Below n (xs ++ x ∷ [])
below_push n [] x b lt = (lt, tt)
below_push n (y ∷ xs) x b lt = (b.0, below_push n xs x b.1 lt)

is_true_false : (b : Bool) → ¬ (b ≡ true) → b ≡ false
is_true_false true f = absurd (f refl)
is_true_false false f = refl

-- how a visit of numbers says that one of paths ends
abbrev pub Ends : Paths → Outcome → Visit → Type 0
Ends configs (Ordered order) v = v ≡ record { finished = map (path_at configs) order; cycle = None }
Ends configs (Cyclic cycle) v = v.cycle ≡ Some (map (path_at configs) cycle)

-- ---- paths with numbers are told by them

module _ (configs : Paths) (numbers : BTreeMap (List ℕ) ℕ) (one : IsNumbering configs numbers) where
  same_number : (a b : ℕ) → a < length configs → b < length configs → path_at configs a ≡ path_at configs b → a ≡ b
  same_number a b l m e = some_same a b (sym (one.each a l) ∙ ap (tree.get bytes_cmp numbers) e ∙ one.each b m)

  number_in : (ns : List ℕ) (n : ℕ) → Below (length configs) ns → n < length configs → In (map (path_at configs) ns) (path_at configs n) → In ns n
  number_in ns n b l h =
      let r = from_map (path_at configs) ns (path_at configs n) h in
      subst (In ns) (same_number r.0 n (below_in (length configs) ns r.0 b r.1) l r.2) r.1

  among_yes : (ns : List ℕ) (n : ℕ) → Contains ns n → is_among (map (path_at configs) ns) (path_at configs n) ≡ true
  among_yes ns n c = in_among (map (path_at configs) ns) (path_at configs n) (in_map (path_at configs) ns n (in_from ns n c))

  among_no : (ns : List ℕ) (n : ℕ) → Below (length configs) ns → n < length configs → ¬ Contains ns n → is_among (map (path_at configs) ns) (path_at configs n) ≡ false
  among_no ns n b l out = is_true_false (is_among (map (path_at configs) ns) (path_at configs n))
      (λ e. out (in_back ns n (number_in ns n b l (among_in (map (path_at configs) ns) (path_at configs n) e))))

  from_same : (ns : List ℕ) (n : ℕ) → Below (length configs) ns → n < length configs → way_from (path_at configs n) (map (path_at configs) ns) ≡ map (path_at configs) (path_from n ns)
  from_same [] n b l = refl
  from_same (m ∷ ns) n b l = elim (cases_eq m n) [
    | inl e ↦
        let yes : bytes_eq (path_at configs n) (path_at configs m) ≡ true = (bytes_eq-Decides (path_at configs n) (path_at configs m)).1 (ap (path_at configs) (sym e)) in
        let here : (m == n) ≡ true = eq-eqb m n e in
        ap (λ t. cond t (path_at configs m ∷ map (path_at configs) ns) (way_from (path_at configs n) (map (path_at configs) ns))) yes
        ∙ sym (ap (λ t. map (path_at configs) (cond t (m ∷ ns) (path_from n ns))) here)
    | inr out ↦
        let no : bytes_eq (path_at configs n) (path_at configs m) ≡ false = is_true_false (bytes_eq (path_at configs n) (path_at configs m))
        (λ e. out (same_number m n b.0 l (sym ((bytes_eq-Decides (path_at configs n) (path_at configs m)).0 e)))) in
        let here : (m == n) ≡ false = ne_eqb m n out in
        ap (λ t. cond t (path_at configs m ∷ map (path_at configs) ns) (way_from (path_at configs n) (map (path_at configs) ns))) no
        ∙ from_same ns n b.1 l
        ∙ sym (ap (λ t. map (path_at configs) (cond t (m ∷ ns) (path_from n ns))) here)
  ]

-- ---- a visit finishes only nodes

module _ (n : ℕ) (refs : List (List ℕ)) (nodes : (k : ℕ) → k < n → Below n (refs_of refs k)) where
  pub stays_below : {path done todo after : List ℕ} → Visits refs path done todo (Ordered after) → Below n done → Below n todo → Below n after
  stays_below (ended p d) b t = b
  stays_below (passed p d k rest o c v) b t = stays_below v b t.1
  stays_below (entered p d k rest between o out off v w) b t =
      stays_below w (below_push n between k (stays_below v b (nodes k t.0)) t.0) t.1

-- ---- the two visits

module _ (configs : Paths) (numbers : BTreeMap (List ℕ) ℕ) (one : IsNumbering configs numbers) (nrefs : List (List ℕ)) (files : Paths) (refs : List ℕ → Paths)
    (nodes : (k : ℕ) → k < length configs → Below (length configs) (refs_of nrefs k)) (lead : (k : ℕ) → k < length configs → map (path_at configs) (refs_of nrefs k) ≡ refs (path_at configs k))
    (file : (c r : List ℕ) → In (refs c) r → In files c) where
  abbrev enters : ℕ → Paths → Visit → List ℕ → Visit
  enters room longer so_far config = visited_from room refs longer so_far (refs config)

  visited_none : (room : ℕ) (way : Paths) (v : Visit) → visited_from room refs way v [] ≡ v
  unfolding visited_from
  visited_none zero way v = refl
  visited_none (suc room) way v = refl

  visited_next : (room : ℕ) (way : Paths) (v : Visit) (c : List ℕ) (rest : Paths) → visited_from (suc room) refs way v (c ∷ rest) ≡ visited_from (suc room) refs way (meets (enters room) way v c) rest
  unfolding visited_from
  visited_next room way v c rest = refl

  done_at : List ℕ → Visit
  done_at done = record { finished = map (path_at configs) done; cycle = None }

  -- the first cycle stays to the end
  stays_first : (room : ℕ) (way rest : Paths) (v : Visit) (x : Paths) → HasRoom files room way rest → v.cycle ≡ Some x → (visited_from room refs way v rest).cycle ≡ Some x
  stays_first room way rest v x h e = (went files refs (λ c. Unit {0}) file (λ c r p k. tt) room way v rest h).first x e

  meets_done : (room : ℕ) (way : Paths) (v : Visit) (c : List ℕ) → is_among v.finished c ≡ true → meets (enters room) way v c ≡ v
  meets_done room way v c e = ap (λ b. cond b v (cond (is_among way c) (closing (way_from c way) v) (finishing c (enters room (way ++ c ∷ []) v c)))) e

  meets_on : (room : ℕ) (way : Paths) (v : Visit) (c : List ℕ) → is_among v.finished c ≡ false → is_among way c ≡ true → meets (enters room) way v c ≡ closing (way_from c way) v
  meets_on room way v c e f = ap (λ b. cond b v (cond (is_among way c) (closing (way_from c way) v) (finishing c (enters room (way ++ c ∷ []) v c)))) e
      ∙ ap (λ b. cond b (closing (way_from c way) v) (finishing c (enters room (way ++ c ∷ []) v c))) f

  meets_new : (room : ℕ) (way : Paths) (v : Visit) (c : List ℕ) → is_among v.finished c ≡ false → is_among way c ≡ false → meets (enters room) way v c ≡ finishing c (enters room (way ++ c ∷ []) v c)
  meets_new room way v c e f = ap (λ b. cond b v (cond (is_among way c) (closing (way_from c way) v) (finishing c (enters room (way ++ c ∷ []) v c)))) e
      ∙ ap (λ b. cond b (closing (way_from c way) v) (finishing c (enters room (way ++ c ∷ []) v c))) f

  Room : ℕ → List ℕ → List ℕ → Type 0
  Room room path todo = HasRoom files room (map (path_at configs) path) (map (path_at configs) todo)

  deeper : (room : ℕ) (path : List ℕ) (k : ℕ) (rest : List ℕ) → k < length configs → Below (length configs) path → Room (suc room) path (k ∷ rest) → ¬ Contains path k → Room room (path ++ k ∷ []) (refs_of nrefs k)
  unfolding Room
  deeper room path k rest lt b h off =
      let c = path_at configs k in
      let out : ¬ In (map (path_at configs) path) c = λ i. off (in_back path k (number_in configs numbers one path k b lt i)) in
      let r = room_deeper files room (map (path_at configs) path) (map (path_at configs) rest) (refs c) c h out (λ r i. file c r i) in
      subst (λ (l : Paths). HasRoom files room l (map (path_at configs) (refs_of nrefs k))) (sym (map_push (path_at configs) path k))
      (subst (λ (l : Paths). HasRoom files room (map (path_at configs) path ++ c ∷ []) l) (sym (lead k lt)) r)

  next_is : (room : ℕ) (way : Paths) (v w : Visit) (c : List ℕ) (rest : Paths) → meets (enters room) way v c ≡ w → visited_from (suc room) refs way v (c ∷ rest) ≡ visited_from (suc room) refs way w rest
  next_is room way v w c rest e = visited_next room way v c rest ∙ ap (λ (x : Visit). visited_from (suc room) refs way x rest) e

  -- the visit behind a config is that behind its number
  behind_is : (room : ℕ) (path done : List ℕ) (k : ℕ) → k < length configs
      → enters room (map (path_at configs) path ++ path_at configs k ∷ []) (done_at done) (path_at configs k) ≡ visited_from room refs (map (path_at configs) (path ++ k ∷ [])) (done_at done) (map (path_at configs) (refs_of nrefs k))
  behind_is room path done k lt =
      ap (λ (l : Paths). visited_from room refs l (done_at done) (refs (path_at configs k))) (sym (map_push (path_at configs) path k))
      ∙ ap (λ (l : Paths). visited_from room refs (map (path_at configs) (path ++ k ∷ [])) (done_at done) l) (sym (lead k lt))

  finished_is : (between : List ℕ) (k : ℕ) → finishing (path_at configs k) (done_at between) ≡ done_at (between ++ k ∷ [])
  unfolding done_at
  finished_is between k = ap (λ (l : Paths). let v : Visit = record { finished = l; cycle = None } in v) (sym (map_push (path_at configs) between k))

  no_cycle : (done : List ℕ) → (done_at done).cycle ≡ None
  unfolding done_at
  no_cycle done = refl

  finished_at : (done : List ℕ) → (done_at done).finished ≡ map (path_at configs) done
  unfolding done_at
  finished_at done = refl

  yes_done : (done : List ℕ) (k : ℕ) → Contains done k → is_among (done_at done).finished (path_at configs k) ≡ true
  unfolding done_at
  yes_done done k c = among_yes configs numbers one done k c

  not_done : (done : List ℕ) (k : ℕ) → Below (length configs) done → k < length configs → ¬ Contains done k → is_among (done_at done).finished (path_at configs k) ≡ false
  unfolding done_at
  not_done done k b lt out = among_no configs numbers one done k b lt out

  closes : (done path : List ℕ) (k : ℕ) → Below (length configs) path → k < length configs → (closing (way_from (path_at configs k) (map (path_at configs) path)) (done_at done)).cycle ≡ Some (map (path_at configs) (path_from k path))
  unfolding done_at
  closes done path k b lt = ap Some (from_same configs numbers one path k b lt)

  agree : {path done todo : List ℕ} {o : Outcome} → Visits nrefs path done todo o → (room : ℕ) → Below (length configs) path → Below (length configs) done → Below (length configs) todo → Room room path todo
      → Ends configs o (visited_from room refs (map (path_at configs) path) (done_at done) (map (path_at configs) todo))
  unfolding Room done_at
  agree (ended p d) room bp bd bt h = visited_none room (map (path_at configs) p) (done_at d)
  agree (passed p d k rest o c v) zero bp bd bt h = absurd (no_room files _ _ (path_at configs k) h (inl refl))
  agree (passed p d k rest o c v) (suc room) bp bd bt h =
      let e = next_is room (map (path_at configs) p) (done_at d) (done_at d) (path_at configs k) (map (path_at configs) rest) (meets_done room (map (path_at configs) p) (done_at d) (path_at configs k) (yes_done d k c)) in
      subst (Ends configs o) (sym e) (agree v (suc room) bp bd bt.1 (room_rest files (suc room) _ _ (path_at configs k) h))
  agree (met p d k rest out on) zero bp bd bt h = absurd (no_room files _ _ (path_at configs k) h (inl refl))
  agree (met p d k rest out on) (suc room) bp bd bt h =
      let way = map (path_at configs) p in
      let e = next_is room way (done_at d) (closing (way_from (path_at configs k) way) (done_at d)) (path_at configs k) (map (path_at configs) rest)
      (meets_on room way (done_at d) (path_at configs k) (not_done d k bd bt.0 out) (among_yes configs numbers one p k on)) in
      ap (λ (w : Visit). w.cycle) e ∙ stays_first (suc room) way (map (path_at configs) rest) _ _ (room_rest files (suc room) _ _ (path_at configs k) h) (closes d p k bp bt.0)
  agree (entered p d k rest between o out off v w) zero bp bd bt h = absurd (no_room files _ _ (path_at configs k) h (inl refl))
  agree (entered p d k rest between o out off v w) (suc room) bp bd bt h =
      let way = map (path_at configs) p in
      let sub = agree v room (below_push (length configs) p k bp bt.0) bd (nodes k bt.0) (deeper room p k rest bt.0 bp h off) in
      let e = next_is room way (done_at d) (done_at (between ++ k ∷ [])) (path_at configs k) (map (path_at configs) rest)
      (meets_new room way (done_at d) (path_at configs k) (not_done d k bd bt.0 out) (among_no configs numbers one p k bp bt.0 off)
      ∙ ap (λ (x : Visit). finishing (path_at configs k) x) (behind_is room p d k bt.0 ∙ sub) ∙ finished_is between k) in
      subst (Ends configs o) (sym e) (agree w (suc room) bp (below_push (length configs) between k (stays_below (length configs) nrefs nodes v bd (nodes k bt.0)) bt.0) bt.1 (room_rest files (suc room) _ _ (path_at configs k) h))
  agree (failed p d k rest cycle out off v) zero bp bd bt h = absurd (no_room files _ _ (path_at configs k) h (inl refl))
  agree (failed p d k rest cycle out off v) (suc room) bp bd bt h =
      let way = map (path_at configs) p in
      let c = path_at configs k in
      let sub = agree v room (below_push (length configs) p k bp bt.0) bd (nodes k bt.0) (deeper room p k rest bt.0 bp h off) in
      let e = next_is room way (done_at d) (finishing c (enters room (way ++ c ∷ []) (done_at d) c)) c (map (path_at configs) rest)
      (meets_new room way (done_at d) c (not_done d k bd bt.0 out) (among_no configs numbers one p k bp bt.0 off)) in
      let here = ap (λ (x : Visit). x.cycle) (behind_is room p d k bt.0) ∙ sub in
      ap (λ (w : Visit). w.cycle) e ∙ stays_first (suc room) way (map (path_at configs) rest) _ _ (room_rest files (suc room) _ _ c h) here

  -- the visit from the roots
  pub ends : {starts : List ℕ} {o : Outcome} → Visits nrefs [] [] starts o → (room : ℕ) → Below (length configs) starts → HasRoom files room [] (map (path_at configs) starts)
      → Ends configs o (visited_from room refs [] (record { finished = []; cycle = None }) (map (path_at configs) starts))
  unfolding Room done_at
  ends v room b h = agree v room tt tt b h
