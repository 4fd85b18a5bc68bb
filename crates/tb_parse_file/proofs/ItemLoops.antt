-- A loop over items: what is found from here on makes what is found in all.
use Rattle.std.proofs.Common.{◌≡◌, ℕ, ◌-◌, ◌≤◌, ◌<◌, List, [], ◌∷◌, ◌++◌, length, drop, refl, sym, ap, ◌∙◌, subst, inl, inr, arith, length-append, append_assoc, append-nil, length-drop}
use Rattle.std.proofs.lemmas.List.{length-map}
use Rattle.tb_tree.specs.declared.items.Item.{Item}
use Rattle.tb_tree.specs.Sym.{Sym, at_of}
use Rattle.tb_tree.specs.Longest.{Found, Lacks, Any}
use Rattle.tb_tree.specs.Shapes.{max_depth, start_of}
use Rattle.tb_tree.specs.Items.{DerivesItem}
use Rattle.tb_tree.specs.Reading.{no_items, more_items, stops_here, stops_later}
use Rattle.tb_parse_type.specs.declared.reader.Reader.{Reader}
use Rattle.tb_parse_type.specs.Reading.{rest, start_at}
use Rattle.tb_parse_type.specs.Symbols.{seen}
use Rattle.tb_parse_body.proofs.Places.{start_is}
use Rattle.tb_parse_body.specs.Rules.{Deep}
use Rattle.tb_parse_file.specs.Files.{ReadsItems, StopsAt}
use Rattle.tb_parse_file.specs.Rules.{ItemUpto}
use Rattle.tb_parse_file.proofs.ItemStarts.{item_long}

-- the item without its depth
pub item_found : {xs ys : List Sym} {of : Item} {depth : ℕ} → Found (ItemUpto max_depth) Any xs (of, depth) ys → Found DerivesItem Any xs of ys
item_found {depth = depth} f = record {
  front = f.front;
  whole = f.whole;
  derives = (depth, f.derives.0, f.derives.1);
  longest = λ a u us d w. elim (f.longest a (u, d.0) us (d.1, d.2) w) [
    | inl p ↦ inl (ap (λ (r : Deep Item). r.0) p.0, p.1)
    | inr p ↦ inr p
  ];
}

pub item_lacks : {xs : List Sym} → Lacks (ItemUpto max_depth) xs → Lacks DerivesItem xs
item_lacks f = record { none = λ a u us d w. f.none a (u, d.0) us (d.1, d.2) w }

-- each item is read from fewer symbols
pub item_falls : {xs ys : List Sym} {r : Deep Item} → Found (ItemUpto max_depth) Any xs r ys → length ys < length xs
item_falls {ys = ys} f = omega (arith, item_long f.derives.0, ap length f.whole, length-append f.front ys)

-- whatever the rest reads as, and wherever it stops
pub record ItemsSoFar (acc : List Item) (start xs : List Sym) : Type 0 where
  pub reads : (items : List Item) → ReadsItems xs items → ReadsItems start (acc ++ items)
  pub stops : (at : ℕ) → StopsAt xs at → StopsAt start at

pub items_start : (start : List Sym) → ItemsSoFar [] start start
items_start start = record { reads = λ items q. q; stops = λ at q. q }

pub items_on : {acc : List Item} {start xs ys : List Sym} {of : Item} {depth : ℕ} → ItemsSoFar acc start xs → Found (ItemUpto max_depth) Any xs (of, depth) ys → ItemsSoFar (acc ++ of ∷ []) start ys
items_on {acc = acc} {start = start} {of = of} all f = record {
  reads = λ items q. subst (λ (v : List Item). ReadsItems start v) (sym (append_assoc acc (of ∷ []) items)) (all.reads (of ∷ items) (more_items (item_found f) q));
  stops = λ at q. all.stops at (stops_later (item_found f) q);
}

pub items_end : {acc : List Item} {start xs : List Sym} → ItemsSoFar acc start xs → xs ≡ [] → ReadsItems start acc
items_end {acc = acc} {start = start} all e =
    subst (λ (v : List Item). ReadsItems start v) (append-nil acc) (all.reads [] (subst (λ v. ReadsItems v []) (sym e) no_items))

-- where no item begins, at the first symbol of the rest
pub items_stop : {acc : List Item} {start xs : List Sym} {at : ℕ} (s : Sym) (ss : List Sym) → ItemsSoFar acc start xs → xs ≡ s ∷ ss → at ≡ start_of xs → Lacks (ItemUpto max_depth) xs
    → StopsAt start at
items_stop {start = start} {xs = xs} {at = at} s ss all e p l =
    let here : StopsAt (s ∷ ss) (at_of s) = stops_here s ss (item_lacks (subst (λ v. Lacks (ItemUpto max_depth) v) e l)) in
    let q : at ≡ at_of s = p ∙ ap start_of e in
    all.stops at (subst (λ (n : ℕ). StopsAt xs n) (sym q) (subst (λ v. StopsAt v (at_of s)) (sym e) here))

-- ---- what is left of the tokens

left_from : (r : Reader) (at : ℕ) → length (rest r at) ≡ length r.tokens.now - at
left_from r at = length-map (drop at r.tokens.now) (seen r.text.now) ∙ length-drop at r.tokens.now

empty : (xs : List Sym) → length xs ≡ 0 → xs ≡ []
empty [] e = refl
empty (s ∷ ss) e = absurd (omega (arith, e))

first : (xs : List Sym) → 1 ≤ length xs → (s : Sym) × (ss : List Sym) × (xs ≡ s ∷ ss)
first [] h = absurd (omega (arith, h))
first (s ∷ ss) h = (s, ss, refl)

pub nothing_left : (r : Reader) (at : ℕ) → length r.tokens.now ≤ at → rest r at ≡ []
nothing_left r at h = empty (rest r at) (omega (arith, left_from r at, h))

pub stop_at : {acc : List Item} {start : List Sym} (r : Reader) (at : ℕ) → at < length r.tokens.now → ItemsSoFar acc start (rest r at) → Lacks (ItemUpto max_depth) (rest r at) → StopsAt start (start_at r at)
stop_at r at h all l =
    let q = first (rest r at) (omega (arith, left_from r at, h)) in
    items_stop q.0 q.1 all q.2 (start_is r at) l
