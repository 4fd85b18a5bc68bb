-- A loop over items of a declaration file: what is found from here on makes what is found in all.
use Rattle.std.proofs.Common.{◌≡◌, ℕ, ◌-◌, ◌+◌, ◌≤◌, ◌<◌, List, [], ◌∷◌, ◌++◌, length, drop, refl, sym, ap, ◌∙◌, subst, arith, length-append, append_assoc, append-nil, length-drop}
use Rattle.std.specs.Prelude.{map, Option, Some, None}
use Rattle.std.proofs.lemmas.List.{length-map, map-append}
use Rattle.std.proofs.lemmas.Grind.{flat_map-append}
use Rattle.tb_tree.specs.declared.items.SurfaceItem.{SurfaceItem}
use Rattle.tb_tree.specs.Sym.{Sym, at_of}
use Rattle.tb_tree.specs.Longest.{Found, Lacks, Any}
use Rattle.tb_tree.specs.Shapes.{start_of}
use Rattle.tb_tree.specs.Surfaces.{DerivesDeclItem}
use Rattle.tb_tree.specs.Reading.{no_items, more_items, stops_here, stops_later}
use Rattle.tb_layout.specs.Quoted.{quoted_surface_item}
use Rattle.tb_parse_type.specs.declared.reader.Reader.{Reader}
use Rattle.tb_parse_type.specs.Reading.{rest, start_at, FoundAt}
use Rattle.tb_parse_type.specs.Symbols.{seen}
use Rattle.tb_parse_body.proofs.Places.{start_is}
use Rattle.tb_parse_file.specs.declared.fronts.Part.{Part}
use Rattle.tb_parse_file.specs.Decls.{ReadsDeclItems, DeclStopsAt, all_kept}
use Rattle.tb_parse_file.specs.DeclReading.{at_most_one, ReadsItem}
use Rattle.tb_parse_file.proofs.DeclChosen.{item_long}

-- ---- what an answer says

pub lacking : (r : Reader) (at : ℕ) (o : Option (Part (Option SurfaceItem))) → o ≡ None → ReadsItem r at o → Lacks DerivesDeclItem (rest r at)
lacking r at o e h = subst (λ v. ReadsItem r at v) e h

pub reading : (r : Reader) (at : ℕ) (o : Option (Part (Option SurfaceItem))) (x : Part (Option SurfaceItem)) → o ≡ Some x → ReadsItem r at o → FoundAt DerivesDeclItem Any r at (at_most_one x.tree) x.next
reading r at o x e h = subst (λ v. ReadsItem r at v) e h

-- ---- what is kept of items one after the other

abbrev pub quoted_items : List SurfaceItem → List SurfaceItem
quoted_items items = map quoted_surface_item items

abbrev as_kept : List SurfaceItem → List SurfaceItem
as_kept kept = kept

kept_append : (all : List (List SurfaceItem)) (of : List SurfaceItem) → all_kept (all ++ of ∷ []) ≡ all_kept all ++ of
kept_append all of = flat_map-append as_kept all (of ∷ []) ∙ ap (λ (v : List SurfaceItem). all_kept all ++ v) (append-nil of)

quoted_append : (all : List (List SurfaceItem)) (of : List SurfaceItem) → quoted_items (all_kept (all ++ of ∷ [])) ≡ quoted_items (all_kept all) ++ quoted_items of
quoted_append all of = ap quoted_items (kept_append all of) ∙ map-append quoted_surface_item (all_kept all) of

-- each item is read from fewer symbols
pub item_falls : {xs ys : List Sym} {of : List SurfaceItem} → Found DerivesDeclItem Any xs of ys → length ys < length xs
item_falls {ys = ys} f = omega (arith, item_long f.derives, ap length f.whole, length-append f.front ys)

-- what is kept of the items before, whatever the rest reads as, and wherever it stops
pub record DeclsSoFar (acc : List SurfaceItem) (start xs : List Sym) : Type 0 where
  pub before : List (List SurfaceItem)
  pub same : acc ≡ quoted_items (all_kept before)
  pub reads : (items : List (List SurfaceItem)) → ReadsDeclItems xs items → ReadsDeclItems start (before ++ items)
  pub stops : (at : ℕ) → DeclStopsAt xs at → DeclStopsAt start at

pub decls_start : (start : List Sym) → DeclsSoFar [] start start
decls_start start = record { before = []; same = refl; reads = λ items q. q; stops = λ at q. q }

pub decls_on : {acc of : List SurfaceItem} {start xs ys : List Sym} → DeclsSoFar acc start xs → Found DerivesDeclItem Any xs of ys → DeclsSoFar (acc ++ quoted_items of) start ys
decls_on {of = of} {start = start} all f = record {
  before = all.before ++ of ∷ [];
  same = ap (λ (v : List SurfaceItem). v ++ quoted_items of) all.same ∙ sym (quoted_append all.before of);
  reads = λ items q. subst (λ (v : List (List SurfaceItem)). ReadsDeclItems start v) (sym (append_assoc all.before (of ∷ []) items)) (all.reads (of ∷ items) (more_items f q));
  stops = λ at q. all.stops at (stops_later f q);
}

pub decls_end : {acc : List SurfaceItem} {start xs : List Sym} → DeclsSoFar acc start xs → xs ≡ [] → (all : List (List SurfaceItem)) × ReadsDeclItems start all × (acc ≡ quoted_items (all_kept all))
decls_end {start = start} all e = (
  all.before,
  subst (λ (v : List (List SurfaceItem)). ReadsDeclItems start v) (append-nil all.before) (all.reads [] (subst (λ v. ReadsDeclItems v []) (sym e) no_items)),
  all.same,
)

-- where no item begins, at the first symbol of the rest
decls_stop : {acc : List SurfaceItem} {start xs : List Sym} {at : ℕ} (s : Sym) (ss : List Sym) → DeclsSoFar acc start xs → xs ≡ s ∷ ss → at ≡ start_of xs → Lacks DerivesDeclItem xs → DeclStopsAt start at
decls_stop {start = start} {xs = xs} {at = at} s ss all e p l =
    let here : DeclStopsAt (s ∷ ss) (at_of s) = stops_here s ss (subst (λ v. Lacks DerivesDeclItem v) e l) in
    let q : at ≡ at_of s = p ∙ ap start_of e in
    all.stops at (subst (λ (n : ℕ). DeclStopsAt xs n) (sym q) (subst (λ v. DeclStopsAt v (at_of s)) (sym e) here))

-- ---- what is left of the tokens

left_from : (r : Reader) (at : ℕ) → length (rest r at) ≡ length r.tokens.now - at
left_from r at = length-map (drop at r.tokens.now) (seen r.text.now) ∙ length-drop at r.tokens.now

empty : (xs : List Sym) → length xs ≡ 0 → xs ≡ []
empty [] e = refl
empty (s ∷ ss) e = absurd (omega (arith, e))

first : (xs : List Sym) → 1 ≤ length xs → (s : Sym) × (ss : List Sym) × (xs ≡ s ∷ ss)
first [] h = absurd (omega (arith, h))
first (s ∷ ss) h = (s, ss, refl)

pub nothing_left : (r : Reader) (at : ℕ) → length r.tokens.now ≤ at → rest r at ≡ []
nothing_left r at h = empty (rest r at) (omega (arith, left_from r at, h))

pub stop_at : {acc : List SurfaceItem} {start : List Sym} (r : Reader) (at : ℕ) → at < length r.tokens.now → DeclsSoFar acc start (rest r at) → Lacks DerivesDeclItem (rest r at) → DeclStopsAt start (start_at r at)
stop_at r at h all l =
    let q = first (rest r at) (omega (arith, left_from r at, h)) in
    decls_stop q.0 q.1 all q.2 (start_is r at) l
