-- The symbols of the layout of a surface are its items, one after the other; and symbols that are items read as these items alone.
use Rattle.std.proofs.Common.{◌≡◌, ℕ, ◌≤◌, Bool, true, false, List, [], ◌∷◌, ◌++◌, length, map, flat_map, refl, sym, ap, subst, ◌∙◌, inl, inr, arith, length-append}
use Rattle.std.specs.List.{AllByRecursion}
use Rattle.std.proofs.lemmas.List.{append-nil, map-append}
use Rattle.tb_tree.specs.declared.marks.Mark.TheVariants as m
use Rattle.tb_tree.specs.declared.items.SurfaceItem.{SurfaceItem}
use Rattle.tb_tree.specs.Sym.{Sym, Mark}
use Rattle.tb_tree.specs.Longest.{Found, Any}
use Rattle.tb_tree.specs.Reading.{ReadsAs, no_items, more_items, StopsAt, stops_here, stops_later}
use Rattle.tb_tree.specs.Surfaces.{IsDeclItem, DerivesDeclItem}
use Rattle.tb_tree.proofs.Ends.{ap_both}
use Rattle.tb_layout.specs.Pieces.{Piece, new_line}
use Rattle.tb_layout.specs.Dts.{surface_item_pieces, item_lines, last_line}
use Rattle.tb_emit_law.specs.DtsLaw.{AreDeclItems, no_decl_items, more_decl_items}
use Rattle.tb_emit_law.proofs.Symbols.{bare_sym, symbols_in}
use Rattle.tb_emit_law.proofs.Splits.{split, split_none}
use Rattle.tb_emit_law.proofs.Flat.{one, ◌⊕◌, alike}
use Rattle.tb_emit_law.proofs.DeclItemSteps.{plain_item, empty_list_step}
use Rattle.tb_emit_law.proofs.DeclItems.{ItemBack}
use Rattle.tb_emit_law.proofs.DeclEnds.{behind, standing_of, behind_item, item_ends}

abbrev pub all_of : List (List SurfaceItem) → List SurfaceItem
all_of items = flat_map (λ (kept : List SurfaceItem). kept) items

-- they are items of which these are kept, but for offsets
pub record RowBack (symbols : List Sym) (items : List SurfaceItem) : Type 0 where
  pub back : List (List SurfaceItem)
  pub row : AreDeclItems symbols back
  pub same : map plain_item (all_of back) ≡ map plain_item items

last_row : (last : Bool) (zs : List Sym) → map bare_sym zs ≡ symbols_in (last_line last) → RowBack zs []
last_row true zs e =
    let r = empty_list_step.back zs e in
    record {
      back = r.tree ∷ [];
      row = subst (λ v. AreDeclItems v (r.tree ∷ [])) (append-nil zs) (more_decl_items (r.own, r.reads, omega (arith, r.below)) no_decl_items);
      same = ap (λ v. map plain_item v) (append-nil r.tree) ∙ r.same;
    }
last_row false zs e = split_none (λ v. RowBack v []) zs e (record { back = []; row = no_decl_items; same = refl })

lines_told : (p rest last : List Piece) → symbols_in (p ++ new_line 0 ++ rest ++ last) ≡ symbols_in p ++ symbols_in (rest ++ last)
lines_told p rest last =
    alike (one p ⊕ one (new_line 0) ⊕ one rest ⊕ one last) (one (symbols_in p) ⊕ (one (symbols_in rest) ⊕ one (symbols_in last))) refl
    ∙ ap (λ v. symbols_in p ++ v) (sym (alike (one rest ⊕ one last) (one (symbols_in rest) ⊕ one (symbols_in last)) refl))

pub row_back : (items : List SurfaceItem) → AllByRecursion ItemBack items → (last : Bool) (zs : List Sym) → map bare_sym zs ≡ symbols_in (flat_map item_lines items ++ last_line last) → RowBack zs items
row_back [] h last zs e = last_row last zs e
row_back (of ∷ items) h last zs e =
    split (λ vs. RowBack vs (of ∷ items)) {es = symbols_in (surface_item_pieces of)} {fs = symbols_in (flat_map item_lines items ++ last_line last)} zs
    (e ∙ lines_told (surface_item_pieces of) (flat_map item_lines items) (last_line last)) λ xs ys x_told y_told.
    let item = h.0 in
    let x = item.back xs x_told in
    let y = row_back items h.1 last ys y_told in
    record {
      back = x.tree ∷ y.back;
      row = more_decl_items (x.own, x.reads, x.below) y.row;
      same = map-append plain_item x.tree (all_of y.back) ∙ ap_both (λ v u. v ++ u) x.same y.same;
    }

-- ---- what such symbols read as

-- an item is no empty list of symbols
item_some : {xs : List Sym} {of : List SurfaceItem} {d : ℕ} → IsDeclItem xs of d → xs ≡ [] → ⊥
unfolding behind standing_of
item_some {of = of} {d = d} q e = let ends : ◌≡◌ {A = List Sym} [] (Mark m.Semicolon 0 ∷ []) = item_ends (subst (λ v. IsDeclItem v of d) e q) (Mark m.Semicolon 0 ∷ []) in absurd (cc ends)

item_long : {xs : List Sym} {of : List SurfaceItem} {d : ℕ} → IsDeclItem xs of d → 1 ≤ length xs
item_long {xs = []} q = absurd (item_some q refl)
item_long {xs = x ∷ xs} q = omega arith

-- two items with which one list begins end at one place
pub one_end : {a b ys zs : List Sym} {of other : List SurfaceItem} {d e : ℕ} → IsDeclItem a of d → IsDeclItem b other e → a ++ ys ≡ b ++ zs → ys ≡ zs
one_end {ys = ys} {zs = zs} p q w = sym (item_ends p ys) ∙ (ap behind_item w ∙ item_ends q zs)

found_next : {xs ys zs a : List Sym} {of other : List SurfaceItem} → Found DerivesDeclItem Any xs of ys → DerivesDeclItem a other → xs ≡ a ++ zs → (of ≡ other) × (ys ≡ zs)
found_next {ys = ys} {zs = zs} {a = a} {other = other} f d w = elim (f.longest a other zs d w) [
  | inl p ↦ p
  | inr q ↦ let derives = f.derives in let same = one_end derives.1 d.1 (sym f.whole ∙ w) in absurd (omega (arith, ap length same, q.0))
]

no_front : {xs ys : List Sym} {of : List SurfaceItem} → Found DerivesDeclItem Any xs of ys → xs ≡ [] → ⊥
no_front {ys = ys} f e = let derives = f.derives in omega (arith, ap length e, ap length f.whole, length-append f.front ys, item_long derives.1)

reads_same : {xs vs : List Sym} {of rest : List (List SurfaceItem)} → ReadsAs DerivesDeclItem xs of → AreDeclItems vs rest → xs ≡ vs → of ≡ rest
reads_same no_items no_decl_items e = refl
reads_same no_items (more_decl_items {xs = xs} {ys = ys} d r) e = absurd (omega (arith, ap length e, length-append xs ys, item_long d.1))
reads_same (more_items f r) no_decl_items e = absurd (no_front f e)
reads_same (more_items f r) (more_decl_items d q) e = let p = found_next f d e in ap_both (λ (x : List SurfaceItem) (y : List (List SurfaceItem)). x ∷ y) p.0 (reads_same r q p.1)

stops_nowhere : {xs vs : List Sym} {at : ℕ} {rest : List (List SurfaceItem)} → StopsAt DerivesDeclItem xs at → AreDeclItems vs rest → xs ≡ vs → ⊥
stops_nowhere (stops_here s ss n) no_decl_items e = cc
stops_nowhere (stops_here s ss n) (more_decl_items {xs = xs} {ys = ys} {of = of} d q) e = n.none xs of ys d e
stops_nowhere (stops_later f r) no_decl_items e = no_front f e
stops_nowhere (stops_later f r) (more_decl_items d q) e = stops_nowhere r q (found_next f d e).1

pub row_reads : {xs : List Sym} {of rest : List (List SurfaceItem)} → ReadsAs DerivesDeclItem xs of → AreDeclItems xs rest → of ≡ rest
row_reads q r = reads_same q r refl

pub row_never_stops : {xs : List Sym} {at : ℕ} {rest : List (List SurfaceItem)} → StopsAt DerivesDeclItem xs at → AreDeclItems xs rest → ⊥
row_never_stops q r = stops_nowhere q r refl
