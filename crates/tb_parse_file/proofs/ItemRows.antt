-- Symbols that are items one after the other read as these items.
use Rattle.std.proofs.Common.{◌≡◌, ℕ, true, List, [], ◌∷◌, ◌++◌, length, refl, sym, ◌∙◌, ap, inl, inr, arith, length-append}
use Rattle.tb_tree.specs.declared.items.Item.{Item}
use Rattle.tb_tree.specs.Sym.{Sym}
use Rattle.tb_tree.specs.Longest.{Found, Any}
use Rattle.tb_tree.specs.Items.{DerivesItem}
use Rattle.tb_tree.specs.Reading.{ReadsAs, no_items, more_items, StopsAt, stops_here, stops_later}
use Rattle.tb_tree.proofs.Ends.{ap_both}
use Rattle.tb_parse_file.proofs.ItemStarts.{item_long}
use Rattle.tb_parse_file.proofs.Parting.{Followed, longest_item}

-- the symbols are these items, one after the other
pub data Row : List Sym → List Item → Type 0 where
  no_row : Row [] []
  more_row : {xs ys : List Sym} {of : Item} {rest : List Item} → DerivesItem xs of → Row ys rest → Row (xs ++ ys) (of ∷ rest)

pub row_followed : {xs : List Sym} {of : List Item} → Row xs of → Followed true xs
row_followed no_row = inl refl
row_followed (more_row {xs = xs} {ys = ys} {of = of} d r) = inr (xs, of, d.0, ys, d.1, refl)

-- an item that nothing or an item follows is what is found
pub found_next : {xs ys zs a : List Sym} {of other : Item} → Found DerivesItem Any xs of ys → DerivesItem a other → xs ≡ a ++ zs → Followed true zs → (of ≡ other) × (ys ≡ zs)
found_next {ys = ys} {zs = zs} {a = a} {other = other} f d w l = elim (f.longest a other zs d w) [
  | inl p ↦ p
  | inr q ↦ let n = longest_item zs ys d.1 f.derives.1 (sym w ∙ f.whole) l in absurd (omega (arith, n, q.0))
]

no_front : {xs ys : List Sym} {of : Item} → Found DerivesItem Any xs of ys → xs ≡ [] → ⊥
no_front {ys = ys} f e = omega (arith, ap length e, ap length f.whole, length-append f.front ys, item_long f.derives.1)

reads_same : {xs vs : List Sym} {of rest : List Item} → ReadsAs DerivesItem xs of → Row vs rest → xs ≡ vs → of ≡ rest
reads_same no_items no_row e = refl
reads_same no_items (more_row {xs = xs} {ys = ys} d r) e = absurd (omega (arith, ap length e, length-append xs ys, item_long d.1))
reads_same (more_items f r) no_row e = absurd (no_front f e)
reads_same (more_items f r) (more_row d q) e = let p = found_next f d e (row_followed q) in ap_both (λ (x : Item) (y : List Item). x ∷ y) p.0 (reads_same r q p.1)

stops_nowhere : {xs vs : List Sym} {at : ℕ} {rest : List Item} → StopsAt DerivesItem xs at → Row vs rest → xs ≡ vs → ⊥
stops_nowhere (stops_here s ss n) no_row e = cc
stops_nowhere (stops_here s ss n) (more_row {xs = xs} {ys = ys} {of = of} d q) e = n.none xs of ys d e
stops_nowhere (stops_later f r) no_row e = no_front f e
stops_nowhere (stops_later f r) (more_row d q) e = stops_nowhere r q (found_next f d e (row_followed q)).1

-- what reads as items, and is a row of items, reads as these
pub row_reads : {xs : List Sym} {of rest : List Item} → ReadsAs DerivesItem xs of → Row xs rest → of ≡ rest
row_reads q r = reads_same q r refl

-- and reading does not stop in a row of items
pub row_never_stops : {xs : List Sym} {at : ℕ} {rest : List Item} → StopsAt DerivesItem xs at → Row xs rest → ⊥
row_never_stops q r = stops_nowhere q r refl
