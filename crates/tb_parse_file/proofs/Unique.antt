-- A list of symbols reads as one list of items at most, stops at one place at most, and does not both read and stop.
use Rattle.std.proofs.Common.{◌≡◌, ℕ, List, [], ◌∷◌, length, refl, sym, ap, subst, arith, length-append}
use Rattle.tb_tree.specs.declared.items.Item.{Item}
use Rattle.tb_tree.specs.Sym.{Sym}
use Rattle.tb_tree.specs.Longest.{Found, Any}
use Rattle.tb_tree.specs.Items.{DerivesItem}
use Rattle.tb_tree.specs.Reading.{no_items, more_items, stops_here, stops_later}
use Rattle.tb_tree.proofs.Ends.{same_found, found_not_lacks, ap_both}
use Rattle.tb_parse_file.specs.Files.{ReadsItems, StopsAt}
use Rattle.tb_parse_file.proofs.ItemStarts.{item_long}

item_front : {of : Item} {ys : List Sym} → Found DerivesItem Any [] of ys → ⊥
item_front {ys = ys} f = omega (arith, ap length f.whole, length-append f.front ys, item_long f.derives.1)

pub one_reading : {xs : List Sym} {is js : List Item} → ReadsItems xs is → ReadsItems xs js → is ≡ js
one_reading no_items no_items = refl
one_reading no_items (more_items f r) = absurd (item_front f)
one_reading (more_items f r) no_items = absurd (item_front f)
one_reading (more_items f r) (more_items {of = other} {rest = others} g q) =
    let p = same_found f g in
    ap_both (λ (x : Item) (y : List Item). x ∷ y) p.0 (one_reading r (subst (λ v. ReadsItems v others) (sym p.1) q))

pub reads_or_stops : {xs : List Sym} {is : List Item} {at : ℕ} → ReadsItems xs is → StopsAt xs at → ⊥
reads_or_stops no_items (stops_later f q) = item_front f
reads_or_stops (more_items f r) (stops_here s ss n) = found_not_lacks f n
reads_or_stops (more_items f r) (stops_later {at = at} g q) = reads_or_stops r (subst (λ v. StopsAt v at) (sym (same_found f g).1) q)

pub one_stop : {xs : List Sym} {at other : ℕ} → StopsAt xs at → StopsAt xs other → at ≡ other
one_stop (stops_here s ss n) (stops_here z zs m) = refl
one_stop (stops_here s ss n) (stops_later g q) = absurd (found_not_lacks g n)
one_stop (stops_later f q) (stops_here s ss n) = absurd (found_not_lacks f n)
one_stop (stops_later f q) (stops_later {at = at} g r) = one_stop q (subst (λ v. StopsAt v at) (sym (same_found f g).1) r)
