-- The declaration file of a surface reads as this surface, but for offsets: its symbols are its items, and no others.
use Rattle.std.proofs.Common.{◌≡◌, List, [], ◌∷◌, ◌++◌, length, refl, sym, ap, ◌∙◌, inl, arith, length-append}
use Rattle.tb_tree.specs.declared.items.SurfaceItem.{SurfaceItem}
use Rattle.tb_tree.specs.Sym.{Sym}
use Rattle.tb_tree.specs.Reading.{ReadsAs, no_items, more_items}
use Rattle.tb_tree.specs.Surfaces.{DerivesDeclItem}
use Rattle.tb_tree.proofs.Ends.{ap_both}
use Rattle.tb_layout.specs.Quoted.{quoted_surface}
use Rattle.tb_parse_file.specs.Decls.{all_kept}
use Rattle.tb_emit_law.specs.DtsLaw.{AreDeclItems, no_decl_items, more_decl_items, DtsReads}
use Rattle.tb_emit_law.proofs.DeclRows.{one_end}
use Rattle.tb_emit_law.proofs.DeclOneDecl.{item_one}
use Rattle.tb_emit_law.proofs.DeclLaw.{dts_derives}

same_front : (xs a ys : List Sym) → xs ++ ys ≡ a ++ ys → xs ≡ a
same_front [] [] ys e = refl
same_front [] (y ∷ a) ys e = absurd (omega (arith, ap length e, length-append (y ∷ a) ys))
same_front (x ∷ xs) [] ys e = absurd (omega (arith, ap length e, length-append (x ∷ xs) ys))
same_front (x ∷ xs) (y ∷ a) ys e =
    let head : x ≡ y = cc in
    let rest : xs ++ ys ≡ a ++ ys = cc in
    ap_both (λ v u. v ∷ u) head (same_front xs a ys rest)

-- items one after the other are what their symbols read as
row_found : {xs : List Sym} {of : List (List SurfaceItem)} → AreDeclItems xs of → ReadsAs DerivesDeclItem xs of
row_found no_decl_items = no_items
row_found (more_decl_items {xs = xs} {ys = ys} d r) = more_items
    (record {
      front = xs;
      whole = refl;
      derives = d;
      longest = λ a y zs q w.
          let same = one_end d.1 q.1 w in
          let front = same_front xs a zs (ap (λ v. xs ++ v) (sym same) ∙ w) in
          inl (item_one d.1 q.1 front, same);
    })
    (row_found r)

pub dts_reads : DtsReads
dts_reads of given =
    let r = dts_derives of given in
    (quoted_surface (record { items = all_kept r.items }), record { seen = r.seen; symbols = r.symbols; items = r.items; reads = row_found r.are; same = refl }, r.same)
