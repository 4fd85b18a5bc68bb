-- A source reads as one surface at most, stops at one place at most, and does not both read and have a fault.
use Rattle.std.proofs.Common.{◌≡◌, ℕ, List, [], ◌∷◌, length, refl, sym, ◌∙◌, ap, subst, arith, length-append}
use Rattle.std.specs.Prelude.{Result, Ok, Err}
use Rattle.tb_text.specs.declared.findings.Finding.{Finding}
use Rattle.tb_tree.specs.declared.items.Surface.{Surface}
use Rattle.tb_tree.specs.declared.items.SurfaceItem.{SurfaceItem}
use Rattle.tb_tree.specs.Sym.{Sym}
use Rattle.tb_tree.specs.Longest.{Found, Any}
use Rattle.tb_tree.specs.Surfaces.{DerivesDeclItem}
use Rattle.tb_tree.specs.Reading.{no_items, more_items, stops_here, stops_later}
use Rattle.tb_tree.proofs.Ends.{same_found, found_not_lacks, ap_both}
use Rattle.tb_layout.specs.Quoted.{quoted_surface}
use Rattle.tb_parse_file.specs.declared.FileFault.{FileFault}
use Rattle.tb_parse_file.specs.declared.FileFault.TheVariants as fault
use Rattle.tb_parse_file.specs.Files.{finding}
use Rattle.tb_parse_file.specs.Decls.{ReadsDeclItems, DeclStopsAt, all_kept, ReadsDecl, HasDeclFault, no_text, no_item, DeclAnswers, IsSurface, IsDeclFault}
use Rattle.tb_parse_file.proofs.OneFile.{same_symbols}
use Rattle.tb_parse_file.proofs.DeclChosen.{item_long}

item_front : {of : List SurfaceItem} {ys : List Sym} → Found DerivesDeclItem Any [] of ys → ⊥
item_front {ys = ys} f = omega (arith, ap length f.whole, length-append f.front ys, item_long f.derives)

one_reading : {xs : List Sym} {is js : List (List SurfaceItem)} → ReadsDeclItems xs is → ReadsDeclItems xs js → is ≡ js
one_reading no_items no_items = refl
one_reading no_items (more_items f r) = absurd (item_front f)
one_reading (more_items f r) no_items = absurd (item_front f)
one_reading (more_items f r) (more_items {rest = others} g q) =
    let p = same_found f g in
    ap_both (λ (x : List SurfaceItem) (y : List (List SurfaceItem)). x ∷ y) p.0 (one_reading r (subst (λ v. ReadsDeclItems v others) (sym p.1) q))

reads_or_stops : {xs : List Sym} {is : List (List SurfaceItem)} {at : ℕ} → ReadsDeclItems xs is → DeclStopsAt xs at → ⊥
reads_or_stops no_items (stops_later f q) = item_front f
reads_or_stops (more_items f r) (stops_here s ss n) = found_not_lacks f n
reads_or_stops (more_items f r) (stops_later {at = at} g q) = reads_or_stops r (subst (λ v. DeclStopsAt v at) (sym (same_found f g).1) q)

one_stop : {xs : List Sym} {at other : ℕ} → DeclStopsAt xs at → DeclStopsAt xs other → at ≡ other
one_stop (stops_here s ss n) (stops_here z zs m) = refl
one_stop (stops_here s ss n) (stops_later g q) = absurd (found_not_lacks g n)
one_stop (stops_later f q) (stops_here s ss n) = absurd (found_not_lacks f n)
one_stop (stops_later f q) (stops_later {at = at} g r) = one_stop q (subst (λ v. DeclStopsAt v at) (sym (same_found f g).1) r)

abbrev surface_of : List (List SurfaceItem) → Surface
surface_of all = quoted_surface (record { items = all_kept all })

one_surface : {text : List ℕ} {f g : Surface} → ReadsDecl text f → ReadsDecl text g → f ≡ g
one_surface r q = r.same ∙ ap surface_of (one_reading r.reads (subst (λ v. ReadsDeclItems v q.items) (sym (same_symbols r.symbols q.symbols)) q.reads)) ∙ sym q.same

reads_or_faults : {text : List ℕ} {f : Surface} {x : Finding} → ReadsDecl text f → HasDeclFault text x → ⊥
reads_or_faults r (no_text h) = h r.symbols.utf8
reads_or_faults r (no_item {at = at} s q) = reads_or_stops r.reads (subst (λ v. DeclStopsAt v at) (sym (same_symbols r.symbols s)) q)

one_fault : {text : List ℕ} {x y : Finding} → HasDeclFault text x → HasDeclFault text y → x ≡ y
one_fault (no_text h) (no_text g) = refl
one_fault (no_text h) (no_item s q) = absurd (h s.utf8)
one_fault (no_item s q) (no_text h) = absurd (h s.utf8)
one_fault (no_item {at = at} s q) (no_item {at = other} t r) =
    ap (λ (n : ℕ). finding n 1001) (one_stop q (subst (λ v. DeclStopsAt v other) (sym (same_symbols s t)) r))

-- ---- so an answer is the one that there is

pub surface_answer : {text : List ℕ} {f : Surface} (r : Result Surface FileFault) → DeclAnswers text r → ReadsDecl text f → IsSurface f r
surface_answer (Ok g) a h = one_surface a h
surface_answer (Err (fault.Syntax x)) a h = reads_or_faults h a
surface_answer (Err fault.NoMemory) a h = tt

pub fault_answer : {text : List ℕ} {x : Finding} (r : Result Surface FileFault) → DeclAnswers text r → HasDeclFault text x → IsDeclFault x r
fault_answer (Ok g) a h = reads_or_faults a h
fault_answer (Err (fault.Syntax y)) a h = one_fault a h
fault_answer (Err fault.NoMemory) a h = tt
