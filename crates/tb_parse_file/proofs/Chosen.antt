-- The choice between items.
use Rattle.std.proofs.Common.{◌≡◌, ℕ, ◌≤◌, Bool, true, false, List, ◌∷◌, ◌++◌, refl, sym, ◌∙◌, ap, subst, inl, inr, arith}
use Rattle.std.specs.Prelude.{◌⊎◌, Option, Some, None}
use Rattle.tb_tree.specs.declared.words.Word.TheVariants as words
use Rattle.tb_tree.specs.declared.exprs.Stmt.{Stmt}
use Rattle.tb_tree.specs.declared.items.Import.{Import}
use Rattle.tb_tree.specs.declared.items.ExportList.{ExportList}
use Rattle.tb_tree.specs.declared.items.Declaration.{Declaration}
use Rattle.tb_tree.specs.declared.items.Item.{Item}
use Rattle.tb_tree.specs.declared.items.Item.TheVariants as item
use Rattle.tb_tree.specs.Sym.{Sym}
use Rattle.tb_tree.specs.Longest.{Found, Lacks, Any}
use Rattle.tb_tree.specs.Shapes.{word, unworded, worded}
use Rattle.tb_tree.specs.Exprs.{no_body}
use Rattle.tb_tree.specs.Items.{IsImport, IsExportList, IsItem}
use Rattle.tb_tree.specs.Items as g
use Rattle.tb_parse_type.specs.declared.reader.Reader.{Reader}
use Rattle.tb_parse_type.specs.Reading.{rest}
use Rattle.tb_parse_body.specs.declared.fronts.Front.{Front}
use Rattle.tb_parse_body.specs.Rules.{Deep, StmtUpto}
use Rattle.tb_parse_body.specs.Reading.{Reads}
use Rattle.tb_parse_body.proofs.Sequences.{IsBack, found_by}
use Rattle.tb_parse_file.specs.Rules.{DeclarationUpto, ItemUpto}
use Rattle.tb_parse_file.specs.Choice.{ImportItem, ListItem, ExportedItem, DeclaredItem, StmtItem}
use Rattle.tb_parse_file.proofs.FirstWords.{first, tag_within, declaration_first, import_first, list_first, stmt_first, no_list_declares, no_stmt_declares}

-- ---- an item of a kind

pub import_found : {C : Sym → Type 0} {xs ys : List Sym} {u : Import} → Found IsImport C xs u ys → Found ImportItem C xs (item.Import u, 0) ys
import_found {C = C} {xs = xs} {ys = ys} {u = u} f = record {
  front = f.front;
  whole = f.whole;
  derives = (u, f.derives, refl);
  longest = λ a r us d w. elim (f.longest a d.0 us d.1 w) [
    | inl o ↦ inl (ap (λ (x : Import). let y : Deep Item = (item.Import x, 0) in y) o.0 ∙ sym d.2, o.1)
    | inr o ↦ inr o
  ];
}

pub import_lacks : {xs : List Sym} → Lacks IsImport xs → Lacks ImportItem xs
import_lacks f = record { none = λ a r us d w. f.none a d.0 us d.1 w }

pub list_found : {C : Sym → Type 0} {xs ys : List Sym} {u : ExportList} → Found IsExportList C xs u ys → Found ListItem C xs (item.ExportList u, 0) ys
list_found {u = u} f = record {
  front = f.front;
  whole = f.whole;
  derives = (u, f.derives, refl);
  longest = λ a r us d w. elim (f.longest a d.0 us d.1 w) [
    | inl o ↦ inl (ap (λ (x : ExportList). let y : Deep Item = (item.ExportList x, 0) in y) o.0 ∙ sym d.2, o.1)
    | inr o ↦ inr o
  ];
}

pub list_lacks : {xs : List Sym} → Lacks IsExportList xs → Lacks ListItem xs
list_lacks f = record { none = λ a r us d w. f.none a d.0 us d.1 w }

abbrev pub declared_of : Bool → Deep Declaration → Deep Item
declared_of exported r = (item.Declaration exported r.0, r.1)

pub declared_found : {C : Sym → Type 0} {xs ys : List Sym} {u : Deep Declaration} (n : ℕ) → Found (DeclarationUpto n) C xs u ys → Found (DeclaredItem n) C xs (declared_of false u) ys
declared_found {u = u} n f = record {
  front = f.front;
  whole = f.whole;
  derives = (u, f.derives, refl);
  longest = λ a r us d w. elim (f.longest a d.0 us d.1 w) [
    | inl o ↦ inl (ap (declared_of false) o.0 ∙ sym d.2, o.1)
    | inr o ↦ inr o
  ];
}

pub declared_lacks : {xs : List Sym} (n : ℕ) → Lacks (DeclarationUpto n) xs → Lacks (DeclaredItem n) xs
declared_lacks n f = record { none = λ a r us d w. f.none a d.0 us d.1 w }

pub exported_found : {C : Sym → Type 0} {xs ys : List Sym} {u : Deep Declaration} (n : ℕ) (s : List ℕ) (o : ℕ) → Found (DeclarationUpto n) C xs u ys
    → Found (ExportedItem n) C (word words.Export s o ∷ xs) (declared_of true u) ys
exported_found {xs = xs} {u = u} n s o f = record {
  front = word words.Export s o ∷ f.front;
  whole = ap (λ v. word words.Export s o ∷ v) f.whole;
  derives = (s, o, f.front, u, refl, f.derives, refl);
  longest = λ a r us d w.
      let e : word words.Export s o ∷ xs ≡ word words.Export d.0 d.1 ∷ d.2 ++ us = w ∙ ap (λ v. v ++ us) d.4 in
      elim (f.longest d.2 d.3 us d.5 cc) [
        | inl p ↦ inl (ap (declared_of true) p.0 ∙ sym d.6, p.1)
        | inr p ↦ inr p
      ];
}

pub exported_lacks : {xs : List Sym} (n : ℕ) (s : List ℕ) (o : ℕ) → Lacks (DeclarationUpto n) xs → Lacks (ExportedItem n) (word words.Export s o ∷ xs)
exported_lacks {xs = xs} n s o f = record {
  none = λ a r us d w.
      let e : word words.Export s o ∷ xs ≡ word words.Export d.0 d.1 ∷ d.2 ++ us = w ∙ ap (λ v. v ++ us) d.4 in
      f.none d.2 d.3 us d.5 cc;
}

pub exported_lacks_word : (n : ℕ) (xs : List Sym) → ((s : List ℕ) (o : ℕ) (zs : List Sym) → xs ≡ word words.Export s o ∷ zs → ⊥) → Lacks (ExportedItem n) xs
exported_lacks_word n xs h = record { none = λ a r us d w. h d.0 d.1 (d.2 ++ us) (w ∙ ap (λ v. v ++ us) d.4) }

pub stmt_found : {C : Sym → Type 0} {xs ys : List Sym} {u : Deep Stmt} (n : ℕ) → Found (StmtUpto no_body false n) C xs u ys → Found (StmtItem n) C xs (item.Stmt u.0, u.1) ys
stmt_found {u = u} n f = record {
  front = f.front;
  whole = f.whole;
  derives = (u, f.derives, refl);
  longest = λ a r us d w. elim (f.longest a d.0 us d.1 w) [
    | inl o ↦ inl (ap (λ (x : Deep Stmt). let y : Deep Item = (item.Stmt x.0, x.1) in y) o.0 ∙ sym d.2, o.1)
    | inr o ↦ inr o
  ];
}

pub stmt_lacks : {xs : List Sym} (n : ℕ) → Lacks (StmtUpto no_body false n) xs → Lacks (StmtItem n) xs
stmt_lacks n f = record { none = λ a r us d w. f.none a d.0 us d.1 w }

-- ---- what an item of a kind begins with

import_opens : {a : List Sym} {r : Deep Item} (us : List Sym) → ImportItem a r → first (a ++ us) ≡ 0
import_opens us d = import_first us d.1

list_opens : {a : List Sym} {r : Deep Item} (us : List Sym) → ListItem a r → first (a ++ us) ≡ 1
list_opens us d = list_first us d.1

exported_opens : {n : ℕ} {a : List Sym} {r : Deep Item} (us : List Sym) → ExportedItem n a r → first (a ++ us) ≡ 1
exported_opens us d = ap (λ v. first (v ++ us)) d.4

declared_opens : {n : ℕ} {a : List Sym} {r : Deep Item} (us : List Sym) → DeclaredItem n a r → (2 ≤ first (a ++ us)) × (first (a ++ us) ≤ 6)
declared_opens us d =
    let q = d.1.0 in
    let e = declaration_first us q in
    let t = tag_within q in
    (omega (arith, e, t.0), omega (arith, e, t.1))

stmt_opens : {n : ℕ} {a : List Sym} {r : Deep Item} (us : List Sym) → StmtItem n a r → (6 ≤ first (a ++ us)) × (first (a ++ us) ≤ 7)
stmt_opens us d = stmt_first us d.1.0

module _ (n : ℕ) where
  -- what an item is
  as_item : {a : List Sym} {r : Deep Item} → ItemUpto n a r → (ImportItem a r ⊎ ListItem a r) ⊎ ((ExportedItem n a r ⊎ DeclaredItem n a r) ⊎ StmtItem n a r)
  as_item d = go d.0 d.1
    where
      go : {a : List Sym} {u : Item} {e : ℕ} → IsItem true a u e → e ≤ n → (ImportItem a (u, e) ⊎ ListItem a (u, e)) ⊎ ((ExportedItem n a (u, e) ⊎ DeclaredItem n a (u, e)) ⊎ StmtItem n a (u, e))
      go (g.import_item {of = of} q) h = inl (inl (of, q, refl))
      go (g.export_list_item {of = of} q) h = inl (inr (of, q, refl))
      go (g.declaration_item {of = of} {d = d} unworded q) h = inr (inl (inr ((of, d), (q, h), refl)))
      go (g.declaration_item {ys = ys} {of = of} {d = d} (worded s o) q) h = inr (inl (inl (s, o, ys, (of, d), refl, (q, h), refl)))
      go (g.stmt_item {of = of} {d = d} q) h = inr (inr ((of, d), (q, h), refl))

  -- ---- an item of one kind is the only one, where no item of another is

  pub chosen_import : {xs ys : List Sym} {r : Deep Item} → Found ImportItem Any xs r ys → Found (ItemUpto n) Any xs r ys
  chosen_import {xs = xs} {ys = ys} f = found_by (λ r. r) (λ a w d. forth d) back f
    where
      forth : {a : List Sym} {r : Deep Item} → ImportItem a r → ItemUpto n a r
      forth {a = a} d = subst (λ (v : Deep Item). ItemUpto n a v) (sym d.2) (g.import_item d.1, omega arith)

      opening : first xs ≡ 0
      opening = ap first f.whole ∙ import_opens ys f.derives

      back : IsBack (λ r. r) ImportItem (ItemUpto n) xs
      back a u us d w = elim (as_item d) [
        | inl p ↦ elim p [
          | inl q ↦ (u, q, refl)
          | inr q ↦ absurd (omega (arith, opening, ap first w, list_opens us q))
        ]
        | inr p ↦ elim p [
          | inl q ↦ elim q [
            | inl z ↦ absurd (omega (arith, opening, ap first w, exported_opens us z))
            | inr z ↦ absurd (omega (arith, opening, ap first w, declared_opens us z))
          ]
          | inr q ↦ absurd (omega (arith, opening, ap first w, stmt_opens us q))
        ]
      ]

  pub chosen_list : {xs ys : List Sym} {r : Deep Item} → Found ListItem Any xs r ys → Found (ItemUpto n) Any xs r ys
  chosen_list {xs = xs} {ys = ys} f = found_by (λ r. r) (λ a w d. forth d) back f
    where
      forth : {a : List Sym} {r : Deep Item} → ListItem a r → ItemUpto n a r
      forth {a = a} d = subst (λ (v : Deep Item). ItemUpto n a v) (sym d.2) (g.export_list_item d.1, omega arith)

      opening : first xs ≡ 1
      opening = ap first f.whole ∙ list_opens ys f.derives

      back : IsBack (λ r. r) ListItem (ItemUpto n) xs
      back a u us d w = elim (as_item d) [
        | inl p ↦ elim p [
          | inl q ↦ absurd (omega (arith, opening, ap first w, import_opens us q))
          | inr q ↦ (u, q, refl)
        ]
        | inr p ↦ elim p [
          | inl q ↦ elim q [
            | inl z ↦ absurd (no_list_declares z.0 z.1 ys us f.derives.1 z.5.0 (sym f.whole ∙ w ∙ ap (λ v. v ++ us) z.4))
            | inr z ↦ absurd (omega (arith, opening, ap first w, declared_opens us z))
          ]
          | inr q ↦ absurd (omega (arith, opening, ap first w, stmt_opens us q))
        ]
      ]

  pub chosen_exported : {xs ys : List Sym} {r : Deep Item} → Lacks ListItem xs → Found (ExportedItem n) Any xs r ys → Found (ItemUpto n) Any xs r ys
  chosen_exported {xs = xs} {ys = ys} l f = found_by (λ r. r) (λ a w d. forth d) back f
    where
      forth : {a : List Sym} {r : Deep Item} → ExportedItem n a r → ItemUpto n a r
      forth {a = a} {r = r} d =
          subst (λ (v : Deep Item). ItemUpto n a v) (sym d.6) (subst (λ v. ItemUpto n v (declared_of true d.3)) (sym d.4) (g.declaration_item (worded d.0 d.1) d.5.0, d.5.1))

      opening : first xs ≡ 1
      opening = ap first f.whole ∙ exported_opens ys f.derives

      back : IsBack (λ r. r) (ExportedItem n) (ItemUpto n) xs
      back a u us d w = elim (as_item d) [
        | inl p ↦ elim p [
          | inl q ↦ absurd (omega (arith, opening, ap first w, import_opens us q))
          | inr q ↦ absurd (l.none a u us q w)
        ]
        | inr p ↦ elim p [
          | inl q ↦ elim q [
            | inl z ↦ (u, z, refl)
            | inr z ↦ absurd (omega (arith, opening, ap first w, declared_opens us z))
          ]
          | inr q ↦ absurd (omega (arith, opening, ap first w, stmt_opens us q))
        ]
      ]

  pub chosen_declared : {xs ys : List Sym} {r : Deep Item} → Found (DeclaredItem n) Any xs r ys → Found (ItemUpto n) Any xs r ys
  chosen_declared {xs = xs} {ys = ys} f = found_by (λ r. r) (λ a w d. forth d) back f
    where
      forth : {a : List Sym} {r : Deep Item} → DeclaredItem n a r → ItemUpto n a r
      forth {a = a} {r = r} d = subst (λ (v : Deep Item). ItemUpto n a v) (sym d.2) (g.declaration_item unworded d.1.0, d.1.1)

      opening : (2 ≤ first xs) × (first xs ≤ 6)
      opening =
          let e = ap first f.whole in
          let h = declared_opens ys f.derives in
          (omega (arith, e, h.0), omega (arith, e, h.1))

      back : IsBack (λ r. r) (DeclaredItem n) (ItemUpto n) xs
      back a u us d w = elim (as_item d) [
        | inl p ↦ elim p [
          | inl q ↦ absurd (omega (arith, opening, ap first w, import_opens us q))
          | inr q ↦ absurd (omega (arith, opening, ap first w, list_opens us q))
        ]
        | inr p ↦ elim p [
          | inl q ↦ elim q [
            | inl z ↦ absurd (omega (arith, opening, ap first w, exported_opens us z))
            | inr z ↦ (u, z, refl)
          ]
          | inr q ↦ absurd (no_stmt_declares ys us f.derives.1.0 q.1.0 (sym f.whole ∙ w))
        ]
      ]

  pub chosen_stmt : {xs ys : List Sym} {r : Deep Item} → Lacks ImportItem xs → Lacks ListItem xs → Lacks (ExportedItem n) xs → Lacks (DeclaredItem n) xs → Found (StmtItem n) Any xs r ys
      → Found (ItemUpto n) Any xs r ys
  chosen_stmt {xs = xs} {ys = ys} i l x y f = found_by (λ r. r) (λ a w d. forth d) back f
    where
      forth : {a : List Sym} {r : Deep Item} → StmtItem n a r → ItemUpto n a r
      forth {a = a} d = subst (λ (v : Deep Item). ItemUpto n a v) (sym d.2) (g.stmt_item d.1.0, d.1.1)

      back : IsBack (λ r. r) (StmtItem n) (ItemUpto n) xs
      back a u us d w = elim (as_item d) [
        | inl p ↦ elim p [
          | inl q ↦ absurd (i.none a u us q w)
          | inr q ↦ absurd (l.none a u us q w)
        ]
        | inr p ↦ elim p [
          | inl q ↦ elim q [
            | inl z ↦ absurd (x.none a u us z w)
            | inr z ↦ absurd (y.none a u us z w)
          ]
          | inr q ↦ (u, q, refl)
        ]
      ]

  pub none_chosen : {xs : List Sym} → Lacks ImportItem xs → Lacks ListItem xs → Lacks (ExportedItem n) xs → Lacks (DeclaredItem n) xs → Lacks (StmtItem n) xs → Lacks (ItemUpto n) xs
  none_chosen i l x y z = record {
    none = λ a u us d w. elim (as_item d) [
      | inl p ↦ elim p [
        | inl q ↦ i.none a u us q w
        | inr q ↦ l.none a u us q w
      ]
      | inr p ↦ elim p [
        | inl q ↦ elim q [
          | inl v ↦ x.none a u us v w
          | inr v ↦ y.none a u us v w
        ]
        | inr q ↦ z.none a u us q w
      ]
    ];
  }

  -- ---- from the answer of the last rule

  pub stmt_chosen : (r : Reader) (at : ℕ) (o : Option (Front Item)) → Lacks ImportItem (rest r at) → Lacks ListItem (rest r at) → Lacks (ExportedItem n) (rest r at) → Lacks (DeclaredItem n) (rest r at)
      → Reads (StmtItem n) Any r at o → Reads (ItemUpto n) Any r at o
  stmt_chosen r at None i l x y h = none_chosen i l x y h
  stmt_chosen r at (Some z) i l x y h = (h.0, chosen_stmt i l x y h.1)
