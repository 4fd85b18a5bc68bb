-- The choice between items of declaration files.
use Rattle.std.proofs.Common.{◌≡◌, ℕ, ◌≤◌, Bool, true, false, List, [], ◌∷◌, ◌++◌, length, refl, sym, ◌∙◌, ap, inl, inr, arith, append_assoc}
use Rattle.std.specs.Prelude.{◌⊎◌}
use Rattle.tb_tree.specs.declared.marks.Mark.TheVariants as m
use Rattle.tb_tree.specs.declared.words.Word.{Word}
use Rattle.tb_tree.specs.declared.words.Word.TheVariants as words
use Rattle.tb_tree.specs.declared.items.Import.{Import}
use Rattle.tb_tree.specs.declared.items.ExportList.{ExportList}
use Rattle.tb_tree.specs.declared.items.Declared.{Declared}
use Rattle.tb_tree.specs.declared.items.SurfaceItem.{SurfaceItem}
use Rattle.tb_tree.specs.declared.items.SurfaceItem.TheVariants as surface_item
use Rattle.tb_tree.specs.Sym.{Sym, Mark}
use Rattle.tb_tree.specs.Longest.{Found, Lacks, Ends, Never}
use Rattle.tb_tree.specs.Shapes.{max_depth, word, IsWorded, unworded, worded}
use Rattle.tb_tree.specs.Items.{IsImport, IsExportList}
use Rattle.tb_tree.specs.Items as items
use Rattle.tb_tree.specs.Surfaces.{kept, IsDeclItem, DerivesDeclItem}
use Rattle.tb_tree.specs.Surfaces as g
use Rattle.tb_tree.proofs.Ends.{both, under_both}
use Rattle.tb_parse_type.specs.Rules.{Then}
use Rattle.tb_parse_body.proofs.FirstSymbols.{Image, image_found, found_by}
use Rattle.tb_parse_file.specs.DeclRules.{DeclaredRule}
use Rattle.tb_parse_file.specs.DeclReading.{Worded}
use Rattle.tb_parse_file.proofs.DeclKinds.{first, declared_first, no_brace}

-- ---- a word, or none, before what a rule derives

-- what D derives does not begin with the word
abbrev NotBegun : {X : Type 0} → Word → (List Sym → X → Type 0) → Type 0
NotBegun {X = X} kind D = (a : List Sym) (x : X) (us : List Sym) (s : List ℕ) (o : ℕ) (zs : List Sym) → D a x → a ++ us ≡ word kind s o ∷ zs → ⊥

module _ {X : Type 0} {kind : Word} {D : List Sym → X → Type 0} (apart : NotBegun kind D) where
  worded_found : {b : Bool} {xs ys zs : List Sym} {x : X} → Worded kind xs b ys → Found D Never ys x zs → Found (Then (IsWorded kind) D) Never xs (b, x) zs
  worded_found {b = false} {xs = xs} {ys = ys} {zs = zs} {x = x} n f = record {
    front = f.front;
    whole = n.0 ∙ f.whole;
    derives = ([], f.front, refl, unworded, f.derives);
    longest = λ a r us d v. go r.0 r.1 d.0 d.1 us d.3 d.4 (v ∙ ap (λ u. u ++ us) d.2 ∙ append_assoc d.0 d.1 us);
  }
    where
      go : (c : Bool) (y : X) (p q us : List Sym) → IsWorded kind p c → D q y → xs ≡ p ++ (q ++ us) → Ends {X = Bool × X} Never (false, x) zs (c, y) us
      go c y p q us unworded d v = elim (f.longest q y us d (sym n.0 ∙ v)) [
        | inl e ↦ inl (both refl e.0, e.1)
        | inr e ↦ inr e
      ]
      go c y p q us (worded s o) d v = absurd (n.1 s o (q ++ us) v)
  worded_found {b = true} {xs = xs} {ys = ys} {zs = zs} {x = x} n f = record {
    front = word kind n.0 n.1 ∷ f.front;
    whole = n.2 ∙ ap (λ u. word kind n.0 n.1 ∷ u) f.whole;
    derives = (word kind n.0 n.1 ∷ [], f.front, refl, worded n.0 n.1, f.derives);
    longest = λ a r us d v. go r.0 r.1 d.0 d.1 us d.3 d.4 (v ∙ ap (λ u. u ++ us) d.2 ∙ append_assoc d.0 d.1 us);
  }
    where
      go : (c : Bool) (y : X) (p q us : List Sym) → IsWorded kind p c → D q y → xs ≡ p ++ (q ++ us) → Ends {X = Bool × X} Never (true, x) zs (c, y) us
      go c y p q us unworded d v = absurd (apart q y us n.0 n.1 ys d (sym v ∙ n.2))
      go c y p q us (worded s o) d v =
          let e : word kind n.0 n.1 ∷ ys ≡ word kind s o ∷ (q ++ us) = sym n.2 ∙ v in
          let j : ys ≡ q ++ us = cc in
          elim (f.longest q y us d j) [
            | inl e ↦ inl (both refl e.0, e.1)
            | inr e ↦ inr e
          ]

  worded_lacks : (b : Bool) {xs ys : List Sym} → Worded kind xs b ys → Lacks D ys → Lacks (Then (IsWorded kind) D) xs
  worded_lacks false {xs = xs} {ys = ys} n f = record { none = λ a r us d v. go r.0 r.1 d.0 d.1 us d.3 d.4 (v ∙ ap (λ u. u ++ us) d.2 ∙ append_assoc d.0 d.1 us) }
    where
      go : (c : Bool) (y : X) (p q us : List Sym) → IsWorded kind p c → D q y → xs ≡ p ++ (q ++ us) → ⊥
      go c y p q us unworded d v = f.none q y us d (sym n.0 ∙ v)
      go c y p q us (worded s o) d v = n.1 s o (q ++ us) v
  worded_lacks true {xs = xs} {ys = ys} n f = record { none = λ a r us d v. go r.0 r.1 d.0 d.1 us d.3 d.4 (v ∙ ap (λ u. u ++ us) d.2 ∙ append_assoc d.0 d.1 us) }
    where
      go : (c : Bool) (y : X) (p q us : List Sym) → IsWorded kind p c → D q y → xs ≡ p ++ (q ++ us) → ⊥
      go c y p q us unworded d v = apart q y us n.0 n.1 ys d (sym v ∙ n.2)
      go c y p q us (worded s o) d v =
          let e : word kind n.0 n.1 ∷ ys ≡ word kind s o ∷ (q ++ us) = sym n.2 ∙ v in
          let j : ys ≡ q ++ us = cc in
          f.none q y us d j

-- ---- `export?`, `declare?`, and what is declared

abbrev pub Ambient : List Sym → Bool × Declared → Type 0
Ambient = Then (IsWorded words.Declare) DeclaredRule

abbrev pub Exported : List Sym → Bool × (Bool × Declared) → Type 0
Exported = Then (IsWorded words.Export) Ambient

declared_apart : NotBegun words.Declare DeclaredRule
declared_apart a x us s o zs d e = let n : first (a ++ us) ≡ 7 = ap first e in omega (arith, n, declared_first us d)

-- what an ambient declaration begins with
ambient_first : {a : List Sym} {r : Bool × Declared} (us : List Sym) → Ambient a r → (first (a ++ us) ≤ 4) ⊎ (first (a ++ us) ≡ 7)
ambient_first {r = r} us d = go d.0 d.1 (ap (λ v. v ++ us) d.2 ∙ append_assoc d.0 d.1 us) d.3 d.4
  where
    go : {a : List Sym} {b : Bool} (p q : List Sym) → a ≡ p ++ (q ++ us) → IsWorded words.Declare p b → DeclaredRule q r.1 → (first a ≤ 4) ⊎ (first a ≡ 7)
    go p q e unworded d = inl (omega (arith, ap first e, declared_first us d))
    go p q e (worded s o) d = inr (ap first e)

ambient_apart : NotBegun words.Export Ambient
ambient_apart a x us s o zs d e =
    let n : first (a ++ us) ≡ 6 = ap first e in
    elim (ambient_first us d) [
      | inl p ↦ omega (arith, n, p)
      | inr p ↦ omega (arith, n, p)
    ]

exported_first : {a : List Sym} {r : Bool × (Bool × Declared)} (us : List Sym) → Exported a r → (first (a ++ us) ≤ 4) ⊎ ((6 ≤ first (a ++ us)) × (first (a ++ us) ≤ 7))
exported_first {r = r} us d = go d.0 d.1 (ap (λ v. v ++ us) d.2 ∙ append_assoc d.0 d.1 us) d.3 d.4
  where
    go : {a : List Sym} {b : Bool} (p q : List Sym) → a ≡ p ++ (q ++ us) → IsWorded words.Export p b → Ambient q r.1 → (first a ≤ 4) ⊎ ((6 ≤ first a) × (first a ≤ 7))
    go p q e unworded d = elim (ambient_first us d) [
      | inl o ↦ inl (omega (arith, ap first e, o))
      | inr o ↦ inr (omega (arith, ap first e, o), omega (arith, ap first e, o))
    ]
    go {a = a} p q e (worded s o) d =
        let n : first a ≡ 6 = ap first e in
        inr (omega (arith, n), omega (arith, n))

pub exported_found : {exported ambient : Bool} {xs zs us : List Sym} {of : Declared} (ys : List Sym) → Worded words.Export xs exported ys → Worded words.Declare ys ambient zs → Found DeclaredRule Never zs of us
    → Found Exported Never xs (exported, (ambient, of)) us
exported_found ys n k f = worded_found ambient_apart n (worded_found declared_apart k f)

pub exported_lacks : (exported ambient : Bool) {xs zs : List Sym} (ys : List Sym) → Worded words.Export xs exported ys → Worded words.Declare ys ambient zs → Lacks DeclaredRule zs → Lacks Exported xs
exported_lacks exported ambient ys n k f = worded_lacks ambient_apart exported n (worded_lacks declared_apart ambient k f)

-- ---- an item of a kind

abbrev pub import_tree : Import → List SurfaceItem
import_tree of = surface_item.Import of ∷ []

abbrev pub declared_tree : Bool × (Bool × Declared) → List SurfaceItem
declared_tree r = surface_item.Declaration r.0 r.1.1 ∷ []

abbrev ImportKind : List Sym → List SurfaceItem → Type 0
ImportKind = Image import_tree IsImport

abbrev ListKind : List Sym → List SurfaceItem → Type 0
ListKind = Image kept IsExportList

abbrev DeclaredKind : List Sym → List SurfaceItem → Type 0
DeclaredKind = Image declared_tree Exported

as_item : {a : List Sym} {of : List SurfaceItem} → DerivesDeclItem a of → ImportKind a of ⊎ (ListKind a of ⊎ DeclaredKind a of)
as_item d = go d.1 d.2
  where
    go : {a : List Sym} {of : List SurfaceItem} {e : ℕ} → IsDeclItem a of e → e ≤ max_depth → ImportKind a of ⊎ (ListKind a of ⊎ DeclaredKind a of)
    go (g.declared_import {of = of} q) h = inl (of, q, refl)
    go (g.declared_list {of = of} q) h = inr (inl (of, q, refl))
    go (g.declared_item {exported = x} {ambient = y} {xs = xs} {ys = ys} {zs = zs} {of = of} {d = d} p q r) h =
        inr (inr ((x, (y, of)), (xs, ys ++ zs, append_assoc xs ys zs, p, (ys, zs, refl, q, (d, r, h))), refl))

item_as : {a u : List Sym} {r v : List SurfaceItem} → a ≡ u → r ≡ v → DerivesDeclItem u v → DerivesDeclItem a r
item_as e j h = under_both (λ (a : List Sym) (r : List SurfaceItem). DerivesDeclItem a r) e j h

from_import : {a : List Sym} {of : List SurfaceItem} → ImportKind a of → DerivesDeclItem a of
from_import d = item_as refl (sym d.2) (0, g.declared_import d.1, omega arith)

from_list : {a : List Sym} {of : List SurfaceItem} → ListKind a of → DerivesDeclItem a of
from_list d = item_as refl (sym d.2) (0, g.declared_list d.1, omega arith)

from_declared : {a : List Sym} {of : List SurfaceItem} → DeclaredKind a of → DerivesDeclItem a of
from_declared {a = a} d =
    let t = d.1 in
    let k = t.4 in
    let of = k.4 in
    let whole : a ≡ t.0 ++ k.0 ++ k.1 = t.2 ∙ ap (λ v. t.0 ++ v) k.2 ∙ sym (append_assoc t.0 k.0 k.1) in
    item_as whole (sym d.2) (of.0, g.declared_item t.3 k.3 of.1, of.2)

-- ---- what an item begins with

import_first : {a : List Sym} {of : Import} (us : List Sym) → IsImport a of → first (a ++ us) ≡ 5
import_first us (items.import_list s o p x y z) = refl
import_first us (items.import_bare s o t p q) = refl

list_first : {a : List Sym} {of : ExportList} (us : List Sym) → IsExportList a of → first (a ++ us) ≡ 6
list_first us (items.export_list s o p x y) = refl
list_first us (items.export_from s o p x y z) = refl

pub item_first : {a : List Sym} {of : List SurfaceItem} (us : List Sym) → DerivesDeclItem a of → first (a ++ us) ≤ 7
item_first us d = elim (as_item d) [
  | inl q ↦ omega (arith, import_first us q.1)
  | inr p ↦ elim p [
    | inl q ↦ omega (arith, list_first us q.1)
    | inr q ↦ elim (exported_first us q.1) [
      | inl r ↦ omega (arith, r)
      | inr r ↦ omega (arith, r.1)
    ]
  ]
]

long : (a : List Sym) → first (a ++ []) ≤ 7 → 1 ≤ length a
long [] h = let n : 8 ≤ 7 = h in absurd (omega (arith, n))
long (s ∷ ss) h = omega arith

pub item_long : {a : List Sym} {of : List SurfaceItem} → DerivesDeclItem a of → 1 ≤ length a
item_long {a = a} d = long a (item_first [] d)

-- ---- no export list begins as an exported declaration

no_ambient_brace : {a : List Sym} {r : Bool × Declared} (p : ℕ) (us zs : List Sym) → Ambient a r → a ++ us ≡ Mark m.OpenBrace p ∷ zs → ⊥
no_ambient_brace {a = a} p us zs d e =
    let n : first (a ++ us) ≡ 8 = ap first e in
    elim (ambient_first us d) [
      | inl q ↦ omega (arith, n, q)
      | inr q ↦ omega (arith, n, q)
    ]

no_ambient_type : {a : List Sym} {r : Bool × Declared} (t : List ℕ) (o p : ℕ) (us zs : List Sym) → Ambient a r → a ++ us ≡ word words.Type t o ∷ Mark m.OpenBrace p ∷ zs → ⊥
no_ambient_type {r = r} t o p us zs d e = go d.0 d.1 d.3 d.4 (sym (ap (λ v. v ++ us) d.2 ∙ append_assoc d.0 d.1 us) ∙ e)
  where
    go : {b : Bool} (x y : List Sym) → IsWorded words.Declare x b → DeclaredRule y r.1 → x ++ (y ++ us) ≡ word words.Type t o ∷ Mark m.OpenBrace p ∷ zs → ⊥
    go x y unworded d e = no_brace t o p us zs d e
    go x y (worded s k) d e = cc

list_ambient : {a b : List Sym} {of : ExportList} {r : Bool × Declared} (s : List ℕ) (o : ℕ) (us vs : List Sym) → IsExportList a of → Ambient b r → a ++ us ≡ word words.Export s o ∷ (b ++ vs) → ⊥
list_ambient {b = b} s o us vs (items.export_list s' o' p unworded (items.specs j q {xs = x} y)) d e =
    let n : b ++ vs ≡ Mark m.OpenBrace j ∷ (x ++ Mark m.CloseBrace q ∷ [] ++ Mark m.Semicolon p ∷ [] ++ us) = cc in
    no_ambient_brace j vs _ d n
list_ambient {b = b} s o us vs (items.export_list s' o' p (worded t k) (items.specs j q {xs = x} y)) d e =
    let n : b ++ vs ≡ word words.Type t k ∷ Mark m.OpenBrace j ∷ (x ++ Mark m.CloseBrace q ∷ [] ++ Mark m.Semicolon p ∷ [] ++ us) = cc in
    no_ambient_type t k j vs _ d n
list_ambient {b = b} s o us vs (items.export_from s' o' p {zs = z} unworded (items.specs j q {xs = x} y) f) d e =
    let n : b ++ vs ≡ Mark m.OpenBrace j ∷ (x ++ Mark m.CloseBrace q ∷ [] ++ z ++ Mark m.Semicolon p ∷ [] ++ us) = cc in
    no_ambient_brace j vs _ d n
list_ambient {b = b} s o us vs (items.export_from s' o' p {zs = z} (worded t k) (items.specs j q {xs = x} y) f) d e =
    let n : b ++ vs ≡ word words.Type t k ∷ Mark m.OpenBrace j ∷ (x ++ Mark m.CloseBrace q ∷ [] ++ z ++ Mark m.Semicolon p ∷ [] ++ us) = cc in
    no_ambient_type t k j vs _ d n

list_no_declared : {a b : List Sym} {of : ExportList} {r : Bool × (Bool × Declared)} (us vs : List Sym) → IsExportList a of → Exported b r → a ++ us ≡ b ++ vs → ⊥
list_no_declared {a = a} {r = r} us vs l d e = go d.0 d.1 d.3 d.4 (e ∙ ap (λ v. v ++ vs) d.2 ∙ append_assoc d.0 d.1 vs)
  where
    go : {b : Bool} (x y : List Sym) → IsWorded words.Export x b → Ambient y r.1 → a ++ us ≡ x ++ (y ++ vs) → ⊥
    go x y unworded d e = elim (ambient_first vs d) [
      | inl q ↦ omega (arith, sym (ap first e) ∙ list_first us l, q)
      | inr q ↦ omega (arith, sym (ap first e) ∙ list_first us l, q)
    ]
    go x y (worded s o) d e = list_ambient s o us vs l d e

-- ---- an item of one kind is the only one, where none of another is

pub chosen_import : {xs ys : List Sym} {of : Import} → Found IsImport Never xs of ys → Found DerivesDeclItem Never xs (import_tree of) ys
chosen_import {xs = xs} {ys = ys} {of = of} f = found_by (λ a w d. from_import d) back k
  where
    k : Found ImportKind Never xs (import_tree of) ys
    k = image_found import_tree f

    back : (a : List Sym) (u : List SurfaceItem) (us : List Sym) → DerivesDeclItem a u → xs ≡ a ++ us → ImportKind a u
    back a u us d w =
        let e : first (a ++ us) ≡ 5 = ap first (sym w ∙ f.whole) ∙ import_first ys f.derives in
        elim (as_item d) [
          | inl q ↦ q
          | inr p ↦ elim p [
            | inl q ↦ absurd (omega (arith, e, list_first us q.1))
            | inr q ↦ elim (exported_first us q.1) [
              | inl r ↦ absurd (omega (arith, e, r))
              | inr r ↦ absurd (omega (arith, e, r.0))
            ]
          ]
        ]

pub chosen_list : {xs ys : List Sym} {of : ExportList} → Found IsExportList Never xs of ys → Found DerivesDeclItem Never xs (kept of) ys
chosen_list {xs = xs} {ys = ys} {of = of} f = found_by (λ a w d. from_list d) back k
  where
    k : Found ListKind Never xs (kept of) ys
    k = image_found kept f

    back : (a : List Sym) (u : List SurfaceItem) (us : List Sym) → DerivesDeclItem a u → xs ≡ a ++ us → ListKind a u
    back a u us d w =
        let e : first (a ++ us) ≡ 6 = ap first (sym w ∙ f.whole) ∙ list_first ys f.derives in
        elim (as_item d) [
          | inl q ↦ absurd (omega (arith, e, import_first us q.1))
          | inr p ↦ elim p [
            | inl q ↦ q
            | inr q ↦ absurd (list_no_declared ys us f.derives q.1 (sym f.whole ∙ w))
          ]
        ]

pub chosen_declared : {xs ys : List Sym} {r : Bool × (Bool × Declared)} → Lacks IsImport xs → Lacks IsExportList xs → Found Exported Never xs r ys → Found DerivesDeclItem Never xs (declared_tree r) ys
chosen_declared {xs = xs} {ys = ys} {r = r} n l f = found_by (λ a w d. from_declared d) back k
  where
    k : Found DeclaredKind Never xs (declared_tree r) ys
    k = image_found declared_tree f

    back : (a : List Sym) (u : List SurfaceItem) (us : List Sym) → DerivesDeclItem a u → xs ≡ a ++ us → DeclaredKind a u
    back a u us d w = elim (as_item d) [
      | inl q ↦ absurd (n.none a q.0 us q.1 w)
      | inr p ↦ elim p [
        | inl q ↦ absurd (l.none a q.0 us q.1 w)
        | inr q ↦ q
      ]
    ]

pub none_chosen : {xs : List Sym} → Lacks IsImport xs → Lacks IsExportList xs → Lacks Exported xs → Lacks DerivesDeclItem xs
none_chosen n l f = record {
  none = λ a u us d w. elim (as_item d) [
    | inl q ↦ n.none a q.0 us q.1 w
    | inr p ↦ elim p [
      | inl q ↦ l.none a q.0 us q.1 w
      | inr q ↦ f.none a q.0 us q.1 w
    ]
  ];
}
