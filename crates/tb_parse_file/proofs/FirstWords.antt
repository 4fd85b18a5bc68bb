-- Which items begin alike: by their first symbol, and where that does not tell, by the next ones.
use Rattle.std.proofs.Common.{◌≡◌, ℕ, ◌≤◌, true, false, List, [], ◌∷◌, ◌++◌, sym, ◌∙◌, ap, refl, inl, inr, arith, append_assoc}
use Rattle.tb_tree.specs.declared.marks.Mark.TheVariants as m
use Rattle.tb_tree.specs.declared.words.Word.TheVariants as words
use Rattle.tb_tree.specs.declared.exprs.Stmt.{Stmt}
use Rattle.tb_tree.specs.declared.items.Import.{Import}
use Rattle.tb_tree.specs.declared.items.ExportList.{ExportList}
use Rattle.tb_tree.specs.declared.items.Declaration.{Declaration}
use Rattle.tb_tree.specs.Sym.{Sym, Mark}
use Rattle.tb_tree.specs.Shapes.{word, unworded, worded}
use Rattle.tb_tree.specs.Exprs.{Around, IsStmt}
use Rattle.tb_tree.specs.Items.{IsImport, IsExportList, IsDeclaration, alias, specs}
use Rattle.tb_tree.specs.Items as g
use Rattle.tb_parse_body.specs.Rules.{begins_other}
use Rattle.tb_parse_body.proofs.FirstSymbols.{by_first}
use Rattle.tb_parse_file.proofs.ItemStarts.{opens, declaration_tag}
use Rattle.tb_parse_file.proofs.ItemStarts as starts
use Rattle.tb_parse_file.proofs.NameFronts.{no_sentence}

-- which item begins with the first symbol of a list; none begins with no symbol
abbrev pub first : List Sym → ℕ
first [] = 9
first (z ∷ zs) = opens z

abbrev pub tag : {a : List Sym} {of : Declaration} {d : ℕ} → IsDeclaration true a of d → ℕ
tag q = declaration_tag {ordered = true} q

pub tag_within : {a : List Sym} {of : Declaration} {d : ℕ} (q : IsDeclaration true a of d) → (2 ≤ tag q) × (tag q ≤ 6)
tag_within (g.var_declaration q) = (omega arith, omega arith)
tag_within (g.function_declaration q) = (omega arith, omega arith)
tag_within (g.class_declaration q) = (omega arith, omega arith)
tag_within (g.interface_declaration q) = (omega arith, omega arith)
tag_within (g.alias_declaration q) = (omega arith, omega arith)

pub declaration_first : {a : List Sym} {of : Declaration} {d : ℕ} (us : List Sym) (q : IsDeclaration true a of d) → first (a ++ us) ≡ tag q
declaration_first us q = let p = starts.declaration_first q in ap (λ v. first (v ++ us)) p.2 ∙ p.3

pub stmt_first : {around : Around} {a : List Sym} {of : Stmt} {d : ℕ} (us : List Sym) → IsStmt true around false a of d → (6 ≤ first (a ++ us)) × (first (a ++ us) ≤ 7)
stmt_first {a = a} us q =
    let p = starts.stmt_first {ordered = true} q in
    let e : first (a ++ us) ≡ opens p.0 = ap (λ v. first (v ++ us)) p.2 in
    elim p.3 [
      | inl i ↦ (omega (arith, e, i), omega (arith, e, i))
      | inr i ↦ (omega (arith, e, i), omega (arith, e, i))
    ]

pub import_first : {a : List Sym} {of : Import} (us : List Sym) → IsImport a of → first (a ++ us) ≡ 0
import_first us (g.import_list s o p x y z) = refl
import_first us (g.import_bare s o t p q) = refl

pub list_first : {a : List Sym} {of : ExportList} (us : List Sym) → IsExportList a of → first (a ++ us) ≡ 1
list_first us (g.export_list s o p x y) = refl
list_first us (g.export_from s o p x y z) = refl

-- ---- declarations and statements

-- no statement begins as a declaration
pub no_stmt_declares : {around : Around} {a b : List Sym} {of : Declaration} {u : Stmt} {d e : ℕ} (us vs : List Sym) → IsDeclaration true a of d → IsStmt true around false b u e → a ++ us ≡ b ++ vs → ⊥
no_stmt_declares us vs (g.var_declaration q) r w = omega (arith, declaration_first us (g.var_declaration q), ap first w, stmt_first vs r)
no_stmt_declares us vs (g.function_declaration q) r w = omega (arith, declaration_first us (g.function_declaration q), ap first w, stmt_first vs r)
no_stmt_declares us vs (g.class_declaration q) r w = omega (arith, declaration_first us (g.class_declaration q), ap first w, stmt_first vs r)
no_stmt_declares us vs (g.interface_declaration q) r w = omega (arith, declaration_first us (g.interface_declaration q), ap first w, stmt_first vs r)
no_stmt_declares {b = b} {e = e} us vs (g.alias_declaration (alias {kind = k} s o t p q semicolon {xs = a} i x h)) r w =
    let f = by_first e r (omega arith) in
    let front : word words.Type s o ∷ word k t p ∷ Mark m.Assign q ∷ (a ++ Mark m.Semicolon semicolon ∷ [] ++ us) ≡ b ++ vs = w in
    elim f.3 [
      | inl z ↦
          let whole : word words.Type s o ∷ word k t p ∷ Mark m.Assign q ∷ (a ++ Mark m.Semicolon semicolon ∷ [] ++ us) ≡ f.0 ∷ f.1 ++ vs = front ∙ ap (λ v. v ++ vs) f.2 in
          let same : f.0 ≡ word words.Type s o = cc in
          let n : false ≡ true = sym (ap begins_other same) ∙ z.0 in cc
      | inr z ↦
          let y = z.1 in
          let l = y.1 in
          no_sentence s o k t p q (a ++ Mark m.Semicolon semicolon ∷ [] ++ us) l.0 vs l.3 (sym (front ∙ ap (λ v. v ++ vs) l.2 ∙ append_assoc l.1 (Mark m.Semicolon l.0 ∷ []) vs))
    ]

-- ---- export lists and exported declarations

-- no declaration begins with `type` and `{`
no_brace : {a : List Sym} {of : Declaration} {d : ℕ} (t : List ℕ) (r p : ℕ) (us zs : List Sym) → IsDeclaration true a of d → a ++ us ≡ word words.Type t r ∷ Mark m.OpenBrace p ∷ zs → ⊥
no_brace t r p us zs (g.var_declaration q) w = omega (arith, sym (ap first w) ∙ declaration_first us (g.var_declaration q))
no_brace t r p us zs (g.function_declaration q) w = omega (arith, sym (ap first w) ∙ declaration_first us (g.function_declaration q))
no_brace t r p us zs (g.class_declaration q) w = omega (arith, sym (ap first w) ∙ declaration_first us (g.class_declaration q))
no_brace t r p us zs (g.interface_declaration q) w = omega (arith, sym (ap first w) ∙ declaration_first us (g.interface_declaration q))
no_brace t r p us zs (g.alias_declaration (alias ts ta s o j q i x h)) w = cc

-- no export list begins as an exported declaration
pub no_list_declares : {a b : List Sym} {of : ExportList} {u : Declaration} {d : ℕ} (s : List ℕ) (o : ℕ) (us vs : List Sym) → IsExportList a of → IsDeclaration true b u d → a ++ us ≡ word words.Export s o ∷ (b ++ vs) → ⊥
no_list_declares {b = b} s o us vs (g.export_list s' o' p unworded (specs j q {xs = x} y)) r w =
    let i : b ++ vs ≡ Mark m.OpenBrace j ∷ (x ++ Mark m.CloseBrace q ∷ [] ++ Mark m.Semicolon p ∷ [] ++ us) = cc in
    omega (arith, sym (ap first i) ∙ declaration_first vs r, tag_within r)
no_list_declares {b = b} s o us vs (g.export_list s' o' p (worded t n) (specs j q {xs = x} y)) r w =
    let i : b ++ vs ≡ word words.Type t n ∷ Mark m.OpenBrace j ∷ (x ++ Mark m.CloseBrace q ∷ [] ++ Mark m.Semicolon p ∷ [] ++ us) = cc in
    no_brace t n j vs _ r i
no_list_declares {b = b} s o us vs (g.export_from s' o' p {zs = z} unworded (specs j q {xs = x} y) f) r w =
    let i : b ++ vs ≡ Mark m.OpenBrace j ∷ (x ++ Mark m.CloseBrace q ∷ [] ++ z ++ Mark m.Semicolon p ∷ [] ++ us) = cc in
    omega (arith, sym (ap first i) ∙ declaration_first vs r, tag_within r)
no_list_declares {b = b} s o us vs (g.export_from s' o' p {zs = z} (worded t n) (specs j q {xs = x} y) f) r w =
    let i : b ++ vs ≡ word words.Type t n ∷ Mark m.OpenBrace j ∷ (x ++ Mark m.CloseBrace q ∷ [] ++ z ++ Mark m.Semicolon p ∷ [] ++ us) = cc in
    no_brace t n j vs _ r i
