-- The items of each kind, up to a depth.
use Rattle.std.specs.Prelude.{ℕ, ◌≡◌, true, false, List, ◌∷◌}
use Rattle.tb_tree.specs.declared.words.Word.TheVariants as w
use Rattle.tb_tree.specs.declared.exprs.Stmt.{Stmt}
use Rattle.tb_tree.specs.declared.items.Import.{Import}
use Rattle.tb_tree.specs.declared.items.ExportList.{ExportList}
use Rattle.tb_tree.specs.declared.items.Declaration.{Declaration}
use Rattle.tb_tree.specs.declared.items.Item.{Item}
use Rattle.tb_tree.specs.declared.items.Item.TheVariants as item
use Rattle.tb_tree.specs.Sym.{Sym}
use Rattle.tb_tree.specs.Shapes.{word}
use Rattle.tb_tree.specs.Exprs.{no_body}
use Rattle.tb_tree.specs.Items.{IsImport, IsExportList}
use Rattle.tb_parse_body.specs.Rules.{Deep, StmtUpto}
use Rattle.tb_parse_file.specs.Rules.{DeclarationUpto}

-- an import, and an export list
abbrev pub ImportItem : List Sym → Deep Item → Type 0
ImportItem xs r = (of : Import) × IsImport xs of × (◌≡◌ {A = Deep Item} r (item.Import of, 0))

abbrev pub ListItem : List Sym → Deep Item → Type 0
ListItem xs r = (of : ExportList) × IsExportList xs of × (◌≡◌ {A = Deep Item} r (item.ExportList of, 0))

-- `export` and a declaration, and a declaration alone
abbrev pub ExportedItem : ℕ → List Sym → Deep Item → Type 0
ExportedItem n xs r = (spelled : List ℕ) × (at : ℕ) × (ys : List Sym) × (of : Deep Declaration) × (xs ≡ word w.Export spelled at ∷ ys) × DeclarationUpto n ys of
    × (◌≡◌ {A = Deep Item} r (item.Declaration true of.0, of.1))

abbrev pub DeclaredItem : ℕ → List Sym → Deep Item → Type 0
DeclaredItem n xs r = (of : Deep Declaration) × DeclarationUpto n xs of × (◌≡◌ {A = Deep Item} r (item.Declaration false of.0, of.1))

-- a statement, which stands in no body, no loop and no switch
abbrev pub StmtItem : ℕ → List Sym → Deep Item → Type 0
StmtItem n xs r = (of : Deep Stmt) × StmtUpto no_body false n xs of × (◌≡◌ {A = Deep Item} r (item.Stmt of.0, of.1))
