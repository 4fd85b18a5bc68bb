-- What is written for an item, and what of a list of names stays.
use Rattle.std.specs.Prelude.{ℕ, Bool, true, false, not, ◌&&◌, List, [], ◌∷◌, ◌++◌, codes, Option, Some, None}
use Rattle.tb_tree.specs.declared.exprs.Stmt.{Stmt}
use Rattle.tb_tree.specs.declared.items.Spec.{Spec}
use Rattle.tb_tree.specs.declared.items.Specifier.{Specifier}
use Rattle.tb_tree.specs.declared.items.ExportList.{ExportList}
use Rattle.tb_tree.specs.declared.items.Item.{Item}
use Rattle.tb_tree.specs.declared.items.Item.TheVariants as item
use Rattle.tb_layout.specs.Erase.{erased_specs, stays_listed, erased_item}
use Rattle.tb_layout.specs.Js.{item_pieces, spec_pieces}
use Rattle.tb_layout.specs.Pieces.{text_of, new_line}

-- an item and the end of its line
abbrev pub item_line : Item → List ℕ
item_line of = text_of (item_pieces of ++ new_line 0)

abbrev pub erased_stmt_item : Stmt → List Item
erased_stmt_item of = erased_item (item.Stmt of)

abbrev pub list_stays : ExportList → Bool
list_stays of = not of.type_only && stays_listed of.specs (erased_specs of.specs) of.from

abbrev pub has_origin : Option Specifier → Bool
has_origin None = false
has_origin (Some of) = true

-- what stands before a name in braces, and behind the last, where there is an earlier one or not
abbrev pub gap_text : Bool → List ℕ
gap_text true = codes ", "
gap_text false = codes " "

abbrev pub end_text : Bool → List ℕ
end_text true = codes " }"
end_text false = codes "}"

-- names and the closing brace
abbrev pub tail_text : Bool → List Spec → List ℕ
tail_text some [] = end_text some
tail_text some (of ∷ rest) = gap_text some ++ (text_of (spec_pieces of) ++ tail_text true rest)

-- what is added where no import and no export is left
abbrev pub module_end : Bool → List ℕ
module_end true = []
module_end false = codes "export {};\n"
