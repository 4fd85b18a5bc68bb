-- How parts are written that may be missing, and bodies that may be blocks.
use Rattle.std.proofs.Common.{◌≡◌, ℕ, suc, ◌≤◌, sym, append_assoc, Bool, true, false, if◌then◌else◌, List, [], ◌∷◌, ◌++◌, map, length, codes, Option, Some, None, refl, ◌∙◌, ap, arith}
use Rattle.tb_tree.specs.declared.marks.Mark.TheVariants as m
use Rattle.tb_tree.specs.declared.exprs.Expr.{Expr}
use Rattle.tb_tree.specs.declared.exprs.Stmt.{Stmt}
use Rattle.tb_tree.specs.declared.exprs.Block.{Block, out-Block}
use Rattle.tb_tree.specs.declared.exprs.BlockItem.{BlockItem}
use Rattle.tb_layout.specs.Pieces.{mark, space, word, new_line, text_of}
use Rattle.tb_layout.specs.Js.{Laid, LaidStmt, body_pieces, else_pieces, part_pieces, value_pieces, block_pieces, lines}
use Rattle.tb_layout.proofs.Written as w
use Rattle.tb_layout.proofs.Written.{js_expr, js_stmt, js_lines, js_optional, js_otherwise, js_block, js_block_item}
use Rattle.tb_emit_js.proofs.Joins.{text_join}
use Rattle.tb_emit_js.specs.Lines.{is_block}

pub body_block : (of : Stmt) (n : ℕ) → true ≡ is_block (js_stmt of) → text_of (body_pieces n (js_stmt of)) ≡ codes " " ++ text_of (js_lines of n)
body_block of n is =
    ap (λ b. text_of (if b then space ++ js_lines of n else new_line (suc n) ++ js_lines of (suc n))) (sym is)

pub body_line : (of : Stmt) (n : ℕ) → false ≡ is_block (js_stmt of) → text_of (body_pieces n (js_stmt of)) ≡ text_of (new_line (suc n)) ++ text_of (js_lines of (suc n))
body_line of n is =
    ap (λ b. text_of (if b then space ++ js_lines of n else new_line (suc n) ++ js_lines of (suc n))) (sym is)
    ∙ text_join (new_line (suc n)) (js_lines of (suc n))

pub else_some : (of : Stmt) (n : ℕ) → text_of (else_pieces n (js_otherwise (Some of))) ≡ text_of (new_line n) ++ (codes "else" ++ text_of (body_pieces n (js_stmt of)))
else_some of n =
    text_join (new_line n ++ word (codes "else")) (body_pieces n (js_stmt of))
    ∙ ap (λ t. t ++ text_of (body_pieces n (js_stmt of))) (text_join (new_line n) (word (codes "else")))
    ∙ append_assoc (text_of (new_line n)) (codes "else") (text_of (body_pieces n (js_stmt of)))

pub else_none : (n : ℕ) → text_of (else_pieces n (js_otherwise None)) ≡ []
else_none n = refl

pub part_some : (of : Expr) (n : ℕ) → text_of (part_pieces n (js_optional (Some of))) ≡ codes " " ++ text_of (js_expr of n)
part_some of n = refl

pub part_none : (n : ℕ) → text_of (part_pieces n (js_optional None)) ≡ []
part_none n = refl

pub value_some : (of : Expr) (n : ℕ) → text_of (value_pieces n (js_optional (Some of))) ≡ codes " = " ++ text_of (js_expr of n)
value_some of n = refl

pub value_none : (n : ℕ) → text_of (value_pieces n (js_optional None)) ≡ []
value_none n = refl

-- ---- blocks

no_lines : (n : ℕ) (all : List BlockItem) → length all ≤ 0 → text_of (block_pieces n (map js_block_item all)) ≡ codes "{ }"
no_lines n [] few = refl
no_lines n (x ∷ xs) few = absurd (omega (arith, few))

some_lines : (n : ℕ) (all : List BlockItem) → 1 ≤ length all
    → text_of (block_pieces n (map js_block_item all)) ≡ codes "{" ++ (text_of (lines n (map js_block_item all)) ++ (text_of (new_line n) ++ codes "}"))
some_lines n [] few = absurd (omega (arith, few))
some_lines n (x ∷ xs) few =
    let inner = lines n (map js_block_item (x ∷ xs)) in
    text_join (mark m.OpenBrace ++ inner ++ new_line n) (mark m.CloseBrace)
    ∙ ap (λ t. t ++ codes "}") (text_join (mark m.OpenBrace ++ inner) (new_line n))
    ∙ ap (λ t. codes "{" ++ t) (append_assoc (text_of inner) (text_of (new_line n)) (codes "}"))

abbrev pub items_of : Block → List BlockItem
items_of of = let layer = out-Block of in layer.items

pub block_none : (of : Block) (n : ℕ) → length (items_of of) ≤ 0 → text_of (js_block of n) ≡ codes "{ }"
block_none of n few = ap text_of (w.block_out of n) ∙ no_lines n (items_of of) few

pub block_some : (of : Block) (n : ℕ) → 1 ≤ length (items_of of)
    → text_of (js_block of n) ≡ codes "{" ++ (text_of (lines n (map js_block_item (items_of of))) ++ (text_of (new_line n) ++ codes "}"))
block_some of n few = ap text_of (w.block_out of n) ∙ some_lines n (items_of of) few
