-- What stands written once the parts of some forms are, one behind another.
use Rattle.std.proofs.Common.{◌≡◌, ℕ, suc, ◌≤◌, Bool, true, false, List, [], ◌∷◌, ◌++◌, map, flat_map, length, drop, codes, Option, Some, None, refl, ◌∙◌, ap, sym, append_assoc, arith}
use Rattle.std.specs.Bool.{IsTrue}
use Rattle.std.proofs.lemmas.Bool.{false≢true}
use Rattle.std.proofs.lemmas.List.{append-nil, drop_all}
use Rattle.tb_tree.specs.declared.exprs.Expr.{Expr}
use Rattle.tb_tree.specs.declared.exprs.Expr.TheVariants as expr
use Rattle.tb_tree.specs.declared.exprs.Stmt.{Stmt}
use Rattle.tb_tree.specs.declared.exprs.Stmt.TheVariants as stmt
use Rattle.tb_tree.specs.declared.exprs.ForStart.{ForStart}
use Rattle.tb_tree.specs.declared.exprs.Block.{Block}
use Rattle.tb_tree.specs.declared.exprs.BlockItem.{BlockItem}
use Rattle.tb_tree.specs.declared.exprs.Prop.{Prop}
use Rattle.tb_tree.specs.declared.exprs.TemplateSpan.{TemplateSpan}
use Rattle.tb_layout.specs.Pieces.{text_of, new_line}
use Rattle.tb_layout.specs.Js.{Laid, laid_list, lines, body_pieces, else_pieces, part_pieces}
use Rattle.tb_layout.proofs.Written.{js_expr, js_prop, js_span, js_stmt, js_lines, js_start, js_optional, js_otherwise, js_block, js_block_item}
use Rattle.tb_emit_js.specs.Lines.{span_text, further_text}
use Rattle.tb_emit_js.proofs.Growing.{grow2, grow3, grow4, grow5, grow7}
use Rattle.tb_emit_js.proofs.Joins.{list_text, object_some}
use Rattle.tb_emit_js.proofs.Bodies.{block_some, items_of}
use Rattle.tb_emit_js.proofs.Forms.{template_expr_text, object_expr_text, if_stmt_lines_text, for_stmt_lines_text}

-- a list, once its members are
pub list_whole : {A : Type 0} (f : A → Laid) (n : ℕ) (o before : List ℕ) (all : List A) (some : Bool) (k : ℕ) → length all ≤ k
    → o ++ further_text f n some (drop k all) ≡ before ++ further_text f n false all → o ≡ before ++ text_of (laid_list n (map f all))
list_whole f n o before all some k past is =
    sym (append-nil o) ∙ ap (λ xs. o ++ further_text f n some xs) (sym (drop_all k all past)) ∙ is ∙ ap (λ t. before ++ t) (list_text f n all)

pub some_members : {A : Type 0} (xs : List A) → (xs ≡ [] → IsTrue false) → 1 ≤ length xs
some_members [] none = absurd (false≢true (none refl))
some_members (x ∷ xs) none = omega arith

abbrev spans_text : ℕ → List TemplateSpan → List ℕ
spans_text n all = flat_map (λ of. span_text (js_span of n)) all

pub template_grown : (o0 o1 o2 : List ℕ) (n : ℕ) (of : Expr) (at : ℕ) (head : List ℕ) (spans : List TemplateSpan) (text : List ℕ) (all : List TemplateSpan)
    → of ≡ expr.Template at head spans → text ≡ head → all ≡ spans → o1 ≡ o0 ++ text → o2 ≡ o1 ++ flat_map (λ of. span_text (js_span of n)) all
    → o2 ≡ o0 ++ text_of (js_expr of n)
template_grown o0 o1 o2 n of at head spans text all is text_is all_is f g =
    grow2 o0 o1 o2 text (spans_text n all) (text_of (js_expr of n)) f g
    (ap (λ x. text_of (js_expr x n)) is ∙ template_expr_text at head spans n
    ∙ ap (λ x. x ++ spans_text n spans) (sym text_is) ∙ ap (λ xs. text ++ spans_text n xs) (sym all_is))

pub object_grown : (o0 o1 o2 o3 : List ℕ) (n : ℕ) (of : Expr) (at : ℕ) (props all : List Prop)
    → of ≡ expr.Object at props → (props ≡ [] → IsTrue false) → all ≡ props → o1 ≡ o0 ++ codes "{ " → o2 ≡ o1 ++ text_of (laid_list n (map js_prop all)) → o3 ≡ o2 ++ codes " }"
    → o3 ≡ o0 ++ text_of (js_expr of n)
object_grown o0 o1 o2 o3 n of at props all is some all_is f g h =
    grow3 o0 o1 o2 o3 (codes "{ ") (text_of (laid_list n (map js_prop all))) (codes " }") (text_of (js_expr of n)) f g h
    (ap (λ x. text_of (js_expr x n)) is ∙ object_expr_text at props n ∙ object_some js_prop n props (some_members props some)
    ∙ ap (λ xs. codes "{ " ++ (text_of (laid_list n (map js_prop xs)) ++ codes " }")) (sym all_is))

pub block_grown : (o0 o1 o2 o3 : List ℕ) (n : ℕ) (of : Block) (all : List BlockItem)
    → (items_of of ≡ [] → IsTrue false) → all ≡ items_of of → o1 ≡ o0 ++ codes "{" → o2 ≡ o1 ++ text_of (lines n (map js_block_item all))
    → o3 ≡ o2 ++ text_of (new_line n) ++ codes "}" → o3 ≡ o0 ++ text_of (js_block of n)
block_grown o0 o1 o2 o3 n of all some all_is f g h =
    grow3 o0 o1 o2 o3 (codes "{") (text_of (lines n (map js_block_item all))) (text_of (new_line n) ++ codes "}") (text_of (js_block of n)) f g
    (h ∙ append_assoc o2 (text_of (new_line n)) (codes "}"))
    (block_some of n (some_members (items_of of) some)
    ∙ ap (λ xs. codes "{" ++ (text_of (lines n (map js_block_item xs)) ++ (text_of (new_line n) ++ codes "}"))) (sym all_is))

-- a body, behind what stands before it
body_grown : (o3 o4 o5 : List ℕ) (n at : ℕ) (body first second : Stmt) → first ≡ body → second ≡ body
    → o4 ++ text_of (js_lines first at) ≡ o3 ++ text_of (body_pieces n (js_stmt first)) → o5 ≡ o4 ++ text_of (js_lines second at)
    → o5 ≡ o3 ++ text_of (body_pieces n (js_stmt body))
body_grown o3 o4 o5 n at body first second first_is second_is begun is =
    is ∙ ap (λ x. o4 ++ text_of (js_lines x at)) (second_is ∙ sym first_is) ∙ begun ∙ ap (λ x. o3 ++ text_of (body_pieces n (js_stmt x))) first_is

pub if_grown : (o0 o1 o2 o3 o4 o5 o6 : List ℕ) (n at : ℕ) (of : Stmt) (place : ℕ) (condition : Expr) (chosen : Stmt) (otherwise : Option Stmt) (c : Expr) (first second : Stmt)
    → of ≡ stmt.If place condition chosen otherwise → c ≡ condition → first ≡ chosen → second ≡ chosen
    → o1 ≡ o0 ++ codes "if (" → o2 ≡ o1 ++ text_of (js_expr c n) → o3 ≡ o2 ++ codes ")"
    → o4 ++ text_of (js_lines first at) ≡ o3 ++ text_of (body_pieces n (js_stmt first)) → o5 ≡ o4 ++ text_of (js_lines second at)
    → o6 ≡ o5 ++ text_of (else_pieces n (js_otherwise otherwise)) → o6 ≡ o0 ++ text_of (js_lines of n)
if_grown o0 o1 o2 o3 o4 o5 o6 n at of place condition chosen otherwise c first second is c_is first_is second_is f g h begun i j =
    grow5 o0 o1 o2 o3 o5 o6 (codes "if (") (text_of (js_expr c n)) (codes ")") (text_of (body_pieces n (js_stmt chosen))) (text_of (else_pieces n (js_otherwise otherwise))) (text_of (js_lines of n)) f g h
    (body_grown o3 o4 o5 n at chosen first second first_is second_is begun i) j
    (ap (λ x. text_of (js_lines x n)) is ∙ if_stmt_lines_text place condition chosen otherwise n
    ∙ ap (λ x. codes "if (" ++ (text_of (js_expr x n) ++ (codes ")" ++ (text_of (body_pieces n (js_stmt chosen)) ++ text_of (else_pieces n (js_otherwise otherwise)))))) (sym c_is))

pub for_grown : (o0 o1 o2 o3 o4 o5 o6 o7 o8 : List ℕ) (n at : ℕ) (of : Stmt) (place : ℕ) (start : ForStart) (condition step : Option Expr) (body first second : Stmt)
    → of ≡ stmt.For place start condition step body → first ≡ body → second ≡ body
    → o1 ≡ o0 ++ codes "for (" → o2 ≡ o1 ++ text_of (js_start start n) → o3 ≡ o2 ++ text_of (part_pieces n (js_optional condition)) → o4 ≡ o3 ++ codes ";"
    → o5 ≡ o4 ++ text_of (part_pieces n (js_optional step)) → o6 ≡ o5 ++ codes ")"
    → o7 ++ text_of (js_lines first at) ≡ o6 ++ text_of (body_pieces n (js_stmt first)) → o8 ≡ o7 ++ text_of (js_lines second at)
    → o8 ≡ o0 ++ text_of (js_lines of n)
for_grown o0 o1 o2 o3 o4 o5 o6 o7 o8 n at of place start condition step body first second is first_is second_is f g h i j k begun l =
    grow7 o0 o1 o2 o3 o4 o5 o6 o8 (codes "for (") (text_of (js_start start n)) (text_of (part_pieces n (js_optional condition))) (codes ";")
    (text_of (part_pieces n (js_optional step))) (codes ")") (text_of (body_pieces n (js_stmt body))) (text_of (js_lines of n)) f g h i j k
    (body_grown o6 o7 o8 n at body first second first_is second_is begun l)
    (ap (λ x. text_of (js_lines x n)) is ∙ for_stmt_lines_text place start condition step body n)
