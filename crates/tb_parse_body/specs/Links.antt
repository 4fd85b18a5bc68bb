-- What may follow an expression in a chain: `. Word`, but not on a number; `[ Expr ]`; `( Expr,* )`.
use Rattle.std.specs.Prelude.{ℕ, zero, suc, ◌+◌, ◌≤◌, ◌≡◌, max, Bool, true, false, not, ◌&&◌, List, [], ◌∷◌, ◌++◌}
use Rattle.tb_tree.specs.declared.marks.Mark.TheVariants as m
use Rattle.tb_tree.specs.declared.words.Word.{Word}
use Rattle.tb_tree.specs.declared.exprs.ArrowBody.{ArrowBody}
use Rattle.tb_tree.specs.declared.exprs.ArrowBody.TheOpen.{Expr-F}
use Rattle.tb_tree.specs.declared.exprs.BlockItem.{BlockItem}
use Rattle.tb_tree.specs.declared.exprs.Clause.{Clause}
use Rattle.tb_tree.specs.declared.exprs.ForStart.{ForStart}
use Rattle.tb_tree.specs.declared.exprs.Prop.{Prop}
use Rattle.tb_tree.specs.declared.exprs.Stmt.{Stmt}
use Rattle.tb_tree.specs.declared.exprs.Block.{Block}
use Rattle.tb_tree.specs.declared.exprs.Declarator.{Declarator}
use Rattle.tb_tree.specs.declared.exprs.Function.{Function}
use Rattle.tb_tree.specs.declared.exprs.Param.{Param}
use Rattle.tb_tree.specs.declared.exprs.TemplateSpan.{TemplateSpan}
use Rattle.tb_tree.specs.declared.exprs.Var.{Var}
use Rattle.tb_tree.specs.declared.exprs.Expr.{Expr, out-Expr}
use Rattle.tb_tree.specs.declared.exprs.Expr.TheVariants as expr
use Rattle.tb_tree.specs.Sym.{Sym, Mark}
use Rattle.tb_tree.specs.Shapes.{word}
use Rattle.tb_tree.specs.Exprs.{IsExpr, IsExprs, is_number}
use Rattle.tb_parse_body.specs.declared.fronts.Link.{Link}
use Rattle.tb_parse_body.specs.declared.fronts.Link.TheVariants as l
use Rattle.tb_parse_body.specs.Rules.{Deep}

-- a link, and how deep what stands in it is
pub data IsLink : List Sym → Link → ℕ → Type 0 where
  member_link : (kind : Word) (dot : ℕ) (spelled : List ℕ) (at : ℕ) → IsLink (Mark m.Dot dot ∷ word kind spelled at ∷ []) (l.Member spelled) 0
  index_link : (open_at close_at : ℕ) {xs : List Sym} {of : Expr} {d : ℕ} → IsExpr true true xs of d
      → IsLink (Mark m.OpenBracket open_at ∷ xs ++ Mark m.CloseBracket close_at ∷ []) (l.Index of) d
  call_link : (open_at close_at : ℕ) {xs : List Sym} {of : List Expr} {d : ℕ} → IsExprs true xs of d
      → IsLink (Mark m.OpenParen open_at ∷ xs ++ Mark m.CloseParen close_at ∷ []) (l.Call of) d

abbrev pub is_call : Link → Bool
is_call (l.Call of) = true
is_call _ = false

abbrev pub is_member : Link → Bool
is_member (l.Member name) = true
is_member _ = false

-- an expression with a link behind it
abbrev pub linked : ℕ → Expr → Link → Expr
linked at base (l.Member name) = expr.Member at base name
linked at base (l.Index of) = expr.Index at base of
linked at base (l.Call of) = expr.Call at base [] of

-- what is called, where an expression is a call
abbrev pub callee_at : Expr → Expr-F ArrowBody BlockItem Clause Expr ForStart Prop Stmt Block Declarator Function Param TemplateSpan Var → Expr
callee_at of (Expr-F.Call at callee type_arguments arguments) = callee
callee_at of _ = of

abbrev pub callee_of : Expr → Expr
callee_of of = callee_at of (out-Expr of)

-- a tree without so many calls
unfoldable pub strip : ℕ → Expr → Expr
strip zero x = x
strip (suc n) x = strip n (callee_of x)

-- ---- up to a depth

abbrev pub MemberRule : List Sym → Deep Link → Type 0
MemberRule xs r = IsLink xs r.0 r.1 × (is_member r.0 ≡ true)

abbrev pub IndexUpto : ℕ → List Sym → Deep Link → Type 0
IndexUpto n xs r = (o : ℕ) × (p : ℕ) × (ys : List Sym) × (of : Expr) × (xs ≡ Mark m.OpenBracket o ∷ ys ++ Mark m.CloseBracket p ∷ []) × (r.0 ≡ l.Index of) × IsExpr true true ys of r.1 × (r.1 ≤ n)

abbrev pub CallUpto : ℕ → List Sym → Deep Link → Type 0
CallUpto n xs r = (o : ℕ) × (p : ℕ) × (ys : List Sym) × (of : List Expr) × (xs ≡ Mark m.OpenParen o ∷ ys ++ Mark m.CloseParen p ∷ []) × (r.0 ≡ l.Call of) × IsExprs true ys of r.1 × (r.1 ≤ n)

-- a link behind an expression, which is a number or not
abbrev pub LinkUpto : Bool → ℕ → List Sym → Deep Link → Type 0
LinkUpto number n xs r = IsLink xs r.0 r.1 × ((number && is_member r.0) ≡ false) × (r.1 ≤ n)

-- any number of links behind an expression that begins at a place, from the left to the right
pub data IsLinks (at : ℕ) : Expr → ℕ → List Sym → Expr → ℕ → Type 0 where
  no_links : {x : Expr} {d : ℕ} → IsLinks at x d [] x d
  more_links : {xs ys : List Sym} {link : Link} {x y : Expr} {d e n : ℕ} → IsLink xs link e → (is_number x && is_member link) ≡ false
      → IsLinks at (linked at x link) (max d e + 1) ys y n → IsLinks at x d (xs ++ ys) y n
