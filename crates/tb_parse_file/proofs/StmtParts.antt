-- Statements of one list: they end at one place, or `else` stands behind the shorter one.
use Rattle.std.proofs.Common.{◌≡◌, ℕ, ◌<◌, Bool, true, false, List, [], ◌∷◌, ◌++◌, length, refl, sym, ◌∙◌, ap, arith, append_assoc, length-append}
use Rattle.tb_tree.specs.declared.marks.Mark.TheVariants as m
use Rattle.tb_tree.specs.declared.words.Word.{Word}
use Rattle.tb_tree.specs.declared.words.Word.TheVariants as w
use Rattle.tb_tree.specs.declared.words.Class.TheVariants as c
use Rattle.tb_tree.specs.declared.exprs.Stmt.{Stmt}
use Rattle.tb_tree.specs.Sym.{Sym, Mark, Lex}
use Rattle.tb_tree.specs.Shapes.{word}
use Rattle.tb_tree.specs.Exprs as g
use Rattle.tb_tree.proofs.Ends.{append_three}
use Rattle.tb_parse_body.proofs.Even.{Even, even_append, even_cons, group_exact, expr_even, optional_even, for_start_even, block_items_even, clauses_even}
use Rattle.tb_parse_body.proofs.Goes.{closed_same}
use Rattle.tb_parse_file.proofs.ItemStarts.{begins_expr, expr_first}
use Rattle.tb_parse_file.proofs.NoSemicolon.{Clear, clear_nil, clear_one, clear_cons, ended_same, expr_clear, optional_clear}

-- ---- sorts of items by their first symbols

-- What may end with the first `;` outside brackets has sort 0; a statement that begins otherwise 1, a function 2, and a class and an
-- interface 3. Behind `export` the second symbol tells.
abbrev pub word_sort : Word → ℕ
word_sort w.If = 1
word_sort w.While = 1
word_sort w.Do = 1
word_sort w.For = 1
word_sort w.Switch = 1
word_sort w.Function = 2
word_sort w.Class = 3
word_sort w.Interface = 3
word_sort _ = 0

abbrev pub first_sort : Sym → ℕ
first_sort (Mark m.OpenBrace at) = 1
first_sort (Lex (c.Word k) spelled at) = word_sort k
first_sort _ = 0

abbrev pub export_sort : Sym → ℕ
export_sort (Lex (c.Word k) spelled at) = word_sort k
export_sort _ = 0

abbrev pub second_sort : List Sym → ℕ
second_sort [] = 0
second_sort (s ∷ ss) = export_sort s

abbrev pub is_export : Sym → Bool
is_export (Lex (c.Word w.Export) spelled at) = true
is_export _ = false

abbrev pub sort_by : Bool → ℕ → ℕ → ℕ
sort_by true first second = second
sort_by false first second = first

abbrev pub sort : List Sym → ℕ
sort [] = 0
sort (s ∷ ss) = sort_by (is_export s) (first_sort s) (second_sort ss)

-- it does not depend on what stands behind the first `;`
pub sort_more : (xs us : List Sym) (at : ℕ) → sort (xs ++ Mark m.Semicolon at ∷ [] ++ us) ≡ sort (xs ++ Mark m.Semicolon at ∷ [])
sort_more [] us at = refl
sort_more (s ∷ []) us at = refl
sort_more (s ∷ z ∷ xs) us at = refl

pub sort_whole : {ys : List Sym} (xs : List Sym) (at : ℕ) (us : List Sym) → sort (xs ++ Mark m.Semicolon at ∷ []) ≡ 0 → xs ++ Mark m.Semicolon at ∷ [] ++ us ≡ ys → sort ys ≡ 0
sort_whole xs at us h e = sym (ap sort e) ∙ sort_more xs us at ∙ h

-- what an expression begins with, but for `{`
expr_sort : (z : Sym) (b ss : List Sym) → begins_expr z ≡ true → g.begins_with_brace (z ∷ b) ≡ false → sort (z ∷ ss) ≡ 0
expr_sort (Mark m.OpenBrace at) b ss e h = cc
expr_sort (Lex (c.Word w.If) spelled at) b ss e h = cc
expr_sort (Lex (c.Word w.While) spelled at) b ss e h = cc
expr_sort (Lex (c.Word w.Do) spelled at) b ss e h = cc
expr_sort (Lex (c.Word w.For) spelled at) b ss e h = cc
expr_sort (Lex (c.Word w.Switch) spelled at) b ss e h = cc
expr_sort (Lex (c.Word w.Function) spelled at) b ss e h = cc
expr_sort (Lex (c.Word w.Class) spelled at) b ss e h = cc
expr_sort (Lex (c.Word w.Interface) spelled at) b ss e h = cc
expr_sort (Lex (c.Word w.Export) spelled at) b ss e h = cc
expr_sort _ b ss e h = refl

-- ---- the skeletons of statements

-- What ends with its first outer `;`, and how else statements are made of brackets and statements. As in the grammar, `closed` is that
-- of a statement before an outer `else`.
pub data Bone : Bool → List Sym → Type 0 where
  sentence : {closed : Bool} (semicolon : ℕ) {xs : List Sym} → Clear xs → sort (xs ++ Mark m.Semicolon semicolon ∷ []) ≡ 0 → Bone closed (xs ++ Mark m.Semicolon semicolon ∷ [])
  braces : {closed : Bool} (o p : ℕ) {xs : List Sym} → Even xs → Bone closed (Mark m.OpenBrace o ∷ xs ++ Mark m.CloseBrace p ∷ [])
  switches : {closed : Bool} (s : List ℕ) (at o p open_brace close_brace : ℕ) {xs ys : List Sym} → Even xs → Even ys
      → Bone closed (word w.Switch s at ∷ Mark m.OpenParen o ∷ xs ++ Mark m.CloseParen p ∷ Mark m.OpenBrace open_brace ∷ ys ++ Mark m.CloseBrace close_brace ∷ [])
  whiles : {closed : Bool} (s : List ℕ) (at o p : ℕ) {xs ys : List Sym} → Even xs → Bone closed ys
      → Bone closed (word w.While s at ∷ Mark m.OpenParen o ∷ xs ++ Mark m.CloseParen p ∷ ys)
  fors : {closed : Bool} (s : List ℕ) (at o p : ℕ) {xs ys : List Sym} → Even xs → Bone closed ys
      → Bone closed (word w.For s at ∷ Mark m.OpenParen o ∷ xs ++ Mark m.CloseParen p ∷ ys)
  does : {closed : Bool} (s : List ℕ) (at : ℕ) (ws : List ℕ) (wa o p semicolon : ℕ) {xs ys : List Sym} → Bone false xs → Even ys
      → Bone closed (word w.Do s at ∷ xs ++ word w.While ws wa ∷ Mark m.OpenParen o ∷ ys ++ Mark m.CloseParen p ∷ Mark m.Semicolon semicolon ∷ [])
  ifs : (s : List ℕ) (at o p : ℕ) {xs ys : List Sym} → Even xs → Bone false ys → Bone false (word w.If s at ∷ Mark m.OpenParen o ∷ xs ++ Mark m.CloseParen p ∷ ys)
  if_elses : {closed : Bool} (s : List ℕ) (at o p : ℕ) (es : List ℕ) (ea : ℕ) {xs ys zs : List Sym} → Even xs → Bone true ys → Bone closed zs
      → Bone closed (word w.If s at ∷ Mark m.OpenParen o ∷ xs ++ Mark m.CloseParen p ∷ ys ++ word w.Else es ea ∷ zs)

pub bone : {ordered : Bool} {around : g.Around} {closed : Bool} {a : List Sym} {of : Stmt} {d : ℕ} → g.IsStmt ordered around closed a of d → Bone closed a
bone {ordered = ordered} (g.block_stmt (g.block o p q)) = braces o p (block_items_even ordered q)
bone {ordered = ordered} (g.if_stmt s at o p q r) = ifs s at o p (expr_even ordered q) (bone r)
bone {ordered = ordered} (g.if_else_stmt s at o p es ea q r f) = if_elses s at o p es ea (expr_even ordered q) (bone r) (bone f)
bone {ordered = ordered} (g.while_stmt s at o p q r) = whiles s at o p (expr_even ordered q) (bone r)
bone {ordered = ordered} (g.do_stmt s at ws wa o p semicolon q r) = does s at ws wa o p semicolon (bone q) (expr_even ordered r)
bone {ordered = ordered} (g.for_stmt s at o semicolon p q r f b) =
    fors s at o p (even_append (even_append (for_start_even ordered q) (optional_even ordered r)) (even_cons refl (optional_even ordered f))) (bone b)
bone {ordered = ordered} (g.for_of_stmt s at o ks ka ns na os oa p k n q r) = fors s at o p (even_cons refl (even_cons refl (even_cons refl (expr_even ordered q)))) (bone r)
bone {ordered = ordered} (g.return_stmt s at semicolon h q) = sentence semicolon (clear_cons refl (optional_clear ordered q)) refl
bone {ordered = ordered} (g.break_stmt s at semicolon h) = sentence semicolon (clear_one refl) refl
bone {ordered = ordered} (g.continue_stmt s at semicolon h) = sentence semicolon (clear_one refl) refl
bone {ordered = ordered} (g.throw_stmt s at semicolon q) = sentence semicolon (clear_cons refl (expr_clear ordered q)) refl
bone {ordered = ordered} (g.switch_stmt s at o p ob pb q r) = switches s at o p ob pb (expr_even ordered q) (clauses_even ordered r)
bone {ordered = ordered} (g.expr_stmt semicolon {xs = xs} b q) =
    let p = expr_first q in
    sentence semicolon (expr_clear ordered q)
    (ap (λ v. sort (v ++ Mark m.Semicolon semicolon ∷ [])) p.2 ∙ expr_sort p.0 p.1 (p.1 ++ Mark m.Semicolon semicolon ∷ []) p.3 (sym (ap g.begins_with_brace p.2) ∙ b))
bone {ordered = ordered} (g.empty_stmt at) = sentence at clear_nil refl

-- ---- how two of them part

-- a list begins with `else`
abbrev pub Else : List Sym → Type 0
Else us = (s : List ℕ) × (at : ℕ) × (vs : List Sym) × (us ≡ word w.Else s at ∷ vs)

-- Two statements leave us and ws of one list. Where one is shorter, `else` stands behind it, and it is not closed.
pub data Sides (closed other : Bool) (us ws : List Sym) : Type 0 where
  same : us ≡ ws → Sides closed other us ws
  left : closed ≡ false → Else us → length ws < length us → Sides closed other us ws
  right : other ≡ false → Else ws → length us < length ws → Sides closed other us ws

-- parentheses before what follows
head_same : (k k' : Sym) (o p o' p' : ℕ) {x x' : List Sym} (y y' us ws : List Sym) → Even x → Even x'
    → k ∷ Mark m.OpenParen o ∷ x ++ Mark m.CloseParen p ∷ y ++ us ≡ k' ∷ Mark m.OpenParen o' ∷ x' ++ Mark m.CloseParen p' ∷ y' ++ ws → y ++ us ≡ y' ++ ws
head_same k k' o p o' p' {x = x} {x' = x'} y y' us ws q r e =
    let i : x ++ Mark m.CloseParen p ∷ y ++ us ≡ x' ++ Mark m.CloseParen p' ∷ y' ++ ws = cc in
    (group_exact (Mark m.CloseParen p) (Mark m.CloseParen p') (y ++ us) (y' ++ ws) q r refl refl (sym (append_assoc x (Mark m.CloseParen p ∷ y) us) ∙ i ∙ append_assoc x' (Mark m.CloseParen p' ∷ y') ws)).2

-- an `else` behind the branch of an `if`
else_front : (s : List ℕ) (at o p : ℕ) (es : List ℕ) (ea : ℕ) (x y z us : List Sym)
    → word w.If s at ∷ Mark m.OpenParen o ∷ x ++ Mark m.CloseParen p ∷ y ++ word w.Else es ea ∷ z ++ us ≡ word w.If s at ∷ Mark m.OpenParen o ∷ x ++ Mark m.CloseParen p ∷ y ++ (word w.Else es ea ∷ z ++ us)
else_front s at o p es ea x y z us = append_assoc (word w.If s at ∷ Mark m.OpenParen o ∷ x ++ Mark m.CloseParen p ∷ y) (word w.Else es ea ∷ z) us

-- the end of a `do`
do_end : (ws : List ℕ) (wa o p semicolon : ℕ) (vs : List ℕ) (va o' p' semicolon' : ℕ) {y y' : List Sym} (us zs : List Sym) → Even y → Even y'
    → Sides false false (word w.While ws wa ∷ Mark m.OpenParen o ∷ y ++ Mark m.CloseParen p ∷ Mark m.Semicolon semicolon ∷ us)
    (word w.While vs va ∷ Mark m.OpenParen o' ∷ y' ++ Mark m.CloseParen p' ∷ Mark m.Semicolon semicolon' ∷ zs)
    → us ≡ zs
do_end ws wa o p semicolon vs va o' p' semicolon' {y = y} {y' = y'} us zs q r (same e) =
    let i : y ++ (Mark m.CloseParen p ∷ (Mark m.Semicolon semicolon ∷ us)) ≡ y' ++ (Mark m.CloseParen p' ∷ (Mark m.Semicolon semicolon' ∷ zs)) = cc in
    let j = (group_exact (Mark m.CloseParen p) (Mark m.CloseParen p') (Mark m.Semicolon semicolon ∷ us) (Mark m.Semicolon semicolon' ∷ zs) q r refl refl i).2 in cc
do_end ws wa o p semicolon vs va o' p' semicolon' us zs q r (left c f h) = let i = f.3 in cc
do_end ws wa o p semicolon vs va o' p' semicolon' us zs q r (right c f h) = let i = f.3 in cc

-- an `if` without `else` beside one that has it
if_beside : {closed : Bool} (s : List ℕ) (at : ℕ) (z us ws : List Sym) → Sides false true us (word w.Else s at ∷ z ++ ws) → Sides false closed us ws
if_beside s at z us ws (same e) = left refl (s, at, z ++ ws, e) (omega (arith, ap length e, length-append z ws))
if_beside s at z us ws (left c f h) = left refl f (omega (arith, h, length-append z ws))
if_beside s at z us ws (right c f h) = cc

flip : {closed other : Bool} {us ws : List Sym} → Sides closed other us ws → Sides other closed ws us
flip (same e) = same (sym e)
flip (left c f h) = right c f h
flip (right c f h) = left c f h

-- where both branches stand before an `else` they are the same
before_else : (s : List ℕ) (at : ℕ) (s' : List ℕ) (at' : ℕ) (x y : List Sym) → Sides true true (word w.Else s at ∷ x) (word w.Else s' at' ∷ y) → x ≡ y
before_else s at s' at' x y (same e) = cc
before_else s at s' at' x y (left c f h) = cc
before_else s at s' at' x y (right c f h) = cc

pub bones_part : {closed other : Bool} {a b : List Sym} (us zs : List Sym) → Bone closed a → Bone other b → a ++ us ≡ b ++ zs → Sides closed other us zs
bones_part us zs (sentence at q h) (sentence at' r i) e = same (ended_same at at' us zs q r e)
bones_part us zs (sentence at {xs = x} q h) _ e = let n : 1 ≡ 0 = sort_whole x at us h e in absurd (omega (arith, n))
bones_part us zs _ (sentence at {xs = x} q h) e = let n : 1 ≡ 0 = sort_whole x at zs h (sym e) in absurd (omega (arith, n))
bones_part us zs (braces o p q) (braces o' p' r) e = same (closed_same m.CloseBrace p p' us zs (λ at. refl) q r cc).2
bones_part us zs (braces o p q) _ e = cc
bones_part us zs (switches s at o p ob pb {xs = x} {ys = y} q r) (switches s' at' o' p' ob' pb' {xs = x'} {ys = y'} q' r') e =
    let i = head_same (word w.Switch s at) (word w.Switch s' at') o p o' p' (Mark m.OpenBrace ob ∷ y) (Mark m.OpenBrace ob' ∷ y') (Mark m.CloseBrace pb ∷ us) (Mark m.CloseBrace pb' ∷ zs) q q'
    (sym (append_assoc (word w.Switch s at ∷ Mark m.OpenParen o ∷ x ++ Mark m.CloseParen p ∷ Mark m.OpenBrace ob ∷ y) (Mark m.CloseBrace pb ∷ []) us)
    ∙ e
    ∙ append_assoc (word w.Switch s' at' ∷ Mark m.OpenParen o' ∷ x' ++ Mark m.CloseParen p' ∷ Mark m.OpenBrace ob' ∷ y') (Mark m.CloseBrace pb' ∷ []) zs) in
    let j : y ++ (Mark m.CloseBrace pb ∷ us) ≡ y' ++ (Mark m.CloseBrace pb' ∷ zs) = cc in
    same (group_exact (Mark m.CloseBrace pb) (Mark m.CloseBrace pb') us zs r r' refl refl j).2
bones_part us zs (switches s at o p ob pb q r) _ e = cc
bones_part us zs (whiles s at o p {ys = y} q r) (whiles s' at' o' p' {ys = y'} q' r') e = bones_part us zs r r' (head_same (word w.While s at) (word w.While s' at') o p o' p' y y' us zs q q' e)
bones_part us zs (whiles s at o p q r) _ e = cc
bones_part us zs (fors s at o p {ys = y} q r) (fors s' at' o' p' {ys = y'} q' r') e = bones_part us zs r r' (head_same (word w.For s at) (word w.For s' at') o p o' p' y y' us zs q q' e)
bones_part us zs (fors s at o p q r) _ e = cc
bones_part us zs (does s at ws wa o p semicolon {xs = x} {ys = y} q r) (does s' at' ws' wa' o' p' semicolon' {xs = x'} {ys = y'} q' r') e =
    let i = append_three (word w.Do s at ∷ x) (word w.While ws wa ∷ Mark m.OpenParen o ∷ y) (Mark m.CloseParen p ∷ Mark m.Semicolon semicolon ∷ []) us in
    let j = append_three (word w.Do s' at' ∷ x') (word w.While ws' wa' ∷ Mark m.OpenParen o' ∷ y') (Mark m.CloseParen p' ∷ Mark m.Semicolon semicolon' ∷ []) zs in
    let k = sym i ∙ e ∙ j in
    same (do_end ws wa o p semicolon ws' wa' o' p' semicolon' us zs r r' (bones_part _ _ q q' cc))
bones_part us zs (does s at ws wa o p semicolon q r) _ e = cc
bones_part us zs (ifs s at o p {ys = y} q r) (ifs s' at' o' p' {ys = y'} q' r') e = bones_part us zs r r' (head_same (word w.If s at) (word w.If s' at') o p o' p' y y' us zs q q' e)
bones_part us zs (ifs s at o p {ys = y'} q r) (if_elses s' at' o' p' es ea {xs = x} {ys = y} {zs = z} q' r' f) e =
    if_beside es ea z us zs
    (bones_part us (word w.Else es ea ∷ z ++ zs) r r' (head_same (word w.If s at) (word w.If s' at') o p o' p' y' y us (word w.Else es ea ∷ z ++ zs) q q' (e ∙ else_front s' at' o' p' es ea x y z zs)))
bones_part us zs (ifs s at o p q r) _ e = cc
bones_part us zs (if_elses s at o p es ea {xs = x} {ys = y} {zs = z} q r f) (ifs s' at' o' p' {ys = y'} q' r') e =
    flip (if_beside es ea z zs us
    (flip (bones_part (word w.Else es ea ∷ z ++ us) zs r r'
    (head_same (word w.If s at) (word w.If s' at') o p o' p' y y' (word w.Else es ea ∷ z ++ us) zs q q' (sym (else_front s at o p es ea x y z us) ∙ e)))))
bones_part us zs (if_elses s at o p es ea {xs = x} {ys = y} {zs = z} q r f) (if_elses s' at' o' p' es' ea' {xs = x'} {ys = y'} {zs = z'} q' r' f') e =
    bones_part us zs f f'
    (before_else es ea es' ea' (z ++ us) (z' ++ zs)
    (bones_part (word w.Else es ea ∷ z ++ us) (word w.Else es' ea' ∷ z' ++ zs) r r'
    (head_same (word w.If s at) (word w.If s' at') o p o' p' y y' (word w.Else es ea ∷ z ++ us) (word w.Else es' ea' ∷ z' ++ zs) q q'
    (sym (else_front s at o p es ea x y z us) ∙ e ∙ else_front s' at' o' p' es' ea' x' y' z' zs))))
bones_part us zs (if_elses s at o p es ea q r f) _ e = cc
