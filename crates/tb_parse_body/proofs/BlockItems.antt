-- The items of a block, and a block.
use Rattle.std.proofs.Common.{◌≡◌, ℕ, ◌-◌, ◌+◌, ◌≤◌, ◌<◌, max, Bool, true, false, List, [], ◌∷◌, ◌++◌, length, refl, sym, ◌∙◌, ap, subst, inl, inr, arith, append_assoc}
use Rattle.std.specs.Prelude.{Option, Some, None}
use Rattle.tb_tree.specs.declared.marks.Mark.TheVariants as m
use Rattle.tb_tree.specs.declared.words.Word.{Word}
use Rattle.tb_tree.specs.declared.words.Word.TheVariants as w
use Rattle.tb_tree.specs.declared.words.Class.TheVariants as c
use Rattle.tb_tree.specs.declared.exprs.VarKind.{VarKind}
use Rattle.tb_tree.specs.declared.exprs.Var.{Var}
use Rattle.tb_tree.specs.declared.exprs.Function.{Function}
use Rattle.tb_tree.specs.declared.exprs.Stmt.{Stmt}
use Rattle.tb_tree.specs.declared.exprs.Block.{Block, roll-Block}
use Rattle.tb_tree.specs.declared.exprs.BlockItem.{BlockItem}
use Rattle.tb_tree.specs.declared.exprs.BlockItem.TheVariants as block_item
use Rattle.tb_tree.specs.Sym.{Sym, Mark, Lex}
use Rattle.tb_tree.specs.Shapes.{word}
use Rattle.tb_tree.specs.Longest.{Found, Lacks, Starts, Never}
use Rattle.tb_tree.specs.Exprs.{Around, kind_of, IsBlock, IsBlockItem, IsBlockItems}
use Rattle.tb_tree.specs.Exprs as g
use Rattle.tb_tree.proofs.Ends.{never, wider, under_both}
use Rattle.tb_parse_type.specs.declared.reader.Reader.{Reader}
use Rattle.tb_parse_type.specs.Reading.{rest, FoundAt}
use Rattle.tb_parse_body.specs.declared.fronts.Front.{Front}
use Rattle.tb_parse_body.specs.ItemReadings.{Parted, ReadsItem}
use Rattle.tb_parse_body.specs.Rules.{Deep, VarUpto, FunctionUpto, StmtUpto, BlockItemUpto, BlockItemsUpto, BlockUpto, InItem, InItems, InBody, InStmt, begins_other, is_stmt_word, is_else, is_open_bracket, ends_items}
use Rattle.tb_parse_body.proofs.Beginnings.{begins_expr, word_begins, expr_first}
use Rattle.tb_parse_body.proofs.FirstSymbols.{by_first}
use Rattle.tb_parse_body.proofs.Functions.{no_item_behind_function}
use Rattle.tb_parse_body.proofs.Items.{IsRow, no_items, more_items, RowRule, Follows}
use Rattle.tb_parse_body.proofs.Sequences.{IsBack, found_by, lacks_by, Delimited, in_delimiters, delimited, delimited_lacks_close}

-- ---- what an answer says

pub no_item : (around : Around) (n : ℕ) (r : Reader) (at : ℕ) (o : Option (Front BlockItem)) → o ≡ None → ReadsItem around n r at o → Lacks (BlockItemUpto around n) (rest r at)
no_item around n r at o e h = subst (λ v. ReadsItem around n r at v) e h

pub one_item : (around : Around) (n : ℕ) (r : Reader) (at : ℕ) (o : Option (Front BlockItem)) (x : Front BlockItem) → o ≡ Some x → ReadsItem around n r at o → ReadsItem around n r at (Some x)
one_item around n r at o x e h = subst (λ v. ReadsItem around n r at v) e h

-- ---- which item begins with a symbol: a variable, a function, a statement, or none

abbrev opens_word : Word → ℕ
opens_word w.Const = 0
opens_word w.Let = 0
opens_word w.Function = 1
opens_word w.Else = 3
opens_word w.Case = 3
opens_word w.Default = 3
opens_word _ = 2

abbrev opens : Sym → ℕ
opens (Mark m.CloseBrace at) = 3
opens (Lex (c.Word k) spelled at) = opens_word k
opens _ = 2

-- which item a derivation is of
abbrev tag : {around : Around} {a : List Sym} {of : BlockItem} {d : ℕ} → IsBlockItem true around a of d → ℕ
tag (g.var_item q) = 0
tag (g.function_item q) = 1
tag (g.stmt_item q) = 2

tag_small : {around : Around} {a : List Sym} {of : BlockItem} {d : ℕ} (q : IsBlockItem true around a of d) → tag q ≤ 2
tag_small (g.var_item q) = omega arith
tag_small (g.function_item q) = omega arith
tag_small (g.stmt_item q) = omega arith

kind_opens : (k : Word) (v : VarKind) → kind_of k ≡ Some v → opens_word k ≡ 0
kind_opens w.Const v e = refl
kind_opens w.Let v e = refl
kind_opens _ v e = cc

word_opens : (k : Word) → word_begins k ≡ true → opens_word k ≡ 2
word_opens w.Const e = cc
word_opens w.Let e = cc
word_opens w.Function e = cc
word_opens w.Else e = cc
word_opens w.Case e = cc
word_opens w.Default e = cc
word_opens _ e = refl

expr_opens : (z : Sym) → begins_expr z ≡ true → opens z ≡ 2
expr_opens (Mark m.CloseBrace at) e = cc
expr_opens (Mark _ at) e = refl
expr_opens (Lex (c.Word k) spelled at) e = word_opens k e
expr_opens (Lex _ spelled at) e = refl

stmt_word_opens : (k : Word) → is_stmt_word k ≡ true → opens_word k ≡ 2
stmt_word_opens w.Const e = cc
stmt_word_opens w.Let e = cc
stmt_word_opens w.Function e = cc
stmt_word_opens w.Else e = cc
stmt_word_opens w.Case e = cc
stmt_word_opens w.Default e = cc
stmt_word_opens _ e = refl

other_opens : (z : Sym) → begins_other z ≡ true → opens z ≡ 2
other_opens (Mark m.CloseBrace at) e = cc
other_opens (Mark _ at) e = refl
other_opens (Lex (c.Word k) spelled at) e = stmt_word_opens k e
other_opens (Lex _ spelled at) e = refl

else_opens : (z : Sym) → is_else z ≡ true → opens z ≡ 3
else_opens (Lex (c.Word w.Else) spelled at) e = refl
else_opens _ e = cc

small_in_items : (z : Sym) → opens z ≤ 2 → ends_items z ≡ false
small_in_items (Mark m.CloseBrace at) h = absurd (omega (arith, h))
small_in_items (Lex (c.Word w.Case) spelled at) h = absurd (omega (arith, h))
small_in_items (Lex (c.Word w.Default) spelled at) h = absurd (omega (arith, h))
small_in_items _ h = refl

item_goes : (z : Sym) → InItem z → InItems z
item_goes (Mark m.CloseBrace at) h = let n : false ≡ true = h in cc
item_goes (Lex (c.Word w.Case) spelled at) h = let n : false ≡ true = h in cc
item_goes (Lex (c.Word w.Default) spelled at) h = let n : false ≡ true = h in cc
item_goes _ h = refl

body_item : (z : Sym) → InBody z → InItem z
body_item (Mark m.OpenBracket at) h = refl
body_item _ h = cc

stmt_in_item : (z : Sym) → InStmt z → InItem z
stmt_in_item (Lex (c.Word w.Else) spelled at) h = refl
stmt_in_item _ h = cc

-- the first symbol of an item
stmt_first : {around : Around} {a : List Sym} {of : Stmt} {d : ℕ} → g.IsStmt true around false a of d → (z : Sym) × (b : List Sym) × (a ≡ z ∷ b) × (opens z ≡ 2)
stmt_first {d = d} q =
    let p = by_first d q (omega arith) in (
      p.0,
      p.1,
      p.2,
      elim p.3 [
        | inl k ↦ other_opens p.0 k.0
        | inr k ↦
            let s = k.1.1 in
            let e = expr_first s.3 in
            let whole : p.0 ∷ p.1 ≡ e.0 ∷ (e.1 ++ (Mark m.Semicolon s.0 ∷ [])) = sym p.2 ∙ s.2 ∙ ap (λ v. v ++ (Mark m.Semicolon s.0 ∷ [])) e.2 in
            let same : p.0 ≡ e.0 = cc in ap opens same ∙ expr_opens e.0 e.3
      ],
    )

item_first : {around : Around} {a : List Sym} {of : BlockItem} {d : ℕ} (q : IsBlockItem true around a of d) → (z : Sym) × (b : List Sym) × (a ≡ z ∷ b) × (opens z ≡ tag q)
item_first (g.var_item (g.var {word_kind = k} {kind = v} spelled at semicolon {xs = xs} e q)) = (word k spelled at, xs ++ (Mark m.Semicolon semicolon ∷ []), refl, kind_opens k v e)
item_first (g.function_item (g.function fs fa s at o p n q r b)) = (word w.Function fs fa, _, refl, refl)
item_first (g.stmt_item q) = stmt_first q

-- ---- items of one list are of one kind

abbrev Tagged : Around → List Sym → ℕ → Type 0
Tagged around xs t = (a : List Sym) (of : BlockItem) (d : ℕ) (us : List Sym) (q : IsBlockItem true around a of d) → xs ≡ a ++ us → tag q ≡ t

tagged : {around : Around} {b xs : List Sym} {by : BlockItem} {e : ℕ} (vs : List Sym) (r : IsBlockItem true around b by e) → xs ≡ b ++ vs → Tagged around xs (tag r)
tagged vs r v a of d us q w =
    let i = item_first q in
    let j = item_first r in
    let whole : i.0 ∷ (i.1 ++ us) ≡ j.0 ∷ (j.1 ++ vs) = sym (ap (λ v. v ++ us) i.2) ∙ sym w ∙ v ∙ ap (λ v. v ++ vs) j.2 in
    let same : i.0 ≡ j.0 = cc in sym i.3 ∙ ap opens same ∙ j.3

abbrev pub var_of : Deep Var → Deep BlockItem
var_of r = (block_item.Var r.0, r.1)

abbrev pub function_of : Deep Function → Deep BlockItem
function_of r = (block_item.Function r.0, r.1)

abbrev pub stmt_of : Deep Stmt → Deep BlockItem
stmt_of r = (block_item.Stmt r.0, r.1)

module _ (around : Around) (n : ℕ) where
  as_var : {a : List Sym} {of : BlockItem} {d : ℕ} (q : IsBlockItem true around a of d) → d ≤ n → tag q ≡ 0 → (v : Deep Var) × VarUpto n a v × (var_of v ≡ (of, d))
  as_var (g.var_item {of = of} {d = d} q) h t = ((of, d), (q, h), refl)
  as_var (g.function_item q) h t = absurd (omega (arith, t))
  as_var (g.stmt_item q) h t = absurd (omega (arith, t))

  as_function : {a : List Sym} {of : BlockItem} {d : ℕ} (q : IsBlockItem true around a of d) → d ≤ n → tag q ≡ 1 → (v : Deep Function) × FunctionUpto n a v × (function_of v ≡ (of, d))
  as_function (g.var_item q) h t = absurd (omega (arith, t))
  as_function (g.function_item {of = of} {d = d} q) h t = ((of, d), (q, h), refl)
  as_function (g.stmt_item q) h t = absurd (omega (arith, t))

  as_stmt : {a : List Sym} {of : BlockItem} {d : ℕ} (q : IsBlockItem true around a of d) → d ≤ n → tag q ≡ 2 → (v : Deep Stmt) × StmtUpto around false n a v × (stmt_of v ≡ (of, d))
  as_stmt (g.var_item q) h t = absurd (omega (arith, t))
  as_stmt (g.function_item q) h t = absurd (omega (arith, t))
  as_stmt (g.stmt_item {of = of} {d = d} q) h t = ((of, d), (q, h), refl)

  -- no item begins with `else`
  lacks_else : (us : List Sym) → Starts InStmt us → Lacks (BlockItemUpto around n) us
  lacks_else us s = record {
    none = λ b y zs d w.
        let p = item_first d.0 in
        let e = else_opens p.0 (subst (λ v. Starts InStmt v) (w ∙ ap (λ v. v ++ zs) p.2) s) in omega (arith, e, p.3, tag_small d.0);
  }

  pub item_var : {xs ys : List Sym} {r : Deep Var} → Found (VarUpto n) Never xs r ys → Found (BlockItemUpto around n) InItem xs (var_of r) ys × Parted (BlockItemUpto around n) xs ys
  item_var {xs = xs} {ys = ys} f =
      let t : Tagged around xs 0 = tagged ys (g.var_item f.derives.0) f.whole in
      let back : IsBack var_of (VarUpto n) (BlockItemUpto around n) xs = λ a u us d w. as_var d.0 d.1 (t a u.0 u.1 us d.0 w) in (
        wider (λ s c. absurd c) (found_by var_of (λ a w d. (g.var_item d.0, d.1)) back f),
        record {
          parted = λ a u us d w h.
              let v = back a u us d w in
              elim (f.longest a v.0 us v.1 w) [
                | inl o ↦ absurd (omega (arith, h, ap length o.1))
                | inr o ↦ absurd (never us o.1)
              ];
        },
      )

  pub item_function : {xs ys : List Sym} {r : Deep Function} → Found (FunctionUpto n) InBody xs r ys → Found (BlockItemUpto around n) InItem xs (function_of r) ys × Parted (BlockItemUpto around n) xs ys
  item_function {xs = xs} {ys = ys} f =
      let t : Tagged around xs 1 = tagged ys (g.function_item f.derives.0) f.whole in
      let back : IsBack function_of (FunctionUpto n) (BlockItemUpto around n) xs = λ a u us d w. as_function d.0 d.1 (t a u.0 u.1 us d.0 w) in (
        wider body_item (found_by function_of (λ a w d. (g.function_item d.0, d.1)) back f),
        record {
          parted = λ a u us d w h.
              let v = back a u us d w in
              record { none = λ b y zs e i. no_item_behind_function true us ys zs v.1.0 f.derives.0 (sym w ∙ f.whole) h e.0 i };
        },
      )

  pub item_stmt : {xs ys : List Sym} {r : Deep Stmt} → Found (StmtUpto around false n) InStmt xs r ys → Found (BlockItemUpto around n) InItem xs (stmt_of r) ys × Parted (BlockItemUpto around n) xs ys
  item_stmt {xs = xs} {ys = ys} f =
      let t : Tagged around xs 2 = tagged ys (g.stmt_item f.derives.0) f.whole in
      let back : IsBack stmt_of (StmtUpto around false n) (BlockItemUpto around n) xs = λ a u us d w. as_stmt d.0 d.1 (t a u.0 u.1 us d.0 w) in (
        wider stmt_in_item (found_by stmt_of (λ a w d. (g.stmt_item d.0, d.1)) back f),
        record {
          parted = λ a u us d w h.
              let v = back a u us d w in
              elim (f.longest a v.0 us v.1 w) [
                | inl o ↦ absurd (omega (arith, h, ap length o.1))
                | inr o ↦ lacks_else us o.1
              ];
        },
      )

  pub item_lacks : {xs : List Sym} → Lacks (VarUpto n) xs → Lacks (FunctionUpto n) xs → Lacks (StmtUpto around false n) xs → Lacks (BlockItemUpto around n) xs
  item_lacks {xs = xs} f k l = record { none = λ a u us d w. go us d.0 d.1 w }
    where
      go : {a : List Sym} {of : BlockItem} {d : ℕ} (us : List Sym) → IsBlockItem true around a of d → d ≤ n → xs ≡ a ++ us → ⊥
      go {a = a} us (g.var_item {of = of} {d = d} q) h w = f.none a (of, d) us (q, h) w
      go {a = a} us (g.function_item {of = of} {d = d} q) h w = k.none a (of, d) us (q, h) w
      go {a = a} us (g.stmt_item {of = of} {d = d} q) h w = l.none a (of, d) us (q, h) w

  -- ---- rows of them

  starts_items : (us : List Sym) → Starts InItem us → Starts InItems us
  starts_items [] s = absurd s
  starts_items (z ∷ zs) s = item_goes z s

  pub items_follow : Follows (BlockItemUpto around n) InItem InItems
  items_follow = record {
    starts = λ a x us d.
        let p = item_first d.0 in subst (λ v. Starts InItems (v ++ us)) (sym p.2) (small_in_items p.0 (omega (arith, p.3, tag_small d.0)));
    long = λ a x d. let p = item_first d.0 in omega (arith, ap length p.2);
    goes = starts_items;
  }

  row_items : {a : List Sym} {of : List BlockItem} {d : ℕ} → IsRow (BlockItemUpto around n) a of d → IsBlockItems true around a of d × (d ≤ n)
  row_items no_items = (g.no_block_items, omega arith)
  row_items (more_items q r) = let p = row_items r in (g.more_block_items q.0 p.0, omega (arith, q.1, p.1))

  items_row : {a : List Sym} {of : List BlockItem} {d : ℕ} → IsBlockItems true around a of d → d ≤ n → IsRow (BlockItemUpto around n) a of d
  items_row g.no_block_items h = no_items
  items_row (g.more_block_items q r) h = more_items (q, omega (arith, h)) (items_row r (omega (arith, h)))

  pub items_found : {xs ys : List Sym} {r : Deep (List BlockItem)} → Found (RowRule (BlockItemUpto around n)) InItems xs r ys → Found (BlockItemsUpto around n) InItems xs r ys
  items_found f = found_by (λ r. r) (λ a w d. row_items d) (λ a u us d w. (u, items_row d.0 d.1, refl)) f

  -- ---- a block

  abbrev block_of : ℕ × (Deep (List BlockItem) × ℕ) → Deep Block
  block_of x = (roll-Block (record { at = x.0; items = x.1.0.0 }), x.1.0.1 + 1)

  block_forth : 0 < n → (a : List Sym) (x : ℕ × (Deep (List BlockItem) × ℕ)) → Delimited m.OpenBrace m.CloseBrace (BlockItemsUpto around (n - 1)) a x → BlockUpto around n a (block_of x)
  block_forth some a x d =
      let q = in_delimiters (BlockItemsUpto around (n - 1)) d in
      subst (λ (v : List Sym). BlockUpto around n v (block_of x)) (sym q.1) (g.block x.0 x.1.1 q.2.0, omega (arith, some, q.2.1))

  block_back : (xs : List Sym) → IsBack block_of (Delimited m.OpenBrace m.CloseBrace (BlockItemsUpto around (n - 1))) (BlockUpto around n) xs
  block_back xs a u us d w = go d.0 d.1
    where
      go : {a : List Sym} {of : Block} {d : ℕ} → IsBlock true around a of d → d ≤ n
          → (x : ℕ × (Deep (List BlockItem) × ℕ)) × Delimited m.OpenBrace m.CloseBrace (BlockItemsUpto around (n - 1)) a x × (block_of x ≡ (of, d))
      go (g.block o p {xs = xs} {of = of} {d = d} q) h =
          ((o, ((of, d), p)), (Mark m.OpenBrace o ∷ [], xs ++ Mark m.CloseBrace p ∷ [], refl, refl, (xs, Mark m.CloseBrace p ∷ [], refl, (q, omega (arith, h)), refl)), refl)

  block_end : (at : ℕ) → InItems (Mark m.CloseBrace at) → ⊥
  block_end at h = let e : true ≡ false = h in cc

  pub block_found : {r : Deep (List BlockItem)} {xs : List Sym} (o p : ℕ) (ys : List Sym) → 0 < n → Found (BlockItemsUpto around (n - 1)) InItems xs r (Mark m.CloseBrace p ∷ ys)
      → Found (BlockUpto around n) Never (Mark m.OpenBrace o ∷ xs) (roll-Block (record { at = o; items = r.0 }), r.1 + 1) ys
  block_found {r = r} {xs = xs} o p ys some f = found_by block_of (λ a w d. block_forth some a (o, (r, p)) d) (block_back (Mark m.OpenBrace o ∷ xs)) (delimited o p ys block_end f)

  pub block_lacks : {r : Deep (List BlockItem)} {xs ys : List Sym} (o : ℕ) → Found (BlockItemsUpto around (n - 1)) InItems xs r ys → ((at : ℕ) (zs : List Sym) → ys ≡ Mark m.CloseBrace at ∷ zs → ⊥)
      → Lacks (BlockUpto around n) (Mark m.OpenBrace o ∷ xs)
  block_lacks {xs = xs} o f h = lacks_by block_of (block_back (Mark m.OpenBrace o ∷ xs)) (delimited_lacks_close o block_end f h)

  pub block_lacks_open : (xs : List Sym) → ((o : ℕ) (zs : List Sym) → xs ≡ Mark m.OpenBrace o ∷ zs → ⊥) → Lacks (BlockUpto around n) xs
  block_lacks_open xs h = record { none = λ a u us d w. go us d.0 w }
    where
      go : {a : List Sym} {of : Block} {d : ℕ} (us : List Sym) → IsBlock true around a of d → xs ≡ a ++ us → ⊥
      go us (g.block o p {xs = ys} q) w = h o (ys ++ Mark m.CloseBrace p ∷ [] ++ us) w
