-- Statements without statements inside, and `else`.
use Rattle.std.proofs.Common.{◌≡◌, ℕ, suc, drop, add-one, drop-cons, ◌-◌, ◌+◌, ◌≤◌, ◌<◌, max, Bool, true, false, List, [], ◌∷◌, ◌++◌, length, refl, sym, ◌∙◌, ap, subst, inl, inr, arith, append_assoc, get_or}
use Rattle.std.specs.Prelude.{not, ◌||◌, Option, Some, None, ◌⊎◌, slice_get}
use Rattle.std.proofs.lemmas.List.{drop_all}
use Rattle.std.proofs.lemmas.Option.{slice_get_cases, slice_get_within, get_or_from_slice_get}
use Rattle.tb_scan.specs.declared.token.Token.{Token}
use Rattle.tb_tree.specs.declared.marks.Mark.TheVariants as m
use Rattle.tb_tree.specs.declared.words.Word.TheVariants as words
use Rattle.tb_tree.specs.declared.exprs.Expr.{Expr}
use Rattle.tb_tree.specs.declared.exprs.Block.{Block}
use Rattle.tb_tree.specs.declared.exprs.Stmt.{Stmt}
use Rattle.tb_tree.specs.declared.exprs.Stmt.TheVariants as stmt
use Rattle.tb_tree.specs.Sym.{Sym, Mark, at_of}
use Rattle.tb_tree.specs.Shapes.{word, start_of}
use Rattle.tb_tree.specs.Longest.{Found, Lacks, Starts, Never}
use Rattle.tb_tree.specs.Exprs.{Around, a_loop, begins_with_brace}
use Rattle.tb_tree.specs.Exprs as g
use Rattle.tb_tree.proofs.Ends.{exact, never, wider, starts_by, under_both, both}
use Rattle.tb_parse_type.specs.declared.symbols.Symbol.{Symbol}
use Rattle.tb_parse_type.specs.declared.symbols.Symbol.TheVariants as s
use Rattle.tb_parse_type.specs.Symbols.{spelled, symbol_of, placed, symbols}
use Rattle.tb_parse_type.specs.declared.reader.Reader.{Reader}
use Rattle.tb_parse_type.specs.Reading.{rest, text_at, start_at, start_by, Stands}
use Rattle.tb_parse_type.specs.Rules.{MarkRule}
use Rattle.tb_parse_body.specs.declared.fronts.Front.{Front}
use Rattle.tb_parse_body.specs.declared.fronts.StmtFront.{StmtFront}
use Rattle.tb_parse_body.specs.declared.stmts.BoxedStmtFront.{BoxedStmtFront}
use Rattle.tb_parse_body.specs.Rules.{Deep, StmtUpto, BlockUpto, SentenceUpto, EndedUpto, InStmt, begins_other, begins_other_stmt}
use Rattle.tb_parse_body.specs.Reading.{ReadsStmt, Closes}
use Rattle.tb_parse_body.specs.Elses.{ElseUpto, ReadsElse, ReadsBoxed, unboxed}
use Rattle.tb_parse_body.proofs.Beginnings.{expr_first, no_brace}
use Rattle.tb_parse_body.proofs.FirstSymbols.{Image, ClosesBy, two_exact, two_by, Covers, found_by, lacks_by, given_found, not_given, given_lacks, image_found, image_lacks, mark_found, mark_lacks, closes_of, Behind, by_first, stmt_behind, stmt_lacks, return_of, throw_of, block_of, sentence_of, break_of, continue_of}
use Rattle.tb_parse_body.proofs.Loops.{exact_reads}

-- ---- `else`

pub else_open : (around : Around) (n : ℕ) (closed : Bool) (xs : List Sym) → closed ≡ false → Lacks (ElseUpto around n closed) xs
else_open around n closed xs e = record { none = λ a y us d w. let p : true ≡ false = sym d.0 ∙ e in cc }

pub else_absent : (around : Around) (n : ℕ) (closed : Bool) (xs : List Sym) → ((s : List ℕ) (p : ℕ) (zs : List Sym) → xs ≡ word words.Else s p ∷ zs → ⊥) → Lacks (ElseUpto around n closed) xs
else_absent around n closed xs h = record { none = λ a y us d w. h d.1 d.2 (d.3 ++ us) (w ∙ ap (λ v. v ++ us) d.4) }

pub else_reads : (around : Around) (n : ℕ) (closed : Bool) (r : Reader) (at : ℕ) (o : Option BoxedStmtFront) → closed ≡ true → Stands r at (word words.Else (text_at r at) (start_at r at)) → ReadsBoxed around n r (at + 1) o
    → ReadsElse around n closed r at o
else_reads around n closed r at None e i h = record {
  none = λ a y us d w.
      let k : word words.Else (text_at r at) (start_at r at) ∷ rest r (at + 1) ≡ word words.Else d.1 d.2 ∷ (d.3 ++ us) = sym i.2 ∙ w ∙ ap (λ v. v ++ us) d.4 in
      h.none d.3 y us d.5 cc;
}
else_reads around n closed r at (Some x) e i h = (e, i, h)

pub boxed_in : (from to : Around) (n : ℕ) (r : Reader) (at : ℕ) (o : Option BoxedStmtFront) (x : BoxedStmtFront) → from ≡ to → o ≡ Some x → ReadsBoxed from n r at o → ReadsStmt to n r at (Some (unboxed x))
boxed_in from to n r at o x e i h = subst (λ (a : Around). ReadsBoxed a n r at (Some x)) e (subst (λ v. ReadsBoxed from n r at v) i h)

pub no_boxed_in : (from to : Around) (n : ℕ) (r : Reader) (at : ℕ) (o : Option BoxedStmtFront) → from ≡ to → o ≡ None → ReadsBoxed from n r at o → Lacks (StmtUpto to false n) (rest r at)
no_boxed_in from to n r at o e i h = subst (λ (a : Around). Lacks (StmtUpto a false n) (rest r at)) e (subst (λ v. ReadsBoxed from n r at v) i h)

pub else_none : (around : Around) (n : ℕ) (closed : Bool) (r : Reader) (at : ℕ) (o : Option BoxedStmtFront) → o ≡ None → ReadsElse around n closed r at o → Lacks (ElseUpto around n closed) (rest r at)
else_none around n closed r at o e h = subst (λ v. ReadsElse around n closed r at v) e h

pub else_some : (around : Around) (n : ℕ) (closed : Bool) (r : Reader) (at : ℕ) (o : Option BoxedStmtFront) (x : BoxedStmtFront) → o ≡ Some x → ReadsElse around n closed r at o → ReadsElse around n closed r at (Some x)
else_some around n closed r at o x e h = subst (λ v. ReadsElse around n closed r at v) e h

pub not_true : (b : Bool) → not b ≡ true → b ≡ false
not_true true e = cc
not_true false e = refl

pub not_false : (b : Bool) → not b ≡ false → b ≡ true
not_false true e = refl
not_false false e = cc

-- ---- answers about what surrounds a statement

pub reading_in : (from to : Around) (n : ℕ) (r : Reader) (at : ℕ) (o : Option StmtFront) (x : StmtFront) → from ≡ to → o ≡ Some x → ReadsStmt from n r at o → ReadsStmt to n r at (Some x)
reading_in from to n r at o x e i h = subst (λ (a : Around). ReadsStmt a n r at (Some x)) e (subst (λ v. ReadsStmt from n r at v) i h)

pub lacking_in : (from to : Around) (n : ℕ) (r : Reader) (at : ℕ) (o : Option StmtFront) → from ≡ to → o ≡ None → ReadsStmt from n r at o → Lacks (StmtUpto to false n) (rest r at)
lacking_in from to n r at o e i h = subst (λ (a : Around). Lacks (StmtUpto a false n) (rest r at)) e (subst (λ v. ReadsStmt from n r at v) i h)

-- ---- statements that are read as a whole

whole_reads : (around : Around) (n : ℕ) (r : Reader) (at : ℕ) (P : List Sym → Deep Stmt → Type 0) (x : Deep Stmt) (next : ℕ) → next ≤ length r.tokens.now
    → ((closed : Bool) (a us : List Sym) (y : Deep Stmt) → rest r at ≡ a ++ us → P a y → StmtUpto around closed n a y)
    → ((closed : Bool) → Covers P (StmtUpto around closed n) (rest r at))
    → Found P Never (rest r at) x (rest r next) → ReadsStmt around n r at (Some (record { tree = x.0; depth = x.1; next = next; closed = true }))
whole_reads around n r at P x next h forth back f = (
  (h, wider (λ y k. absurd k) (found_by (λ a w d. forth false a (rest r next) x w d) (back false) f)),
  closes_of (two_by {D = λ closed. P} {E = λ o. StmtUpto around o n} (λ a w d. forth true a (rest r next) x w d) (back true) (two_exact f)),
)

-- a block

block_back : (around : Around) (n : ℕ) (closed : Bool) (p : ℕ) {xs vs : List Sym} → xs ≡ Mark m.OpenBrace p ∷ vs → Covers (Image block_of (BlockUpto around n)) (StmtUpto around closed n) xs
block_back around n closed p e a u us d w =
    let k = stmt_behind around n (Mark m.OpenBrace p) closed e refl a u us d w in
    subst (λ v. Image block_of (BlockUpto around n) v u) (sym k.1) k.2

pub block_reads : (around : Around) (n p : ℕ) (r : Reader) (at : ℕ) (x : Deep Block) (next : ℕ) {vs : List Sym} → rest r at ≡ Mark m.OpenBrace p ∷ vs → next ≤ length r.tokens.now
    → Found (BlockUpto around n) Never (rest r at) x (rest r next) → ReadsStmt around n r at (Some (record { tree = stmt.Block x.0; depth = x.1; next = next; closed = true }))
block_reads around n p r at x next e h f =
    whole_reads around n r at (Image block_of (BlockUpto around n)) (block_of x) next h
    (λ closed a us y w d. subst (λ (v : Deep Stmt). StmtUpto around closed n a v) d.2 (g.block_stmt d.1.0, d.1.1))
    (λ closed. block_back around n closed p e) (image_found block_of f)

pub block_lacks : (around : Around) (n p : ℕ) {xs vs : List Sym} → xs ≡ Mark m.OpenBrace p ∷ vs → Lacks (BlockUpto around n) xs → Lacks (StmtUpto around false n) xs
block_lacks around n p e f = lacks_by (block_back around n false p e) (image_lacks block_of f)

-- `Expr ;`

first_other : (xs b : List Sym) (z : Sym) → begins_other_stmt xs ≡ false → xs ≡ z ∷ b → begins_other z ≡ false
first_other xs b z h e = sym (ap begins_other_stmt e) ∙ h

sentence_back : (around : Around) (n : ℕ) (closed : Bool) (xs : List Sym) → begins_other_stmt xs ≡ false → Covers (Image (sentence_of (start_of xs)) (SentenceUpto n)) (StmtUpto around closed n) xs
sentence_back around n closed xs h a u us d w =
    let p = by_first n d.0 d.1 in
    let whole : xs ≡ p.0 ∷ (p.1 ++ us) = w ∙ ap (λ v. v ++ us) p.2 in
    let no : begins_other p.0 ≡ false = first_other xs (p.1 ++ us) p.0 h whole in
    let same : start_of a ≡ start_of xs = ap start_of p.2 ∙ sym (ap start_of whole) in
    elim p.3 [
      | inl k ↦ let q : true ≡ false = sym k.0 ∙ no in absurd (let o : true ≡ false = q in cc)
      | inr k ↦ subst (λ (o : ℕ). Image (sentence_of o) (SentenceUpto n) a u) same k.1
    ]

sentence_forth : (around : Around) (n : ℕ) (closed : Bool) (xs a us : List Sym) (y : Deep Stmt) → begins_other_stmt xs ≡ false → xs ≡ a ++ us → Image (sentence_of (start_of xs)) (SentenceUpto n) a y
    → StmtUpto around closed n a y
sentence_forth around n closed xs a us y h w d =
    let k = d.1 in
    let p = expr_first k.3 in
    let front : a ≡ p.0 ∷ (p.1 ++ (Mark m.Semicolon k.0 ∷ [])) = k.2 ∙ ap (λ v. v ++ (Mark m.Semicolon k.0 ∷ [])) p.2 in
    let whole : xs ≡ p.0 ∷ ((p.1 ++ (Mark m.Semicolon k.0 ∷ [])) ++ us) = w ∙ ap (λ v. v ++ us) front in
    let no : begins_other p.0 ≡ false = first_other xs _ p.0 h whole in
    let brace : begins_with_brace k.1 ≡ false = ap begins_with_brace p.2 ∙ no_brace p.0 p.1 no in
    let same : start_of xs ≡ start_of k.1 = ap start_of whole ∙ sym (ap start_of p.2) in
    under_both (λ (v : List Sym) (t : Deep Stmt). StmtUpto around closed n v t) k.2 (sym d.2 ∙ both (ap (λ (o : ℕ). stmt.Expr o d.0.0) same) refl) (g.expr_stmt k.0 brace k.3, k.4)

pub sentence_reads : (around : Around) (n : ℕ) (r : Reader) (at : ℕ) (x : Deep Expr) (next : ℕ) → begins_other_stmt (rest r at) ≡ false → next ≤ length r.tokens.now
    → Found (SentenceUpto n) Never (rest r at) x (rest r next) → ReadsStmt around n r at (Some (record { tree = stmt.Expr (start_of (rest r at)) x.0; depth = x.1; next = next; closed = true }))
sentence_reads around n r at x next e h f =
    whole_reads around n r at (Image (sentence_of (start_of (rest r at))) (SentenceUpto n)) (sentence_of (start_of (rest r at)) x) next h
    (λ closed a us y w d. sentence_forth around n closed (rest r at) a us y e w d)
    (λ closed. sentence_back around n closed (rest r at) e) (image_found (sentence_of (start_of (rest r at))) f)

pub sentence_lacking : (around : Around) (n : ℕ) (xs : List Sym) → begins_other_stmt xs ≡ false → Lacks (SentenceUpto n) xs → Lacks (StmtUpto around false n) xs
sentence_lacking around n xs e f = lacks_by (sentence_back around n false xs e) (image_lacks (sentence_of (start_of xs)) f)

-- ---- behind a word

module _ (around : Around) (n : ℕ) (spelled : List ℕ) (place : ℕ) where
  pub return_outside : {xs vs : List Sym} → xs ≡ word words.Return spelled place ∷ vs → around.in_body ≡ false → Lacks (StmtUpto around false n) xs
  return_outside e i = stmt_lacks around n (word words.Return spelled place) e refl (not_given _ _ (λ h. let p : true ≡ false = sym h ∙ i in cc))

  pub return_lacks : {xs vs : List Sym} → xs ≡ word words.Return spelled place ∷ vs → Lacks (EndedUpto m.Semicolon n) vs → Lacks (StmtUpto around false n) xs
  return_lacks e f = stmt_lacks around n (word words.Return spelled place) e refl (given_lacks (around.in_body ≡ true) (image_lacks (return_of place) f))

  pub return_reads : (r : Reader) (at : ℕ) (x : Deep (Option Expr)) (next : ℕ) → rest r at ≡ word words.Return spelled place ∷ rest r (at + 1) → around.in_body ≡ true → next ≤ length r.tokens.now
      → Found (EndedUpto m.Semicolon n) Never (rest r (at + 1)) x (rest r next) → ReadsStmt around n r at (Some (record { tree = stmt.Return place x.0; depth = x.1; next = next; closed = true }))
  return_reads r at x next e i h f = exact_reads around n (word words.Return spelled place) r at _ (return_of place x) next e refl h refl (given_found i (image_found (return_of place) f))

  pub break_outside : {xs vs : List Sym} → xs ≡ word words.Break spelled place ∷ vs → (around.in_loop || around.in_switch) ≡ false → Lacks (StmtUpto around false n) xs
  break_outside e i = stmt_lacks around n (word words.Break spelled place) e refl (not_given _ _ (λ h. let p : true ≡ false = sym h ∙ i in cc))

  pub break_lacks : {xs vs : List Sym} → xs ≡ word words.Break spelled place ∷ vs → ((at : ℕ) (zs : List Sym) → vs ≡ Mark m.Semicolon at ∷ zs → ⊥) → Lacks (StmtUpto around false n) xs
  break_lacks {vs = vs} e h = stmt_lacks around n (word words.Break spelled place) e refl (given_lacks ((around.in_loop || around.in_switch) ≡ true) (image_lacks (break_of place) (mark_lacks m.Semicolon vs h)))

  pub break_reads : (r : Reader) (at p next : ℕ) → rest r at ≡ word words.Break spelled place ∷ rest r (at + 1) → (around.in_loop || around.in_switch) ≡ true → next ≤ length r.tokens.now
      → rest r (at + 1) ≡ Mark m.Semicolon p ∷ rest r next → ReadsStmt around n r at (Some (record { tree = stmt.Break place; depth = 0; next = next; closed = true }))
  break_reads r at p next e i h f =
      exact_reads around n (word words.Break spelled place) r at _ (break_of place p) next e refl h refl
      (given_found i (image_found (break_of place) (subst (λ v. Found (MarkRule m.Semicolon) Never v p (rest r next)) (sym f) (mark_found m.Semicolon p (rest r next)))))

  pub continue_outside : {xs vs : List Sym} → xs ≡ word words.Continue spelled place ∷ vs → around.in_loop ≡ false → Lacks (StmtUpto around false n) xs
  continue_outside e i = stmt_lacks around n (word words.Continue spelled place) e refl (not_given _ _ (λ h. let p : true ≡ false = sym h ∙ i in cc))

  pub continue_lacks : {xs vs : List Sym} → xs ≡ word words.Continue spelled place ∷ vs → ((at : ℕ) (zs : List Sym) → vs ≡ Mark m.Semicolon at ∷ zs → ⊥) → Lacks (StmtUpto around false n) xs
  continue_lacks {vs = vs} e h = stmt_lacks around n (word words.Continue spelled place) e refl (given_lacks (around.in_loop ≡ true) (image_lacks (continue_of place) (mark_lacks m.Semicolon vs h)))

  pub continue_reads : (r : Reader) (at p next : ℕ) → rest r at ≡ word words.Continue spelled place ∷ rest r (at + 1) → around.in_loop ≡ true → next ≤ length r.tokens.now
      → rest r (at + 1) ≡ Mark m.Semicolon p ∷ rest r next → ReadsStmt around n r at (Some (record { tree = stmt.Continue place; depth = 0; next = next; closed = true }))
  continue_reads r at p next e i h f =
      exact_reads around n (word words.Continue spelled place) r at _ (continue_of place p) next e refl h refl
      (given_found i (image_found (continue_of place) (subst (λ v. Found (MarkRule m.Semicolon) Never v p (rest r next)) (sym f) (mark_found m.Semicolon p (rest r next)))))

  pub throw_lacks : {xs vs : List Sym} → xs ≡ word words.Throw spelled place ∷ vs → Lacks (SentenceUpto n) vs → Lacks (StmtUpto around false n) xs
  throw_lacks e f = stmt_lacks around n (word words.Throw spelled place) e refl (image_lacks (throw_of place) f)

  pub throw_reads : (r : Reader) (at : ℕ) (x : Deep Expr) (next : ℕ) → rest r at ≡ word words.Throw spelled place ∷ rest r (at + 1) → next ≤ length r.tokens.now
      → Found (SentenceUpto n) Never (rest r (at + 1)) x (rest r next) → ReadsStmt around n r at (Some (record { tree = stmt.Throw place x.0; depth = x.1; next = next; closed = true }))
  throw_reads r at x next e h f = exact_reads around n (word words.Throw spelled place) r at _ (throw_of place x) next e refl h refl (image_found (throw_of place) f)

pub empty_reads : (around : Around) (n : ℕ) (place : ℕ) (r : Reader) (at : ℕ) → rest r at ≡ Mark m.Semicolon place ∷ rest r (at + 1) → at + 1 ≤ length r.tokens.now
    → ReadsStmt around n r at (Some (record { tree = stmt.Empty place; depth = 0; next = at + 1; closed = true }))
empty_reads around n place r at e h =
    exact_reads around n (Mark m.Semicolon place) r at _ (stmt.Empty place, 0) (at + 1) e refl h refl (record {
      front = [];
      whole = refl;
      derives = (refl, refl);
      longest = λ a y us d w. inl (sym d.1, w ∙ ap (λ v. v ++ us) d.0);
    })

-- ---- where the symbols from a place on begin

token_at : (ts : List Token) (i : ℕ) (t : Token) → slice_get ts i ≡ Some t → drop i ts ≡ t ∷ drop (i + 1) ts
token_at ts i t h =
    let within : i < length ts = slice_get_within ts i t h in
    rw add-one (drop-cons ts i t within ∙ ap (λ x. x ∷ drop (suc i) ts) (get_or_from_slice_get ts i t t h))

placed_at : (s : Symbol) (w : List ℕ) (o : ℕ) → at_of (placed s w o) ≡ o
placed_at (s.Mark m) w o = refl
placed_at (s.Class k) w o = refl

pub start_is : (r : Reader) (at : ℕ) → start_at r at ≡ start_of (rest r at)
start_is r at = go (slice_get_cases r.tokens.now at).1
  where
    at_token : (t : Token) → slice_get r.tokens.now at ≡ Some t → start_at r at ≡ start_of (rest r at)
    at_token t e =
        let w = spelled r.text.now t in
        let front : rest r at ≡ placed (symbol_of t.kind w) w t.start ∷ rest r (at + 1) = ap (symbols r.text.now) (token_at r.tokens.now at t e) in
        ap start_by e ∙ sym (placed_at (symbol_of t.kind w) w t.start) ∙ ap start_of (sym front)

    go : ((x : Token) × (at < length r.tokens.now) × (slice_get r.tokens.now at ≡ Some x) × (get_or r.tokens.now at x ≡ x)) ⊎ ((length r.tokens.now ≤ at) × (slice_get r.tokens.now at ≡ None))
        → start_at r at ≡ start_of (rest r at)
    go (inl p) = at_token p.0 p.2
    go (inr p) = ap start_by p.1 ∙ ap start_of (sym (ap (symbols r.text.now) (drop_all at r.tokens.now p.0)))
