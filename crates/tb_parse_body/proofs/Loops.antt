-- `if`, `while` and `do` from what was read of them.
use Rattle.std.proofs.Common.{◌≡◌, ℕ, ◌-◌, ◌+◌, ◌≤◌, ◌<◌, max, Bool, true, false, List, [], ◌∷◌, ◌++◌, length, refl, sym, ◌∙◌, ap, subst, inl, inr, arith, append_assoc}
use Rattle.std.specs.Prelude.{Option, Some, None}
use Rattle.tb_tree.specs.declared.marks.Mark.TheVariants as m
use Rattle.tb_tree.specs.declared.words.Word.TheVariants as words
use Rattle.tb_tree.specs.declared.exprs.Expr.{Expr}
use Rattle.tb_tree.specs.declared.exprs.Stmt.{Stmt}
use Rattle.tb_tree.specs.declared.exprs.Stmt.TheVariants as stmt
use Rattle.tb_tree.specs.Sym.{Sym, Mark}
use Rattle.tb_tree.specs.Shapes.{word}
use Rattle.tb_tree.specs.Longest.{Found, Lacks, Starts, Never}
use Rattle.tb_tree.specs.Exprs.{Around, a_loop}
use Rattle.tb_tree.proofs.Ends.{exact, never, wider, starts_by, under_both}
use Rattle.tb_parse_type.specs.declared.reader.Reader.{Reader}
use Rattle.tb_parse_type.specs.Reading.{rest}
use Rattle.tb_parse_type.specs.Rules.{Then}
use Rattle.tb_parse_body.specs.declared.fronts.StmtFront.{StmtFront}
use Rattle.tb_parse_body.specs.declared.stmts.BoxedStmtFront.{BoxedStmtFront}
use Rattle.tb_parse_body.specs.Rules.{Deep, StmtUpto, HeadUpto, InStmt, begins_other}
use Rattle.tb_parse_body.specs.Reading.{ReadsStmt, Closes}
use Rattle.tb_parse_body.specs.Elses.{ElseUpto, ReadsElse}
use Rattle.tb_parse_body.proofs.FirstSymbols.{Image, IfRest, open_rest, full_rest, ClosesBy, two_exact, two_image, two_then, two_given, given_found, given_lacks, not_given, image_found, image_lacks, then_found, then_lacks, then_lacks_second, Apart, apart_never, closes_by, Behind, TailUpto, if_of, while_of, do_of, stmt_lacks, stmt_reads}
use Rattle.tb_parse_body.proofs.Ifs.{opened, if_bare, if_full, if_behind}

pub read_as : (around : Around) (n : ℕ) (r : Reader) (at : ℕ) {t u : Stmt} {d e : ℕ} (next : ℕ) (closed : Bool) → t ≡ u → d ≡ e → ReadsStmt around n r at (Some (record { tree = u; depth = e; next = next; closed = closed }))
    → ReadsStmt around n r at (Some (record { tree = t; depth = d; next = next; closed = closed }))
read_as around n r at next closed p q h = under_both (λ (t : Stmt) (d : ℕ). ReadsStmt around n r at (Some (record { tree = t; depth = d; next = next; closed = closed }))) p q h

pub if_tree : {a b : ℕ} {x y : Expr} {s t : Stmt} {o u : Option Stmt} → a ≡ b → x ≡ y → s ≡ t → o ≡ u → stmt.If a x s o ≡ stmt.If b y t u
if_tree p q r o = cc

pub while_tree : {a b : ℕ} {x y : Expr} {s t : Stmt} → a ≡ b → x ≡ y → s ≡ t → stmt.While a x s ≡ stmt.While b y t
while_tree p q r = cc

pub do_tree : {a b : ℕ} {x y : Expr} {s t : Stmt} → a ≡ b → s ≡ t → x ≡ y → stmt.Do a s x ≡ stmt.Do b t y
do_tree p q r = cc

-- a statement that ends exactly where it does
pub exact_reads : (around : Around) (n : ℕ) (z : Sym) (r : Reader) (at : ℕ) (P : List Sym → Deep Stmt → Type 0) (x : Deep Stmt) (next : ℕ) → rest r at ≡ z ∷ rest r (at + 1) → begins_other z ≡ true → next ≤ length r.tokens.now
    → ◌≡◌ {A = Bool → List Sym → Deep Stmt → Type 0} (λ closed. P) (Behind around n z)
    → Found P Never (rest r (at + 1)) x (rest r next)
    → ReadsStmt around n r at (Some (record { tree = x.0; depth = x.1; next = next; closed = true }))
exact_reads around n z r at P x next e i h s f =
    stmt_reads around n z r at (record { tree = x.0; depth = x.1; next = next; closed = true }) e i h
    (subst (λ (D : Bool → List Sym → Deep Stmt → Type 0). Found (D false) InStmt (rest r (at + 1)) x (rest r next)) s (wider (λ y n. absurd n) f))
    (subst (λ (D : Bool → List Sym → Deep Stmt → Type 0). ClosesBy D (rest r (at + 1)) x (rest r next) true) s (two_exact f))

module _ (around : Around) (n : ℕ) (spelled : List ℕ) (place : ℕ) where
  -- ---- `if`

  pub if_shallow : {xs vs : List Sym} → xs ≡ word words.If spelled place ∷ vs → n ≡ 0 → Lacks (StmtUpto around false n) xs
  if_shallow e i = stmt_lacks around n (word words.If spelled place) e refl (not_given _ _ (λ h. omega (arith, h, i)))

  pub if_lacks_head : {xs vs : List Sym} → xs ≡ word words.If spelled place ∷ vs → Lacks (HeadUpto (n - 1)) vs → Lacks (StmtUpto around false n) xs
  if_lacks_head e f = stmt_lacks around n (word words.If spelled place) e refl (given_lacks (0 < n) (image_lacks (if_of place) (then_lacks (IfRest around (n - 1) false) f)))

  rest_lacks : {xs : List Sym} → Lacks (StmtUpto around false (n - 1)) xs → Lacks (IfRest around (n - 1) false) xs
  rest_lacks {xs = xs} f = record { none = λ a y us d w. go us d w }
    where
      go : {a : List Sym} {y : Deep (Stmt × Option Stmt)} (us : List Sym) → IfRest around (n - 1) false a y → xs ≡ a ++ us → ⊥
      go us (open_rest {xs = a} {then = t} {d = d} q) w = f.none a (t, d) us q w
      go us (full_rest s p {xs = a} {ys = b} {then = t} {d = d} q r) w = f.none a (t, d) (word words.Else s p ∷ b ++ us) (opened q.0, q.1) (w ∙ append_assoc a (word words.Else s p ∷ b) us)

  pub if_lacks_then : {xs vs ys : List Sym} {x : Deep Expr} → xs ≡ word words.If spelled place ∷ vs → Found (HeadUpto (n - 1)) Never vs x ys → Lacks (StmtUpto around false (n - 1)) ys
      → Lacks (StmtUpto around false n) xs
  if_lacks_then e f k =
      stmt_lacks around n (word words.If spelled place) e refl (given_lacks (0 < n) (image_lacks (if_of place) (then_lacks_second (apart_never (IfRest around (n - 1) false)) f (rest_lacks k))))

  pub if_reads : (r : Reader) (at : ℕ) (x : Deep Expr) (next : ℕ) (t : StmtFront) → rest r at ≡ word words.If spelled place ∷ rest r (at + 1) → 0 < n → Found (HeadUpto (n - 1)) Never (rest r (at + 1)) x (rest r next)
      → ReadsStmt around (n - 1) r next (Some t) → ReadsElse around (n - 1) t.closed r t.next None
      → ReadsStmt around n r at (Some (record { tree = stmt.If place x.0 t.tree None; depth = max x.1 t.depth + 1; next = t.next; closed = false }))
  if_reads r at x next t e some f k l =
      let q = if_behind spelled place some f (if_bare around (n - 1) k.0.1 k.1 l) in
      stmt_reads around n (word words.If spelled place) r at (record { tree = stmt.If place x.0 t.tree None; depth = max x.1 t.depth + 1; next = t.next; closed = false }) e refl k.0.0 q.0 q.1

  pub if_else_reads : (r : Reader) (at : ℕ) (x : Deep Expr) (next : ℕ) (t : StmtFront) (s : BoxedStmtFront) → rest r at ≡ word words.If spelled place ∷ rest r (at + 1) → 0 < n
      → Found (HeadUpto (n - 1)) Never (rest r (at + 1)) x (rest r next)
      → ReadsStmt around (n - 1) r next (Some t) → ReadsElse around (n - 1) t.closed r t.next (Some s)
      → ReadsStmt around n r at (Some (record { tree = stmt.If place x.0 t.tree (Some s.tree); depth = max x.1 (max t.depth s.depth) + 1; next = s.next; closed = s.closed }))
  if_else_reads r at x next t s e some f k l =
      let q = if_behind spelled place some f (if_full around (n - 1) _ _ k.0.1 k.1 l.0 l.1.2 l.2.0.1 l.2.1) in
      stmt_reads around n (word words.If spelled place) r at (record { tree = stmt.If place x.0 t.tree (Some s.tree); depth = max x.1 (max t.depth s.depth) + 1; next = s.next; closed = s.closed }) e refl l.2.0.0 q.0 q.1

  -- ---- `while`

  pub while_shallow : {xs vs : List Sym} → xs ≡ word words.While spelled place ∷ vs → n ≡ 0 → Lacks (StmtUpto around false n) xs
  while_shallow e i = stmt_lacks around n (word words.While spelled place) e refl (not_given _ _ (λ h. omega (arith, h, i)))

  pub while_lacks_head : {xs vs : List Sym} → xs ≡ word words.While spelled place ∷ vs → Lacks (HeadUpto (n - 1)) vs → Lacks (StmtUpto around false n) xs
  while_lacks_head e f = stmt_lacks around n (word words.While spelled place) e refl (given_lacks (0 < n) (image_lacks (while_of place) (then_lacks (StmtUpto (a_loop around) false (n - 1)) f)))

  pub while_lacks_body : {xs vs ys : List Sym} {x : Deep Expr} → xs ≡ word words.While spelled place ∷ vs → Found (HeadUpto (n - 1)) Never vs x ys → Lacks (StmtUpto (a_loop around) false (n - 1)) ys
      → Lacks (StmtUpto around false n) xs
  while_lacks_body e f k =
      stmt_lacks around n (word words.While spelled place) e refl (given_lacks (0 < n) (image_lacks (while_of place) (then_lacks_second (apart_never (StmtUpto (a_loop around) false (n - 1))) f k)))

  pub while_reads : (r : Reader) (at : ℕ) (x : Deep Expr) (next : ℕ) (s : StmtFront) → rest r at ≡ word words.While spelled place ∷ rest r (at + 1) → 0 < n
      → Found (HeadUpto (n - 1)) Never (rest r (at + 1)) x (rest r next) → ReadsStmt (a_loop around) (n - 1) r next (Some s)
      → ReadsStmt around n r at (Some (record { tree = stmt.While place x.0 s.tree; depth = max x.1 s.depth + 1; next = s.next; closed = s.closed }))
  while_reads r at x next s e some f k =
      stmt_reads around n (word words.While spelled place) r at (record { tree = stmt.While place x.0 s.tree; depth = max x.1 s.depth + 1; next = s.next; closed = s.closed }) e refl k.0.0
      (given_found some (image_found (while_of place) (then_found (apart_never (StmtUpto (a_loop around) false (n - 1))) f k.0.1)))
      (two_given some (two_image (while_of place) (two_then f (closes_by k.1))))

  -- ---- `do`

  tail_inside : {xs vs a : List Sym} {y : Deep Expr} (s : List ℕ) (p : ℕ) (us : List Sym) (d : TailUpto (n - 1) a y) → xs ≡ word words.While s p ∷ vs → xs ≡ a ++ us → vs ≡ d.3 ++ (Mark m.Semicolon d.2 ∷ us)
  tail_inside {vs = vs} s p us d e w =
      let whole : word words.While s p ∷ vs ≡ word words.While d.0 d.1 ∷ (d.3 ++ (Mark m.Semicolon d.2 ∷ us)) =
      sym e ∙ w ∙ ap (λ v. v ++ us) d.4 ∙ ap (λ v. word words.While d.0 d.1 ∷ v) (append_assoc d.3 (Mark m.Semicolon d.2 ∷ []) us) in
      cc

  tail_found : {xs vs ys : List Sym} {x : Deep Expr} (s : List ℕ) (p q : ℕ) → xs ≡ word words.While s p ∷ vs → Found (HeadUpto (n - 1)) Never vs x (Mark m.Semicolon q ∷ ys) → Found (TailUpto (n - 1)) Never xs x ys
  tail_found {ys = ys} s p q e f = record {
    front = word words.While s p ∷ (f.front ++ (Mark m.Semicolon q ∷ []));
    whole = e ∙ ap (λ v. word words.While s p ∷ v) (f.whole ∙ sym (append_assoc f.front (Mark m.Semicolon q ∷ []) ys));
    derives = (s, p, q, f.front, refl, f.derives);
    longest = λ a y us d w.
        let o = exact f d.3 y (Mark m.Semicolon d.2 ∷ us) d.5 (tail_inside s p us d e w) (λ h. h) in
        inl (o.0, cc);
  }

  tail_lacks_word : (xs : List Sym) → ((s : List ℕ) (p : ℕ) (zs : List Sym) → xs ≡ word words.While s p ∷ zs → ⊥) → Lacks (TailUpto (n - 1)) xs
  tail_lacks_word xs h = record { none = λ a y us d w. h d.0 d.1 ((d.3 ++ (Mark m.Semicolon d.2 ∷ [])) ++ us) (w ∙ ap (λ v. v ++ us) d.4) }

  tail_lacks_head : {xs vs : List Sym} (s : List ℕ) (p : ℕ) → xs ≡ word words.While s p ∷ vs → Lacks (HeadUpto (n - 1)) vs → Lacks (TailUpto (n - 1)) xs
  tail_lacks_head s p e f = record { none = λ a y us d w. f.none d.3 y (Mark m.Semicolon d.2 ∷ us) d.5 (tail_inside s p us d e w) }

  tail_lacks_close : {xs vs ys : List Sym} {x : Deep Expr} (s : List ℕ) (p : ℕ) → xs ≡ word words.While s p ∷ vs → Found (HeadUpto (n - 1)) Never vs x ys
      → ((at : ℕ) (zs : List Sym) → ys ≡ Mark m.Semicolon at ∷ zs → ⊥) → Lacks (TailUpto (n - 1)) xs
  tail_lacks_close s p e f h = record {
    none = λ a y us d w. let o = exact f d.3 y (Mark m.Semicolon d.2 ∷ us) d.5 (tail_inside s p us d e w) (λ h. h) in h d.2 us o.1;
  }

  tail_apart : Apart InStmt (TailUpto (n - 1))
  tail_apart b y us d s =
      let o : InStmt (word words.While d.0 d.1) = subst (λ v. Starts InStmt (v ++ us)) d.4 s in
      let p : false ≡ true = o in
      cc

  pub do_shallow : {xs vs : List Sym} → xs ≡ word words.Do spelled place ∷ vs → n ≡ 0 → Lacks (StmtUpto around false n) xs
  do_shallow e i = stmt_lacks around n (word words.Do spelled place) e refl (not_given _ _ (λ h. omega (arith, h, i)))

  pub do_lacks_body : {xs vs : List Sym} → xs ≡ word words.Do spelled place ∷ vs → Lacks (StmtUpto (a_loop around) false (n - 1)) vs → Lacks (StmtUpto around false n) xs
  do_lacks_body e f = stmt_lacks around n (word words.Do spelled place) e refl (given_lacks (0 < n) (image_lacks (do_of place) (then_lacks (TailUpto (n - 1)) f)))

  do_lacks_tail : {xs vs ys : List Sym} {x : Deep Stmt} → xs ≡ word words.Do spelled place ∷ vs → Found (StmtUpto (a_loop around) false (n - 1)) InStmt vs x ys → Lacks (TailUpto (n - 1)) ys
      → Lacks (StmtUpto around false n) xs
  do_lacks_tail e f k = stmt_lacks around n (word words.Do spelled place) e refl (given_lacks (0 < n) (image_lacks (do_of place) (then_lacks_second tail_apart f k)))

  pub do_lacks_word : {xs vs ys : List Sym} {x : Deep Stmt} → xs ≡ word words.Do spelled place ∷ vs → Found (StmtUpto (a_loop around) false (n - 1)) InStmt vs x ys
      → ((s : List ℕ) (p : ℕ) (zs : List Sym) → ys ≡ word words.While s p ∷ zs → ⊥) → Lacks (StmtUpto around false n) xs
  do_lacks_word {ys = ys} e f h = do_lacks_tail e f (tail_lacks_word ys h)

  pub do_lacks_head : {xs vs ys ws : List Sym} {x : Deep Stmt} (s : List ℕ) (p : ℕ) → xs ≡ word words.Do spelled place ∷ vs → Found (StmtUpto (a_loop around) false (n - 1)) InStmt vs x ys
      → ys ≡ word words.While s p ∷ ws → Lacks (HeadUpto (n - 1)) ws → Lacks (StmtUpto around false n) xs
  do_lacks_head s p e f i k = do_lacks_tail e f (tail_lacks_head s p i k)

  pub do_lacks_close : {xs vs ys ws zs : List Sym} {x : Deep Stmt} {y : Deep Expr} (s : List ℕ) (p : ℕ) → xs ≡ word words.Do spelled place ∷ vs → Found (StmtUpto (a_loop around) false (n - 1)) InStmt vs x ys
      → ys ≡ word words.While s p ∷ ws → Found (HeadUpto (n - 1)) Never ws y zs → ((at : ℕ) (us : List Sym) → zs ≡ Mark m.Semicolon at ∷ us → ⊥) → Lacks (StmtUpto around false n) xs
  do_lacks_close s p e f i k h = do_lacks_tail e f (tail_lacks_close s p i k h)

  pub do_reads : (r : Reader) (at : ℕ) (s : StmtFront) (sp : List ℕ) (p q : ℕ) {ws : List Sym} (x : Deep Expr) (next : ℕ) → rest r at ≡ word words.Do spelled place ∷ rest r (at + 1) → 0 < n
      → ReadsStmt (a_loop around) (n - 1) r (at + 1) (Some s) → rest r s.next ≡ word words.While sp p ∷ ws → Found (HeadUpto (n - 1)) Never ws x (Mark m.Semicolon q ∷ rest r next) → next ≤ length r.tokens.now
      → ReadsStmt around n r at (Some (record { tree = stmt.Do place s.tree x.0; depth = max s.depth x.1 + 1; next = next; closed = true }))
  do_reads r at s sp p q x next e some k i f h =
      exact_reads around n (word words.Do spelled place) r at _ (do_of place ((s.tree, s.depth), x)) next e refl h refl
      (given_found some (image_found (do_of place) (then_found tail_apart k.0.1 (tail_found sp p q i f))))
