-- Statements by their first symbol, and how the readings of their parts make theirs.
use Rattle.std.proofs.Common.{◌≡◌, ℕ, ◌-◌, ◌+◌, ◌≤◌, ◌<◌, max, Bool, true, false, List, [], ◌∷◌, ◌++◌, length, refl, sym, ◌∙◌, ap, subst, inl, inr, arith, append_assoc}
use Rattle.std.specs.Prelude.{◌⊎◌, ◌||◌, Option, Some, None}
use Rattle.tb_tree.specs.declared.marks.Mark.{Mark as MarkKind}
use Rattle.tb_tree.specs.declared.marks.Mark.TheVariants as m
use Rattle.tb_tree.specs.declared.words.Word.{Word}
use Rattle.tb_tree.specs.declared.words.Word.TheVariants as w
use Rattle.tb_tree.specs.declared.words.Class.TheVariants as c
use Rattle.tb_tree.specs.declared.exprs.Expr.{Expr}
use Rattle.tb_tree.specs.declared.exprs.Block.{Block}
use Rattle.tb_tree.specs.declared.exprs.Clause.{Clause}
use Rattle.tb_tree.specs.declared.exprs.Stmt.{Stmt}
use Rattle.tb_tree.specs.declared.exprs.Stmt.TheVariants as stmt
use Rattle.tb_tree.specs.declared.exprs.ForStart.TheVariants as start
use Rattle.tb_tree.specs.Sym.{Sym, Mark, Lex, at_of}
use Rattle.tb_tree.specs.Shapes.{word, start_of}
use Rattle.tb_tree.specs.Longest.{Found, Lacks, Ends, Starts, Never}
use Rattle.tb_tree.specs.Exprs.{Around, a_loop, a_switch, begins_with_brace, IsStmt, IsOptional, no_expr, some_expr, IsBlock}
use Rattle.tb_tree.specs.Exprs as g
use Rattle.tb_tree.proofs.Ends.{exact, shorter, both, never, under_both, found_from, lacks_from}
use Rattle.tb_parse_type.specs.declared.reader.Reader.{Reader}
use Rattle.tb_parse_type.specs.Reading.{rest, FoundAt, Stands}
use Rattle.tb_parse_type.specs.Rules.{Then, MarkRule}
use Rattle.tb_parse_body.specs.declared.fronts.Front.{Front}
use Rattle.tb_parse_body.specs.declared.fronts.StmtFront.{StmtFront}
use Rattle.tb_parse_body.specs.declared.fors.ForHead.{ForHead}
use Rattle.tb_parse_body.specs.declared.fors.OfHead.{OfHead}
use Rattle.tb_parse_body.specs.Rules.{Deep, ExprUpto, StmtUpto, BlockUpto, HeadUpto, EndedUpto, SentenceUpto, OfHeadUpto, ForHeadUpto, BracedClausesUpto, begins_other, begins_other_stmt, InExpr, InStmt, is_end}
use Rattle.tb_parse_body.specs.Reading.{Reads, ReadsStmt, Closes}
use Rattle.tb_parse_body.proofs.Beginnings.{begins_expr, expr_first, expr_not_other, no_brace, end_no_start}

-- ---- what an answer says

pub lacking : {X : Type 0} (D : List Sym → Deep X → Type 0) (C : Sym → Type 0) (r : Reader) (at : ℕ) (o : Option (Front X)) → o ≡ None → Reads D C r at o → Lacks D (rest r at)
lacking D C r at o e h = subst (λ v. Reads D C r at v) e h

pub reading : {X : Type 0} (D : List Sym → Deep X → Type 0) (C : Sym → Type 0) (r : Reader) (at : ℕ) (o : Option (Front X)) (x : Front X) → o ≡ Some x → Reads D C r at o
    → FoundAt D C r at (x.tree, x.depth) x.next
reading D C r at o x e h = subst (λ v. Reads D C r at v) e h

pub lacking_stmt : (around : Around) (n : ℕ) (r : Reader) (at : ℕ) (o : Option StmtFront) → o ≡ None → ReadsStmt around n r at o → Lacks (StmtUpto around false n) (rest r at)
lacking_stmt around n r at o e h = subst (λ v. ReadsStmt around n r at v) e h

pub reading_stmt : (around : Around) (n : ℕ) (r : Reader) (at : ℕ) (o : Option StmtFront) (x : StmtFront) → o ≡ Some x → ReadsStmt around n r at o → ReadsStmt around n r at (Some x)
reading_stmt around n r at o x e h = subst (λ v. ReadsStmt around n r at v) e h

-- ---- a rule under a function of its trees

abbrev pub Image : {X Y : Type 0} → (X → Y) → (List Sym → X → Type 0) → List Sym → Y → Type 0
Image {X = X} f D a y = (x : X) × D a x × (f x ≡ y)

pub image_found : {X Y : Type 0} (f : X → Y) {D : List Sym → X → Type 0} {C : Sym → Type 0} {xs ys : List Sym} {x : X} → Found D C xs x ys → Found (Image f D) C xs (f x) ys
image_found f {x = x} q = record {
  front = q.front;
  whole = q.whole;
  derives = (x, q.derives, refl);
  longest = λ a u us d w. elim (q.longest a d.0 us d.1 w) [
    | inl o ↦ inl (ap f o.0 ∙ d.2, o.1)
    | inr o ↦ inr o
  ];
}

pub image_lacks : {X Y : Type 0} (f : X → Y) {D : List Sym → X → Type 0} {xs : List Sym} → Lacks D xs → Lacks (Image f D) xs
image_lacks f q = record { none = λ a u us d w. q.none a d.0 us d.1 w }

-- a rule under a condition

pub given_found : {X G : Type 0} {D : List Sym → X → Type 0} {C : Sym → Type 0} {xs ys : List Sym} {x : X} → G → Found D C xs x ys → Found (λ a r. G × D a r) C xs x ys
given_found i q = record {
  front = q.front;
  whole = q.whole;
  derives = (i, q.derives);
  longest = λ a u us d w. q.longest a u us d.1 w;
}

pub given_lacks : {X : Type 0} (G : Type 0) {D : List Sym → X → Type 0} {xs : List Sym} → Lacks D xs → Lacks (λ a r. G × D a r) xs
given_lacks G q = record { none = λ a u us d w. q.none a u us d.1 w }

pub not_given : {X : Type 0} {G : Type 0} (D : List Sym → X → Type 0) (xs : List Sym) → (G → ⊥) → Lacks (λ a r. G × D a r) xs
not_given D xs h = record { none = λ a u us d w. h d.0 }

-- one rule is another, for the fronts of a list

abbrev pub Covers : {X : Type 0} → (List Sym → X → Type 0) → (List Sym → X → Type 0) → List Sym → Type 0
Covers {X = X} D E xs = (a : List Sym) (u : X) (us : List Sym) → E a u → xs ≡ a ++ us → D a u

pub found_by : {X : Type 0} {D E : List Sym → X → Type 0} {C : Sym → Type 0} {xs ys : List Sym} {x : X} → ((a : List Sym) → xs ≡ a ++ ys → D a x → E a x) → Covers D E xs
    → Found D C xs x ys → Found E C xs x ys
found_by forth back q = record {
  front = q.front;
  whole = q.whole;
  derives = forth q.front q.whole q.derives;
  longest = λ a u us d w. q.longest a u us (back a u us d w) w;
}

pub lacks_by : {X : Type 0} {D E : List Sym → X → Type 0} {xs : List Sym} → Covers D E xs → Lacks D xs → Lacks E xs
lacks_by back q = record { none = λ a u us d w. q.none a u us (back a u us d w) w }

-- ---- one rule, and another behind it

-- what E derives does not begin as a reading of the rule before it goes on
abbrev pub Apart : {Y : Type 0} → (Sym → Type 0) → (List Sym → Y → Type 0) → Type 0
Apart {Y = Y} C E = (b : List Sym) (y : Y) (us : List Sym) → E b y → Starts C (b ++ us) → ⊥

pub apart_never : {Y : Type 0} (E : List Sym → Y → Type 0) → Apart Never E
apart_never E b y us d s = never (b ++ us) s

pub then_found : {X Y : Type 0} {D : List Sym → X → Type 0} {E : List Sym → Y → Type 0} {C F : Sym → Type 0} {xs ys zs : List Sym} {x : X} {y : Y}
    → Apart C E → Found D C xs x ys → Found E F ys y zs → Found (Then D E) F xs (x, y) zs
then_found {X = X} {Y = Y} {D = D} {E = E} {C = C} {F = F} {xs = xs} {ys = ys} {zs = zs} {x = x} {y = y} h f k = record {
  front = f.front ++ k.front;
  whole = f.whole ∙ ap (λ v. f.front ++ v) k.whole ∙ sym (append_assoc f.front k.front zs);
  derives = (f.front, k.front, refl, f.derives, k.derives);
  longest = λ a r us d w. go r us d (w ∙ ap (λ v. v ++ us) d.2 ∙ append_assoc d.0 d.1 us);
}
  where
    go : {a : List Sym} (r : X × Y) (us : List Sym) (d : Then D E a r) → xs ≡ d.0 ++ (d.1 ++ us) → Ends {X = X × Y} F (x, y) zs r us
    go r us d w =
        let p = exact f d.0 r.0 (d.1 ++ us) d.3 w (h d.1 r.1 us d.4) in
        elim (k.longest d.1 r.1 us d.4 p.1) [
          | inl q ↦ inl (both p.0 q.0, q.1)
          | inr q ↦ inr q
        ]

pub then_lacks : {X Y : Type 0} {D : List Sym → X → Type 0} (E : List Sym → Y → Type 0) {xs : List Sym} → Lacks D xs → Lacks (Then D E) xs
then_lacks E f = record { none = λ a r us d w. f.none d.0 r.0 (d.1 ++ us) d.3 (w ∙ ap (λ v. v ++ us) d.2 ∙ append_assoc d.0 d.1 us) }

pub then_lacks_second : {X Y : Type 0} {D : List Sym → X → Type 0} {E : List Sym → Y → Type 0} {C : Sym → Type 0} {xs ys : List Sym} {x : X}
    → Apart C E → Found D C xs x ys → Lacks E ys → Lacks (Then D E) xs
then_lacks_second h f k = record {
  none = λ a r us d w.
      let p = exact f d.0 r.0 (d.1 ++ us) d.3 (w ∙ ap (λ v. v ++ us) d.2 ∙ append_assoc d.0 d.1 us) (h d.1 r.1 us d.4) in
      k.none d.1 r.1 us d.4 p.1;
}

pub mark_found : (kind : MarkKind) (at : ℕ) (ys : List Sym) → Found (MarkRule kind) Never (Mark kind at ∷ ys) at ys
mark_found kind at ys = record {
  front = Mark kind at ∷ [];
  whole = refl;
  derives = refl;
  longest = λ a y us d w. let e : Mark kind at ∷ ys ≡ Mark kind y ∷ us = w ∙ ap (λ v. v ++ us) d in inl (cc, cc);
}

pub mark_lacks : (kind : MarkKind) (xs : List Sym) → ((at : ℕ) (zs : List Sym) → xs ≡ Mark kind at ∷ zs → ⊥) → Lacks (MarkRule kind) xs
mark_lacks kind xs h = record { none = λ a y us d w. h y us (w ∙ ap (λ v. v ++ us) d) }

-- ---- rules with two forms

-- The form `D false` is looked for, and `closed` says whether what was found has the form `D true`; if anything has, it is that.
pub record ClosesBy {X : Type 0} (D : Bool → List Sym → X → Type 0) (xs : List Sym) (x : X) (ys : List Sym) (closed : Bool) : Type 0 where
  pub closes : closed ≡ true → (front : List Sym) × (xs ≡ front ++ ys) × D true front x
  pub alone : (a : List Sym) (y : X) (zs : List Sym) → D true a y → xs ≡ a ++ zs → (closed ≡ true) × (x ≡ y) × (ys ≡ zs)

pub two_exact : {X : Type 0} {P : List Sym → X → Type 0} {xs ys : List Sym} {x : X} → Found P Never xs x ys → ClosesBy (λ closed. P) xs x ys true
two_exact f = record {
  closes = λ e. (f.front, f.whole, f.derives);
  alone = λ a y zs d w. let p = exact f a y zs d w (never zs) in (refl, p.0, p.1);
}

pub two_image : {X Y : Type 0} (f : X → Y) {D : Bool → List Sym → X → Type 0} {xs ys : List Sym} {x : X} {closed : Bool} → ClosesBy D xs x ys closed
    → ClosesBy (λ o. Image f (D o)) xs (f x) ys closed
two_image f {x = x} q = record {
  closes = λ e. let p = q.closes e in (p.0, p.1, (x, p.2, refl));
  alone = λ a u us d w. let o = q.alone a d.0 us d.1 w in (o.0, ap f o.1 ∙ d.2, o.2);
}

pub two_given : {X G : Type 0} {D : Bool → List Sym → X → Type 0} {xs ys : List Sym} {x : X} {closed : Bool} → G → ClosesBy D xs x ys closed → ClosesBy (λ o a r. G × D o a r) xs x ys closed
two_given i q = record {
  closes = λ e. let p = q.closes e in (p.0, p.1, (i, p.2));
  alone = λ a u us d w. q.alone a u us d.1 w;
}

pub two_by : {X : Type 0} {D E : Bool → List Sym → X → Type 0} {xs ys : List Sym} {x : X} {closed : Bool} → ((a : List Sym) → xs ≡ a ++ ys → D true a x → E true a x)
    → Covers (D true) (E true) xs → ClosesBy D xs x ys closed → ClosesBy E xs x ys closed
two_by forth back q = record {
  closes = λ e. let p = q.closes e in (p.0, p.1, forth p.0 p.1 p.2);
  alone = λ a u us d w. q.alone a u us (back a u us d w) w;
}

pub two_then : {X Y : Type 0} {P : List Sym → X → Type 0} {D : Bool → List Sym → Y → Type 0} {xs ys zs : List Sym} {x : X} {y : Y} {closed : Bool}
    → Found P Never xs x ys → ClosesBy D ys y zs closed → ClosesBy (λ o. Then P (D o)) xs (x, y) zs closed
two_then {zs = zs} f k = record {
  closes = λ e. let p = k.closes e in (f.front ++ p.0, f.whole ∙ ap (λ v. f.front ++ v) p.1 ∙ sym (append_assoc f.front p.0 zs), (f.front, p.0, refl, f.derives, p.2));
  alone = λ a r us d w.
      let p = exact f d.0 r.0 (d.1 ++ us) d.3 (w ∙ ap (λ v. v ++ us) d.2 ∙ append_assoc d.0 d.1 us) (never (d.1 ++ us)) in
      let o = k.alone d.1 r.1 us d.4 p.1 in
      (o.0, both p.0 o.1, o.2);
}

pub closes_of : {around : Around} {n : ℕ} {xs ys : List Sym} {x : Deep Stmt} {closed : Bool} → ClosesBy (λ o. StmtUpto around o n) xs x ys closed → Closes around n xs x ys closed
closes_of q = record { closes = q.closes; alone = q.alone }

pub closes_by : {around : Around} {n : ℕ} {xs ys : List Sym} {x : Deep Stmt} {closed : Bool} → Closes around n xs x ys closed → ClosesBy (λ o. StmtUpto around o n) xs x ys closed
closes_by q = record { closes = q.closes; alone = q.alone }

-- ---- statements by their first symbol

-- what stands behind the parentheses of an `if`
pub data IfRest (around : Around) (n : ℕ) : Bool → List Sym → Deep (Stmt × Option Stmt) → Type 0 where
  open_rest : {xs : List Sym} {then : Stmt} {d : ℕ} → StmtUpto around false n xs (then, d) → IfRest around n false xs ((then, None), d)
  full_rest : {closed : Bool} (spelled : List ℕ) (at : ℕ) {xs ys : List Sym} {then otherwise : Stmt} {d e : ℕ} → StmtUpto around true n xs (then, d) → StmtUpto around closed n ys (otherwise, e)
      → IfRest around n closed (xs ++ word w.Else spelled at ∷ ys) ((then, Some otherwise), max d e)

abbrev pub if_of : ℕ → Deep Expr × Deep (Stmt × Option Stmt) → Deep Stmt
if_of at p = (stmt.If at p.0.0 p.1.0.0 p.1.0.1, max p.0.1 p.1.1 + 1)

abbrev pub while_of : ℕ → Deep Expr × Deep Stmt → Deep Stmt
while_of at p = (stmt.While at p.0.0 p.1.0, max p.0.1 p.1.1 + 1)

-- `while ( Expr ) ;`
abbrev pub TailUpto : ℕ → List Sym → Deep Expr → Type 0
TailUpto n xs r = (spelled : List ℕ) × (at : ℕ) × (semicolon : ℕ) × (ys : List Sym) × (xs ≡ word w.While spelled at ∷ ys ++ Mark m.Semicolon semicolon ∷ []) × HeadUpto n ys r

abbrev pub do_of : ℕ → Deep Stmt × Deep Expr → Deep Stmt
do_of at p = (stmt.Do at p.0.0 p.1.0, max p.0.1 p.1.1 + 1)

abbrev pub for_of : ℕ → Deep ForHead × Deep Stmt → Deep Stmt
for_of at p = (stmt.For at p.0.0.start p.0.0.condition p.0.0.update p.1.0, max p.0.1 p.1.1 + 1)

abbrev pub for_each_of : ℕ → Deep OfHead × Deep Stmt → Deep Stmt
for_each_of at p = (stmt.ForOf at p.0.0.kind p.0.0.element p.0.0.subject p.1.0, max p.0.1 p.1.1 + 1)

abbrev pub switch_of : ℕ → Deep Expr × Deep (List Clause) → Deep Stmt
switch_of at p = (stmt.Switch at p.0.0 p.1.0, max p.0.1 p.1.1 + 1)

abbrev pub return_of : ℕ → Deep (Option Expr) → Deep Stmt
return_of at p = (stmt.Return at p.0, p.1)

abbrev pub throw_of : ℕ → Deep Expr → Deep Stmt
throw_of at p = (stmt.Throw at p.0, p.1)

abbrev pub block_of : Deep Block → Deep Stmt
block_of p = (stmt.Block p.0, p.1)

abbrev pub sentence_of : ℕ → Deep Expr → Deep Stmt
sentence_of at p = (stmt.Expr at p.0, p.1)

abbrev pub break_of : ℕ → ℕ → Deep Stmt
break_of at semicolon = (stmt.Break at, 0)

abbrev pub continue_of : ℕ → ℕ → Deep Stmt
continue_of at semicolon = (stmt.Continue at, 0)

-- what stands behind the first symbol of a statement other than `Expr ;`
abbrev pub Behind : Around → ℕ → Sym → Bool → List Sym → Deep Stmt → Type 0
Behind around n (Lex (c.Word w.If) spelled at) closed b r = (0 < n) × Image (if_of at) (Then (HeadUpto (n - 1)) (IfRest around (n - 1) closed)) b r
Behind around n (Lex (c.Word w.While) spelled at) closed b r = (0 < n) × Image (while_of at) (Then (HeadUpto (n - 1)) (StmtUpto (a_loop around) closed (n - 1))) b r
Behind around n (Lex (c.Word w.Do) spelled at) closed b r = (0 < n) × Image (do_of at) (Then (StmtUpto (a_loop around) false (n - 1)) (TailUpto (n - 1))) b r
Behind around n (Lex (c.Word w.For) spelled at) closed b r = (0 < n) × (Image (for_each_of at) (Then (OfHeadUpto (n - 1)) (StmtUpto (a_loop around) closed (n - 1))) b r
    ⊎ Image (for_of at) (Then (ForHeadUpto (n - 1)) (StmtUpto (a_loop around) closed (n - 1))) b r)
Behind around n (Lex (c.Word w.Return) spelled at) closed b r = (around.in_body ≡ true) × Image (return_of at) (EndedUpto m.Semicolon n) b r
Behind around n (Lex (c.Word w.Break) spelled at) closed b r = ((around.in_loop || around.in_switch) ≡ true) × Image (break_of at) (MarkRule m.Semicolon) b r
Behind around n (Lex (c.Word w.Continue) spelled at) closed b r = (around.in_loop ≡ true) × Image (continue_of at) (MarkRule m.Semicolon) b r
Behind around n (Lex (c.Word w.Throw) spelled at) closed b r = Image (throw_of at) (SentenceUpto n) b r
Behind around n (Lex (c.Word w.Switch) spelled at) closed b r = (0 < n) × Image (switch_of at) (Then (HeadUpto (n - 1)) (BracedClausesUpto (a_switch around) (n - 1))) b r
Behind around n (Mark m.OpenBrace at) closed b r = Image block_of (BlockUpto around n) (Mark m.OpenBrace at ∷ b) r
Behind around n (Mark m.Semicolon at) closed b r = (b ≡ []) × (◌≡◌ {A = Deep Stmt} r (stmt.Empty at, 0))
Behind around n _ closed b r = ⊥

-- `Expr ;` that is no other statement
abbrev pub SentenceStmt : ℕ → List Sym → Deep Stmt → Type 0
SentenceStmt n a r = Image (sentence_of (start_of a)) (SentenceUpto n) a r

abbrev pub ByFirst : Around → ℕ → Bool → List Sym → Deep Stmt → Type 0
ByFirst around n closed a r = (z : Sym) × (b : List Sym) × (a ≡ z ∷ b) × (((begins_other z ≡ true) × Behind around n z closed b r) ⊎ ((begins_other z ≡ false) × SentenceStmt n a r))

-- `( Expr )` before what follows
in_parens : (o p : ℕ) (xs ys : List Sym) → Mark m.OpenParen o ∷ (xs ++ (Mark m.CloseParen p ∷ ys)) ≡ (Mark m.OpenParen o ∷ (xs ++ (Mark m.CloseParen p ∷ []))) ++ ys
in_parens o p xs ys = ap (λ v. Mark m.OpenParen o ∷ v) (sym (append_assoc xs (Mark m.CloseParen p ∷ []) ys))

pub by_first : {around : Around} {closed : Bool} {a : List Sym} {s : Stmt} {d : ℕ} (n : ℕ) → IsStmt true around closed a s d → d ≤ n → ByFirst around n closed a (s, d)
by_first n (g.block_stmt {of = of} {d = d} (g.block o p {xs = xs} {d = e} q)) h =
    (Mark m.OpenBrace o, xs ++ (Mark m.CloseBrace p ∷ []), refl, inl (refl, ((of, e + 1), (g.block o p q, h), refl)))
by_first {around = around} n (g.if_stmt spelled at o p {xs = xs} {ys = ys} {condition = condition} {then = then} {d = d} {e = e} q r) h = (
  word w.If spelled at,
  Mark m.OpenParen o ∷ (xs ++ (Mark m.CloseParen p ∷ ys)),
  refl,
  inl (
    refl,
    (
      omega (arith, h),
      (
        ((condition, d), ((then, None), e)),
        (
          Mark m.OpenParen o ∷ (xs ++ (Mark m.CloseParen p ∷ [])),
          ys,
          in_parens o p xs ys,
          (o, p, xs, refl, q, omega (arith, h)),
          open_rest (r, omega (arith, h)),
        ),
        refl,
      ),
    ),
  ),
)
by_first {around = around} n (g.if_else_stmt spelled at o p else_spelled else_at {xs = xs} {ys = ys} {zs = zs} {condition = condition} {then = then} {otherwise = otherwise} {d = d} {e = e} {f = f} q r s) h = (
  word w.If spelled at,
  (Mark m.OpenParen o ∷ (xs ++ (Mark m.CloseParen p ∷ ys))) ++ (word w.Else else_spelled else_at ∷ zs),
  refl,
  inl (
    refl,
    (
      omega (arith, h),
      (
        ((condition, d), ((then, Some otherwise), max e f)),
        (
          Mark m.OpenParen o ∷ (xs ++ (Mark m.CloseParen p ∷ [])),
          ys ++ (word w.Else else_spelled else_at ∷ zs),
          ap (λ v. v ++ (word w.Else else_spelled else_at ∷ zs)) (in_parens o p xs ys) ∙ append_assoc (Mark m.OpenParen o ∷ (xs ++ (Mark m.CloseParen p ∷ []))) ys (word w.Else else_spelled else_at ∷ zs),
          (o, p, xs, refl, q, omega (arith, h)),
          full_rest else_spelled else_at (r, omega (arith, h)) (s, omega (arith, h)),
        ),
        refl,
      ),
    ),
  ),
)
by_first n (g.while_stmt spelled at o p {xs = xs} {ys = ys} {condition = condition} {of = of} {d = d} {e = e} q r) h = (
  word w.While spelled at,
  Mark m.OpenParen o ∷ (xs ++ (Mark m.CloseParen p ∷ ys)),
  refl,
  inl (
    refl,
    (
      omega (arith, h),
      (
        ((condition, d), (of, e)),
        (
          Mark m.OpenParen o ∷ (xs ++ (Mark m.CloseParen p ∷ [])),
          ys,
          in_parens o p xs ys,
          (o, p, xs, refl, q, omega (arith, h)),
          (r, omega (arith, h)),
        ),
        refl,
      ),
    ),
  ),
)
by_first n (g.do_stmt spelled at while_spelled while_at o p semicolon {xs = xs} {ys = ys} {of = of} {condition = condition} {d = d} {e = e} q r) h = (
  word w.Do spelled at,
  (xs ++ (word w.While while_spelled while_at ∷ Mark m.OpenParen o ∷ ys)) ++ (Mark m.CloseParen p ∷ Mark m.Semicolon semicolon ∷ []),
  refl,
  inl (
    refl,
    (
      omega (arith, h),
      (
        ((of, d), (condition, e)),
        (
          xs,
          word w.While while_spelled while_at ∷ Mark m.OpenParen o ∷ (ys ++ (Mark m.CloseParen p ∷ Mark m.Semicolon semicolon ∷ [])),
          append_assoc xs (word w.While while_spelled while_at ∷ Mark m.OpenParen o ∷ ys) (Mark m.CloseParen p ∷ Mark m.Semicolon semicolon ∷ []),
          (q, omega (arith, h)),
          (
            while_spelled,
            while_at,
            semicolon,
            Mark m.OpenParen o ∷ (ys ++ (Mark m.CloseParen p ∷ [])),
            ap (λ v. word w.While while_spelled while_at ∷ v) (in_parens o p ys (Mark m.Semicolon semicolon ∷ [])),
            (o, p, ys, refl, r, omega (arith, h)),
          ),
        ),
        refl,
      ),
    ),
  ),
)
by_first n (g.for_stmt spelled at o semicolon p {vs = vs} {xs = xs} {ys = ys} {zs = zs} {first = first} {condition = condition} {step = step} {of = of} {d = d} {e = e} {f = f} {g = k} q r s t) h =
    let front : List Sym = ((Mark m.OpenParen o ∷ vs) ++ xs) ++ (Mark m.Semicolon semicolon ∷ ys) in
    let head : ForHead = record { start = first; condition = condition; update = step } in
    let same : max (max d (max e f)) k + 1 ≡ max d (max e (max f k)) + 1 = omega arith in (
      word w.For spelled at,
      front ++ (Mark m.CloseParen p ∷ zs),
      refl,
      inl (
        refl,
        (
          omega (arith, h),
          inr (
            ((head, max d (max e f)), (of, k)),
            (
              front ++ (Mark m.CloseParen p ∷ []),
              zs,
              sym (append_assoc front (Mark m.CloseParen p ∷ []) zs),
              (o, semicolon, p, vs, xs, ys, d, e, f, refl, q, r, s, refl, omega (arith, h)),
              (t, omega (arith, h)),
            ),
            both refl same,
          ),
        ),
      ),
    )
by_first n (g.for_of_stmt {word_kind = word_kind} {kind = kind} {name_kind = name_kind} spelled at o kind_spelled kind_at name_spelled name_at of_spelled of_at p {xs = xs} {ys = ys} {subject = subject} {of = of} {d = d} {e = e} i j q r) h =
    let front : List Sym = Mark m.OpenParen o ∷ word word_kind kind_spelled kind_at ∷ word name_kind name_spelled name_at ∷ word w.Of of_spelled of_at ∷ xs in
    let head : OfHead = record { kind = kind; element = record { at = name_at; name = name_spelled }; subject = subject } in (
      word w.For spelled at,
      front ++ (Mark m.CloseParen p ∷ ys),
      refl,
      inl (
        refl,
        (
          omega (arith, h),
          inl (
            ((head, d), (of, e)),
            (
              front ++ (Mark m.CloseParen p ∷ []),
              ys,
              sym (append_assoc front (Mark m.CloseParen p ∷ []) ys),
              (o, p, word_kind, name_kind, kind_spelled, kind_at, of_spelled, of_at, xs, subject, refl, i, j, refl, q, omega (arith, h)),
              (r, omega (arith, h)),
            ),
            refl,
          ),
        ),
      ),
    )
by_first n (g.return_stmt spelled at semicolon {xs = xs} {of = of} {d = d} i q) h =
    (word w.Return spelled at, xs ++ (Mark m.Semicolon semicolon ∷ []), refl, inl (refl, (i, ((of, d), (semicolon, xs, refl, q, h), refl))))
by_first n (g.break_stmt spelled at semicolon i) h = (word w.Break spelled at, Mark m.Semicolon semicolon ∷ [], refl, inl (refl, (i, (semicolon, refl, refl))))
by_first n (g.continue_stmt spelled at semicolon i) h = (word w.Continue spelled at, Mark m.Semicolon semicolon ∷ [], refl, inl (refl, (i, (semicolon, refl, refl))))
by_first n (g.throw_stmt spelled at semicolon {xs = xs} {of = of} {d = d} q) h =
    (word w.Throw spelled at, xs ++ (Mark m.Semicolon semicolon ∷ []), refl, inl (refl, ((of, d), (semicolon, xs, refl, q, h), refl)))
by_first n (g.switch_stmt {defaulted = defaulted} spelled at o p open_brace close_brace {xs = xs} {ys = ys} {subject = subject} {of = of} {d = d} {e = e} q r) h =
    let behind : List Sym = Mark m.OpenBrace open_brace ∷ (ys ++ (Mark m.CloseBrace close_brace ∷ [])) in (
      word w.Switch spelled at,
      (Mark m.OpenParen o ∷ (xs ++ (Mark m.CloseParen p ∷ Mark m.OpenBrace open_brace ∷ ys))) ++ (Mark m.CloseBrace close_brace ∷ []),
      refl,
      inl (
        refl,
        (
          omega (arith, h),
          (
            ((subject, d), (of, e)),
            (
              Mark m.OpenParen o ∷ (xs ++ (Mark m.CloseParen p ∷ [])),
              behind,
              ap (λ v. Mark m.OpenParen o ∷ v) (append_assoc xs (Mark m.CloseParen p ∷ Mark m.OpenBrace open_brace ∷ ys) (Mark m.CloseBrace close_brace ∷ [])) ∙ in_parens o p xs behind,
              (o, p, xs, refl, q, omega (arith, h)),
              (open_brace, close_brace, ys, refl, (defaulted, r, refl, omega (arith, h))),
            ),
            refl,
          ),
        ),
      ),
    )
by_first n (g.expr_stmt semicolon {xs = xs} {of = of} {d = d} i q) h =
    let p = expr_first q in
    let same : xs ++ (Mark m.Semicolon semicolon ∷ []) ≡ p.0 ∷ (p.1 ++ (Mark m.Semicolon semicolon ∷ [])) = ap (λ v. v ++ (Mark m.Semicolon semicolon ∷ [])) p.2 in
    let begin : start_of (xs ++ (Mark m.Semicolon semicolon ∷ [])) ≡ start_of xs = ap start_of same ∙ sym (ap start_of p.2) in (
      p.0,
      p.1 ++ (Mark m.Semicolon semicolon ∷ []),
      same,
      inr (expr_not_other p.0 p.1 p.3 (sym (ap begins_with_brace p.2) ∙ i), ((of, d), (semicolon, xs, refl, q, h), both (ap (λ (o : ℕ). stmt.Expr o of) begin) refl)),
    )
by_first n (g.empty_stmt at) h = (Mark m.Semicolon at, [], refl, inl (refl, (refl, refl)))

-- ---- from what stands behind the first symbol to the statement

stmt_as : {around : Around} {closed : Bool} {n : ℕ} {a u : List Sym} {r v : Deep Stmt} → a ≡ u → r ≡ v → StmtUpto around closed n u v → StmtUpto around closed n a r
stmt_as {around = around} {closed = closed} {n = n} e i h = under_both (λ (a : List Sym) (r : Deep Stmt). StmtUpto around closed n a r) e i h

module _ (around : Around) (n : ℕ) (some : 0 < n) where
  if_forth : {closed : Bool} {ts : List Sym} {t : Deep (Stmt × Option Stmt)} {condition : Expr} {d : ℕ} (spelled : List ℕ) (at o p : ℕ) (xs : List Sym) → g.IsExpr true true xs condition d → d ≤ n - 1
      → IfRest around (n - 1) closed ts t
      → StmtUpto around closed n (word w.If spelled at ∷ ((Mark m.OpenParen o ∷ (xs ++ (Mark m.CloseParen p ∷ []))) ++ ts)) (stmt.If at condition t.0.0 t.0.1, max d t.1 + 1)
  if_forth spelled at o p xs q h (open_rest {xs = ts} r) =
      stmt_as (ap (λ v. word w.If spelled at ∷ v) (sym (in_parens o p xs ts))) refl (g.if_stmt spelled at o p q r.0, omega (arith, some, h, r.1))
  if_forth spelled at o p xs q h (full_rest else_spelled else_at {xs = ts} {ys = us} r s) =
      let same : (Mark m.OpenParen o ∷ (xs ++ (Mark m.CloseParen p ∷ ts))) ++ (word w.Else else_spelled else_at ∷ us)
      ≡ (Mark m.OpenParen o ∷ (xs ++ (Mark m.CloseParen p ∷ []))) ++ (ts ++ (word w.Else else_spelled else_at ∷ us)) =
      ap (λ v. v ++ (word w.Else else_spelled else_at ∷ us)) (in_parens o p xs ts) ∙ append_assoc (Mark m.OpenParen o ∷ (xs ++ (Mark m.CloseParen p ∷ []))) ts (word w.Else else_spelled else_at ∷ us) in
      stmt_as (ap (λ v. word w.If spelled at ∷ v) (sym same)) refl (g.if_else_stmt spelled at o p else_spelled else_at q r.0 s.0, omega (arith, some, h, r.1, s.1))

pub behind_forth : (around : Around) (n : ℕ) (z : Sym) (closed : Bool) (b : List Sym) (r : Deep Stmt) → Behind around n z closed b r → StmtUpto around closed n (z ∷ b) r
behind_forth around n (Lex (c.Word w.If) spelled at) closed b r h =
    let t = h.1.1 in
    let k = t.3 in
    stmt_as (ap (λ v. word w.If spelled at ∷ v) (t.2 ∙ ap (λ v. v ++ t.1) k.3)) (sym h.1.2) (if_forth around n h.0 spelled at k.0 k.1 k.2 k.4 k.5 t.4)
behind_forth around n (Lex (c.Word w.While) spelled at) closed b r h =
    let t = h.1.1 in
    let k = t.3 in
    stmt_as (ap (λ v. word w.While spelled at ∷ v) (t.2 ∙ ap (λ v. v ++ t.1) k.3 ∙ sym (in_parens k.0 k.1 k.2 t.1))) (sym h.1.2)
    (g.while_stmt spelled at k.0 k.1 k.4 t.4.0, omega (arith, h.0, k.5, t.4.1))
behind_forth around n (Lex (c.Word w.Do) spelled at) closed b r h =
    let t = h.1.1 in
    let tail = t.4 in
    let k = tail.5 in
    let close : List Sym = Mark m.CloseParen k.1 ∷ Mark m.Semicolon tail.2 ∷ [] in
    let same : t.1 ≡ word w.While tail.0 tail.1 ∷ Mark m.OpenParen k.0 ∷ (k.2 ++ close) =
    tail.4 ∙ ap (λ v. word w.While tail.0 tail.1 ∷ (v ++ (Mark m.Semicolon tail.2 ∷ []))) k.3 ∙ ap (λ v. word w.While tail.0 tail.1 ∷ v) (sym (in_parens k.0 k.1 k.2 (Mark m.Semicolon tail.2 ∷ []))) in
    stmt_as (ap (λ v. word w.Do spelled at ∷ v) (t.2 ∙ ap (λ v. t.0 ++ v) same ∙ sym (append_assoc t.0 (word w.While tail.0 tail.1 ∷ Mark m.OpenParen k.0 ∷ k.2) close))) (sym h.1.2)
    (g.do_stmt spelled at tail.0 tail.1 k.0 k.1 tail.2 t.3.0 k.4, omega (arith, h.0, k.5, t.3.1))
behind_forth around n (Lex (c.Word w.For) spelled at) closed b r h = elim h.1 [
  | inl p ↦
      let t = p.1 in
      let k = t.3 in
      let front : List Sym = Mark m.OpenParen k.0 ∷ word k.2 k.4 k.5 ∷ word k.3 p.0.0.0.element.name p.0.0.0.element.at ∷ word w.Of k.6 k.7 ∷ k.8 in
      stmt_as (ap (λ v. word w.For spelled at ∷ v) (t.2 ∙ ap (λ v. v ++ t.1) k.10 ∙ append_assoc front (Mark m.CloseParen k.1 ∷ []) t.1))
      (sym p.2 ∙ both (ap (λ (s : Expr). stmt.ForOf at p.0.0.0.kind p.0.0.0.element s p.0.1.0) (sym k.13)) refl)
      (g.for_of_stmt spelled at k.0 k.4 k.5 p.0.0.0.element.name p.0.0.0.element.at k.6 k.7 k.1 k.11 k.12 k.14 t.4.0, omega (arith, h.0, k.15, t.4.1))
  | inr p ↦
      let t = p.1 in
      let k = t.3 in
      let front : List Sym = ((Mark m.OpenParen k.0 ∷ k.3) ++ k.4) ++ (Mark m.Semicolon k.1 ∷ k.5) in
      let depth : max p.0.0.1 p.0.1.1 + 1 ≡ max k.6 (max k.7 (max k.8 p.0.1.1)) + 1 = omega (arith, k.13) in
      stmt_as (ap (λ v. word w.For spelled at ∷ v) (t.2 ∙ ap (λ v. v ++ t.1) k.9 ∙ append_assoc front (Mark m.CloseParen k.2 ∷ []) t.1))
      (sym p.2 ∙ both refl depth)
      (g.for_stmt spelled at k.0 k.1 k.2 k.10 k.11 k.12 t.4.0, omega (arith, h.0, k.13, k.14, t.4.1))
]
behind_forth around n (Lex (c.Word w.Return) spelled at) closed b r h =
    let k = h.1.1 in
    stmt_as (ap (λ v. word w.Return spelled at ∷ v) k.2) (sym h.1.2) (g.return_stmt spelled at k.0 h.0 k.3, k.4)
behind_forth around n (Lex (c.Word w.Break) spelled at) closed b r h = stmt_as (ap (λ v. word w.Break spelled at ∷ v) h.1.1) (sym h.1.2) (g.break_stmt spelled at h.1.0 h.0, omega arith)
behind_forth around n (Lex (c.Word w.Continue) spelled at) closed b r h = stmt_as (ap (λ v. word w.Continue spelled at ∷ v) h.1.1) (sym h.1.2) (g.continue_stmt spelled at h.1.0 h.0, omega arith)
behind_forth around n (Lex (c.Word w.Throw) spelled at) closed b r h =
    let k = h.1 in
    stmt_as (ap (λ v. word w.Throw spelled at ∷ v) k.2) (sym h.2) (g.throw_stmt spelled at k.0 k.3, k.4)
behind_forth around n (Lex (c.Word w.Switch) spelled at) closed b r h =
    let t = h.1.1 in
    let k = t.3 in
    let l = t.4 in
    let behind : List Sym = Mark m.OpenBrace l.0 ∷ (l.2 ++ (Mark m.CloseBrace l.1 ∷ [])) in
    let same : (Mark m.OpenParen k.0 ∷ (k.2 ++ (Mark m.CloseParen k.1 ∷ []))) ++ behind ≡ (Mark m.OpenParen k.0 ∷ (k.2 ++ (Mark m.CloseParen k.1 ∷ Mark m.OpenBrace l.0 ∷ l.2))) ++ (Mark m.CloseBrace l.1 ∷ []) =
    sym (ap (λ v. Mark m.OpenParen k.0 ∷ v) (append_assoc k.2 (Mark m.CloseParen k.1 ∷ Mark m.OpenBrace l.0 ∷ l.2) (Mark m.CloseBrace l.1 ∷ [])) ∙ in_parens k.0 k.1 k.2 behind) in
    stmt_as (ap (λ v. word w.Switch spelled at ∷ v) (t.2 ∙ ap (λ v. v ++ t.1) k.3 ∙ ap (λ v. (Mark m.OpenParen k.0 ∷ (k.2 ++ (Mark m.CloseParen k.1 ∷ []))) ++ v) l.3 ∙ same)) (sym h.1.2)
    (g.switch_stmt spelled at k.0 k.1 l.0 l.1 k.4 l.4.1, omega (arith, h.0, k.5, l.4.3))
behind_forth around n (Mark m.OpenBrace at) closed b r h = stmt_as refl (sym h.2) (g.block_stmt h.1.0, h.1.1)
behind_forth around n (Mark m.Semicolon at) closed b r h = stmt_as (ap (λ v. Mark m.Semicolon at ∷ v) h.0) h.1 (g.empty_stmt at, omega arith)
behind_forth around n _ closed b r h = absurd h

-- what derives a statement, where its first symbol is known
pub stmt_behind : (around : Around) (n : ℕ) (z : Sym) (closed : Bool) {vs xs : List Sym} → xs ≡ z ∷ vs → begins_other z ≡ true → (a : List Sym) (r : Deep Stmt) (us : List Sym)
    → StmtUpto around closed n a r → xs ≡ a ++ us → (b : List Sym) × (a ≡ z ∷ b) × Behind around n z closed b r × (vs ≡ b ++ us)
stmt_behind around n z closed {vs = vs} e i a r us d w =
    let p = by_first n d.0 d.1 in
    let whole : z ∷ vs ≡ p.0 ∷ (p.1 ++ us) = sym e ∙ w ∙ ap (λ v. v ++ us) p.2 in
    let same : z ≡ p.0 = cc in
    let left : vs ≡ p.1 ++ us = cc in
    elim p.3 [
      | inl k ↦ (p.1, p.2 ∙ ap (λ (s : Sym). s ∷ p.1) (sym same), subst (λ (s : Sym). Behind around n s closed p.1 r) (sym same) k.1, left)
      | inr k ↦ let no : true ≡ false = sym i ∙ ap begins_other same ∙ k.0 in absurd (let q : true ≡ false = no in cc)
    ]

pub stmt_found : (around : Around) (n : ℕ) (z : Sym) {C : Sym → Type 0} {vs xs ys : List Sym} {x : Deep Stmt} → xs ≡ z ∷ vs → begins_other z ≡ true → Found (Behind around n z false) C vs x ys
    → Found (StmtUpto around false n) C xs x ys
stmt_found around n z {ys = ys} {x = x} e i f = record {
  front = z ∷ f.front;
  whole = e ∙ ap (λ v. z ∷ v) f.whole;
  derives = behind_forth around n z false f.front x f.derives;
  longest = λ a r us d w. let p = stmt_behind around n z false e i a r us d w in f.longest p.0 r us p.2 p.3;
}

pub stmt_lacks : (around : Around) (n : ℕ) (z : Sym) {vs xs : List Sym} → xs ≡ z ∷ vs → begins_other z ≡ true → Lacks (Behind around n z false) vs → Lacks (StmtUpto around false n) xs
stmt_lacks around n z e i f = record { none = λ a r us d w. let p = stmt_behind around n z false e i a r us d w in f.none p.0 r us p.2 p.3 }

pub stmt_closes : (around : Around) (n : ℕ) (z : Sym) {vs xs ys : List Sym} {x : Deep Stmt} {closed : Bool} → xs ≡ z ∷ vs → begins_other z ≡ true → ClosesBy (Behind around n z) vs x ys closed
    → Closes around n xs x ys closed
stmt_closes around n z {x = x} e i f = record {
  closes = λ o. let p = f.closes o in (z ∷ p.0, e ∙ ap (λ v. z ∷ v) p.1, behind_forth around n z true p.0 x p.2);
  alone = λ a r us d w. let p = stmt_behind around n z true e i a r us d w in f.alone p.0 r us p.2 p.3;
}

-- what was read behind the first symbol is the statement
pub stmt_reads : (around : Around) (n : ℕ) (z : Sym) (r : Reader) (at : ℕ) (x : StmtFront) → rest r at ≡ z ∷ rest r (at + 1) → begins_other z ≡ true → x.next ≤ length r.tokens.now
    → Found (Behind around n z false) InStmt (rest r (at + 1)) (x.tree, x.depth) (rest r x.next) → ClosesBy (Behind around n z) (rest r (at + 1)) (x.tree, x.depth) (rest r x.next) x.closed
    → ReadsStmt around n r at (Some x)
stmt_reads around n z r at x e i h f k = ((h, stmt_found around n z e i f), stmt_closes around n z e i k)
