-- `for` from what was read of it.
use Rattle.std.proofs.Common.{◌≡◌, ℕ, ◌-◌, ◌+◌, ◌≤◌, ◌<◌, max, Bool, true, false, List, [], ◌∷◌, ◌++◌, length, refl, sym, ◌∙◌, ap, subst, inl, inr, arith}
use Rattle.std.specs.Prelude.{◌⊎◌, Option, Some, None}
use Rattle.tb_tree.specs.declared.words.Word.TheVariants as words
use Rattle.tb_tree.specs.declared.exprs.Stmt.{Stmt}
use Rattle.tb_tree.specs.declared.exprs.Stmt.TheVariants as stmt
use Rattle.tb_tree.specs.Sym.{Sym}
use Rattle.tb_tree.specs.Shapes.{word}
use Rattle.tb_tree.specs.Longest.{Found, Lacks, Never}
use Rattle.tb_tree.specs.Exprs.{Around, a_loop}
use Rattle.tb_tree.proofs.Ends.{exact, never}
use Rattle.tb_parse_type.specs.declared.reader.Reader.{Reader}
use Rattle.tb_parse_type.specs.Reading.{rest}
use Rattle.tb_parse_type.specs.Rules.{Then}
use Rattle.tb_parse_body.specs.declared.fors.ForHead.{ForHead}
use Rattle.tb_parse_body.specs.declared.fors.OfHead.{OfHead}
use Rattle.tb_parse_body.specs.declared.fronts.StmtFront.{StmtFront}
use Rattle.tb_parse_body.specs.Rules.{Deep, StmtUpto, OfHeadUpto, ForHeadUpto, InStmt}
use Rattle.tb_parse_body.specs.Reading.{ReadsStmt}
use Rattle.tb_parse_body.proofs.FirstSymbols.{Image, ClosesBy, two_image, two_then, two_given, given_found, given_lacks, not_given, image_found, image_lacks, then_found, then_lacks, then_lacks_second, apart_never, closes_by, Behind, for_of, for_each_of, stmt_lacks, stmt_reads}
use Rattle.tb_parse_body.proofs.ForHeads.{of_excludes}

-- ---- one of two rules, where the other derives nothing

left_found : {X : Type 0} {D : List Sym → X → Type 0} (E : List Sym → X → Type 0) {C : Sym → Type 0} {xs ys : List Sym} {x : X} → Found D C xs x ys → Lacks E xs → Found (λ a r. D a r ⊎ E a r) C xs x ys
left_found E f k = record {
  front = f.front;
  whole = f.whole;
  derives = inl f.derives;
  longest = λ a u us d w. elim d [
    | inl p ↦ f.longest a u us p w
    | inr p ↦ absurd (k.none a u us p w)
  ];
}

right_found : {X : Type 0} (D : List Sym → X → Type 0) {E : List Sym → X → Type 0} {C : Sym → Type 0} {xs ys : List Sym} {x : X} → Lacks D xs → Found E C xs x ys → Found (λ a r. D a r ⊎ E a r) C xs x ys
right_found D k f = record {
  front = f.front;
  whole = f.whole;
  derives = inr f.derives;
  longest = λ a u us d w. elim d [
    | inl p ↦ absurd (k.none a u us p w)
    | inr p ↦ f.longest a u us p w
  ];
}

neither : {X : Type 0} {D E : List Sym → X → Type 0} {xs : List Sym} → Lacks D xs → Lacks E xs → Lacks (λ a r. D a r ⊎ E a r) xs
neither f k = record {
  none = λ a u us d w. elim d [
    | inl p ↦ f.none a u us p w
    | inr p ↦ k.none a u us p w
  ];
}

left_closes : {X : Type 0} {D : Bool → List Sym → X → Type 0} (E : Bool → List Sym → X → Type 0) {xs ys : List Sym} {x : X} {closed : Bool} → ClosesBy D xs x ys closed → Lacks (E true) xs
    → ClosesBy (λ o a r. D o a r ⊎ E o a r) xs x ys closed
left_closes E f k = record {
  closes = λ e. let p = f.closes e in (p.0, p.1, inl p.2);
  alone = λ a u us d w. elim d [
    | inl p ↦ f.alone a u us p w
    | inr p ↦ absurd (k.none a u us p w)
  ];
}

right_closes : {X : Type 0} (D : Bool → List Sym → X → Type 0) {E : Bool → List Sym → X → Type 0} {xs ys : List Sym} {x : X} {closed : Bool} → Lacks (D true) xs → ClosesBy E xs x ys closed
    → ClosesBy (λ o a r. D o a r ⊎ E o a r) xs x ys closed
right_closes D k f = record {
  closes = λ e. let p = f.closes e in (p.0, p.1, inr p.2);
  alone = λ a u us d w. elim d [
    | inl p ↦ absurd (k.none a u us p w)
    | inr p ↦ f.alone a u us p w
  ];
}

pub each_tree : {a b : ℕ} (h : OfHead) (s : Stmt) → a ≡ b → stmt.ForOf a h.kind h.element h.subject s ≡ stmt.ForOf b h.kind h.element h.subject s
each_tree h s p = ap (λ (a : ℕ). stmt.ForOf a h.kind h.element h.subject s) p

pub for_tree : {a b : ℕ} (h : ForHead) (s : Stmt) → a ≡ b → stmt.For a h.start h.condition h.update s ≡ stmt.For b h.start h.condition h.update s
for_tree h s p = ap (λ (a : ℕ). stmt.For a h.start h.condition h.update s) p

module _ (around : Around) (n : ℕ) (spelled : List ℕ) (place : ℕ) where
  abbrev body : Bool → List Sym → Deep Stmt → Type 0
  body closed = StmtUpto (a_loop around) closed (n - 1)

  abbrev Each : Bool → List Sym → Deep Stmt → Type 0
  Each closed = Image (for_each_of place) (Then (OfHeadUpto (n - 1)) (body closed))

  abbrev Other : Bool → List Sym → Deep Stmt → Type 0
  Other closed = Image (for_of place) (Then (ForHeadUpto (n - 1)) (body closed))

  no_each : (closed : Bool) {xs : List Sym} → Lacks (OfHeadUpto (n - 1)) xs → Lacks (Each closed) xs
  no_each closed f = image_lacks (for_each_of place) (then_lacks (body closed) f)

  no_other : (closed : Bool) {xs : List Sym} → Lacks (ForHeadUpto (n - 1)) xs → Lacks (Other closed) xs
  no_other closed f = image_lacks (for_of place) (then_lacks (body closed) f)

  pub for_shallow : {xs vs : List Sym} → xs ≡ word words.For spelled place ∷ vs → n ≡ 0 → Lacks (StmtUpto around false n) xs
  for_shallow e i = stmt_lacks around n (word words.For spelled place) e refl (not_given _ _ (λ h. omega (arith, h, i)))

  for_lacks : {xs vs : List Sym} → xs ≡ word words.For spelled place ∷ vs → Lacks (Each false) vs → Lacks (Other false) vs → Lacks (StmtUpto around false n) xs
  for_lacks e f k = stmt_lacks around n (word words.For spelled place) e refl (given_lacks (0 < n) (neither f k))

  pub for_lacks_head : {xs vs : List Sym} → xs ≡ word words.For spelled place ∷ vs → Lacks (OfHeadUpto (n - 1)) vs → Lacks (ForHeadUpto (n - 1)) vs → Lacks (StmtUpto around false n) xs
  for_lacks_head e f k = for_lacks e (no_each false f) (no_other false k)

  pub each_lacks_body : {xs vs ys : List Sym} {x : Deep OfHead} → xs ≡ word words.For spelled place ∷ vs → Found (OfHeadUpto (n - 1)) Never vs x ys → Lacks (StmtUpto (a_loop around) false (n - 1)) ys
      → Lacks (StmtUpto around false n) xs
  each_lacks_body e f k = for_lacks e (image_lacks (for_each_of place) (then_lacks_second (apart_never (body false)) f k)) (no_other false (of_excludes (n - 1) f))

  pub for_lacks_body : {xs vs ys : List Sym} {x : Deep ForHead} → xs ≡ word words.For spelled place ∷ vs → Lacks (OfHeadUpto (n - 1)) vs → Found (ForHeadUpto (n - 1)) Never vs x ys
      → Lacks (StmtUpto (a_loop around) false (n - 1)) ys → Lacks (StmtUpto around false n) xs
  for_lacks_body e h f k = for_lacks e (no_each false h) (image_lacks (for_of place) (then_lacks_second (apart_never (body false)) f k))

  pub each_reads : (r : Reader) (at : ℕ) (x : Deep OfHead) (next : ℕ) (s : StmtFront) → rest r at ≡ word words.For spelled place ∷ rest r (at + 1) → 0 < n
      → Found (OfHeadUpto (n - 1)) Never (rest r (at + 1)) x (rest r next) → ReadsStmt (a_loop around) (n - 1) r next (Some s)
      → ReadsStmt around n r at (Some (record { tree = stmt.ForOf place x.0.kind x.0.element x.0.subject s.tree; depth = max x.1 s.depth + 1; next = s.next; closed = s.closed }))
  each_reads r at x next s e some f k =
      let other = of_excludes (n - 1) f in
      stmt_reads around n (word words.For spelled place) r at (record { tree = stmt.ForOf place x.0.kind x.0.element x.0.subject s.tree; depth = max x.1 s.depth + 1; next = s.next; closed = s.closed }) e refl k.0.0
      (given_found some (left_found (Other false) (image_found (for_each_of place) (then_found (apart_never (body false)) f k.0.1)) (no_other false other)))
      (two_given some (left_closes Other (two_image (for_each_of place) (two_then f (closes_by k.1))) (no_other true other)))

  pub for_reads : (r : Reader) (at : ℕ) (x : Deep ForHead) (next : ℕ) (s : StmtFront) → rest r at ≡ word words.For spelled place ∷ rest r (at + 1) → 0 < n → Lacks (OfHeadUpto (n - 1)) (rest r (at + 1))
      → Found (ForHeadUpto (n - 1)) Never (rest r (at + 1)) x (rest r next) → ReadsStmt (a_loop around) (n - 1) r next (Some s)
      → ReadsStmt around n r at (Some (record { tree = stmt.For place x.0.start x.0.condition x.0.update s.tree; depth = max x.1 s.depth + 1; next = s.next; closed = s.closed }))
  for_reads r at x next s e some h f k =
      stmt_reads around n (word words.For spelled place) r at (record { tree = stmt.For place x.0.start x.0.condition x.0.update s.tree; depth = max x.1 s.depth + 1; next = s.next; closed = s.closed }) e refl k.0.0
      (given_found some (right_found (Each false) (no_each false h) (image_found (for_of place) (then_found (apart_never (body false)) f k.0.1))))
      (two_given some (right_closes Each (no_each true h) (two_image (for_of place) (two_then f (closes_by k.1)))))
