-- The clauses of a `switch`, and the whole of it.
use Rattle.std.proofs.Common.{◌≡◌, ℕ, ◌-◌, ◌+◌, ◌≤◌, ◌<◌, max, Bool, true, false, List, [], ◌∷◌, ◌++◌, length, refl, sym, ◌∙◌, ap, subst, inl, inr, arith, append_assoc, length-append, append-nil}
use Rattle.std.specs.Prelude.{◌⊎◌, ◌||◌, ◌&&◌, Option, Some, None}
use Rattle.tb_tree.specs.declared.marks.Mark.TheVariants as m
use Rattle.tb_tree.specs.declared.words.Word.{Word}
use Rattle.tb_tree.specs.declared.words.Word.TheVariants as words
use Rattle.tb_tree.specs.declared.exprs.Expr.{Expr}
use Rattle.tb_tree.specs.declared.exprs.BlockItem.{BlockItem}
use Rattle.tb_tree.specs.declared.exprs.Clause.{Clause}
use Rattle.tb_tree.specs.declared.exprs.Clause.TheVariants as clause
use Rattle.tb_tree.specs.declared.exprs.Stmt.{Stmt}
use Rattle.tb_tree.specs.declared.exprs.Stmt.TheVariants as stmt
use Rattle.tb_tree.specs.Sym.{Sym, Mark}
use Rattle.tb_tree.specs.Shapes.{word}
use Rattle.tb_tree.specs.Longest.{Found, Lacks, Ends, Starts, Never}
use Rattle.tb_tree.specs.Exprs.{Around, a_switch}
use Rattle.tb_tree.specs.Exprs as g
use Rattle.tb_tree.proofs.Ends.{exact, shorter, never, both, ap_both, under_both}
use Rattle.tb_parse_type.specs.declared.reader.Reader.{Reader}
use Rattle.tb_parse_type.specs.Reading.{rest}
use Rattle.tb_parse_type.specs.Rules.{Then, MarkRule}
use Rattle.tb_parse_body.specs.Rules.{Deep, ExprUpto, StmtUpto, HeadUpto, BlockItemsUpto, CaseUpto, DefaultClauseUpto, ClauseUpto, ClausesUpto, BracedClausesUpto, InExpr, InItems, InClauses, ends_items, ends_clauses}
use Rattle.tb_parse_body.specs.Reading.{ReadsStmt}
use Rattle.tb_parse_body.proofs.FirstSymbols.{Image, given_found, given_lacks, not_given, image_found, image_lacks, then_found, then_lacks, then_lacks_second, Apart, apart_never, mark_found, mark_lacks, switch_of, stmt_lacks}
use Rattle.tb_parse_body.proofs.Loops.{exact_reads}

-- ---- what stands behind the word of a clause

-- `:` and items
abbrev pub Items : Around → ℕ → List Sym → ℕ × Deep (List BlockItem) → Type 0
Items around n = Then (MarkRule m.Colon) (BlockItemsUpto around n)

abbrev pub case_of : ℕ → Deep Expr × (ℕ × Deep (List BlockItem)) → Deep Clause
case_of at p = (clause.Case at p.0.0 p.1.1.0, max p.0.1 p.1.1.1)

abbrev pub default_of : ℕ → ℕ × Deep (List BlockItem) → Deep Clause
default_of at p = (clause.Default at p.1.0, p.1.1)

abbrev pub Behind : Around → ℕ → Bool → ℕ → List Sym → Deep Clause → Type 0
Behind around n false at = Image (case_of at) (Then (ExprUpto false n) (Items around n))
Behind around n true at = Image (default_of at) (Items around n)

abbrev pub word_of : Bool → Word
word_of false = words.Case
word_of true = words.Default

abbrev pub OneUpto : Around → ℕ → Bool → List Sym → Deep Clause → Type 0
OneUpto around n default xs r = g.IsClause true around default xs r.0 r.1 × (r.1 ≤ n)

abbrev pub ByWord : Around → ℕ → Bool → List Sym → Deep Clause → Type 0
ByWord around n default a r = (spelled : List ℕ) × (at : ℕ) × (b : List Sym) × (a ≡ word (word_of default) spelled at ∷ b) × Behind around n default at b r

by_word : {around : Around} {default : Bool} {a : List Sym} {of : Clause} {d : ℕ} (n : ℕ) → g.IsClause true around default a of d → d ≤ n → ByWord around n default a (of, d)
by_word n (g.case_clause spelled at colon {xs = xs} {ys = ys} {of = of} {items = items} {d = d} {e = e} q r) h = (
  spelled,
  at,
  xs ++ (Mark m.Colon colon ∷ ys),
  refl,
  (((of, d), (colon, (items, e))), (xs, Mark m.Colon colon ∷ ys, refl, (q, omega (arith, h)), (Mark m.Colon colon ∷ [], ys, refl, refl, (r, omega (arith, h)))), refl),
)
by_word n (g.default_clause spelled at colon {xs = xs} {items = items} {d = d} q) h =
    (spelled, at, Mark m.Colon colon ∷ xs, refl, ((colon, (items, d)), (Mark m.Colon colon ∷ [], xs, refl, refl, (q, h)), refl))

one_as : {around : Around} {n : ℕ} {default : Bool} {a u : List Sym} {r v : Deep Clause} → a ≡ u → r ≡ v → OneUpto around n default u v → OneUpto around n default a r
one_as {around = around} {n = n} {default = default} e i h = under_both (λ (a : List Sym) (r : Deep Clause). OneUpto around n default a r) e i h

from_word : (around : Around) (n : ℕ) (default : Bool) (spelled : List ℕ) (at : ℕ) (b : List Sym) (r : Deep Clause) → Behind around n default at b r
    → OneUpto around n default (word (word_of default) spelled at ∷ b) r
from_word around n false spelled at b r h =
    let t = h.1 in
    let k = t.4 in
    one_as (ap (λ v. word words.Case spelled at ∷ v) (t.2 ∙ ap (λ v. t.0 ++ v) (k.2 ∙ ap (λ v. v ++ k.1) k.3))) (sym h.2) (g.case_clause spelled at h.0.1.0 t.3.0 k.4.0, omega (arith, t.3.1, k.4.1))
from_word around n true spelled at b r h =
    let k = h.1 in
    one_as (ap (λ v. word words.Default spelled at ∷ v) (k.2 ∙ ap (λ v. v ++ k.1) k.3)) (sym h.2) (g.default_clause spelled at h.0.0 k.4.0, k.4.1)

word_inside : (k : Word) {s t : List ℕ} {p q : ℕ} {vs ws : List Sym} → word k s p ∷ vs ≡ word k t q ∷ ws → (p ≡ q) × (vs ≡ ws)
word_inside k e = (cc, cc)

one_behind : (around : Around) (n : ℕ) (default : Bool) (spelled : List ℕ) (at : ℕ) {xs vs : List Sym} → xs ≡ word (word_of default) spelled at ∷ vs → (a : List Sym) (r : Deep Clause) (us : List Sym)
    → OneUpto around n default a r → xs ≡ a ++ us → (b : List Sym) × Behind around n default at b r × (vs ≡ b ++ us)
one_behind around n default spelled at e a r us d w =
    let p = by_word n d.0 d.1 in
    let q = word_inside (word_of default) (sym e ∙ w ∙ ap (λ v. v ++ us) p.3) in
    (p.2, subst (λ (o : ℕ). Behind around n default o p.2 r) (sym q.0) p.4, q.1)

pub one_found : (around : Around) (n : ℕ) (default : Bool) (spelled : List ℕ) (at : ℕ) {C : Sym → Type 0} {xs vs ys : List Sym} {x : Deep Clause} → xs ≡ word (word_of default) spelled at ∷ vs
    → Found (Behind around n default at) C vs x ys → Found (OneUpto around n default) C xs x ys
one_found around n default spelled at {x = x} e f = record {
  front = word (word_of default) spelled at ∷ f.front;
  whole = e ∙ ap (λ v. word (word_of default) spelled at ∷ v) f.whole;
  derives = from_word around n default spelled at f.front x f.derives;
  longest = λ a r us d w. let p = one_behind around n default spelled at e a r us d w in f.longest p.0 r us p.1 p.2;
}

pub one_lacks : (around : Around) (n : ℕ) (default : Bool) (spelled : List ℕ) (at : ℕ) {xs vs : List Sym} → xs ≡ word (word_of default) spelled at ∷ vs → Lacks (Behind around n default at) vs
    → Lacks (OneUpto around n default) xs
one_lacks around n default spelled at e f = record { none = λ a r us d w. let p = one_behind around n default spelled at e a r us d w in f.none p.0 r us p.1 p.2 }

pub one_lacks_word : (around : Around) (n : ℕ) (default : Bool) (xs : List Sym) → ((s : List ℕ) (p : ℕ) (zs : List Sym) → xs ≡ word (word_of default) s p ∷ zs → ⊥) → Lacks (OneUpto around n default) xs
one_lacks_word around n default xs h = record { none = λ a r us d w. let p = by_word n d.0 d.1 in h p.0 p.1 (p.2 ++ us) (w ∙ ap (λ v. v ++ us) p.3) }

pub case_tree : {a b : ℕ} {x y : Expr} {s t : List BlockItem} → a ≡ b → x ≡ y → s ≡ t → clause.Case a x s ≡ clause.Case b y t
case_tree p q r = cc

pub default_tree : {a b : ℕ} {s t : List BlockItem} → a ≡ b → s ≡ t → clause.Default a s ≡ clause.Default b t
default_tree p r = cc

-- ---- `case` and `default` from their parts

items_apart : (around : Around) (n : ℕ) → Apart (InExpr false) (Items around n)
items_apart around n b y us d s =
    let e : b ++ us ≡ Mark m.Colon y.0 ∷ (d.1 ++ us) = ap (λ v. v ++ us) (d.2 ∙ ap (λ v. v ++ d.1) d.3) in
    let o : Starts (InExpr false) (Mark m.Colon y.0 ∷ (d.1 ++ us)) = subst (λ v. Starts (InExpr false) v) e s in
    let p : true ≡ false = o in
    cc

items_found : (around : Around) (n p : ℕ) {xs ys zs : List Sym} {y : Deep (List BlockItem)} → xs ≡ Mark m.Colon p ∷ ys → Found (BlockItemsUpto around n) InItems ys y zs → Found (Items around n) InItems xs (p, y) zs
items_found around n p {ys = ys} {zs = zs} {y = y} e f =
    subst (λ v. Found (Items around n) InItems v (p, y) zs) (sym e) (then_found (apart_never (BlockItemsUpto around n)) (mark_found m.Colon p ys) f)

items_lacks : (around : Around) (n : ℕ) (xs : List Sym) → ((at : ℕ) (zs : List Sym) → xs ≡ Mark m.Colon at ∷ zs → ⊥) → Lacks (Items around n) xs
items_lacks around n xs h = then_lacks (BlockItemsUpto around n) (mark_lacks m.Colon xs h)

module _ (around : Around) (n : ℕ) where
  pub case_lacks_word : (xs : List Sym) → ((s : List ℕ) (p : ℕ) (zs : List Sym) → xs ≡ word words.Case s p ∷ zs → ⊥) → Lacks (CaseUpto around n) xs
  case_lacks_word xs h = one_lacks_word around n false xs h

  pub case_lacks_value : (s : List ℕ) (p : ℕ) {xs vs : List Sym} → xs ≡ word words.Case s p ∷ vs → Lacks (ExprUpto false n) vs → Lacks (CaseUpto around n) xs
  case_lacks_value s p e f = one_lacks around n false s p e (image_lacks (case_of p) (then_lacks (Items around n) f))

  pub case_lacks_colon : (s : List ℕ) (p : ℕ) {xs vs ys : List Sym} {x : Deep Expr} → xs ≡ word words.Case s p ∷ vs → Found (ExprUpto false n) (InExpr false) vs x ys
      → ((at : ℕ) (zs : List Sym) → ys ≡ Mark m.Colon at ∷ zs → ⊥) → Lacks (CaseUpto around n) xs
  case_lacks_colon s p {ys = ys} e f h = one_lacks around n false s p e (image_lacks (case_of p) (then_lacks_second (items_apart around n) f (items_lacks around n ys h)))

  pub case_found : (s : List ℕ) (p q : ℕ) {xs vs ys ws zs : List Sym} {x : Deep Expr} {y : Deep (List BlockItem)} → xs ≡ word words.Case s p ∷ vs → Found (ExprUpto false n) (InExpr false) vs x ys
      → ys ≡ Mark m.Colon q ∷ ws → Found (BlockItemsUpto around n) InItems ws y zs → Found (CaseUpto around n) InItems xs (clause.Case p x.0 y.0, max x.1 y.1) zs
  case_found s p q e f i k = one_found around n false s p e (image_found (case_of p) (then_found (items_apart around n) f (items_found around n q i k)))

  pub default_lacks_word : (xs : List Sym) → ((s : List ℕ) (p : ℕ) (zs : List Sym) → xs ≡ word words.Default s p ∷ zs → ⊥) → Lacks (DefaultClauseUpto around n) xs
  default_lacks_word xs h = one_lacks_word around n true xs h

  pub default_lacks_colon : (s : List ℕ) (p : ℕ) {xs vs : List Sym} → xs ≡ word words.Default s p ∷ vs → ((at : ℕ) (zs : List Sym) → vs ≡ Mark m.Colon at ∷ zs → ⊥) → Lacks (DefaultClauseUpto around n) xs
  default_lacks_colon s p {vs = vs} e h = one_lacks around n true s p e (image_lacks (default_of p) (items_lacks around n vs h))

  pub default_found : (s : List ℕ) (p q : ℕ) {xs vs ws zs : List Sym} {y : Deep (List BlockItem)} → xs ≡ word words.Default s p ∷ vs → vs ≡ Mark m.Colon q ∷ ws → Found (BlockItemsUpto around n) InItems ws y zs
      → Found (DefaultClauseUpto around n) InItems xs (clause.Default p y.0, y.1) zs
  default_found s p q e i k = one_found around n true s p e (image_found (default_of p) (items_found around n q i k))

-- ---- a clause, which may be `default` only where none was before

first_word : {around : Around} {default : Bool} {a : List Sym} {of : Clause} {d : ℕ} → g.IsClause true around default a of d
    → (s : List ℕ) × (p : ℕ) × (b : List Sym) × (a ≡ word (word_of default) s p ∷ b)
first_word {d = d} q = let p = by_word d q (let h : d ≤ d = omega arith in h) in (p.0, p.1, p.2, p.3)

case_not_default : {s t : List ℕ} {p q : ℕ} {vs ws : List Sym} → word words.Case s p ∷ vs ≡ word words.Default t q ∷ ws → ⊥
case_not_default e = cc

case_or : (default : Bool) → (default ≡ false) ⊎ (default ≡ true)
case_or false = inl refl
case_or true = inr refl

not_both : (before : Bool) → (before && false) ≡ false
not_both false = refl
not_both true = refl

module _ (before : Bool) (around : Around) (n : ℕ) where
  pub clause_of_case : {xs ys : List Sym} {x : Deep Clause} → Found (CaseUpto around n) InItems xs x ys → Found (ClauseUpto before around n) InItems xs ((x.0, false), x.1) ys
  clause_of_case {xs = xs} {ys = ys} {x = x} f = record {
    front = f.front;
    whole = f.whole;
    derives = (f.derives.0, not_both before, f.derives.1);
    longest = λ a y us d w. go y.0.1 us d.0 d.2 w;
  }
    where
      go : {a : List Sym} {of : Clause} {k : ℕ} (default : Bool) (us : List Sym) → g.IsClause true around default a of k → k ≤ n → xs ≡ a ++ us
          → Ends {X = Deep (Clause × Bool)} InItems ((x.0, false), x.1) ys ((of, default), k) us
      go {a = a} {of = of} {k = k} false us q h w = elim (f.longest a (of, k) us (q, h) w) [
        | inl o ↦ inl (ap (λ (r : Deep Clause). let v : Deep (Clause × Bool) = ((r.0, false), r.1) in v) o.0, o.1)
        | inr o ↦ inr o
      ]
      go true us q h w =
          let p = first_word f.derives.0 in
          let o = first_word q in
          absurd (case_not_default (sym (f.whole ∙ ap (λ v. v ++ ys) p.3) ∙ w ∙ ap (λ v. v ++ us) o.3))

  pub clause_of_default : before ≡ false → {xs ys : List Sym} {x : Deep Clause} → Lacks (CaseUpto around n) xs → Found (DefaultClauseUpto around n) InItems xs x ys
      → Found (ClauseUpto before around n) InItems xs ((x.0, true), x.1) ys
  clause_of_default i {xs = xs} {ys = ys} {x = x} l f = record {
    front = f.front;
    whole = f.whole;
    derives = (f.derives.0, ap (λ (b : Bool). b && true) i, f.derives.1);
    longest = λ a y us d w. go y.0.1 us d.0 d.2 w;
  }
    where
      go : {a : List Sym} {of : Clause} {k : ℕ} (default : Bool) (us : List Sym) → g.IsClause true around default a of k → k ≤ n → xs ≡ a ++ us
          → Ends {X = Deep (Clause × Bool)} InItems ((x.0, true), x.1) ys ((of, default), k) us
      go {a = a} {of = of} {k = k} true us q h w = elim (f.longest a (of, k) us (q, h) w) [
        | inl o ↦ inl (ap (λ (r : Deep Clause). let v : Deep (Clause × Bool) = ((r.0, true), r.1) in v) o.0, o.1)
        | inr o ↦ inr o
      ]
      go {a = a} {of = of} {k = k} false us q h w = absurd (l.none a (of, k) us (q, h) w)

  pub clause_lacks : {xs : List Sym} → Lacks (CaseUpto around n) xs → Lacks (DefaultClauseUpto around n) xs → Lacks (ClauseUpto before around n) xs
  clause_lacks {xs = xs} l k = record { none = λ a y us d w. go y.0.1 us d.0 d.2 w }
    where
      go : {a : List Sym} {of : Clause} {d : ℕ} (default : Bool) (us : List Sym) → g.IsClause true around default a of d → d ≤ n → xs ≡ a ++ us → ⊥
      go {a = a} {of = of} {d = d} false us q h w = l.none a (of, d) us (q, h) w
      go {a = a} {of = of} {d = d} true us q h w = k.none a (of, d) us (q, h) w

  pub clause_lacks_second : before ≡ true → {xs : List Sym} → Lacks (CaseUpto around n) xs → Lacks (ClauseUpto before around n) xs
  clause_lacks_second i {xs = xs} l = record { none = λ a y us d w. go y.0.1 us d.0 d.1 d.2 w }
    where
      go : {a : List Sym} {of : Clause} {d : ℕ} (default : Bool) (us : List Sym) → g.IsClause true around default a of d → (before && default) ≡ false → d ≤ n → xs ≡ a ++ us → ⊥
      go {a = a} {of = of} {d = d} false us q j h w = l.none a (of, d) us (q, h) w
      go true us q j h w = let p : true ≡ false = sym (ap (λ (b : Bool). b && true) i) ∙ j in cc

-- ---- clauses that follow one another

word_ends : (default : Bool) (s : List ℕ) (p : ℕ) → ends_items (word (word_of default) s p) ≡ true
word_ends false s p = refl
word_ends true s p = refl

word_in : (default : Bool) (s : List ℕ) (p : ℕ) → InClauses (word (word_of default) s p)
word_in false s p = refl
word_in true s p = refl

clause_starts : {around : Around} {default : Bool} {a : List Sym} {of : Clause} {d : ℕ} (us : List Sym) → g.IsClause true around default a of d → Starts InClauses (a ++ us)
clause_starts {default = default} us q = let p = first_word q in subst (λ v. Starts InClauses (v ++ us)) (sym p.3) (word_in default p.0 p.1)

clause_ends_items : {around : Around} {default : Bool} {a : List Sym} {of : Clause} {d : ℕ} (us : List Sym) → g.IsClause true around default a of d → Starts InItems (a ++ us) → ⊥
clause_ends_items {default = default} us q h =
    let p = first_word q in
    let o : InItems (word (word_of default) p.0 p.1) = subst (λ v. Starts InItems (v ++ us)) p.3 h in
    let k : true ≡ false = sym (word_ends default p.0 p.1) ∙ o in
    cc

items_in_clauses : (s : Sym) → InItems s → InClauses s
items_in_clauses (Mark m.CloseBrace at) h = let k : true ≡ false = h in cc
items_in_clauses _ h = refl

starts_clauses : (zs : List Sym) → Starts InItems zs → Starts InClauses zs
starts_clauses [] n = n
starts_clauses (s ∷ zs) h = items_in_clauses s h

-- at most one is `default`: of those before, this one and those behind
before_here : (before here later : Bool) → (before && (here || later)) ≡ false → (before && here) ≡ false
before_here false here later h = refl
before_here true false later h = refl
before_here true true later h = h

before_later : (before here later : Bool) → (before && (here || later)) ≡ false → (here && later) ≡ false → ((before || here) && later) ≡ false
before_later false here later h k = k
before_later true false later h k = h
before_later true true later h k = let p : true ≡ false = h in cc

here_later : (before here later : Bool) → ((before || here) && later) ≡ false → (here && later) ≡ false
here_later false here later h = h
here_later true false later h = refl
here_later true true later h = h

before_both : (before here later : Bool) → (before && here) ≡ false → ((before || here) && later) ≡ false → (before && (here || later)) ≡ false
before_both false here later h k = refl
before_both true false later h k = k
before_both true true later h k = h

module _ (around : Around) (n : ℕ) where
  clauses_stop : (before : Bool) (xs : List Sym) → Lacks (ClauseUpto before around n) xs → Found (ClausesUpto before around n) InClauses xs ([], 0) xs
  clauses_stop before xs f = record {
    front = [];
    whole = refl;
    derives = (false, g.no_clauses, not_both before, omega arith);
    longest = λ a y us d w. go us d.1 d.2 d.3 w;
  }
    where
      go : {a : List Sym} {u : List Clause} {k : ℕ} {here : Bool} (us : List Sym) → g.IsClauses true around here a u k → (before && here) ≡ false → k ≤ n → xs ≡ a ++ us
          → Ends {X = Deep (List Clause)} InClauses ([], 0) xs (u, k) us
      go us g.no_clauses i h w = inl (refl, w)
      go us (g.more_clauses {here = here} {later = later} {xs = a} {ys = b} {of = u} {d = d} {e = e} q r j) i h w =
          absurd (f.none a ((u, here), d) (b ++ us) (q, before_here before here later i, omega (arith, h)) (w ∙ append_assoc a b us))

  clauses_more : (before default : Bool) {of : Clause} {later : List Clause} {d e : ℕ} {xs ys zs : List Sym} → Found (ClauseUpto before around n) InItems xs ((of, default), d) ys
      → Found (ClausesUpto (before || default) around n) InClauses ys (later, e) zs → Found (ClausesUpto before around n) InClauses xs (of ∷ later, max d e) zs
  clauses_more before default {of = of} {later = later} {d = d} {e = e} {xs = xs} {ys = ys} {zs = zs} f k = record {
    front = f.front ++ k.front;
    whole = f.whole ∙ ap (λ v. f.front ++ v) k.whole ∙ sym (append_assoc f.front k.front zs);
    derives = (
      default || k.derives.0,
      g.more_clauses f.derives.0 k.derives.1 (here_later before default k.derives.0 k.derives.2),
      before_both before default k.derives.0 f.derives.1 k.derives.2,
      omega (arith, f.derives.2, k.derives.3),
    );
    longest = λ a y us d w. go us d.1 d.2 d.3 w;
  }
    where
      behind : {b : List Sym} {v : List Clause} {o : ℕ} {here : Bool} (us : List Sym) → g.IsClauses true around here b v o → Starts InItems (b ++ us) → length zs < length (b ++ us)
          → (length zs < length us) × Starts InClauses us
      behind us g.no_clauses s h = (h, starts_clauses us s)
      behind us (g.more_clauses {xs = a} {ys = b} q r j) s h = absurd (clause_ends_items (b ++ us) q (subst (λ v. Starts InItems v) (append_assoc a b us) s))

      nonempty : 1 ≤ length f.front
      nonempty = let p = first_word f.derives.0 in omega (arith, ap length p.3)

      go : {a : List Sym} {u : List Clause} {o : ℕ} {here : Bool} (us : List Sym) → g.IsClauses true around here a u o → (before && here) ≡ false → o ≤ n → xs ≡ a ++ us
          → Ends {X = Deep (List Clause)} InClauses (of ∷ later, max d e) zs (u, o) us
      go us g.no_clauses i h w = inr (
        omega (arith, shorter k, nonempty, ap length f.whole, length-append f.front ys, ap length w),
        subst (λ v. Starts InClauses v) (sym f.whole ∙ w) (clause_starts ys f.derives.0),
      )
      go us (g.more_clauses {here = here} {later = after} {xs = a} {ys = b} {of = u} {rest = us'} {d = o} {e = l} q r j) i h w =
          elim (f.longest a ((u, here), o) (b ++ us) (q, before_here before here after i, omega (arith, h)) (w ∙ append_assoc a b us)) [
            | inl p ↦
                let same : default ≡ here = ap (λ (v : Deep (Clause × Bool)). v.0.1) p.0 in
                let apart : ((before || default) && after) ≡ false = subst (λ (v : Bool). ((before || v) && after) ≡ false) (sym same) (before_later before here after i j) in
                elim (k.longest b (us', l) us (after, r, apart, omega (arith, h)) p.1) [
                  | inl z ↦ inl (ap_both (λ (x : Deep (Clause × Bool)) (y : Deep (List Clause)). let v : Deep (List Clause) = (x.0.0 ∷ y.0, max x.1 y.1) in v) p.0 z.0, z.1)
                  | inr z ↦ inr z
                ]
            | inr p ↦ inr (behind us r p.1 (omega (arith, shorter k, p.0)))
          ]

  -- whatever is found from here makes what is found in all
  abbrev pub ClausesSoFar : Bool → List Clause → ℕ → List Sym → List Sym → Type 0
  ClausesSoFar before acc depth start xs = (ts : List Clause) (d : ℕ) (zs : List Sym) → Found (ClausesUpto before around n) InClauses xs (ts, d) zs
      → Found (ClausesUpto false around n) InClauses start (acc ++ ts, max depth d) zs

  pub clauses_start : (start : List Sym) → ClausesSoFar false [] 0 start start
  clauses_start start ts d zs f =
      let p : d ≡ max 0 d = omega arith in
      subst (λ (k : ℕ). Found (ClausesUpto false around n) InClauses start (ts, k) zs) p f

  pub so_far_as : (after : Bool) {before : Bool} {acc list : List Clause} {depth d : ℕ} → before ≡ after → acc ≡ list → depth ≡ d → (start xs : List Sym) → ClausesSoFar after list d start xs
      → ClausesSoFar before acc depth start xs
  so_far_as after {before = before} {acc = acc} {list = list} {depth = depth} {d = d} i j k start xs h =
      subst (λ (b : Bool). ClausesSoFar b acc depth start xs) (sym i) (under_both (λ (acc : List Clause) (depth : ℕ). ClausesSoFar after acc depth start xs) j k h)

  pub clauses_on : (before default : Bool) (acc : List Clause) (depth : ℕ) (start xs ys : List Sym) {of : Clause} {k : ℕ} → ClausesSoFar before acc depth start xs
      → Found (ClauseUpto before around n) InItems xs ((of, default), k) ys → ClausesSoFar (before || default) (acc ++ of ∷ []) (max depth k) start ys
  clauses_on before default acc depth start xs ys {of = of} {k = k} all f ts d zs q =
      let p : max depth (max k d) ≡ max (max depth k) d = omega arith in
      subst (λ (v : List Clause). Found (ClausesUpto false around n) InClauses start (v, max (max depth k) d) zs) (sym (append_assoc acc (of ∷ []) ts))
      (subst (λ (o : ℕ). Found (ClausesUpto false around n) InClauses start (acc ++ (of ∷ ts), o) zs) p (all (of ∷ ts) (max k d) zs (clauses_more before default f q)))

  pub clauses_end : (before : Bool) (acc : List Clause) (depth : ℕ) (start xs : List Sym) → ClausesSoFar before acc depth start xs → Lacks (ClauseUpto before around n) xs
      → Found (ClausesUpto false around n) InClauses start (acc, depth) xs
  clauses_end before acc depth start xs all h =
      let p : max depth 0 ≡ depth = omega arith in
      subst (λ (v : List Clause). Found (ClausesUpto false around n) InClauses start (v, depth) xs) (append-nil acc)
      (subst (λ (o : ℕ). Found (ClausesUpto false around n) InClauses start (acc ++ [], o) xs) p (all [] 0 xs (clauses_stop before xs h)))

  pub clause_falls : (before : Bool) {xs ys : List Sym} {x : Deep (Clause × Bool)} → Found (ClauseUpto before around n) InItems xs x ys → length ys < length xs
  clause_falls before {ys = ys} f = let p = first_word f.derives.0 in omega (arith, ap length p.3, ap length f.whole, length-append f.front ys)

-- ---- in braces

module _ (around : Around) (n : ℕ) where
  ends_clauses_here : (p : ℕ) → InClauses (Mark m.CloseBrace p) → ⊥
  ends_clauses_here p e = let q : true ≡ false = e in cc

  braced_inside : (o : ℕ) {xs a : List Sym} (us : List Sym) {y : Deep (List Clause)} (d : BracedClausesUpto around n a y) → Mark m.OpenBrace o ∷ xs ≡ a ++ us → xs ≡ d.2 ++ (Mark m.CloseBrace d.1 ∷ us)
  braced_inside o {xs = xs} us d w =
      let whole : Mark m.OpenBrace o ∷ xs ≡ Mark m.OpenBrace d.0 ∷ (d.2 ++ (Mark m.CloseBrace d.1 ∷ us)) =
      w ∙ ap (λ v. v ++ us) d.3 ∙ ap (λ v. Mark m.OpenBrace d.0 ∷ v) (append_assoc d.2 (Mark m.CloseBrace d.1 ∷ []) us) in
      cc

  pub braced_found : (o p : ℕ) {xs ys : List Sym} {x : Deep (List Clause)} → Found (ClausesUpto false around n) InClauses xs x (Mark m.CloseBrace p ∷ ys)
      → Found (BracedClausesUpto around n) Never (Mark m.OpenBrace o ∷ xs) x ys
  braced_found o p {xs = xs} {ys = ys} {x = x} f = record {
    front = Mark m.OpenBrace o ∷ (f.front ++ (Mark m.CloseBrace p ∷ []));
    whole = ap (λ v. Mark m.OpenBrace o ∷ v) (f.whole ∙ sym (append_assoc f.front (Mark m.CloseBrace p ∷ []) ys));
    derives = (o, p, f.front, refl, f.derives);
    longest = λ a y us d w.
        let q = exact f d.2 y (Mark m.CloseBrace d.1 ∷ us) d.4 (braced_inside o us d w) (ends_clauses_here d.1) in
        inl (q.0, cc);
  }

  pub braced_lacks_open : (xs : List Sym) → ((at : ℕ) (zs : List Sym) → xs ≡ Mark m.OpenBrace at ∷ zs → ⊥) → Lacks (BracedClausesUpto around n) xs
  braced_lacks_open xs h = record { none = λ a y us d w. h d.0 ((d.2 ++ (Mark m.CloseBrace d.1 ∷ [])) ++ us) (w ∙ ap (λ v. v ++ us) d.3) }

  pub braced_lacks_close : (o : ℕ) {xs ys : List Sym} {x : Deep (List Clause)} → Found (ClausesUpto false around n) InClauses xs x ys → ((at : ℕ) (zs : List Sym) → ys ≡ Mark m.CloseBrace at ∷ zs → ⊥)
      → Lacks (BracedClausesUpto around n) (Mark m.OpenBrace o ∷ xs)
  braced_lacks_close o f h = record {
    none = λ a y us d w.
        let q = exact f d.2 y (Mark m.CloseBrace d.1 ∷ us) d.4 (braced_inside o us d w) (ends_clauses_here d.1) in
        h d.1 us q.1;
  }

-- ---- `switch`

module _ (around : Around) (n : ℕ) (spelled : List ℕ) (place : ℕ) where
  pub switch_shallow : {xs vs : List Sym} → xs ≡ word words.Switch spelled place ∷ vs → n ≡ 0 → Lacks (StmtUpto around false n) xs
  switch_shallow e i = stmt_lacks around n (word words.Switch spelled place) e refl (not_given _ _ (λ h. omega (arith, h, i)))

  pub switch_lacks_head : {xs vs : List Sym} → xs ≡ word words.Switch spelled place ∷ vs → Lacks (HeadUpto (n - 1)) vs → Lacks (StmtUpto around false n) xs
  switch_lacks_head e f =
      stmt_lacks around n (word words.Switch spelled place) e refl (given_lacks (0 < n) (image_lacks (switch_of place) (then_lacks (BracedClausesUpto (a_switch around) (n - 1)) f)))

  pub switch_lacks_clauses : (inside : Around) → inside ≡ a_switch around → {xs vs ys : List Sym} {x : Deep Expr} → xs ≡ word words.Switch spelled place ∷ vs → Found (HeadUpto (n - 1)) Never vs x ys
      → Lacks (BracedClausesUpto inside (n - 1)) ys → Lacks (StmtUpto around false n) xs
  switch_lacks_clauses inside i {ys = ys} e f k =
      stmt_lacks around n (word words.Switch spelled place) e refl
      (given_lacks (0 < n) (image_lacks (switch_of place) (then_lacks_second (apart_never (BracedClausesUpto (a_switch around) (n - 1))) f
      (subst (λ (a : Around). Lacks (BracedClausesUpto a (n - 1)) ys) i k))))

  pub switch_reads : (inside : Around) → inside ≡ a_switch around → (r : Reader) (at : ℕ) (x : Deep Expr) (y : Deep (List Clause)) (middle next : ℕ)
      → rest r at ≡ word words.Switch spelled place ∷ rest r (at + 1) → 0 < n → next ≤ length r.tokens.now
      → Found (HeadUpto (n - 1)) Never (rest r (at + 1)) x (rest r middle) → Found (BracedClausesUpto inside (n - 1)) Never (rest r middle) y (rest r next)
      → ReadsStmt around n r at (Some (record { tree = stmt.Switch place x.0 y.0; depth = max x.1 y.1 + 1; next = next; closed = true }))
  switch_reads inside i r at x y middle next e some h f k =
      exact_reads around n (word words.Switch spelled place) r at _ (switch_of place (x, y)) next e refl h refl
      (given_found some (image_found (switch_of place) (then_found (apart_never (BracedClausesUpto (a_switch around) (n - 1))) f
      (subst (λ (a : Around). Found (BracedClausesUpto a (n - 1)) Never (rest r middle) y (rest r next)) i k))))
