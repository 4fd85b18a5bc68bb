-- Symbols that read as a tree, wherever they stand.
use Rattle.std.proofs.Common.{◌≡◌, ℕ, ◌≤◌, Bool, true, false, ◌&&◌, List, [], ◌∷◌, ◌++◌, map, refl, sym, ap, subst, ◌∙◌, arith}
use Rattle.std.specs.Bool.{⊤}
use Rattle.std.specs.List.{AllByRecursion}
use Rattle.tb_tree.specs.declared.words.Class.TheVariants as c
use Rattle.tb_tree.specs.declared.words.Word.{Word}
use Rattle.tb_tree.specs.Sym.{Sym, Lex}
use Rattle.tb_tree.specs.Words.{is_name, word_of}
use Rattle.tb_layout.specs.Pieces.{Piece}
use Rattle.tb_emit_law.proofs.Symbols.{bare_sym, symbols_in}

-- the symbols read as a tree that is this one but for offsets, and no deeper than this
pub record ReadsBack {X : Type 0} (R : List Sym → X → ℕ → Type 0) (bare : X → X) (symbols : List Sym) (left : X) (depth : ℕ) : Type 0 where
  pub tree : X
  pub own : ℕ
  pub reads : R symbols tree own
  pub below : own ≤ depth
  pub same : bare tree ≡ bare left

-- the symbols of these pieces, wherever they stand, read as this tree
pub record Back {X : Type 0} (R : List Sym → X → ℕ → Type 0) (bare : X → X) (pieces : List Piece) (left : X) (depth : ℕ) : Type 0 where
  pub back : (symbols : List Sym) → map bare_sym symbols ≡ symbols_in pieces → ReadsBack R bare symbols left depth

-- where the order of parameters counts, no list of parameters has a `?` after a `=`
abbrev pub Where : Bool → Bool → Type 0
Where ordered steady = ordered ≡ true → steady ≡ true

-- a word is classed by its spelling
abbrev pub IsClassed : Sym → Type 0
IsClassed (Lex (c.Word kind) spelled at) = kind ≡ word_of spelled
IsClassed _ = ⊤

-- ---- what is read back, otherwise said

-- for any P that reading back gives
pub back_by : {X : Type 0} {R : List Sym → X → ℕ → Type 0} {bare : X → X} {p : List Piece} {left : X} {d : ℕ}
    → ((P : List Sym → Type 0) → ((vs : List Sym) → ReadsBack R bare vs left d → P vs) → (zs : List Sym) → map bare_sym zs ≡ symbols_in p → P zs)
    → Back R bare p left d
back_by {R = R} {bare = bare} {left = left} {d = d} f = record { back = λ zs w. f (λ vs. ReadsBack R bare vs left d) (λ vs r. r) zs w }

-- by another rule
pub through : {X : Type 0} {R S : List Sym → X → ℕ → Type 0} {bare : X → X} {p : List Piece} {left : X} {d : ℕ}
    → ((xs : List Sym) (of : X) (n : ℕ) → R xs of n → S xs of n) → Back R bare p left d → Back S bare p left d
through f x = record {
  back = λ zs w.
      let r = x.back zs w in
      record { tree = r.tree; own = r.own; reads = f zs r.tree r.own r.reads; below = r.below; same = r.same };
}

-- as a part of a larger tree
pub wrapped : {X Y : Type 0} {R : List Sym → X → ℕ → Type 0} {S : List Sym → Y → ℕ → Type 0} {bare : X → X} {bare_whole : Y → Y} {p : List Piece} {left : X} {d : ℕ}
    (f : X → Y) → ((of : X) → bare_whole (f of) ≡ f (bare of)) → ((xs : List Sym) (of : X) (n : ℕ) → R xs of n → S xs (f of) n)
    → Back R bare p left d → Back S bare_whole p (f left) d
wrapped {left = left} f e h x = record {
  back = λ zs w.
      let r = x.back zs w in
      record { tree = f r.tree; own = r.own; reads = h zs r.tree r.own r.reads; below = r.below; same = e r.tree ∙ ap f r.same ∙ sym (e left) };
}

-- with a greater depth
pub deeper : {X : Type 0} {R : List Sym → X → ℕ → Type 0} {bare : X → X} {p : List Piece} {left : X} {d e : ℕ} → d ≤ e → Back R bare p left d → Back R bare p left e
deeper h x = record {
  back = λ zs w.
      let r = x.back zs w in
      record { tree = r.tree; own = r.own; reads = r.reads; below = omega (arith, r.below, h); same = r.same };
}

-- of equal pieces and of an equal tree
pub seen : {X : Type 0} {R : List Sym → X → ℕ → Type 0} {bare : X → X} {p q : List Piece} {left of : X} {d : ℕ} → q ≡ p → of ≡ left → Back R bare p left d → Back R bare q of d
seen {R = R} {bare = bare} {q = q} {left = left} {d = d} e h x = subst (λ v. Back R bare q v d) (sym h) (subst (λ v. Back R bare v left d) (sym e) x)

-- of pieces with the same symbols
pub told_by : {X : Type 0} {R : List Sym → X → ℕ → Type 0} {bare : X → X} {p q : List Piece} {left : X} {d : ℕ} → symbols_in q ≡ symbols_in p → Back R bare p left d → Back R bare q left d
told_by e x = record { back = λ zs w. x.back zs (w ∙ e) }

pub ap_three : {A B C D : Type 0} (f : A → B → C → D) {a u : A} {b v : B} {c w : C} → a ≡ u → b ≡ v → c ≡ w → f a b c ≡ f u v w
ap_three f {a = a} {b = b} {v = v} {w = w} p q r = ap (λ z. f a b z) r ∙ ap (λ y. f a y w) q ∙ ap (λ x. f x v w) p

pub ap_four : {A B C D E : Type 0} (f : A → B → C → D → E) {a u : A} {b v : B} {c w : C} {d x : D} → a ≡ u → b ≡ v → c ≡ w → d ≡ x → f a b c d ≡ f u v w x
ap_four f {a = a} {u = u} {v = v} {w = w} {x = x} p q r s = ap_three (λ i j k. f a i j k) q r s ∙ ap (λ y. f y v w x) p

-- ---- words of a source

pub fore : (xs ys : List Sym) → AllByRecursion IsClassed (xs ++ ys) → AllByRecursion IsClassed xs
fore [] ys h = tt
fore (x ∷ xs) ys h = (h.0, fore xs ys h.1)

pub aft : (xs ys : List Sym) → AllByRecursion IsClassed (xs ++ ys) → AllByRecursion IsClassed ys
aft [] ys h = h
aft (x ∷ xs) ys h = aft xs ys h.1

-- a name of a source is one by its spelling
pub named : {kind : Word} (spelled : List ℕ) → kind ≡ word_of spelled → is_name kind ≡ true → is_name (word_of spelled) ≡ true
named spelled e h = sym (ap is_name e) ∙ h

-- ---- steady parts

pub where_as : {o a b : Bool} → a ≡ b → Where o a → Where o b
where_as e h = λ p. sym e ∙ h p

both_left : (a b : Bool) → (a && b) ≡ true → a ≡ true
both_left true b e = refl
both_left false b e = absurd (cc e)

both_right : (a b : Bool) → (a && b) ≡ true → b ≡ true
both_right true b e = e
both_right false b e = absurd (cc e)

pub part_left : {o w : Bool} (a b : Bool) → w ≡ (a && b) → Where o w → Where o a
part_left a b e h = λ p. both_left a b (sym e ∙ h p)

pub part_right : {o w : Bool} (a b : Bool) → w ≡ (a && b) → Where o w → Where o b
part_right a b e h = λ p. both_right a b (sym e ∙ h p)
