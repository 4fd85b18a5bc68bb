-- How symbols come apart as the pieces that they are told by.
use Rattle.std.proofs.Common.{◌≡◌, ℕ, List, [], ◌∷◌, ◌++◌, map, refl, subst}
use Rattle.tb_tree.specs.declared.marks.Mark.{Mark as MarkKind}
use Rattle.tb_tree.specs.declared.words.Class.{Class}
use Rattle.tb_tree.specs.Sym.{Sym, Mark, Lex}
use Rattle.tb_emit_law.proofs.Symbols.{bare_sym}

-- no symbols
pub split_none : (P : List Sym → Type 0) (zs : List Sym) → map bare_sym zs ≡ [] → P [] → P zs
split_none P [] e p = p
split_none P (s ∷ zs) e p = absurd (cc e)

-- some symbol, and more
split_one : (P : List Sym → Type 0) (s : Sym) (fs zs : List Sym) → map bare_sym zs ≡ s ∷ fs
    → ((x : Sym) (ys : List Sym) → bare_sym x ≡ s → map bare_sym ys ≡ fs → P (x ∷ ys)) → P zs
split_one P s fs [] e f = absurd (cc e)
split_one P s fs (x ∷ zs) e f = f x zs (cc e) (cc e)

as_mark : (P : Sym → Type 0) (kind : MarkKind) (x : Sym) → bare_sym x ≡ Mark kind 0 → ((at : ℕ) → P (Mark kind at)) → P x
as_mark P kind (Mark own at) e f = subst (λ k. P (Mark k at)) (cc e) (f at)
as_mark P kind (Lex class spelled at) e f = absurd (cc e)

as_lex : (P : Sym → Type 0) (class : Class) (spelled : List ℕ) (x : Sym) → bare_sym x ≡ Lex class spelled 0 → ((at : ℕ) → P (Lex class spelled at)) → P x
as_lex P class spelled (Mark own at) e f = absurd (cc e)
as_lex P class spelled (Lex own text at) e f = subst (λ k. P (Lex k text at)) (cc e) (subst (λ t. P (Lex class t at)) (cc e) (f at))

-- a mark, and more
pub split_mark : (P : List Sym → Type 0) {kind : MarkKind} {fs : List Sym} (zs : List Sym) → map bare_sym zs ≡ Mark kind 0 ∷ fs
    → ((at : ℕ) (ys : List Sym) → map bare_sym ys ≡ fs → P (Mark kind at ∷ ys)) → P zs
split_mark P {kind = kind} {fs = fs} zs e f = split_one P (Mark kind 0) fs zs e (λ x ys a b. as_mark (λ s. P (s ∷ ys)) kind x a (λ at. f at ys b))

-- a token of another class, and more
pub split_lex : (P : List Sym → Type 0) {class : Class} {spelled : List ℕ} {fs : List Sym} (zs : List Sym) → map bare_sym zs ≡ Lex class spelled 0 ∷ fs
    → ((at : ℕ) (ys : List Sym) → map bare_sym ys ≡ fs → P (Lex class spelled at ∷ ys)) → P zs
split_lex P {class = class} {spelled = spelled} {fs = fs} zs e f = split_one P (Lex class spelled 0) fs zs e (λ x ys a b. as_lex (λ s. P (s ∷ ys)) class spelled x a (λ at. f at ys b))

-- and nothing more
pub last_mark : (P : List Sym → Type 0) {kind : MarkKind} (zs : List Sym) → map bare_sym zs ≡ Mark kind 0 ∷ [] → ((at : ℕ) → P (Mark kind at ∷ [])) → P zs
last_mark P {kind = kind} zs e f = split_mark P zs e λ at ys h. split_none (λ vs. P (Mark kind at ∷ vs)) ys h (f at)

pub last_lex : (P : List Sym → Type 0) {class : Class} {spelled : List ℕ} (zs : List Sym) → map bare_sym zs ≡ Lex class spelled 0 ∷ [] → ((at : ℕ) → P (Lex class spelled at ∷ [])) → P zs
last_lex P {class = class} {spelled = spelled} zs e f = split_lex P zs e λ at ys h. split_none (λ vs. P (Lex class spelled at ∷ vs)) ys h (f at)

-- two lists, one behind the other
pub split : (P : List Sym → Type 0) {es fs : List Sym} (zs : List Sym) → map bare_sym zs ≡ es ++ fs
    → ((xs ys : List Sym) → map bare_sym xs ≡ es → map bare_sym ys ≡ fs → P (xs ++ ys)) → P zs
split P {es = []} {fs = fs} zs e f = f [] zs refl e
split P {es = s ∷ es} {fs = fs} zs e f = split_one P s (es ++ fs) zs e (λ x ys a b. split (λ vs. P (x ∷ vs)) {es = es} {fs = fs} ys b (λ vs us c d. f (x ∷ vs) us (cc (a, c)) d))
