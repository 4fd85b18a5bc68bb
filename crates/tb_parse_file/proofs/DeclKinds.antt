-- The choice between what is declared without bodies.
use Rattle.std.proofs.Common.{◌≡◌, ℕ, ◌≤◌, max, List, [], ◌∷◌, ◌++◌, refl, sym, ◌∙◌, ap, inl, inr, arith, append_assoc}
use Rattle.std.specs.Prelude.{◌⊎◌, Option, Some}
use Rattle.tb_tree.specs.declared.marks.Mark.TheVariants as m
use Rattle.tb_tree.specs.declared.words.Word.{Word}
use Rattle.tb_tree.specs.declared.words.Word.TheVariants as words
use Rattle.tb_tree.specs.declared.words.Class.TheVariants as c
use Rattle.tb_tree.specs.declared.exprs.VarKind.{VarKind}
use Rattle.tb_tree.specs.declared.items.Interface.{Interface}
use Rattle.tb_tree.specs.declared.items.Alias.{Alias}
use Rattle.tb_tree.specs.declared.items.Declared.{Declared}
use Rattle.tb_tree.specs.declared.items.Declared.TheVariants as declared
use Rattle.tb_tree.specs.declared.items.DeclaredClass.{DeclaredClass}
use Rattle.tb_tree.specs.Sym.{Sym, Mark, Lex}
use Rattle.tb_tree.specs.Shapes.{max_depth, word}
use Rattle.tb_tree.specs.Types.{shape}
use Rattle.tb_tree.specs.Exprs.{kind_of}
use Rattle.tb_tree.specs.Longest.{Found, Lacks, Never}
use Rattle.tb_tree.specs.Items as items
use Rattle.tb_tree.specs.Surfaces.{IsDeclared, signature}
use Rattle.tb_tree.specs.Surfaces as g
use Rattle.tb_tree.proofs.Ends.{under_both}
use Rattle.tb_parse_body.specs.Rules.{Deep}
use Rattle.tb_parse_body.proofs.FirstSymbols.{Image, image_found, found_by}
use Rattle.tb_parse_file.specs.Rules.{InterfaceUpto, AliasUpto}
use Rattle.tb_parse_file.specs.DeclRules.{VariableRule, kind_by, FunctionRule, ClassRule, DeclaredRule}

-- ---- a kind, and its tree

abbrev pub class_tree : DeclaredClass → Declared
class_tree of = declared.Class of

abbrev pub interface_tree : Deep Interface → Declared
interface_tree r = declared.Interface r.0

abbrev pub alias_tree : Deep Alias → Declared
alias_tree r = declared.Alias r.0

abbrev ClassKind : List Sym → Declared → Type 0
ClassKind = Image class_tree ClassRule

abbrev InterfaceKind : List Sym → Declared → Type 0
InterfaceKind = Image interface_tree (InterfaceUpto max_depth)

abbrev AliasKind : List Sym → Declared → Type 0
AliasKind = Image alias_tree (AliasUpto max_depth)

-- what is declared is of one of five kinds
as_kind : {a : List Sym} {of : Declared} → DeclaredRule a of → (VariableRule a of ⊎ FunctionRule a of) ⊎ (ClassKind a of ⊎ (InterfaceKind a of ⊎ AliasKind a of))
as_kind d = go d.1 d.2
  where
    go : {a : List Sym} {of : Declared} {e : ℕ} → IsDeclared a of e → e ≤ max_depth → (VariableRule a of ⊎ FunctionRule a of) ⊎ (ClassKind a of ⊎ (InterfaceKind a of ⊎ AliasKind a of))
    go (g.declared_variable {word_kind = k} {kind = kind} {name_kind = n} ks ka s at semicolon {of = t} {d = d} i j (shape colon {xs = v} {own = own} ty h)) fit = inl (inl (
      k,
      ks,
      ka,
      n,
      s,
      at,
      (Mark m.Colon colon ∷ v) ++ (Mark m.Semicolon semicolon ∷ []),
      t,
      refl,
      (kind, i),
      j,
      (colon, semicolon, v, own, d, refl, (ty, (h, fit))),
      ap (λ (o : Option VarKind). declared.Variable at (kind_by o) s t) i,
    ))
    go (g.declared_function {kind = n} ks ka s at semicolon {params = ps} {of = t} {d = d} {e = e} j (signature o p {xs = y} {own = own} pr h) (shape colon {xs = v} {own = more} ty q)) fit = inl (inr (
      words.Function,
      ks,
      ka,
      n,
      s,
      at,
      (Mark m.OpenParen o ∷ y ++ Mark m.CloseParen p ∷ []) ++ ((Mark m.Colon colon ∷ v) ++ (Mark m.Semicolon semicolon ∷ [])),
      (ps, t),
      ap (λ x. word words.Function ks ka ∷ word n s at ∷ x) (append_assoc (Mark m.OpenParen o ∷ y ++ Mark m.CloseParen p ∷ []) (Mark m.Colon colon ∷ v) (Mark m.Semicolon semicolon ∷ [])),
      refl,
      j,
      (
        Mark m.OpenParen o ∷ y ++ Mark m.CloseParen p ∷ [],
        (Mark m.Colon colon ∷ v) ++ (Mark m.Semicolon semicolon ∷ []),
        refl,
        (o, p, y, own, d, refl, (pr, (h, omega (arith, fit)))),
        (colon, semicolon, v, more, e, refl, (ty, (q, omega (arith, fit)))),
      ),
      refl,
    ))
    go (g.declared_class {kind = n} {constructed = constructed} ks ka s at o p {xs = xs} {ys = ys} {bases = bases} {of = of} {d = d} j bs ms) fit = inr (inl (
      record { at = at; name = s; implements = bases; members = of },
      (
        words.Class,
        ks,
        ka,
        n,
        s,
        at,
        xs ++ (Mark m.OpenBrace o ∷ (ys ++ (Mark m.CloseBrace p ∷ []))),
        (bases, of),
        ap (λ x. word words.Class ks ka ∷ word n s at ∷ x) (append_assoc xs (Mark m.OpenBrace o ∷ ys) (Mark m.CloseBrace p ∷ [])),
        refl,
        j,
        (xs, Mark m.OpenBrace o ∷ (ys ++ (Mark m.CloseBrace p ∷ [])), refl, bs, (o, p, ys, refl, (constructed, (d, ms, fit), refl))),
        refl,
      ),
      refl,
    ))
    go (g.declared_interface {of = of} {d = d} q) fit = inr (inr (inl ((of, d), (q, fit), refl)))
    go (g.declared_alias {of = of} {d = d} q) fit = inr (inr (inr ((of, d), (q, fit), refl)))

-- ---- of each kind something is declared

declared_as : {a u : List Sym} {r v : Declared} → a ≡ u → r ≡ v → DeclaredRule u v → DeclaredRule a r
declared_as e i h = under_both (λ (a : List Sym) (r : Declared). DeclaredRule a r) e i h

from_variable : {a : List Sym} {of : Declared} → VariableRule a of → DeclaredRule a of
from_variable {a = a} {of = of} d =
    let k = d.9 in
    let y = d.11 in
    let made = g.declared_variable d.1 d.2 d.4 d.5 y.1 k.1 d.10 (shape y.0 y.6.0 y.6.1.0) in
    let whole : a ≡ word d.0 d.1 d.2 ∷ word d.3 d.4 d.5 ∷ (Mark m.Colon y.0 ∷ y.2) ++ Mark m.Semicolon y.1 ∷ [] = d.8 ∙ ap (λ v. word d.0 d.1 d.2 ∷ word d.3 d.4 d.5 ∷ v) y.5 in
    let tree : of ≡ declared.Variable d.5 k.0 d.4 d.7 = sym d.12 ∙ ap (λ (o : Option VarKind). declared.Variable d.5 (kind_by o) d.4 d.7) k.1 in
    declared_as whole tree (y.4, made, y.6.1.1)

from_function : {a : List Sym} {of : Declared} → FunctionRule a of → DeclaredRule a of
from_function {a = a} {of = of} d =
    let t = d.11 in
    let x = t.3 in
    let y = t.4 in
    let u = Mark m.OpenParen x.0 ∷ x.2 ++ Mark m.CloseParen x.1 ∷ [] in
    let v = Mark m.Colon y.0 ∷ y.2 in
    let s = Mark m.Semicolon y.1 in
    let made = g.declared_function d.1 d.2 d.4 d.5 y.1 d.10 (signature x.0 x.1 x.6.0 x.6.1.0) (shape y.0 y.6.0 y.6.1.0) in
    let behind : d.6 ≡ u ++ v ++ s ∷ [] = t.2 ∙ ap (λ b. b ++ t.1) x.5 ∙ ap (λ b. u ++ b) y.5 ∙ sym (append_assoc u v (s ∷ [])) in
    let whole : a ≡ word words.Function d.1 d.2 ∷ word d.3 d.4 d.5 ∷ u ++ v ++ s ∷ [] =
    d.8 ∙ ap (λ (k : Word). word k d.1 d.2 ∷ word d.3 d.4 d.5 ∷ d.6) d.9 ∙ ap (λ b. word words.Function d.1 d.2 ∷ word d.3 d.4 d.5 ∷ b) behind in
    declared_as whole (sym d.12) (max x.4 y.4, made, omega (arith, x.6.1.1, y.6.1.1))

from_class : {a : List Sym} {of : Declared} → ClassKind a of → DeclaredRule a of
from_class {a = a} {of = of} q =
    let d = q.1 in
    let t = d.11 in
    let b = t.4 in
    let ms = b.4.1 in
    let made = g.declared_class d.1 d.2 d.4 d.5 b.0 b.1 d.10 t.3 ms.1 in
    let behind : d.6 ≡ t.0 ++ Mark m.OpenBrace b.0 ∷ b.2 ++ Mark m.CloseBrace b.1 ∷ [] = t.2 ∙ ap (λ v. t.0 ++ v) b.3 ∙ sym (append_assoc t.0 (Mark m.OpenBrace b.0 ∷ b.2) (Mark m.CloseBrace b.1 ∷ [])) in
    let whole : a ≡ word words.Class d.1 d.2 ∷ word d.3 d.4 d.5 ∷ t.0 ++ Mark m.OpenBrace b.0 ∷ b.2 ++ Mark m.CloseBrace b.1 ∷ [] =
    d.8 ∙ ap (λ (k : Word). word k d.1 d.2 ∷ word d.3 d.4 d.5 ∷ d.6) d.9 ∙ ap (λ v. word words.Class d.1 d.2 ∷ word d.3 d.4 d.5 ∷ v) behind in
    declared_as whole (sym q.2 ∙ ap class_tree (sym d.12)) (ms.0, made, ms.2)

from_interface : {a : List Sym} {of : Declared} → InterfaceKind a of → DeclaredRule a of
from_interface d = declared_as refl (sym d.2) (d.0.1, g.declared_interface d.1.0, d.1.1)

from_alias : {a : List Sym} {of : Declared} → AliasKind a of → DeclaredRule a of
from_alias d = declared_as refl (sym d.2) (d.0.1, g.declared_alias d.1.0, d.1.1)

-- ---- the first word tells the kind

abbrev pub word_tag : Word → ℕ
word_tag words.Const = 0
word_tag words.Let = 0
word_tag words.Function = 1
word_tag words.Class = 2
word_tag words.Interface = 3
word_tag words.Type = 4
word_tag words.Import = 5
word_tag words.Export = 6
word_tag words.Declare = 7
word_tag _ = 8

abbrev pub tag : Sym → ℕ
tag (Lex (c.Word kind) spelled at) = word_tag kind
tag _ = 8

abbrev pub first : List Sym → ℕ
first [] = 8
first (s ∷ ss) = tag s

kind_tag : (k : Word) (kind : VarKind) → kind_of k ≡ Some kind → word_tag k ≡ 0
kind_tag words.Const kind e = refl
kind_tag words.Let kind e = refl
kind_tag _ kind e = cc

variable_first : {a : List Sym} {of : Declared} (us : List Sym) → VariableRule a of → first (a ++ us) ≡ 0
variable_first us d = let k = d.9 in ap (λ v. first (v ++ us)) d.8 ∙ kind_tag d.0 k.0 k.1

function_first : {a : List Sym} {of : Declared} (us : List Sym) → FunctionRule a of → first (a ++ us) ≡ 1
function_first us d = ap (λ v. first (v ++ us)) d.8 ∙ ap word_tag d.9

class_first : {a : List Sym} {of : Declared} (us : List Sym) → ClassKind a of → first (a ++ us) ≡ 2
class_first us q = let d = q.1 in ap (λ v. first (v ++ us)) d.8 ∙ ap word_tag d.9

interface_first : {a : List Sym} {of : Declared} (us : List Sym) → InterfaceKind a of → first (a ++ us) ≡ 3
interface_first us d = go d.1.0
  where
    go : {a : List Sym} {u : Interface} {e : ℕ} → items.IsInterface a u e → first (a ++ us) ≡ 3
    go (items.interface ks ka s at o p n q r h) = refl

alias_first : {a : List Sym} {of : Declared} (us : List Sym) → AliasKind a of → first (a ++ us) ≡ 4
alias_first us d = go d.1.0
  where
    go : {a : List Sym} {u : Alias} {e : ℕ} → items.IsAlias a u e → first (a ++ us) ≡ 4
    go (items.alias ks ka s at assign semicolon n q h) = refl

pub declared_first : {a : List Sym} {of : Declared} (us : List Sym) → DeclaredRule a of → first (a ++ us) ≤ 4
declared_first us d = elim (as_kind d) [
  | inl p ↦ elim p [
    | inl q ↦ omega (arith, variable_first us q)
    | inr q ↦ omega (arith, function_first us q)
  ]
  | inr p ↦ elim p [
    | inl q ↦ omega (arith, class_first us q)
    | inr r ↦ elim r [
      | inl q ↦ omega (arith, interface_first us q)
      | inr q ↦ omega (arith, alias_first us q)
    ]
  ]
]

as_variable : {a : List Sym} {of : Declared} (us : List Sym) → DeclaredRule a of → first (a ++ us) ≡ 0 → VariableRule a of
as_variable us d e = elim (as_kind d) [
  | inl p ↦ elim p [
    | inl q ↦ q
    | inr q ↦ absurd (omega (arith, e, function_first us q))
  ]
  | inr p ↦ elim p [
    | inl q ↦ absurd (omega (arith, e, class_first us q))
    | inr r ↦ elim r [
      | inl q ↦ absurd (omega (arith, e, interface_first us q))
      | inr q ↦ absurd (omega (arith, e, alias_first us q))
    ]
  ]
]

as_function : {a : List Sym} {of : Declared} (us : List Sym) → DeclaredRule a of → first (a ++ us) ≡ 1 → FunctionRule a of
as_function us d e = elim (as_kind d) [
  | inl p ↦ elim p [
    | inl q ↦ absurd (omega (arith, e, variable_first us q))
    | inr q ↦ q
  ]
  | inr p ↦ elim p [
    | inl q ↦ absurd (omega (arith, e, class_first us q))
    | inr r ↦ elim r [
      | inl q ↦ absurd (omega (arith, e, interface_first us q))
      | inr q ↦ absurd (omega (arith, e, alias_first us q))
    ]
  ]
]

as_class : {a : List Sym} {of : Declared} (us : List Sym) → DeclaredRule a of → first (a ++ us) ≡ 2 → ClassKind a of
as_class us d e = elim (as_kind d) [
  | inl p ↦ elim p [
    | inl q ↦ absurd (omega (arith, e, variable_first us q))
    | inr q ↦ absurd (omega (arith, e, function_first us q))
  ]
  | inr p ↦ elim p [
    | inl q ↦ q
    | inr r ↦ elim r [
      | inl q ↦ absurd (omega (arith, e, interface_first us q))
      | inr q ↦ absurd (omega (arith, e, alias_first us q))
    ]
  ]
]

as_interface : {a : List Sym} {of : Declared} (us : List Sym) → DeclaredRule a of → first (a ++ us) ≡ 3 → InterfaceKind a of
as_interface us d e = elim (as_kind d) [
  | inl p ↦ elim p [
    | inl q ↦ absurd (omega (arith, e, variable_first us q))
    | inr q ↦ absurd (omega (arith, e, function_first us q))
  ]
  | inr p ↦ elim p [
    | inl q ↦ absurd (omega (arith, e, class_first us q))
    | inr r ↦ elim r [
      | inl q ↦ q
      | inr q ↦ absurd (omega (arith, e, alias_first us q))
    ]
  ]
]

as_alias : {a : List Sym} {of : Declared} (us : List Sym) → DeclaredRule a of → first (a ++ us) ≡ 4 → AliasKind a of
as_alias us d e = elim (as_kind d) [
  | inl p ↦ elim p [
    | inl q ↦ absurd (omega (arith, e, variable_first us q))
    | inr q ↦ absurd (omega (arith, e, function_first us q))
  ]
  | inr p ↦ elim p [
    | inl q ↦ absurd (omega (arith, e, class_first us q))
    | inr r ↦ elim r [
      | inl q ↦ absurd (omega (arith, e, interface_first us q))
      | inr q ↦ q
    ]
  ]
]

-- nothing that is declared begins with `type` and `{`
pub no_brace : {a : List Sym} {of : Declared} (t : List ℕ) (r p : ℕ) (us zs : List Sym) → DeclaredRule a of → a ++ us ≡ word words.Type t r ∷ Mark m.OpenBrace p ∷ zs → ⊥
no_brace t r p us zs d e = let q = as_alias us d (ap first e) in go q.1.0 e
  where
    go : {a : List Sym} {u : Alias} {d : ℕ} → items.IsAlias a u d → a ++ us ≡ word words.Type t r ∷ Mark m.OpenBrace p ∷ zs → ⊥
    go (items.alias ks ka s at assign semicolon n q h) e = cc

-- ---- what is found of a kind is what is declared

pub found_variable : {xs ys : List Sym} {of : Declared} → Found VariableRule Never xs of ys → Found DeclaredRule Never xs of ys
found_variable {ys = ys} f = found_by (λ a w d. from_variable d) (λ a u us d w. as_variable us d (ap first (sym w ∙ f.whole) ∙ variable_first ys f.derives)) f

pub found_function : {xs ys : List Sym} {of : Declared} → Found FunctionRule Never xs of ys → Found DeclaredRule Never xs of ys
found_function {ys = ys} f = found_by (λ a w d. from_function d) (λ a u us d w. as_function us d (ap first (sym w ∙ f.whole) ∙ function_first ys f.derives)) f

pub found_class : {xs ys : List Sym} {of : DeclaredClass} → Found ClassRule Never xs of ys → Found DeclaredRule Never xs (class_tree of) ys
found_class {xs = xs} {ys = ys} {of = of} f =
    let k : Found ClassKind Never xs (class_tree of) ys = image_found class_tree f in
    found_by (λ a w d. from_class d) (λ a u us d w. as_class us d (ap first (sym w ∙ k.whole) ∙ class_first ys k.derives)) k

pub found_interface : {xs ys : List Sym} {r : Deep Interface} → Found (InterfaceUpto max_depth) Never xs r ys → Found DeclaredRule Never xs (interface_tree r) ys
found_interface {xs = xs} {ys = ys} {r = r} f =
    let k : Found InterfaceKind Never xs (interface_tree r) ys = image_found interface_tree f in
    found_by (λ a w d. from_interface d) (λ a u us d w. as_interface us d (ap first (sym w ∙ k.whole) ∙ interface_first ys k.derives)) k

pub found_alias : {xs ys : List Sym} {r : Deep Alias} → Found (AliasUpto max_depth) Never xs r ys → Found DeclaredRule Never xs (alias_tree r) ys
found_alias {xs = xs} {ys = ys} {r = r} f =
    let k : Found AliasKind Never xs (alias_tree r) ys = image_found alias_tree f in
    found_by (λ a w d. from_alias d) (λ a u us d w. as_alias us d (ap first (sym w ∙ k.whole) ∙ alias_first ys k.derives)) k

pub declared_lacks : {xs : List Sym} → Lacks VariableRule xs → Lacks FunctionRule xs → Lacks ClassRule xs → Lacks (InterfaceUpto max_depth) xs → Lacks (AliasUpto max_depth) xs → Lacks DeclaredRule xs
declared_lacks f k l n o = record {
  none = λ a u us d w. elim (as_kind d) [
    | inl p ↦ elim p [
      | inl q ↦ f.none a u us q w
      | inr q ↦ k.none a u us q w
    ]
    | inr p ↦ elim p [
      | inl q ↦ l.none a q.0 us q.1 w
      | inr r ↦ elim r [
        | inl q ↦ n.none a q.0 us q.1 w
        | inr q ↦ o.none a q.0 us q.1 w
      ]
    ]
  ];
}
