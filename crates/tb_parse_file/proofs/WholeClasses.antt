-- A class from its name, the names behind `implements`, and its members.
use Rattle.std.proofs.Common.{◌≡◌, ℕ, ◌+◌, ◌≤◌, true, false, List, [], ◌∷◌, ◌++◌, refl, sym, ◌∙◌, ap, subst, arith, append_assoc}
use Rattle.tb_tree.specs.declared.marks.Mark.TheVariants as m
use Rattle.tb_tree.specs.declared.words.Word.{Word}
use Rattle.tb_tree.specs.declared.words.Word.TheVariants as w
use Rattle.tb_tree.specs.declared.items.Base.{Base}
use Rattle.tb_tree.specs.declared.items.ClassMember.{ClassMember}
use Rattle.tb_tree.specs.declared.items.ClassDeclaration.{ClassDeclaration}
use Rattle.tb_tree.specs.Sym.{Sym, Mark}
use Rattle.tb_tree.specs.Words.{is_type_name}
use Rattle.tb_tree.specs.Shapes.{word}
use Rattle.tb_tree.specs.Longest.{Found, Lacks, Starts, Never}
use Rattle.tb_tree.specs.Items.{IsClass}
use Rattle.tb_tree.specs.Items as g
use Rattle.tb_tree.proofs.Ends.{both, under_both}
use Rattle.tb_parse_type.specs.declared.reader.Reader.{Reader}
use Rattle.tb_parse_type.specs.Reading.{rest}
use Rattle.tb_parse_type.specs.Rules.{Then}
use Rattle.tb_parse_body.specs.Rules.{Deep}
use Rattle.tb_parse_body.proofs.FirstSymbols.{Image, image_found, image_lacks, then_found, then_lacks_second, Apart}
use Rattle.tb_parse_file.specs.Rules.{BasesRule, ClassUpto, InBases}
use Rattle.tb_parse_file.specs.Classes.{BracedMembersUpto}

abbrev pub class_of : List ℕ → ℕ → List Base × Deep (List ClassMember) → Deep ClassDeclaration
class_of s at p = (record { at = at; name = s; implements = p.0; members = p.1.0 }, p.1.1)

-- what stands behind the name
abbrev Behind : ℕ → List ℕ → ℕ → List Sym → Deep ClassDeclaration → Type 0
Behind n s at = Image (class_of s at) (Then (BasesRule w.Implements) (BracedMembersUpto n))

abbrev ByName : ℕ → List Sym → Deep ClassDeclaration → Type 0
ByName n a r = (t : List ℕ) × (o : ℕ) × (k : Word) × (s : List ℕ) × (at : ℕ) × (b : List Sym) × (a ≡ word w.Class t o ∷ word k s at ∷ b) × (is_type_name k ≡ true) × Behind n s at b r

by_name : {a : List Sym} {of : ClassDeclaration} {d : ℕ} (n : ℕ) → IsClass true a of d → d ≤ n → ByName n a (of, d)
by_name n (g.class {kind = k} {constructed = c} t o s at p q {xs = xs} {ys = ys} {bases = bases} {of = of} {d = d} i bs ms) h = (
  t,
  o,
  k,
  s,
  at,
  xs ++ (Mark m.OpenBrace p ∷ (ys ++ (Mark m.CloseBrace q ∷ []))),
  ap (λ v. word w.Class t o ∷ word k s at ∷ v) (append_assoc xs (Mark m.OpenBrace p ∷ ys) (Mark m.CloseBrace q ∷ [])),
  i,
  ((bases, (of, d)), (xs, Mark m.OpenBrace p ∷ (ys ++ (Mark m.CloseBrace q ∷ [])), refl, bs, (p, q, ys, refl, (c, ms, refl, h))), refl),
)

class_as : {n : ℕ} {a u : List Sym} {r v : Deep ClassDeclaration} → a ≡ u → r ≡ v → ClassUpto n u v → ClassUpto n a r
class_as {n = n} e i h = under_both (λ (a : List Sym) (r : Deep ClassDeclaration). ClassUpto n a r) e i h

from_name : (n : ℕ) (t : List ℕ) (o : ℕ) (k : Word) (s : List ℕ) (at : ℕ) (b : List Sym) (r : Deep ClassDeclaration) → is_type_name k ≡ true → Behind n s at b r → ClassUpto n (word w.Class t o ∷ word k s at ∷ b) r
from_name n t o k s at b r i h =
    let f = h.1 in
    let q = f.4 in
    let same : b ≡ f.0 ++ Mark m.OpenBrace q.0 ∷ q.2 ++ Mark m.CloseBrace q.1 ∷ [] = f.2 ∙ ap (λ v. f.0 ++ v) q.3 ∙ sym (append_assoc f.0 (Mark m.OpenBrace q.0 ∷ q.2) (Mark m.CloseBrace q.1 ∷ [])) in
    class_as (ap (λ v. word w.Class t o ∷ word k s at ∷ v) same) (sym h.2) (g.class t o s at q.0 q.1 i f.3 q.4.1, q.4.3)

name_inside : {t t' s s' : List ℕ} {o o' at at' : ℕ} {k k' : Word} {vs ws : List Sym} → word w.Class t o ∷ word k s at ∷ vs ≡ word w.Class t' o' ∷ word k' s' at' ∷ ws → (s ≡ s') × (at ≡ at') × (vs ≡ ws)
name_inside e = (cc, cc, cc)

class_behind : (n : ℕ) (t : List ℕ) (o : ℕ) (k : Word) (s : List ℕ) (at : ℕ) {xs vs : List Sym} → xs ≡ word w.Class t o ∷ word k s at ∷ vs → (a : List Sym) (r : Deep ClassDeclaration) (us : List Sym)
    → ClassUpto n a r → xs ≡ a ++ us → (b : List Sym) × Behind n s at b r × (vs ≡ b ++ us)
class_behind n t o k s at e a r us d w =
    let p = by_name n d.0 d.1 in
    let q = name_inside (sym e ∙ w ∙ ap (λ v. v ++ us) p.6) in
    (p.5, under_both (λ (s : List ℕ) (o : ℕ). Behind n s o p.5 r) q.0 q.1 p.8, q.2)

pub class_lacks_word : (n : ℕ) (xs : List Sym) → ((t : List ℕ) (o : ℕ) (zs : List Sym) → xs ≡ word w.Class t o ∷ zs → ⊥) → Lacks (ClassUpto n) xs
class_lacks_word n xs h = record { none = λ a r us d w. let p = by_name n d.0 d.1 in h p.0 p.1 (word p.2 p.3 p.4 ∷ (p.5 ++ us)) (w ∙ ap (λ v. v ++ us) p.6) }

pub class_lacks_name : (n : ℕ) (t : List ℕ) (o : ℕ) {xs vs : List Sym} → xs ≡ word w.Class t o ∷ vs → ((k : Word) (s : List ℕ) (at : ℕ) → is_type_name k ≡ true → (zs : List Sym) → vs ≡ word k s at ∷ zs → ⊥)
    → Lacks (ClassUpto n) xs
class_lacks_name n t o {vs = vs} e h = record {
  none = λ a r us d v.
      let p = by_name n d.0 d.1 in
      let i : word w.Class t o ∷ vs ≡ word w.Class p.0 p.1 ∷ word p.2 p.3 p.4 ∷ (p.5 ++ us) = sym e ∙ v ∙ ap (λ u. u ++ us) p.6 in
      h p.2 p.3 p.4 p.7 (p.5 ++ us) cc;
}

braced_apart : (n : ℕ) → Apart InBases (BracedMembersUpto n)
braced_apart n b y us d s =
    let e : true ≡ false = subst (λ v. Starts InBases v) (ap (λ v. v ++ us) d.3) s in
    cc

pub class_lacks_members : (n : ℕ) (t : List ℕ) (o : ℕ) (k : Word) (s : List ℕ) (at : ℕ) {xs vs ys : List Sym} {bases : List Base} → xs ≡ word w.Class t o ∷ word k s at ∷ vs
    → Found (BasesRule w.Implements) InBases vs bases ys → Lacks (BracedMembersUpto n) ys → Lacks (ClassUpto n) xs
class_lacks_members n t o k s at {vs = vs} e f l =
    let all : Lacks (Behind n s at) vs = image_lacks (class_of s at) (then_lacks_second (braced_apart n) f l) in
    record { none = λ a r us d w. let p = class_behind n t o k s at e a r us d w in all.none p.0 r us p.1 p.2 }

pub class_found : (n : ℕ) (t : List ℕ) (o : ℕ) (k : Word) (s : List ℕ) (at : ℕ) {xs vs ys zs : List Sym} {bases : List Base} {x : Deep (List ClassMember)} → xs ≡ word w.Class t o ∷ word k s at ∷ vs → is_type_name k ≡ true
    → Found (BasesRule w.Implements) InBases vs bases ys → Found (BracedMembersUpto n) Never ys x zs → Found (ClassUpto n) Never xs (class_of s at (bases, x)) zs
class_found n t o k s at {vs = vs} {zs = zs} {bases = bases} {x = x} e i f l = record {
  front = word w.Class t o ∷ word k s at ∷ all.front;
  whole = e ∙ ap (λ v. word w.Class t o ∷ word k s at ∷ v) all.whole;
  derives = from_name n t o k s at all.front (class_of s at (bases, x)) i all.derives;
  longest = λ a r us d w. let p = class_behind n t o k s at e a r us d w in all.longest p.0 r us p.1 p.2;
}
  where
    all : Found (Behind n s at) Never vs (class_of s at (bases, x)) zs
    all = image_found (class_of s at) (then_found (braced_apart n) f l)

pub same_class : {at at' : ℕ} {s s' : List ℕ} (bases : List Base) (x : Deep (List ClassMember)) → at ≡ at' → s ≡ s' → class_of s at (bases, x) ≡ class_of s' at' (bases, x)
same_class bases x p q = cc

-- two symbols that follow one another at a place
pub two_stand : (r : Reader) (at : ℕ) {s t : Sym} → rest r at ≡ s ∷ rest r (at + 1) → rest r (at + 1) ≡ t ∷ rest r (at + 1 + 1) → rest r at ≡ s ∷ t ∷ rest r (at + 2)
two_stand r at {s = s} {t = t} e i =
    let p : at + 1 + 1 ≡ at + 2 = omega arith in
    e ∙ ap (λ v. s ∷ v) (i ∙ ap (λ n. t ∷ rest r n) p)
