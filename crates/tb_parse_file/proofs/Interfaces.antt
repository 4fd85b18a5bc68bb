-- Interfaces.
use Rattle.std.proofs.Common.{◌≡◌, ℕ, ◌≤◌, true, false, List, [], ◌∷◌, ◌++◌, refl, sym, ◌∙◌, ap, subst, append_assoc}
use Rattle.tb_tree.specs.declared.marks.Mark.TheVariants as m
use Rattle.tb_tree.specs.declared.words.Word.{Word}
use Rattle.tb_tree.specs.declared.words.Word.TheVariants as words
use Rattle.tb_tree.specs.declared.types.TypeMember.{TypeMember}
use Rattle.tb_tree.specs.declared.exprs.Identifier.{Identifier}
use Rattle.tb_tree.specs.declared.items.Base.{Base}
use Rattle.tb_tree.specs.declared.items.Interface.{Interface}
use Rattle.tb_tree.specs.Sym.{Sym, Mark}
use Rattle.tb_tree.specs.Words.{is_type_name}
use Rattle.tb_tree.specs.Longest.{Found, Lacks, Starts, Never}
use Rattle.tb_tree.specs.Shapes.{word, max_depth}
use Rattle.tb_tree.specs.Items.{IsBases, IsInterface, interface}
use Rattle.tb_tree.proofs.Ends.{both, ap_both}
use Rattle.tb_parse_type.specs.Rules.{Counted, limits, MembersUpto, InMembers}
use Rattle.tb_parse_body.specs.Rules.{Deep}
use Rattle.tb_parse_body.proofs.Sequences.{ThenBy, Apart, Delimited, then_found, then_lacks, then_lacks_second, apart_passes, mark_lacks, in_delimiters, delimited, delimited_lacks_close}
use Rattle.tb_parse_file.specs.Rules.{InterfaceUpto, InBases}
use Rattle.tb_parse_file.proofs.Headed.{Continues, headed_found, headed_lacks}

abbrev pub interface_of : ℕ → List ℕ → List Base → List TypeMember → Interface
interface_of at name bases members = record { at = at; name = name; variables = []; extends = bases; members = members }

pub same_interface : {o at d : ℕ} {t s : List ℕ} {vs : List Identifier} (bases : List Base) (members : List TypeMember) → o ≡ at → t ≡ s → vs ≡ []
    → ◌≡◌ {A = Deep Interface} (record { at = o; name = t; variables = vs; extends = bases; members = members }, d) (interface_of at s bases members, d)
same_interface {at = at} {d = d} {t = t} {s = s} {vs = vs} bases members e h i =
    ap (λ (x : ℕ). let y : Deep Interface = (record { at = x; name = t; variables = vs; extends = bases; members = members }, d) in y) e
    ∙ ap (λ (x : List ℕ). let y : Deep Interface = (record { at = at; name = x; variables = vs; extends = bases; members = members }, d) in y) h
    ∙ ap (λ (x : List Identifier). let y : Deep Interface = (record { at = at; name = s; variables = x; extends = bases; members = members }, d) in y) i

-- what follows the name: bases, and members in braces
abbrev Parts : Type 0
Parts = List Base × (ℕ × (Counted (List TypeMember) × ℕ))

abbrev Members : ℕ → List Sym → ℕ × (Counted (List TypeMember) × ℕ) → Type 0
Members n = Delimited m.OpenBrace m.CloseBrace (MembersUpto (limits max_depth n))

abbrev Behind : ℕ → List Sym → Parts → Type 0
Behind n = ThenBy (IsBases words.Extends) (λ of. Members n)

abbrev made : ℕ → List ℕ → Parts → Deep Interface
made at name r = (interface_of at name r.0 r.1.1.0.0, r.1.1.0.2)

members_apart : (n : ℕ) → Apart {X = List Base} InBases (λ of. Members n)
members_apart n x b y us d s =
    let e : b ≡ Mark m.OpenBrace y.0 ∷ d.1 = d.2 ∙ ap (λ v. v ++ d.1) d.3 in
    let n : true ≡ false = subst (λ v. Starts InBases (v ++ us)) e s in cc

abbrev head : Word → List ℕ → ℕ → List ℕ → ℕ → List Sym
head k s o t p = word words.Interface s o ∷ word k t p ∷ []

interface_forth : (n : ℕ) (k : Word) (s : List ℕ) (o : ℕ) (t : List ℕ) (p : ℕ) (r : Parts) → is_type_name k ≡ true → (b : List Sym) → Behind n b r → InterfaceUpto n (head k s o t p ++ b) (made p t r)
interface_forth n k s o t p r h b d =
    let q = in_delimiters (MembersUpto (limits max_depth n)) d.4 in
    let fit = q.2 in
    let e : b ≡ d.0 ++ Mark m.OpenBrace r.1.0 ∷ q.0 ++ Mark m.CloseBrace r.1.1.1 ∷ [] =
    d.2 ∙ ap (λ v. d.0 ++ v) q.1 ∙ sym (append_assoc d.0 (Mark m.OpenBrace r.1.0 ∷ q.0) (Mark m.CloseBrace r.1.1.1 ∷ [])) in (
      subst (λ v. IsInterface (word words.Interface s o ∷ word k t p ∷ v) (interface_of p t r.0 r.1.1.0.0) r.1.1.0.2) (sym e) (interface s o t p r.1.0 r.1.1.1 h d.3 fit.0 fit.1.0),
      fit.1.1,
    )

interface_back : (n : ℕ) (k : Word) (s : List ℕ) (o : ℕ) (t : List ℕ) (p : ℕ) (xs : List Sym) → Continues (made p t) (Behind n) (InterfaceUpto n) (head k s o t p) xs
interface_back n k s o t p xs a u us d w = go us d.0 d.1 w
  where
    go : {a : List Sym} {u : Interface} {e : ℕ} (us : List Sym) → IsInterface a u e → e ≤ n → word words.Interface s o ∷ word k t p ∷ xs ≡ a ++ us
        → (b : List Sym) × (r : Parts) × Behind n b r × (xs ≡ b ++ us) × (made p t r ≡ (u, e))
    go us (interface s' o' t' p' q c {xs = b} {ys = y} {bases = bases} {of = of} {own = own} {depth = depth} i x z h) fit v =
        let behind : xs ≡ (b ++ Mark m.OpenBrace q ∷ y ++ Mark m.CloseBrace c ∷ []) ++ us = cc in
        let name : t ≡ t' = cc in
        let place : p ≡ p' = cc in (
          b ++ (Mark m.OpenBrace q ∷ y ++ Mark m.CloseBrace c ∷ []),
          (bases, (q, ((of, own, depth), c))),
          (
            b,
            Mark m.OpenBrace q ∷ y ++ Mark m.CloseBrace c ∷ [],
            refl,
            x,
            (Mark m.OpenBrace q ∷ [], y ++ Mark m.CloseBrace c ∷ [], refl, refl, (y, Mark m.CloseBrace c ∷ [], refl, (z, (h, fit)), refl)),
          ),
          behind ∙ ap (λ x. x ++ us) (append_assoc b (Mark m.OpenBrace q ∷ y) (Mark m.CloseBrace c ∷ [])),
          both (ap_both (λ (x : ℕ) (y : List ℕ). interface_of x y bases of) place name) refl,
        )

members_end : (at : ℕ) → InMembers (Mark m.CloseBrace at) → ⊥
members_end at h = let n : true ≡ false = h in cc

pub interface_found : {of : List Base} {r : Counted (List TypeMember)} {xs ys zs : List Sym} (n : ℕ) (k : Word) (s : List ℕ) (o : ℕ) (t : List ℕ) (p q c : ℕ) → is_type_name k ≡ true
    → Found (IsBases words.Extends) InBases xs of (Mark m.OpenBrace q ∷ ys) → Found (MembersUpto (limits max_depth n)) InMembers ys r (Mark m.CloseBrace c ∷ zs)
    → Found (InterfaceUpto n) Never (word words.Interface s o ∷ word k t p ∷ xs) (interface_of p t of r.0, r.2) zs
interface_found {of = of} {r = r} {xs = xs} {ys = ys} {zs = zs} n k s o t p q c h f g =
    headed_found (made p t) (head k s o t p) (interface_forth n k s o t p (of, (q, (r, c))) h) (interface_back n k s o t p xs)
    (then_found (apart_passes Never (members_apart n)) f (delimited q c zs members_end g))

pub interface_lacks_open : {of : List Base} {xs ys : List Sym} (n : ℕ) (k : Word) (s : List ℕ) (o : ℕ) (t : List ℕ) (p : ℕ) → Found (IsBases words.Extends) InBases xs of ys
    → ((q : ℕ) (zs : List Sym) → ys ≡ Mark m.OpenBrace q ∷ zs → ⊥) → Lacks (InterfaceUpto n) (word words.Interface s o ∷ word k t p ∷ xs)
interface_lacks_open {xs = xs} {ys = ys} n k s o t p f h =
    headed_lacks (made p t) (head k s o t p) (interface_back n k s o t p xs) (then_lacks_second (members_apart n) f (then_lacks _ (mark_lacks m.OpenBrace ys h)))

pub interface_lacks_close : {of : List Base} {r : Counted (List TypeMember)} {xs ys zs : List Sym} (n : ℕ) (k : Word) (s : List ℕ) (o : ℕ) (t : List ℕ) (p q : ℕ)
    → Found (IsBases words.Extends) InBases xs of (Mark m.OpenBrace q ∷ ys) → Found (MembersUpto (limits max_depth n)) InMembers ys r zs → ((c : ℕ) (us : List Sym) → zs ≡ Mark m.CloseBrace c ∷ us → ⊥)
    → Lacks (InterfaceUpto n) (word words.Interface s o ∷ word k t p ∷ xs)
interface_lacks_close {xs = xs} n k s o t p q f g h =
    headed_lacks (made p t) (head k s o t p) (interface_back n k s o t p xs) (then_lacks_second (members_apart n) f (delimited_lacks_close q members_end g h))

pub interface_lacks_name : (n : ℕ) (s : List ℕ) (o : ℕ) (xs : List Sym) → ((k : Word) (t : List ℕ) (p : ℕ) → is_type_name k ≡ true → (zs : List Sym) → xs ≡ word k t p ∷ zs → ⊥)
    → Lacks (InterfaceUpto n) (word words.Interface s o ∷ xs)
interface_lacks_name n s o xs h = record { none = λ a u us d w. go us d.0 w }
  where
    go : {a : List Sym} {u : Interface} {e : ℕ} (us : List Sym) → IsInterface a u e → word words.Interface s o ∷ xs ≡ a ++ us → ⊥
    go us (interface {kind = k} s' o' t p q c {xs = b} {ys = y} i x z j) v = h k t p i (b ++ Mark m.OpenBrace q ∷ y ++ Mark m.CloseBrace c ∷ [] ++ us) cc

pub interface_lacks_word : (n : ℕ) (xs : List Sym) → ((s : List ℕ) (o : ℕ) (zs : List Sym) → xs ≡ word words.Interface s o ∷ zs → ⊥) → Lacks (InterfaceUpto n) xs
interface_lacks_word n xs h = record { none = λ a u us d w. go us d.0 w }
  where
    go : {a : List Sym} {u : Interface} {e : ℕ} (us : List Sym) → IsInterface a u e → xs ≡ a ++ us → ⊥
    go us (interface {kind = k} s o t p q c {xs = b} {ys = y} i x z j) v = h s o (word k t p ∷ b ++ Mark m.OpenBrace q ∷ y ++ Mark m.CloseBrace c ∷ [] ++ us) v
