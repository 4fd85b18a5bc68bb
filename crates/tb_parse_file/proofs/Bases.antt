-- Names with commas between, behind `extends` and `implements`.
use Rattle.std.proofs.Common.{◌≡◌, ℕ, ◌+◌, ◌<◌, true, List, [], ◌∷◌, ◌++◌, length, refl, sym, ◌∙◌, ap, subst, inl, inr, arith, append_assoc, length-append, append-nil}
use Rattle.std.specs.Prelude.{Option, Some, None}
use Rattle.tb_tree.specs.declared.marks.Mark.TheVariants as m
use Rattle.tb_tree.specs.declared.words.Word.{Word}
use Rattle.tb_tree.specs.declared.types.TypeExpr.{TypeExpr}
use Rattle.tb_tree.specs.declared.items.Base.{Base}
use Rattle.tb_tree.specs.Sym.{Sym, Mark}
use Rattle.tb_tree.specs.Words.{is_name}
use Rattle.tb_tree.specs.Longest.{Found, Lacks, Ends, Never}
use Rattle.tb_tree.specs.Shapes.{word, IsJoined, last_joined, more_joined}
use Rattle.tb_tree.specs.Items.{IsBase, base, IsBases, no_bases, some_bases}
use Rattle.tb_tree.proofs.Ends.{exact, shorter, starts_by, ap_both, never, found_from, lacks_from}
use Rattle.tb_parse_type.specs.declared.reader.Reader.{Reader}
use Rattle.tb_parse_type.specs.Reading.{Stands}
use Rattle.tb_parse_file.specs.declared.fronts.Part.{Part}
use Rattle.tb_parse_file.specs.Rules.{InBases}
use Rattle.tb_parse_file.specs.Declarations.{NextBaseRule}
use Rattle.tb_parse_file.specs.Reading.{ReadsPart}

-- ---- one name

abbrev pub base_of : ℕ → List ℕ → Base
base_of at name = record { at = at; name = name; arguments = [] }

pub same_base : {o at : ℕ} {t s : List ℕ} {xs : List TypeExpr} → o ≡ at → t ≡ s → xs ≡ [] → ◌≡◌ {A = Base} (record { at = o; name = t; arguments = xs }) (base_of at s)
same_base {at = at} {t = t} {s = s} {xs = xs} e h i =
    ap (λ (x : ℕ). let y : Base = record { at = x; name = t; arguments = xs } in y) e
    ∙ ap (λ (x : List ℕ). let y : Base = record { at = at; name = x; arguments = xs } in y) h
    ∙ ap (λ (x : List TypeExpr). let y : Base = record { at = at; name = s; arguments = x } in y) i

pub base_found : (k : Word) (s : List ℕ) (o : ℕ) (ys : List Sym) → is_name k ≡ true → Found IsBase Never (word k s o ∷ ys) (base_of o s) ys
base_found k s o ys h = record {
  front = word k s o ∷ [];
  whole = refl;
  derives = base s o h;
  longest = λ a u us d w. go us d w;
}
  where
    go : {a : List Sym} {u : Base} (us : List Sym) → IsBase a u → word k s o ∷ ys ≡ a ++ us → Ends {X = Base} Never (base_of o s) ys u us
    go us (base z p i) w =
        let name : s ≡ z = cc in
        let place : o ≡ p = cc in
        inl (ap_both (λ (x : ℕ) (y : List ℕ). base_of x y) place name, cc)

pub base_lacks : (xs : List Sym) → ((k : Word) (s : List ℕ) (o : ℕ) → is_name k ≡ true → (zs : List Sym) → xs ≡ word k s o ∷ zs → ⊥) → Lacks IsBase xs
base_lacks xs h = record { none = λ a u us d w. go us d w }
  where
    go : {a : List Sym} {u : Base} (us : List Sym) → IsBase a u → xs ≡ a ++ us → ⊥
    go us (base {kind = k} s o i) w = h k s o i us w

-- ---- `,` and a name

pub next_found : {x : Base} {xs ys : List Sym} (o : ℕ) → Found IsBase Never xs x ys → Found NextBaseRule Never (Mark m.Comma o ∷ xs) x ys
next_found {xs = xs} o f = record {
  front = Mark m.Comma o ∷ f.front;
  whole = ap (λ v. Mark m.Comma o ∷ v) f.whole;
  derives = (o, f.front, refl, f.derives);
  longest = λ a y us d w. let e : Mark m.Comma o ∷ xs ≡ Mark m.Comma d.0 ∷ d.1 ++ us = w ∙ ap (λ v. v ++ us) d.2 in f.longest d.1 y us d.3 cc;
}

pub next_lacks : {xs : List Sym} (o : ℕ) → Lacks IsBase xs → Lacks NextBaseRule (Mark m.Comma o ∷ xs)
next_lacks {xs = xs} o f = record {
  none = λ a y us d w. let e : Mark m.Comma o ∷ xs ≡ Mark m.Comma d.0 ∷ d.1 ++ us = w ∙ ap (λ v. v ++ us) d.2 in f.none d.1 y us d.3 cc;
}

pub next_lacks_comma : (xs : List Sym) → ((o : ℕ) (zs : List Sym) → xs ≡ Mark m.Comma o ∷ zs → ⊥) → Lacks NextBaseRule xs
next_lacks_comma xs h = record { none = λ a y us d w. h d.0 (d.1 ++ us) (w ∙ ap (λ v. v ++ us) d.2) }

pub next_falls : {x : Base} {xs ys : List Sym} → Found NextBaseRule Never xs x ys → length ys < length xs
next_falls {ys = ys} f =
    let q = f.derives in
    omega (arith, ap length (f.whole ∙ ap (λ v. v ++ ys) q.2), length-append q.1 ys)

-- ---- any number of them

pub data IsTail : List Sym → List Base → Type 0 where
  no_tail : IsTail [] []
  more_tail : (comma : ℕ) {xs ys : List Sym} {of : Base} {rest : List Base} → IsBase xs of → IsTail ys rest → IsTail (Mark m.Comma comma ∷ xs ++ ys) (of ∷ rest)

tail_stop : (xs : List Sym) → Lacks NextBaseRule xs → Found IsTail InBases xs [] xs
tail_stop xs f = record {
  front = [];
  whole = refl;
  derives = no_tail;
  longest = λ a u us d w. go us d w;
}
  where
    go : {a : List Sym} {u : List Base} (us : List Sym) → IsTail a u → xs ≡ a ++ us → Ends {X = List Base} InBases [] xs u us
    go us no_tail w = inl (refl, w)
    go us (more_tail comma {xs = a} {ys = b} {of = u} q r) w = absurd (f.none (Mark m.Comma comma ∷ a) u (b ++ us) (comma, a, refl, q) (w ∙ append_assoc (Mark m.Comma comma ∷ a) b us))

tail_more : {x : Base} {r : List Base} {xs ys zs : List Sym} → Found NextBaseRule Never xs x ys → Found IsTail InBases ys r zs → Found IsTail InBases xs (x ∷ r) zs
tail_more {x = x} {r = r} {xs = xs} {ys = ys} {zs = zs} f g = record {
  front = f.front ++ g.front;
  whole = f.whole ∙ ap (λ v. f.front ++ v) g.whole ∙ sym (append_assoc f.front g.front zs);
  derives = subst (λ v. IsTail (v ++ g.front) (x ∷ r)) (sym f.derives.2) (more_tail f.derives.0 f.derives.3 g.derives);
  longest = λ a u us d w. go us d w;
}
  where
    go : {a : List Sym} {u : List Base} (us : List Sym) → IsTail a u → xs ≡ a ++ us → Ends {X = List Base} InBases (x ∷ r) zs u us
    go us no_tail w =
        let q = f.derives in
        inr (
          omega (arith, shorter g, next_falls f, ap length w),
          starts_by InBases (sym w ∙ f.whole ∙ ap (λ v. v ++ ys) q.2) refl,
        )
    go us (more_tail comma {xs = a} {ys = b} {of = u} {rest = us'} q t) w =
        let p = exact f (Mark m.Comma comma ∷ a) u (b ++ us) (comma, a, refl, q) (w ∙ append_assoc (Mark m.Comma comma ∷ a) b us) (never (b ++ us)) in
        elim (g.longest b us' us t p.1) [
          | inl z ↦ inl (ap_both (λ (y : Base) (ys : List Base). y ∷ ys) p.0 z.0, z.1)
          | inr z ↦ inr z
        ]

-- ---- a name, and the tail of a list

joined_of : {a b : List Sym} {u : Base} {us : List Base} → IsBase a u → IsTail b us → IsJoined IsBase (a ++ b) (u ∷ us)
joined_of {a = a} {u = u} q no_tail = subst (λ v. IsJoined IsBase v (u ∷ [])) (sym (append-nil a)) (last_joined q)
joined_of q (more_tail comma p t) = more_joined comma q (joined_of p t)

tail_of : (comma : ℕ) {a : List Sym} {us : List Base} → IsJoined IsBase a us → IsTail (Mark m.Comma comma ∷ a) us
tail_of comma (last_joined {xs = a} {of = u} q) = subst (λ v. IsTail (Mark m.Comma comma ∷ v) (u ∷ [])) (append-nil a) (more_tail comma q no_tail)
tail_of comma (more_joined c q r) = more_tail comma q (tail_of c r)

list_found : {x : Base} {r : List Base} {xs ys zs : List Sym} → Found IsBase Never xs x ys → Found IsTail InBases ys r zs → Found (IsJoined IsBase) InBases xs (x ∷ r) zs
list_found {x = x} {r = r} {xs = xs} {zs = zs} f g = record {
  front = f.front ++ g.front;
  whole = f.whole ∙ ap (λ v. f.front ++ v) g.whole ∙ sym (append_assoc f.front g.front zs);
  derives = joined_of f.derives g.derives;
  longest = λ a u us d w. go us d w;
}
  where
    behind : {a b : List Sym} {u : Base} {us' : List Base} (us : List Sym) → IsBase a u → IsTail b us' → xs ≡ a ++ (b ++ us) → Ends {X = List Base} InBases (x ∷ r) zs (u ∷ us') us
    behind {a = a} {b = b} {u = u} {us' = us'} us q t w =
        let p = exact f a u (b ++ us) q w (never (b ++ us)) in
        elim (g.longest b us' us t p.1) [
          | inl z ↦ inl (ap_both (λ (y : Base) (ys : List Base). y ∷ ys) p.0 z.0, z.1)
          | inr z ↦ inr z
        ]

    go : {a : List Sym} {u : List Base} (us : List Sym) → IsJoined IsBase a u → xs ≡ a ++ us → Ends {X = List Base} InBases (x ∷ r) zs u us
    go us (last_joined q) w = behind us q no_tail w
    go us (more_joined comma {xs = a} {ys = b} q t) w = behind us q (tail_of comma t) (w ∙ append_assoc a (Mark m.Comma comma ∷ b) us)

pub list_lacks : {xs : List Sym} → Lacks IsBase xs → Lacks (IsJoined IsBase) xs
list_lacks {xs = xs} f = record { none = λ a u us d w. go us d w }
  where
    go : {a : List Sym} {u : List Base} (us : List Sym) → IsJoined IsBase a u → xs ≡ a ++ us → ⊥
    go {a = a} us (last_joined {of = u} q) w = f.none a u us q w
    go us (more_joined comma {xs = a} {ys = b} {of = u} q t) w = f.none a u (Mark m.Comma comma ∷ b ++ us) q (w ∙ append_assoc a (Mark m.Comma comma ∷ b) us)

-- ---- a loop over names: whatever tail is found from here makes what is found in all

abbrev pub BasesSoFar : List Base → List Sym → List Sym → Type 0
BasesSoFar acc start xs = (ts : List Base) (zs : List Sym) → Found IsTail InBases xs ts zs → Found (IsJoined IsBase) InBases start (acc ++ ts) zs

pub bases_start : {x : Base} {start ys : List Sym} → Found IsBase Never start x ys → BasesSoFar (x ∷ []) start ys
bases_start f ts zs g = list_found f g

pub bases_on : {x : Base} {ys : List Sym} (acc : List Base) (start xs : List Sym) → BasesSoFar acc start xs → Found NextBaseRule Never xs x ys → BasesSoFar (acc ++ x ∷ []) start ys
bases_on {x = x} acc start xs all f ts zs g =
    subst (λ (v : List Base). Found (IsJoined IsBase) InBases start v zs) (sym (append_assoc acc (x ∷ []) ts)) (all (x ∷ ts) zs (tail_more f g))

pub bases_end : (acc : List Base) (start xs : List Sym) → BasesSoFar acc start xs → Lacks NextBaseRule xs → Found (IsJoined IsBase) InBases start acc xs
bases_end acc start xs all f = subst (λ (v : List Base). Found (IsJoined IsBase) InBases start v xs) (append-nil acc) (all [] xs (tail_stop xs f))

-- ---- a word and names behind it, or nothing

pub bases_found : {of : List Base} {xs ys : List Sym} (kind : Word) (s : List ℕ) (o : ℕ) → Found (IsJoined IsBase) InBases xs of ys → Found (IsBases kind) InBases (word kind s o ∷ xs) of ys
bases_found {of = of} {xs = xs} {ys = ys} kind s o f = record {
  front = word kind s o ∷ f.front;
  whole = ap (λ v. word kind s o ∷ v) f.whole;
  derives = some_bases s o f.derives;
  longest = λ a u us d w. go us d w;
}
  where
    go : {a : List Sym} {u : List Base} (us : List Sym) → IsBases kind a u → word kind s o ∷ xs ≡ a ++ us → Ends {X = List Base} InBases of ys u us
    go us no_bases w = inr (omega (arith, shorter f, ap length w), starts_by InBases (sym w) refl)
    go us (some_bases z p {xs = a} {of = u} q) w = f.longest a u us q cc

pub bases_none : (kind : Word) (xs : List Sym)
    → ((s : List ℕ) (o : ℕ) (a : List Sym) (u : List Base) (us : List Sym) → IsJoined IsBase a u → xs ≡ word kind s o ∷ (a ++ us) → ⊥) → Found (IsBases kind) InBases xs [] xs
bases_none kind xs h = record {
  front = [];
  whole = refl;
  derives = no_bases;
  longest = λ a u us d w. go us d w;
}
  where
    go : {a : List Sym} {u : List Base} (us : List Sym) → IsBases kind a u → xs ≡ a ++ us → Ends {X = List Base} InBases [] xs u us
    go us no_bases w = inl (refl, w)
    go us (some_bases s o {xs = a} {of = u} q) w = absurd (h s o a u us q w)

pub bases_absent : (kind : Word) (xs : List Sym) → ((s : List ℕ) (o : ℕ) (zs : List Sym) → xs ≡ word kind s o ∷ zs → ⊥) → Found (IsBases kind) InBases xs [] xs
bases_absent kind xs h = bases_none kind xs (λ s o a u us q w. h s o (a ++ us) w)

pub bases_unnamed : {xs : List Sym} (kind : Word) (s : List ℕ) (o : ℕ) → Lacks (IsJoined IsBase) xs → Found (IsBases kind) InBases (word kind s o ∷ xs) [] (word kind s o ∷ xs)
bases_unnamed {xs = xs} kind s o f = bases_none kind (word kind s o ∷ xs) (λ z p a u us q w. f.none a u us q cc)

-- ---- from the answers of the rules inside

pub next_reads : (r : Reader) (at place : ℕ) (o : Option (Part Base)) → Stands r at (Mark m.Comma place) → ReadsPart IsBase Never r (at + 1) o → ReadsPart NextBaseRule Never r at o
next_reads r at place None s h = lacks_from s.2 (next_lacks place h)
next_reads r at place (Some x) s h = (h.0, found_from s.2 (next_found place h.1))
