-- Members without bodies that follow one another, at most one of them a constructor, and members in braces.
use Rattle.std.proofs.Common.{◌≡◌, ℕ, ◌≤◌, ◌<◌, max, Bool, true, false, List, [], ◌∷◌, ◌++◌, length, refl, sym, ◌∙◌, ap, subst, inl, inr, arith, append_assoc, length-append, append-nil}
use Rattle.std.specs.Prelude.{◌||◌, ◌&&◌}
use Rattle.tb_tree.specs.declared.marks.Mark.TheVariants as m
use Rattle.tb_tree.specs.declared.items.DeclaredMember.{DeclaredMember}
use Rattle.tb_tree.specs.Sym.{Sym, Mark}
use Rattle.tb_tree.specs.Longest.{Found, Lacks, Ends, Starts, Never}
use Rattle.tb_tree.specs.Shapes.{max_depth}
use Rattle.tb_tree.specs.Surfaces.{IsDeclaredMember, IsDeclaredMembers}
use Rattle.tb_tree.specs.Surfaces as g
use Rattle.tb_tree.proofs.Ends.{exact, shorter, never, ap_both, under_both}
use Rattle.tb_parse_body.proofs.Enclosed.{Encloses, enclosed_found, enclosed_lacks_close}
use Rattle.tb_parse_file.specs.Rules.{InMembers}
use Rattle.tb_parse_file.specs.Classes.{InHead}
use Rattle.tb_parse_file.specs.DeclRules.{Within, PlainRule, ConstructorRule, MemberRule, MembersRule, BracedMembersRule}
use Rattle.tb_parse_file.proofs.MemberRows.{not_both, starts_as, head_in_members, nonempty, before_here, before_later, here_later, before_both}
use Rattle.tb_parse_file.proofs.DeclMembers.{plain_begins, plain_no_constructor, constructor_begins}

-- ---- a member, which may be a constructor only where none was before

module _ (before : Bool) where
  pub member_of_plain : {xs ys : List Sym} {x : DeclaredMember} → Found PlainRule Never xs x ys → Found (MemberRule before) Never xs (x, false) ys
  member_of_plain {xs = xs} {ys = ys} {x = x} f = record {
    front = f.front;
    whole = f.whole;
    derives = (f.derives, not_both before);
    longest = λ a y us d w. go y.1 us d.0 w;
  }
    where
      go : {a : List Sym} {of : DeclaredMember} (constructs : Bool) (us : List Sym) → Within (IsDeclaredMember constructs) a of → xs ≡ a ++ us
          → Ends {X = DeclaredMember × Bool} Never (x, false) ys (of, constructs) us
      go {a = a} {of = of} false us q w = elim (f.longest a of us q w) [
        | inl o ↦ inl (ap (λ (r : DeclaredMember). let v : DeclaredMember × Bool = (r, false) in v) o.0, o.1)
        | inr o ↦ inr o
      ]
      go {a = a} {of = of} true us q w =
          let p = constructor_begins a of us q in
          absurd (plain_no_constructor f.front x ys p.0 p.1 p.2 f.derives (sym f.whole ∙ w ∙ p.3))

  pub member_of_constructor : before ≡ false → {xs ys : List Sym} {x : DeclaredMember} → Lacks PlainRule xs → Found ConstructorRule Never xs x ys → Found (MemberRule before) Never xs (x, true) ys
  member_of_constructor i {xs = xs} {ys = ys} {x = x} l f = record {
    front = f.front;
    whole = f.whole;
    derives = (f.derives, ap (λ (b : Bool). b && true) i);
    longest = λ a y us d w. go y.1 us d.0 w;
  }
    where
      go : {a : List Sym} {of : DeclaredMember} (constructs : Bool) (us : List Sym) → Within (IsDeclaredMember constructs) a of → xs ≡ a ++ us
          → Ends {X = DeclaredMember × Bool} Never (x, true) ys (of, constructs) us
      go {a = a} {of = of} true us q w = elim (f.longest a of us q w) [
        | inl o ↦ inl (ap (λ (r : DeclaredMember). let v : DeclaredMember × Bool = (r, true) in v) o.0, o.1)
        | inr o ↦ inr o
      ]
      go {a = a} {of = of} false us q w = absurd (l.none a of us q w)

  pub member_lacks : {xs : List Sym} → Lacks PlainRule xs → Lacks ConstructorRule xs → Lacks (MemberRule before) xs
  member_lacks {xs = xs} l k = record { none = λ a y us d w. go y.1 us d.0 w }
    where
      go : {a : List Sym} {of : DeclaredMember} (constructs : Bool) (us : List Sym) → Within (IsDeclaredMember constructs) a of → xs ≡ a ++ us → ⊥
      go {a = a} {of = of} false us q w = l.none a of us q w
      go {a = a} {of = of} true us q w = k.none a of us q w

  pub member_lacks_second : before ≡ true → {xs : List Sym} → Lacks PlainRule xs → Lacks (MemberRule before) xs
  member_lacks_second i {xs = xs} l = record { none = λ a y us d w. go y.1 us d.0 d.1 w }
    where
      go : {a : List Sym} {of : DeclaredMember} (constructs : Bool) (us : List Sym) → Within (IsDeclaredMember constructs) a of → (before && constructs) ≡ false → xs ≡ a ++ us → ⊥
      go {a = a} {of = of} false us q j w = l.none a of us q w
      go true us q j w = let p : true ≡ false = sym (ap (λ (b : Bool). b && true) i) ∙ j in cc

-- a member begins with a word
member_begins : {a : List Sym} {of : DeclaredMember} (constructs : Bool) (us : List Sym) → Within (IsDeclaredMember constructs) a of → Starts InHead (a ++ us)
member_begins {a = a} {of = of} false us q = plain_begins a of us q
member_begins {a = a} {of = of} true us q = let p = constructor_begins a of us q in subst (λ v. Starts InHead v) (sym p.3) refl

-- ---- members that follow one another

members_stop : (before : Bool) (xs : List Sym) → Lacks (MemberRule before) xs → Found (MembersRule before) InMembers xs [] xs
members_stop before xs f = record {
  front = [];
  whole = refl;
  derives = (false, (0, g.no_declared_members, omega arith), not_both before);
  longest = λ a y us d w. go us d.1.1 d.2 d.1.2 w;
}
  where
    go : {a : List Sym} {u : List DeclaredMember} {k : ℕ} {here : Bool} (us : List Sym) → IsDeclaredMembers here a u k → (before && here) ≡ false → k ≤ max_depth → xs ≡ a ++ us
        → Ends {X = List DeclaredMember} InMembers [] xs u us
    go us g.no_declared_members i h w = inl (refl, w)
    go us (g.more_declared_members {here = here} {later = later} {xs = a} {ys = b} {of = u} {d = d} q r j) i h w =
        absurd (f.none a (u, here) (b ++ us) ((d, q, omega (arith, h)), before_here before here later i) (w ∙ append_assoc a b us))

members_more : (before constructs : Bool) {of : DeclaredMember} {later : List DeclaredMember} {xs ys zs : List Sym} → Found (MemberRule before) Never xs (of, constructs) ys
    → Found (MembersRule (before || constructs)) InMembers ys later zs → Found (MembersRule before) InMembers xs (of ∷ later) zs
members_more before constructs {of = of} {later = later} {xs = xs} {ys = ys} {zs = zs} f k = record {
  front = f.front ++ k.front;
  whole = f.whole ∙ ap (λ v. f.front ++ v) k.whole ∙ sym (append_assoc f.front k.front zs);
  derives = (
    constructs || k.derives.0,
    (
      max f.derives.0.0 k.derives.1.0,
      g.more_declared_members f.derives.0.1 k.derives.1.1 (here_later before constructs k.derives.0 k.derives.2),
      omega (arith, f.derives.0.2, k.derives.1.2),
    ),
    before_both before constructs k.derives.0 f.derives.1 k.derives.2,
  );
  longest = λ a y us d w. go us d.1.1 d.2 d.1.2 w;
}
  where
    long : 1 ≤ length f.front
    long = nonempty f.front (member_begins constructs [] f.derives.0)

    go : {a : List Sym} {u : List DeclaredMember} {o : ℕ} {here : Bool} (us : List Sym) → IsDeclaredMembers here a u o → (before && here) ≡ false → o ≤ max_depth → xs ≡ a ++ us
        → Ends {X = List DeclaredMember} InMembers (of ∷ later) zs u us
    go us g.no_declared_members i h w = inr (
      omega (arith, shorter k, long, ap length f.whole, length-append f.front ys, ap length w),
      subst (λ v. Starts InMembers v) (sym f.whole ∙ w) (starts_as InHead InMembers head_in_members (f.front ++ ys) (member_begins constructs ys f.derives.0)),
    )
    go us (g.more_declared_members {here = here} {later = after} {xs = a} {ys = b} {of = u} {rest = us'} {d = o} {e = l} q r j) i h w =
        let p = exact f a (u, here) (b ++ us) ((o, q, omega (arith, h)), before_here before here after i) (w ∙ append_assoc a b us) (never (b ++ us)) in
        let same : constructs ≡ here = ap (λ (v : DeclaredMember × Bool). v.1) p.0 in
        let apart : ((before || constructs) && after) ≡ false = subst (λ (v : Bool). ((before || v) && after) ≡ false) (sym same) (before_later before here after i j) in
        elim (k.longest b us' us (after, (l, r, omega (arith, h)), apart) p.1) [
          | inl z ↦ inl (ap_both (λ (x : DeclaredMember × Bool) (y : List DeclaredMember). x.0 ∷ y) p.0 z.0, z.1)
          | inr z ↦ inr z
        ]

-- whatever is found from here makes what is found in all
abbrev pub MembersSoFar : Bool → List DeclaredMember → List Sym → List Sym → Type 0
MembersSoFar before acc start xs = (ts : List DeclaredMember) (zs : List Sym) → Found (MembersRule before) InMembers xs ts zs → Found (MembersRule false) InMembers start (acc ++ ts) zs

pub members_start : (start : List Sym) → MembersSoFar false [] start start
members_start start ts zs f = f

pub so_far_as : (after : Bool) {before : Bool} {acc list : List DeclaredMember} → before ≡ after → acc ≡ list → (start xs : List Sym) → MembersSoFar after list start xs → MembersSoFar before acc start xs
so_far_as after i j start xs h = under_both (λ (b : Bool) (v : List DeclaredMember). MembersSoFar b v start xs) i j h

pub members_on : (before constructs : Bool) (acc : List DeclaredMember) (start xs ys : List Sym) {of : DeclaredMember} → MembersSoFar before acc start xs
    → Found (MemberRule before) Never xs (of, constructs) ys → MembersSoFar (before || constructs) (acc ++ of ∷ []) start ys
members_on before constructs acc start xs ys {of = of} all f ts zs q =
    subst (λ (v : List DeclaredMember). Found (MembersRule false) InMembers start v zs) (sym (append_assoc acc (of ∷ []) ts)) (all (of ∷ ts) zs (members_more before constructs f q))

pub members_end : (before : Bool) (acc : List DeclaredMember) (start xs : List Sym) → MembersSoFar before acc start xs → Lacks (MemberRule before) xs → Found (MembersRule false) InMembers start acc xs
members_end before acc start xs all h = subst (λ (v : List DeclaredMember). Found (MembersRule false) InMembers start v xs) (append-nil acc) (all [] xs (members_stop before xs h))

pub member_falls : (before : Bool) {xs ys : List Sym} {x : DeclaredMember × Bool} → Found (MemberRule before) Never xs x ys → length ys < length xs
member_falls before {ys = ys} {x = x} f =
    let long = nonempty f.front (member_begins x.1 [] f.derives.0) in omega (arith, long, ap length f.whole, length-append f.front ys)

-- ---- in braces

abbrev same : {X : Type 0} → X → X
same x = x

members_end_here : (p : ℕ) → InMembers (Mark m.CloseBrace p) → ⊥
members_end_here p e = let q : true ≡ false = e in cc

braced_back : (o : ℕ) (xs : List Sym) → Encloses m.CloseBrace same (MembersRule false) BracedMembersRule (Mark m.OpenBrace o ∷ []) xs
braced_back o xs a u us d w =
    let e : Mark m.OpenBrace o ∷ xs ≡ Mark m.OpenBrace d.0 ∷ (d.2 ++ (Mark m.CloseBrace d.1 ∷ us)) =
    w ∙ ap (λ v. v ++ us) d.3 ∙ ap (λ v. Mark m.OpenBrace d.0 ∷ v) (append_assoc d.2 (Mark m.CloseBrace d.1 ∷ []) us) in
    (d.2, u, d.1, cc, d.4, refl)

pub braced_found : (o p : ℕ) {xs ys : List Sym} {of : List DeclaredMember} → Found (MembersRule false) InMembers xs of (Mark m.CloseBrace p ∷ ys) → Found BracedMembersRule Never (Mark m.OpenBrace o ∷ xs) of ys
braced_found o p {xs = xs} {ys = ys} f = enclosed_found m.CloseBrace same (Mark m.OpenBrace o ∷ []) p ys members_end_here (λ b d. (o, p, b, refl, d)) (braced_back o xs) f

pub braced_lacks_open : (xs : List Sym) → ((at : ℕ) (zs : List Sym) → xs ≡ Mark m.OpenBrace at ∷ zs → ⊥) → Lacks BracedMembersRule xs
braced_lacks_open xs h = record { none = λ a y us d w. h d.0 ((d.2 ++ (Mark m.CloseBrace d.1 ∷ [])) ++ us) (w ∙ ap (λ v. v ++ us) d.3) }

pub braced_lacks_close : (o : ℕ) {xs ys : List Sym} {of : List DeclaredMember} → Found (MembersRule false) InMembers xs of ys → ((at : ℕ) (zs : List Sym) → ys ≡ Mark m.CloseBrace at ∷ zs → ⊥)
    → Lacks BracedMembersRule (Mark m.OpenBrace o ∷ xs)
braced_lacks_close o {xs = xs} f h = enclosed_lacks_close m.CloseBrace same (Mark m.OpenBrace o ∷ []) members_end_here (braced_back o xs) f h
