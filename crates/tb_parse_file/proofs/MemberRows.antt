-- Members that follow one another, at most one of them a constructor, and members in braces.
use Rattle.std.proofs.Common.{◌≡◌, ℕ, ◌+◌, ◌≤◌, ◌<◌, max, Bool, true, false, List, [], ◌∷◌, ◌++◌, length, refl, sym, ◌∙◌, ap, subst, inl, inr, arith, append_assoc, length-append, append-nil}
use Rattle.std.specs.Prelude.{◌||◌, ◌&&◌}
use Rattle.tb_tree.specs.declared.marks.Mark.TheVariants as m
use Rattle.tb_tree.specs.declared.words.Class.TheVariants as c
use Rattle.tb_tree.specs.declared.items.ClassMember.{ClassMember}
use Rattle.tb_tree.specs.Sym.{Sym, Mark, Lex}
use Rattle.tb_tree.specs.Longest.{Found, Lacks, Ends, Starts, Never}
use Rattle.tb_tree.specs.Items.{IsClassMember, IsClassMembers}
use Rattle.tb_tree.specs.Items as g
use Rattle.tb_tree.proofs.Ends.{exact, shorter, never, ap_both, under_both}
use Rattle.tb_parse_body.specs.Rules.{Deep, InBody}
use Rattle.tb_parse_file.specs.Rules.{MemberUpto, MembersUpto, InMembers, is_word}
use Rattle.tb_parse_file.specs.Classes.{InHead, PlainUpto, ConstructorUpto, BracedMembersUpto}
use Rattle.tb_parse_file.proofs.MemberParts.{plain_begins, plain_no_constructor, constructor_begins}

-- ---- a member, which may be a constructor only where none was before

pub not_both : (before : Bool) → (before && false) ≡ false
not_both false = refl
not_both true = refl

module _ (before : Bool) (n : ℕ) where
  pub member_of_plain : {xs ys : List Sym} {x : Deep ClassMember} → Found (PlainUpto n) InBody xs x ys → Found (MemberUpto before n) InBody xs ((x.0, false), x.1) ys
  member_of_plain {xs = xs} {ys = ys} {x = x} f = record {
    front = f.front;
    whole = f.whole;
    derives = (f.derives.0, not_both before, f.derives.1);
    longest = λ a y us d w. go y.0.1 us d.0 d.2 w;
  }
    where
      go : {a : List Sym} {of : ClassMember} {k : ℕ} (constructs : Bool) (us : List Sym) → IsClassMember true constructs a of k → k ≤ n → xs ≡ a ++ us
          → Ends {X = Deep (ClassMember × Bool)} InBody ((x.0, false), x.1) ys ((of, constructs), k) us
      go {a = a} {of = of} {k = k} false us q h w = elim (f.longest a (of, k) us (q, h) w) [
        | inl o ↦ inl (ap (λ (r : Deep ClassMember). let v : Deep (ClassMember × Bool) = ((r.0, false), r.1) in v) o.0, o.1)
        | inr o ↦ inr o
      ]
      go {a = a} {of = of} {k = k} true us q h w =
          let p = constructor_begins n a (of, k) us (q, h) in
          absurd (plain_no_constructor n f.front x ys p.0 p.1 p.2 f.derives (sym f.whole ∙ w ∙ p.3))

  pub member_of_constructor : before ≡ false → {xs ys : List Sym} {x : Deep ClassMember} → Lacks (PlainUpto n) xs → Found (ConstructorUpto n) Never xs x ys
      → Found (MemberUpto before n) InBody xs ((x.0, true), x.1) ys
  member_of_constructor i {xs = xs} {ys = ys} {x = x} l f = record {
    front = f.front;
    whole = f.whole;
    derives = (f.derives.0, ap (λ (b : Bool). b && true) i, f.derives.1);
    longest = λ a y us d w. go y.0.1 us d.0 d.2 w;
  }
    where
      go : {a : List Sym} {of : ClassMember} {k : ℕ} (constructs : Bool) (us : List Sym) → IsClassMember true constructs a of k → k ≤ n → xs ≡ a ++ us
          → Ends {X = Deep (ClassMember × Bool)} InBody ((x.0, true), x.1) ys ((of, constructs), k) us
      go {a = a} {of = of} {k = k} true us q h w = elim (f.longest a (of, k) us (q, h) w) [
        | inl o ↦ inl (ap (λ (r : Deep ClassMember). let v : Deep (ClassMember × Bool) = ((r.0, true), r.1) in v) o.0, o.1)
        | inr o ↦ absurd (never us o.1)
      ]
      go {a = a} {of = of} {k = k} false us q h w = absurd (l.none a (of, k) us (q, h) w)

  pub member_lacks : {xs : List Sym} → Lacks (PlainUpto n) xs → Lacks (ConstructorUpto n) xs → Lacks (MemberUpto before n) xs
  member_lacks {xs = xs} l k = record { none = λ a y us d w. go y.0.1 us d.0 d.2 w }
    where
      go : {a : List Sym} {of : ClassMember} {d : ℕ} (constructs : Bool) (us : List Sym) → IsClassMember true constructs a of d → d ≤ n → xs ≡ a ++ us → ⊥
      go {a = a} {of = of} {d = d} false us q h w = l.none a (of, d) us (q, h) w
      go {a = a} {of = of} {d = d} true us q h w = k.none a (of, d) us (q, h) w

  pub member_lacks_second : before ≡ true → {xs : List Sym} → Lacks (PlainUpto n) xs → Lacks (MemberUpto before n) xs
  member_lacks_second i {xs = xs} l = record { none = λ a y us d w. go y.0.1 us d.0 d.1 d.2 w }
    where
      go : {a : List Sym} {of : ClassMember} {d : ℕ} (constructs : Bool) (us : List Sym) → IsClassMember true constructs a of d → (before && constructs) ≡ false → d ≤ n → xs ≡ a ++ us → ⊥
      go {a = a} {of = of} {d = d} false us q j h w = l.none a (of, d) us (q, h) w
      go true us q j h w = let p : true ≡ false = sym (ap (λ (b : Bool). b && true) i) ∙ j in cc

-- ---- a member begins with a word

member_begins : {a : List Sym} {of : ClassMember} {d : ℕ} (constructs : Bool) (us : List Sym) → IsClassMember true constructs a of d → Starts InHead (a ++ us)
member_begins {a = a} {of = of} {d = d} false us q = let h : d ≤ d = omega arith in plain_begins d a (of, d) us (q, h)
member_begins {a = a} {of = of} {d = d} true us q =
    let h : d ≤ d = omega arith in
    let p = constructor_begins d a (of, d) us (q, h) in
    subst (λ v. Starts InHead v) (sym p.3) refl

starts_both : (C D : Sym → Type 0) → ((s : Sym) → C s → D s → ⊥) → (zs : List Sym) → Starts C zs → Starts D zs → ⊥
starts_both C D h [] s t = s
starts_both C D h (z ∷ zs) s t = h z s t

pub starts_as : (C D : Sym → Type 0) → ((s : Sym) → C s → D s) → (zs : List Sym) → Starts C zs → Starts D zs
starts_as C D h [] s = s
starts_as C D h (z ∷ zs) s = h z s

head_no_bracket : (s : Sym) → InHead s → InBody s → ⊥
head_no_bracket (Mark m.OpenBracket o) i h = let e : false ≡ true = i in cc
head_no_bracket (Mark _ o) i h = let e : false ≡ true = h in cc
head_no_bracket (Lex k s o) i h = let e : false ≡ true = h in cc

pub head_in_members : (s : Sym) → InHead s → InMembers s
head_in_members (Mark _ o) h = let e : false ≡ true = h in cc
head_in_members (Lex k s o) h = refl

body_in_members : (s : Sym) → InBody s → InMembers s
body_in_members (Mark m.CloseBrace o) h = let e : false ≡ true = h in cc
body_in_members (Mark _ o) h = refl
body_in_members (Lex k s o) h = refl

pub nonempty : (a : List Sym) → Starts InHead (a ++ []) → 1 ≤ length a
nonempty [] h = absurd h
nonempty (s ∷ a) h = omega arith

-- ---- members that follow one another: of those before, this one and those behind at most one is a constructor

pub before_here : (before here later : Bool) → (before && (here || later)) ≡ false → (before && here) ≡ false
before_here false here later h = refl
before_here true false later h = refl
before_here true true later h = h

pub before_later : (before here later : Bool) → (before && (here || later)) ≡ false → (here && later) ≡ false → ((before || here) && later) ≡ false
before_later false here later h k = k
before_later true false later h k = h
before_later true true later h k = let p : true ≡ false = h in cc

pub here_later : (before here later : Bool) → ((before || here) && later) ≡ false → (here && later) ≡ false
here_later false here later h = h
here_later true false later h = refl
here_later true true later h = h

pub before_both : (before here later : Bool) → (before && here) ≡ false → ((before || here) && later) ≡ false → (before && (here || later)) ≡ false
before_both false here later h k = refl
before_both true false later h k = k
before_both true true later h k = h

module _ (n : ℕ) where
  members_stop : (before : Bool) (xs : List Sym) → Lacks (MemberUpto before n) xs → Found (MembersUpto before n) InMembers xs ([], 0) xs
  members_stop before xs f = record {
    front = [];
    whole = refl;
    derives = (false, g.no_class_members, not_both before, omega arith);
    longest = λ a y us d w. go us d.1 d.2 d.3 w;
  }
    where
      go : {a : List Sym} {u : List ClassMember} {k : ℕ} {here : Bool} (us : List Sym) → IsClassMembers true here a u k → (before && here) ≡ false → k ≤ n → xs ≡ a ++ us
          → Ends {X = Deep (List ClassMember)} InMembers ([], 0) xs (u, k) us
      go us g.no_class_members i h w = inl (refl, w)
      go us (g.more_class_members {here = here} {later = later} {xs = a} {ys = b} {of = u} {d = d} {e = e} q r j) i h w =
          absurd (f.none a ((u, here), d) (b ++ us) (q, before_here before here later i, omega (arith, h)) (w ∙ append_assoc a b us))

  members_more : (before constructs : Bool) {of : ClassMember} {later : List ClassMember} {d e : ℕ} {xs ys zs : List Sym} → Found (MemberUpto before n) InBody xs ((of, constructs), d) ys
      → Found (MembersUpto (before || constructs) n) InMembers ys (later, e) zs → Found (MembersUpto before n) InMembers xs (of ∷ later, max d e) zs
  members_more before constructs {of = of} {later = later} {d = d} {e = e} {xs = xs} {ys = ys} {zs = zs} f k = record {
    front = f.front ++ k.front;
    whole = f.whole ∙ ap (λ v. f.front ++ v) k.whole ∙ sym (append_assoc f.front k.front zs);
    derives = (
      constructs || k.derives.0,
      g.more_class_members f.derives.0 k.derives.1 (here_later before constructs k.derives.0 k.derives.2),
      before_both before constructs k.derives.0 f.derives.1 k.derives.2,
      omega (arith, f.derives.2, k.derives.3),
    );
    longest = λ a y us d w. go us d.1 d.2 d.3 w;
  }
    where
      behind : {b : List Sym} {v : List ClassMember} {o : ℕ} {here : Bool} (us : List Sym) → IsClassMembers true here b v o → Starts InBody (b ++ us) → length zs < length (b ++ us)
          → (length zs < length us) × Starts InMembers us
      behind us g.no_class_members s h = (h, starts_as InBody InMembers body_in_members us s)
      behind us (g.more_class_members {here = here} {xs = a} {ys = b} q r j) s h =
          absurd (starts_both InHead InBody head_no_bracket (a ++ (b ++ us)) (member_begins here (b ++ us) q) (subst (λ v. Starts InBody v) (append_assoc a b us) s))

      long : 1 ≤ length f.front
      long = nonempty f.front (member_begins constructs [] f.derives.0)

      go : {a : List Sym} {u : List ClassMember} {o : ℕ} {here : Bool} (us : List Sym) → IsClassMembers true here a u o → (before && here) ≡ false → o ≤ n → xs ≡ a ++ us
          → Ends {X = Deep (List ClassMember)} InMembers (of ∷ later, max d e) zs (u, o) us
      go us g.no_class_members i h w = inr (
        omega (arith, shorter k, long, ap length f.whole, length-append f.front ys, ap length w),
        subst (λ v. Starts InMembers v) (sym f.whole ∙ w) (starts_as InHead InMembers head_in_members (f.front ++ ys) (member_begins constructs ys f.derives.0)),
      )
      go us (g.more_class_members {here = here} {later = after} {xs = a} {ys = b} {of = u} {rest = us'} {d = o} {e = l} q r j) i h w =
          elim (f.longest a ((u, here), o) (b ++ us) (q, before_here before here after i, omega (arith, h)) (w ∙ append_assoc a b us)) [
            | inl p ↦
                let same : constructs ≡ here = ap (λ (v : Deep (ClassMember × Bool)). v.0.1) p.0 in
                let apart : ((before || constructs) && after) ≡ false = subst (λ (v : Bool). ((before || v) && after) ≡ false) (sym same) (before_later before here after i j) in
                elim (k.longest b (us', l) us (after, r, apart, omega (arith, h)) p.1) [
                  | inl z ↦ inl (ap_both (λ (x : Deep (ClassMember × Bool)) (y : Deep (List ClassMember)). let v : Deep (List ClassMember) = (x.0.0 ∷ y.0, max x.1 y.1) in v) p.0 z.0, z.1)
                  | inr z ↦ inr z
                ]
            | inr p ↦ inr (behind us r p.1 (omega (arith, shorter k, p.0)))
          ]

  -- whatever is found from here makes what is found in all
  abbrev pub MembersSoFar : Bool → List ClassMember → ℕ → List Sym → List Sym → Type 0
  MembersSoFar before acc depth start xs = (ts : List ClassMember) (d : ℕ) (zs : List Sym) → Found (MembersUpto before n) InMembers xs (ts, d) zs
      → Found (MembersUpto false n) InMembers start (acc ++ ts, max depth d) zs

  pub members_start : (start : List Sym) → MembersSoFar false [] 0 start start
  members_start start ts d zs f =
      let p : d ≡ max 0 d = omega arith in
      subst (λ (k : ℕ). Found (MembersUpto false n) InMembers start (ts, k) zs) p f

  pub so_far_as : (after : Bool) {before : Bool} {acc list : List ClassMember} {depth d : ℕ} → before ≡ after → acc ≡ list → depth ≡ d → (start xs : List Sym) → MembersSoFar after list d start xs
      → MembersSoFar before acc depth start xs
  so_far_as after {before = before} {acc = acc} {list = list} {depth = depth} {d = d} i j k start xs h =
      subst (λ (b : Bool). MembersSoFar b acc depth start xs) (sym i) (under_both (λ (acc : List ClassMember) (depth : ℕ). MembersSoFar after acc depth start xs) j k h)

  pub members_on : (before constructs : Bool) (acc : List ClassMember) (depth : ℕ) (start xs ys : List Sym) {of : ClassMember} {k : ℕ} → MembersSoFar before acc depth start xs
      → Found (MemberUpto before n) InBody xs ((of, constructs), k) ys → MembersSoFar (before || constructs) (acc ++ of ∷ []) (max depth k) start ys
  members_on before constructs acc depth start xs ys {of = of} {k = k} all f ts d zs q =
      let p : max depth (max k d) ≡ max (max depth k) d = omega arith in
      subst (λ (v : List ClassMember). Found (MembersUpto false n) InMembers start (v, max (max depth k) d) zs) (sym (append_assoc acc (of ∷ []) ts))
      (subst (λ (o : ℕ). Found (MembersUpto false n) InMembers start (acc ++ (of ∷ ts), o) zs) p (all (of ∷ ts) (max k d) zs (members_more before constructs f q)))

  pub members_end : (before : Bool) (acc : List ClassMember) (depth : ℕ) (start xs : List Sym) → MembersSoFar before acc depth start xs → Lacks (MemberUpto before n) xs
      → Found (MembersUpto false n) InMembers start (acc, depth) xs
  members_end before acc depth start xs all h =
      let p : max depth 0 ≡ depth = omega arith in
      subst (λ (v : List ClassMember). Found (MembersUpto false n) InMembers start (v, depth) xs) (append-nil acc)
      (subst (λ (o : ℕ). Found (MembersUpto false n) InMembers start (acc ++ [], o) xs) p (all [] 0 xs (members_stop before xs h)))

  pub member_falls : (before : Bool) {xs ys : List Sym} {x : Deep (ClassMember × Bool)} → Found (MemberUpto before n) InBody xs x ys → length ys < length xs
  member_falls before {ys = ys} {x = x} f =
      let long = nonempty f.front (member_begins x.0.1 [] f.derives.0) in omega (arith, long, ap length f.whole, length-append f.front ys)

-- ---- in braces

module _ (n : ℕ) where
  members_end_here : (p : ℕ) → InMembers (Mark m.CloseBrace p) → ⊥
  members_end_here p e = let q : true ≡ false = e in cc

  braced_inside : (o : ℕ) {xs a : List Sym} (us : List Sym) {y : Deep (List ClassMember)} (d : BracedMembersUpto n a y) → Mark m.OpenBrace o ∷ xs ≡ a ++ us → xs ≡ d.2 ++ (Mark m.CloseBrace d.1 ∷ us)
  braced_inside o {xs = xs} us d w =
      let whole : Mark m.OpenBrace o ∷ xs ≡ Mark m.OpenBrace d.0 ∷ (d.2 ++ (Mark m.CloseBrace d.1 ∷ us)) =
      w ∙ ap (λ v. v ++ us) d.3 ∙ ap (λ v. Mark m.OpenBrace d.0 ∷ v) (append_assoc d.2 (Mark m.CloseBrace d.1 ∷ []) us) in
      cc

  pub braced_found : (o p : ℕ) {xs ys : List Sym} {x : Deep (List ClassMember)} → Found (MembersUpto false n) InMembers xs x (Mark m.CloseBrace p ∷ ys) → Found (BracedMembersUpto n) Never (Mark m.OpenBrace o ∷ xs) x ys
  braced_found o p {xs = xs} {ys = ys} {x = x} f = record {
    front = Mark m.OpenBrace o ∷ (f.front ++ (Mark m.CloseBrace p ∷ []));
    whole = ap (λ v. Mark m.OpenBrace o ∷ v) (f.whole ∙ sym (append_assoc f.front (Mark m.CloseBrace p ∷ []) ys));
    derives = (o, p, f.front, refl, f.derives);
    longest = λ a y us d w.
        let q = exact f d.2 y (Mark m.CloseBrace d.1 ∷ us) d.4 (braced_inside o us d w) (members_end_here d.1) in
        inl (q.0, cc);
  }

  pub braced_lacks_open : (xs : List Sym) → ((at : ℕ) (zs : List Sym) → xs ≡ Mark m.OpenBrace at ∷ zs → ⊥) → Lacks (BracedMembersUpto n) xs
  braced_lacks_open xs h = record { none = λ a y us d w. h d.0 ((d.2 ++ (Mark m.CloseBrace d.1 ∷ [])) ++ us) (w ∙ ap (λ v. v ++ us) d.3) }

  pub braced_lacks_close : (o : ℕ) {xs ys : List Sym} {x : Deep (List ClassMember)} → Found (MembersUpto false n) InMembers xs x ys → ((at : ℕ) (zs : List Sym) → ys ≡ Mark m.CloseBrace at ∷ zs → ⊥)
      → Lacks (BracedMembersUpto n) (Mark m.OpenBrace o ∷ xs)
  braced_lacks_close o f h = record {
    none = λ a y us d w.
        let q = exact f d.2 y (Mark m.CloseBrace d.1 ∷ us) d.4 (braced_inside o us d w) (members_end_here d.1) in
        h d.1 us q.1;
  }
