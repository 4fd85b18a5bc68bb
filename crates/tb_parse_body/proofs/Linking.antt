-- Chains: a primary with links behind it, from the left to the right.
use Rattle.std.proofs.Common.{◌≡◌, ℕ, suc, ◌+◌, ◌-◌, ◌≤◌, ◌<◌, max, Bool, true, false, List, [], ◌∷◌, ◌++◌, length, refl, sym, ◌∙◌, ap, subst, inl, inr, arith, append_assoc, append-nil, length-append}
use Rattle.std.specs.Prelude.{◌&&◌, Option, Some, None}
use Rattle.tb_tree.specs.declared.marks.Mark.TheVariants as m
use Rattle.tb_tree.specs.declared.words.Word.{Word}
use Rattle.tb_tree.specs.declared.exprs.Expr.{Expr}
use Rattle.tb_tree.specs.declared.exprs.Expr.TheVariants as expr
use Rattle.tb_tree.specs.Sym.{Sym, Mark, Lex}
use Rattle.tb_tree.specs.Longest.{Found, Lacks, Ends, Starts, Never}
use Rattle.tb_tree.specs.Shapes.{word, start_of}
use Rattle.tb_tree.specs.Exprs.{is_number, IsExpr, IsExprs, IsChain, primary_expr, member_expr, index_expr, call_expr, IsPrimary, name_expr, this_expr, number_expr, string_expr, template_expr, spans_expr, boolean_expr, null_expr, undefined_expr, parens_expr, array_expr, object_expr, new_expr}
use Rattle.tb_tree.proofs.Ends.{exact, shorter, never, starts_by, both, ap_both, found_left}
use Rattle.tb_parse_type.specs.declared.reader.Reader.{Reader}
use Rattle.tb_parse_type.specs.Reading.{rest}
use Rattle.tb_parse_body.specs.declared.fronts.Front.{Front}
use Rattle.tb_parse_body.specs.declared.fronts.Link.{Link}
use Rattle.tb_parse_body.specs.declared.fronts.Link.TheVariants as l
use Rattle.tb_parse_body.specs.Links.{IsLink, member_link, index_link, call_link, is_member, linked, MemberRule, IndexUpto, CallUpto, LinkUpto, IsLinks, no_links, more_links}
use Rattle.tb_parse_body.specs.Reading.{Reads}
use Rattle.tb_parse_body.specs.Rules.{Deep, ExprUpto, ExprsUpto, PrimaryUpto, ChainUpto, InExpr, InList, InChain}
use Rattle.tb_parse_body.proofs.Sequences.{IsBack, found_by, lacks_by, Delimited, in_delimiters, delimited, delimited_lacks, delimited_lacks_close}

-- ---- `. Word`

pub member_found : (kind : Word) (dot : ℕ) (spelled : List ℕ) (at : ℕ) (ys : List Sym) → Found MemberRule Never (Mark m.Dot dot ∷ word kind spelled at ∷ ys) (l.Member spelled, 0) ys
member_found kind dot spelled at ys = record {
  front = Mark m.Dot dot ∷ word kind spelled at ∷ [];
  whole = refl;
  derives = (member_link kind dot spelled at, refl);
  longest = λ a y zs d w. go zs d.0 w;
}
  where
    go : {a : List Sym} {u : Link} {e : ℕ} (zs : List Sym) → IsLink a u e → Mark m.Dot dot ∷ word kind spelled at ∷ ys ≡ a ++ zs → Ends {X = Deep Link} Never (l.Member spelled, 0) ys (u, e) zs
    go zs (member_link k o s p) w = let same : spelled ≡ s = cc in inl (ap (λ (v : List ℕ). let x : Deep Link = (l.Member v, 0) in x) same, cc)
    go zs (index_link o p q) w = cc
    go zs (call_link o p q) w = cc

pub member_lacks : (xs : List Sym) → ((kind : Word) (dot : ℕ) (spelled : List ℕ) (at : ℕ) (zs : List Sym) → xs ≡ Mark m.Dot dot ∷ word kind spelled at ∷ zs → ⊥) → Lacks MemberRule xs
member_lacks xs h = record { none = λ a y zs d w. go zs d.0 d.1 w }
  where
    go : {a : List Sym} {u : Link} {e : ℕ} (zs : List Sym) → IsLink a u e → is_member u ≡ true → xs ≡ a ++ zs → ⊥
    go zs (member_link k o s p) i w = h k o s p zs w
    go zs (index_link o p q) i w = let n : false ≡ true = i in cc
    go zs (call_link o p q) i w = let n : false ≡ true = i in cc

-- ---- `[ Expr ]` and `( Expr,* )`

abbrev index_of : ℕ × (Deep Expr × ℕ) → Deep Link
index_of r = (l.Index r.1.0.0, r.1.0.1)

abbrev call_of : ℕ × (Deep (List Expr) × ℕ) → Deep Link
call_of r = (l.Call r.1.0.0, r.1.0.1)

index_forth : (n : ℕ) (a : List Sym) (x : ℕ × (Deep Expr × ℕ)) → Delimited m.OpenBracket m.CloseBracket (ExprUpto true n) a x → IndexUpto n a (index_of x)
index_forth n a x d = let q = in_delimiters (ExprUpto true n) d in (x.0, x.1.1, q.0, x.1.0.0, q.1, refl, q.2.0, q.2.1)

index_back : (n : ℕ) (xs : List Sym) → IsBack index_of (Delimited m.OpenBracket m.CloseBracket (ExprUpto true n)) (IndexUpto n) xs
index_back n xs a u us d w = (
  (d.0, ((d.3, u.1), d.1)),
  (Mark m.OpenBracket d.0 ∷ [], d.2 ++ Mark m.CloseBracket d.1 ∷ [], d.4, refl, (d.2, Mark m.CloseBracket d.1 ∷ [], refl, (d.6, d.7), refl)),
  both (sym d.5) refl,
)

call_forth : (n : ℕ) (a : List Sym) (x : ℕ × (Deep (List Expr) × ℕ)) → Delimited m.OpenParen m.CloseParen (ExprsUpto n) a x → CallUpto n a (call_of x)
call_forth n a x d = let q = in_delimiters (ExprsUpto n) d in (x.0, x.1.1, q.0, x.1.0.0, q.1, refl, q.2.0, q.2.1)

call_back : (n : ℕ) (xs : List Sym) → IsBack call_of (Delimited m.OpenParen m.CloseParen (ExprsUpto n)) (CallUpto n) xs
call_back n xs a u us d w = (
  (d.0, ((d.3, u.1), d.1)),
  (Mark m.OpenParen d.0 ∷ [], d.2 ++ Mark m.CloseParen d.1 ∷ [], d.4, refl, (d.2, Mark m.CloseParen d.1 ∷ [], refl, (d.6, d.7), refl)),
  both (sym d.5) refl,
)

expr_end : (at : ℕ) → InExpr true (Mark m.CloseBracket at) → ⊥
expr_end at h = let n : true ≡ false = h in cc

list_end : (at : ℕ) → InList (Mark m.CloseParen at) → ⊥
list_end at h = let n : true ≡ false = h in cc

pub index_found : {r : Deep Expr} {xs : List Sym} (n o p : ℕ) (ys : List Sym) → Found (ExprUpto true n) (InExpr true) xs r (Mark m.CloseBracket p ∷ ys)
    → Found (IndexUpto n) Never (Mark m.OpenBracket o ∷ xs) (l.Index r.0, r.1) ys
index_found {r = r} {xs = xs} n o p ys f = found_by index_of (λ a w d. index_forth n a (o, (r, p)) d) (index_back n (Mark m.OpenBracket o ∷ xs)) (delimited o p ys expr_end f)

pub index_lacks : {xs : List Sym} (n o : ℕ) → Lacks (ExprUpto true n) xs → Lacks (IndexUpto n) (Mark m.OpenBracket o ∷ xs)
index_lacks {xs = xs} n o f = lacks_by index_of (index_back n (Mark m.OpenBracket o ∷ xs)) (delimited_lacks o f)

pub index_lacks_close : {r : Deep Expr} {xs ys : List Sym} (n o : ℕ) → Found (ExprUpto true n) (InExpr true) xs r ys → ((at : ℕ) (zs : List Sym) → ys ≡ Mark m.CloseBracket at ∷ zs → ⊥)
    → Lacks (IndexUpto n) (Mark m.OpenBracket o ∷ xs)
index_lacks_close {xs = xs} n o f h = lacks_by index_of (index_back n (Mark m.OpenBracket o ∷ xs)) (delimited_lacks_close o expr_end f h)

pub index_lacks_open : (n : ℕ) (xs : List Sym) → ((o : ℕ) (zs : List Sym) → xs ≡ Mark m.OpenBracket o ∷ zs → ⊥) → Lacks (IndexUpto n) xs
index_lacks_open n xs h = record { none = λ a y us d w. h d.0 (d.2 ++ Mark m.CloseBracket d.1 ∷ [] ++ us) (w ∙ ap (λ v. v ++ us) d.4) }

pub call_found : {r : Deep (List Expr)} {xs : List Sym} (n o p : ℕ) (ys : List Sym) → Found (ExprsUpto n) InList xs r (Mark m.CloseParen p ∷ ys)
    → Found (CallUpto n) Never (Mark m.OpenParen o ∷ xs) (l.Call r.0, r.1) ys
call_found {r = r} {xs = xs} n o p ys f = found_by call_of (λ a w d. call_forth n a (o, (r, p)) d) (call_back n (Mark m.OpenParen o ∷ xs)) (delimited o p ys list_end f)

pub call_lacks_close : {r : Deep (List Expr)} {xs ys : List Sym} (n o : ℕ) → Found (ExprsUpto n) InList xs r ys → ((at : ℕ) (zs : List Sym) → ys ≡ Mark m.CloseParen at ∷ zs → ⊥)
    → Lacks (CallUpto n) (Mark m.OpenParen o ∷ xs)
call_lacks_close {xs = xs} n o f h = lacks_by call_of (call_back n (Mark m.OpenParen o ∷ xs)) (delimited_lacks_close o list_end f h)

pub call_lacks_open : (n : ℕ) (xs : List Sym) → ((o : ℕ) (zs : List Sym) → xs ≡ Mark m.OpenParen o ∷ zs → ⊥) → Lacks (CallUpto n) xs
call_lacks_open n xs h = record { none = λ a y us d w. h d.0 (d.2 ++ Mark m.CloseParen d.1 ∷ [] ++ us) (w ∙ ap (λ v. v ++ us) d.4) }

-- ---- links

of_no_member : (number : Bool) → (number && false) ≡ false
of_no_member true = refl
of_no_member false = refl

index_link_up : {a : List Sym} {u : Link} {e : ℕ} (number : Bool) (n : ℕ) → IndexUpto n a (u, e) → LinkUpto number n a (u, e)
index_link_up {a = a} {u = u} {e = e} number n d = (
  subst (λ (v : Link). IsLink a v e) (sym d.5) (subst (λ v. IsLink v (l.Index d.3) e) (sym d.4) (index_link d.0 d.1 d.6)),
  ap (λ (v : Link). number && is_member v) d.5 ∙ of_no_member number,
  d.7,
)

call_link_up : {a : List Sym} {u : Link} {e : ℕ} (number : Bool) (n : ℕ) → CallUpto n a (u, e) → LinkUpto number n a (u, e)
call_link_up {a = a} {u = u} {e = e} number n d = (
  subst (λ (v : Link). IsLink a v e) (sym d.5) (subst (λ v. IsLink v (l.Call d.3) e) (sym d.4) (call_link d.0 d.1 d.6)),
  ap (λ (v : Link). number && is_member v) d.5 ∙ of_no_member number,
  d.7,
)

-- a link that begins with `[` is an index, and one that begins with `(` a call

pub link_index : {r : Deep Link} {xs ys : List Sym} (number : Bool) (n : ℕ) → Found (IndexUpto n) Never xs r ys → Found (LinkUpto number n) Never xs r ys
link_index {r = r} {xs = xs} {ys = ys} number n f = record {
  front = f.front;
  whole = f.whole;
  derives = index_link_up number n f.derives;
  longest = λ a y zs d w. go zs d.0 d.2 w;
}
  where
    opens : xs ≡ Mark m.OpenBracket f.derives.0 ∷ (f.derives.2 ++ Mark m.CloseBracket f.derives.1 ∷ [] ++ ys)
    opens = f.whole ∙ ap (λ v. v ++ ys) f.derives.4

    go : {a : List Sym} {u : Link} {e : ℕ} (zs : List Sym) → IsLink a u e → e ≤ n → xs ≡ a ++ zs → Ends {X = Deep Link} Never r ys (u, e) zs
    go zs (member_link k o s p) h w = let e = sym opens ∙ w in cc
    go zs (index_link o p {xs = b} {of = of} {d = d} q) h w = f.longest (Mark m.OpenBracket o ∷ b ++ Mark m.CloseBracket p ∷ []) (l.Index of, d) zs (o, p, b, of, refl, refl, q, h) w
    go zs (call_link o p q) h w = let e = sym opens ∙ w in cc

pub link_call : {r : Deep Link} {xs ys : List Sym} (number : Bool) (n : ℕ) → Found (CallUpto n) Never xs r ys → Found (LinkUpto number n) Never xs r ys
link_call {r = r} {xs = xs} {ys = ys} number n f = record {
  front = f.front;
  whole = f.whole;
  derives = call_link_up number n f.derives;
  longest = λ a y zs d w. go zs d.0 d.2 w;
}
  where
    opens : xs ≡ Mark m.OpenParen f.derives.0 ∷ (f.derives.2 ++ Mark m.CloseParen f.derives.1 ∷ [] ++ ys)
    opens = f.whole ∙ ap (λ v. v ++ ys) f.derives.4

    go : {a : List Sym} {u : Link} {e : ℕ} (zs : List Sym) → IsLink a u e → e ≤ n → xs ≡ a ++ zs → Ends {X = Deep Link} Never r ys (u, e) zs
    go zs (member_link k o s p) h w = let e = sym opens ∙ w in cc
    go zs (index_link o p q) h w = let e = sym opens ∙ w in cc
    go zs (call_link o p {xs = b} {of = of} {d = d} q) h w = f.longest (Mark m.OpenParen o ∷ b ++ Mark m.CloseParen p ∷ []) (l.Call of, d) zs (o, p, b, of, refl, refl, q, h) w

pub link_member : {r : Deep Link} {xs ys : List Sym} (n : ℕ) → Found MemberRule Never xs r ys → Lacks (IndexUpto n) xs → Lacks (CallUpto n) xs → Found (LinkUpto false n) Never xs r ys
link_member {r = r} {xs = xs} {ys = ys} n f g h = record {
  front = f.front;
  whole = f.whole;
  derives = (f.derives.0, refl, shallow f.derives.0 f.derives.1);
  longest = λ a y zs d w. go zs d.0 d.2 w;
}
  where
    shallow : {a : List Sym} {u : Link} {e : ℕ} → IsLink a u e → is_member u ≡ true → e ≤ n
    shallow (member_link k o s p) i = omega arith
    shallow (index_link o p q) i = let n : false ≡ true = i in cc
    shallow (call_link o p q) i = let n : false ≡ true = i in cc

    go : {a : List Sym} {u : Link} {e : ℕ} (zs : List Sym) → IsLink a u e → e ≤ n → xs ≡ a ++ zs → Ends {X = Deep Link} Never r ys (u, e) zs
    go zs (member_link k o s p) i w = f.longest (Mark m.Dot o ∷ word k s p ∷ []) (l.Member s, 0) zs (member_link k o s p, refl) w
    go zs (index_link o p {xs = b} {of = of} {d = d} q) i w = absurd (g.none (Mark m.OpenBracket o ∷ b ++ Mark m.CloseBracket p ∷ []) (l.Index of, d) zs (o, p, b, of, refl, refl, q, i) w)
    go zs (call_link o p {xs = b} {of = of} {d = d} q) i w = absurd (h.none (Mark m.OpenParen o ∷ b ++ Mark m.CloseParen p ∷ []) (l.Call of, d) zs (o, p, b, of, refl, refl, q, i) w)

pub link_lacks : {xs : List Sym} (number : Bool) (n : ℕ) → (number ≡ false → Lacks MemberRule xs) → Lacks (IndexUpto n) xs → Lacks (CallUpto n) xs → Lacks (LinkUpto number n) xs
link_lacks {xs = xs} number n f g h = record { none = λ a y zs d w. go zs d.0 d.1 d.2 w }
  where
    no_number : (number && true) ≡ false → number ≡ false
    no_number e = go number e
      where
        go : (b : Bool) → (b && true) ≡ false → b ≡ false
        go true e = e
        go false e = refl

    go : {a : List Sym} {u : Link} {e : ℕ} (zs : List Sym) → IsLink a u e → (number && is_member u) ≡ false → e ≤ n → xs ≡ a ++ zs → ⊥
    go zs (member_link k o s p) j i w = (f (no_number j)).none (Mark m.Dot o ∷ word k s p ∷ []) (l.Member s, 0) zs (member_link k o s p, refl) w
    go zs (index_link o p {xs = b} {of = of} {d = d} q) j i w = g.none (Mark m.OpenBracket o ∷ b ++ Mark m.CloseBracket p ∷ []) (l.Index of, d) zs (o, p, b, of, refl, refl, q, i) w
    go zs (call_link o p {xs = b} {of = of} {d = d} q) j i w = h.none (Mark m.OpenParen o ∷ b ++ Mark m.CloseParen p ∷ []) (l.Call of, d) zs (o, p, b, of, refl, refl, q, i) w

-- ---- any number of links

abbrev pub LinksUpto : ℕ → ℕ → Expr → ℕ → List Sym → Deep Expr → Type 0
LinksUpto n at x d xs r = IsLinks at x d xs r.0 r.1 × (r.1 ≤ n)

pub links_grow : {at : ℕ} {x y : Expr} {d n : ℕ} {xs : List Sym} → IsLinks at x d xs y n → d ≤ n
links_grow no_links = omega arith
links_grow (more_links q i r) = omega (arith, links_grow r)

links_as : {at : ℕ} {x y : Expr} {d n : ℕ} {xs ys : List Sym} → xs ≡ ys → IsLinks at x d xs y n → IsLinks at x d ys y n
links_as {at = at} {x = x} {y = y} {d = d} {n = n} e q = subst (λ v. IsLinks at x d v y n) e q

-- one more link behind some
links_on : {at : ℕ} {x y : Expr} {d n e : ℕ} {xs ys : List Sym} {link : Link} → IsLinks at x d xs y n → IsLink ys link e → (is_number y && is_member link) ≡ false
    → IsLinks at x d (xs ++ ys) (linked at y link) (max n e + 1)
links_on {ys = ys} no_links q i = links_as (append-nil ys) (more_links q i no_links)
links_on {ys = ys} (more_links {xs = a} {ys = b} p j r) q i = links_as (sym (append_assoc a b ys)) (more_links p j (links_on r q i))

pub link_starts : {a : List Sym} {u : Link} {e : ℕ} (us : List Sym) → IsLink a u e → Starts InChain (a ++ us)
link_starts us (member_link k o s p) = refl
link_starts us (index_link o p q) = refl
link_starts us (call_link o p q) = refl

pub link_long : {a : List Sym} {u : Link} {e : ℕ} → IsLink a u e → 1 ≤ length a
link_long (member_link k o s p) = omega arith
link_long (index_link o p q) = omega arith
link_long (call_link o p q) = omega arith

-- no further link, or no room for one
pub links_stop : (n at : ℕ) (x : Expr) (d : ℕ) (xs : List Sym) → d ≤ n → (d < n → Lacks (LinkUpto (is_number x) (n - 1)) xs) → Found (LinksUpto n at x d) InChain xs (x, d) xs
links_stop n at x d xs shallow h = record {
  front = [];
  whole = refl;
  derives = (no_links, shallow);
  longest = λ a y us q w. go us q.0 q.1 w;
}
  where
    go : {a : List Sym} {u : Expr} {k : ℕ} (us : List Sym) → IsLinks at x d a u k → k ≤ n → xs ≡ a ++ us → Ends {X = Deep Expr} InChain (x, d) xs (u, k) us
    go us no_links i w = inl (refl, w)
    go us (more_links {xs = a} {ys = b} {link = link} {e = e} q j r) i w =
        let room : max d e + 1 ≤ n = omega (arith, links_grow r, i) in
        absurd ((h (omega arith)).none a (link, e) (b ++ us) (q, j, omega arith) (w ∙ append_assoc a b us))

-- a link, and those behind it
pub links_step : {link : Link} {e : ℕ} {r : Deep Expr} {xs ys zs : List Sym} (n at : ℕ) (x : Expr) (d : ℕ) → d < n → Found (LinkUpto (is_number x) (n - 1)) Never xs (link, e) ys
    → Found (LinksUpto n at (linked at x link) (max d e + 1)) InChain ys r zs → Found (LinksUpto n at x d) InChain xs r zs
links_step {link = link} {e = e} {r = r} {xs = xs} {ys = ys} {zs = zs} n at x d room f g = record {
  front = f.front ++ g.front;
  whole = f.whole ∙ ap (λ v. f.front ++ v) g.whole ∙ sym (append_assoc f.front g.front zs);
  derives = (more_links f.derives.0 f.derives.1 g.derives.0, g.derives.1);
  longest = λ a y us q w. go us q.0 q.1 w;
}
  where
    go : {a : List Sym} {u : Expr} {k : ℕ} (us : List Sym) → IsLinks at x d a u k → k ≤ n → xs ≡ a ++ us → Ends {X = Deep Expr} InChain r zs (u, k) us
    go us no_links i w = inr (
      omega (arith, shorter g, link_long f.derives.0, ap length f.whole, length-append f.front ys, ap length w),
      subst (λ v. Starts InChain v) (sym f.whole ∙ w) (link_starts ys f.derives.0),
    )
    go {u = u} {k = k} us (more_links {xs = a} {ys = b} {link = link'} {e = e'} q j t) i w =
        let within : max d e' + 1 ≤ n = omega (arith, links_grow t, i) in
        let o = exact f a (link', e') (b ++ us) (q, j, omega arith) (w ∙ append_assoc a b us) (never (b ++ us)) in
        g.longest b (u, k) us (subst (λ (v : Deep Link). IsLinks at (linked at x v.0) (max d v.1 + 1) b u k) (sym o.0) t, i) o.1

-- ---- chains

pub primary_long : {a : List Sym} {u : Expr} {d : ℕ} → IsPrimary true a u d → 1 ≤ length a
primary_long (name_expr s at e) = omega arith
primary_long (this_expr s at) = omega arith
primary_long (number_expr s at) = omega arith
primary_long (string_expr s at) = omega arith
primary_long (template_expr s at) = omega arith
primary_long (spans_expr s at q) = omega arith
primary_long (boolean_expr s at e) = omega arith
primary_long (null_expr s at) = omega arith
primary_long (undefined_expr s at) = omega arith
primary_long (parens_expr o p q) = omega arith
primary_long (array_expr o p q) = omega arith
primary_long (object_expr o p q) = omega arith
primary_long (new_expr s at t n o p e q) = omega arith

pub start_append : (xs ys : List Sym) → 1 ≤ length xs → start_of (xs ++ ys) ≡ start_of xs
start_append [] ys h = absurd (omega (arith, h))
start_append (s ∷ ss) ys h = refl

-- a chain's primary, and its links
pub record Begins (xs : List Sym) (x : Expr) (d : ℕ) : Type 0 where
  pub first : List Sym
  pub more : List Sym
  pub of : Expr
  pub depth : ℕ
  pub parts : xs ≡ first ++ more
  pub primary : IsPrimary true first of depth
  pub links : IsLinks (start_of xs) of depth more x d

pub chain_long : {a : List Sym} {u : Expr} {d : ℕ} → IsChain true a u d → 1 ≤ length a
chain_long (primary_expr q) = primary_long q
chain_long (member_expr k dot s at {xs = a} q n) = omega (arith, chain_long q, length-append a (Mark m.Dot dot ∷ word k s at ∷ []))
chain_long (index_expr o p {xs = a} {ys = b} q r) = omega (arith, chain_long q, length-append (a ++ Mark m.OpenBracket o ∷ b) (Mark m.CloseBracket p ∷ []), length-append a (Mark m.OpenBracket o ∷ b))
chain_long (call_expr o p {xs = a} {ys = b} q r) = omega (arith, chain_long q, length-append (a ++ Mark m.OpenParen o ∷ b) (Mark m.CloseParen p ∷ []), length-append a (Mark m.OpenParen o ∷ b))

-- with one link more
begins_on : {xs ys : List Sym} {x : Expr} {d e : ℕ} {link : Link} → 1 ≤ length xs → Begins xs x d → IsLink ys link e → (is_number x && is_member link) ≡ false
    → Begins (xs ++ ys) (linked (start_of xs) x link) (max d e + 1)
begins_on {xs = xs} {ys = ys} {x = x} {d = d} {e = e} {link = link} long b q i = record {
  first = b.first;
  more = b.more ++ ys;
  of = b.of;
  depth = b.depth;
  parts = ap (λ v. v ++ ys) b.parts ∙ append_assoc b.first b.more ys;
  primary = b.primary;
  links = subst (λ (o : ℕ). IsLinks o b.of b.depth (b.more ++ ys) (linked (start_of xs) x link) (max d e + 1)) (sym (start_append xs ys long)) (links_on b.links q i);
}

begins_as : {xs ys : List Sym} {x : Expr} {d e : ℕ} → xs ≡ ys → d ≡ e → Begins xs x d → Begins ys x e
begins_as {xs = xs} {x = x} {d = d} {e = e} p q b = subst (λ v. Begins v x e) p (subst (λ (n : ℕ). Begins xs x n) q b)

pub unroll : {xs : List Sym} {x : Expr} {d : ℕ} → IsChain true xs x d → Begins xs x d
unroll {xs = xs} (primary_expr q) = record { first = xs; more = []; of = _; depth = _; parts = sym (append-nil xs); primary = q; links = no_links }
unroll (member_expr k dot s at {xs = a} {of = of} {d = d} q n) =
    let deep : max d 0 + 1 ≡ d + 1 = omega arith in
    begins_as refl deep (begins_on (chain_long q) (unroll q) (member_link k dot s at) (and_true (is_number of) n))
  where
    and_true : (b : Bool) → b ≡ false → (b && true) ≡ false
    and_true true e = e
    and_true false e = refl
unroll (index_expr o p {xs = a} {ys = b} {of = of} q r) =
    begins_as (sym (append_assoc a (Mark m.OpenBracket o ∷ b) (Mark m.CloseBracket p ∷ []))) refl (begins_on (chain_long q) (unroll q) (index_link o p r) (of_no_member (is_number of)))
unroll (call_expr o p {xs = a} {ys = b} {of = of} q r) =
    begins_as (sym (append_assoc a (Mark m.OpenParen o ∷ b) (Mark m.CloseParen p ∷ []))) refl (begins_on (chain_long q) (unroll q) (call_link o p r) (of_no_member (is_number of)))

chain_as : {x : Expr} {d e : ℕ} {xs ys : List Sym} → xs ≡ ys → d ≡ e → IsChain true xs x d → IsChain true ys x e
chain_as {x = x} {d = d} {e = e} {xs = xs} p i q = subst (λ v. IsChain true v x e) p (subst (λ (n : ℕ). IsChain true xs x n) i q)

no_member_number : (b : Bool) → (b && true) ≡ false → b ≡ false
no_member_number true e = e
no_member_number false e = refl

pub roll : {at : ℕ} {x y : Expr} {d n : ℕ} {xs ys : List Sym} → 1 ≤ length xs → at ≡ start_of xs → IsChain true xs x d → IsLinks at x d ys y n → IsChain true (xs ++ ys) y n
roll {xs = xs} h i q no_links = chain_as (sym (append-nil xs)) refl q
roll {at = at} {x = x} {d = d} {xs = xs} h i q (more_links {xs = a} {ys = b} {link = link} {e = e} p j r) =
    chain_as (append_assoc xs a b) refl (roll (longer a) (i ∙ sym (start_append xs a h)) (one p j) r)
  where
    longer : (a : List Sym) → 1 ≤ length (xs ++ a)
    longer a = omega (arith, h, length-append xs a)

    one : {a : List Sym} {u : Link} {k : ℕ} → IsLink a u k → (is_number x && is_member u) ≡ false → IsChain true (xs ++ a) (linked at x u) (max d k + 1)
    one (member_link k o s p) j =
        let deep : d + 1 ≡ max d 0 + 1 = omega arith in
        let c = chain_as refl deep (member_expr k o s p q (no_member_number (is_number x) j)) in
        subst (λ (v : ℕ). IsChain true (xs ++ Mark m.Dot o ∷ word k s p ∷ []) (expr.Member v x s) (max d 0 + 1)) (sym i) c
    one (index_link o p {xs = a} {of = of} {d = k} t) j =
        let c = chain_as (append_assoc xs (Mark m.OpenBracket o ∷ a) (Mark m.CloseBracket p ∷ [])) refl (index_expr o p q t) in
        subst (λ (v : ℕ). IsChain true (xs ++ (Mark m.OpenBracket o ∷ a ++ Mark m.CloseBracket p ∷ [])) (expr.Index v x of) (max d k + 1)) (sym i) c
    one (call_link o p {xs = a} {of = of} {d = k} t) j =
        let c = chain_as (append_assoc xs (Mark m.OpenParen o ∷ a) (Mark m.CloseParen p ∷ [])) refl (call_expr o p q t) in
        subst (λ (v : ℕ). IsChain true (xs ++ (Mark m.OpenParen o ∷ a ++ Mark m.CloseParen p ∷ [])) (expr.Call v x [] of) (max d k + 1)) (sym i) c

-- the primary, and what follows it
pub chain_found : {x : Expr} {d : ℕ} {r : Deep Expr} {xs ys zs : List Sym} (n at : ℕ) → at ≡ start_of xs → Found (PrimaryUpto n) Never xs (x, d) ys → Found (LinksUpto n at x d) InChain ys r zs
    → Found (ChainUpto n) InChain xs r zs
chain_found {x = x} {d = d} {r = r} {xs = xs} {ys = ys} {zs = zs} n at place f g = record {
  front = f.front ++ g.front;
  whole = f.whole ∙ ap (λ v. f.front ++ v) g.whole ∙ sym (append_assoc f.front g.front zs);
  derives = (roll long (place ∙ ap start_of f.whole ∙ start_append f.front ys long) (primary_expr f.derives.0) g.derives.0, g.derives.1);
  longest = λ a y us q w. go us q.0 q.1 w;
}
  where
    long : 1 ≤ length f.front
    long = primary_long f.derives.0

    go : {a : List Sym} {u : Expr} {k : ℕ} (us : List Sym) → IsChain true a u k → k ≤ n → xs ≡ a ++ us → Ends {X = Deep Expr} InChain r zs (u, k) us
    go {a = a} {u = u} {k = k} us q i w =
        let b = unroll q in
        let shallow : b.depth ≤ n = omega (arith, links_grow b.links, i) in
        let o = exact f b.first (b.of, b.depth) (b.more ++ us) (b.primary, shallow) (w ∙ ap (λ v. v ++ us) b.parts ∙ append_assoc b.first b.more us) (never (b.more ++ us)) in
        let begins : start_of a ≡ at = sym (place ∙ ap start_of w ∙ start_append a us (chain_long q)) in
        let links = subst (λ (v : ℕ). IsLinks v b.of b.depth b.more u k) begins b.links in
        g.longest b.more (u, k) us (subst (λ (v : Deep Expr). IsLinks at v.0 v.1 b.more u k) (sym o.0) links, i) o.1

-- ---- a loop over links: whatever links are found from here make what is found in all

abbrev pub ChainSoFar : ℕ → ℕ → Expr → ℕ → List Sym → List Sym → Type 0
ChainSoFar n at x d start xs = (r : Deep Expr) (zs : List Sym) → Found (LinksUpto n at x d) InChain xs r zs → Found (ChainUpto n) InChain start r zs

-- ---- what `link_at` answers

pub link_number : {xs : List Sym} (number : Bool) (n : ℕ) → number ≡ true → Lacks (IndexUpto n) xs → Lacks (CallUpto n) xs → Lacks (LinkUpto number n) xs
link_number number n e g h = link_lacks number n (λ i. let k : true ≡ false = sym e ∙ i in absurd (cc)) g h

pub link_answer : (number : Bool) (n : ℕ) (r : Reader) (at : ℕ) (o : Option (Front Link)) → number ≡ false → Lacks (IndexUpto n) (rest r at) → Lacks (CallUpto n) (rest r at) → Reads MemberRule Never r at o
    → Reads (LinkUpto number n) Never r at o
link_answer true n r at o e g h f = let k : true ≡ false = e in absurd (cc)
link_answer false n r at None e g h f = link_lacks false n (λ i. f) g h
link_answer false n r at (Some x) e g h f = (f.0, link_member n f.1 g h)

pub chain_start : {x : Expr} {d : ℕ} {xs ys : List Sym} (n at : ℕ) → at ≡ start_of xs → Found (PrimaryUpto n) Never xs (x, d) ys → ChainSoFar n at x d xs ys
chain_start n at place f r zs g = chain_found n at place f g

pub chain_on : {link : Link} {e : ℕ} {xs ys start : List Sym} (n at : ℕ) (x : Expr) (d : ℕ) → d < n → ChainSoFar n at x d start xs → Found (LinkUpto (is_number x) (n - 1)) Never xs (link, e) ys
    → ChainSoFar n at (linked at x link) (max d e + 1) start ys
chain_on n at x d room all f r zs g = all r zs (links_step n at x d room f g)

pub chain_end : {xs start : List Sym} (n at : ℕ) (x : Expr) (d : ℕ) → d ≤ n → ChainSoFar n at x d start xs → (d < n → Lacks (LinkUpto (is_number x) (n - 1)) xs) → Found (ChainUpto n) InChain start (x, d) xs
chain_end {xs = xs} n at x d shallow all h = all (x, d) xs (links_stop n at x d xs shallow h)

-- another tree and another depth that are the same
pub chain_as_far : {xs start : List Sym} {x y : Expr} {d e : ℕ} (n at : ℕ) → x ≡ y → d ≡ e → ChainSoFar n at y e start xs → ChainSoFar n at x d start xs
chain_as_far {xs = xs} {start = start} {y = y} {d = d} n at p q all =
    subst (λ (v : Expr). ChainSoFar n at v d start xs) (sym p) (subst (λ (k : ℕ). ChainSoFar n at y k start xs) (sym q) all)

pub link_falls : {r : Deep Link} {xs ys : List Sym} (number : Bool) (n : ℕ) → Found (LinkUpto number n) Never xs r ys → length ys < length xs
link_falls {ys = ys} number n f = omega (arith, link_long f.derives.0, ap length f.whole, length-append f.front ys)

-- a link behind what is a number or not

pub link_as_number : {r : Deep Link} {xs ys : List Sym} {a b : Bool} (n : ℕ) → a ≡ b → Found (LinkUpto a n) Never xs r ys → Found (LinkUpto b n) Never xs r ys
link_as_number {r = r} {xs = xs} {ys = ys} n e f = subst (λ (v : Bool). Found (LinkUpto v n) Never xs r ys) e f

pub links_lack_number : {xs : List Sym} {a b : Bool} (n : ℕ) → a ≡ b → Lacks (LinkUpto a n) xs → Lacks (LinkUpto b n) xs
links_lack_number {xs = xs} n e f = subst (λ (v : Bool). Lacks (LinkUpto v n) xs) e f
