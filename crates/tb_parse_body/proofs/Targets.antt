-- The longest chain that is a target: a chain without the calls behind its last member or index.
use Rattle.std.proofs.Common.{◌≡◌, ℕ, zero, suc, ◌+◌, ◌-◌, ◌≤◌, ◌<◌, max, Bool, true, false, List, [], ◌∷◌, ◌++◌, length, refl, sym, ◌∙◌, ap, subst, inl, inr, arith, append_assoc, append-nil, length-append}
use Rattle.std.specs.Prelude.{◌⊎◌}
use Rattle.tb_tree.specs.declared.exprs.Expr.{Expr, out-Expr}
use Rattle.tb_tree.specs.declared.exprs.Expr.TheVariants as expr
use Rattle.tb_tree.specs.Sym.{Sym}
use Rattle.tb_tree.specs.Longest.{Found, Lacks, Ends, Starts, Never}
use Rattle.tb_tree.specs.Shapes.{start_of}
use Rattle.tb_tree.specs.Exprs.{is_number, is_target, is_target_at, IsChain, primary_expr}
use Rattle.tb_tree.proofs.Ends.{exact, never}
use Rattle.tb_parse_body.specs.declared.fronts.Link.{Link}
use Rattle.tb_parse_body.specs.declared.fronts.Link.TheVariants as l
use Rattle.tb_parse_body.specs.Links.{IsLink, is_call, linked, callee_of, callee_at, strip, LinkUpto, IsLinks, no_links, more_links}
use Rattle.tb_parse_body.specs.Rules.{Deep, PrimaryUpto, TargetUpto, InChain}
use Rattle.tb_parse_body.proofs.Linking.{Begins, unroll, roll, primary_long, chain_long, start_append, links_grow, link_starts, link_long}

-- how a chain at the front of a list stands to what was read: it is the base, that is what was read without its last calls; or it ends
-- before that, and then the base is a target; or it is no target
pub Before : List Sym → Expr → ℕ → List Sym → Expr → ℕ → Type 0
Before base y b us u k = ((us ≡ base) × (u ≡ y) × (k ≡ b)) ⊎ (((length base < length us) × Starts InChain us × (is_target y ≡ true)) ⊎ (is_target u ≡ false))

-- or goes on behind it
pub Behind : ℕ → Expr → ℕ → List Sym → List Sym → Expr → ℕ → Type 0
Behind at x d left us u k = (more : List Sym) × IsLinks at x d more u k × (left ≡ more ++ us) × (1 ≤ length more)

pub record TargetSoFar (n at : ℕ) (start : List Sym) (x : Expr) (d : ℕ) (left : List Sym) (calls b : ℕ) (base : List Sym) : Type 0 where
  pub front : List Sym
  pub whole : start ≡ front ++ base
  pub derives : IsChain true front (strip calls x) b
  pub shallow : b ≤ n
  pub place : at ≡ start_of start
  pub far : List Sym
  pub reads : start ≡ far ++ left
  pub chain : IsChain true far x d
  pub further : length left ≤ length base
  pub same : calls ≡ 0 → base ≡ left
  pub called : 1 ≤ calls → Starts InChain base
  pub all : (a : List Sym) (u : Expr) (k : ℕ) (us : List Sym) → IsChain true a u k → k ≤ n → start ≡ a ++ us
      → Before base (strip calls x) b us u k ⊎ Behind at x d left us u k

-- at the primary
pub target_start : {x : Expr} {d : ℕ} {xs ys : List Sym} (n at : ℕ) → at ≡ start_of xs → Found (PrimaryUpto n) Never xs (x, d) ys → TargetSoFar n at xs x d ys 0 d ys
unfolding strip Before Behind
target_start {x = x} {d = d} {xs = xs} {ys = ys} n at place f = record {
  front = f.front;
  whole = f.whole;
  derives = primary_expr f.derives.0;
  shallow = f.derives.1;
  place = place;
  far = f.front;
  reads = f.whole;
  chain = primary_expr f.derives.0;
  further = omega arith;
  same = λ e. refl;
  called = λ h. absurd (omega (arith, h));
  all = λ a u k us q i w. go us q i w;
}
  where
    go : {a : List Sym} {u : Expr} {k : ℕ} (us : List Sym) → IsChain true a u k → k ≤ n → xs ≡ a ++ us → Before ys x d us u k ⊎ Behind at x d ys us u k
    go {a = a} {u = u} {k = k} us q i w =
        let b = unroll q in
        let shallow : b.depth ≤ n = omega (arith, links_grow b.links, i) in
        let o = exact f b.first (b.of, b.depth) (b.more ++ us) (b.primary, shallow) (w ∙ ap (λ v. v ++ us) b.parts ∙ append_assoc b.first b.more us) (never (b.more ++ us)) in
        let begins : start_of a ≡ at = sym (place ∙ ap start_of w ∙ start_append a us (chain_long q)) in
        let links = subst (λ (v : ℕ). IsLinks v b.of b.depth b.more u k) begins b.links in
        let from = subst (λ (v : Deep Expr). IsLinks at v.0 v.1 b.more u k) (sym o.0) links in
        by b.more from o.1
      where
        by : {v : Expr} {j : ℕ} (more : List Sym) → IsLinks at x d more v j → ys ≡ more ++ us → Before ys x d us v j ⊎ Behind at x d ys us v j
        by _ no_links e = inl (inl (sym e, refl, refl))
        by _ (more_links {xs = p} {ys = r} t j z) e = inr (p ++ r, more_links t j z, e, omega (arith, link_long t, length-append p r))

-- ---- a link more

-- what a link makes of an expression
call_is_target : (at : ℕ) (x : Expr) (link : Link) → is_call link ≡ true → is_target (linked at x link) ≡ false
call_is_target at x (l.Call of) e = ap is_target_at (expr.outs-Call at x [] of)
call_is_target at x (l.Member name) e = let n : false ≡ true = e in cc
call_is_target at x (l.Index of) e = let n : false ≡ true = e in cc

other_is_target : (at : ℕ) (x : Expr) (link : Link) → is_call link ≡ false → is_target (linked at x link) ≡ true
other_is_target at x (l.Call of) e = let n : true ≡ false = e in cc
other_is_target at x (l.Member name) e = ap is_target_at (expr.outs-Member at x name)
other_is_target at x (l.Index of) e = ap is_target_at (expr.outs-Index at x of)

callee_linked : (at : ℕ) (x : Expr) (link : Link) → is_call link ≡ true → callee_of (linked at x link) ≡ x
callee_linked at x (l.Call of) e = ap (callee_at (expr.Call at x [] of)) (expr.outs-Call at x [] of)
callee_linked at x (l.Member name) e = let n : false ≡ true = e in cc
callee_linked at x (l.Index of) e = let n : false ≡ true = e in cc

starts_left : {link : Link} {e : ℕ} {left ys : List Sym} (number : Bool) (n : ℕ) → Found (LinkUpto number n) Never left (link, e) ys → Starts InChain left
starts_left {ys = ys} number n f = subst (λ v. Starts InChain v) (sym f.whole) (link_starts ys f.derives.0)

-- the base begins with a link where one follows
base_starts : {n at : ℕ} {start left base : List Sym} {x : Expr} {d b : ℕ} (calls : ℕ) → TargetSoFar n at start x d left calls b base → Starts InChain left → Starts InChain base
base_starts zero i s = subst (λ v. Starts InChain v) (sym (i.same refl)) s
base_starts (suc calls) i s = i.called (omega arith)

-- the chain with the link
linked_far : {n at : ℕ} {start left base ys : List Sym} {x : Expr} {d b calls e : ℕ} {link : Link} (low : ℕ) → (i : TargetSoFar n at start x d left calls b base)
    → (f : Found (LinkUpto (is_number x) low) Never left (link, e) ys) → IsChain true (i.far ++ f.front) (linked at x link) (max d e + 1)
linked_far {at = at} {start = start} {left = left} {x = x} {d = d} {e = e} {link = link} low i f =
    let begins : at ≡ start_of i.far = i.place ∙ ap start_of i.reads ∙ start_append i.far left (chain_long i.chain) in
    let chain = roll (chain_long i.chain) begins i.chain (more_links f.derives.0 f.derives.1 no_links) in
    subst (λ v. IsChain true (i.far ++ v) (linked at x link) (max d e + 1)) (append-nil f.front) chain

linked_reads : {n at : ℕ} {start left base ys : List Sym} {x : Expr} {d b calls e : ℕ} {link : Link} (low : ℕ) → (i : TargetSoFar n at start x d left calls b base)
    → (f : Found (LinkUpto (is_number x) low) Never left (link, e) ys) → start ≡ i.far ++ f.front ++ ys
linked_reads {ys = ys} low i f = i.reads ∙ ap (λ v. i.far ++ v) f.whole ∙ sym (append_assoc i.far f.front ys)

-- what goes on behind, begins with this link
behind_link : {link : Link} {e : ℕ} {left ys : List Sym} (n at : ℕ) (x : Expr) (d : ℕ) (us : List Sym) (u : Expr) (k : ℕ) → k ≤ n → Found (LinkUpto (is_number x) (n - 1)) Never left (link, e) ys
    → Behind at x d left us u k → ((us ≡ ys) × (u ≡ linked at x link) × (k ≡ max d e + 1)) ⊎ Behind at (linked at x link) (max d e + 1) ys us u k
unfolding Behind
behind_link {link = link} {e = e} {left = left} {ys = ys} n at x d us u k i f b = go b.0 b.1 i b.2 b.3
  where
    on : {v : Expr} {q : ℕ} (more : List Sym) → IsLinks at (linked at x link) (max d e + 1) more v q → ys ≡ more ++ us
        → ((us ≡ ys) × (v ≡ linked at x link) × (q ≡ max d e + 1)) ⊎ Behind at (linked at x link) (max d e + 1) ys us v q
    on _ no_links w = inl (sym w, refl, refl)
    on _ (more_links {xs = p} {ys = r} t j z) w = inr (p ++ r, more_links t j z, w, omega (arith, link_long t, length-append p r))

    go : {v : Expr} {q : ℕ} (more : List Sym) → IsLinks at x d more v q → q ≤ n → left ≡ more ++ us → 1 ≤ length more
        → ((us ≡ ys) × (v ≡ linked at x link) × (q ≡ max d e + 1)) ⊎ Behind at (linked at x link) (max d e + 1) ys us v q
    go _ no_links fit w h = absurd (omega (arith, h))
    go {v = v} {q = q} _ (more_links {xs = p} {ys = r} {link = link'} {e = e'} t j z) fit w h =
        let within : max d e' + 1 ≤ n = omega (arith, links_grow z, fit) in
        let o = exact f p (link', e') (r ++ us) (t, j, omega arith) (w ∙ append_assoc p r us) (never (r ++ us)) in
        on r (subst (λ (m : Deep Link). IsLinks at (linked at x m.0) (max d m.1 + 1) r v q) (sym o.0) z) o.1

pub target_call : {link : Link} {e : ℕ} {start left base ys : List Sym} {b : ℕ} (n at : ℕ) (x : Expr) (d calls : ℕ) → d < n → is_call link ≡ true → TargetSoFar n at start x d left calls b base
    → Found (LinkUpto (is_number x) (n - 1)) Never left (link, e) ys → TargetSoFar n at start (linked at x link) (max d e + 1) ys (suc calls) b base
unfolding strip Before
target_call {link = link} {e = e} {start = start} {left = left} {base = base} {ys = ys} {b = b} n at x d calls room is i f = record {
  front = i.front;
  whole = i.whole;
  derives = subst (λ (v : Expr). IsChain true i.front v b) stripped i.derives;
  shallow = i.shallow;
  place = i.place;
  far = i.far ++ f.front;
  reads = linked_reads (n - 1) i f;
  chain = linked_far (n - 1) i f;
  further = omega (arith, i.further, ap length f.whole, length-append f.front ys);
  same = λ z. absurd (omega (arith, z));
  called = λ h. base_starts calls i (starts_left (is_number x) (n - 1) f);
  all = λ a u k us q j w. elim (i.all a u k us q j w) [
    | inl o ↦ inl (subst (λ (v : Expr). Before base v b us u k) stripped o)
    | inr o ↦ elim (behind_link n at x d us u k j f o) [
      | inl p ↦ inl (inr (inr (ap is_target p.1 ∙ call_is_target at x link is)))
      | inr p ↦ inr p
    ]
  ];
}
  where
    stripped : strip calls x ≡ strip (suc calls) (linked at x link)
    stripped = ap (strip calls) (sym (callee_linked at x link is))

pub target_move : {link : Link} {e : ℕ} {start left base ys : List Sym} {b : ℕ} (n at : ℕ) (x : Expr) (d calls : ℕ) → d < n → is_call link ≡ false → TargetSoFar n at start x d left calls b base
    → Found (LinkUpto (is_number x) (n - 1)) Never left (link, e) ys → TargetSoFar n at start (linked at x link) (max d e + 1) ys 0 (max d e + 1) ys
unfolding strip Before
target_move {link = link} {e = e} {start = start} {left = left} {base = base} {ys = ys} {b = b} n at x d calls room is i f = record {
  front = i.far ++ f.front;
  whole = linked_reads (n - 1) i f;
  derives = linked_far (n - 1) i f;
  shallow = omega (arith, room, f.derives.2);
  place = i.place;
  far = i.far ++ f.front;
  reads = linked_reads (n - 1) i f;
  chain = linked_far (n - 1) i f;
  further = omega arith;
  same = λ z. refl;
  called = λ h. absurd (omega (arith, h));
  all = λ a u k us q j w. elim (i.all a u k us q j w) [
    | inl o ↦ inl (inr (old us u k o))
    | inr o ↦ elim (behind_link n at x d us u k j f o) [
      | inl p ↦ inl (inl p)
      | inr p ↦ inr p
    ]
  ];
}
  where
    falls : length ys < length left
    falls = omega (arith, link_long f.derives.0, ap length f.whole, length-append f.front ys)

    old : (us : List Sym) (u : Expr) (k : ℕ) → Before base (strip calls x) b us u k
        → ((length ys < length us) × Starts InChain us × (is_target (linked at x link) ≡ true)) ⊎ (is_target u ≡ false)
    old us u k (inl o) = inl (
      omega (arith, falls, i.further, ap length o.0),
      subst (λ v. Starts InChain v) (sym o.0) (base_starts calls i (starts_left (is_number x) (n - 1) f)),
      other_is_target at x link is,
    )
    old us u k (inr (inl o)) = inl (omega (arith, falls, i.further, o.0), o.1, other_is_target at x link is)
    old us u k (inr (inr o)) = inr o

-- ---- the end

no_behind : {left : List Sym} (us : List Sym) (u : Expr) (k n at : ℕ) (x : Expr) (d : ℕ) → k ≤ n → (d < n → Lacks (LinkUpto (is_number x) (n - 1)) left) → Behind at x d left us u k → ⊥
unfolding Behind
no_behind {left = left} us u k n at x d i h b = go b.0 b.1 i b.2 b.3
  where
    go : {v : Expr} {q : ℕ} (more : List Sym) → IsLinks at x d more v q → q ≤ n → left ≡ more ++ us → 1 ≤ length more → ⊥
    go _ no_links fit w j = omega (arith, j)
    go _ (more_links {xs = p} {ys = r} {link = link} {e = e} t j z) fit w long =
        let within : max d e + 1 ≤ n = omega (arith, links_grow z, fit) in
        (h (omega arith)).none p (link, e) (r ++ us) (t, j, omega arith) (w ∙ append_assoc p r us)

pub target_found : {start left base : List Sym} {b : ℕ} (n at : ℕ) (x : Expr) (d calls : ℕ) (tree : Expr) → tree ≡ strip calls x → is_target tree ≡ true → TargetSoFar n at start x d left calls b base
    → (d < n → Lacks (LinkUpto (is_number x) (n - 1)) left) → Found (TargetUpto n) InChain start (tree, b) base
unfolding Before
target_found {start = start} {left = left} {base = base} {b = b} n at x d calls tree is target i h = record {
  front = i.front;
  whole = i.whole;
  derives = (subst (λ (v : Expr). IsChain true i.front v b) (sym is) i.derives, target, i.shallow);
  longest = λ a y us q w. elim (i.all a y.0 y.1 us q.0 q.2 w) [
    | inl o ↦ go y us q.1 o
    | inr o ↦ absurd (no_behind us y.0 y.1 n at x d q.2 h o)
  ];
}
  where
    go : (y : Deep Expr) (us : List Sym) → is_target y.0 ≡ true → Before base (strip calls x) b us y.0 y.1 → Ends {X = Deep Expr} InChain (tree, b) base y us
    go y us t (inl o) = inl (pair (is ∙ sym o.1) (sym o.2), sym o.0)
      where
        pair : {p q : Expr} {r s : ℕ} → p ≡ q → r ≡ s → ◌≡◌ {A = Deep Expr} (p, r) (q, s)
        pair {p = p} {s = s} e z = ap (λ (k : ℕ). let v : Deep Expr = (p, k) in v) z ∙ ap (λ (k : Expr). let v : Deep Expr = (k, s) in v) e
    go y us t (inr (inl o)) = inr (o.0, o.1)
    go y us t (inr (inr o)) = let n : true ≡ false = sym t ∙ o in cc

pub target_lacks : {start left base : List Sym} {b : ℕ} (n at : ℕ) (x : Expr) (d calls : ℕ) (tree : Expr) → tree ≡ strip calls x → is_target tree ≡ false → TargetSoFar n at start x d left calls b base
    → (d < n → Lacks (LinkUpto (is_number x) (n - 1)) left) → Lacks (TargetUpto n) start
unfolding Before
target_lacks {base = base} {b = b} n at x d calls tree is none i h = record {
  none = λ a y us q w. elim (i.all a y.0 y.1 us q.0 q.2 w) [
    | inl o ↦ go y us q.1 o
    | inr o ↦ no_behind us y.0 y.1 n at x d q.2 h o
  ];
}
  where
    untargeted : is_target (strip calls x) ≡ false
    untargeted = ap is_target (sym is) ∙ none

    go : (y : Deep Expr) (us : List Sym) → is_target y.0 ≡ true → Before base (strip calls x) b us y.0 y.1 → ⊥
    go y us t (inl o) = let n : true ≡ false = sym t ∙ ap is_target o.1 ∙ untargeted in cc
    go y us t (inr (inl o)) = let n : true ≡ false = sym o.2 ∙ untargeted in cc
    go y us t (inr (inr o)) = let n : true ≡ false = sym t ∙ o in cc

pub lacks_room : {left : List Sym} (number : Bool) (n d : ℕ) → n ≤ d → d < n → Lacks (LinkUpto number (n - 1)) left
lacks_room number n d h room = absurd (omega (arith, h, room))

pub stripped_on : (calls counter : ℕ) (tree of next : Expr) → counter < calls → next ≡ callee_of tree → strip (calls - counter) tree ≡ strip calls of → strip (calls - (counter + 1)) next ≡ strip calls of
unfolding strip
stripped_on calls counter tree of next h i e =
    let same : calls - counter ≡ suc (calls - (counter + 1)) = omega (arith, h) in
    ap (strip (calls - (counter + 1))) i ∙ sym (ap (λ n. strip n tree) same) ∙ e

pub stripped_end : (calls counter : ℕ) (tree of : Expr) → calls ≤ counter → strip (calls - counter) tree ≡ strip calls of → tree ≡ strip calls of
unfolding strip
stripped_end calls counter tree of h e = let none : calls - counter ≡ 0 = omega (arith, h) in sym (ap (λ n. strip n tree) none) ∙ e

-- the same under other names
pub target_as : {start left base : List Sym} {x y : Expr} {d e calls count b k : ℕ} (n at : ℕ) → x ≡ y → d ≡ e → calls ≡ count → b ≡ k → TargetSoFar n at start y e left count k base
    → TargetSoFar n at start x d left calls b base
target_as {start = start} {left = left} {base = base} {y = y} {d = d} {e = e} {calls = calls} {count = count} {b = b} {k = k} n at p q r s i =
    subst (λ (v : Expr). TargetSoFar n at start v d left calls b base) (sym p)
    (subst (λ (v : ℕ). TargetSoFar n at start y v left calls b base) (sym q)
    (subst (λ (v : ℕ). TargetSoFar n at start y e left v b base) (sym r)
    (subst (λ (v : ℕ). TargetSoFar n at start y e left count v base) (sym s) i)))

pub one_more : (n : ℕ) → n + 1 ≡ suc n
one_more n = omega arith

-- no chain without a primary
pub target_lacks_primary : {xs : List Sym} (n : ℕ) → Lacks (PrimaryUpto n) xs → Lacks (TargetUpto n) xs
target_lacks_primary {xs = xs} n f = record { none = λ a y us d w. go us d.0 d.2 w }
  where
    go : {a : List Sym} {u : Expr} {k : ℕ} (us : List Sym) → IsChain true a u k → k ≤ n → xs ≡ a ++ us → ⊥
    go us q i w =
        let b = unroll q in
        f.none b.first (b.of, b.depth) (b.more ++ us) (b.primary, omega (arith, links_grow b.links, i)) (w ∙ ap (λ v. v ++ us) b.parts ∙ append_assoc b.first b.more us)
