-- Where an arrow begins, it is the longest expression.
use Rattle.std.proofs.Common.{◌≡◌, ℕ, suc, ◌+◌, ◌-◌, ◌≤◌, ◌<◌, max, Bool, true, false, List, [], ◌∷◌, ◌++◌, length, refl, sym, ◌∙◌, ap, subst, inl, inr, arith, append_assoc, length-append}
use Rattle.std.specs.Prelude.{Option, Some, None, ◌⊎◌, ◌&&◌, not}
use Rattle.std.proofs.lemmas.List.{append_cancel_right}
use Rattle.tb_tree.specs.declared.marks.Mark.TheVariants as m
use Rattle.tb_tree.specs.declared.words.Word.{Word}
use Rattle.tb_tree.specs.declared.words.Word.TheVariants as words
use Rattle.tb_tree.specs.declared.exprs.UnaryOperator.{UnaryOperator}
use Rattle.tb_tree.specs.declared.exprs.AssignOperator.{AssignOperator}
use Rattle.tb_tree.specs.declared.exprs.Expr.{Expr}
use Rattle.tb_tree.specs.declared.exprs.Expr.TheVariants as expr
use Rattle.tb_tree.specs.declared.exprs.Param.{Param}
use Rattle.tb_tree.specs.declared.types.TypeExpr.{TypeExpr}
use Rattle.tb_tree.specs.Sym.{Sym, Mark, Lex}
use Rattle.tb_tree.specs.Words.{is_name}
use Rattle.tb_tree.specs.Shapes.{word}
use Rattle.tb_tree.specs.Types.{shape}
use Rattle.tb_tree.specs.Longest.{Found, Lacks, Ends, Starts, Never}
use Rattle.tb_tree.specs.Exprs.{unary_of, update_of, assign_of, IsResult, no_result, some_result, IsParams, IsArrowBody, IsExpr, arrow_expr, short_arrow_expr, assign_expr, cond_expr, IsPrimary, name_expr, this_expr, number_expr, string_expr, template_expr, spans_expr, boolean_expr, null_expr, undefined_expr, parens_expr, array_expr, object_expr, new_expr}
use Rattle.tb_tree.specs.declared.exprs.ArrowBody.{ArrowBody}
use Rattle.tb_tree.proofs.Ends.{ap_both}
use Rattle.tb_parse_body.specs.Rules.{Deep, ExprUpto, PrimaryUpto, SignatureUpto, ArrowRestUpto, ArrowUpto, IsArrow, arrow, short_arrow, InExpr}
use Rattle.tb_parse_body.proofs.Even.{group_exact, params_even, expr_even}
use Rattle.tb_parse_body.proofs.Sequences.{ThenBy, IsBack, then_found, then_lacks, then_lacks_second, found_by, lacks_by, apart_passes, apart_never}
use Rattle.tb_parse_body.proofs.ParamOpenings.{stops, GoesOn, Leads, chain_stops, cond_stops}

-- What is left behind each Primary at the front of a list begins with this symbol, with which no expression goes on.
pub record Opening (typed : Bool) (xs ys : List Sym) : Type 0 where
  pub next : Sym
  pub behind : List Sym
  pub stopped : stops next ≡ true
  pub writes_none : (operator : AssignOperator) → assign_of next ≡ Some operator → ⊥
  pub inside : InExpr typed next
  pub longer : length ys ≤ length behind
  pub primary : (a : List Sym) (u : Expr) (e : ℕ) (us : List Sym) → IsPrimary true a u e → xs ≡ a ++ us → us ≡ next ∷ behind
  pub leads : (s : Sym) (vs : List Sym) → xs ≡ s ∷ vs → Leads s

no_typeof : (k : Word) (s : List ℕ) (o : ℕ) → is_name k ≡ true → (operator : UnaryOperator) → unary_of (word k s o) ≡ Some operator → ⊥
no_typeof words.Typeof s o i operator e = let n : false ≡ true = i in cc
no_typeof _ s o i operator e = cc

pub name_leads : (k : Word) (s : List ℕ) (o : ℕ) → is_name k ≡ true → Leads (word k s o)
name_leads k s o i = (no_typeof k s o i, λ operator e. let n : None ≡ Some operator = e in cc)

pub paren_leads : (o : ℕ) → Leads (Mark m.OpenParen o)
paren_leads o = (λ operator e. let n : None ≡ Some operator = e in cc, λ operator e. let n : None ≡ Some operator = e in cc)

leads_by : (t : Sym) (ts xs : List Sym) → xs ≡ t ∷ ts → Leads t → (s : Sym) (vs : List Sym) → xs ≡ s ∷ vs → Leads s
leads_by t ts xs e h s vs w = let same : t ∷ ts ≡ s ∷ vs = sym e ∙ w in let here : t ≡ s = cc in subst (λ (x : Sym). Leads x) here h

arrow_inside : (typed : Bool) (o : ℕ) → InExpr typed (Mark m.Arrow o)
arrow_inside true o = refl
arrow_inside false o = refl

no_write_arrow : (o : ℕ) (operator : AssignOperator) → assign_of (Mark m.Arrow o) ≡ Some operator → ⊥
no_write_arrow o operator e = let n : None ≡ Some operator = e in cc

no_write_colon : (o : ℕ) (operator : AssignOperator) → assign_of (Mark m.Colon o) ≡ Some operator → ⊥
no_write_colon o operator e = let n : None ≡ Some operator = e in cc

-- the primaries at the front of a name that a mark follows, and of `(`

pub name_primary : {xs zs : List Sym} {k : Word} {s : List ℕ} {o : ℕ} {t : Sym} → xs ≡ word k s o ∷ t ∷ zs → ((kind : Word) (w : List ℕ) (p : ℕ) → t ≡ word kind w p → ⊥)
    → {a : List Sym} {u : Expr} {e : ℕ} (us : List Sym) → IsPrimary true a u e → xs ≡ a ++ us → us ≡ t ∷ zs
name_primary e h us (name_expr s o i) w = cc
name_primary e h us (this_expr s o) w = cc
name_primary e h us (number_expr s o) w = cc
name_primary e h us (string_expr s o) w = cc
name_primary e h us (template_expr s o) w = cc
name_primary e h us (spans_expr s o d) w = absurd (cc)
name_primary e h us (boolean_expr s o i) w = cc
name_primary e h us (null_expr s o) w = cc
name_primary e h us (undefined_expr s o) w = cc
name_primary e h us (parens_expr o p d) w = absurd (cc)
name_primary e h us (array_expr o p d) w = absurd (cc)
name_primary e h us (object_expr o p d) w = absurd (cc)
name_primary e h us (new_expr {kind = kind} s o v q o' p i d) w = absurd (h kind v q cc)

pub paren_primary : {xs zs : List Sym} {o : ℕ} → xs ≡ Mark m.OpenParen o ∷ zs → {a : List Sym} {u : Expr} {e : ℕ} (us : List Sym) → IsPrimary true a u e → xs ≡ a ++ us
    → (c : ℕ) × (b : List Sym) × (of : Expr) × (d : ℕ) × (zs ≡ b ++ (Mark m.CloseParen c ∷ us)) × IsExpr true true b of d × (u ≡ expr.Parens o of) × (e ≡ d + 1)
paren_primary e us (name_expr s o i) w = absurd (cc)
paren_primary e us (this_expr s o) w = absurd (cc)
paren_primary e us (number_expr s o) w = absurd (cc)
paren_primary e us (string_expr s o) w = absurd (cc)
paren_primary e us (template_expr s o) w = absurd (cc)
paren_primary e us (spans_expr s o d) w = absurd (cc)
paren_primary e us (boolean_expr s o i) w = absurd (cc)
paren_primary e us (null_expr s o) w = absurd (cc)
paren_primary e us (undefined_expr s o) w = absurd (cc)
paren_primary {zs = zs} {o = o} e us (parens_expr o' p {xs = b} {of = of} {d = d} x) w =
    let behind : zs ≡ (b ++ Mark m.CloseParen p ∷ []) ++ us = cc in
    let place : o' ≡ o = cc in
    (p, b, of, d, behind ∙ append_assoc b (Mark m.CloseParen p ∷ []) us, x, ap (λ (n : ℕ). expr.Parens n of) place, refl)
paren_primary e us (array_expr o p d) w = absurd (cc)
paren_primary e us (object_expr o p d) w = absurd (cc)
paren_primary e us (new_expr s o v q o' p i d) w = absurd (cc)

no_word_arrow : (p : ℕ) (kind : Word) (w : List ℕ) (q : ℕ) → Mark m.Arrow p ≡ word kind w q → ⊥
no_word_arrow p kind w q e = cc

short_opening : {xs zs ys : List Sym} (typed : Bool) (k : Word) (s : List ℕ) (o p : ℕ) → is_name k ≡ true → xs ≡ word k s o ∷ Mark m.Arrow p ∷ zs → length ys ≤ length zs → Opening typed xs ys
short_opening {xs = xs} {zs = zs} typed k s o p i e h = record {
  next = Mark m.Arrow p;
  behind = zs;
  stopped = refl;
  writes_none = no_write_arrow p;
  inside = arrow_inside typed p;
  longer = h;
  primary = λ a u n us d w. name_primary e (no_word_arrow p) us d w;
  leads = leads_by (word k s o) (Mark m.Arrow p ∷ zs) xs e (name_leads k s o i);
}

-- behind the parameters stands `=>`, or `:` where a result type may stand
paren_opening : {xs ps ys : List Sym} {params : List Param} {n : ℕ} (typed : Bool) (o c : ℕ) (t : Sym) (vs : List Sym) → IsParams true false ps params n → xs ≡ Mark m.OpenParen o ∷ (ps ++ (Mark m.CloseParen c ∷ t ∷ vs))
    → stops t ≡ true → ((operator : AssignOperator) → assign_of t ≡ Some operator → ⊥) → InExpr typed t → length ys ≤ length vs → Opening typed xs ys
paren_opening {xs = xs} {ps = ps} typed o c t vs q e st wr ins h = record {
  next = t;
  behind = vs;
  stopped = st;
  writes_none = wr;
  inside = ins;
  longer = h;
  primary = λ a u n us d w. go us d w;
  leads = leads_by (Mark m.OpenParen o) (ps ++ (Mark m.CloseParen c ∷ t ∷ vs)) xs e (paren_leads o);
}
  where
    go : {a : List Sym} {u : Expr} {n : ℕ} (us : List Sym) → IsPrimary true a u n → xs ≡ a ++ us → us ≡ t ∷ vs
    go us d w =
        let p = paren_primary e us d w in
        let x = group_exact (Mark m.CloseParen p.0) (Mark m.CloseParen c) us (t ∷ vs) (expr_even true p.5) (params_even true q) refl refl (sym p.4) in
        x.2

result_opening : {xs ps y ys : List Sym} {params : List Param} {result : Option TypeExpr} {n e : ℕ} (typed : Bool) (o c p : ℕ) (z : List Sym) → IsParams true false ps params n → IsResult typed y result e
    → xs ≡ Mark m.OpenParen o ∷ (ps ++ (Mark m.CloseParen c ∷ (y ++ (Mark m.Arrow p ∷ z ++ ys)))) → Opening typed xs ys
result_opening {ys = ys} typed o c p z q no_result w = paren_opening typed o c (Mark m.Arrow p) (z ++ ys) q w refl (no_write_arrow p) (arrow_inside typed p) (omega (arith, length-append z ys))
result_opening {ys = ys} typed o c p z q (some_result (shape colon {xs = b} t h)) w =
    paren_opening true o c (Mark m.Colon colon) (b ++ (Mark m.Arrow p ∷ z ++ ys)) q w refl (no_write_colon colon) refl (omega (arith, length-append b (Mark m.Arrow p ∷ z ++ ys), length-append z ys))

pub opened : {a xs : List Sym} {u : Expr} {e : ℕ} (typed : Bool) (ys : List Sym) → IsArrow typed a u e → xs ≡ a ++ ys → Opening typed xs ys
opened typed ys (short_arrow {kind = k} s o p {xs = c} i b) w = short_opening typed k s o p i w (omega (arith, length-append c ys))
opened typed ys (arrow o c p {xs = ps} {ys = y} {zs = z} q r b) w =
    result_opening typed o c p z q r (w ∙ append_assoc (Mark m.OpenParen o ∷ ps ++ Mark m.CloseParen c ∷ y) (Mark m.Arrow p ∷ z) ys ∙ append_assoc (Mark m.OpenParen o ∷ ps) (Mark m.CloseParen c ∷ y) (Mark m.Arrow p ∷ z ++ ys))

stopped : {typed : Bool} {xs ys : List Sym} (q : Opening typed xs ys) (us : List Sym) → us ≡ q.next ∷ q.behind → Starts GoesOn us → ⊥
stopped q us e h =
    let goes : stops q.next ≡ false = subst (λ v. Starts GoesOn v) e h in
    let n : true ≡ false = sym q.stopped ∙ goes in
    cc

pub opening_longest : {xs ys : List Sym} (typed : Bool) → Opening typed xs ys → {a : List Sym} {u : Expr} {e : ℕ} (us : List Sym) → IsExpr true typed a u e → xs ≡ a ++ us
    → IsArrow typed a u e ⊎ ((length ys < length us) × Starts (InExpr typed) us)
opening_longest typed q us (arrow_expr o c p d r b) w = inl (arrow o c p d r b)
opening_longest typed q us (short_arrow_expr s o p i b) w = inl (short_arrow s o p i b)
opening_longest {xs = xs} typed q us (assign_expr s {operator = operator} {xs = a} {ys = b} {d = d} h t i v) w =
    let left = chain_stops xs d (λ vs. vs ≡ q.next ∷ q.behind) (λ a u e us d j w. q.primary a u e us d w) (stopped q) q.leads (s ∷ b ++ us) h (omega arith) (w ∙ append_assoc a (s ∷ b) us) in
    let same : s ≡ q.next = cc in
    absurd (q.writes_none operator (subst (λ (x : Sym). assign_of x ≡ Some operator) same i))
opening_longest {xs = xs} typed q {e = e} us (cond_expr d) w =
    let left = cond_stops xs e (λ vs. vs ≡ q.next ∷ q.behind) (λ a u e us d j w. q.primary a u e us d w) (stopped q) q.leads us d (omega arith) w in
    inr (omega (arith, q.longer, ap length left), subst (λ v. Starts (InExpr typed) v) (sym left) q.inside)

pub arrow_is_expr : {x : Deep Expr} {xs ys : List Sym} (typed : Bool) (n : ℕ) → Found (ArrowUpto typed n) (InExpr typed) xs x ys → Found (ExprUpto typed n) (InExpr typed) xs x ys
arrow_is_expr {x = x} {xs = xs} {ys = ys} typed n f = record {
  front = f.front;
  whole = f.whole;
  derives = (forth f.derives.0, f.derives.1);
  longest = λ a y us d w. go us d.0 d.1 w;
}
  where
    forth : {a : List Sym} {u : Expr} {e : ℕ} → IsArrow typed a u e → IsExpr true typed a u e
    forth (arrow o c p d r b) = arrow_expr o c p d r b
    forth (short_arrow s o p i b) = short_arrow_expr s o p i b

    go : {a : List Sym} {u : Expr} {e : ℕ} (us : List Sym) → IsExpr true typed a u e → e ≤ n → xs ≡ a ++ us → Ends {X = Deep Expr} (InExpr typed) x ys (u, e) us
    go {a = a} {u = u} {e = e} us d i w = elim (opening_longest typed (opened typed ys f.derives.0 f.whole) us d w) [
      | inl q ↦ f.longest a (u, e) us (q, i) w
      | inr q ↦ inr q
    ]

-- ---- an arrow behind its parameters

abbrev JoinParts : Type 0
JoinParts = Deep (List Param) × Deep (Option TypeExpr × ArrowBody)

abbrev JoinRule : Bool → ℕ → List Sym → JoinParts → Type 0
JoinRule typed n = ThenBy (SignatureUpto (n - 1)) (λ ps. ArrowRestUpto typed (n - 1))

abbrev joined : ℕ → JoinParts → Deep Expr
joined o r = (expr.Arrow o r.0.0 r.1.0.0 r.1.0.1, max r.0.1 r.1.1 + 1)

join_forth : {xs vs : List Sym} (typed : Bool) (n o : ℕ) → 0 < n → xs ≡ Mark m.OpenParen o ∷ vs → (a ys : List Sym) (r : JoinParts) → xs ≡ a ++ ys → JoinRule typed n a r → ArrowUpto typed n a (joined o r)
join_forth {xs = xs} {vs = vs} typed n o some e a ys r w d =
    let ps = d.3 in
    let rs = d.4 in
    let list : a ≡ (Mark m.OpenParen ps.0 ∷ ps.2 ++ Mark m.CloseParen ps.1 ∷ []) ++ (rs.1 ++ Mark m.Arrow rs.0 ∷ rs.2) = d.2 ∙ ap_both (λ (x y : List Sym). x ++ y) ps.3 rs.5 in
    let split : a ≡ Mark m.OpenParen ps.0 ∷ ps.2 ++ Mark m.CloseParen ps.1 ∷ rs.1 ++ Mark m.Arrow rs.0 ∷ rs.2 =
    list ∙ append_assoc (Mark m.OpenParen ps.0 ∷ ps.2) (Mark m.CloseParen ps.1 ∷ []) (rs.1 ++ Mark m.Arrow rs.0 ∷ rs.2)
    ∙ sym (append_assoc (Mark m.OpenParen ps.0 ∷ ps.2) (Mark m.CloseParen ps.1 ∷ rs.1) (Mark m.Arrow rs.0 ∷ rs.2)) in
    let whole : Mark m.OpenParen o ∷ vs ≡ (Mark m.OpenParen ps.0 ∷ ps.2 ++ Mark m.CloseParen ps.1 ∷ rs.1 ++ Mark m.Arrow rs.0 ∷ rs.2) ++ ys = sym e ∙ w ∙ ap (λ v. v ++ ys) split in
    let place : ps.0 ≡ o = cc in
    let deep : max r.0.1 (max rs.3 rs.4) + 1 ≡ max r.0.1 r.1.1 + 1 = ap (λ (k : ℕ). max r.0.1 k + 1) (sym rs.8) in
    let made = arrow ps.0 ps.1 rs.0 ps.4.0 rs.6 rs.7 in (
      subst (λ v. IsArrow typed v (expr.Arrow o r.0.0 r.1.0.0 r.1.0.1) (max r.0.1 r.1.1 + 1)) (sym split)
          (subst (λ (k : ℕ). IsArrow typed (Mark m.OpenParen ps.0 ∷ ps.2 ++ Mark m.CloseParen ps.1 ∷ rs.1 ++ Mark m.Arrow rs.0 ∷ rs.2) (expr.Arrow k r.0.0 r.1.0.0 r.1.0.1) (max r.0.1 r.1.1 + 1)) place
          (subst (λ (k : ℕ). IsArrow typed (Mark m.OpenParen ps.0 ∷ ps.2 ++ Mark m.CloseParen ps.1 ∷ rs.1 ++ Mark m.Arrow rs.0 ∷ rs.2) (expr.Arrow ps.0 r.0.0 r.1.0.0 r.1.0.1) k) deep made)),
      omega (arith, some, ps.4.1, rs.9),
    )

join_back : {xs vs : List Sym} (typed : Bool) (n o : ℕ) → xs ≡ Mark m.OpenParen o ∷ vs → IsBack (joined o) (JoinRule typed n) (ArrowUpto typed n) xs
join_back {xs = xs} {vs = vs} typed n o e a u us d w = go d.0 d.1 w
  where
    go : {a : List Sym} {u : Expr} {k : ℕ} → IsArrow typed a u k → k ≤ n → xs ≡ a ++ us → (v : JoinParts) × JoinRule typed n a v × (joined o v ≡ (u, k))
    go (short_arrow s p q i b) h w = absurd (cc)
    go (arrow o' c p {xs = ps} {ys = y} {zs = z} {params = params} {result = result} {of = of} {d = d} {e = f} {f = g} q r b) h w =
        let place : o ≡ o' = cc in
        let split = append_assoc (Mark m.OpenParen o' ∷ ps) (Mark m.CloseParen c ∷ y) (Mark m.Arrow p ∷ z) ∙ sym (append_assoc (Mark m.OpenParen o' ∷ ps) (Mark m.CloseParen c ∷ []) (y ++ Mark m.Arrow p ∷ z)) in
        let first : d ≤ n - 1 = omega (arith, h) in
        let second : max f g ≤ n - 1 = omega (arith, h) in (
          ((params, d), ((result, of), max f g)),
          (Mark m.OpenParen o' ∷ ps ++ Mark m.CloseParen c ∷ [], y ++ Mark m.Arrow p ∷ z, split, (o', c, ps, refl, (q, first)), (p, y, z, f, g, refl, r, b, refl, second)),
          ap (λ (k : ℕ). joined k ((params, d), ((result, of), max f g))) place,
        )

pub arrow_found : {ps : Deep (List Param)} {r : Deep (Option TypeExpr × ArrowBody)} {xs vs ys zs : List Sym} (typed : Bool) (n o : ℕ) → 0 < n → xs ≡ Mark m.OpenParen o ∷ vs
    → Found (SignatureUpto (n - 1)) Never xs ps ys → Found (ArrowRestUpto typed (n - 1)) (InExpr typed) ys r zs
    → Found (ArrowUpto typed n) (InExpr typed) xs (expr.Arrow o ps.0 r.0.0 r.0.1, max ps.1 r.1 + 1) zs
arrow_found {ps = ps} {r = r} {xs = xs} {zs = zs} typed n o some e f g =
    found_by (joined o) (λ a w d. join_forth typed n o some e a zs (ps, r) w d) (join_back typed n o e) (then_found (apart_passes (InExpr typed) (apart_never (λ ps. ArrowRestUpto typed (n - 1)))) f g)

pub arrow_lacks_rest : {ps : Deep (List Param)} {xs vs ys : List Sym} (typed : Bool) (n o : ℕ) → xs ≡ Mark m.OpenParen o ∷ vs → Found (SignatureUpto (n - 1)) Never xs ps ys
    → Lacks (ArrowRestUpto typed (n - 1)) ys → Lacks (ArrowUpto typed n) xs
arrow_lacks_rest typed n o e f g = lacks_by (joined o) (join_back typed n o e) (then_lacks_second (apart_never (λ ps. ArrowRestUpto typed (n - 1))) f g)

pub arrow_lacks_params : {xs vs : List Sym} (typed : Bool) (n o : ℕ) → xs ≡ Mark m.OpenParen o ∷ vs → Lacks (SignatureUpto (n - 1)) xs → Lacks (ArrowUpto typed n) xs
arrow_lacks_params typed n o e f = lacks_by (joined o) (join_back typed n o e) (then_lacks (λ ps. ArrowRestUpto typed (n - 1)) f)
