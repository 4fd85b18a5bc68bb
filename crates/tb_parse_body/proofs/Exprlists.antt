-- Lists of expressions and of properties, and the spans of a template.
use Rattle.std.proofs.Common.{◌≡◌, ℕ, ◌≤◌, ◌<◌, max, Bool, true, false, List, [], ◌∷◌, ◌++◌, length, refl, sym, ◌∙◌, ap, subst, inl, inr, arith, append_assoc, length-append, append-nil}
use Rattle.std.specs.Prelude.{Option, Some, None, MatchOption, ◌+◌}
use Rattle.tb_parse_type.specs.declared.reader.Reader.{Reader}
use Rattle.tb_parse_type.specs.Reading.{rest, start_at, Stands, LacksSym}
use Rattle.tb_tree.specs.declared.marks.Mark.TheVariants as m
use Rattle.tb_tree.specs.declared.words.Class.TheVariants as c
use Rattle.tb_tree.specs.declared.words.Template.TheVariants as part
use Rattle.tb_tree.specs.declared.exprs.Expr.{Expr}
use Rattle.tb_tree.specs.Sym.{Sym, Mark, Lex, at_of}
use Rattle.tb_tree.specs.Longest.{Found, Lacks, Ends, Starts, Never}
use Rattle.tb_tree.specs.declared.words.Word.{Word}
use Rattle.tb_tree.specs.declared.exprs.Prop.{Prop}
use Rattle.tb_tree.specs.declared.exprs.Prop.TheVariants as prop
use Rattle.tb_tree.specs.declared.exprs.TemplateSpan.{TemplateSpan, roll-TemplateSpan}
use Rattle.tb_tree.specs.declared.types.Key.{Key}
use Rattle.tb_tree.specs.Words.{is_name}
use Rattle.tb_tree.specs.Shapes.{word, key_of}
use Rattle.tb_tree.specs.Exprs.{IsExpr, IsExprs, no_exprs, last_expr, more_exprs, IsProp, valued_prop, short_prop, IsProps, no_props, last_prop, more_props, IsSpans, last_span, more_spans}
use Rattle.tb_tree.proofs.Ends.{exact, shorter, both, never, ap_both}
use Rattle.tb_parse_body.specs.Rules.{Deep, ExprUpto, ExprsUpto, PropUpto, ValuedPropUpto, PropsUpto, SpansUpto, InExpr, InList}
use Rattle.tb_parse_body.proofs.Sequences.{IsBack, found_by}
use Rattle.tb_parse_body.proofs.Commas.{IsCommas, no_items, last_item, more_items, CommasRule, Separates}
use Rattle.tb_parse_body.proofs.Openings.{expr_begins, opens_starts, opens_long}

pub in_list : (s : Sym) → InExpr true s → InList s
in_list (Mark m.CloseParen o) h = let n : true ≡ false = h in cc
in_list (Mark m.CloseBracket o) h = let n : true ≡ false = h in cc
in_list (Mark m.CloseBrace o) h = let n : true ≡ false = h in cc
in_list (Mark _ o) h = refl
in_list (Lex _ w o) h = refl

pub comma_apart : (o : ℕ) → InExpr true (Mark m.Comma o) → ⊥
comma_apart o h = let n : true ≡ false = h in cc

pub exprs_separate : (n : ℕ) → Separates (ExprUpto true n) (InExpr true) InList
exprs_separate n = record {
  separator = comma_apart;
  more = λ at. refl;
  wider = in_list;
  starts = λ a x us d. opens_starts us (expr_begins d.0);
  long = λ a x d. opens_long (expr_begins d.0);
}

abbrev same : {X : Type 0} → Deep X → Deep X
same r = r

exprs_forth : (n : ℕ) {a : List Sym} {us : List Expr} {d : ℕ} → IsCommas (ExprUpto true n) a us d → ExprsUpto n a (us, d)
exprs_forth n no_items = (no_exprs, omega arith)
exprs_forth n (last_item d) = (last_expr d.0, d.1)
exprs_forth n (more_items at d q) = let r = exprs_forth n q in (more_exprs at d.0 r.0, omega (arith, d.1, r.1))

exprs_back : {a : List Sym} {us : List Expr} {d : ℕ} (n : ℕ) → IsExprs true a us d → d ≤ n → IsCommas (ExprUpto true n) a us d
exprs_back n no_exprs h = no_items
exprs_back n (last_expr q) h = last_item (q, h)
exprs_back n (more_exprs at q r) h = more_items at (q, omega (arith, h)) (exprs_back n r (omega (arith, h)))

exprs_as : (n : ℕ) (xs : List Sym) → IsBack same (CommasRule (ExprUpto true n)) (ExprsUpto n) xs
exprs_as n xs a u us d w = (u, exprs_back n d.0 d.1, refl)

pub exprs_found : {r : Deep (List Expr)} {xs ys : List Sym} (n : ℕ) → Found (CommasRule (ExprUpto true n)) InList xs r ys → Found (ExprsUpto n) InList xs r ys
exprs_found {xs = xs} n f = found_by same (λ a w d. exprs_forth n d) (exprs_as n xs) f

-- ---- a property

-- what `key_at` answers
abbrev pub KeyAnswer : Reader → ℕ → Option Key → Type 0
KeyAnswer r at o = MatchOption o ((s : Sym) (key : Key) → key_of s ≡ Some key → LacksSym r at s) (λ key. (s : Sym) × Stands r at s × (key_of s ≡ Some key) × (at_of s ≡ start_at r at))

pub keyed : (r : Reader) (at : ℕ) (o : Option Key) (key : Key) → o ≡ Some key → KeyAnswer r at o → (s : Sym) × Stands r at s × (key_of s ≡ Some key) × (at_of s ≡ start_at r at)
keyed r at o key e h = subst (λ v. KeyAnswer r at v) e h

pub unkeyed : (r : Reader) (at : ℕ) (o : Option Key) → o ≡ None → KeyAnswer r at o → (s : Sym) (key : Key) → key_of s ≡ Some key → LacksSym r at s
unkeyed r at o e h = subst (λ v. KeyAnswer r at v) e h

pub two_at : (r : Reader) (at : ℕ) {s t : Sym} → rest r at ≡ s ∷ rest r (at + 1) → rest r (at + 1) ≡ t ∷ rest r (at + 1 + 1) → rest r at ≡ s ∷ t ∷ rest r (at + 2)
two_at r at {s = s} {t = t} e i =
    let p : at + 1 + 1 ≡ at + 2 = omega arith in
    e ∙ ap (λ v. s ∷ v) (i ∙ ap (λ n. t ∷ rest r n) p)

pub valued_found : {r : Deep Expr} {key : Key} {s : Sym} {xs ys : List Sym} (n o : ℕ) → key_of s ≡ Some key → Found (ExprUpto true n) (InExpr true) xs r ys
    → Found (ValuedPropUpto n) (InExpr true) (s ∷ Mark m.Colon o ∷ xs) (prop.Valued (at_of s) key r.0, r.1) ys
valued_found {r = r} {key = key} {s = s} {xs = xs} {ys = ys} n o e f = record {
  front = s ∷ Mark m.Colon o ∷ f.front;
  whole = ap (λ v. s ∷ Mark m.Colon o ∷ v) f.whole;
  derives = (s, key, o, f.front, r.0, refl, e, refl, f.derives.0, f.derives.1);
  longest = λ a y us d w. go y us d w;
}
  where
    go : {a : List Sym} (y : Deep Prop) (us : List Sym) (d : ValuedPropUpto n a y) → s ∷ Mark m.Colon o ∷ xs ≡ a ++ us
        → Ends {X = Deep Prop} (InExpr true) (prop.Valued (at_of s) key r.0, r.1) ys y us
    go y us d w =
        let i : s ∷ Mark m.Colon o ∷ xs ≡ d.0 ∷ Mark m.Colon d.2 ∷ d.3 ++ us = w ∙ ap (λ v. v ++ us) d.5 in
        let first : s ≡ d.0 = cc in
        let behind : xs ≡ d.3 ++ us = cc in
        let k : Some key ≡ Some d.1 = sym e ∙ ap key_of first ∙ d.6 in
        let same_key : key ≡ d.1 = cc in
        elim (f.longest d.3 (d.4, y.1) us (d.8, d.9) behind) [
          | inl p ↦ inl (
            both (ap (λ (v : Expr). prop.Valued (at_of s) key v) (ap (λ (v : Deep Expr). v.0) p.0) ∙ ap (λ (v : Sym). prop.Valued (at_of v) key d.4) first
                ∙ ap (λ (v : Key). prop.Valued (at_of d.0) v d.4) same_key ∙ sym d.7) (ap (λ (v : Deep Expr). v.1) p.0),
            p.1,
          )
          | inr p ↦ inr p
        ]

pub valued_lacks_colon : {s : Sym} {xs : List Sym} (n : ℕ) → ((o : ℕ) (zs : List Sym) → xs ≡ Mark m.Colon o ∷ zs → ⊥) → Lacks (ValuedPropUpto n) (s ∷ xs)
valued_lacks_colon {s = s} {xs = xs} n h = record {
  none = λ a y us d w.
      let i : s ∷ xs ≡ d.0 ∷ Mark m.Colon d.2 ∷ d.3 ++ us = w ∙ ap (λ v. v ++ us) d.5 in
      let behind : xs ≡ Mark m.Colon d.2 ∷ d.3 ++ us = cc in
      h d.2 (d.3 ++ us) behind;
}

pub valued_lacks_key : (n : ℕ) (xs : List Sym) → ((s : Sym) (key : Key) → key_of s ≡ Some key → (zs : List Sym) → xs ≡ s ∷ zs → ⊥) → Lacks (ValuedPropUpto n) xs
valued_lacks_key n xs h = record { none = λ a y us d w. h d.0 d.1 d.6 (Mark m.Colon d.2 ∷ d.3 ++ us) (w ∙ ap (λ v. v ++ us) d.5) }

pub valued_lacks : {s : Sym} {xs : List Sym} (n o : ℕ) → Lacks (ExprUpto true n) xs → Lacks (ValuedPropUpto n) (s ∷ Mark m.Colon o ∷ xs)
valued_lacks {s = s} {xs = xs} n o f = record {
  none = λ a y us d w.
      let i : s ∷ Mark m.Colon o ∷ xs ≡ d.0 ∷ Mark m.Colon d.2 ∷ d.3 ++ us = w ∙ ap (λ v. v ++ us) d.5 in
      let behind : xs ≡ d.3 ++ us = cc in
      f.none d.3 (d.4, y.1) us (d.8, d.9) behind;
}

valued_in : (n : ℕ) (a : List Sym) (y : Deep Prop) → ValuedPropUpto n a y → PropUpto n a y
valued_in n a y d = (
  subst (λ v. IsProp true v y.0 y.1) (sym d.5) (subst (λ (v : Prop). IsProp true (d.0 ∷ Mark m.Colon d.2 ∷ d.3) v y.1) (sym d.7) (valued_prop d.0 d.2 d.6 d.8)),
  d.9,
)

-- where one with a value stands, it is the longest
pub prop_valued : {r : Deep Prop} {xs ys : List Sym} (n : ℕ) → Found (ValuedPropUpto n) (InExpr true) xs r ys → Found (PropUpto n) (InExpr true) xs r ys
prop_valued {r = r} {xs = xs} {ys = ys} n f = record {
  front = f.front;
  whole = f.whole;
  derives = valued_in n f.front r f.derives;
  longest = λ a y us d w. go us d.0 d.1 w;
}
  where
    whole : xs ≡ f.derives.0 ∷ Mark m.Colon f.derives.2 ∷ f.derives.3 ++ ys
    whole = f.whole ∙ ap (λ v. v ++ ys) f.derives.5

    go : {a : List Sym} {u : Prop} {d : ℕ} (us : List Sym) → IsProp true a u d → d ≤ n → xs ≡ a ++ us → Ends {X = Deep Prop} (InExpr true) r ys (u, d) us
    go us (valued_prop s {key = key} o {xs = b} {of = of} {d = d} e q) h w = f.longest (s ∷ Mark m.Colon o ∷ b) (prop.Valued (at_of s) key of, d) us (s, key, o, b, of, refl, e, refl, q, h) w
    go us (short_prop {kind = k} s o e) h w =
        let i : f.derives.0 ∷ Mark m.Colon f.derives.2 ∷ f.derives.3 ++ ys ≡ word k s o ∷ us = sym whole ∙ w in
        let j : Mark m.Colon f.derives.2 ∷ f.derives.3 ++ ys ≡ us = cc in
        inr (omega (arith, ap length j, length-append f.derives.3 ys), subst (λ v. Starts (InExpr true) v) j refl)

-- a name alone
pub prop_short : {k : Word} {s : List ℕ} {o : ℕ} {xs : List Sym} (n : ℕ) → is_name k ≡ true → Lacks (ValuedPropUpto n) (word k s o ∷ xs) → Found (PropUpto n) (InExpr true) (word k s o ∷ xs) (prop.Short o s, 0) xs
prop_short {k = k} {s = s} {o = o} {xs = xs} n e f = record {
  front = word k s o ∷ [];
  whole = refl;
  derives = (short_prop s o e, omega arith);
  longest = λ a y us d w. go us d.0 d.1 w;
}
  where
    go : {a : List Sym} {u : Prop} {d : ℕ} (us : List Sym) → IsProp true a u d → d ≤ n → word k s o ∷ xs ≡ a ++ us → Ends {X = Deep Prop} (InExpr true) (prop.Short o s, 0) xs (u, d) us
    go us (valued_prop z {key = key} p {xs = b} {of = of} {d = d} i q) h w = absurd (f.none (z ∷ Mark m.Colon p ∷ b) (prop.Valued (at_of z) key of, d) us (z, key, p, b, of, refl, i, refl, q, h) w)
    go us (short_prop s o e) h w = inl (cc, cc)

pub prop_lacks : {xs : List Sym} (n : ℕ) → Lacks (ValuedPropUpto n) xs → ((k : Word) (s : List ℕ) (o : ℕ) → is_name k ≡ true → (zs : List Sym) → xs ≡ word k s o ∷ zs → ⊥) → Lacks (PropUpto n) xs
prop_lacks {xs = xs} n f h = record { none = λ a y us d w. go us d.0 d.1 w }
  where
    go : {a : List Sym} {u : Prop} {d : ℕ} (us : List Sym) → IsProp true a u d → d ≤ n → xs ≡ a ++ us → ⊥
    go us (valued_prop z {key = key} p {xs = b} {of = of} {d = d} i q) k w = f.none (z ∷ Mark m.Colon p ∷ b) (prop.Valued (at_of z) key of, d) us (z, key, p, b, of, refl, i, refl, q, k) w
    go us (short_prop s o e) k w = h _ s o e us w

-- ---- properties

key_in_list : {key : Key} (s : Sym) → key_of s ≡ Some key → InList s
key_in_list (Lex k w at) e = refl
key_in_list (Mark k at) e = cc

prop_starts : {a : List Sym} {u : Prop} {d : ℕ} (us : List Sym) → IsProp true a u d → Starts InList (a ++ us)
prop_starts us (valued_prop s o e q) = key_in_list s e
prop_starts us (short_prop s o e) = refl

prop_long : {a : List Sym} {u : Prop} {d : ℕ} → IsProp true a u d → 1 ≤ length a
prop_long (valued_prop s o e q) = omega arith
prop_long (short_prop s o e) = omega arith

pub props_separate : (n : ℕ) → Separates (PropUpto n) (InExpr true) InList
props_separate n = record {
  separator = comma_apart;
  more = λ at. refl;
  wider = in_list;
  starts = λ a x us d. prop_starts us d.0;
  long = λ a x d. prop_long d.0;
}

props_forth : (n : ℕ) {a : List Sym} {us : List Prop} {d : ℕ} → IsCommas (PropUpto n) a us d → PropsUpto n a (us, d)
props_forth n no_items = (no_props, omega arith)
props_forth n (last_item d) = (last_prop d.0, d.1)
props_forth n (more_items at d q) = let r = props_forth n q in (more_props at d.0 r.0, omega (arith, d.1, r.1))

props_back : {a : List Sym} {us : List Prop} {d : ℕ} (n : ℕ) → IsProps true a us d → d ≤ n → IsCommas (PropUpto n) a us d
props_back n no_props h = no_items
props_back n (last_prop q) h = last_item (q, h)
props_back n (more_props at q r) h = more_items at (q, omega (arith, h)) (props_back n r (omega (arith, h)))

props_as : (n : ℕ) (xs : List Sym) → IsBack same (CommasRule (PropUpto n)) (PropsUpto n) xs
props_as n xs a u us d w = (u, props_back n d.0 d.1, refl)

pub props_found : {r : Deep (List Prop)} {xs ys : List Sym} (n : ℕ) → Found (CommasRule (PropUpto n)) InList xs r ys → Found (PropsUpto n) InList xs r ys
props_found {xs = xs} n f = found_by same (λ a w d. props_forth n d) (props_as n xs) f

-- ---- the spans of a template

abbrev pub span : Expr → List ℕ → TemplateSpan
span of spelled = roll-TemplateSpan (record { value = of; text = spelled })

middle_apart : (s : List ℕ) (o : ℕ) (us : List Sym) → Starts (InExpr true) (Lex (c.Template part.Middle) s o ∷ us) → ⊥
middle_apart s o us h = let n : true ≡ false = h in cc

tail_apart : (s : List ℕ) (o : ℕ) (us : List Sym) → Starts (InExpr true) (Lex (c.Template part.Tail) s o ∷ us) → ⊥
tail_apart s o us h = let n : true ≡ false = h in cc

pub spans_tail : {r : Deep Expr} {xs : List Sym} (n : ℕ) (s : List ℕ) (o : ℕ) (ys zs : List Sym) → ys ≡ Lex (c.Template part.Tail) s o ∷ zs → Found (ExprUpto true n) (InExpr true) xs r ys
    → Found (SpansUpto n) Never xs (span r.0 s ∷ [], r.1) zs
spans_tail {r = r} {xs = xs} n s o ys zs e f = record {
  front = f.front ++ Lex (c.Template part.Tail) s o ∷ [];
  whole = f.whole ∙ ap (λ v. f.front ++ v) e ∙ sym (append_assoc f.front (Lex (c.Template part.Tail) s o ∷ []) zs);
  derives = (last_span s o f.derives.0, f.derives.1);
  longest = λ a y us d w. go us d.0 d.1 w;
}
  where
    go : {a : List Sym} {u : List TemplateSpan} {d : ℕ} (us : List Sym) → IsSpans true a u d → d ≤ n → xs ≡ a ++ us → Ends {X = Deep (List TemplateSpan)} Never (span r.0 s ∷ [], r.1) zs (u, d) us
    go us (last_span t p {xs = b} {of = of} {d = d} q) h w =
        let z = exact f b (of, d) (Lex (c.Template part.Tail) t p ∷ us) (q, h) (w ∙ append_assoc b _ us) (tail_apart t p us) in
        let i : Lex (c.Template part.Tail) s o ∷ zs ≡ Lex (c.Template part.Tail) t p ∷ us = sym e ∙ z.1 in
        let same_text : s ≡ t = cc in
        inl (ap_both (λ (v : Deep Expr) (s : List ℕ). let x : Deep (List TemplateSpan) = (span v.0 s ∷ [], v.1) in x) z.0 same_text, cc)
    go us (more_spans t p {xs = b} {ys = k} {of = of} {d = d} q r) h w =
        let z = exact f b (of, d) (Lex (c.Template part.Middle) t p ∷ k ++ us) (q, omega (arith, h)) (w ∙ append_assoc b (Lex (c.Template part.Middle) t p ∷ k) us) (middle_apart t p (k ++ us)) in
        let i : Lex (c.Template part.Tail) s o ∷ zs ≡ Lex (c.Template part.Middle) t p ∷ k ++ us = sym e ∙ z.1 in
        cc

pub spans_more : {r : Deep Expr} {t : Deep (List TemplateSpan)} {xs ys zs : List Sym} (n : ℕ) (s : List ℕ) (o : ℕ) (vs : List Sym) → vs ≡ Lex (c.Template part.Middle) s o ∷ ys → Found (ExprUpto true n) (InExpr true) xs r vs
    → Found (SpansUpto n) Never ys t zs → Found (SpansUpto n) Never xs (span r.0 s ∷ t.0, max r.1 t.1) zs
spans_more {r = r} {t = t} {xs = xs} {ys = ys} {zs = zs} n s o vs e f g = record {
  front = f.front ++ Lex (c.Template part.Middle) s o ∷ g.front;
  whole = f.whole ∙ ap (λ v. f.front ++ v) (e ∙ ap (λ v. Lex (c.Template part.Middle) s o ∷ v) g.whole) ∙ sym (append_assoc f.front (Lex (c.Template part.Middle) s o ∷ g.front) zs);
  derives = (more_spans s o f.derives.0 g.derives.0, omega (arith, f.derives.1, g.derives.1));
  longest = λ a y us d w. go us d.0 d.1 w;
}
  where
    go : {a : List Sym} {u : List TemplateSpan} {d : ℕ} (us : List Sym) → IsSpans true a u d → d ≤ n → xs ≡ a ++ us
        → Ends {X = Deep (List TemplateSpan)} Never (span r.0 s ∷ t.0, max r.1 t.1) zs (u, d) us
    go us (last_span v p {xs = b} {of = of} {d = d} q) h w =
        let z = exact f b (of, d) (Lex (c.Template part.Tail) v p ∷ us) (q, h) (w ∙ append_assoc b _ us) (tail_apart v p us) in
        let i : Lex (c.Template part.Middle) s o ∷ ys ≡ Lex (c.Template part.Tail) v p ∷ us = sym e ∙ z.1 in
        cc
    go us (more_spans v p {xs = b} {ys = k} {of = of} {rest = ts} {d = d} {e = d'} q x) h w =
        let z = exact f b (of, d) (Lex (c.Template part.Middle) v p ∷ k ++ us) (q, omega (arith, h)) (w ∙ append_assoc b (Lex (c.Template part.Middle) v p ∷ k) us) (middle_apart v p (k ++ us)) in
        let i : Lex (c.Template part.Middle) s o ∷ ys ≡ Lex (c.Template part.Middle) v p ∷ k ++ us = sym e ∙ z.1 in
        let same_text : s ≡ v = cc in
        let behind : ys ≡ k ++ us = cc in
        let j = exact g k (ts, d') us (x, omega (arith, h)) behind (never us) in
        inl (
          ap_both (λ (y : Deep Expr) (s : List ℕ). let x : Deep (List TemplateSpan) = (span y.0 s ∷ t.0, max y.1 t.1) in x) z.0 same_text
              ∙ ap (λ (y : Deep (List TemplateSpan)). let x : Deep (List TemplateSpan) = (span of v ∷ y.0, max d y.1) in x) j.0,
          j.1,
        )

pub spans_lacks : {xs : List Sym} (n : ℕ) → Lacks (ExprUpto true n) xs → Lacks (SpansUpto n) xs
spans_lacks {xs = xs} n f = record { none = λ a y us d w. go us d.0 d.1 w }
  where
    go : {a : List Sym} {u : List TemplateSpan} {d : ℕ} (us : List Sym) → IsSpans true a u d → d ≤ n → xs ≡ a ++ us → ⊥
    go us (last_span v p {xs = b} {of = of} {d = d} q) h w = f.none b (of, d) (Lex (c.Template part.Tail) v p ∷ us) (q, h) (w ∙ append_assoc b _ us)
    go us (more_spans v p {xs = b} {ys = k} {of = of} {d = d} q x) h w = f.none b (of, d) (Lex (c.Template part.Middle) v p ∷ k ++ us) (q, omega (arith, h)) (w ∙ append_assoc b (Lex (c.Template part.Middle) v p ∷ k) us)

pub spans_lacks_end : {r : Deep Expr} {xs ys : List Sym} (n : ℕ) → Found (ExprUpto true n) (InExpr true) xs r ys → ((s : List ℕ) (o : ℕ) (zs : List Sym) → ys ≡ Lex (c.Template part.Tail) s o ∷ zs → ⊥)
    → ((s : List ℕ) (o : ℕ) (zs : List Sym) → ys ≡ Lex (c.Template part.Middle) s o ∷ zs → Lacks (SpansUpto n) zs) → Lacks (SpansUpto n) xs
spans_lacks_end {xs = xs} n f t m = record { none = λ a y us d w. go us d.0 d.1 w }
  where
    go : {a : List Sym} {u : List TemplateSpan} {d : ℕ} (us : List Sym) → IsSpans true a u d → d ≤ n → xs ≡ a ++ us → ⊥
    go us (last_span v p {xs = b} {of = of} {d = d} q) h w =
        let z = exact f b (of, d) (Lex (c.Template part.Tail) v p ∷ us) (q, h) (w ∙ append_assoc b _ us) (tail_apart v p us) in
        t v p us z.1
    go us (more_spans v p {xs = b} {ys = k} {of = of} {rest = ts} {d = d} {e = e} q x) h w =
        let z = exact f b (of, d) (Lex (c.Template part.Middle) v p ∷ k ++ us) (q, omega (arith, h)) (w ∙ append_assoc b (Lex (c.Template part.Middle) v p ∷ k) us) (middle_apart v p (k ++ us)) in
        let none = m v p (k ++ us) z.1 in
        none.none k (ts, e) us (x, omega (arith, h)) refl

-- ---- a loop over spans: what is found from here makes what is found in all, and where nothing is, nothing is in all

pub record SpansSoFar (n : ℕ) (acc : List TemplateSpan) (depth : ℕ) (start xs : List Sym) : Type 0 where
  pub found : (ts : List TemplateSpan) (d : ℕ) (zs : List Sym) → Found (SpansUpto n) Never xs (ts, d) zs → Found (SpansUpto n) Never start (acc ++ ts, max depth d) zs
  pub lacks : Lacks (SpansUpto n) xs → Lacks (SpansUpto n) start

pub spans_start : (n : ℕ) (start : List Sym) → SpansSoFar n [] 0 start start
spans_start n start = record {
  found = λ ts d zs f. let p : d ≡ max 0 d = omega arith in subst (λ (k : ℕ). Found (SpansUpto n) Never start (ts, k) zs) p f;
  lacks = λ f. f;
}

pub spans_on : {r : Deep Expr} {ys : List Sym} (n : ℕ) (acc : List TemplateSpan) (depth : ℕ) (start xs vs : List Sym) (s : List ℕ) (o : ℕ) → SpansSoFar n acc depth start xs
    → Found (ExprUpto true n) (InExpr true) xs r vs → vs ≡ Lex (c.Template part.Middle) s o ∷ ys → SpansSoFar n (acc ++ span r.0 s ∷ []) (max depth r.1) start ys
spans_on {r = r} {ys = ys} n acc depth start xs vs s o all f e = record {
  found = λ ts d zs g.
      let p : max depth (max r.1 d) ≡ max (max depth r.1) d = omega arith in
      subst (λ (v : List TemplateSpan). Found (SpansUpto n) Never start (v, max (max depth r.1) d) zs) (sym (append_assoc acc (span r.0 s ∷ []) ts))
      (subst (λ (k : ℕ). Found (SpansUpto n) Never start (acc ++ (span r.0 s ∷ ts), k) zs) p (all.found (span r.0 s ∷ ts) (max r.1 d) zs (spans_more n s o vs e f g)));
  lacks = λ g. all.lacks (spans_lacks_end n f (λ t p zs i. let j = sym e ∙ i in cc) (λ t p zs i.
      let j : Lex (c.Template part.Middle) s o ∷ ys ≡ Lex (c.Template part.Middle) t p ∷ zs = sym e ∙ i in
      let k : ys ≡ zs = cc in
      subst (λ v. Lacks (SpansUpto n) v) k g));
}

pub spans_end : {r : Deep Expr} (n : ℕ) (acc : List TemplateSpan) (depth : ℕ) (start xs vs zs : List Sym) (s : List ℕ) (o : ℕ) → SpansSoFar n acc depth start xs
    → Found (ExprUpto true n) (InExpr true) xs r vs → vs ≡ Lex (c.Template part.Tail) s o ∷ zs → Found (SpansUpto n) Never start (acc ++ span r.0 s ∷ [], max depth r.1) zs
spans_end {r = r} n acc depth start xs vs zs s o all f e = all.found (span r.0 s ∷ []) r.1 zs (spans_tail n s o vs zs e f)

pub span_falls : {r : Deep Expr} {xs ys : List Sym} (n : ℕ) (s : Sym) (vs : List Sym) → Found (ExprUpto true n) (InExpr true) xs r vs → vs ≡ s ∷ ys → length ys < length xs
span_falls n s vs f e = omega (arith, shorter f, ap length e)
