-- Fields, methods and constructors, each from what it begins with and what stands behind that.
use Rattle.std.proofs.Common.{◌≡◌, ℕ, ◌+◌, ◌≤◌, ◌<◌, max, Bool, true, false, List, [], ◌∷◌, ◌++◌, length, refl, sym, ◌∙◌, ap, subst, inl, inr, arith, append_assoc}
use Rattle.std.specs.Prelude.{◌⊎◌, Option}
use Rattle.tb_tree.specs.declared.marks.Mark.TheVariants as m
use Rattle.tb_tree.specs.declared.words.Word.{Word}
use Rattle.tb_tree.specs.declared.words.Word.TheVariants as w
use Rattle.tb_tree.specs.declared.types.TypeExpr.{TypeExpr}
use Rattle.tb_tree.specs.declared.exprs.Expr.{Expr}
use Rattle.tb_tree.specs.declared.exprs.Param.{Param}
use Rattle.tb_tree.specs.declared.exprs.Block.{Block}
use Rattle.tb_tree.specs.declared.items.ClassMember.{ClassMember}
use Rattle.tb_tree.specs.declared.items.ClassMember.TheVariants as class_member
use Rattle.tb_tree.specs.Sym.{Sym, Mark}
use Rattle.tb_tree.specs.Shapes.{word, IsMarked, unmarked, marked, IsWorded, unworded, worded}
use Rattle.tb_tree.specs.Types.{shape}
use Rattle.tb_tree.specs.Longest.{Found, Lacks, Ends, Starts, Never}
use Rattle.tb_tree.specs.Exprs.{a_body, IsValue, no_value, some_value, IsAnnotation, no_annotation, some_annotation}
use Rattle.tb_tree.specs.Items.{is_member_name, IsClassMember}
use Rattle.tb_tree.specs.Items as g
use Rattle.tb_tree.proofs.Ends.{never, append_three, both, ap_both, under_both}
use Rattle.tb_parse_type.specs.Rules.{Then, MarkRule}
use Rattle.tb_parse_body.specs.Rules.{Deep, SignatureUpto, BodyUpto, AnnotationUpto, ValueUpto, BlockUpto, InAnnotation, InExpr, InQuestion, InBody}
use Rattle.tb_parse_body.proofs.FirstSymbols.{Image, image_found, image_lacks, given_found, given_lacks, not_given, then_found, then_lacks, then_lacks_second, Apart, apart_never, mark_found, mark_lacks}
use Rattle.tb_parse_body.proofs.Sequences as seq
use Rattle.tb_parse_file.specs.Classes.{Head, HeadRule, WordRule, InHead, name_kind, FieldParts, field_of, FieldUpto, MethodParts, method_of, MethodUpto, PlainUpto, ConstructorUpto}
use Rattle.tb_parse_file.proofs.MemberHeads.{head_begins}

-- ---- what stands behind the head of a method

pub method_found : {xs ys zs : List Sym} {ps : Deep (List Param)} {b : Deep (Option TypeExpr × Block)} (n : ℕ) (h : Head) → h.1.0 ≡ false → Found (SignatureUpto n) Never xs ps ys → Found (BodyUpto n) InBody ys b zs
    → Found (MethodUpto n h) InBody xs (method_of h (ps, b)) zs
method_found n h i f k = given_found i (image_found (method_of h) (then_found (apart_never (BodyUpto n)) f k))

pub method_read_only : (n : ℕ) (h : Head) (xs : List Sym) → h.1.0 ≡ true → Lacks (MethodUpto n h) xs
method_read_only n h xs i = record { none = λ a y us d w. let e : true ≡ false = sym i ∙ d.0 in cc }

pub method_lacks_params : {xs : List Sym} (n : ℕ) (h : Head) → Lacks (SignatureUpto n) xs → Lacks (MethodUpto n h) xs
method_lacks_params n h f = given_lacks (h.1.0 ≡ false) (image_lacks (method_of h) (then_lacks (BodyUpto n) f))

pub method_lacks_body : {xs ys : List Sym} {ps : Deep (List Param)} (n : ℕ) (h : Head) → Found (SignatureUpto n) Never xs ps ys → Lacks (BodyUpto n) ys → Lacks (MethodUpto n h) xs
method_lacks_body n h f k = given_lacks (h.1.0 ≡ false) (image_lacks (method_of h) (then_lacks_second (apart_never (BodyUpto n)) f k))

-- ---- what stands behind the head of a field

abbrev Valued : ℕ → List Sym → Deep (Option Expr) × ℕ → Type 0
Valued n = Then (ValueUpto n) (MarkRule m.Semicolon)

abbrev Annotated : ℕ → List Sym → Deep (Option TypeExpr) × (Deep (Option Expr) × ℕ) → Type 0
Annotated n = Then (AnnotationUpto n) (Valued n)

end_starts : (C : Sym → Type 0) (b : List Sym) (y : ℕ) (us : List Sym) → ((o : ℕ) → C (Mark m.Semicolon o) → ⊥) → MarkRule m.Semicolon b y → Starts C (b ++ us) → ⊥
end_starts C b y us h d s = h y (subst (λ v. Starts C (v ++ us)) d s)

valued_starts : (C : Sym → Type 0) (n : ℕ) (b : List Sym) (y : Deep (Option Expr) × ℕ) (us : List Sym) → ((o : ℕ) → C (Mark m.Assign o) → ⊥) → ((o : ℕ) → C (Mark m.Semicolon o) → ⊥) → Valued n b y → Starts C (b ++ us) → ⊥
valued_starts C n b y us k h d s = go d.3.0 (subst (λ v. Starts C v) (ap (λ v. v ++ us) d.2 ∙ append_assoc d.0 d.1 us) s)
  where
    go : {a : List Sym} {u : Option Expr} {e : ℕ} → IsValue true a u e → Starts C (a ++ (d.1 ++ us)) → ⊥
    go no_value s = end_starts C d.1 y.1 us h d.4 s
    go (some_value o q) s = k o s

annotated_starts : (C : Sym → Type 0) (n : ℕ) (b : List Sym) (y : Deep (Option TypeExpr) × (Deep (Option Expr) × ℕ)) (us : List Sym) → ((o : ℕ) → C (Mark m.Colon o) → ⊥) → ((o : ℕ) → C (Mark m.Assign o) → ⊥)
    → ((o : ℕ) → C (Mark m.Semicolon o) → ⊥) → Annotated n b y → Starts C (b ++ us) → ⊥
annotated_starts C n b y us i k h d s = go d.3.0 (subst (λ v. Starts C v) (ap (λ v. v ++ us) d.2 ∙ append_assoc d.0 d.1 us) s)
  where
    go : {a : List Sym} {u : Option TypeExpr} {e : ℕ} → IsAnnotation a u e → Starts C (a ++ (d.1 ++ us)) → ⊥
    go no_annotation s = valued_starts C n d.1 y.1 us k h d.4 s
    go (some_annotation (shape o t f)) s = i o s

expr_apart : Apart (InExpr true) (MarkRule m.Semicolon)
expr_apart b y us d s = end_starts (InExpr true) b y us (λ o h. let e : true ≡ false = h in cc) d s

annotation_apart : (n : ℕ) → Apart InAnnotation (Valued n)
annotation_apart n b y us d s = valued_starts InAnnotation n b y us (λ o h. let e : false ≡ true = h in cc) (λ o h. let e : false ≡ true = h in cc) d s

question_apart : (n : ℕ) → Apart InQuestion (Annotated n)
question_apart n b y us d s =
    annotated_starts InQuestion n b y us (λ o h. let e : false ≡ true = h in cc) (λ o h. let e : false ≡ true = h in cc) (λ o h. let e : false ≡ true = h in cc) d s

semicolon_found : (o : ℕ) {ys zs : List Sym} → ys ≡ Mark m.Semicolon o ∷ zs → Found (MarkRule m.Semicolon) Never ys o zs
semicolon_found o {zs = zs} e = subst (λ v. Found (MarkRule m.Semicolon) Never v o zs) (sym e) (mark_found m.Semicolon o zs)

pub field_found : {optional : Bool} {a : Deep (Option TypeExpr)} {v : Deep (Option Expr)} {xs ys zs us ws : List Sym} (n : ℕ) (h : Head) (o : ℕ) → Found (IsMarked m.Question) InQuestion xs optional ys
    → Found (AnnotationUpto n) InAnnotation ys a zs → Found (ValueUpto n) (InExpr true) zs v us → us ≡ Mark m.Semicolon o ∷ ws → Found (FieldUpto n h) Never xs (field_of h (optional, (a, (v, o)))) ws
field_found n h o f k l e =
    image_found (field_of h) (then_found (question_apart n) f (then_found (annotation_apart n) k (then_found expr_apart l (semicolon_found o e))))

pub field_lacks : {optional : Bool} {a : Deep (Option TypeExpr)} {v : Deep (Option Expr)} {xs ys zs us : List Sym} (n : ℕ) (h : Head) → Found (IsMarked m.Question) InQuestion xs optional ys
    → Found (AnnotationUpto n) InAnnotation ys a zs → Found (ValueUpto n) (InExpr true) zs v us → ((o : ℕ) (ws : List Sym) → us ≡ Mark m.Semicolon o ∷ ws → ⊥) → Lacks (FieldUpto n h) xs
field_lacks {us = us} n h f k l e =
    image_lacks (field_of h) (then_lacks_second (question_apart n) f (then_lacks_second (annotation_apart n) k (then_lacks_second expr_apart l (mark_lacks m.Semicolon us e))))

-- ---- what stands behind a head

abbrev pub RestUpto : ℕ → Head → List Sym → Deep ClassMember → Type 0
RestUpto n h xs r = (is_member_name (name_kind h) ≡ true) × (FieldUpto n h xs r ⊎ MethodUpto n h xs r)

field_starts : (C : Sym → Type 0) (n : ℕ) (h : Head) (b : List Sym) (y : Deep ClassMember) (us : List Sym) → ((o : ℕ) → C (Mark m.Question o) → ⊥) → ((o : ℕ) → C (Mark m.Colon o) → ⊥)
    → ((o : ℕ) → C (Mark m.Assign o) → ⊥) → ((o : ℕ) → C (Mark m.Semicolon o) → ⊥) → FieldUpto n h b y → Starts C (b ++ us) → ⊥
field_starts C n h b y us p i k l d s = go d.1.3 (subst (λ v. Starts C v) (ap (λ v. v ++ us) d.1.2 ∙ append_assoc d.1.0 d.1.1 us) s)
  where
    go : {a : List Sym} {u : Bool} → IsMarked m.Question a u → Starts C (a ++ (d.1.1 ++ us)) → ⊥
    go unmarked s = annotated_starts C n d.1.1 d.0.1 us i k l d.1.4 s
    go (marked o) s = p o s

method_opens : {a : List Sym} {y : Deep ClassMember} (n : ℕ) (h : Head) (us : List Sym) → MethodUpto n h a y → (o : ℕ) × (zs : List Sym) × (a ++ us ≡ Mark m.OpenParen o ∷ zs)
method_opens n h us d =
    let t = d.1.1 in
    let q = t.3 in (
      q.0,
      (q.2 ++ (Mark m.CloseParen q.1 ∷ [])) ++ (t.1 ++ us),
      ap (λ v. v ++ us) t.2 ∙ append_assoc t.0 t.1 us ∙ ap (λ v. v ++ (t.1 ++ us)) q.3,
    )

abbrev is_open : Sym → Bool
is_open (Mark m.OpenParen o) = true
is_open _ = false

abbrev Opens : Sym → Type 0
Opens s = is_open s ≡ true

-- no field goes on as a method does
apart_forms : {a b : List Sym} {r y : Deep ClassMember} (n : ℕ) (h : Head) (us zs : List Sym) → FieldUpto n h a r → MethodUpto n h b y → a ++ us ≡ b ++ zs → ⊥
apart_forms {a = a} {r = r} n h us zs d k w =
    let p = method_opens n h zs k in
    let s : Starts Opens (a ++ us) = subst (λ v. Starts Opens v) (sym (w ∙ p.2)) refl in
    field_starts Opens n h a r us (λ o h. let e : false ≡ true = h in cc) (λ o h. let e : false ≡ true = h in cc) (λ o h. let e : false ≡ true = h in cc) (λ o h. let e : false ≡ true = h in cc) d s

module _ (n : ℕ) (h : Head) (named : is_member_name (name_kind h) ≡ true) where
  pub rest_of_method : {xs ys : List Sym} {r : Deep ClassMember} → Found (MethodUpto n h) InBody xs r ys → Found (RestUpto n h) InBody xs r ys
  rest_of_method {xs = xs} {ys = ys} {r = r} f = record {
    front = f.front;
    whole = f.whole;
    derives = (named, inr f.derives);
    longest = λ a y us d w. elim d.1 [
      | inl q ↦ absurd (apart_forms n h us ys q f.derives (sym w ∙ f.whole))
      | inr q ↦ f.longest a y us q w
    ];
  }

  pub rest_of_field : {xs ys : List Sym} {r : Deep ClassMember} → Lacks (MethodUpto n h) xs → Found (FieldUpto n h) Never xs r ys → Found (RestUpto n h) InBody xs r ys
  rest_of_field {xs = xs} {ys = ys} {r = r} l f = record {
    front = f.front;
    whole = f.whole;
    derives = (named, inl f.derives);
    longest = λ a y us d w. elim d.1 [
      | inl q ↦ elim (f.longest a y us q w) [
        | inl e ↦ inl e
        | inr e ↦ absurd (never us e.1)
      ]
      | inr q ↦ absurd (l.none a y us q w)
    ];
  }

pub rest_lacks : {xs : List Sym} (n : ℕ) (h : Head) → Lacks (MethodUpto n h) xs → Lacks (FieldUpto n h) xs → Lacks (RestUpto n h) xs
rest_lacks n h l k = record {
  none = λ a y us d w. elim d.1 [
    | inl q ↦ k.none a y us q w
    | inr q ↦ l.none a y us q w
  ];
}

pub rest_unnamed : (n : ℕ) (h : Head) (xs : List Sym) → is_member_name (name_kind h) ≡ false → Lacks (RestUpto n h) xs
rest_unnamed n h xs i = record { none = λ a y us d w. let e : true ≡ false = sym d.0 ∙ i in cc }

rest_apart : (n : ℕ) → seq.Apart InHead (RestUpto n)
rest_apart n h b y us d s = elim d.1 [
  | inl q ↦ field_starts InHead n h b y us (λ o h. let e : false ≡ true = h in cc) (λ o h. let e : false ≡ true = h in cc) (λ o h. let e : false ≡ true = h in cc) (λ o h. let e : false ≡ true = h in cc) q s
  | inr q ↦
      let p = method_opens n h us q in
      let e : false ≡ true = subst (λ v. Starts InHead v) p.2 s in
      cc
]

-- ---- a field or a method

abbrev Parts : ℕ → List Sym → Head × Deep ClassMember → Type 0
Parts n = seq.ThenBy HeadRule (RestUpto n)

abbrev tree_of : Head × Deep ClassMember → Deep ClassMember
tree_of x = x.1

field_shape : (xs ys zs vs us : List Sym) (z s : Sym) → xs ++ ys ++ z ∷ zs ++ vs ++ us ++ s ∷ [] ≡ (xs ++ (ys ++ (z ∷ []))) ++ (zs ++ (vs ++ (us ++ (s ∷ []))))
field_shape xs ys zs vs us z s =
    append_three ((xs ++ ys) ++ (z ∷ zs)) vs us (s ∷ []) ∙ append_three xs ys (z ∷ zs) (vs ++ (us ++ (s ∷ [])))
    ∙ sym (append_assoc xs (ys ++ (z ∷ [])) (zs ++ (vs ++ (us ++ (s ∷ [])))) ∙ ap (λ v. xs ++ v) (append_assoc ys (z ∷ []) (zs ++ (vs ++ (us ++ (s ∷ []))))))

method_shape : (xs ys zs vs : List Sym) (z o p : Sym) → xs ++ z ∷ o ∷ ys ++ p ∷ zs ++ vs ≡ (xs ++ (z ∷ [])) ++ ((o ∷ ys ++ p ∷ []) ++ (zs ++ vs))
method_shape xs ys zs vs z o p =
    append_three xs (z ∷ o ∷ ys) (p ∷ zs) vs
    ∙ sym (append_assoc xs (z ∷ []) ((o ∷ ys ++ p ∷ []) ++ (zs ++ vs)) ∙ ap (λ v. xs ++ (z ∷ o ∷ v)) (append_assoc ys (p ∷ []) (zs ++ vs)))

-- what derives a member that is no constructor
plain_parts : {a : List Sym} {of : ClassMember} {d : ℕ} {constructs : Bool} (n : ℕ) → IsClassMember true constructs a of d → constructs ≡ false → d ≤ n → (x : Head × Deep ClassMember) × Parts n a x × (tree_of x ≡ (of, d))
plain_parts n (g.field {is_static = b} {read_only = c} {optional = optional} kind s at semicolon {xs = xs} {ys = ys} {zs = zs} {vs = vs} {us = us} {shape = t} {given = v} {d = d} {e = e} i j k q ann val) sort h = (
  ((b, (c, (kind, s, at))), field_of (b, (c, (kind, s, at))) (optional, ((t, d), ((v, e), semicolon)))),
  (
    xs ++ (ys ++ (word kind s at ∷ [])),
    zs ++ (vs ++ (us ++ (Mark m.Semicolon semicolon ∷ []))),
    field_shape xs ys zs vs us (word kind s at) (Mark m.Semicolon semicolon),
    (xs, ys ++ (word kind s at ∷ []), refl, i, (ys, word kind s at ∷ [], refl, j, refl)),
    (
      k,
      inl (
        (optional, ((t, d), ((v, e), semicolon))),
        (
          zs,
          vs ++ (us ++ (Mark m.Semicolon semicolon ∷ [])),
          refl,
          q,
          (vs, us ++ (Mark m.Semicolon semicolon ∷ []), refl, (ann, omega (arith, h)), (us, Mark m.Semicolon semicolon ∷ [], refl, (val, omega (arith, h)), refl)),
        ),
        refl,
      ),
    ),
  ),
  refl,
)
plain_parts n (g.constructor s at o p q r) sort h = absurd (cc)
plain_parts n (g.class_method {is_static = b} kind s at o p {xs = xs} {ys = ys} {zs = zs} {vs = vs} {params = ps} {shape = t} {of = of} {d = d} {e = e} {f = f} i k q ann body) sort h = (
  ((b, (false, (kind, s, at))), method_of (b, (false, (kind, s, at))) ((ps, d), ((t, of), max e f))),
  (
    xs ++ (word kind s at ∷ []),
    (Mark m.OpenParen o ∷ ys ++ Mark m.CloseParen p ∷ []) ++ (zs ++ vs),
    method_shape xs ys zs vs (word kind s at) (Mark m.OpenParen o) (Mark m.CloseParen p),
    (xs, word kind s at ∷ [], refl, i, ([], word kind s at ∷ [], refl, unworded, refl)),
    (
      k,
      inr (
        refl,
        (
          ((ps, d), ((t, of), max e f)),
          (
            Mark m.OpenParen o ∷ ys ++ Mark m.CloseParen p ∷ [],
            zs ++ vs,
            refl,
            (o, p, ys, refl, (q, omega (arith, h))),
            (zs, vs, e, f, refl, ann, body, refl, omega (arith, h)),
          ),
          refl,
        ),
      ),
    ),
  ),
  refl,
)

pub no_modifier : {kind : Word} {p : List Sym} {b : Bool} → IsWorded kind p b → b ≡ false → p ≡ []
no_modifier unworded e = refl
no_modifier (worded s o) e = absurd (cc)

plain_as : {n : ℕ} {a u : List Sym} {r v : Deep ClassMember} → a ≡ u → r ≡ v → PlainUpto n u v → PlainUpto n a r
plain_as {n = n} e i h = under_both (λ (a : List Sym) (r : Deep ClassMember). PlainUpto n a r) e i h

-- the head of what was read
pub head_shape : {p : List Sym} {h : Head} (d : HeadRule p h) → p ≡ d.0 ++ (d.4.0 ++ (word h.1.1.0 h.1.1.1 h.1.1.2 ∷ []))
head_shape d = d.2 ∙ ap (λ v. d.0 ++ v) (d.4.2 ∙ ap (λ v. d.4.0 ++ v) d.4.4)

pub head_before : {p : List Sym} {h : Head} (d : HeadRule p h) (vs : List Sym) → p ++ vs ≡ d.0 ++ (d.4.0 ++ (word h.1.1.0 h.1.1.1 h.1.1.2 ∷ vs))
head_before {h = h} d vs =
    let z = word h.1.1.0 h.1.1.1 h.1.1.2 in
    ap (λ v. v ++ vs) (head_shape d) ∙ append_assoc d.0 (d.4.0 ++ (z ∷ [])) vs ∙ ap (λ v. d.0 ++ v) (append_assoc d.4.0 (z ∷ []) vs)

plain_forth : {p q : List Sym} {h : Head} {r : Deep ClassMember} (n : ℕ) → HeadRule p h → RestUpto n h q r → PlainUpto n (p ++ q) r
plain_forth {p = p} {q = q} {h = h} {r = r} n d k = elim k.1 [
  | inl f ↦
      let z = word h.1.1.0 h.1.1.1 h.1.1.2 in
      let t = f.1 in
      let a = t.4 in
      let v = a.4 in
      let s = Mark m.Semicolon f.0.1.1.1 in
      let made = g.field h.1.1.0 h.1.1.1 h.1.1.2 f.0.1.1.1 d.3 d.4.3 k.0 t.3 a.3.0 v.3.0 in
      let behind : q ≡ t.0 ++ (a.0 ++ (v.0 ++ (s ∷ []))) = t.2 ∙ ap (λ u. t.0 ++ u) (a.2 ∙ ap (λ u. a.0 ++ u) (v.2 ∙ ap (λ u. v.0 ++ u) v.4)) in
      let whole : p ++ q ≡ d.0 ++ d.4.0 ++ z ∷ t.0 ++ a.0 ++ v.0 ++ s ∷ [] =
      ap (λ u. u ++ q) (head_shape d) ∙ ap (λ u. (d.0 ++ (d.4.0 ++ (z ∷ []))) ++ u) behind ∙ sym (field_shape d.0 d.4.0 t.0 a.0 v.0 z s) in
      plain_as whole (sym f.2) (made, omega (arith, a.3.1, v.3.1))
  | inr f ↦
      let z = word h.1.1.0 h.1.1.1 h.1.1.2 in
      let t = f.1.1 in
      let i = t.3 in
      let b = t.4 in
      let o = Mark m.OpenParen i.0 in
      let c = Mark m.CloseParen i.1 in
      let made = g.class_method h.1.1.0 h.1.1.1 h.1.1.2 i.0 i.1 d.3 k.0 i.4.0 b.5 b.6 in
      let none : d.4.0 ≡ [] = no_modifier d.4.3 f.0 in
      let behind : q ≡ (o ∷ i.2 ++ c ∷ []) ++ (b.0 ++ b.1) = t.2 ∙ ap (λ u. u ++ t.1) i.3 ∙ ap (λ u. (o ∷ i.2 ++ c ∷ []) ++ u) b.4 in
      let whole : p ++ q ≡ d.0 ++ z ∷ o ∷ i.2 ++ c ∷ b.0 ++ b.1 =
      ap (λ u. u ++ q) (head_shape d ∙ ap (λ u. d.0 ++ (u ++ (z ∷ []))) none) ∙ ap (λ u. (d.0 ++ (z ∷ [])) ++ u) behind ∙ sym (method_shape d.0 i.2 b.0 b.1 z o c) in
      plain_as whole (sym f.1.2 ∙ ap (λ (u : ℕ). let y : Deep ClassMember = (class_member.Method h.1.1.2 h.0 h.1.1.1 f.1.0.0.0 f.1.0.1.0.0 f.1.0.1.0.1, max f.1.0.0.1 u) in y) b.7)
      (made, omega (arith, i.4.1, b.8, b.7))
]

plain_back : (n : ℕ) (xs : List Sym) → seq.IsBack tree_of (Parts n) (PlainUpto n) xs
plain_back n xs a u us d w = plain_parts n d.0 refl d.1

module _ (n : ℕ) where
  pub plain_found : {xs ys zs : List Sym} {h : Head} {r : Deep ClassMember} → Found HeadRule InHead xs h ys → Found (RestUpto n h) InBody ys r zs → Found (PlainUpto n) InBody xs r zs
  plain_found {xs = xs} {h = h} {r = r} f k =
      seq.found_by tree_of (λ a w d. plain_as d.2 refl (plain_forth n d.3 d.4)) (plain_back n xs) (seq.then_found {x = h} {y = r} (seq.apart_passes InBody (rest_apart n)) f k)

  pub plain_lacks : {xs ys : List Sym} {h : Head} → Found HeadRule InHead xs h ys → Lacks (RestUpto n h) ys → Lacks (PlainUpto n) xs
  plain_lacks {xs = xs} f k = seq.lacks_by tree_of (plain_back n xs) (seq.then_lacks_second (rest_apart n) f k)

  pub plain_lacks_head : {xs : List Sym} → Lacks HeadRule xs → Lacks (PlainUpto n) xs
  plain_lacks_head {xs = xs} f = seq.lacks_by tree_of (plain_back n xs) (seq.then_lacks (RestUpto n) f)

  -- it begins with a word, which is not `constructor`
  pub plain_begins : (a : List Sym) (r : Deep ClassMember) (us : List Sym) → PlainUpto n a r → Starts InHead (a ++ us)
  plain_begins a r us d =
      let p = (plain_parts n d.0 refl d.1).1 in
      subst (λ v. Starts InHead v) (sym (ap (λ v. v ++ us) p.2 ∙ append_assoc p.0 p.1 us)) (head_begins p.0 _ (p.1 ++ us) p.3)

  pub plain_no_constructor : (a : List Sym) (r : Deep ClassMember) (us : List Sym) (s : List ℕ) (o : ℕ) (zs : List Sym) → PlainUpto n a r → a ++ us ≡ word w.Constructor s o ∷ zs → ⊥
  plain_no_constructor a r us s o zs d same =
      let x = plain_parts n d.0 refl d.1 in
      let p = x.1 in
      let h = p.3 in
      go h.0 h.4.0 x.0.0.0 x.0.0.1.0 x.0.0.1.1.0 x.0.0.1.1.1 x.0.0.1.1.2 (p.1 ++ us) h.3 h.4.3 p.4.0
      (sym (ap (λ v. v ++ us) p.2 ∙ append_assoc p.0 p.1 us ∙ head_before h (p.1 ++ us)) ∙ same)
    where
      go : (p q : List Sym) (b c : Bool) (k : Word) (t : List ℕ) (i : ℕ) (vs : List Sym) → IsWorded w.Static p b → IsWorded w.Readonly q c → is_member_name k ≡ true
          → p ++ (q ++ (word k t i ∷ vs)) ≡ word w.Constructor s o ∷ zs → ⊥
      go p q b c k t i vs unworded unworded e z = let i : k ≡ w.Constructor = cc in let n : true ≡ false = sym e ∙ ap is_member_name i in cc
      go p q b c k t i vs unworded (worded s' o') e z = cc
      go p q b c k t i vs (worded s' o') d e z = cc

-- ---- a constructor

abbrev pub constructor_of : ℕ → Deep (List Param) × Deep Block → Deep ClassMember
constructor_of at p = (class_member.Constructor at p.0.0 p.1.0, max p.0.1 p.1.1)

abbrev Behind : ℕ → ℕ → List Sym → Deep ClassMember → Type 0
Behind n at = Image (constructor_of at) (Then (SignatureUpto n) (BlockUpto a_body n))

abbrev ByWord : ℕ → List Sym → Deep ClassMember → Type 0
ByWord n a r = (s : List ℕ) × (at : ℕ) × (b : List Sym) × (a ≡ word w.Constructor s at ∷ b) × Behind n at b r

by_word : {a : List Sym} {of : ClassMember} {d : ℕ} {constructs : Bool} (n : ℕ) → IsClassMember true constructs a of d → constructs ≡ true → d ≤ n → ByWord n a (of, d)
by_word n (g.field kind s at semicolon i j k q ann val) sort h = absurd (cc)
by_word n (g.constructor s at o p {xs = xs} {ys = ys} {params = ps} {of = of} {d = d} {e = e} q r) sort h = (
  s,
  at,
  Mark m.OpenParen o ∷ (xs ++ (Mark m.CloseParen p ∷ ys)),
  refl,
  (
    ((ps, d), (of, e)),
    (
      Mark m.OpenParen o ∷ xs ++ Mark m.CloseParen p ∷ [],
      ys,
      ap (λ v. Mark m.OpenParen o ∷ v) (sym (append_assoc xs (Mark m.CloseParen p ∷ []) ys)),
      (o, p, xs, refl, (q, omega (arith, h))),
      (r, omega (arith, h)),
    ),
    refl,
  ),
)
by_word n (g.class_method kind s at o p i k q ann body) sort h = absurd (cc)

constructor_as : {n : ℕ} {a u : List Sym} {r v : Deep ClassMember} → a ≡ u → r ≡ v → ConstructorUpto n u v → ConstructorUpto n a r
constructor_as {n = n} e i h = under_both (λ (a : List Sym) (r : Deep ClassMember). ConstructorUpto n a r) e i h

from_word : (n : ℕ) (s : List ℕ) (at : ℕ) (b : List Sym) (r : Deep ClassMember) → Behind n at b r → ConstructorUpto n (word w.Constructor s at ∷ b) r
from_word n s at b r h =
    let t = h.1 in
    let q = t.3 in
    let same : b ≡ Mark m.OpenParen q.0 ∷ (q.2 ++ (Mark m.CloseParen q.1 ∷ t.1)) = t.2 ∙ ap (λ v. v ++ t.1) q.3 ∙ ap (λ v. Mark m.OpenParen q.0 ∷ v) (append_assoc q.2 (Mark m.CloseParen q.1 ∷ []) t.1) in
    constructor_as (ap (λ v. word w.Constructor s at ∷ v) same) (sym h.2) (g.constructor s at q.0 q.1 q.4.0 t.4.0, omega (arith, q.4.1, t.4.1))

word_inside : {s t : List ℕ} {p q : ℕ} {vs ws : List Sym} → word w.Constructor s p ∷ vs ≡ word w.Constructor t q ∷ ws → (p ≡ q) × (vs ≡ ws)
word_inside e = (cc, cc)

constructor_behind : (n : ℕ) (s : List ℕ) (at : ℕ) {xs vs : List Sym} → xs ≡ word w.Constructor s at ∷ vs → (a : List Sym) (r : Deep ClassMember) (us : List Sym) → ConstructorUpto n a r → xs ≡ a ++ us
    → (b : List Sym) × Behind n at b r × (vs ≡ b ++ us)
constructor_behind n s at e a r us d w =
    let p = by_word n d.0 refl d.1 in
    let q = word_inside (sym e ∙ w ∙ ap (λ v. v ++ us) p.3) in
    (p.2, subst (λ (o : ℕ). Behind n o p.2 r) (sym q.0) p.4, q.1)

pub constructor_begins : (n : ℕ) (a : List Sym) (r : Deep ClassMember) (us : List Sym) → ConstructorUpto n a r → (s : List ℕ) × (o : ℕ) × (zs : List Sym) × (a ++ us ≡ word w.Constructor s o ∷ zs)
constructor_begins n a r us d = let p = by_word n d.0 refl d.1 in (p.0, p.1, p.2 ++ us, ap (λ v. v ++ us) p.3)

pub constructor_lacks_word : (n : ℕ) (xs : List Sym) → ((s : List ℕ) (p : ℕ) (zs : List Sym) → xs ≡ word w.Constructor s p ∷ zs → ⊥) → Lacks (ConstructorUpto n) xs
constructor_lacks_word n xs h = record { none = λ a r us d w. let p = by_word n d.0 refl d.1 in h p.0 p.1 (p.2 ++ us) (w ∙ ap (λ v. v ++ us) p.3) }

constructor_lacks : (n : ℕ) (s : List ℕ) (at : ℕ) {xs vs : List Sym} → xs ≡ word w.Constructor s at ∷ vs → Lacks (Behind n at) vs → Lacks (ConstructorUpto n) xs
constructor_lacks n s at e f = record { none = λ a r us d w. let p = constructor_behind n s at e a r us d w in f.none p.0 r us p.1 p.2 }

pub constructor_lacks_params : (n : ℕ) (s : List ℕ) (at : ℕ) {xs vs : List Sym} → xs ≡ word w.Constructor s at ∷ vs → Lacks (SignatureUpto n) vs → Lacks (ConstructorUpto n) xs
constructor_lacks_params n s at e f = constructor_lacks n s at e (image_lacks (constructor_of at) (then_lacks (BlockUpto a_body n) f))

pub constructor_lacks_body : (n : ℕ) (s : List ℕ) (at : ℕ) {xs vs ys : List Sym} {ps : Deep (List Param)} → xs ≡ word w.Constructor s at ∷ vs → Found (SignatureUpto n) Never vs ps ys → Lacks (BlockUpto a_body n) ys
    → Lacks (ConstructorUpto n) xs
constructor_lacks_body n s at e f k = constructor_lacks n s at e (image_lacks (constructor_of at) (then_lacks_second (apart_never (BlockUpto a_body n)) f k))

pub constructor_found : (n : ℕ) (s : List ℕ) (at : ℕ) {xs vs ys zs : List Sym} {ps : Deep (List Param)} {b : Deep Block} → xs ≡ word w.Constructor s at ∷ vs → Found (SignatureUpto n) Never vs ps ys
    → Found (BlockUpto a_body n) Never ys b zs → Found (ConstructorUpto n) Never xs (constructor_of at (ps, b)) zs
constructor_found n s at {vs = vs} {zs = zs} {ps = ps} {b = b} e f k = record {
  front = word w.Constructor s at ∷ all.front;
  whole = e ∙ ap (λ v. word w.Constructor s at ∷ v) all.whole;
  derives = from_word n s at all.front (constructor_of at (ps, b)) all.derives;
  longest = λ a r us d v. let p = constructor_behind n s at e a r us d v in all.longest p.0 r us p.1 p.2;
}
  where
    all : Found (Behind n at) Never vs (constructor_of at (ps, b)) zs
    all = image_found (constructor_of at) (then_found (apart_never (BlockUpto a_body n)) f k)

-- ---- the trees that are made

pub same_method : {at at' : ℕ} {s s' : List ℕ} {d d' : ℕ} (is_static : Bool) (ps : List Param) (t : Option TypeExpr) (b : Block) → at ≡ at' → s ≡ s' → d ≡ d'
    → ◌≡◌ {A = Deep ClassMember} (class_member.Method at is_static s ps t b, d) (class_member.Method at' is_static s' ps t b, d')
same_method is_static ps t b p q r = both (ap_both (λ (x : ℕ) (y : List ℕ). class_member.Method x is_static y ps t b) p q) r

pub same_field : {at at' : ℕ} {s s' : List ℕ} {v v' : Option Expr} {d d' : ℕ} (is_static read_only optional : Bool) (t : Option TypeExpr) → at ≡ at' → s ≡ s' → v ≡ v' → d ≡ d'
    → ◌≡◌ {A = Deep ClassMember} (class_member.Field at is_static read_only s optional t v, d) (class_member.Field at' is_static read_only s' optional t v', d')
same_field {at' = at'} {s' = s'} {v = v} is_static read_only optional t p q o r = both
    (ap_both (λ (x : ℕ) (y : List ℕ). class_member.Field x is_static read_only y optional t v) p q ∙ ap (λ (z : Option Expr). class_member.Field at' is_static read_only s' optional t z) o) r

pub same_constructor : {at at' : ℕ} {d d' : ℕ} (ps : List Param) (b : Block) → at ≡ at' → d ≡ d' → ◌≡◌ {A = Deep ClassMember} (class_member.Constructor at ps b, d) (class_member.Constructor at' ps b, d')
same_constructor ps b p r = both (ap (λ (x : ℕ). class_member.Constructor x ps b) p) r
