-- Fields, methods and constructors without bodies, each from what it begins with and what stands behind that.
use Rattle.std.proofs.Common.{◌≡◌, ℕ, ◌≤◌, max, Bool, true, false, List, [], ◌∷◌, ◌++◌, refl, sym, ◌∙◌, ap, subst, inl, inr, arith, append_assoc}
use Rattle.std.specs.Prelude.{◌⊎◌}
use Rattle.tb_tree.specs.declared.marks.Mark.TheVariants as m
use Rattle.tb_tree.specs.declared.words.Word.{Word}
use Rattle.tb_tree.specs.declared.words.Word.TheVariants as words
use Rattle.tb_tree.specs.declared.types.TypeExpr.{TypeExpr}
use Rattle.tb_tree.specs.declared.types.TypeParam.{TypeParam}
use Rattle.tb_tree.specs.declared.items.DeclaredMember.{DeclaredMember}
use Rattle.tb_tree.specs.declared.items.DeclaredMember.TheVariants as member
use Rattle.tb_tree.specs.Sym.{Sym, Mark}
use Rattle.tb_tree.specs.Shapes.{max_depth, word, IsMarked, unmarked, marked, IsWorded, unworded, worded}
use Rattle.tb_tree.specs.Types.{shape}
use Rattle.tb_tree.specs.Longest.{Found, Lacks, Starts, Never}
use Rattle.tb_tree.specs.Items.{is_member_name}
use Rattle.tb_tree.specs.Surfaces.{IsDeclaredMember, signature}
use Rattle.tb_tree.specs.Surfaces as g
use Rattle.tb_tree.proofs.Ends.{append_three, ap_both, under_both}
use Rattle.tb_parse_type.specs.Rules.{Then, MarkRule}
use Rattle.tb_parse_body.specs.Rules.{InQuestion}
use Rattle.tb_parse_body.proofs.FirstSymbols.{image_found, image_lacks, given_found, given_lacks, then_found, then_lacks, then_lacks_second, Apart, apart_never, mark_found, mark_lacks}
use Rattle.tb_parse_body.proofs.Sequences as seq
use Rattle.tb_parse_file.specs.Classes.{Head, HeadRule, InHead, name_kind}
use Rattle.tb_parse_file.specs.DeclRules.{ShapeRule, ParamsRule, SignatureRule, field_of, FieldRule, method_of, MethodRule, PlainRule, ConstructorRule}
use Rattle.tb_parse_file.proofs.Headed.{Continues, headed_found, headed_lacks}
use Rattle.tb_parse_file.proofs.MemberHeads.{head_begins}
use Rattle.tb_parse_file.proofs.MemberParts.{no_modifier, head_shape, head_before}
use Rattle.tb_parse_file.proofs.DeclShapes.{shape_begins, signature_begins}

-- ---- what stands behind the head of a method

pub method_found : {xs ys : List Sym} {p : List TypeParam × TypeExpr} (h : Head) → h.1.0 ≡ false → Found SignatureRule Never xs p ys → Found (MethodRule h) Never xs (method_of h p) ys
method_found h i f = given_found i (image_found (method_of h) f)

pub method_read_only : (h : Head) (xs : List Sym) → h.1.0 ≡ true → Lacks (MethodRule h) xs
method_read_only h xs i = record { none = λ a y us d w. let e : true ≡ false = sym i ∙ d.0 in cc }

pub method_lacks : {xs : List Sym} (h : Head) → Lacks SignatureRule xs → Lacks (MethodRule h) xs
method_lacks h f = given_lacks (h.1.0 ≡ false) (image_lacks (method_of h) f)

-- ---- what stands behind the head of a field

question_apart : Apart InQuestion ShapeRule
question_apart b y us d s =
    let p = shape_begins us d in
    let e : false ≡ true = subst (λ v. Starts InQuestion v) p.2 s in
    cc

pub field_found : {optional : Bool} {of : TypeExpr} {xs ys zs : List Sym} (h : Head) → Found (IsMarked m.Question) InQuestion xs optional ys → Found ShapeRule Never ys of zs
    → Found (FieldRule h) Never xs (field_of h (optional, of)) zs
field_found h f k = image_found (field_of h) (then_found question_apart f k)

pub field_lacks : {optional : Bool} {xs ys : List Sym} (h : Head) → Found (IsMarked m.Question) InQuestion xs optional ys → Lacks ShapeRule ys → Lacks (FieldRule h) xs
field_lacks h f k = image_lacks (field_of h) (then_lacks_second question_apart f k)

-- ---- what stands behind a head

abbrev pub RestRule : Head → List Sym → DeclaredMember → Type 0
RestRule h xs r = (is_member_name (name_kind h) ≡ true) × (FieldRule h xs r ⊎ MethodRule h xs r)

field_starts : (C : Sym → Type 0) (h : Head) (b : List Sym) (y : DeclaredMember) (us : List Sym) → ((o : ℕ) → C (Mark m.Question o) → ⊥) → ((o : ℕ) → C (Mark m.Colon o) → ⊥) → FieldRule h b y
    → Starts C (b ++ us) → ⊥
field_starts C h b y us p i d s = go d.1.3 (subst (λ v. Starts C v) (ap (λ v. v ++ us) d.1.2 ∙ append_assoc d.1.0 d.1.1 us) s)
  where
    go : {a : List Sym} {u : Bool} → IsMarked m.Question a u → Starts C (a ++ (d.1.1 ++ us)) → ⊥
    go unmarked s = let q = shape_begins us d.1.4 in i q.0 (subst (λ v. Starts C v) q.2 s)
    go (marked o) s = p o s

method_opens : {a : List Sym} {y : DeclaredMember} (h : Head) (us : List Sym) → MethodRule h a y → (o : ℕ) × (zs : List Sym) × (a ++ us ≡ Mark m.OpenParen o ∷ zs)
method_opens h us d = signature_begins us d.1.1

abbrev is_open : Sym → Bool
is_open (Mark m.OpenParen o) = true
is_open _ = false

abbrev Opens : Sym → Type 0
Opens s = is_open s ≡ true

-- no field goes on as a method does
apart_forms : {a b : List Sym} {r y : DeclaredMember} (h : Head) (us zs : List Sym) → FieldRule h a r → MethodRule h b y → a ++ us ≡ b ++ zs → ⊥
apart_forms {a = a} {r = r} h us zs d k w =
    let p = method_opens h zs k in
    let s : Starts Opens (a ++ us) = subst (λ v. Starts Opens v) (sym (w ∙ p.2)) refl in
    field_starts Opens h a r us (λ o h. let e : false ≡ true = h in cc) (λ o h. let e : false ≡ true = h in cc) d s

module _ (h : Head) (named : is_member_name (name_kind h) ≡ true) where
  pub rest_of_method : {xs ys : List Sym} {r : DeclaredMember} → Found (MethodRule h) Never xs r ys → Found (RestRule h) Never xs r ys
  rest_of_method {xs = xs} {ys = ys} {r = r} f = record {
    front = f.front;
    whole = f.whole;
    derives = (named, inr f.derives);
    longest = λ a y us d w. elim d.1 [
      | inl q ↦ absurd (apart_forms h us ys q f.derives (sym w ∙ f.whole))
      | inr q ↦ f.longest a y us q w
    ];
  }

  pub rest_of_field : {xs ys : List Sym} {r : DeclaredMember} → Lacks (MethodRule h) xs → Found (FieldRule h) Never xs r ys → Found (RestRule h) Never xs r ys
  rest_of_field {xs = xs} {ys = ys} {r = r} l f = record {
    front = f.front;
    whole = f.whole;
    derives = (named, inl f.derives);
    longest = λ a y us d w. elim d.1 [
      | inl q ↦ f.longest a y us q w
      | inr q ↦ absurd (l.none a y us q w)
    ];
  }

pub rest_lacks : {xs : List Sym} (h : Head) → Lacks (MethodRule h) xs → Lacks (FieldRule h) xs → Lacks (RestRule h) xs
rest_lacks h l k = record {
  none = λ a y us d w. elim d.1 [
    | inl q ↦ k.none a y us q w
    | inr q ↦ l.none a y us q w
  ];
}

pub rest_unnamed : (h : Head) (xs : List Sym) → is_member_name (name_kind h) ≡ false → Lacks (RestRule h) xs
rest_unnamed h xs i = record { none = λ a y us d w. let e : true ≡ false = sym d.0 ∙ i in cc }

rest_apart : seq.Apart InHead RestRule
rest_apart h b y us d s = elim d.1 [
  | inl q ↦ field_starts InHead h b y us (λ o h. let e : false ≡ true = h in cc) (λ o h. let e : false ≡ true = h in cc) q s
  | inr q ↦
      let p = method_opens h us q in
      let e : false ≡ true = subst (λ v. Starts InHead v) p.2 s in
      cc
]

-- ---- a field or a method

abbrev Parts : List Sym → Head × DeclaredMember → Type 0
Parts = seq.ThenBy HeadRule RestRule

abbrev tree_of : Head × DeclaredMember → DeclaredMember
tree_of x = x.1

field_shape : (xs ys zs vs : List Sym) (z s : Sym) → xs ++ ys ++ z ∷ zs ++ vs ++ s ∷ [] ≡ (xs ++ (ys ++ (z ∷ []))) ++ (zs ++ (vs ++ (s ∷ [])))
field_shape xs ys zs vs z s =
    append_three (xs ++ ys) (z ∷ zs) vs (s ∷ []) ∙ append_assoc xs ys (z ∷ (zs ++ (vs ++ (s ∷ []))))
    ∙ sym (append_assoc xs (ys ++ (z ∷ [])) (zs ++ (vs ++ (s ∷ []))) ∙ ap (λ v. xs ++ v) (append_assoc ys (z ∷ []) (zs ++ (vs ++ (s ∷ [])))))

method_shape : (xs ys zs : List Sym) (z s : Sym) → xs ++ z ∷ ys ++ zs ++ s ∷ [] ≡ (xs ++ (z ∷ [])) ++ (ys ++ (zs ++ (s ∷ [])))
method_shape xs ys zs z s = append_three xs (z ∷ ys) zs (s ∷ []) ∙ sym (append_assoc xs (z ∷ []) (ys ++ (zs ++ (s ∷ []))))

-- what derives a member that is no constructor
plain_parts : {a : List Sym} {of : DeclaredMember} {d : ℕ} {constructs : Bool} → IsDeclaredMember constructs a of d → constructs ≡ false → d ≤ max_depth
    → (x : Head × DeclaredMember) × Parts a x × (tree_of x ≡ of)
plain_parts (g.declared_field {is_static = b} {read_only = c} {optional = optional} kind s at semicolon {xs = xs} {ys = ys} {zs = zs} {of = t} {d = d} i j k q (shape colon {xs = v} {own = own} ty h)) sort fit = (
  ((b, (c, (kind, s, at))), field_of (b, (c, (kind, s, at))) (optional, t)),
  (
    xs ++ (ys ++ (word kind s at ∷ [])),
    zs ++ ((Mark m.Colon colon ∷ v) ++ (Mark m.Semicolon semicolon ∷ [])),
    field_shape xs ys zs (Mark m.Colon colon ∷ v) (word kind s at) (Mark m.Semicolon semicolon),
    (xs, ys ++ (word kind s at ∷ []), refl, i, (ys, word kind s at ∷ [], refl, j, refl)),
    (
      k,
      inl (
        (optional, t),
        (zs, (Mark m.Colon colon ∷ v) ++ (Mark m.Semicolon semicolon ∷ []), refl, q, (colon, semicolon, v, own, d, refl, (ty, (h, fit)))),
        refl,
      ),
    ),
  ),
  refl,
)
plain_parts (g.declared_constructor s at semicolon q) sort fit = absurd (cc)
plain_parts (g.declared_method {is_static = b} kind s at semicolon {xs = xs} {params = ps} {of = t} {d = d} {e = e} i k (signature o p {xs = y} {own = own} pr h) (shape colon {xs = v} {own = more} ty j)) sort fit = (
  ((b, (false, (kind, s, at))), method_of (b, (false, (kind, s, at))) (ps, t)),
  (
    xs ++ (word kind s at ∷ []),
    (Mark m.OpenParen o ∷ y ++ Mark m.CloseParen p ∷ []) ++ ((Mark m.Colon colon ∷ v) ++ (Mark m.Semicolon semicolon ∷ [])),
    method_shape xs (Mark m.OpenParen o ∷ y ++ Mark m.CloseParen p ∷ []) (Mark m.Colon colon ∷ v) (word kind s at) (Mark m.Semicolon semicolon),
    (xs, word kind s at ∷ [], refl, i, ([], word kind s at ∷ [], refl, unworded, refl)),
    (
      k,
      inr (
        refl,
        (
          (ps, t),
          (
            Mark m.OpenParen o ∷ y ++ Mark m.CloseParen p ∷ [],
            (Mark m.Colon colon ∷ v) ++ (Mark m.Semicolon semicolon ∷ []),
            refl,
            (o, p, y, own, d, refl, (pr, (h, omega (arith, fit)))),
            (colon, semicolon, v, more, e, refl, (ty, (j, omega (arith, fit)))),
          ),
          refl,
        ),
      ),
    ),
  ),
  refl,
)

plain_as : {a u : List Sym} {r v : DeclaredMember} → a ≡ u → r ≡ v → PlainRule u v → PlainRule a r
plain_as e i h = under_both (λ (a : List Sym) (r : DeclaredMember). PlainRule a r) e i h

plain_forth : {p q : List Sym} {h : Head} {r : DeclaredMember} → HeadRule p h → RestRule h q r → PlainRule (p ++ q) r
plain_forth {p = p} {q = q} {h = h} {r = r} d k = elim k.1 [
  | inl f ↦
      let z = word h.1.1.0 h.1.1.1 h.1.1.2 in
      let t = f.1 in
      let y = t.4 in
      let v = Mark m.Colon y.0 ∷ y.2 in
      let s = Mark m.Semicolon y.1 in
      let made = g.declared_field h.1.1.0 h.1.1.1 h.1.1.2 y.1 d.3 d.4.3 k.0 t.3 (shape y.0 y.6.0 y.6.1.0) in
      let behind : q ≡ t.0 ++ (v ++ (s ∷ [])) = t.2 ∙ ap (λ u. t.0 ++ u) y.5 in
      let whole : p ++ q ≡ d.0 ++ d.4.0 ++ z ∷ t.0 ++ v ++ s ∷ [] =
      ap (λ u. u ++ q) (head_shape d) ∙ ap (λ u. (d.0 ++ (d.4.0 ++ (z ∷ []))) ++ u) behind ∙ sym (field_shape d.0 d.4.0 t.0 v z s) in
      plain_as whole (sym f.2) (y.4, made, y.6.1.1)
  | inr f ↦
      let z = word h.1.1.0 h.1.1.1 h.1.1.2 in
      let t = f.1.1 in
      let x = t.3 in
      let y = t.4 in
      let u = Mark m.OpenParen x.0 ∷ x.2 ++ Mark m.CloseParen x.1 ∷ [] in
      let v = Mark m.Colon y.0 ∷ y.2 in
      let s = Mark m.Semicolon y.1 in
      let made = g.declared_method h.1.1.0 h.1.1.1 h.1.1.2 y.1 d.3 k.0 (signature x.0 x.1 x.6.0 x.6.1.0) (shape y.0 y.6.0 y.6.1.0) in
      let none : d.4.0 ≡ [] = no_modifier d.4.3 f.0 in
      let behind : q ≡ u ++ (v ++ (s ∷ [])) = t.2 ∙ ap (λ a. a ++ t.1) x.5 ∙ ap (λ a. u ++ a) y.5 in
      let whole : p ++ q ≡ d.0 ++ z ∷ u ++ v ++ s ∷ [] =
      ap (λ a. a ++ q) (head_shape d ∙ ap (λ a. d.0 ++ (a ++ (z ∷ []))) none) ∙ ap (λ a. (d.0 ++ (z ∷ [])) ++ a) behind ∙ sym (method_shape d.0 u v z s) in
      plain_as whole (sym f.1.2) (max x.4 y.4, made, omega (arith, x.6.1.1, y.6.1.1))
]

plain_back : (xs : List Sym) → seq.IsBack tree_of Parts PlainRule xs
plain_back xs a u us d w = plain_parts d.1 refl d.2

pub plain_found : {xs ys zs : List Sym} {h : Head} {r : DeclaredMember} → Found HeadRule InHead xs h ys → Found (RestRule h) Never ys r zs → Found PlainRule Never xs r zs
plain_found {xs = xs} {h = h} {r = r} f k =
    seq.found_by tree_of (λ a w d. plain_as d.2 refl (plain_forth d.3 d.4)) (plain_back xs) (seq.then_found {x = h} {y = r} (seq.apart_passes Never rest_apart) f k)

pub plain_lacks : {xs ys : List Sym} {h : Head} → Found HeadRule InHead xs h ys → Lacks (RestRule h) ys → Lacks PlainRule xs
plain_lacks {xs = xs} f k = seq.lacks_by tree_of (plain_back xs) (seq.then_lacks_second rest_apart f k)

pub plain_lacks_head : {xs : List Sym} → Lacks HeadRule xs → Lacks PlainRule xs
plain_lacks_head {xs = xs} f = seq.lacks_by tree_of (plain_back xs) (seq.then_lacks RestRule f)

-- it begins with a word, which is not `constructor`
pub plain_begins : (a : List Sym) (r : DeclaredMember) (us : List Sym) → PlainRule a r → Starts InHead (a ++ us)
plain_begins a r us d =
    let p = (plain_parts d.1 refl d.2).1 in
    subst (λ v. Starts InHead v) (sym (ap (λ v. v ++ us) p.2 ∙ append_assoc p.0 p.1 us)) (head_begins p.0 _ (p.1 ++ us) p.3)

pub plain_no_constructor : (a : List Sym) (r : DeclaredMember) (us : List Sym) (s : List ℕ) (o : ℕ) (zs : List Sym) → PlainRule a r → a ++ us ≡ word words.Constructor s o ∷ zs → ⊥
plain_no_constructor a r us s o zs d same =
    let x = plain_parts d.1 refl d.2 in
    let p = x.1 in
    let h = p.3 in
    go h.0 h.4.0 x.0.0.0 x.0.0.1.0 x.0.0.1.1.0 x.0.0.1.1.1 x.0.0.1.1.2 (p.1 ++ us) h.3 h.4.3 p.4.0
    (sym (ap (λ v. v ++ us) p.2 ∙ append_assoc p.0 p.1 us ∙ head_before h (p.1 ++ us)) ∙ same)
  where
    go : (p q : List Sym) (b c : Bool) (k : Word) (t : List ℕ) (i : ℕ) (vs : List Sym) → IsWorded words.Static p b → IsWorded words.Readonly q c → is_member_name k ≡ true
        → p ++ (q ++ (word k t i ∷ vs)) ≡ word words.Constructor s o ∷ zs → ⊥
    go p q b c k t i vs unworded unworded e z = let i : k ≡ words.Constructor = cc in let n : true ≡ false = sym e ∙ ap is_member_name i in cc
    go p q b c k t i vs unworded (worded s' o') e z = cc
    go p q b c k t i vs (worded s' o') d e z = cc

-- ---- a constructor

abbrev constructor_of : ℕ → List TypeParam × ℕ → DeclaredMember
constructor_of at p = member.Constructor at p.0

abbrev Behind : List Sym → List TypeParam × ℕ → Type 0
Behind = Then ParamsRule (MarkRule m.Semicolon)

constructor_forth : (s : List ℕ) (at : ℕ) (r : List TypeParam × ℕ) (b : List Sym) → Behind b r → ConstructorRule (word words.Constructor s at ∷ b) (constructor_of at r)
constructor_forth s at r b d =
    let q = d.3 in
    let e : b ≡ (Mark m.OpenParen q.0 ∷ q.2 ++ Mark m.CloseParen q.1 ∷ []) ++ (Mark m.Semicolon r.1 ∷ []) = d.2 ∙ ap_both (λ (x y : List Sym). x ++ y) q.5 d.4 in (
      q.4,
      subst (λ v. IsDeclaredMember true (word words.Constructor s at ∷ v) (member.Constructor at r.0) q.4) (sym e) (g.declared_constructor s at r.1 (signature q.0 q.1 q.6.0 q.6.1.0)),
      q.6.1.1,
    )

constructor_back : (s : List ℕ) (at : ℕ) (xs : List Sym) → Continues (constructor_of at) Behind ConstructorRule (word words.Constructor s at ∷ []) xs
constructor_back s at xs a u us d w = go us d.1 refl d.2 w
  where
    go : {a : List Sym} {u : DeclaredMember} {e : ℕ} {here : Bool} (us : List Sym) → IsDeclaredMember here a u e → here ≡ true → e ≤ max_depth → word words.Constructor s at ∷ xs ≡ a ++ us
        → (b : List Sym) × (r : List TypeParam × ℕ) × Behind b r × (xs ≡ b ++ us) × (constructor_of at r ≡ u)
    go us (g.declared_field kind s' at' semicolon i j k q h) sort fit v = absurd (cc)
    go us (g.declared_constructor s' at' semicolon {params = ps} {d = d} (signature o p {xs = y} {own = own} pr h)) sort fit v =
        let behind : xs ≡ ((Mark m.OpenParen o ∷ y ++ Mark m.CloseParen p ∷ []) ++ (Mark m.Semicolon semicolon ∷ [])) ++ us = cc in
        let place : at ≡ at' = cc in (
          (Mark m.OpenParen o ∷ y ++ Mark m.CloseParen p ∷ []) ++ (Mark m.Semicolon semicolon ∷ []),
          (ps, semicolon),
          (Mark m.OpenParen o ∷ y ++ Mark m.CloseParen p ∷ [], Mark m.Semicolon semicolon ∷ [], refl, (o, p, y, own, d, refl, (pr, (h, fit))), refl),
          behind,
          ap (λ (x : ℕ). member.Constructor x ps) place,
        )
    go us (g.declared_method kind s' at' semicolon i k q h) sort fit v = absurd (cc)

pub constructor_begins : (a : List Sym) (r : DeclaredMember) (us : List Sym) → ConstructorRule a r → (s : List ℕ) × (o : ℕ) × (zs : List Sym) × (a ++ us ≡ word words.Constructor s o ∷ zs)
constructor_begins a r us d = go d.1 refl
  where
    go : {a : List Sym} {u : DeclaredMember} {e : ℕ} {here : Bool} → IsDeclaredMember here a u e → here ≡ true → (s : List ℕ) × (o : ℕ) × (zs : List Sym) × (a ++ us ≡ word words.Constructor s o ∷ zs)
    go (g.declared_field kind s' at' semicolon i j k q h) sort = absurd (cc)
    go (g.declared_constructor s at semicolon {xs = xs} q) sort = (s, at, (xs ++ (Mark m.Semicolon semicolon ∷ [])) ++ us, refl)
    go (g.declared_method kind s' at' semicolon i k q h) sort = absurd (cc)

pub constructor_lacks_word : (xs : List Sym) → ((s : List ℕ) (p : ℕ) (zs : List Sym) → xs ≡ word words.Constructor s p ∷ zs → ⊥) → Lacks ConstructorRule xs
constructor_lacks_word xs h = record { none = λ a r us d w. let p = constructor_begins a r us d in h p.0 p.1 p.2 (w ∙ p.3) }

pub constructor_lacks_params : {xs : List Sym} (s : List ℕ) (at : ℕ) → Lacks ParamsRule xs → Lacks ConstructorRule (word words.Constructor s at ∷ xs)
constructor_lacks_params {xs = xs} s at f = headed_lacks (constructor_of at) (word words.Constructor s at ∷ []) (constructor_back s at xs) (then_lacks (MarkRule m.Semicolon) f)

pub constructor_lacks_end : {xs ys : List Sym} {ps : List TypeParam} (s : List ℕ) (at : ℕ) → Found ParamsRule Never xs ps ys → ((o : ℕ) (zs : List Sym) → ys ≡ Mark m.Semicolon o ∷ zs → ⊥)
    → Lacks ConstructorRule (word words.Constructor s at ∷ xs)
constructor_lacks_end {xs = xs} {ys = ys} s at f h =
    headed_lacks (constructor_of at) (word words.Constructor s at ∷ []) (constructor_back s at xs) (then_lacks_second (apart_never (MarkRule m.Semicolon)) f (mark_lacks m.Semicolon ys h))

pub constructor_found : {xs ys : List Sym} {ps : List TypeParam} (s : List ℕ) (at o : ℕ) → Found ParamsRule Never xs ps (Mark m.Semicolon o ∷ ys)
    → Found ConstructorRule Never (word words.Constructor s at ∷ xs) (member.Constructor at ps) ys
constructor_found {xs = xs} {ys = ys} {ps = ps} s at o f =
    headed_found (constructor_of at) (word words.Constructor s at ∷ []) (λ b d. constructor_forth s at (ps, o) b d) (constructor_back s at xs)
    (then_found (apart_never (MarkRule m.Semicolon)) f (mark_found m.Semicolon o ys))

-- ---- the trees that are made

pub same_method : {at at' : ℕ} {s s' : List ℕ} (is_static : Bool) (ps : List TypeParam) (t : TypeExpr) → at ≡ at' → s ≡ s' → ◌≡◌ {A = DeclaredMember} (member.Method at is_static s ps t) (member.Method at' is_static s' ps t)
same_method is_static ps t p q = ap_both (λ (x : ℕ) (y : List ℕ). member.Method x is_static y ps t) p q

pub same_field : {at at' : ℕ} {s s' : List ℕ} (is_static read_only optional : Bool) (t : TypeExpr) → at ≡ at' → s ≡ s'
    → ◌≡◌ {A = DeclaredMember} (member.Field at is_static read_only s optional t) (member.Field at' is_static read_only s' optional t)
same_field is_static read_only optional t p q = ap_both (λ (x : ℕ) (y : List ℕ). member.Field x is_static read_only y optional t) p q

pub same_constructor : {at at' : ℕ} (ps : List TypeParam) → at ≡ at' → ◌≡◌ {A = DeclaredMember} (member.Constructor at ps) (member.Constructor at' ps)
same_constructor ps p = ap (λ (x : ℕ). member.Constructor x ps) p
