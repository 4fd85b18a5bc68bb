-- Symbols are one item of a declaration file at most: members of classes, declarations and items.
use Rattle.std.proofs.Common.{◌≡◌, ℕ, Bool, true, false, List, [], ◌∷◌, ◌++◌, Some, None, refl, sym, ap, ◌∙◌, append_assoc}
use Rattle.tb_tree.specs.declared.marks.Mark.{Mark as MarkKind}
use Rattle.tb_tree.specs.declared.marks.Mark.TheVariants as m
use Rattle.tb_tree.specs.declared.words.Class.TheVariants as c
use Rattle.tb_tree.specs.declared.words.Word.{Word}
use Rattle.tb_tree.specs.declared.words.Word.TheVariants as w
use Rattle.tb_tree.specs.declared.types.TypeExpr.{TypeExpr}
use Rattle.tb_tree.specs.declared.types.TypeParam.{TypeParam}
use Rattle.tb_tree.specs.declared.exprs.VarKind.{VarKind}
use Rattle.tb_tree.specs.declared.items.Import.{Import}
use Rattle.tb_tree.specs.declared.items.ExportList.{ExportList}
use Rattle.tb_tree.specs.declared.items.DeclaredMember.{DeclaredMember}
use Rattle.tb_tree.specs.declared.items.DeclaredMember.TheVariants as declared_member
use Rattle.tb_tree.specs.declared.items.Declared.{Declared}
use Rattle.tb_tree.specs.declared.items.Declared.TheVariants as declared
use Rattle.tb_tree.specs.declared.items.SurfaceItem.{SurfaceItem}
use Rattle.tb_tree.specs.declared.items.SurfaceItem.TheVariants as surface_item
use Rattle.tb_tree.specs.Sym.{Sym, Mark, Lex}
use Rattle.tb_tree.specs.Shapes.{word, IsMarked, unmarked, marked, IsWorded, unworded, worded}
use Rattle.tb_tree.specs.Types as types
use Rattle.tb_tree.specs.Exprs.{kind_of}
use Rattle.tb_tree.specs.Items as grammar
use Rattle.tb_tree.specs.Items.{IsImport, IsExportList, is_member_name}
use Rattle.tb_tree.specs.Surfaces as surfaces
use Rattle.tb_tree.specs.Surfaces.{IsSignature, IsDeclaredMember, IsDeclaredMembers, IsDeclared, IsDeclItem, kept}
use Rattle.tb_tree.proofs.Ends.{ap_both}
use Rattle.tb_emit_law.proofs.Back.{ap_four}
use Rattle.tb_emit_law.proofs.DeclOneType.{closes_body, apart, parted}
use Rattle.tb_emit_law.proofs.DeclOne.{question_one, no_colon, no_open}
use Rattle.tb_emit_law.proofs.DeclOneItem.{is_marked, import_one, list_one, shape_one, signature_one, bases_one, interface_one, alias_one}

-- ---- the head of a member

-- `static`, `readonly` and a name, before a mark
record SameHead (x y : Bool) (s r : Bool) (k n : Word) (t u : List ℕ) (i j : ℕ) (fs bs : List Sym) : Type 0 where
  pub statics : x ≡ y
  pub read_only : s ≡ r
  pub kinds : k ≡ n
  pub names : t ≡ u
  pub places : i ≡ j
  pub rest : fs ≡ bs

head_one : {a b d f : List Sym} {x y s r : Bool} → IsWorded w.Static a x → IsWorded w.Static b y → IsWorded w.Readonly d s → IsWorded w.Readonly f r → (k n : Word) (t u : List ℕ) (i j : ℕ) (fs bs : List Sym)
    → a ++ (d ++ word k t i ∷ fs) ≡ b ++ (f ++ word n u j ∷ bs) → is_marked fs ≡ true → is_marked bs ≡ true → SameHead x y s r k n t u i j fs bs
head_one unworded unworded unworded unworded k n t u i j fs bs e h l = record { statics = refl; read_only = refl; kinds = cc; names = cc; places = cc; rest = cc }
head_one unworded unworded unworded (worded ft fp) k n t u i j fs bs e h l = absurd (let rest : fs ≡ word n u j ∷ bs = cc in apart is_marked rest h refl)
head_one unworded unworded (worded dt dp) unworded k n t u i j fs bs e h l = absurd (let rest : bs ≡ word k t i ∷ fs = cc in apart is_marked rest l refl)
head_one unworded unworded (worded dt dp) (worded ft fp) k n t u i j fs bs e h l = record { statics = refl; read_only = refl; kinds = cc; names = cc; places = cc; rest = cc }
head_one unworded (worded bt bp) unworded unworded k n t u i j fs bs e h l = absurd (let rest : fs ≡ word n u j ∷ bs = cc in apart is_marked rest h refl)
head_one unworded (worded bt bp) unworded (worded ft fp) k n t u i j fs bs e h l = absurd (let rest : fs ≡ word w.Readonly ft fp ∷ word n u j ∷ bs = cc in apart is_marked rest h refl)
head_one unworded (worded bt bp) (worded dt dp) unworded k n t u i j fs bs e h l = absurd (cc e)
head_one unworded (worded bt bp) (worded dt dp) (worded ft fp) k n t u i j fs bs e h l = absurd (let rest : fs ≡ word n u j ∷ bs = cc in apart is_marked rest h refl)
head_one (worded aw ap) unworded unworded unworded k n t u i j fs bs e h l = absurd (let rest : bs ≡ word k t i ∷ fs = cc in apart is_marked rest l refl)
head_one (worded aw ap) unworded unworded (worded ft fp) k n t u i j fs bs e h l = absurd (cc e)
head_one (worded aw ap) unworded (worded dt dp) unworded k n t u i j fs bs e h l = absurd (let rest : bs ≡ word w.Readonly dt dp ∷ word k t i ∷ fs = cc in apart is_marked rest l refl)
head_one (worded aw ap) unworded (worded dt dp) (worded ft fp) k n t u i j fs bs e h l = absurd (let rest : bs ≡ word k t i ∷ fs = cc in apart is_marked rest l refl)
head_one (worded aw ap) (worded bt bp) unworded unworded k n t u i j fs bs e h l = record { statics = refl; read_only = refl; kinds = cc; names = cc; places = cc; rest = cc }
head_one (worded aw ap) (worded bt bp) unworded (worded ft fp) k n t u i j fs bs e h l = absurd (let rest : fs ≡ word n u j ∷ bs = cc in apart is_marked rest h refl)
head_one (worded aw ap) (worded bt bp) (worded dt dp) unworded k n t u i j fs bs e h l = absurd (let rest : bs ≡ word k t i ∷ fs = cc in apart is_marked rest l refl)
head_one (worded aw ap) (worded bt bp) (worded dt dp) (worded ft fp) k n t u i j fs bs e h l = record { statics = refl; read_only = refl; kinds = cc; names = cc; places = cc; rest = cc }

-- ---- members

question_marked : {a : List Sym} {x : Bool} → IsMarked m.Question a x → (k : MarkKind) (i : ℕ) (zs : List Sym) → is_marked (a ++ Mark k i ∷ zs) ≡ true
question_marked unmarked k i zs = refl
question_marked (marked at) k i zs = refl

-- the parts of a field and of a method
field_parts : (xs ys : List Sym) (s : Sym) (zs vs : List Sym) (i : ℕ) (fs : List Sym) → xs ++ ys ++ s ∷ zs ++ vs ++ Mark m.Semicolon i ∷ [] ++ fs ≡ xs ++ (ys ++ s ∷ (zs ++ (vs ++ Mark m.Semicolon i ∷ fs)))
field_parts xs ys s zs vs i fs =
    append_assoc (xs ++ ys ++ s ∷ zs ++ vs) (Mark m.Semicolon i ∷ []) fs
    ∙ (append_assoc (xs ++ ys ++ s ∷ zs) vs (Mark m.Semicolon i ∷ fs) ∙ (append_assoc (xs ++ ys) (s ∷ zs) (vs ++ Mark m.Semicolon i ∷ fs) ∙ append_assoc xs ys (s ∷ (zs ++ (vs ++ Mark m.Semicolon i ∷ fs)))))

method_parts : (xs : List Sym) (s : Sym) (ys zs : List Sym) (i : ℕ) (fs : List Sym) → xs ++ s ∷ ys ++ zs ++ Mark m.Semicolon i ∷ [] ++ fs ≡ xs ++ s ∷ (ys ++ (zs ++ Mark m.Semicolon i ∷ fs))
method_parts xs s ys zs i fs =
    append_assoc (xs ++ s ∷ ys ++ zs) (Mark m.Semicolon i ∷ []) fs ∙ (append_assoc (xs ++ s ∷ ys) zs (Mark m.Semicolon i ∷ fs) ∙ append_assoc xs (s ∷ ys) (zs ++ Mark m.Semicolon i ∷ fs))

signature_opens : {a : List Sym} {of : List TypeParam} {d : ℕ} → IsSignature a of d → (zs : List Sym) → is_marked (a ++ zs) ≡ true
signature_opens (surfaces.signature o p q h) zs = refl

no_constructor : (k : Word) → is_member_name k ≡ true → k ≡ w.Constructor → ⊥
no_constructor k h e = let no : true ≡ false = sym h ∙ ap is_member_name e in cc

member_word : {built : Bool} {a : List Sym} {of : DeclaredMember} {d : ℕ} → IsDeclaredMember built a of d → (zs : List Sym) → closes_body (a ++ zs) ≡ false
member_word (surfaces.declared_field kind spelled at i unworded unworded h q t) zs = refl
member_word (surfaces.declared_field kind spelled at i (worded s p) r h q t) zs = refl
member_word (surfaces.declared_field kind spelled at i unworded (worded s p) h q t) zs = refl
member_word (surfaces.declared_constructor spelled at i q) zs = refl
member_word (surfaces.declared_method kind spelled at i unworded h q t) zs = refl
member_word (surfaces.declared_method kind spelled at i (worded s p) h q t) zs = refl

same_field : {a u : ℕ} {b v c w : Bool} {d x : List ℕ} {e y : Bool} {f z : TypeExpr} → a ≡ u → b ≡ v → c ≡ w → d ≡ x → e ≡ y → f ≡ z → declared_member.Field a b c d e f ≡ declared_member.Field u v w x y z
same_field {a = a} {b = b} {v = v} {w = w} {x = x} {y = y} {z = z} h i j k l n =
    ap_four (λ o p q r. declared_member.Field a b o p q r) j k l n ∙ ap_both (λ o p. declared_member.Field o p w x y z) h i

same_method : {a u : ℕ} {b v : Bool} {c w : List ℕ} {d x : List TypeParam} {e y : TypeExpr} → a ≡ u → b ≡ v → c ≡ w → d ≡ x → e ≡ y → declared_member.Method a b c d e ≡ declared_member.Method u v w x y
same_method {a = a} {v = v} {w = w} {x = x} {y = y} h i j k l = ap_four (λ o p q r. declared_member.Method a o p q r) i j k l ∙ ap (λ o. declared_member.Method o v w x y) h

member_one : {built other_built : Bool} {a b : List Sym} {of other : DeclaredMember} {d e : ℕ} → IsDeclaredMember built a of d → IsDeclaredMember other_built b other e → (fs bs : List Sym) → a ++ fs ≡ b ++ bs → (of ≡ other) × (fs ≡ bs)
member_one (surfaces.declared_field k t i o {xs = xs} {ys = ys} {zs = zs} s r h q (types.shape colon {xs = vs} p g)) (surfaces.declared_field n u j f {xs = ls} {ys = ds} {zs = gs} a b l v (types.shape place {xs = us} z y)) fs bs e =
    let whole = sym (field_parts xs ys (word k t i) zs (Mark m.Colon colon ∷ vs) o fs) ∙ (e ∙ field_parts ls ds (word n u j) gs (Mark m.Colon place ∷ us) f bs) in
    let head = head_one s a r b k n t u i j (zs ++ (Mark m.Colon colon ∷ vs ++ Mark m.Semicolon o ∷ fs)) (gs ++ (Mark m.Colon place ∷ us ++ Mark m.Semicolon f ∷ bs)) whole
    (question_marked q m.Colon colon (vs ++ Mark m.Semicolon o ∷ fs)) (question_marked v m.Colon place (us ++ Mark m.Semicolon f ∷ bs)) in
    let question = question_one q v m.Colon m.Colon colon place (vs ++ Mark m.Semicolon o ∷ fs) (us ++ Mark m.Semicolon f ∷ bs) head.rest no_colon no_colon in
    let typed = shape_one (types.shape colon p g) (types.shape place z y) (Mark m.Semicolon o ∷ fs) (Mark m.Semicolon f ∷ bs) question.1 refl refl in
    let after = typed.1 in
    (same_field head.places head.statics head.read_only head.names question.0 typed.0, cc after)
member_one (surfaces.declared_field k t i o {xs = xs} {ys = ys} {zs = zs} s r h q (types.shape colon {xs = vs} p g)) (surfaces.declared_method n u j f {xs = ls} {zs = us} a l (surfaces.signature x y {xs = gs} z b) v) fs bs e =
    let whole = sym (field_parts xs ys (word k t i) zs (Mark m.Colon colon ∷ vs) o fs) ∙ (e ∙ method_parts ls (word n u j) (Mark m.OpenParen x ∷ gs ++ Mark m.CloseParen y ∷ []) us f bs) in
    let head = head_one s a r unworded k n t u i j (zs ++ (Mark m.Colon colon ∷ vs ++ Mark m.Semicolon o ∷ fs)) (Mark m.OpenParen x ∷ gs ++ Mark m.CloseParen y ∷ [] ++ (us ++ Mark m.Semicolon f ∷ bs)) whole
    (question_marked q m.Colon colon (vs ++ Mark m.Semicolon o ∷ fs)) refl in
    let question = question_one q unmarked m.Colon m.OpenParen colon x (vs ++ Mark m.Semicolon o ∷ fs) (gs ++ Mark m.CloseParen y ∷ [] ++ (us ++ Mark m.Semicolon f ∷ bs)) head.rest no_colon no_open in
    let after = question.1 in
    absurd (cc after)
member_one (surfaces.declared_method n u j f {xs = ls} {zs = us} a l (surfaces.signature x y {xs = gs} z b) v) (surfaces.declared_field k t i o {xs = xs} {ys = ys} {zs = zs} s r h q (types.shape colon {xs = vs} p g)) bs fs e =
    let whole = sym (field_parts xs ys (word k t i) zs (Mark m.Colon colon ∷ vs) o fs) ∙ (sym e ∙ method_parts ls (word n u j) (Mark m.OpenParen x ∷ gs ++ Mark m.CloseParen y ∷ []) us f bs) in
    let head = head_one s a r unworded k n t u i j (zs ++ (Mark m.Colon colon ∷ vs ++ Mark m.Semicolon o ∷ fs)) (Mark m.OpenParen x ∷ gs ++ Mark m.CloseParen y ∷ [] ++ (us ++ Mark m.Semicolon f ∷ bs)) whole
    (question_marked q m.Colon colon (vs ++ Mark m.Semicolon o ∷ fs)) refl in
    let question = question_one q unmarked m.Colon m.OpenParen colon x (vs ++ Mark m.Semicolon o ∷ fs) (gs ++ Mark m.CloseParen y ∷ [] ++ (us ++ Mark m.Semicolon f ∷ bs)) head.rest no_colon no_open in
    let after = question.1 in
    absurd (cc after)
member_one (surfaces.declared_field k t i o {xs = xs} {ys = ys} {zs = zs} s r h q (types.shape colon {xs = vs} p g)) (surfaces.declared_constructor u j f {xs = gs} z) fs bs e =
    let whole = sym (field_parts xs ys (word k t i) zs (Mark m.Colon colon ∷ vs) o fs) ∙ (e ∙ append_assoc (word w.Constructor u j ∷ gs) (Mark m.Semicolon f ∷ []) bs) in
    let head = head_one s unworded r unworded k w.Constructor t u i j (zs ++ (Mark m.Colon colon ∷ vs ++ Mark m.Semicolon o ∷ fs)) (gs ++ Mark m.Semicolon f ∷ bs) whole
    (question_marked q m.Colon colon (vs ++ Mark m.Semicolon o ∷ fs)) (signature_opens z (Mark m.Semicolon f ∷ bs)) in
    absurd (no_constructor k h head.kinds)
member_one (surfaces.declared_constructor u j f {xs = gs} z) (surfaces.declared_field k t i o {xs = xs} {ys = ys} {zs = zs} s r h q (types.shape colon {xs = vs} p g)) bs fs e =
    let whole = sym (field_parts xs ys (word k t i) zs (Mark m.Colon colon ∷ vs) o fs) ∙ (sym e ∙ append_assoc (word w.Constructor u j ∷ gs) (Mark m.Semicolon f ∷ []) bs) in
    let head = head_one s unworded r unworded k w.Constructor t u i j (zs ++ (Mark m.Colon colon ∷ vs ++ Mark m.Semicolon o ∷ fs)) (gs ++ Mark m.Semicolon f ∷ bs) whole
    (question_marked q m.Colon colon (vs ++ Mark m.Semicolon o ∷ fs)) (signature_opens z (Mark m.Semicolon f ∷ bs)) in
    absurd (no_constructor k h head.kinds)
member_one (surfaces.declared_method n u j f {xs = xs} {ys = ys} {zs = us} a l p v) (surfaces.declared_constructor t i o {xs = gs} z) fs bs e =
    let whole = sym (method_parts xs (word n u j) ys us f fs) ∙ (e ∙ append_assoc (word w.Constructor t i ∷ gs) (Mark m.Semicolon o ∷ []) bs) in
    let head = head_one a unworded unworded unworded n w.Constructor u t j i (ys ++ (us ++ Mark m.Semicolon f ∷ fs)) (gs ++ Mark m.Semicolon o ∷ bs) whole (signature_opens p _) (signature_opens z _) in
    absurd (no_constructor n l head.kinds)
member_one (surfaces.declared_constructor t i o {xs = gs} z) (surfaces.declared_method n u j f {xs = xs} {ys = ys} {zs = us} a l p v) bs fs e =
    let whole = sym (method_parts xs (word n u j) ys us f fs) ∙ (sym e ∙ append_assoc (word w.Constructor t i ∷ gs) (Mark m.Semicolon o ∷ []) bs) in
    let head = head_one a unworded unworded unworded n w.Constructor u t j i (ys ++ (us ++ Mark m.Semicolon f ∷ fs)) (gs ++ Mark m.Semicolon o ∷ bs) whole (signature_opens p _) (signature_opens z _) in
    absurd (no_constructor n l head.kinds)
member_one (surfaces.declared_constructor t i o {xs = xs} z) (surfaces.declared_constructor u j f {xs = ys} p) fs bs e =
    let begins : i ≡ j = cc in
    let inner : xs ++ Mark m.Semicolon o ∷ [] ++ fs ≡ ys ++ Mark m.Semicolon f ∷ [] ++ bs = cc in
    let params = signature_one z p (Mark m.Semicolon o ∷ fs) (Mark m.Semicolon f ∷ bs) (parted xs (Mark m.Semicolon o ∷ []) fs ys (Mark m.Semicolon f ∷ []) bs inner) in
    let after = params.1 in
    (ap_both (λ v u. declared_member.Constructor v u) begins params.0, cc after)
member_one (surfaces.declared_method k t i o {xs = xs} {ys = ys} {zs = zs} s h q r) (surfaces.declared_method n u j f {xs = ls} {ys = ds} {zs = gs} a l v z) fs bs e =
    let whole = sym (method_parts xs (word k t i) ys zs o fs) ∙ (e ∙ method_parts ls (word n u j) ds gs f bs) in
    let head = head_one s a unworded unworded k n t u i j (ys ++ (zs ++ Mark m.Semicolon o ∷ fs)) (ds ++ (gs ++ Mark m.Semicolon f ∷ bs)) whole (signature_opens q _) (signature_opens v _) in
    let params = signature_one q v (zs ++ Mark m.Semicolon o ∷ fs) (gs ++ Mark m.Semicolon f ∷ bs) head.rest in
    let typed = shape_one r z (Mark m.Semicolon o ∷ fs) (Mark m.Semicolon f ∷ bs) params.1 refl refl in
    let after = typed.1 in
    (same_method head.places head.statics head.names params.0 typed.0, cc after)

members_one : {built other_built : Bool} {a b : List Sym} {of other : List DeclaredMember} {d e : ℕ} → IsDeclaredMembers built a of d → IsDeclaredMembers other_built b other e → (fs bs : List Sym) → a ++ fs ≡ b ++ bs
    → closes_body fs ≡ true → closes_body bs ≡ true → of ≡ other
members_one surfaces.no_declared_members surfaces.no_declared_members fs bs e h l = refl
members_one surfaces.no_declared_members (surfaces.more_declared_members {xs = xs} {ys = ys} q r n) fs bs e h l = absurd (apart closes_body (e ∙ append_assoc xs ys bs) h (member_word q (ys ++ bs)))
members_one (surfaces.more_declared_members {xs = xs} {ys = ys} q r n) surfaces.no_declared_members fs bs e h l = absurd (apart closes_body (sym e ∙ append_assoc xs ys fs) l (member_word q (ys ++ fs)))
members_one (surfaces.more_declared_members {xs = xs} {ys = ys} q r n) (surfaces.more_declared_members {xs = us} {ys = vs} s t k) fs bs e h l =
    let first = member_one q s (ys ++ fs) (vs ++ bs) (parted xs ys fs us vs bs e) in
    ap_both (λ v u. v ∷ u) first.0 (members_one r t fs bs first.1 h l)

-- ---- declarations

no_kind : {kind : VarKind} (k n : Word) → kind_of k ≡ Some kind → k ≡ n → kind_of n ≡ None → ⊥
no_kind {kind = kind} k n h e l = let no : Some kind ≡ None = sym h ∙ (ap kind_of e ∙ l) in cc

declared_one : {a b : List Sym} {of other : Declared} {d e : ℕ} → IsDeclared a of d → IsDeclared b other e → a ≡ b → of ≡ other
declared_one (surfaces.declared_variable {word_kind = k} {kind = kind} s i t at o {xs = xs} h l q) (surfaces.declared_variable {word_kind = n} {kind = other} u j v place f {xs = ys} a b r) e =
    let word_same : k ≡ n = cc in
    let kinds : Some kind ≡ Some other = sym h ∙ (ap kind_of word_same ∙ a) in
    let kind_same : kind ≡ other = cc kinds in
    let begins : at ≡ place = cc in
    let name : t ≡ v = cc in
    let inner : xs ++ Mark m.Semicolon o ∷ [] ≡ ys ++ Mark m.Semicolon f ∷ [] = cc in
    let typed = shape_one q r (Mark m.Semicolon o ∷ []) (Mark m.Semicolon f ∷ []) inner refl refl in
    ap_four (λ g x y z. declared.Variable g x y z) begins kind_same name typed.0
declared_one (surfaces.declared_function s i t at o {xs = xs} {ys = ys} h q r) (surfaces.declared_function u j v place f {xs = us} {ys = vs} a b z) e =
    let begins : at ≡ place = cc in
    let name : t ≡ v = cc in
    let inner : xs ++ ys ++ Mark m.Semicolon o ∷ [] ≡ us ++ vs ++ Mark m.Semicolon f ∷ [] = cc in
    let params = signature_one q b (ys ++ Mark m.Semicolon o ∷ []) (vs ++ Mark m.Semicolon f ∷ []) (parted xs ys (Mark m.Semicolon o ∷ []) us vs (Mark m.Semicolon f ∷ []) inner) in
    let typed = shape_one r z (Mark m.Semicolon o ∷ []) (Mark m.Semicolon f ∷ []) params.1 refl refl in
    ap_four (λ g x y w. declared.Function g x [] y w) begins name params.0 typed.0
declared_one (surfaces.declared_class s i t at o p {xs = xs} {ys = ys} h q r) (surfaces.declared_class u j v place f g {xs = us} {ys = vs} a b z) e =
    let begins : at ≡ place = cc in
    let name : t ≡ v = cc in
    let inner : xs ++ Mark m.OpenBrace o ∷ ys ++ Mark m.CloseBrace p ∷ [] ≡ us ++ Mark m.OpenBrace f ∷ vs ++ Mark m.CloseBrace g ∷ [] = cc in
    let bases = bases_one q b (Mark m.OpenBrace o ∷ ys ++ Mark m.CloseBrace p ∷ []) (Mark m.OpenBrace f ∷ vs ++ Mark m.CloseBrace g ∷ [])
    (parted xs (Mark m.OpenBrace o ∷ ys) (Mark m.CloseBrace p ∷ []) us (Mark m.OpenBrace f ∷ vs) (Mark m.CloseBrace g ∷ []) inner) refl refl in
    let after = bases.1 in
    let opened : ys ++ Mark m.CloseBrace p ∷ [] ≡ vs ++ Mark m.CloseBrace g ∷ [] = cc after in
    let members = members_one r z (Mark m.CloseBrace p ∷ []) (Mark m.CloseBrace g ∷ []) opened refl refl in
    ap_four (λ v u n o. declared.Class (record { at = v; name = u; implements = n; members = o })) begins name bases.0 members
declared_one (surfaces.declared_interface q) (surfaces.declared_interface r) e = ap (λ v. declared.Interface v) (interface_one q r e)
declared_one (surfaces.declared_alias q) (surfaces.declared_alias r) e = ap (λ v. declared.Alias v) (alias_one q r e)
declared_one (surfaces.declared_variable {word_kind = k1} s1 i1 t1 at1 o1 h1 l1 q1) (surfaces.declared_function s2 i2 t2 at2 o2 h2 q2 r2) e = absurd (let same : k1 ≡ w.Function = cc in no_kind k1 w.Function h1 same refl)
declared_one (surfaces.declared_variable {word_kind = k1} s1 i1 t1 at1 o1 h1 l1 q1) (surfaces.declared_class s2 i2 t2 at2 o2 p2 h2 q2 r2) e = absurd (let same : k1 ≡ w.Class = cc in no_kind k1 w.Class h1 same refl)
declared_one (surfaces.declared_variable {word_kind = k1} s1 i1 t1 at1 o1 h1 l1 q1) (surfaces.declared_interface (grammar.interface s2 i2 t2 at2 o2 p2 h2 q2 r2 l2)) e = absurd (let same : k1 ≡ w.Interface = cc in no_kind k1 w.Interface h1 same refl)
declared_one (surfaces.declared_variable {word_kind = k1} s1 i1 t1 at1 o1 h1 l1 q1) (surfaces.declared_alias (grammar.alias s2 i2 t2 at2 o2 p2 h2 q2 l2)) e = absurd (let same : k1 ≡ w.Type = cc in no_kind k1 w.Type h1 same refl)
declared_one (surfaces.declared_function s1 i1 t1 at1 o1 h1 q1 r1) (surfaces.declared_variable {word_kind = k2} s2 i2 t2 at2 o2 h2 l2 q2) e = absurd (let same : k2 ≡ w.Function = cc in no_kind k2 w.Function h2 same refl)
declared_one (surfaces.declared_function s1 i1 t1 at1 o1 h1 q1 r1) (surfaces.declared_class s2 i2 t2 at2 o2 p2 h2 q2 r2) e = absurd (cc e)
declared_one (surfaces.declared_function s1 i1 t1 at1 o1 h1 q1 r1) (surfaces.declared_interface (grammar.interface s2 i2 t2 at2 o2 p2 h2 q2 r2 l2)) e = absurd (cc e)
declared_one (surfaces.declared_function s1 i1 t1 at1 o1 h1 q1 r1) (surfaces.declared_alias (grammar.alias s2 i2 t2 at2 o2 p2 h2 q2 l2)) e = absurd (cc e)
declared_one (surfaces.declared_class s1 i1 t1 at1 o1 p1 h1 q1 r1) (surfaces.declared_variable {word_kind = k2} s2 i2 t2 at2 o2 h2 l2 q2) e = absurd (let same : k2 ≡ w.Class = cc in no_kind k2 w.Class h2 same refl)
declared_one (surfaces.declared_class s1 i1 t1 at1 o1 p1 h1 q1 r1) (surfaces.declared_function s2 i2 t2 at2 o2 h2 q2 r2) e = absurd (cc e)
declared_one (surfaces.declared_class s1 i1 t1 at1 o1 p1 h1 q1 r1) (surfaces.declared_interface (grammar.interface s2 i2 t2 at2 o2 p2 h2 q2 r2 l2)) e = absurd (cc e)
declared_one (surfaces.declared_class s1 i1 t1 at1 o1 p1 h1 q1 r1) (surfaces.declared_alias (grammar.alias s2 i2 t2 at2 o2 p2 h2 q2 l2)) e = absurd (cc e)
declared_one (surfaces.declared_interface (grammar.interface s1 i1 t1 at1 o1 p1 h1 q1 r1 l1)) (surfaces.declared_variable {word_kind = k2} s2 i2 t2 at2 o2 h2 l2 q2) e = absurd (let same : k2 ≡ w.Interface = cc in no_kind k2 w.Interface h2 same refl)
declared_one (surfaces.declared_interface (grammar.interface s1 i1 t1 at1 o1 p1 h1 q1 r1 l1)) (surfaces.declared_function s2 i2 t2 at2 o2 h2 q2 r2) e = absurd (cc e)
declared_one (surfaces.declared_interface (grammar.interface s1 i1 t1 at1 o1 p1 h1 q1 r1 l1)) (surfaces.declared_class s2 i2 t2 at2 o2 p2 h2 q2 r2) e = absurd (cc e)
declared_one (surfaces.declared_interface (grammar.interface s1 i1 t1 at1 o1 p1 h1 q1 r1 l1)) (surfaces.declared_alias (grammar.alias s2 i2 t2 at2 o2 p2 h2 q2 l2)) e = absurd (cc e)
declared_one (surfaces.declared_alias (grammar.alias s1 i1 t1 at1 o1 p1 h1 q1 l1)) (surfaces.declared_variable {word_kind = k2} s2 i2 t2 at2 o2 h2 l2 q2) e = absurd (let same : k2 ≡ w.Type = cc in no_kind k2 w.Type h2 same refl)
declared_one (surfaces.declared_alias (grammar.alias s1 i1 t1 at1 o1 p1 h1 q1 l1)) (surfaces.declared_function s2 i2 t2 at2 o2 h2 q2 r2) e = absurd (cc e)
declared_one (surfaces.declared_alias (grammar.alias s1 i1 t1 at1 o1 p1 h1 q1 l1)) (surfaces.declared_class s2 i2 t2 at2 o2 p2 h2 q2 r2) e = absurd (cc e)
declared_one (surfaces.declared_alias (grammar.alias s1 i1 t1 at1 o1 p1 h1 q1 l1)) (surfaces.declared_interface (grammar.interface s2 i2 t2 at2 o2 p2 h2 q2 r2 l2)) e = absurd (cc e)

-- ---- items

-- with which words declarations begin
abbrev begins_declared : Word → Bool
begins_declared w.Const = true
begins_declared w.Let = true
begins_declared w.Function = true
begins_declared w.Class = true
begins_declared w.Interface = true
begins_declared w.Type = true
begins_declared _ = false

abbrev is_declared : List Sym → Bool
is_declared (Lex (c.Word kind) spelled at ∷ zs) = begins_declared kind
is_declared _ = false

kind_begins : (k : Word) {kind : VarKind} → kind_of k ≡ Some kind → begins_declared k ≡ true
kind_begins w.Const e = refl
kind_begins w.Let e = refl
kind_begins _ e = absurd (cc e)

declared_begins : {a : List Sym} {of : Declared} {d : ℕ} → IsDeclared a of d → is_declared a ≡ true
declared_begins (surfaces.declared_variable {word_kind = k} s i t at o h l q) = kind_begins k h
declared_begins (surfaces.declared_function s i t at o h q r) = refl
declared_begins (surfaces.declared_class s i t at o p h q r) = refl
declared_begins (surfaces.declared_interface (grammar.interface s i t at o p h q r l)) = refl
declared_begins (surfaces.declared_alias (grammar.alias s i t at o p h q l)) = refl

-- a declaration is no list: `{`, or `type` and `{`
abbrev is_braced : List Sym → Bool
is_braced (Mark m.OpenBrace at ∷ zs) = true
is_braced (Lex (c.Word w.Type) spelled at ∷ Mark m.OpenBrace place ∷ zs) = true
is_braced _ = false

kind_not_braced : (k : Word) {kind : VarKind} (s t : List ℕ) (i j : ℕ) (n : Word) (zs : List Sym) → kind_of k ≡ Some kind → is_braced (word k s i ∷ word n t j ∷ zs) ≡ false
kind_not_braced w.Const s t i j n zs e = refl
kind_not_braced w.Let s t i j n zs e = refl
kind_not_braced _ s t i j n zs e = absurd (cc e)

declared_not_braced : {a : List Sym} {of : Declared} {d : ℕ} → IsDeclared a of d → is_braced a ≡ false
declared_not_braced (surfaces.declared_variable {word_kind = k} {name_kind = n} s i t at o {xs = xs} h l q) = kind_not_braced k s t i at n (xs ++ Mark m.Semicolon o ∷ []) h
declared_not_braced (surfaces.declared_function s i t at o h q r) = refl
declared_not_braced (surfaces.declared_class s i t at o p h q r) = refl
declared_not_braced (surfaces.declared_interface (grammar.interface s i t at o p h q r l)) = refl
declared_not_braced (surfaces.declared_alias (grammar.alias s i t at o p h q l)) = refl

-- what stands behind the `export` of a list
braced_tail : {b : List Sym} {p n i : ℕ} {t s : List ℕ} (rest : List Sym) → word w.Export t n ∷ Mark m.OpenBrace p ∷ b ≡ word w.Export s i ∷ rest → is_braced rest ≡ true
braced_tail {b = b} {p = p} rest e = let same : Mark m.OpenBrace p ∷ b ≡ rest = cc in sym (ap is_braced same)

typed_tail : {b : List Sym} {p n i j : ℕ} {t s u : List ℕ} (rest : List Sym) → word w.Export t n ∷ word w.Type u j ∷ Mark m.OpenBrace p ∷ b ≡ word w.Export s i ∷ rest → is_braced rest ≡ true
typed_tail {b = b} {p = p} {j = j} {u = u} rest e = let same : word w.Type u j ∷ Mark m.OpenBrace p ∷ b ≡ rest = cc in sym (ap is_braced same)

braced_list : {a : List Sym} {of : ExportList} → IsExportList a of → (rest : List Sym) (s : List ℕ) (i : ℕ) → a ≡ word w.Export s i ∷ rest → is_braced rest ≡ true
braced_list (grammar.export_list spelled at o unworded (grammar.specs j k q)) rest s i e = braced_tail rest e
braced_list (grammar.export_list spelled at o (worded u n) (grammar.specs j k q)) rest s i e = typed_tail rest e
braced_list (grammar.export_from spelled at o unworded (grammar.specs j k q) f) rest s i e = braced_tail rest e
braced_list (grammar.export_from spelled at o (worded u n) (grammar.specs j k q) f) rest s i e = typed_tail rest e

list_begins : {a : List Sym} {of : ExportList} → IsExportList a of → is_declared a ≡ false
list_begins (grammar.export_list spelled at o t s) = refl
list_begins (grammar.export_from spelled at o t s f) = refl

import_begins : {a : List Sym} {of : Import} → IsImport a of → is_declared a ≡ false
import_begins (grammar.import_list spelled at o t s q) = refl
import_begins (grammar.import_bare spelled at from_text from_at o) = refl

import_no_list : {a b : List Sym} {of : Import} {other : ExportList} → IsImport a of → IsExportList b other → a ≡ b → ⊥
import_no_list (grammar.import_list s i o t p q) (grammar.export_list u j f v r) e = cc
import_no_list (grammar.import_list s i o t p q) (grammar.export_from u j f v r n) e = cc
import_no_list (grammar.import_bare s i t j o) (grammar.export_list u k f v r) e = cc
import_no_list (grammar.import_bare s i t j o) (grammar.export_from u k f v r n) e = cc

list_no_declared : {a x y b : List Sym} {of : ExportList} {other : Declared} {s t : Bool} {d : ℕ} → IsExportList a of → IsWorded w.Export x s → IsWorded w.Declare y t → IsDeclared b other d → a ≡ x ++ y ++ b → ⊥
list_no_declared q unworded unworded r e = apart is_declared (sym e) (declared_begins r) (list_begins q)
list_no_declared (grammar.export_list spelled at o t s) unworded (worded u i) r e = cc
list_no_declared (grammar.export_from spelled at o t s f) unworded (worded u i) r e = cc
list_no_declared {b = b} q (worded u i) unworded r e = let braced = braced_list q b u i e in let no : true ≡ false = sym braced ∙ declared_not_braced r in cc
list_no_declared {b = b} q (worded u i) (worded v j) r e = let braced = braced_list q (word w.Declare v j ∷ b) u i e in let no : true ≡ false = sym braced in cc

import_no_declared : {a x y b : List Sym} {of : Import} {other : Declared} {s t : Bool} {d : ℕ} → IsImport a of → IsWorded w.Export x s → IsWorded w.Declare y t → IsDeclared b other d → a ≡ x ++ y ++ b → ⊥
import_no_declared q unworded unworded r e = apart is_declared (sym e) (declared_begins r) (import_begins q)
import_no_declared (grammar.import_list s i o t p q) (worded u k) y r e = cc
import_no_declared (grammar.import_list s i o t p q) unworded (worded u k) r e = cc
import_no_declared (grammar.import_bare s i t j o) (worded u k) y r e = cc
import_no_declared (grammar.import_bare s i t j o) unworded (worded u k) r e = cc

-- `export` and `declare` before a declaration
modified_one : {a b d f x y : List Sym} {s r t u : Bool} {of other : Declared} {i j : ℕ} → IsWorded w.Export a s → IsWorded w.Export b r → IsWorded w.Declare d t → IsWorded w.Declare f u → IsDeclared x of i → IsDeclared y other j
    → a ++ d ++ x ≡ b ++ f ++ y → (s ≡ r) × (of ≡ other)
modified_one {x = x} {y = y} unworded unworded unworded unworded p q e = (refl, declared_one p q e)
modified_one {x = x} {y = y} unworded unworded unworded (worded ft fp) p q e = absurd (let rest : x ≡ word w.Declare ft fp ∷ y = e in apart is_declared rest (declared_begins p) refl)
modified_one {x = x} {y = y} unworded unworded (worded dt dp) unworded p q e = absurd (let rest : y ≡ word w.Declare dt dp ∷ x = sym e in apart is_declared rest (declared_begins q) refl)
modified_one {x = x} {y = y} unworded unworded (worded dt dp) (worded ft fp) p q e = let rest : x ≡ y = cc in (refl, declared_one p q rest)
modified_one {x = x} {y = y} unworded (worded bt bp) unworded unworded p q e = absurd (let rest : x ≡ word w.Export bt bp ∷ y = e in apart is_declared rest (declared_begins p) refl)
modified_one {x = x} {y = y} unworded (worded bt bp) unworded (worded ft fp) p q e = absurd (let rest : x ≡ word w.Export bt bp ∷ word w.Declare ft fp ∷ y = e in apart is_declared rest (declared_begins p) refl)
modified_one {x = x} {y = y} unworded (worded bt bp) (worded dt dp) unworded p q e = absurd (cc e)
modified_one {x = x} {y = y} unworded (worded bt bp) (worded dt dp) (worded ft fp) p q e = absurd (let rest : x ≡ word w.Declare ft fp ∷ y = cc in apart is_declared rest (declared_begins p) refl)
modified_one {x = x} {y = y} (worded aw ap) unworded unworded unworded p q e = absurd (let rest : y ≡ word w.Export aw ap ∷ x = sym e in apart is_declared rest (declared_begins q) refl)
modified_one {x = x} {y = y} (worded aw ap) unworded unworded (worded ft fp) p q e = absurd (cc e)
modified_one {x = x} {y = y} (worded aw ap) unworded (worded dt dp) unworded p q e = absurd (let rest : y ≡ word w.Export aw ap ∷ word w.Declare dt dp ∷ x = sym e in apart is_declared rest (declared_begins q) refl)
modified_one {x = x} {y = y} (worded aw ap) unworded (worded dt dp) (worded ft fp) p q e = absurd (let rest : y ≡ word w.Declare dt dp ∷ x = cc in apart is_declared rest (declared_begins q) refl)
modified_one {x = x} {y = y} (worded aw ap) (worded bt bp) unworded unworded p q e = let rest : x ≡ y = cc in (refl, declared_one p q rest)
modified_one {x = x} {y = y} (worded aw ap) (worded bt bp) unworded (worded ft fp) p q e = absurd (let rest : x ≡ word w.Declare ft fp ∷ y = cc in apart is_declared rest (declared_begins p) refl)
modified_one {x = x} {y = y} (worded aw ap) (worded bt bp) (worded dt dp) unworded p q e = absurd (let rest : y ≡ word w.Declare dt dp ∷ x = cc in apart is_declared rest (declared_begins q) refl)
modified_one {x = x} {y = y} (worded aw ap) (worded bt bp) (worded dt dp) (worded ft fp) p q e = let rest : x ≡ y = cc in (refl, declared_one p q rest)

pub item_one : {a b : List Sym} {of other : List SurfaceItem} {d e : ℕ} → IsDeclItem a of d → IsDeclItem b other e → a ≡ b → of ≡ other
item_one (surfaces.declared_import q) (surfaces.declared_import r) e = ap (λ v. surface_item.Import v ∷ []) (import_one q r e)
item_one (surfaces.declared_list q) (surfaces.declared_list r) e = ap (λ v. kept v) (list_one q r e)
item_one (surfaces.declared_item i j q) (surfaces.declared_item k n r) e = let same = modified_one i k j n q r e in ap_both (λ v u. surface_item.Declaration v u ∷ []) same.0 same.1
item_one (surfaces.declared_import q) (surfaces.declared_list r) e = absurd (import_no_list q r e)
item_one (surfaces.declared_list r) (surfaces.declared_import q) e = absurd (import_no_list q r (sym e))
item_one (surfaces.declared_import q) (surfaces.declared_item i j r) e = absurd (import_no_declared q i j r e)
item_one (surfaces.declared_item i j r) (surfaces.declared_import q) e = absurd (import_no_declared q i j r (sym e))
item_one (surfaces.declared_list q) (surfaces.declared_item i j r) e = absurd (list_no_declared q i j r e)
item_one (surfaces.declared_item i j r) (surfaces.declared_list q) e = absurd (list_no_declared q i j r (sym e))
