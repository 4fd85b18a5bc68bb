-- Symbols are one item of a declaration file at most.
use Rattle.std.proofs.Common.{◌≡◌, ℕ, Bool, true, false, List, [], ◌∷◌, ◌++◌, Some, None, refl, sym, ap, ◌∙◌, append_assoc}
use Rattle.tb_tree.specs.declared.marks.Mark.TheVariants as m
use Rattle.tb_tree.specs.declared.words.Class.TheVariants as c
use Rattle.tb_tree.specs.declared.words.Word.{Word}
use Rattle.tb_tree.specs.declared.words.Word.TheVariants as w
use Rattle.tb_tree.specs.declared.types.TypeExpr.{TypeExpr}
use Rattle.tb_tree.specs.declared.types.TypeParam.{TypeParam}
use Rattle.tb_tree.specs.declared.items.Specifier.{Specifier}
use Rattle.tb_tree.specs.declared.items.Spec.{Spec}
use Rattle.tb_tree.specs.declared.items.Import.{Import}
use Rattle.tb_tree.specs.declared.items.Import.TheVariants as import_form
use Rattle.tb_tree.specs.declared.items.ExportList.{ExportList}
use Rattle.tb_tree.specs.declared.items.Base.{Base}
use Rattle.tb_tree.specs.declared.items.Interface.{Interface}
use Rattle.tb_tree.specs.declared.items.Alias.{Alias}
use Rattle.tb_tree.specs.Sym.{Sym, Mark, Lex}
use Rattle.tb_tree.specs.Shapes.{word, IsWorded, unworded, worded, IsListed, none_listed, last_listed, more_listed, IsJoined, last_joined, more_joined}
use Rattle.tb_tree.specs.Types as types
use Rattle.tb_tree.specs.Types.{IsShape}
use Rattle.tb_tree.specs.Items as grammar
use Rattle.tb_tree.specs.Items.{IsSpec, IsSpecs, IsFrom, IsImport, IsExportList, IsBase, IsBases, IsInterface, IsAlias, identifier}
use Rattle.tb_tree.specs.Surfaces as surfaces
use Rattle.tb_tree.specs.Surfaces.{IsSignature}
use Rattle.tb_tree.proofs.Ends.{ap_both, append_three}
use Rattle.tb_emit_law.proofs.Back.{ap_three, ap_four}
use Rattle.tb_emit_law.proofs.DeclOneType.{ends_type, closes_body, apart, parted}
use Rattle.tb_emit_law.proofs.DeclOne.{type_one, params_one, members_one}

-- ---- what follows

abbrev pub is_marked : List Sym → Bool
is_marked (Mark kind at ∷ zs) = true
is_marked _ = false

abbrev opens_body : List Sym → Bool
opens_body (Mark m.OpenBrace at ∷ zs) = true
opens_body _ = false

-- ---- imports and export lists

spec_no_close : {local : Word → Word → Bool} {typed : Bool} {a : List Sym} {of : Spec} → IsSpec local typed a of → (zs : List Sym) → closes_body (a ++ zs) ≡ false
spec_no_close (grammar.plain_spec spelled at h) zs = refl
spec_no_close (grammar.renamed_spec spelled at as_spelled as_at other_spelled other_at h) zs = refl
spec_no_close (grammar.type_spec type_spelled type_at spelled at t n h) zs = refl
spec_no_close (grammar.renamed_type_spec type_spelled type_at spelled at as_spelled as_at other_spelled other_at t n h) zs = refl

body_marked : (zs : List Sym) → closes_body zs ≡ true → is_marked zs ≡ true
body_marked (Mark m.CloseBrace at ∷ zs) h = refl
body_marked _ h = let no : false ≡ true = h in absurd cc

-- words and then a mark are no longer list of words
no_word_1 : {a b : Sym} {k : Word} {s : List ℕ} {i : ℕ} {fs zs : List Sym} → a ∷ fs ≡ b ∷ word k s i ∷ zs → is_marked fs ≡ true → ⊥
no_word_1 {k = k} {s = s} {i = i} {fs = fs} {zs = zs} e h = let rest : fs ≡ word k s i ∷ zs = cc in apart is_marked rest h refl

no_word_2 : {a b d f : Sym} {k : Word} {s : List ℕ} {i : ℕ} {fs zs : List Sym} → a ∷ d ∷ fs ≡ b ∷ f ∷ word k s i ∷ zs → is_marked fs ≡ true → ⊥
no_word_2 {k = k} {s = s} {i = i} {fs = fs} {zs = zs} e h = let rest : fs ≡ word k s i ∷ zs = cc in apart is_marked rest h refl

no_word_3 : {a b d f g j : Sym} {k : Word} {s : List ℕ} {i : ℕ} {fs zs : List Sym} → a ∷ d ∷ g ∷ fs ≡ b ∷ f ∷ j ∷ word k s i ∷ zs → is_marked fs ≡ true → ⊥
no_word_3 {k = k} {s = s} {i = i} {fs = fs} {zs = zs} e h = let rest : fs ≡ word k s i ∷ zs = cc in apart is_marked rest h refl

module _ {local beside : Word → Word → Bool} {typed other_typed : Bool} where
  spec_one : {a b : List Sym} {of other : Spec} → IsSpec local typed a of → IsSpec beside other_typed b other → (fs bs : List Sym) → a ++ fs ≡ b ++ bs → is_marked fs ≡ true → is_marked bs ≡ true → (of ≡ other) × (fs ≡ bs)
  spec_one (grammar.plain_spec s1 p1 h1) (grammar.plain_spec s2 p2 h2) fs bs e h l =
      let place : p1 ≡ p2 = cc in
      let name : s1 ≡ s2 = cc in
      (ap_both {C = Spec} (λ v u. record { at = v; type_only = false; name = identifier u v; renamed = None }) place name, cc)
  spec_one (grammar.plain_spec s1 p1 h1) (grammar.renamed_spec s2 p2 a2 q2 o2 r2 h2) fs bs e h l = absurd (no_word_1 e h)
  spec_one (grammar.plain_spec s1 p1 h1) (grammar.type_spec t2 p2 s2 q2 e2 n2 h2) fs bs e h l = absurd (no_word_1 e h)
  spec_one (grammar.plain_spec s1 p1 h1) (grammar.renamed_type_spec t2 p2 s2 q2 a2 b2 o2 r2 e2 n2 h2) fs bs e h l = absurd (no_word_1 e h)
  spec_one (grammar.renamed_spec s1 p1 a1 q1 o1 r1 h1) (grammar.plain_spec s2 p2 h2) fs bs e h l = absurd (no_word_1 (sym e) l)
  spec_one (grammar.renamed_spec s1 p1 a1 q1 o1 r1 h1) (grammar.renamed_spec s2 p2 a2 q2 o2 r2 h2) fs bs e h l =
      let place : p1 ≡ p2 = cc in
      let name : s1 ≡ s2 = cc in
      let renamed : o1 ≡ o2 = cc in
      let renamed_place : r1 ≡ r2 = cc in
      (ap_four {E = Spec} (λ v u n o. record { at = v; type_only = false; name = identifier u v; renamed = Some (identifier n o) }) place name renamed renamed_place, cc)
  spec_one (grammar.renamed_spec s1 p1 a1 q1 o1 r1 h1) (grammar.type_spec t2 p2 s2 q2 e2 n2 h2) fs bs e h l = absurd (no_word_2 (sym e) l)
  spec_one (grammar.renamed_spec s1 p1 a1 q1 o1 r1 h1) (grammar.renamed_type_spec t2 p2 s2 q2 a2 b2 o2 r2 e2 n2 h2) fs bs e h l = absurd (no_word_3 e h)
  spec_one (grammar.type_spec t1 p1 s1 q1 e1 n1 h1) (grammar.plain_spec s2 p2 h2) fs bs e h l = absurd (no_word_1 (sym e) l)
  spec_one (grammar.type_spec t1 p1 s1 q1 e1 n1 h1) (grammar.renamed_spec s2 p2 a2 q2 o2 r2 h2) fs bs e h l = absurd (no_word_2 e h)
  spec_one (grammar.type_spec t1 p1 s1 q1 e1 n1 h1) (grammar.type_spec t2 p2 s2 q2 e2 n2 h2) fs bs e h l =
      let place : p1 ≡ p2 = cc in
      let name : s1 ≡ s2 = cc in
      let name_place : q1 ≡ q2 = cc in
      (ap_three {D = Spec} (λ v u n. record { at = v; type_only = true; name = identifier u n; renamed = None }) place name name_place, cc)
  spec_one (grammar.type_spec t1 p1 s1 q1 e1 n1 h1) (grammar.renamed_type_spec t2 p2 s2 q2 a2 b2 o2 r2 e2 n2 h2) fs bs e h l = absurd (no_word_2 e h)
  spec_one (grammar.renamed_type_spec t1 p1 s1 q1 a1 b1 o1 r1 e1 n1 h1) (grammar.plain_spec s2 p2 h2) fs bs e h l = absurd (no_word_1 (sym e) l)
  spec_one (grammar.renamed_type_spec t1 p1 s1 q1 a1 b1 o1 r1 e1 n1 h1) (grammar.renamed_spec s2 p2 a2 q2 o2 r2 h2) fs bs e h l = absurd (no_word_3 (sym e) l)
  spec_one (grammar.renamed_type_spec t1 p1 s1 q1 a1 b1 o1 r1 e1 n1 h1) (grammar.type_spec t2 p2 s2 q2 e2 n2 h2) fs bs e h l = absurd (no_word_2 (sym e) l)
  spec_one (grammar.renamed_type_spec t1 p1 s1 q1 a1 b1 o1 r1 e1 n1 h1) (grammar.renamed_type_spec t2 p2 s2 q2 a2 b2 o2 r2 e2 n2 h2) fs bs e h l =
      let place : p1 ≡ p2 = cc in
      let name : s1 ≡ s2 = cc in
      let name_place : q1 ≡ q2 = cc in
      let renamed : o1 ≡ o2 = cc in
      let renamed_place : r1 ≡ r2 = cc in
      (ap_three {D = Spec} (λ v u n. record { at = v; type_only = true; name = identifier u n; renamed = Some (identifier o1 r1) }) place name name_place ∙ ap_both {C = Spec} (λ v u. record { at = p2; type_only = true; name = identifier s2 q2; renamed = Some (identifier v u) }) renamed renamed_place, cc)

  listed_one : {a b : List Sym} {of other : List Spec} → IsListed (IsSpec local typed) a of → IsListed (IsSpec beside other_typed) b other → (fs bs : List Sym) → a ++ fs ≡ b ++ bs → closes_body fs ≡ true → closes_body bs ≡ true
      → (of ≡ other) × (fs ≡ bs)
  listed_one none_listed none_listed fs bs e h l = (refl, e)
  listed_one none_listed (last_listed r) fs bs e h l = absurd (apart closes_body e h (spec_no_close r bs))
  listed_one none_listed (more_listed comma {xs = vs} {ys = us} r s) fs bs e h l = absurd (apart closes_body (e ∙ append_assoc vs (Mark m.Comma comma ∷ us) bs) h (spec_no_close r (Mark m.Comma comma ∷ (us ++ bs))))
  listed_one (last_listed q) none_listed fs bs e h l = absurd (apart closes_body (sym e) l (spec_no_close q fs))
  listed_one (more_listed comma {xs = xs} {ys = ys} q r) none_listed fs bs e h l =
      absurd (apart closes_body (sym e ∙ append_assoc xs (Mark m.Comma comma ∷ ys) fs) l (spec_no_close q (Mark m.Comma comma ∷ (ys ++ fs))))
  listed_one (last_listed q) (last_listed r) fs bs e h l = let same = spec_one q r fs bs e (body_marked fs h) (body_marked bs l) in (ap (λ v. v ∷ []) same.0, same.1)
  listed_one (last_listed q) (more_listed comma {xs = vs} {ys = us} r s) fs bs e h l =
      let same = spec_one q r fs (Mark m.Comma comma ∷ (us ++ bs)) (e ∙ append_assoc vs (Mark m.Comma comma ∷ us) bs) (body_marked fs h) refl in absurd (apart closes_body same.1 h refl)
  listed_one (more_listed comma {xs = xs} {ys = ys} q r) (last_listed s) fs bs e h l =
      let same = spec_one q s (Mark m.Comma comma ∷ (ys ++ fs)) bs (sym (append_assoc xs (Mark m.Comma comma ∷ ys) fs) ∙ e) refl (body_marked bs l) in absurd (apart closes_body (sym same.1) l refl)
  listed_one (more_listed comma {xs = xs} {ys = ys} q r) (more_listed beyond {xs = vs} {ys = us} s t) fs bs e h l =
      let first = spec_one q s (Mark m.Comma comma ∷ (ys ++ fs)) (Mark m.Comma beyond ∷ (us ++ bs)) (parted xs (Mark m.Comma comma ∷ ys) fs vs (Mark m.Comma beyond ∷ us) bs e) refl refl in
      let after = first.1 in
      let inner : ys ++ fs ≡ us ++ bs = cc after in
      let rest = listed_one r t fs bs inner h l in
      (ap_both (λ v u. v ∷ u) first.0 rest.0, rest.1)

  specs_one : {a b : List Sym} {of other : List Spec} → IsSpecs local typed a of → IsSpecs beside other_typed b other → (fs bs : List Sym) → a ++ fs ≡ b ++ bs → (of ≡ other) × (fs ≡ bs)
  specs_one (grammar.specs o p {xs = xs} q) (grammar.specs i j {xs = ys} r) fs bs e =
      let inner : xs ++ Mark m.CloseBrace p ∷ [] ++ fs ≡ ys ++ Mark m.CloseBrace j ∷ [] ++ bs = cc in
      let same = listed_one q r (Mark m.CloseBrace p ∷ fs) (Mark m.CloseBrace j ∷ bs) (parted xs (Mark m.CloseBrace p ∷ []) fs ys (Mark m.CloseBrace j ∷ []) bs inner) refl refl in
      let after = same.1 in
      (same.0, cc after)

specs_marked : {local : Word → Word → Bool} {typed : Bool} {a : List Sym} {of : List Spec} → IsSpecs local typed a of → (zs : List Sym) → is_marked (a ++ zs) ≡ true
specs_marked (grammar.specs o p q) zs = refl

pub worded_one : {kind : Word} {a b : List Sym} {x y : Bool} → IsWorded kind a x → IsWorded kind b y → (fs bs : List Sym) → a ++ fs ≡ b ++ bs → is_marked fs ≡ true → is_marked bs ≡ true → (x ≡ y) × (fs ≡ bs)
worded_one unworded unworded fs bs e h l = (refl, e)
worded_one unworded (worded spelled at) fs bs e h l = absurd (apart is_marked e h refl)
worded_one (worded spelled at) unworded fs bs e h l = absurd (apart is_marked (sym e) l refl)
worded_one (worded spelled at) (worded text i) fs bs e h l = (refl, cc)

from_one : {a b : List Sym} {of other : Specifier} → IsFrom a of → IsFrom b other → (fs bs : List Sym) → a ++ fs ≡ b ++ bs → (of ≡ other) × (fs ≡ bs)
from_one (grammar.from s i spelled at) (grammar.from t j text place) fs bs e =
    let same : spelled ≡ text = cc in
    let begins : at ≡ place = cc in
    (ap_both {C = Specifier} (λ v u. record { at = v; spelled = u }) begins same, cc)

pub import_one : {a b : List Sym} {of other : Import} → IsImport a of → IsImport b other → a ≡ b → of ≡ other
import_one (grammar.import_list spelled at i {xs = xs} {ys = ys} {zs = zs} t s q) (grammar.import_list text place j {xs = us} {ys = vs} {zs = ws} k n r) e =
    let begins : at ≡ place = cc in
    let inner : xs ++ ys ++ zs ++ Mark m.Semicolon i ∷ [] ≡ us ++ vs ++ ws ++ Mark m.Semicolon j ∷ [] = cc in
    let whole = sym (append_three xs ys zs (Mark m.Semicolon i ∷ [])) ∙ (inner ∙ append_three us vs ws (Mark m.Semicolon j ∷ [])) in
    let typed = worded_one t k (ys ++ (zs ++ Mark m.Semicolon i ∷ [])) (vs ++ (ws ++ Mark m.Semicolon j ∷ [])) whole (specs_marked s _) (specs_marked n _) in
    let named = specs_one s n (zs ++ Mark m.Semicolon i ∷ []) (ws ++ Mark m.Semicolon j ∷ []) typed.1 in
    let origin = from_one q r (Mark m.Semicolon i ∷ []) (Mark m.Semicolon j ∷ []) named.1 in
    ap_four (λ v u n o. import_form.List v u n o) begins typed.0 named.0 origin.0
import_one (grammar.import_list spelled at i unworded (grammar.specs o p s) q) (grammar.import_bare text place from_text from_place j) e = absurd (cc e)
import_one (grammar.import_list spelled at i (worded word_text word_at) s q) (grammar.import_bare text place from_text from_place j) e = absurd (cc e)
import_one (grammar.import_bare text place from_text from_place j) (grammar.import_list spelled at i unworded (grammar.specs o p s) q) e = absurd (cc e)
import_one (grammar.import_bare text place from_text from_place j) (grammar.import_list spelled at i (worded word_text word_at) s q) e = absurd (cc e)
import_one (grammar.import_bare text at from_text from_at i) (grammar.import_bare other place from_other from_place j) e =
    let begins : at ≡ place = cc in
    let spelled : from_text ≡ from_other = cc in
    let from_begins : from_at ≡ from_place = cc in
    ap_three (λ v u n. import_form.Bare v (record { at = n; spelled = u })) begins spelled from_begins

pub list_one : {a b : List Sym} {of other : ExportList} → IsExportList a of → IsExportList b other → a ≡ b → of ≡ other
list_one (grammar.export_list spelled at i {xs = xs} {ys = ys} t s) (grammar.export_list text place j {xs = us} {ys = vs} k n) e =
    let begins : at ≡ place = cc in
    let inner : xs ++ ys ++ Mark m.Semicolon i ∷ [] ≡ us ++ vs ++ Mark m.Semicolon j ∷ [] = cc in
    let typed = worded_one t k (ys ++ Mark m.Semicolon i ∷ []) (vs ++ Mark m.Semicolon j ∷ []) (parted xs ys (Mark m.Semicolon i ∷ []) us vs (Mark m.Semicolon j ∷ []) inner) (specs_marked s _) (specs_marked n _) in
    let named = specs_one s n (Mark m.Semicolon i ∷ []) (Mark m.Semicolon j ∷ []) typed.1 in
    ap_three {D = ExportList} (λ v u n. record { at = v; type_only = u; specs = n; from = None }) begins typed.0 named.0
list_one (grammar.export_list spelled at i {xs = xs} {ys = ys} t s) (grammar.export_from text place j {xs = us} {ys = vs} k n (grammar.from f g o p)) e =
    let origin = word w.From f g ∷ Lex c.String o p ∷ Mark m.Semicolon j ∷ [] in
    let inner : xs ++ ys ++ Mark m.Semicolon i ∷ [] ≡ us ++ vs ++ (word w.From f g ∷ Lex c.String o p ∷ []) ++ Mark m.Semicolon j ∷ [] = cc in
    let whole = sym (append_assoc xs ys (Mark m.Semicolon i ∷ [])) ∙ (inner ∙ append_three us vs (word w.From f g ∷ Lex c.String o p ∷ []) (Mark m.Semicolon j ∷ [])) in
    let typed = worded_one t k (ys ++ Mark m.Semicolon i ∷ []) (vs ++ origin) whole (specs_marked s _) (specs_marked n _) in
    let named = specs_one s n (Mark m.Semicolon i ∷ []) origin typed.1 in
    let after = named.1 in
    absurd (cc after)
list_one (grammar.export_from text place j {xs = us} {ys = vs} k n (grammar.from f g o p)) (grammar.export_list spelled at i {xs = xs} {ys = ys} t s) e =
    let origin = word w.From f g ∷ Lex c.String o p ∷ Mark m.Semicolon j ∷ [] in
    let inner : xs ++ ys ++ Mark m.Semicolon i ∷ [] ≡ us ++ vs ++ (word w.From f g ∷ Lex c.String o p ∷ []) ++ Mark m.Semicolon j ∷ [] = cc in
    let whole = sym (append_assoc xs ys (Mark m.Semicolon i ∷ [])) ∙ (inner ∙ append_three us vs (word w.From f g ∷ Lex c.String o p ∷ []) (Mark m.Semicolon j ∷ [])) in
    let typed = worded_one t k (ys ++ Mark m.Semicolon i ∷ []) (vs ++ origin) whole (specs_marked s _) (specs_marked n _) in
    let named = specs_one s n (Mark m.Semicolon i ∷ []) origin typed.1 in
    let after = named.1 in
    absurd (cc after)
list_one (grammar.export_from spelled at i {xs = xs} {ys = ys} {zs = zs} t s q) (grammar.export_from text place j {xs = us} {ys = vs} {zs = ws} k n r) e =
    let begins : at ≡ place = cc in
    let inner : xs ++ ys ++ zs ++ Mark m.Semicolon i ∷ [] ≡ us ++ vs ++ ws ++ Mark m.Semicolon j ∷ [] = cc in
    let whole = sym (append_three xs ys zs (Mark m.Semicolon i ∷ [])) ∙ (inner ∙ append_three us vs ws (Mark m.Semicolon j ∷ [])) in
    let typed = worded_one t k (ys ++ (zs ++ Mark m.Semicolon i ∷ [])) (vs ++ (ws ++ Mark m.Semicolon j ∷ [])) whole (specs_marked s _) (specs_marked n _) in
    let named = specs_one s n (zs ++ Mark m.Semicolon i ∷ []) (ws ++ Mark m.Semicolon j ∷ []) typed.1 in
    let origin = from_one q r (Mark m.Semicolon i ∷ []) (Mark m.Semicolon j ∷ []) named.1 in
    ap_four {E = ExportList} (λ v u n o. record { at = v; type_only = u; specs = n; from = Some o }) begins typed.0 named.0 origin.0

-- ---- parts of declarations

pub shape_one : {a b : List Sym} {of other : TypeExpr} {d e : ℕ} → IsShape a of d → IsShape b other e → (fs bs : List Sym) → a ++ fs ≡ b ++ bs → ends_type fs ≡ true → ends_type bs ≡ true → (of ≡ other) × (fs ≡ bs)
shape_one (types.shape i {xs = xs} q n) (types.shape j {xs = ys} r k) fs bs e h l = let inner : xs ++ fs ≡ ys ++ bs = cc in type_one q r fs bs inner h l

pub signature_one : {a b : List Sym} {of other : List TypeParam} {d e : ℕ} → IsSignature a of d → IsSignature b other e → (fs bs : List Sym) → a ++ fs ≡ b ++ bs → (of ≡ other) × (fs ≡ bs)
signature_one (surfaces.signature o p {xs = xs} q n) (surfaces.signature i j {xs = ys} r k) fs bs e =
    let inner : xs ++ Mark m.CloseParen p ∷ [] ++ fs ≡ ys ++ Mark m.CloseParen j ∷ [] ++ bs = cc in
    let same = params_one q r (Mark m.CloseParen p ∷ fs) (Mark m.CloseParen j ∷ bs) (parted xs (Mark m.CloseParen p ∷ []) fs ys (Mark m.CloseParen j ∷ []) bs inner) refl refl in
    let after = same.1 in
    (same.0, cc after)

joined_one : {a b : List Sym} {of other : List Base} → IsJoined IsBase a of → IsJoined IsBase b other → (fs bs : List Sym) → a ++ fs ≡ b ++ bs → opens_body fs ≡ true → opens_body bs ≡ true → (of ≡ other) × (fs ≡ bs)
joined_one (last_joined (grammar.base spelled at n)) (last_joined (grammar.base text place k)) fs bs e h l =
    let begins : at ≡ place = cc in
    let same : spelled ≡ text = cc in
    (ap_both {C = List Base} (λ v u. record { at = v; name = u; arguments = [] } ∷ []) begins same, cc)
joined_one (last_joined (grammar.base spelled at n)) (more_joined comma {ys = us} (grammar.base text place k) r) fs bs e h l = absurd (let rest : fs ≡ Mark m.Comma comma ∷ (us ++ bs) = cc in apart opens_body rest h refl)
joined_one (more_joined comma {ys = ys} (grammar.base spelled at n) q) (last_joined (grammar.base text place k)) fs bs e h l = absurd (let rest : bs ≡ Mark m.Comma comma ∷ (ys ++ fs) = cc in apart opens_body rest l refl)
joined_one (more_joined comma {ys = ys} (grammar.base spelled at n) q) (more_joined beyond {ys = us} (grammar.base text place k) r) fs bs e h l =
    let begins : at ≡ place = cc in
    let same : spelled ≡ text = cc in
    let inner : ys ++ fs ≡ us ++ bs = cc in
    let rest = joined_one q r fs bs inner h l in
    (ap_three {D = List Base} (λ v u n. record { at = v; name = u; arguments = [] } ∷ n) begins same rest.0, rest.1)

pub bases_one : {kind : Word} {a b : List Sym} {of other : List Base} → IsBases kind a of → IsBases kind b other → (fs bs : List Sym) → a ++ fs ≡ b ++ bs → opens_body fs ≡ true → opens_body bs ≡ true → (of ≡ other) × (fs ≡ bs)
bases_one grammar.no_bases grammar.no_bases fs bs e h l = (refl, e)
bases_one grammar.no_bases (grammar.some_bases spelled at q) fs bs e h l = absurd (apart opens_body e h refl)
bases_one (grammar.some_bases spelled at q) grammar.no_bases fs bs e h l = absurd (apart opens_body (sym e) l refl)
bases_one (grammar.some_bases spelled at {xs = xs} q) (grammar.some_bases text i {xs = ys} r) fs bs e h l = let inner : xs ++ fs ≡ ys ++ bs = cc in joined_one q r fs bs inner h l

pub interface_one : {a b : List Sym} {of other : Interface} {d e : ℕ} → IsInterface a of d → IsInterface b other e → a ≡ b → of ≡ other
interface_one (grammar.interface i j spelled at o p {xs = xs} {ys = ys} h q r l) (grammar.interface k n text place f g {xs = us} {ys = vs} u s t v) e =
    let begins : at ≡ place = cc in
    let same : spelled ≡ text = cc in
    let inner : xs ++ Mark m.OpenBrace o ∷ ys ++ Mark m.CloseBrace p ∷ [] ≡ us ++ Mark m.OpenBrace f ∷ vs ++ Mark m.CloseBrace g ∷ [] = cc in
    let bases = bases_one q s (Mark m.OpenBrace o ∷ ys ++ Mark m.CloseBrace p ∷ []) (Mark m.OpenBrace f ∷ vs ++ Mark m.CloseBrace g ∷ [])
    (parted xs (Mark m.OpenBrace o ∷ ys) (Mark m.CloseBrace p ∷ []) us (Mark m.OpenBrace f ∷ vs) (Mark m.CloseBrace g ∷ []) inner) refl refl in
    let after = bases.1 in
    let opened : ys ++ Mark m.CloseBrace p ∷ [] ≡ vs ++ Mark m.CloseBrace g ∷ [] = cc after in
    let members = members_one r t (Mark m.CloseBrace p ∷ []) (Mark m.CloseBrace g ∷ []) opened refl refl in
    ap_four {E = Interface} (λ v u n o. record { at = v; name = u; variables = []; extends = n; members = o }) begins same bases.0 members.0

pub alias_one : {a b : List Sym} {of other : Alias} {d e : ℕ} → IsAlias a of d → IsAlias b other e → a ≡ b → of ≡ other
alias_one (grammar.alias i j spelled at k n {xs = xs} h q l) (grammar.alias o p text place r s {xs = ys} t u v) e =
    let begins : at ≡ place = cc in
    let same : spelled ≡ text = cc in
    let inner : xs ++ Mark m.Semicolon n ∷ [] ≡ ys ++ Mark m.Semicolon s ∷ [] = cc in
    let shape = type_one q u (Mark m.Semicolon n ∷ []) (Mark m.Semicolon s ∷ []) inner refl refl in
    ap_three {D = Alias} (λ v u n. record { at = v; name = u; variables = []; shape = n }) begins same shape.0
