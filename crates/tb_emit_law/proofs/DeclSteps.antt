-- Types that are read back, by their parts: one step for each form.
use Rattle.std.proofs.Common.{◌≡◌, ℕ, zero, suc, ◌+◌, ◌≤◌, max, Bool, true, false, ◌||◌, List, [], ◌∷◌, ◌++◌, map, flat_map, codes, Some, refl, sym, ap, subst, ◌∙◌, arith, append_assoc}
use Rattle.std.proofs.lemmas.List.{append-nil}
use Rattle.tb_tree.specs.declared.marks.Mark.TheVariants as m
use Rattle.tb_tree.specs.declared.words.Class.TheVariants as c
use Rattle.tb_tree.specs.declared.words.Word.TheVariants as w
use Rattle.tb_tree.specs.declared.types.Key.{Key}
use Rattle.tb_tree.specs.declared.types.Key.TheVariants as k
use Rattle.tb_tree.specs.declared.types.TypeKeyword.{TypeKeyword}
use Rattle.tb_tree.specs.declared.types.TypeKeyword.TheVariants as b
use Rattle.tb_tree.specs.declared.types.TypeExpr.{TypeExpr}
use Rattle.tb_tree.specs.declared.types.TypeExpr.TheVariants as t
use Rattle.tb_tree.specs.declared.types.TypeParam.{TypeParam}
use Rattle.tb_tree.specs.declared.types.TypeMember.{TypeMember}
use Rattle.tb_tree.specs.declared.types.TypeMember.TheVariants as p
use Rattle.tb_tree.specs.Sym.{Sym, Mark, Lex, at_of}
use Rattle.tb_tree.specs.Words.{is_name, is_type_name, word_of, early_word, middle_word, late_word, other_word, last_word, type_word, named_word}
use Rattle.tb_tree.specs.Shapes.{start_of, key_of, is_zero, is_positive, IsMarked, unmarked, marked, IsWorded, unworded, worded}
use Rattle.tb_tree.specs.Types as g
use Rattle.tb_tree.specs.Types.{arrays, parts_of, part_count, keyword_of, truth_of, IsAtom, IsBrackets, IsElement, IsTail, IsUnion, IsType, IsTypeParam, IsTypeParams, IsTypeMember, IsTypeMembers}
use Rattle.tb_tree.proofs.Ends.{ap_both}
use Rattle.tb_layout.specs.Pieces.{Piece, mark, word, space}
use Rattle.tb_layout.specs.Pieces as pieces
use Rattle.tb_layout.specs.Js.{in_parens, truth_pieces}
use Rattle.tb_layout.specs.Quoted.{quoted, quoted_key}
use Rattle.tb_layout.specs.Shown.{Shown, string_pieces, shown_key, keyword_text, optional_pieces, read_only_pieces, colon_pieces, part_pieces, barred, inline_pieces, body_pieces}
use Rattle.tb_layout.specs.Dts.{member_line, lines_pieces}
use Rattle.tb_layout.proofs.Requoted.{key_twice}
use Rattle.tb_emit_law.proofs.Symbols.{bare_sym, symbols_in}
use Rattle.tb_emit_law.proofs.Back.{Back, back_by, wrapped, ap_three}
use Rattle.tb_emit_law.proofs.Splits.{split, split_none, split_mark, split_lex, last_mark, last_lex}
use Rattle.tb_emit_law.proofs.Flat.{one, ◌⊕◌, alike}
use Rattle.tb_emit_law.proofs.DeclPlain.{plain_type, plain_param, plain_member, a_param, plain_keyword, plain_boolean, plain_string, plain_quoted, plain_integer, plain_written, plain_array, plain_function, plain_object, plain_union, plain_property, plain_method, plain_rolled, is_union, single_back, parts_single, count_single}

-- ---- two counts

-- with some own count up to this
pub record Under {X : Type 0} (R : List Sym → X → ℕ → ℕ → Type 0) (limit : ℕ) (symbols : List Sym) (of : X) (depth : ℕ) : Type 0 where
  pub count : ℕ
  pub derives : R symbols of count depth
  pub within : count ≤ limit

-- with both counts up to these
pub record At {X : Type 0} (R : List Sym → X → ℕ → ℕ → Type 0) (symbols : List Sym) (of : X) (own depth : ℕ) : Type 0 where
  pub own_is : ℕ
  pub depth_is : ℕ
  pub derives : R symbols of own_is depth_is
  pub own_below : own_is ≤ own
  pub depth_below : depth_is ≤ depth

pub exactly : {X : Type 0} {R : List Sym → X → ℕ → ℕ → Type 0} {xs : List Sym} {of : X} {own depth : ℕ} → R xs of own depth → At R xs of own depth
exactly {own = own} {depth = depth} r = record { own_is = own; depth_is = depth; derives = r; own_below = omega arith; depth_below = omega arith }

-- by another rule with no greater counts
pub by_other : {X : Type 0} {R S : List Sym → X → ℕ → ℕ → Type 0} {bare : X → X} {p : List Piece} {left : X} {o d : ℕ}
    → ((xs : List Sym) (of : X) (own depth : ℕ) → R xs of own depth → At S xs of own depth) → Back (Under R o) bare p left d → Back (Under S o) bare p left d
by_other f x = record {
  back = λ zs e.
      let r = x.back zs e in
      let u = r.reads in
      let s = f zs r.tree u.count r.own u.derives in
      record {
        tree = r.tree;
        own = s.depth_is;
        reads = record { count = s.own_is; derives = s.derives; within = omega (arith, s.own_below, u.within) };
        below = omega (arith, s.depth_below, r.below);
        same = r.same;
      };
}

pub weaker : {X : Type 0} {R : List Sym → X → ℕ → ℕ → Type 0} {bare : X → X} {p : List Piece} {left : X} {o d e f : ℕ} → o ≤ e → d ≤ f → Back (Under R o) bare p left d → Back (Under R e) bare p left f
weaker h l x = record {
  back = λ zs e.
      let r = x.back zs e in
      let u = r.reads in
      record { tree = r.tree; own = r.own; reads = record { count = u.count; derives = u.derives; within = omega (arith, u.within, h) }; below = omega (arith, r.below, l); same = r.same };
}

-- ---- parts that may be left out

pub split_optional : (P : List Sym → Type 0) (optional : Bool) (zs : List Sym) → map bare_sym zs ≡ symbols_in (optional_pieces optional)
    → ((xs : List Sym) → IsMarked m.Question xs optional → P xs) → P zs
split_optional P true zs e f = last_mark P zs e λ at. f (Mark m.Question at ∷ []) (marked at)
split_optional P false zs e f = split_none P zs e (f [] unmarked)

read_only_told : symbols_in (read_only_pieces true) ≡ Lex (c.Word w.Readonly) (codes "readonly") 0 ∷ []
unfolding early_word middle_word late_word other_word last_word type_word named_word
read_only_told = refl

pub split_read_only : (P : List Sym → Type 0) (read_only : Bool) (zs : List Sym) → map bare_sym zs ≡ symbols_in (read_only_pieces read_only)
    → ((xs : List Sym) → IsWorded w.Readonly xs read_only → P xs) → P zs
split_read_only P true zs e f = last_lex P zs (e ∙ read_only_told) λ at. f (Lex (c.Word w.Readonly) (codes "readonly") at ∷ []) (worded (codes "readonly") at)
split_read_only P false zs e f = split_none P zs e (f [] unworded)

pub split_key : (P : List Sym → Type 0) (key : Key) (zs : List Sym) → map bare_sym zs ≡ symbols_in (shown_key key) → ((s : Sym) → key_of s ≡ Some (quoted_key key) → P (s ∷ [])) → P zs
split_key P (k.Word spelled) zs e f = last_lex P zs e λ at. f (Lex (c.Word (word_of spelled)) spelled at) refl
split_key P (k.String spelled) zs e f = last_lex P zs e λ at. f (Lex c.String (quoted spelled) at) refl

-- ---- atoms

keyword_told : (keyword : TypeKeyword) → keyword_of (word_of (keyword_text keyword)) ≡ Some keyword
unfolding early_word middle_word late_word other_word last_word type_word named_word
keyword_told b.Any = refl
keyword_told b.Unknown = refl
keyword_told b.Never = refl
keyword_told b.Number = refl
keyword_told b.String = refl
keyword_told b.Boolean = refl
keyword_told b.Void = refl
keyword_told b.Null = refl
keyword_told b.Undefined = refl

pub keyword_step : (at : ℕ) (keyword : TypeKeyword) → Back (Under IsAtom 1) plain_type (word (keyword_text keyword)) (t.Keyword at keyword) 1
keyword_step at keyword = back_by λ P into zs told.
    last_lex P zs told λ here.
    into _ (record {
      tree = t.Keyword here keyword;
      own = 1;
      reads = record { count = 1; derives = g.keyword_type {kind = word_of (keyword_text keyword)} (keyword_text keyword) here (keyword_told keyword); within = omega arith };
      below = omega arith;
      same = plain_keyword here keyword ∙ sym (plain_keyword at keyword);
    })

truth_text : Bool → List ℕ
truth_text true = codes "true"
truth_text false = codes "false"

truth_told : (value : Bool) → truth_of (word_of (truth_text value)) ≡ Some value
unfolding truth_text early_word middle_word late_word other_word last_word type_word named_word
truth_told true = refl
truth_told false = refl

truth_is : (value : Bool) → truth_pieces value ≡ word (truth_text value)
unfolding truth_text
truth_is true = refl
truth_is false = refl

pub boolean_step : (at : ℕ) (value : Bool) → Back (Under IsAtom 1) plain_type (truth_pieces value) (t.Boolean at value) 1
boolean_step at value = back_by λ P into zs told.
    last_lex P zs (told ∙ ap symbols_in (truth_is value)) λ here.
    into _ (record {
      tree = t.Boolean here value;
      own = 1;
      reads = record { count = 1; derives = g.boolean_type {kind = word_of (truth_text value)} (truth_text value) here (truth_told value); within = omega arith };
      below = omega arith;
      same = plain_boolean here value ∙ sym (plain_boolean at value);
    })

pub string_step : (at : ℕ) (spelled : List ℕ) → Back (Under IsAtom 1) plain_type (string_pieces spelled) (t.String at spelled) 1
string_step at spelled = back_by λ P into zs told.
    last_lex P zs told λ here.
    into _ (record {
      tree = t.String here (quoted spelled);
      own = 1;
      reads = record { count = 1; derives = g.string_type (quoted spelled) here; within = omega arith };
      below = omega arith;
      same = plain_quoted here spelled ∙ sym (plain_string at spelled);
    })

pub integer_step : (at : ℕ) (digits : List ℕ) → (is_zero digits || is_positive digits) ≡ true → Back (Under IsAtom 1) plain_type (pieces.Lex c.Number digits ∷ []) (t.Integer at false digits) 1
integer_step at digits h = back_by λ P into zs told.
    last_lex P zs told λ here.
    into _ (record {
      tree = t.Integer here false digits;
      own = 1;
      reads = record { count = 1; derives = g.integer_type digits here h; within = omega arith };
      below = omega arith;
      same = plain_integer here false digits ∙ sym (plain_integer at false digits);
    })

pub minus_step : (at : ℕ) (digits : List ℕ) → is_positive digits ≡ true → Back (Under IsAtom 1) plain_type (mark m.Minus ++ pieces.Lex c.Number digits ∷ []) (t.Integer at true digits) 1
minus_step at digits h = back_by λ P into zs told.
    split_mark P zs told λ a more more_told.
    last_lex (λ vs. P (Mark m.Minus a ∷ vs)) more more_told λ here.
    into _ (record {
      tree = t.Integer a true digits;
      own = 1;
      reads = record { count = 1; derives = g.minus_type digits a here h; within = omega arith };
      below = omega arith;
      same = plain_integer a true digits ∙ sym (plain_integer at true digits);
    })

pub written_step : (at : ℕ) (name : List ℕ) → is_type_name (word_of name) ≡ true → Back (Under IsAtom 1) plain_type (word name ++ []) (t.Written at name []) 1
written_step at name h = back_by λ P into zs told.
    last_lex P zs told λ here.
    into _ (record {
      tree = t.Written here name [];
      own = 1;
      reads = record { count = 1; derives = g.written_type {kind = word_of name} name here h; within = omega arith };
      below = omega arith;
      same = plain_written here name ∙ sym (plain_written at name);
    })

parens_told : (p : List Piece) → symbols_in (in_parens p) ≡ Mark m.OpenParen 0 ∷ symbols_in p ++ Mark m.CloseParen 0 ∷ []
parens_told p = alike (one (mark m.OpenParen) ⊕ one p ⊕ one (mark m.CloseParen)) (one (Mark m.OpenParen 0 ∷ symbols_in p) ⊕ one (Mark m.CloseParen 0 ∷ [])) refl

pub parens_step : {p : List Piece} {of : TypeExpr} {o d : ℕ} → Back (Under IsType o) plain_type p of d → Back (Under IsAtom (o + 1)) plain_type (in_parens p) of d
parens_step {p = p} x = back_by λ P into zs told.
    split P {es = Mark m.OpenParen 0 ∷ symbols_in p} {fs = Mark m.CloseParen 0 ∷ []} zs (told ∙ parens_told p) λ front back front_told back_told.
    split_mark (λ vs. P (vs ++ back)) front front_told λ a xs x_told.
    last_mark (λ vs. P (Mark m.OpenParen a ∷ xs ++ vs)) back back_told λ b.
    let r = x.back xs x_told in
    let u = r.reads in
    into _ (record {
      tree = r.tree;
      own = r.own;
      reads = record { count = u.count + 1; derives = g.parens_type a b u.derives; within = omega (arith, u.within) };
      below = r.below;
      same = r.same;
    })

-- ---- arrays

-- an atom and any number of `[ ]`
pub data IsPlain : List Sym → TypeExpr → ℕ → ℕ → Type 0 where
  plain : {xs ys : List Sym} {of : TypeExpr} {own depth n : ℕ} → IsAtom xs of own depth → IsBrackets n ys → IsPlain (xs ++ ys) (arrays (start_of xs) n of) (own + n) (depth + n)

pub atom_plain : {xs : List Sym} {of : TypeExpr} {own depth : ℕ} → IsAtom xs of own depth → At IsPlain xs of own depth
atom_plain {xs = xs} {of = of} {own = own} {depth = depth} a = record {
  own_is = own + 0;
  depth_is = depth + 0;
  derives = subst (λ v. IsPlain v of (own + 0) (depth + 0)) (append-nil xs) (plain a g.no_brackets);
  own_below = omega arith;
  depth_below = omega arith;
}

pub plain_element : {xs : List Sym} {of : TypeExpr} {own depth : ℕ} → IsPlain xs of own depth → IsElement xs of own depth
plain_element (plain a q) = g.plain_element a q

pub element_type : {xs : List Sym} {of : TypeExpr} {own depth : ℕ} → IsElement xs of own depth → IsType xs of own depth
element_type q = g.union_type unmarked (g.one_element q)

brackets_more : (a b : ℕ) {n : ℕ} {xs : List Sym} → IsBrackets n xs → IsBrackets (suc n) (xs ++ Mark m.OpenBracket a ∷ Mark m.CloseBracket b ∷ [])
brackets_more a b g.no_brackets = g.brackets a b g.no_brackets
brackets_more a b (g.brackets i j q) = g.brackets i j (brackets_more a b q)

arrays_more : (at n : ℕ) (of : TypeExpr) → arrays at (suc n) of ≡ t.Array at false (arrays at n of)
arrays_more at zero of = refl
arrays_more at (suc n) of = arrays_more at n (t.Array at false of)

plain_more : (a b : ℕ) {xs : List Sym} {of : TypeExpr} {own depth : ℕ} → IsPlain xs of own depth
    → (at : ℕ) × At IsPlain (xs ++ Mark m.OpenBracket a ∷ Mark m.CloseBracket b ∷ []) (t.Array at false of) (own + 1) (depth + 1)
plain_more a b (plain {xs = xs} {ys = ys} {of = of} {own = own} {depth = depth} {n = n} q r) =
    let more = Mark m.OpenBracket a ∷ Mark m.CloseBracket b ∷ [] in
    let begins = start_of xs in (
      begins,
      record {
        own_is = own + suc n;
        depth_is = depth + suc n;
        derives = subst (λ v. IsPlain v (t.Array begins false (arrays begins n of)) (own + suc n) (depth + suc n)) (sym (append_assoc xs ys more))
            (subst (λ v. IsPlain (xs ++ (ys ++ more)) v (own + suc n) (depth + suc n)) (arrays_more begins n of) (plain q (brackets_more a b r)));
        own_below = omega arith;
        depth_below = omega arith;
      },
    )

read_only_more : (s : List ℕ) (o a b : ℕ) {xs : List Sym} {of : TypeExpr} {own depth : ℕ} → IsPlain xs of own depth
    → At IsElement (Lex (c.Word w.Readonly) s o ∷ xs ++ Mark m.OpenBracket a ∷ Mark m.CloseBracket b ∷ []) (t.Array o true of) (own + 1) (depth + 1)
read_only_more s o a b (plain {xs = xs} {ys = ys} {of = of} {own = own} {depth = depth} {n = n} q r) =
    let more = Mark m.OpenBracket a ∷ Mark m.CloseBracket b ∷ [] in
    let head = Lex (c.Word w.Readonly) s o in
    record {
      own_is = own + suc n;
      depth_is = depth + suc n;
      derives = subst (λ v. IsElement v (t.Array o true (arrays (start_of xs) n of)) (own + suc n) (depth + suc n)) (sym (append_assoc (head ∷ xs) ys more))
          (g.read_only_element s o q (brackets_more a b r));
      own_below = omega arith;
      depth_below = omega arith;
    }

array_told : (p : List Piece) → symbols_in (read_only_pieces false ++ p ++ mark m.OpenBracket ++ mark m.CloseBracket) ≡ symbols_in p ++ Mark m.OpenBracket 0 ∷ Mark m.CloseBracket 0 ∷ []
array_told p = alike (one [] ⊕ one p ⊕ one (mark m.OpenBracket) ⊕ one (mark m.CloseBracket)) (one (symbols_in p) ⊕ one (Mark m.OpenBracket 0 ∷ Mark m.CloseBracket 0 ∷ [])) refl

pub array_step : {p : List Piece} {of : TypeExpr} {o d : ℕ} (at : ℕ) → Back (Under IsPlain o) plain_type p of d
    → Back (Under IsPlain (o + 1)) plain_type (read_only_pieces false ++ p ++ mark m.OpenBracket ++ mark m.CloseBracket) (t.Array at false of) (d + 1)
array_step {p = p} {of = of} at x = back_by λ P into zs told.
    split P {es = symbols_in p} {fs = Mark m.OpenBracket 0 ∷ Mark m.CloseBracket 0 ∷ []} zs (told ∙ array_told p) λ xs back x_told back_told.
    split_mark (λ vs. P (xs ++ vs)) back back_told λ a more more_told.
    last_mark (λ vs. P (xs ++ Mark m.OpenBracket a ∷ vs)) more more_told λ b.
    let r = x.back xs x_told in
    let u = r.reads in
    let s = plain_more a b u.derives in
    let own = s.1 in
    into _ (record {
      tree = t.Array s.0 false r.tree;
      own = own.depth_is;
      reads = record { count = own.own_is; derives = own.derives; within = omega (arith, own.own_below, u.within) };
      below = omega (arith, own.depth_below, r.below);
      same = plain_array s.0 false r.tree ∙ (ap (λ v. t.Array 0 false v) r.same ∙ sym (plain_array at false of));
    })

read_only_array_told : (p : List Piece)
    → symbols_in (read_only_pieces true ++ p ++ mark m.OpenBracket ++ mark m.CloseBracket) ≡ Lex (c.Word w.Readonly) (codes "readonly") 0 ∷ symbols_in p ++ Mark m.OpenBracket 0 ∷ Mark m.CloseBracket 0 ∷ []
unfolding early_word middle_word late_word other_word last_word type_word named_word
read_only_array_told p =
    alike (one (read_only_pieces true) ⊕ one p ⊕ one (mark m.OpenBracket) ⊕ one (mark m.CloseBracket))
    (one (Lex (c.Word w.Readonly) (codes "readonly") 0 ∷ symbols_in p) ⊕ one (Mark m.OpenBracket 0 ∷ Mark m.CloseBracket 0 ∷ [])) refl

pub read_only_step : {p : List Piece} {of : TypeExpr} {o d : ℕ} (at : ℕ) → Back (Under IsPlain o) plain_type p of d
    → Back (Under IsElement (o + 1)) plain_type (read_only_pieces true ++ p ++ mark m.OpenBracket ++ mark m.CloseBracket) (t.Array at true of) (d + 1)
read_only_step {p = p} {of = of} at x = back_by λ P into zs told.
    split P {es = Lex (c.Word w.Readonly) (codes "readonly") 0 ∷ symbols_in p} {fs = Mark m.OpenBracket 0 ∷ Mark m.CloseBracket 0 ∷ []} zs (told ∙ read_only_array_told p) λ front back front_told back_told.
    split_lex (λ vs. P (vs ++ back)) front front_told λ o xs x_told.
    split_mark (λ vs. P (Lex (c.Word w.Readonly) (codes "readonly") o ∷ xs ++ vs)) back back_told λ a more more_told.
    last_mark (λ vs. P (Lex (c.Word w.Readonly) (codes "readonly") o ∷ xs ++ Mark m.OpenBracket a ∷ vs)) more more_told λ b.
    let r = x.back xs x_told in
    let u = r.reads in
    let own = read_only_more (codes "readonly") o a b u.derives in
    into _ (record {
      tree = t.Array o true r.tree;
      own = own.depth_is;
      reads = record { count = own.own_is; derives = own.derives; within = omega (arith, own.own_below, u.within) };
      below = omega (arith, own.depth_below, r.below);
      same = plain_array o true r.tree ∙ (ap (λ v. t.Array 0 true v) r.same ∙ sym (plain_array at true of));
    })

-- ---- functions

function_told : (p q : List Piece) → symbols_in (in_parens p ++ space ++ mark m.Arrow ++ space ++ q) ≡ Mark m.OpenParen 0 ∷ symbols_in p ++ Mark m.CloseParen 0 ∷ Mark m.Arrow 0 ∷ symbols_in q
function_told p q =
    alike (one (mark m.OpenParen) ⊕ one p ⊕ one (mark m.CloseParen) ⊕ one space ⊕ one (mark m.Arrow) ⊕ one space ⊕ one q)
    (one (Mark m.OpenParen 0 ∷ symbols_in p) ⊕ one (Mark m.CloseParen 0 ∷ Mark m.Arrow 0 ∷ symbols_in q)) refl

pub function_step : {p q : List Piece} {params : List TypeParam} {of : TypeExpr} {o d e f : ℕ} (at : ℕ)
    → Back (Under IsTypeParams o) (map plain_param) p params d → Back (Under IsType e) plain_type q of f
    → Back (Under IsType (max o e + 1)) plain_type (in_parens p ++ space ++ mark m.Arrow ++ space ++ q) (t.Function at params of) (max d f + 1)
function_step {p = p} {q = q} {params = params} {of = of} at x y = back_by λ P into zs told.
    split P {es = Mark m.OpenParen 0 ∷ symbols_in p} {fs = Mark m.CloseParen 0 ∷ Mark m.Arrow 0 ∷ symbols_in q} zs (told ∙ function_told p q) λ front back front_told back_told.
    split_mark (λ vs. P (vs ++ back)) front front_told λ a xs x_told.
    split_mark (λ vs. P (Mark m.OpenParen a ∷ xs ++ vs)) back back_told λ b more more_told.
    split_mark (λ vs. P (Mark m.OpenParen a ∷ xs ++ Mark m.CloseParen b ∷ vs)) more more_told λ j ys y_told.
    let xr = x.back xs x_told in
    let yr = y.back ys y_told in
    let xu = xr.reads in
    let yu = yr.reads in
    into _ (record {
      tree = t.Function a xr.tree yr.tree;
      own = max xr.own yr.own + 1;
      reads = record { count = max xu.count yu.count + 1; derives = g.function_type a b j xu.derives yu.derives; within = omega (arith, xu.within, yu.within) };
      below = omega (arith, xr.below, yr.below);
      same = plain_function a xr.tree yr.tree ∙ (ap_both (λ v u. t.Function 0 v u) xr.same yr.same ∙ sym (plain_function at params of));
    })

pub no_params_step : {o d : ℕ} → Back (Under IsTypeParams o) (map plain_param) [] [] d
no_params_step = back_by λ P into zs told.
    split_none P zs told (into _ (record { tree = []; own = 0; reads = record { count = 0; derives = g.no_type_params; within = omega arith }; below = omega arith; same = refl }))

pub last_param_step : {p : List Piece} {of : TypeParam} {o d : ℕ} → Back (Under IsTypeParam o) plain_param p of d → Back (Under IsTypeParams o) (map plain_param) p (of ∷ []) d
last_param_step x = wrapped (λ of. of ∷ []) (λ of. refl) (λ xs of n r. record { count = r.count; derives = g.last_type_param r.derives; within = r.within }) x

listed_told : (p q : List Piece) → symbols_in (p ++ mark m.Comma ++ space ++ q) ≡ symbols_in p ++ Mark m.Comma 0 ∷ symbols_in q
listed_told p q = alike (one p ⊕ one (mark m.Comma) ⊕ one space ⊕ one q) (one (symbols_in p) ⊕ one (Mark m.Comma 0 ∷ symbols_in q)) refl

pub more_params_step : {p q : List Piece} {of : TypeParam} {rest : List TypeParam} {o d e f : ℕ}
    → Back (Under IsTypeParam o) plain_param p of d → Back (Under IsTypeParams e) (map plain_param) q rest f
    → Back (Under IsTypeParams (max o e)) (map plain_param) (p ++ mark m.Comma ++ space ++ q) (of ∷ rest) (max d f)
more_params_step {p = p} {q = q} x y = back_by λ P into zs told.
    split P {es = symbols_in p} {fs = Mark m.Comma 0 ∷ symbols_in q} zs (told ∙ listed_told p q) λ xs back x_told back_told.
    split_mark (λ vs. P (xs ++ vs)) back back_told λ here ys y_told.
    let xr = x.back xs x_told in
    let yr = y.back ys y_told in
    let xu = xr.reads in
    let yu = yr.reads in
    into _ (record {
      tree = xr.tree ∷ yr.tree;
      own = max xr.own yr.own;
      reads = record { count = max xu.count yu.count; derives = g.more_type_params here xu.derives yu.derives; within = omega (arith, xu.within, yu.within) };
      below = omega (arith, xr.below, yr.below);
      same = ap_both (λ v vs. v ∷ vs) xr.same yr.same;
    })

param_told : (name : List ℕ) (r q : List Piece) → symbols_in (word name ++ r ++ colon_pieces q) ≡ Lex (c.Word (word_of name)) name 0 ∷ symbols_in r ++ Mark m.Colon 0 ∷ symbols_in q
param_told name r q = alike (one (word name) ⊕ one r ⊕ (one (mark m.Colon) ⊕ one space ⊕ one q)) (one (Lex (c.Word (word_of name)) name 0 ∷ symbols_in r) ⊕ one (Mark m.Colon 0 ∷ symbols_in q)) refl

pub param_step : {q : List Piece} {of : TypeExpr} {o d : ℕ} (at : ℕ) (name : List ℕ) (optional : Bool) → is_name (word_of name) ≡ true → Back (Under IsType o) plain_type q of d
    → Back (Under IsTypeParam o) plain_param (word name ++ optional_pieces optional ++ colon_pieces q) (a_param at name optional of) d
param_step {q = q} {of = of} at name optional h y = back_by λ P into zs told.
    split P {es = Lex (c.Word (word_of name)) name 0 ∷ symbols_in (optional_pieces optional)} {fs = Mark m.Colon 0 ∷ symbols_in q} zs (told ∙ param_told name (optional_pieces optional) q) λ front back front_told back_told.
    split_lex (λ vs. P (vs ++ back)) front front_told λ a more more_told.
    split_optional (λ vs. P (Lex (c.Word (word_of name)) name a ∷ vs ++ back)) optional more more_told λ xs question.
    split_mark (λ vs. P (Lex (c.Word (word_of name)) name a ∷ xs ++ vs)) back back_told λ b ys y_told.
    let yr = y.back ys y_told in
    let yu = yr.reads in
    into _ (record {
      tree = a_param a name optional yr.tree;
      own = yr.own;
      reads = record { count = yu.count; derives = g.type_param {kind = word_of name} name a b h question yu.derives; within = yu.within };
      below = yr.below;
      same = plain_rolled a name optional yr.tree ∙ (ap (λ v. a_param 0 name optional v) yr.same ∙ sym (plain_rolled at name optional of));
    })

-- ---- members

property_told : (i j r q : List Piece) → symbols_in (i ++ j ++ r ++ colon_pieces q) ≡ symbols_in i ++ (symbols_in j ++ symbols_in r) ++ Mark m.Colon 0 ∷ symbols_in q
property_told i j r q = alike (one i ⊕ one j ⊕ one r ⊕ (one (mark m.Colon) ⊕ one space ⊕ one q)) (one (symbols_in i) ⊕ (one (symbols_in j) ⊕ one (symbols_in r)) ⊕ one (Mark m.Colon 0 ∷ symbols_in q)) refl

pub property_step : {q : List Piece} {of : TypeExpr} {o d : ℕ} (at : ℕ) (read_only : Bool) (key : Key) (optional : Bool) → Back (Under IsType o) plain_type q of d
    → Back (Under IsTypeMember o) plain_member (read_only_pieces read_only ++ shown_key key ++ optional_pieces optional ++ colon_pieces q) (p.Property at read_only key optional of) d
property_step {q = q} {of = of} at read_only key optional y = back_by λ P into zs told.
    split P {es = symbols_in (read_only_pieces read_only) ++ (symbols_in (shown_key key) ++ symbols_in (optional_pieces optional))} {fs = Mark m.Colon 0 ∷ symbols_in q} zs
    (told ∙ property_told (read_only_pieces read_only) (shown_key key) (optional_pieces optional) q) λ front back front_told back_told.
    split (λ vs. P (vs ++ back)) {es = symbols_in (read_only_pieces read_only)} {fs = symbols_in (shown_key key) ++ symbols_in (optional_pieces optional)} front front_told λ modifier named modifier_told named_told.
    split (λ vs. P (modifier ++ vs ++ back)) {es = symbols_in (shown_key key)} {fs = symbols_in (optional_pieces optional)} named named_told λ key_syms question_syms key_syms_told question_told.
    split_read_only (λ vs. P (vs ++ (key_syms ++ question_syms) ++ back)) read_only modifier modifier_told λ xs readonly.
    split_key (λ vs. P (xs ++ (vs ++ question_syms) ++ back)) key key_syms key_syms_told λ s keyed.
    split_optional (λ vs. P (xs ++ s ∷ vs ++ back)) optional question_syms question_told λ ys question.
    split_mark (λ vs. P (xs ++ s ∷ ys ++ vs)) back back_told λ b us y_told.
    let yr = y.back us y_told in
    let yu = yr.reads in
    into _ (record {
      tree = p.Property (at_of s) read_only (quoted_key key) optional yr.tree;
      own = yr.own;
      reads = record { count = yu.count; derives = g.property_member s b readonly keyed question yu.derives; within = yu.within };
      below = yr.below;
      same = plain_property (at_of s) read_only (quoted_key key) optional yr.tree
          ∙ (ap_both (λ v u. p.Property 0 read_only v optional u) (key_twice key) yr.same ∙ sym (plain_property at read_only key optional of));
    })

method_told : (j r i q : List Piece) → symbols_in (j ++ r ++ in_parens i ++ colon_pieces q) ≡ symbols_in j ++ symbols_in r ++ (Mark m.OpenParen 0 ∷ symbols_in i) ++ Mark m.CloseParen 0 ∷ Mark m.Colon 0 ∷ symbols_in q
method_told j r i q =
    alike (one j ⊕ one r ⊕ (one (mark m.OpenParen) ⊕ one i ⊕ one (mark m.CloseParen)) ⊕ (one (mark m.Colon) ⊕ one space ⊕ one q))
    (one (symbols_in j) ⊕ one (symbols_in r) ⊕ one (Mark m.OpenParen 0 ∷ symbols_in i) ⊕ one (Mark m.CloseParen 0 ∷ Mark m.Colon 0 ∷ symbols_in q)) refl

pub method_step : {i q : List Piece} {params : List TypeParam} {of : TypeExpr} {o d e f : ℕ} (at : ℕ) (key : Key) (optional : Bool)
    → Back (Under IsTypeParams o) (map plain_param) i params d → Back (Under IsType e) plain_type q of f
    → Back (Under IsTypeMember (max o e)) plain_member (shown_key key ++ optional_pieces optional ++ in_parens i ++ colon_pieces q) (p.Method at key optional params of) (max d f)
method_step {i = i} {q = q} {params = params} {of = of} at key optional x y = back_by λ P into zs told.
    split P {es = symbols_in (shown_key key) ++ symbols_in (optional_pieces optional) ++ (Mark m.OpenParen 0 ∷ symbols_in i)} {fs = Mark m.CloseParen 0 ∷ Mark m.Colon 0 ∷ symbols_in q} zs
    (told ∙ method_told (shown_key key) (optional_pieces optional) i q) λ front back front_told back_told.
    split (λ vs. P (vs ++ back)) {es = symbols_in (shown_key key) ++ symbols_in (optional_pieces optional)} {fs = Mark m.OpenParen 0 ∷ symbols_in i} front front_told λ named opened named_told opened_told.
    split (λ vs. P (vs ++ opened ++ back)) {es = symbols_in (shown_key key)} {fs = symbols_in (optional_pieces optional)} named named_told λ key_syms question_syms key_syms_told question_told.
    split_key (λ vs. P (vs ++ question_syms ++ opened ++ back)) key key_syms key_syms_told λ s keyed.
    split_optional (λ vs. P (s ∷ vs ++ opened ++ back)) optional question_syms question_told λ xs question.
    split_mark (λ vs. P (s ∷ xs ++ vs ++ back)) opened opened_told λ a ys x_told.
    split_mark (λ vs. P (s ∷ xs ++ Mark m.OpenParen a ∷ ys ++ vs)) back back_told λ b more more_told.
    split_mark (λ vs. P (s ∷ xs ++ Mark m.OpenParen a ∷ ys ++ Mark m.CloseParen b ∷ vs)) more more_told λ j us y_told.
    let xr = x.back ys x_told in
    let yr = y.back us y_told in
    let xu = xr.reads in
    let yu = yr.reads in
    into _ (record {
      tree = p.Method (at_of s) (quoted_key key) optional xr.tree yr.tree;
      own = max xr.own yr.own;
      reads = record { count = max xu.count yu.count; derives = g.method_member s a b j keyed question xu.derives yu.derives; within = omega (arith, xu.within, yu.within) };
      below = omega (arith, xr.below, yr.below);
      same = plain_method (at_of s) (quoted_key key) optional xr.tree yr.tree
          ∙ (ap_three (λ v u n. p.Method 0 v optional u n) (key_twice key) xr.same yr.same ∙ sym (plain_method at key optional params of));
    })

-- members, each with `;` behind it
abbrev pub closed_pieces : List Piece → List Piece
closed_pieces of = of ++ mark m.Semicolon

pub no_members_step : {o d : ℕ} → Back (Under IsTypeMembers o) (map plain_member) [] [] d
no_members_step = back_by λ P into zs told.
    split_none P zs told (into _ (record { tree = []; own = 0; reads = record { count = 0; derives = g.no_type_members; within = omega arith }; below = omega arith; same = refl }))

closed_told : (p q : List Piece) → symbols_in (closed_pieces p ++ q) ≡ symbols_in p ++ Mark m.Semicolon 0 ∷ symbols_in q
closed_told p q = alike (one p ⊕ one (mark m.Semicolon) ⊕ one q) (one (symbols_in p) ⊕ one (Mark m.Semicolon 0 ∷ symbols_in q)) refl

pub more_members_step : {p q : List Piece} {of : TypeMember} {rest : List TypeMember} {o d e f : ℕ}
    → Back (Under IsTypeMember o) plain_member p of d → Back (Under IsTypeMembers e) (map plain_member) q rest f
    → Back (Under IsTypeMembers (max o e)) (map plain_member) (closed_pieces p ++ q) (of ∷ rest) (max d f)
more_members_step {p = p} {q = q} x y = back_by λ P into zs told.
    split P {es = symbols_in p} {fs = Mark m.Semicolon 0 ∷ symbols_in q} zs (told ∙ closed_told p q) λ xs back x_told back_told.
    split_mark (λ vs. P (xs ++ vs)) back back_told λ here ys y_told.
    let xr = x.back xs x_told in
    let yr = y.back ys y_told in
    let xu = xr.reads in
    let yu = yr.reads in
    into _ (record {
      tree = xr.tree ∷ yr.tree;
      own = max xr.own yr.own;
      reads = record { count = max xu.count yu.count; derives = g.more_type_members m.Semicolon here xu.derives refl yu.derives; within = omega (arith, xu.within, yu.within) };
      below = omega (arith, xr.below, yr.below);
      same = ap_both (λ v vs. v ∷ vs) xr.same yr.same;
    })

inline_told : (all : List (List Piece)) → symbols_in (flat_map inline_pieces all) ≡ symbols_in (flat_map closed_pieces all)
inline_told [] = refl
inline_told (x ∷ rest) =
    alike (one space ⊕ one x ⊕ one (mark m.Semicolon) ⊕ one (flat_map inline_pieces rest)) (one (symbols_in x) ⊕ one (Mark m.Semicolon 0 ∷ symbols_in (flat_map inline_pieces rest))) refl
    ∙ (ap (λ v. symbols_in x ++ Mark m.Semicolon 0 ∷ v) (inline_told rest) ∙ sym (closed_told x (flat_map closed_pieces rest)))

pub body_told : (all : List (List Piece)) → symbols_in (body_pieces all) ≡ Mark m.OpenBrace 0 ∷ symbols_in (flat_map closed_pieces all) ++ Mark m.CloseBrace 0 ∷ []
body_told [] = refl
body_told (x ∷ rest) =
    alike (one (mark m.OpenBrace) ⊕ one (flat_map inline_pieces (x ∷ rest)) ⊕ one space ⊕ one (mark m.CloseBrace))
    (one (Mark m.OpenBrace 0 ∷ symbols_in (flat_map inline_pieces (x ∷ rest))) ⊕ one (Mark m.CloseBrace 0 ∷ [])) refl
    ∙ ap (λ v. Mark m.OpenBrace 0 ∷ v ++ Mark m.CloseBrace 0 ∷ []) (inline_told (x ∷ rest))

lines_inside : (all : List (List Piece)) → symbols_in (flat_map member_line all) ≡ symbols_in (flat_map closed_pieces all)
lines_inside [] = refl
lines_inside (x ∷ rest) =
    alike (one (pieces.new_line 1) ⊕ one x ⊕ one (mark m.Semicolon) ⊕ one (flat_map member_line rest)) (one (symbols_in x) ⊕ one (Mark m.Semicolon 0 ∷ symbols_in (flat_map member_line rest))) refl
    ∙ (ap (λ v. symbols_in x ++ Mark m.Semicolon 0 ∷ v) (lines_inside rest) ∙ sym (closed_told x (flat_map closed_pieces rest)))

pub lines_told : (all : List (List Piece)) → symbols_in (lines_pieces all) ≡ Mark m.OpenBrace 0 ∷ symbols_in (flat_map closed_pieces all) ++ Mark m.CloseBrace 0 ∷ []
lines_told all =
    alike (one space ⊕ one (mark m.OpenBrace) ⊕ one (flat_map member_line all) ⊕ one (pieces.new_line 0) ⊕ one (mark m.CloseBrace))
    (one (Mark m.OpenBrace 0 ∷ symbols_in (flat_map member_line all)) ⊕ one (Mark m.CloseBrace 0 ∷ [])) refl
    ∙ ap (λ v. Mark m.OpenBrace 0 ∷ v ++ Mark m.CloseBrace 0 ∷ []) (lines_inside all)

pub object_step : {members : List TypeMember} {o d : ℕ} (at : ℕ) (all : List (List Piece)) → Back (Under IsTypeMembers o) (map plain_member) (flat_map closed_pieces all) members d
    → Back (Under IsAtom (o + 1)) plain_type (body_pieces all) (t.Object at members) (d + 1)
object_step {members = members} at all x = back_by λ P into zs told.
    split P {es = Mark m.OpenBrace 0 ∷ symbols_in (flat_map closed_pieces all)} {fs = Mark m.CloseBrace 0 ∷ []} zs (told ∙ body_told all) λ front back front_told back_told.
    split_mark (λ vs. P (vs ++ back)) front front_told λ a xs x_told.
    last_mark (λ vs. P (Mark m.OpenBrace a ∷ xs ++ vs)) back back_told λ b.
    let r = x.back xs x_told in
    let u = r.reads in
    into _ (record {
      tree = t.Object a r.tree;
      own = r.own + 1;
      reads = record { count = u.count + 1; derives = g.object_type a b u.derives; within = omega (arith, u.within) };
      below = omega (arith, r.below);
      same = plain_object a r.tree ∙ (ap (λ v. t.Object 0 v) r.same ∙ sym (plain_object at members));
    })

-- ---- unions

pub no_tail_step : {o d : ℕ} → Back (Under IsTail o) (map plain_type) [] [] d
no_tail_step = back_by λ P into zs told.
    split_none P zs told (into _ (record { tree = []; own = 0; reads = record { count = 0; derives = g.no_tail; within = omega arith }; below = omega arith; same = refl }))

tail_told : (p q : List Piece) → symbols_in (mark m.Bar ++ p ++ q) ≡ Mark m.Bar 0 ∷ symbols_in p ++ symbols_in q
tail_told p q = alike (one (mark m.Bar) ⊕ one p ⊕ one q) (one (Mark m.Bar 0 ∷ symbols_in p) ⊕ one (symbols_in q)) refl

pub more_tail_step : {p q : List Piece} {of : TypeExpr} {rest : List TypeExpr} {o d : ℕ} → is_union of ≡ false
    → Back (Under IsElement o) plain_type p of d → Back (Under IsTail o) (map plain_type) q rest d
    → Back (Under IsTail o) (map plain_type) (mark m.Bar ++ p ++ q) (of ∷ rest) d
more_tail_step {p = p} {q = q} {of = of} h x y = back_by λ P into zs told.
    split P {es = Mark m.Bar 0 ∷ symbols_in p} {fs = symbols_in q} zs (told ∙ tail_told p q) λ front ys front_told y_told.
    split_mark (λ vs. P (vs ++ ys)) front front_told λ a xs x_told.
    let xr = x.back xs x_told in
    let yr = y.back ys y_told in
    let xu = xr.reads in
    let yu = yr.reads in
    let single = single_back xr.tree of xr.same h in
    into _ (record {
      tree = parts_of xr.tree ++ yr.tree;
      own = max (part_count xr.tree xr.own) yr.own;
      reads = record {
        count = max (part_count xr.tree xu.count) yu.count;
        derives = g.more_tail a xu.derives yu.derives;
        within = omega (arith, count_single xr.tree xu.count single, xu.within, yu.within);
      };
      below = omega (arith, count_single xr.tree xr.own single, xr.below, yr.below);
      same = ap (λ v. map plain_type (v ++ yr.tree)) (parts_single xr.tree single) ∙ ap_both (λ v vs. v ∷ vs) xr.same yr.same;
    })

union_told : (p q r : List Piece) → symbols_in (p ++ (mark m.Bar ++ q ++ r)) ≡ symbols_in p ++ Mark m.Bar 0 ∷ symbols_in q ++ symbols_in r
union_told p q r = alike (one p ⊕ (one (mark m.Bar) ⊕ one q ⊕ one r)) (one (symbols_in p) ⊕ one (Mark m.Bar 0 ∷ symbols_in q) ⊕ one (symbols_in r)) refl

pub union_step : {p q r : List Piece} {of next : TypeExpr} {rest : List TypeExpr} {o d : ℕ} (at : ℕ) → is_union of ≡ false → is_union next ≡ false
    → Back (Under IsElement o) plain_type p of d → Back (Under IsElement o) plain_type q next d → Back (Under IsTail o) (map plain_type) r rest d
    → Back (Under IsUnion (o + 1)) plain_type (p ++ (mark m.Bar ++ q ++ r)) (t.Union at (of ∷ next ∷ rest)) (d + 1)
union_step {p = p} {q = q} {r = r} {of = of} {next = next} {rest = rest} at h l x y z = back_by λ P into zs told.
    split P {es = symbols_in p ++ Mark m.Bar 0 ∷ symbols_in q} {fs = symbols_in r} zs (told ∙ union_told p q r) λ front us front_told z_told.
    split (λ vs. P (vs ++ us)) {es = symbols_in p} {fs = Mark m.Bar 0 ∷ symbols_in q} front front_told λ xs back x_told back_told.
    split_mark (λ vs. P (xs ++ vs ++ us)) back back_told λ a ys y_told.
    let xr = x.back xs x_told in
    let yr = y.back ys y_told in
    let zr = z.back us z_told in
    let xu = xr.reads in
    let yu = yr.reads in
    let zu = zr.reads in
    let first = single_back xr.tree of xr.same h in
    let second = single_back yr.tree next yr.same l in
    into _ (record {
      tree = t.Union (start_of xs) (parts_of xr.tree ++ parts_of yr.tree ++ zr.tree);
      own = max (part_count xr.tree xr.own) (max (part_count yr.tree yr.own) zr.own) + 1;
      reads = record {
        count = max (part_count xr.tree xu.count) (max (part_count yr.tree yu.count) zu.count) + 1;
        derives = g.several_elements a xu.derives yu.derives zu.derives;
        within = omega (arith, count_single xr.tree xu.count first, count_single yr.tree yu.count second, xu.within, yu.within, zu.within);
      };
      below = omega (arith, count_single xr.tree xr.own first, count_single yr.tree yr.own second, xr.below, yr.below, zr.below);
      same = plain_union (start_of xs) (parts_of xr.tree ++ parts_of yr.tree ++ zr.tree)
          ∙ (ap_both (λ v u. t.Union 0 (map plain_type (v ++ u ++ zr.tree))) (parts_single xr.tree first) (parts_single yr.tree second)
          ∙ (ap_three (λ v u vs. t.Union 0 (v ∷ u ∷ vs)) xr.same yr.same zr.same ∙ sym (plain_union at (of ∷ next ∷ rest))));
    })

-- the pieces of parts behind the first
abbrev pub tail_pieces : List Shown → List Piece
tail_pieces [] = []
tail_pieces (of ∷ rest) = mark m.Bar ++ part_pieces of ++ tail_pieces rest

pub barred_told : (of : Shown) (rest : List Shown) → symbols_in (barred (of ∷ rest)) ≡ symbols_in (part_pieces of ++ tail_pieces rest)
barred_told of [] = ap symbols_in (sym (append-nil (part_pieces of)))
barred_told of (next ∷ rest) =
    let more = part_pieces next ++ tail_pieces rest in
    alike (one (part_pieces of) ⊕ one space ⊕ one (mark m.Bar) ⊕ one space ⊕ one (barred (next ∷ rest))) (one (symbols_in (part_pieces of)) ⊕ one (Mark m.Bar 0 ∷ symbols_in (barred (next ∷ rest)))) refl
    ∙ (ap (λ v. symbols_in (part_pieces of) ++ Mark m.Bar 0 ∷ v) (barred_told next rest)
    ∙ sym (alike (one (part_pieces of) ⊕ one (pieces.Mark m.Bar ∷ more)) (one (symbols_in (part_pieces of)) ⊕ one (Mark m.Bar 0 ∷ symbols_in more)) refl))
