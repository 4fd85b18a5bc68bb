-- What is kept of the items of a declaration file that were read is read back from its layout.
use Rattle.std.proofs.Common.{◌≡◌, ℕ, ◌≤◌, Bool, true, false, ◌||◌, List, [], ◌∷◌, ◌++◌, map, flat_map, codes, Some, refl, sym, ap, subst, ◌∙◌, arith}
use Rattle.std.specs.List.{AllByRecursion}
use Rattle.tb_tree.specs.declared.marks.Mark.TheVariants as m
use Rattle.tb_tree.specs.declared.words.Word.{Word}
use Rattle.tb_tree.specs.declared.words.Word.TheVariants as w
use Rattle.tb_tree.specs.declared.types.TypeExpr.{TypeExpr}
use Rattle.tb_tree.specs.declared.types.TypeParam.{TypeParam}
use Rattle.tb_tree.specs.declared.items.Specifier.{Specifier}
use Rattle.tb_tree.specs.declared.items.Spec.{Spec}
use Rattle.tb_tree.specs.declared.items.Import.{Import}
use Rattle.tb_tree.specs.declared.items.ExportList.{ExportList}
use Rattle.tb_tree.specs.declared.items.Base.{Base}
use Rattle.tb_tree.specs.declared.items.Interface.{Interface}
use Rattle.tb_tree.specs.declared.items.Alias.{Alias}
use Rattle.tb_tree.specs.declared.items.DeclaredMember.{DeclaredMember}
use Rattle.tb_tree.specs.declared.items.Declared.{Declared}
use Rattle.tb_tree.specs.declared.items.Declared.TheVariants as declared
use Rattle.tb_tree.specs.declared.items.SurfaceItem.{SurfaceItem}
use Rattle.tb_tree.specs.declared.items.SurfaceItem.TheVariants as surface_item
use Rattle.tb_tree.specs.Sym.{Sym, Mark}
use Rattle.tb_tree.specs.Words.{is_type_name, word_of, early_word, middle_word, late_word, other_word, last_word, type_word, named_word}
use Rattle.tb_tree.specs.Shapes.{max_depth, word, IsListed, none_listed, last_listed, more_listed, IsJoined, last_joined, more_joined}
use Rattle.tb_tree.specs.Types as types
use Rattle.tb_tree.specs.Types.{IsShape}
use Rattle.tb_tree.specs.Items as grammar
use Rattle.tb_tree.specs.Items.{IsSpec, IsSpecs, IsFrom, IsImport, IsExportList, IsBase, IsBases, IsInterface, IsAlias, is_member_name, is_as}
use Rattle.tb_tree.specs.Surfaces as surfaces
use Rattle.tb_tree.specs.Surfaces.{IsSignature, IsDeclaredMember, IsDeclaredMembers, IsDeclared, IsDeclItem, is_origin, is_spec, kept, kept_list}
use Rattle.tb_tree.specs.Bare.{bare_spec}
use Rattle.tb_tree.proofs.Ends.{ap_both}
use Rattle.tb_layout.specs.Pieces.{Piece, mark, space, listed}
use Rattle.tb_layout.specs.Pieces as pieces
use Rattle.tb_layout.specs.Js.{kind_pieces}
use Rattle.tb_layout.specs.Shown.{colon_pieces, type_pieces, shown_member}
use Rattle.tb_layout.specs.Dts.{typed_spec_pieces, typed_specs_pieces, from_pieces, import_pieces, export_list_pieces, variables_pieces, params_pieces, base_pieces, bases_pieces, interface_pieces, alias_pieces, declared_member_pieces, class_pieces, surface_item_pieces}
use Rattle.tb_emit_law.proofs.Back.{Back, wrapped, deeper, fore, aft, named}
use Rattle.tb_emit_law.proofs.DeclPlain.{plain_type, plain_param}
use Rattle.tb_emit_law.proofs.DeclSteps.{weaker, closed_pieces}
use Rattle.tb_emit_law.proofs.DeclTypes.{Classed, type_back, type_read, params_read, members_read}
use Rattle.tb_emit_law.proofs.DeclItemSteps as step
use Rattle.tb_emit_law.proofs.DeclItemSteps.{plain_specifier, plain_import, plain_export_list, plain_base, plain_interface, plain_alias, plain_declared_member, plain_declared, plain_item, ReadsSpec, ReadsListed, ReadsSpecs, ReadsFrom, ReadsImport, ReadsExportList, ReadsBase, ReadsJoined, ReadsBases}

-- ---- imports and export lists

local_named : (local : Word → Word → Bool) {kind : Word} (spelled : List ℕ) → kind ≡ word_of spelled → local kind kind ≡ true → local (word_of spelled) (word_of spelled) ≡ true
local_named local spelled e h = sym (ap (λ k. local k k) e) ∙ h

spec_typed : {p : List Piece} {of : Spec} (local : Word → Word → Bool) (typed : Bool) → typed ≡ false → Back (ReadsSpec local false) bare_spec p of 0 → Back (ReadsSpec local typed) bare_spec p of 0
spec_typed {p = p} {of = of} local typed t x = subst (λ b. Back (ReadsSpec local b) bare_spec p of 0) (sym t) x

spec_read : {local : Word → Word → Bool} {typed : Bool} {xs : List Sym} {of : Spec} → IsSpec local typed xs of → Classed xs → Back (ReadsSpec local typed) bare_spec (typed_spec_pieces of) of 0
spec_read {local = local} {typed = typed} (grammar.plain_spec spelled at h) all = step.plain_spec_step local typed at spelled (local_named local spelled all.0 h)
spec_read {local = local} {typed = typed} (grammar.renamed_spec spelled at as_spelled as_at other_spelled other_at h) all =
    step.renamed_spec_step local typed at other_at spelled other_spelled (sym (ap_both local all.0 all.1.1.0) ∙ h)
spec_read {local = local} {typed = typed} (grammar.type_spec type_spelled type_at spelled at t n h) all =
    spec_typed local typed t (step.type_spec_step local type_at at spelled (sym (ap is_as all.1.0) ∙ n) (local_named local spelled all.1.0 h))
spec_read {local = local} {typed = typed} (grammar.renamed_type_spec type_spelled type_at spelled at as_spelled as_at other_spelled other_at t n h) all =
    spec_typed local typed t
    (step.renamed_type_spec_step local type_at at other_at spelled other_spelled (sym (ap is_as all.1.0) ∙ n) (sym (ap_both local all.1.0 all.1.1.1.0) ∙ h))

specs_more : (local : Word → Word → Bool) (typed : Bool) (of : Spec) (rest : List Spec) → Back (ReadsSpec local typed) bare_spec (typed_spec_pieces of) of 0
    → Back (ReadsListed local typed) (map bare_spec) (listed (map typed_spec_pieces rest)) rest 0 → Back (ReadsListed local typed) (map bare_spec) (listed (map typed_spec_pieces (of ∷ rest))) (of ∷ rest) 0
specs_more local typed of [] x y = step.last_spec_step local typed x
specs_more local typed of (next ∷ rest) x y = step.more_specs_step local typed x y

abbrev pub SpecBack : (Word → Word → Bool) → Bool → Spec → Type 0
SpecBack local typed of = Back (ReadsSpec local typed) bare_spec (typed_spec_pieces of) of 0

pub each_spec : {local : Word → Word → Bool} {typed : Bool} {xs : List Sym} {of : List Spec} → IsListed (IsSpec local typed) xs of → Classed xs → AllByRecursion (SpecBack local typed) of
each_spec none_listed all = tt
each_spec (last_listed q) all = (spec_read q all, tt)
each_spec (more_listed comma {xs = xs} {ys = ys} q r) all = (spec_read q (fore xs (Mark m.Comma comma ∷ ys) all), each_spec r (aft xs (Mark m.Comma comma ∷ ys) all).1)

listed_back : (local : Word → Word → Bool) (typed : Bool) (of : List Spec) → AllByRecursion (SpecBack local typed) of → Back (ReadsListed local typed) (map bare_spec) (listed (map typed_spec_pieces of)) of 0
listed_back local typed [] h = step.no_specs_step local typed
listed_back local typed (of ∷ rest) h = specs_more local typed of rest h.0 (listed_back local typed rest h.1)

pub specs_back : (local : Word → Word → Bool) (typed : Bool) (of : List Spec) → AllByRecursion (SpecBack local typed) of → Back (ReadsSpecs local typed) (map bare_spec) (typed_specs_pieces of) of 0
specs_back local typed of h = step.specs_step local typed (map typed_spec_pieces of) (listed_back local typed of h)

specs_read : {local : Word → Word → Bool} {typed : Bool} {xs : List Sym} {of : List Spec} → IsSpecs local typed xs of → Classed xs → Back (ReadsSpecs local typed) (map bare_spec) (typed_specs_pieces of) of 0
specs_read {local = local} {typed = typed} (grammar.specs a b {xs = xs} {of = of} q) all = specs_back local typed of (each_spec q (fore xs (Mark m.CloseBrace b ∷ []) all.1))

from_read : {xs : List Sym} {of : Specifier} → IsFrom xs of → Back ReadsFrom plain_specifier (from_pieces (Some of)) of 0
from_read (grammar.from from_spelled from_at spelled at) = step.from_step at spelled

pub import_read : {xs : List Sym} {of : Import} → IsImport xs of → Classed xs → Back ReadsImport plain_import (import_pieces of) of 0
import_read (grammar.import_list {type_only = typed} spelled at i {xs = xs} {ys = ys} {zs = zs} t s q) all =
    step.import_list_step at typed (specs_read s (aft (word w.Import spelled at ∷ xs) ys (fore (word w.Import spelled at ∷ xs ++ ys) zs (fore (word w.Import spelled at ∷ xs ++ ys ++ zs) (Mark m.Semicolon i ∷ []) all)))) (from_read q)
import_read (grammar.import_bare spelled at from_spelled from_at i) all = step.import_bare_step at from_at from_spelled

pub export_list_read : {xs : List Sym} {of : ExportList} → IsExportList xs of → Classed xs → Back ReadsExportList plain_export_list (export_list_pieces of) of 0
export_list_read (grammar.export_list {type_only = typed} spelled at i {xs = xs} {ys = ys} t s) all =
    step.export_list_step at typed (specs_read s (aft (word w.Export spelled at ∷ xs) ys (fore (word w.Export spelled at ∷ xs ++ ys) (Mark m.Semicolon i ∷ []) all)))
export_list_read (grammar.export_from {type_only = typed} spelled at i {xs = xs} {ys = ys} {zs = zs} t s q) all =
    step.export_from_step at typed (specs_read s (aft (word w.Export spelled at ∷ xs) ys (fore (word w.Export spelled at ∷ xs ++ ys) zs (fore (word w.Export spelled at ∷ xs ++ ys ++ zs) (Mark m.Semicolon i ∷ []) all)))) (from_read q)

-- ---- parts of declarations

pub shape_read : {xs : List Sym} {of : TypeExpr} {d : ℕ} → IsShape xs of d → Classed xs → Back IsShape plain_type (colon_pieces (type_pieces of)) of d
shape_read (types.shape colon q h) all = step.shape_step (weaker h (omega arith) (type_back (type_read q all.1)))

pub signature_read : {xs : List Sym} {params : List TypeParam} {d : ℕ} → IsSignature xs params d → Classed xs → Back IsSignature (map plain_param) (params_pieces params) params d
signature_read (surfaces.signature a b {xs = xs} q h) all = step.signature_step (weaker h (omega arith) (params_read q (fore xs (Mark m.CloseParen b ∷ []) all.1)))

bases_more : (of : Base) (rest : List Base) → Back ReadsBase plain_base (base_pieces of) of 0 → Back ReadsJoined (map plain_base) (listed (map base_pieces rest)) rest 0
    → Back ReadsJoined (map plain_base) (listed (map base_pieces (of ∷ rest))) (of ∷ rest) 0
bases_more of [] x y = step.last_base_step x
bases_more of (next ∷ rest) x y = step.more_bases_step x y

base_read : {xs : List Sym} {of : Base} → IsBase xs of → Classed xs → Back ReadsBase plain_base (base_pieces of) of 0
base_read (grammar.base spelled at h) all = step.base_step at spelled (named spelled all.0 h)

joined_read : {xs : List Sym} {of : List Base} → IsJoined IsBase xs of → Classed xs → Back ReadsJoined (map plain_base) (listed (map base_pieces of)) of 0
joined_read (last_joined q) all = step.last_base_step (base_read q all)
joined_read (more_joined comma {xs = xs} {ys = ys} {of = of} {rest = rest} q r) all =
    bases_more of rest (base_read q (fore xs (Mark m.Comma comma ∷ ys) all)) (joined_read r (aft xs (Mark m.Comma comma ∷ ys) all).1)

bases_some : (keyword : List ℕ) (of : List Base) → Back ReadsJoined (map plain_base) (listed (map base_pieces of)) of 0 → Back (ReadsBases (word_of keyword)) (map plain_base) (bases_pieces keyword of) of 0
bases_some keyword [] x = step.no_bases_step (word_of keyword)
bases_some keyword (of ∷ rest) x = step.some_bases_step keyword x

bases_by : {kind : Word} {xs : List Sym} {of : List Base} (keyword : List ℕ) → word_of keyword ≡ kind → IsBases kind xs of → Classed xs → Back (ReadsBases kind) (map plain_base) (bases_pieces keyword of) of 0
bases_by {kind = kind} keyword e grammar.no_bases all = step.no_bases_step kind
bases_by {kind = kind} keyword e (grammar.some_bases spelled at {of = of} q) all =
    subst (λ k. Back (ReadsBases k) (map plain_base) (bases_pieces keyword of) of 0) e (bases_some keyword of (joined_read q all.1))

extends_is : word_of (codes "extends") ≡ w.Extends
unfolding early_word middle_word late_word other_word last_word type_word named_word
extends_is = refl

implements_is : word_of (codes "implements") ≡ w.Implements
unfolding early_word middle_word late_word other_word last_word type_word named_word
implements_is = refl

pub implements_read : {xs : List Sym} {of : List Base} → IsBases w.Implements xs of → Classed xs → Back (ReadsBases w.Implements) (map plain_base) (bases_pieces (codes "implements") of) of 0
implements_read q all = bases_by (codes "implements") implements_is q all

type_named : {kind : Word} (spelled : List ℕ) → kind ≡ word_of spelled → is_type_name kind ≡ true → is_type_name (word_of spelled) ≡ true
type_named spelled e h = sym (ap is_type_name e) ∙ h

pub interface_read : {xs : List Sym} {of : Interface} {d : ℕ} → IsInterface xs of d → Classed xs → Back IsInterface plain_interface (interface_pieces of) of d
interface_read (grammar.interface {kind = kind} interface_spelled interface_at spelled at o p {xs = xs} {ys = ys} {of = of} h b q l) all =
    let head = word w.Interface interface_spelled interface_at ∷ word kind spelled at ∷ xs in
    let front = fore (head ++ Mark m.OpenBrace o ∷ ys) (Mark m.CloseBrace p ∷ []) all in
    step.interface_step at spelled (map shown_member of) (type_named spelled all.1.0 h)
    (bases_by (codes "extends") extends_is b (fore head (Mark m.OpenBrace o ∷ ys) front).1.1)
    (weaker l (omega arith) (members_read q (aft head (Mark m.OpenBrace o ∷ ys) front).1))

pub alias_read : {xs : List Sym} {of : Alias} {d : ℕ} → IsAlias xs of d → Classed xs → Back IsAlias plain_alias (alias_pieces of) of d
alias_read (grammar.alias type_spelled type_at spelled at assign i {xs = xs} h q l) all =
    step.alias_step at spelled (type_named spelled all.1.0 h) (weaker l (omega arith) (type_back (type_read q (fore xs (Mark m.Semicolon i ∷ []) all.1.1.1))))

member_named : {kind : Word} (spelled : List ℕ) → kind ≡ word_of spelled → is_member_name kind ≡ true → is_member_name (word_of spelled) ≡ true
member_named spelled e h = sym (ap is_member_name e) ∙ h

member_read : {built : Bool} {xs : List Sym} {of : DeclaredMember} {d : ℕ} → IsDeclaredMember built xs of d → Classed xs
    → Back (IsDeclaredMember built) plain_declared_member (closed_pieces (declared_member_pieces of)) of d
member_read (surfaces.declared_field {is_static = is_static} {read_only = read_only} {optional = optional} kind spelled at i {xs = xs} {ys = ys} {zs = zs} {vs = vs} s r h q t) all =
    let front = fore (xs ++ ys ++ word kind spelled at ∷ zs ++ vs) (Mark m.Semicolon i ∷ []) all in
    let name = (aft (xs ++ ys) (word kind spelled at ∷ zs) (fore (xs ++ ys ++ word kind spelled at ∷ zs) vs front)).0 in
    step.field_step at is_static read_only spelled optional (member_named spelled name h) (shape_read t (aft (xs ++ ys ++ word kind spelled at ∷ zs) vs front))
member_read (surfaces.declared_constructor spelled at i {xs = xs} q) all = step.constructor_step at (signature_read q (fore xs (Mark m.Semicolon i ∷ []) all.1))
member_read (surfaces.declared_method {is_static = is_static} kind spelled at i {xs = xs} {ys = ys} {zs = zs} s h q t) all =
    let front = fore (xs ++ word kind spelled at ∷ ys ++ zs) (Mark m.Semicolon i ∷ []) all in
    let head = aft xs (word kind spelled at ∷ ys) (fore (xs ++ word kind spelled at ∷ ys) zs front) in
    step.method_step at is_static spelled (member_named spelled head.0 h) (signature_read q head.1) (shape_read t (aft (xs ++ word kind spelled at ∷ ys) zs front))

declared_members_read : {built : Bool} {xs : List Sym} {of : List DeclaredMember} {d : ℕ} → IsDeclaredMembers built xs of d → Classed xs
    → Back (IsDeclaredMembers built) (map plain_declared_member) (flat_map closed_pieces (map declared_member_pieces of)) of d
declared_members_read surfaces.no_declared_members all = step.no_declared_step
declared_members_read (surfaces.more_declared_members {xs = xs} {ys = ys} q r h) all = step.more_declared_step h (member_read q (fore xs ys all)) (declared_members_read r (aft xs ys all))

-- ---- declarations

-- the pieces without `declare`
abbrev pub body_pieces : Declared → List Piece
body_pieces (declared.Variable at kind name shape) = kind_pieces kind ++ space ++ pieces.word name ++ colon_pieces (type_pieces shape) ++ mark m.Semicolon
body_pieces (declared.Function at name variables params result) =
    pieces.word (codes "function") ++ space ++ pieces.word name ++ variables_pieces variables ++ params_pieces params ++ colon_pieces (type_pieces result) ++ mark m.Semicolon
body_pieces (declared.Class of) = class_pieces of
body_pieces (declared.Interface of) = interface_pieces of
body_pieces (declared.Alias of) = alias_pieces of

pub interface_back : {of : Interface} {d : ℕ} → Back IsInterface plain_interface (interface_pieces of) of d → Back IsDeclared plain_declared (interface_pieces of) (declared.Interface of) d
interface_back x = wrapped declared.Interface (λ of. refl) (λ xs of n r. surfaces.declared_interface r) x

pub alias_back : {of : Alias} {d : ℕ} → Back IsAlias plain_alias (alias_pieces of) of d → Back IsDeclared plain_declared (alias_pieces of) (declared.Alias of) d
alias_back x = wrapped declared.Alias (λ of. refl) (λ xs of n r. surfaces.declared_alias r) x

declared_read : {xs : List Sym} {of : Declared} {d : ℕ} → IsDeclared xs of d → Classed xs → Back IsDeclared plain_declared (body_pieces of) of d
declared_read (surfaces.declared_variable {kind = kind} kind_spelled kind_at spelled at i {xs = xs} e h q) all =
    step.variable_step at kind spelled (named spelled all.1.0 h) (shape_read q (fore xs (Mark m.Semicolon i ∷ []) all.1.1))
declared_read (surfaces.declared_function function_spelled function_at spelled at i {xs = xs} {ys = ys} h q r) all =
    let front = fore (xs ++ ys) (Mark m.Semicolon i ∷ []) all.1.1 in
    step.function_step at spelled (named spelled all.1.0 h) (signature_read q (fore xs ys front)) (shape_read r (aft xs ys front))
declared_read (surfaces.declared_class {kind = kind} class_spelled class_at spelled at o p {xs = xs} {ys = ys} {of = of} h b q) all =
    let head = word w.Class class_spelled class_at ∷ word kind spelled at ∷ xs in
    let front = fore (head ++ Mark m.OpenBrace o ∷ ys) (Mark m.CloseBrace p ∷ []) all in
    step.class_step at spelled (map declared_member_pieces of) (type_named spelled all.1.0 h) (implements_read b (fore head (Mark m.OpenBrace o ∷ ys) front).1.1)
    (declared_members_read q (aft head (Mark m.OpenBrace o ∷ ys) front).1)
declared_read (surfaces.declared_interface q) all = interface_back (interface_read q all)
declared_read (surfaces.declared_alias q) all = alias_back (alias_read q all)

-- ---- items

-- an item reads back
abbrev pub ItemBack : SurfaceItem → Type 0
ItemBack of = Back IsDeclItem (map plain_item) (surface_item_pieces of) (of ∷ []) max_depth

pub declaration_back : {d : ℕ} (exported : Bool) (of : Declared) → d ≤ max_depth → Back IsDeclared plain_declared (body_pieces of) of d → ItemBack (surface_item.Declaration exported of)
declaration_back exported (declared.Variable at kind name shape) h x = deeper h (step.declared_item_step exported true x)
declaration_back exported (declared.Function at name variables params result) h x = deeper h (step.declared_item_step exported true x)
declaration_back exported (declared.Class of) h x = deeper h (step.declared_item_step exported true x)
declaration_back exported (declared.Interface of) h x = deeper h (step.declared_item_step exported false x)
declaration_back exported (declared.Alias of) h x = deeper h (step.declared_item_step exported false x)

kept_by : (of : ExportList) (b : Bool) → (is_spec of.specs || is_origin of.from) ≡ b → Back ReadsExportList plain_export_list (export_list_pieces of) of 0 → AllByRecursion ItemBack (kept_list of b)
kept_by of true e x = (deeper (omega arith) (step.export_item_step e x), tt)
kept_by of false e x = tt

pub list_back : {xs : List Sym} {of : ExportList} → IsExportList xs of → Classed xs → AllByRecursion ItemBack (kept of)
list_back {of = of} q all = kept_by of (is_spec of.specs || is_origin of.from) refl (export_list_read q all)

pub import_back : {xs : List Sym} {of : Import} → IsImport xs of → Classed xs → ItemBack (surface_item.Import of)
import_back q all = deeper (omega arith) (step.import_item_step (import_read q all))

pub item_read : {xs : List Sym} {of : List SurfaceItem} {d : ℕ} → IsDeclItem xs of d → d ≤ max_depth → Classed xs → AllByRecursion ItemBack of
item_read (surfaces.declared_import q) h all = (import_back q all, tt)
item_read (surfaces.declared_list q) h all = list_back q all
item_read (surfaces.declared_item {exported = exported} {xs = xs} {ys = ys} {zs = zs} {of = of} e a q) h all = (declaration_back exported of h (declared_read q (aft (xs ++ ys) zs all)), tt)
