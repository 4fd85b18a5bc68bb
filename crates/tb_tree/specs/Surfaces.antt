-- The grammar of declaration files, by cases on whole lists of symbols: a subset of TypeScript's. Each rule that has types under it
-- gives the tree and its exact depth.
use Rattle.std.specs.Prelude.{ℕ, ◌≤◌, max, ◌≡◌, Bool, true, false, ◌||◌, ◌&&◌, List, [], ◌∷◌, ◌++◌, Option, Some, None}
use Rattle.tb_tree.specs.declared.marks.Mark.TheVariants as m
use Rattle.tb_tree.specs.declared.words.Word.{Word}
use Rattle.tb_tree.specs.declared.words.Word.TheVariants as w
use Rattle.tb_tree.specs.declared.types.TypeExpr.{TypeExpr}
use Rattle.tb_tree.specs.declared.types.TypeParam.{TypeParam}
use Rattle.tb_tree.specs.declared.exprs.VarKind.{VarKind}
use Rattle.tb_tree.specs.declared.items.Specifier.{Specifier}
use Rattle.tb_tree.specs.declared.items.Spec.{Spec}
use Rattle.tb_tree.specs.declared.items.Import.{Import}
use Rattle.tb_tree.specs.declared.items.ExportList.{ExportList}
use Rattle.tb_tree.specs.declared.items.Base.{Base}
use Rattle.tb_tree.specs.declared.items.Interface.{Interface}
use Rattle.tb_tree.specs.declared.items.Alias.{Alias}
use Rattle.tb_tree.specs.declared.items.Declared.{Declared}
use Rattle.tb_tree.specs.declared.items.Declared.TheVariants as declared
use Rattle.tb_tree.specs.declared.items.DeclaredMember.{DeclaredMember}
use Rattle.tb_tree.specs.declared.items.DeclaredMember.TheVariants as member
use Rattle.tb_tree.specs.declared.items.SurfaceItem.{SurfaceItem}
use Rattle.tb_tree.specs.declared.items.SurfaceItem.TheVariants as surface_item
use Rattle.tb_tree.specs.Sym.{Sym, Mark}
use Rattle.tb_tree.specs.Words.{is_name, is_type_name}
use Rattle.tb_tree.specs.Shapes.{max_depth, word, IsMarked, IsWorded}
use Rattle.tb_tree.specs.Types.{IsShape, IsTypeParams}
use Rattle.tb_tree.specs.Exprs.{kind_of}
use Rattle.tb_tree.specs.Items.{IsImport, IsExportList, IsBases, IsInterface, IsAlias, is_member_name}

-- `( TypeParam,* )`
pub data IsSignature : List Sym → List TypeParam → ℕ → Type 0 where
  signature : (open_at close_at : ℕ) {xs : List Sym} {of : List TypeParam} {own depth : ℕ} → IsTypeParams xs of own depth → own ≤ max_depth
      → IsSignature (Mark m.OpenParen open_at ∷ xs ++ Mark m.CloseParen close_at ∷ []) of depth

-- A member of a class: a field, `static? readonly? Word`, optional `?`, `: Type ;`; `constructor ( TypeParam,* ) ;`; or a method,
-- `static? Word ( TypeParam,* ) : Type ;`. The index says whether it is a constructor.
pub data IsDeclaredMember : Bool → List Sym → DeclaredMember → ℕ → Type 0 where
  declared_field : {is_static read_only optional : Bool} (kind : Word) (spelled : List ℕ) (at semicolon : ℕ) {xs ys zs vs : List Sym} {of : TypeExpr} {d : ℕ}
      → IsWorded w.Static xs is_static → IsWorded w.Readonly ys read_only → is_member_name kind ≡ true → IsMarked m.Question zs optional → IsShape vs of d
      → IsDeclaredMember false (xs ++ ys ++ word kind spelled at ∷ zs ++ vs ++ Mark m.Semicolon semicolon ∷ [])
      (member.Field at is_static read_only spelled optional of) d
  declared_constructor : (spelled : List ℕ) (at semicolon : ℕ) {xs : List Sym} {params : List TypeParam} {d : ℕ} → IsSignature xs params d
      → IsDeclaredMember true (word w.Constructor spelled at ∷ xs ++ Mark m.Semicolon semicolon ∷ []) (member.Constructor at params) d
  declared_method : {is_static : Bool} (kind : Word) (spelled : List ℕ) (at semicolon : ℕ) {xs ys zs : List Sym} {params : List TypeParam} {of : TypeExpr} {d e : ℕ}
      → IsWorded w.Static xs is_static → is_member_name kind ≡ true → IsSignature ys params d → IsShape zs of e
      → IsDeclaredMember false (xs ++ word kind spelled at ∷ ys ++ zs ++ Mark m.Semicolon semicolon ∷ []) (member.Method at is_static spelled params of) (max d e)

-- any number of members, with at most one constructor; the index says whether there is one
pub data IsDeclaredMembers : Bool → List Sym → List DeclaredMember → ℕ → Type 0 where
  no_declared_members : IsDeclaredMembers false [] [] 0
  more_declared_members : {here later : Bool} {xs ys : List Sym} {of : DeclaredMember} {rest : List DeclaredMember} {d e : ℕ}
      → IsDeclaredMember here xs of d → IsDeclaredMembers later ys rest e → (here && later) ≡ false
      → IsDeclaredMembers (here || later) (xs ++ ys) (of ∷ rest) (max d e)

-- what is declared: `const` or `let`, `Name : Type ;`; `function Name ( TypeParam,* ) : Type ;`; a class; Interface; Alias
pub data IsDeclared : List Sym → Declared → ℕ → Type 0 where
  declared_variable : {word_kind : Word} {kind : VarKind} {name_kind : Word} (kind_spelled : List ℕ) (kind_at : ℕ) (spelled : List ℕ) (at semicolon : ℕ) {xs : List Sym} {of : TypeExpr} {d : ℕ}
      → kind_of word_kind ≡ Some kind → is_name name_kind ≡ true → IsShape xs of d
      → IsDeclared (word word_kind kind_spelled kind_at ∷ word name_kind spelled at ∷ xs ++ Mark m.Semicolon semicolon ∷ []) (declared.Variable at kind spelled of) d
  declared_function : {kind : Word} (function_spelled : List ℕ) (function_at : ℕ) (spelled : List ℕ) (at semicolon : ℕ) {xs ys : List Sym} {params : List TypeParam} {of : TypeExpr} {d e : ℕ}
      → is_name kind ≡ true → IsSignature xs params d → IsShape ys of e
      → IsDeclared (word w.Function function_spelled function_at ∷ word kind spelled at ∷ xs ++ ys ++ Mark m.Semicolon semicolon ∷ [])
      (declared.Function at spelled [] params of) (max d e)
  declared_class : {kind : Word} {constructed : Bool} (class_spelled : List ℕ) (class_at : ℕ) (spelled : List ℕ) (at open_at close_at : ℕ) {xs ys : List Sym} {bases : List Base} {of : List DeclaredMember} {d : ℕ}
      → is_type_name kind ≡ true → IsBases w.Implements xs bases → IsDeclaredMembers constructed ys of d
      → IsDeclared (word w.Class class_spelled class_at ∷ word kind spelled at ∷ xs ++ Mark m.OpenBrace open_at ∷ ys ++ Mark m.CloseBrace close_at ∷ [])
      (declared.Class (record { at = at; name = spelled; implements = bases; members = of })) d
  declared_interface : {xs : List Sym} {of : Interface} {d : ℕ} → IsInterface xs of d → IsDeclared xs (declared.Interface of) d
  declared_alias : {xs : List Sym} {of : Alias} {d : ℕ} → IsAlias xs of d → IsDeclared xs (declared.Alias of) d

-- an export list without Specs and without `from` is not kept
abbrev pub is_origin : Option Specifier → Bool
is_origin None = false
is_origin (Some of) = true

abbrev pub is_spec : List Spec → Bool
is_spec [] = false
is_spec (of ∷ rest) = true

abbrev pub kept_list : ExportList → Bool → List SurfaceItem
kept_list of true = surface_item.ExportList of ∷ []
kept_list of false = []

abbrev pub kept : ExportList → List SurfaceItem
kept of = kept_list of (is_spec of.specs || is_origin of.from)

-- An item, and what is kept of it: Import; ExportList; or `export?`, `declare?`, and what is declared
pub data IsDeclItem : List Sym → List SurfaceItem → ℕ → Type 0 where
  declared_import : {xs : List Sym} {of : Import} → IsImport xs of → IsDeclItem xs (surface_item.Import of ∷ []) 0
  declared_list : {xs : List Sym} {of : ExportList} → IsExportList xs of → IsDeclItem xs (kept of) 0
  declared_item : {exported ambient : Bool} {xs ys zs : List Sym} {of : Declared} {d : ℕ} → IsWorded w.Export xs exported → IsWorded w.Declare ys ambient → IsDeclared zs of d
      → IsDeclItem (xs ++ ys ++ zs) (surface_item.Declaration exported of ∷ []) d

-- the symbols are the item
abbrev pub DerivesDeclItem : List Sym → List SurfaceItem → Type 0
DerivesDeclItem xs of = (depth : ℕ) × IsDeclItem xs of depth × (depth ≤ max_depth)
