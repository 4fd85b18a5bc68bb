-- The grammar of items, by cases on whole lists of symbols: a subset of TypeScript's. Each rule that has types, expressions or
-- blocks under it gives the tree and its exact depth.
use Rattle.std.specs.Prelude.{ℕ, ◌≤◌, max, ◌≡◌, Bool, true, false, ◌||◌, ◌&&◌, List, [], ◌∷◌, ◌++◌, Option, Some, None}
use Rattle.tb_tree.specs.declared.marks.Mark.TheVariants as m
use Rattle.tb_tree.specs.declared.words.Word.{Word}
use Rattle.tb_tree.specs.declared.words.Word.TheVariants as w
use Rattle.tb_tree.specs.declared.words.Class.TheVariants as c
use Rattle.tb_tree.specs.declared.types.TypeExpr.{TypeExpr}
use Rattle.tb_tree.specs.declared.types.TypeMember.{TypeMember}
use Rattle.tb_tree.specs.declared.exprs.Expr.{Expr}
use Rattle.tb_tree.specs.declared.exprs.Identifier.{Identifier}
use Rattle.tb_tree.specs.declared.exprs.Param.{Param}
use Rattle.tb_tree.specs.declared.exprs.Block.{Block}
use Rattle.tb_tree.specs.declared.exprs.Var.{Var}
use Rattle.tb_tree.specs.declared.exprs.Function.{Function}
use Rattle.tb_tree.specs.declared.exprs.Stmt.{Stmt}
use Rattle.tb_tree.specs.declared.items.Specifier.{Specifier}
use Rattle.tb_tree.specs.declared.items.Spec.{Spec}
use Rattle.tb_tree.specs.declared.items.Import.{Import}
use Rattle.tb_tree.specs.declared.items.Import.TheVariants as import_form
use Rattle.tb_tree.specs.declared.items.ExportList.{ExportList}
use Rattle.tb_tree.specs.declared.items.Base.{Base}
use Rattle.tb_tree.specs.declared.items.ClassMember.{ClassMember}
use Rattle.tb_tree.specs.declared.items.ClassMember.TheVariants as class_member
use Rattle.tb_tree.specs.declared.items.ClassDeclaration.{ClassDeclaration}
use Rattle.tb_tree.specs.declared.items.Interface.{Interface}
use Rattle.tb_tree.specs.declared.items.Alias.{Alias}
use Rattle.tb_tree.specs.declared.items.Declaration.{Declaration}
use Rattle.tb_tree.specs.declared.items.Declaration.TheVariants as declaration
use Rattle.tb_tree.specs.declared.items.Item.{Item}
use Rattle.tb_tree.specs.declared.items.Item.TheVariants as item
use Rattle.tb_tree.specs.Sym.{Sym, Mark, Lex}
use Rattle.tb_tree.specs.Words.{is_name, is_type_name}
use Rattle.tb_tree.specs.Shapes.{max_depth, word, IsMarked, IsWorded, IsListed, IsJoined}
use Rattle.tb_tree.specs.Types.{IsType, IsTypeMembers}
use Rattle.tb_tree.specs.Exprs.{IsParams, IsAnnotation, IsValue, IsBlock, IsVar, IsFunction, IsStmt, a_body, no_body}

-- ---- imports and export lists

-- Which word of a Spec is the local name, and so a Name: in an import the last, in an export list without `from` the first. With
-- `from` no word is.
abbrev pub last_is_local : Word → Word → Bool
last_is_local first last = is_name last

abbrev pub first_is_local : Word → Word → Bool
first_is_local first last = is_name first

abbrev pub none_is_local : Word → Word → Bool
none_is_local first last = true

-- `as` after `type` shows that the `type` is no modifier
abbrev pub is_as : Word → Bool
is_as w.As = true
is_as _ = false

abbrev pub identifier : List ℕ → ℕ → Identifier
identifier spelled at = record { at = at; name = spelled }

-- Spec: `type? Word` or `type? Word as Word`. The modifier `type` does not stand in a list that is `type` already, and not before a
-- Word `as`. (So `type as b` renames what is named `type`.)
pub data IsSpec (local : Word → Word → Bool) (type_only : Bool) : List Sym → Spec → Type 0 where
  plain_spec : {kind : Word} (spelled : List ℕ) (at : ℕ) → local kind kind ≡ true
      → IsSpec local type_only (word kind spelled at ∷ []) (record { at = at; type_only = false; name = identifier spelled at; renamed = None })
  renamed_spec : {kind other : Word} (spelled : List ℕ) (at : ℕ) (as_spelled : List ℕ) (as_at : ℕ) (other_spelled : List ℕ) (other_at : ℕ) → local kind other ≡ true
      → IsSpec local type_only (word kind spelled at ∷ word w.As as_spelled as_at ∷ word other other_spelled other_at ∷ [])
      (record { at = at; type_only = false; name = identifier spelled at; renamed = Some (identifier other_spelled other_at) })
  type_spec : {kind : Word} (type_spelled : List ℕ) (type_at : ℕ) (spelled : List ℕ) (at : ℕ) → type_only ≡ false → is_as kind ≡ false → local kind kind ≡ true
      → IsSpec local type_only (word w.Type type_spelled type_at ∷ word kind spelled at ∷ [])
      (record { at = type_at; type_only = true; name = identifier spelled at; renamed = None })
  renamed_type_spec : {kind other : Word} (type_spelled : List ℕ) (type_at : ℕ) (spelled : List ℕ) (at : ℕ) (as_spelled : List ℕ) (as_at : ℕ) (other_spelled : List ℕ) (other_at : ℕ)
      → type_only ≡ false → is_as kind ≡ false → local kind other ≡ true
      → IsSpec local type_only (word w.Type type_spelled type_at ∷ word kind spelled at ∷ word w.As as_spelled as_at ∷ word other other_spelled other_at ∷ [])
      (record { at = type_at; type_only = true; name = identifier spelled at; renamed = Some (identifier other_spelled other_at) })

-- Spec,* in braces
pub data IsSpecs (local : Word → Word → Bool) (type_only : Bool) : List Sym → List Spec → Type 0 where
  specs : (open_at close_at : ℕ) {xs : List Sym} {of : List Spec} → IsListed (IsSpec local type_only) xs of
      → IsSpecs local type_only (Mark m.OpenBrace open_at ∷ xs ++ Mark m.CloseBrace close_at ∷ []) of

-- `from String`
pub data IsFrom : List Sym → Specifier → Type 0 where
  from : (from_spelled : List ℕ) (from_at : ℕ) (spelled : List ℕ) (at : ℕ)
      → IsFrom (word w.From from_spelled from_at ∷ Lex c.String spelled at ∷ []) (record { at = at; spelled = spelled })

-- Import: `import type? { Spec,* } from String ;` or `import String ;`
pub data IsImport : List Sym → Import → Type 0 where
  import_list : {type_only : Bool} (spelled : List ℕ) (at semicolon : ℕ) {xs ys zs : List Sym} {of : List Spec} {origin : Specifier}
      → IsWorded w.Type xs type_only → IsSpecs last_is_local type_only ys of → IsFrom zs origin
      → IsImport (word w.Import spelled at ∷ xs ++ ys ++ zs ++ Mark m.Semicolon semicolon ∷ []) (import_form.List at type_only of origin)
  import_bare : (spelled : List ℕ) (at : ℕ) (from_spelled : List ℕ) (from_at semicolon : ℕ)
      → IsImport (word w.Import spelled at ∷ Lex c.String from_spelled from_at ∷ Mark m.Semicolon semicolon ∷ [])
      (import_form.Bare at (record { at = from_at; spelled = from_spelled }))

-- ExportList: `export type? { Spec,* } ;` or the same with `from String` before `;`
pub data IsExportList : List Sym → ExportList → Type 0 where
  export_list : {type_only : Bool} (spelled : List ℕ) (at semicolon : ℕ) {xs ys : List Sym} {of : List Spec}
      → IsWorded w.Type xs type_only → IsSpecs first_is_local type_only ys of
      → IsExportList (word w.Export spelled at ∷ xs ++ ys ++ Mark m.Semicolon semicolon ∷ [])
      (record { at = at; type_only = type_only; specs = of; from = None })
  export_from : {type_only : Bool} (spelled : List ℕ) (at semicolon : ℕ) {xs ys zs : List Sym} {of : List Spec} {origin : Specifier}
      → IsWorded w.Type xs type_only → IsSpecs none_is_local type_only ys of → IsFrom zs origin
      → IsExportList (word w.Export spelled at ∷ xs ++ ys ++ zs ++ Mark m.Semicolon semicolon ∷ [])
      (record { at = at; type_only = type_only; specs = of; from = Some origin })

-- ---- interfaces and aliases

-- Name
pub data IsBase : List Sym → Base → Type 0 where
  base : {kind : Word} (spelled : List ℕ) (at : ℕ) → is_name kind ≡ true → IsBase (word kind spelled at ∷ []) (record { at = at; name = spelled; arguments = [] })

-- optional `implements Name,+`, and the same with `extends`
pub data IsBases (kind : Word) : List Sym → List Base → Type 0 where
  no_bases : IsBases kind [] []
  some_bases : (spelled : List ℕ) (at : ℕ) {xs : List Sym} {of : List Base} → IsJoined IsBase xs of → IsBases kind (word kind spelled at ∷ xs) of

-- Interface: `interface Name`, optional `extends Name,+`, Body. (The Body is no type node.)
pub data IsInterface : List Sym → Interface → ℕ → Type 0 where
  interface : {kind : Word} (interface_spelled : List ℕ) (interface_at : ℕ) (spelled : List ℕ) (at open_at close_at : ℕ) {xs ys : List Sym} {bases : List Base} {of : List TypeMember} {own depth : ℕ}
      → is_type_name kind ≡ true → IsBases w.Extends xs bases → IsTypeMembers ys of own depth → own ≤ max_depth
      → IsInterface (word w.Interface interface_spelled interface_at ∷ word kind spelled at ∷ xs ++ Mark m.OpenBrace open_at ∷ ys ++ Mark m.CloseBrace close_at ∷ [])
      (record { at = at; name = spelled; variables = []; extends = bases; members = of }) depth

-- Alias: `type Name = Type ;`
pub data IsAlias : List Sym → Alias → ℕ → Type 0 where
  alias : {kind : Word} (type_spelled : List ℕ) (type_at : ℕ) (spelled : List ℕ) (at assign semicolon : ℕ) {xs : List Sym} {of : TypeExpr} {own depth : ℕ}
      → is_type_name kind ≡ true → IsType xs of own depth → own ≤ max_depth
      → IsAlias (word w.Type type_spelled type_at ∷ word kind spelled at ∷ Mark m.Assign assign ∷ xs ++ Mark m.Semicolon semicolon ∷ [])
      (record { at = at; name = spelled; variables = []; shape = of }) depth

-- ---- classes

-- `constructor` names no field and no method
abbrev pub is_member_name : Word → Bool
is_member_name w.Constructor = false
is_member_name _ = true

module _ (ordered : Bool) where
  -- ClassMember: a field, `static? readonly? Word`, optional `?`, optional `: Type`, optional `= Expr`, `;`; a constructor,
  -- `constructor ( Param,* ) Block`; or a method, `static? Word ( Param,* )`, optional `: Type`, Block. The index says whether it is
  -- a constructor.
  pub data IsClassMember : Bool → List Sym → ClassMember → ℕ → Type 0 where
    field : {is_static read_only optional : Bool} (kind : Word) (spelled : List ℕ) (at semicolon : ℕ) {xs ys zs vs us : List Sym} {shape : Option TypeExpr} {given : Option Expr} {d e : ℕ}
        → IsWorded w.Static xs is_static → IsWorded w.Readonly ys read_only → is_member_name kind ≡ true → IsMarked m.Question zs optional → IsAnnotation vs shape d → IsValue ordered us given e
        → IsClassMember false (xs ++ ys ++ word kind spelled at ∷ zs ++ vs ++ us ++ Mark m.Semicolon semicolon ∷ [])
        (class_member.Field at is_static read_only spelled optional shape given) (max d e)
    constructor : (spelled : List ℕ) (at open_at close_at : ℕ) {xs ys : List Sym} {params : List Param} {of : Block} {d e : ℕ}
        → IsParams ordered false xs params d → IsBlock ordered a_body ys of e
        → IsClassMember true (word w.Constructor spelled at ∷ Mark m.OpenParen open_at ∷ xs ++ Mark m.CloseParen close_at ∷ ys)
        (class_member.Constructor at params of) (max d e)
    class_method : {is_static : Bool} (kind : Word) (spelled : List ℕ) (at open_at close_at : ℕ) {xs ys zs vs : List Sym} {params : List Param} {shape : Option TypeExpr} {of : Block} {d e f : ℕ}
        → IsWorded w.Static xs is_static → is_member_name kind ≡ true → IsParams ordered false ys params d → IsAnnotation zs shape e → IsBlock ordered a_body vs of f
        → IsClassMember false (xs ++ word kind spelled at ∷ Mark m.OpenParen open_at ∷ ys ++ Mark m.CloseParen close_at ∷ zs ++ vs)
        (class_member.Method at is_static spelled params shape of) (max d (max e f))

  -- ClassMember*, with at most one constructor; the index says whether there is one
  pub data IsClassMembers : Bool → List Sym → List ClassMember → ℕ → Type 0 where
    no_class_members : IsClassMembers false [] [] 0
    more_class_members : {here later : Bool} {xs ys : List Sym} {of : ClassMember} {rest : List ClassMember} {d e : ℕ}
        → IsClassMember here xs of d → IsClassMembers later ys rest e → (here && later) ≡ false
        → IsClassMembers (here || later) (xs ++ ys) (of ∷ rest) (max d e)

  -- Class: `class Name`, optional `implements Name,+`, `{ ClassMember* }`
  pub data IsClass : List Sym → ClassDeclaration → ℕ → Type 0 where
    class : {kind : Word} {constructed : Bool} (class_spelled : List ℕ) (class_at : ℕ) (spelled : List ℕ) (at open_at close_at : ℕ) {xs ys : List Sym} {bases : List Base} {of : List ClassMember} {d : ℕ}
        → is_type_name kind ≡ true → IsBases w.Implements xs bases → IsClassMembers constructed ys of d
        → IsClass (word w.Class class_spelled class_at ∷ word kind spelled at ∷ xs ++ Mark m.OpenBrace open_at ∷ ys ++ Mark m.CloseBrace close_at ∷ [])
        (record { at = at; name = spelled; implements = bases; members = of }) d

  -- ---- items

  -- Decl: Var; Function; Class; Interface; Alias
  pub data IsDeclaration : List Sym → Declaration → ℕ → Type 0 where
    var_declaration : {xs : List Sym} {of : Var} {d : ℕ} → IsVar ordered xs of d → IsDeclaration xs (declaration.Var of) d
    function_declaration : {xs : List Sym} {of : Function} {d : ℕ} → IsFunction ordered xs of d → IsDeclaration xs (declaration.Function of) d
    class_declaration : {xs : List Sym} {of : ClassDeclaration} {d : ℕ} → IsClass xs of d → IsDeclaration xs (declaration.Class of) d
    interface_declaration : {xs : List Sym} {of : Interface} {d : ℕ} → IsInterface xs of d → IsDeclaration xs (declaration.Interface of) d
    alias_declaration : {xs : List Sym} {of : Alias} {d : ℕ} → IsAlias xs of d → IsDeclaration xs (declaration.Alias of) d

  -- Item: Import; ExportList; `export`? Decl; Statement
  pub data IsItem : List Sym → Item → ℕ → Type 0 where
    import_item : {xs : List Sym} {of : Import} → IsImport xs of → IsItem xs (item.Import of) 0
    export_list_item : {xs : List Sym} {of : ExportList} → IsExportList xs of → IsItem xs (item.ExportList of) 0
    declaration_item : {exported : Bool} {xs ys : List Sym} {of : Declaration} {d : ℕ} → IsWorded w.Export xs exported → IsDeclaration ys of d
        → IsItem (xs ++ ys) (item.Declaration exported of) d
    stmt_item : {xs : List Sym} {of : Stmt} {d : ℕ} → IsStmt ordered no_body false xs of d → IsItem xs (item.Stmt of) d

-- the symbols are the item
abbrev pub DerivesItem : List Sym → Item → Type 0
DerivesItem xs of = (depth : ℕ) × IsItem true xs of depth × (depth ≤ max_depth)

-- the same of an item of JavaScript, where parameters stand in any order
abbrev pub DerivesJs : List Sym → Item → Type 0
DerivesJs xs of = (depth : ℕ) × IsItem false xs of depth × (depth ≤ max_depth)
