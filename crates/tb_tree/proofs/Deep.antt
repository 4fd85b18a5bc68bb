-- The depth that a derivation of an item has is that of its tree.
use Rattle.std.proofs.Common.{◌≡◌, ℕ, max, Bool, List, refl, arith}
use Rattle.tb_tree.specs.declared.items.Base.{Base}
use Rattle.tb_tree.specs.declared.items.ClassMember.{ClassMember}
use Rattle.tb_tree.specs.declared.items.ClassDeclaration.{ClassDeclaration}
use Rattle.tb_tree.specs.declared.items.Interface.{Interface}
use Rattle.tb_tree.specs.declared.items.Alias.{Alias}
use Rattle.tb_tree.specs.declared.items.Declaration.{Declaration}
use Rattle.tb_tree.specs.declared.items.Item.{Item}
use Rattle.tb_tree.specs.declared.words.Word.{Word}
use Rattle.tb_tree.specs.Sym.{Sym}
use Rattle.tb_tree.specs.Shapes.{IsJoined, last_joined, more_joined}
use Rattle.tb_tree.specs.Items as g
use Rattle.tb_tree.specs.Depth as d
use Rattle.tb_tree.proofs.DeepTypes.{type_deep, members_deep}
use Rattle.tb_tree.proofs.DeepExprs.{annotation_deep, value_deep, params_deep, block_deep, var_deep, function_deep, stmt_deep}
use Rattle.tb_tree.proofs.Ends.{ap_both}

-- the bases of a reading have no type arguments
base_deep : {xs : List Sym} {of : Base} → g.IsBase xs of → 0 ≡ d.base_depth of
base_deep (g.base s at n) = refl

joined_deep : {xs : List Sym} {of : List Base} → IsJoined g.IsBase xs of → 0 ≡ d.bases_depth of
joined_deep (last_joined q) = ap_both max (base_deep q) refl
joined_deep (more_joined comma q r) = ap_both max (base_deep q) (joined_deep r)

bases_deep : {kind : Word} {xs : List Sym} {of : List Base} → g.IsBases kind xs of → 0 ≡ d.bases_depth of
bases_deep g.no_bases = refl
bases_deep (g.some_bases s at q) = joined_deep q

beside : {u b v : ℕ} → 0 ≡ u → b ≡ v → b ≡ max u v
beside p q = omega (arith, p, q)

interface_deep : {xs : List Sym} {of : Interface} {n : ℕ} → g.IsInterface xs of n → n ≡ d.interface_depth of
interface_deep (g.interface is ia s at o c n p q h) = beside (bases_deep p) (members_deep q)

alias_deep : {xs : List Sym} {of : Alias} {n : ℕ} → g.IsAlias xs of n → n ≡ d.type_depth of.shape
alias_deep (g.alias ts ta s at a semicolon n q h) = type_deep q

module _ (ordered : Bool) where
  class_member_deep : {constructs : Bool} {xs : List Sym} {of : ClassMember} {n : ℕ} → g.IsClassMember ordered constructs xs of n → n ≡ d.class_member_depth of
  class_member_deep (g.field k s at semicolon a b n o p q) = ap_both max (annotation_deep p) (value_deep ordered q)
  class_member_deep (g.constructor s at o c p q) = ap_both max (params_deep ordered p) (block_deep ordered q)
  class_member_deep (g.class_method k s at o c a n p q r) = ap_both max (params_deep ordered p) (ap_both max (annotation_deep q) (block_deep ordered r))

  class_members_deep : {constructed : Bool} {xs : List Sym} {of : List ClassMember} {n : ℕ} → g.IsClassMembers ordered constructed xs of n → n ≡ d.class_members_depth of
  class_members_deep g.no_class_members = refl
  class_members_deep (g.more_class_members q r h) = ap_both max (class_member_deep q) (class_members_deep r)

  class_deep : {xs : List Sym} {of : ClassDeclaration} {n : ℕ} → g.IsClass ordered xs of n → n ≡ d.class_depth of
  class_deep (g.class cs ca s at o c n p q) = beside (bases_deep p) (class_members_deep q)

  declaration_deep : {xs : List Sym} {of : Declaration} {n : ℕ} → g.IsDeclaration ordered xs of n → n ≡ d.declaration_depth of
  declaration_deep (g.var_declaration q) = var_deep ordered q
  declaration_deep (g.function_declaration q) = function_deep ordered q
  declaration_deep (g.class_declaration q) = class_deep q
  declaration_deep (g.interface_declaration q) = interface_deep q
  declaration_deep (g.alias_declaration q) = alias_deep q

-- the exact depth of a derivation is that of its tree
pub item_deep : (ordered : Bool) {xs : List Sym} {of : Item} {n : ℕ} → g.IsItem ordered xs of n → n ≡ d.depth_of of
item_deep ordered (g.import_item q) = refl
item_deep ordered (g.export_list_item q) = refl
item_deep ordered (g.declaration_item e q) = declaration_deep ordered q
item_deep ordered (g.stmt_item q) = stmt_deep ordered q
