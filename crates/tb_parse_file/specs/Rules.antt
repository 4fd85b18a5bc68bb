-- The rules of items up to a depth, and the symbols with which a reading of a rule may go on behind a shorter one. What is read here is
-- source: the order of parameters counts.
use Rattle.std.specs.Prelude.{ℕ, ◌≤◌, ◌≡◌, Bool, true, false, ◌&&◌, List}
use Rattle.tb_tree.specs.declared.marks.Mark.TheVariants as m
use Rattle.tb_tree.specs.declared.words.Word.{Word}
use Rattle.tb_tree.specs.declared.words.Class.TheVariants as c
use Rattle.tb_tree.specs.declared.items.Base.{Base}
use Rattle.tb_tree.specs.declared.items.ClassMember.{ClassMember}
use Rattle.tb_tree.specs.declared.items.ClassDeclaration.{ClassDeclaration}
use Rattle.tb_tree.specs.declared.items.Interface.{Interface}
use Rattle.tb_tree.specs.declared.items.Alias.{Alias}
use Rattle.tb_tree.specs.declared.items.Declaration.{Declaration}
use Rattle.tb_tree.specs.declared.items.Item.{Item}
use Rattle.tb_tree.specs.Sym.{Sym, Mark, Lex}
use Rattle.tb_tree.specs.Items.{IsBases, IsInterface, IsAlias, IsClassMember, IsClassMembers, IsClass, IsDeclaration, IsItem}
use Rattle.tb_parse_body.specs.Rules.{Deep}

-- ---- declarations

abbrev pub BasesRule : Word → List Sym → List Base → Type 0
BasesRule kind = IsBases kind

abbrev pub InterfaceUpto : ℕ → List Sym → Deep Interface → Type 0
InterfaceUpto n xs r = IsInterface xs r.0 r.1 × (r.1 ≤ n)

abbrev pub AliasUpto : ℕ → List Sym → Deep Alias → Type 0
AliasUpto n xs r = IsAlias xs r.0 r.1 × (r.1 ≤ n)

-- a member, and whether it is a constructor, which it may be only where none was before
abbrev pub MemberUpto : Bool → ℕ → List Sym → Deep (ClassMember × Bool) → Type 0
MemberUpto before n xs r = IsClassMember true r.0.1 xs r.0.0 r.1 × ((before && r.0.1) ≡ false) × (r.1 ≤ n)

abbrev pub MembersUpto : Bool → ℕ → List Sym → Deep (List ClassMember) → Type 0
MembersUpto before n xs r = (here : Bool) × IsClassMembers true here xs r.0 r.1 × ((before && here) ≡ false) × (r.1 ≤ n)

abbrev pub ClassUpto : ℕ → List Sym → Deep ClassDeclaration → Type 0
ClassUpto n xs r = IsClass true xs r.0 r.1 × (r.1 ≤ n)

abbrev pub DeclarationUpto : ℕ → List Sym → Deep Declaration → Type 0
DeclarationUpto n xs r = IsDeclaration true xs r.0 r.1 × (r.1 ≤ n)

abbrev pub ItemUpto : ℕ → List Sym → Deep Item → Type 0
ItemUpto n xs r = IsItem true xs r.0 r.1 × (r.1 ≤ n)

-- ---- how a reading may go on

-- behind a Spec, and behind a modifier that may be a name: a word
abbrev pub is_word : Sym → Bool
is_word (Lex (c.Word kind) spelled at) = true
is_word _ = false

abbrev pub InSpec : Sym → Type 0
InSpec s = is_word s ≡ true

-- Bases end before `{`, and members before `}`.
abbrev pub is_open_brace : Sym → Bool
is_open_brace (Mark m.OpenBrace at) = true
is_open_brace _ = false

abbrev pub InBases : Sym → Type 0
InBases s = is_open_brace s ≡ false

abbrev pub is_close_brace : Sym → Bool
is_close_brace (Mark m.CloseBrace at) = true
is_close_brace _ = false

abbrev pub InMembers : Sym → Type 0
InMembers s = is_close_brace s ≡ false
