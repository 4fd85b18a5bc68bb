-- Of what the members of a class are read, and what is read of them.
use Rattle.std.specs.Prelude.{ℕ, ◌≤◌, ◌≡◌, max, Bool, true, false, List, [], ◌∷◌, ◌++◌, Option, Some, None}
use Rattle.tb_tree.specs.declared.marks.Mark.TheVariants as m
use Rattle.tb_tree.specs.declared.words.Word.{Word}
use Rattle.tb_tree.specs.declared.words.Word.TheVariants as w
use Rattle.tb_tree.specs.declared.types.TypeExpr.{TypeExpr}
use Rattle.tb_tree.specs.declared.exprs.Expr.{Expr}
use Rattle.tb_tree.specs.declared.exprs.Param.{Param}
use Rattle.tb_tree.specs.declared.exprs.Block.{Block}
use Rattle.tb_tree.specs.declared.items.ClassMember.{ClassMember}
use Rattle.tb_tree.specs.declared.items.ClassMember.TheVariants as class_member
use Rattle.tb_tree.specs.Sym.{Sym, Mark}
use Rattle.tb_tree.specs.Shapes.{word, IsMarked, IsWorded}
use Rattle.tb_tree.specs.Longest.{Lacks, Starts}
use Rattle.tb_tree.specs.Items.{IsClassMember}
use Rattle.tb_parse_type.specs.declared.reader.Reader.{Reader}
use Rattle.tb_parse_type.specs.Rules.{Then, MarkRule}
use Rattle.tb_parse_type.specs.Reading.{rest, text_at, start_at, FoundAt}
use Rattle.tb_parse_body.specs.Rules.{Deep, SignatureUpto, BodyUpto, AnnotationUpto, ValueUpto}
use Rattle.tb_parse_file.specs.declared.classes.MemberHead.{MemberHead}
use Rattle.tb_parse_file.specs.Rules.{MembersUpto, is_word}

-- a rule under a function of its trees
abbrev pub Made : {X Y : Type 0} → (X → Y) → (List Sym → X → Type 0) → List Sym → Y → Type 0
Made {X = X} f D a y = (x : X) × D a x × (f x ≡ y)

-- ---- what a field or a method begins with

-- a word, how it is spelled, and where it stands
abbrev pub WordRule : List Sym → Word × List ℕ × ℕ → Type 0
WordRule xs x = xs ≡ word x.0 x.1 x.2 ∷ []

-- whether `static` and `readonly` are there, and the word that is the name
abbrev pub Head : Type 0
Head = Bool × (Bool × (Word × List ℕ × ℕ))

-- `static? readonly? Word`
abbrev pub HeadRule : List Sym → Head → Type 0
HeadRule = Then (IsWorded w.Static) (Then (IsWorded w.Readonly) WordRule)

-- A modifier with no word behind it is the name. So a head goes on with a word.
abbrev pub InHead : Sym → Type 0
InHead s = is_word s ≡ true

-- a modifier stands before ys, or none does: it is one exactly where a word follows it
abbrev pub IsModified : Word → List Sym → Bool → List Sym → Type 0
IsModified kind xs true ys = (spelled : List ℕ) × (at : ℕ) × (xs ≡ word kind spelled at ∷ ys) × Starts InHead ys
IsModified kind xs false ys = (xs ≡ ys) × ((spelled : List ℕ) (at : ℕ) (zs : List Sym) → xs ≡ word kind spelled at ∷ zs → Starts InHead zs → ⊥)

abbrev pub head_of : Reader → MemberHead → Head
head_of r h = (h.is_static, (h.read_only, (h.word, text_at r h.named, start_at r h.named)))

abbrev pub ReadsHead : Reader → ℕ → Option MemberHead → Type 0
ReadsHead r at None = Lacks HeadRule (rest r at)
ReadsHead r at (Some h) = FoundAt HeadRule InHead r at (head_of r h) h.next

-- ---- what stands behind a head

abbrev pub name_kind : Head → Word
name_kind h = h.1.1.0

-- optional `?`, optional `: Type`, optional `= Expr`, `;`
abbrev pub FieldParts : Type 0
FieldParts = Bool × (Deep (Option TypeExpr) × (Deep (Option Expr) × ℕ))

abbrev pub field_of : Head → FieldParts → Deep ClassMember
field_of h p = (class_member.Field h.1.1.2 h.0 h.1.0 h.1.1.1 p.0 p.1.0.0 p.1.1.0.0, max p.1.0.1 p.1.1.0.1)

abbrev pub FieldUpto : ℕ → Head → List Sym → Deep ClassMember → Type 0
FieldUpto n h = Made (field_of h) (Then (IsMarked m.Question) (Then (AnnotationUpto n) (Then (ValueUpto n) (MarkRule m.Semicolon))))

-- `( Param,* )`, optional `: Type`, and a body, where no `readonly` stands before
abbrev pub MethodParts : Type 0
MethodParts = Deep (List Param) × Deep (Option TypeExpr × Block)

abbrev pub method_of : Head → MethodParts → Deep ClassMember
method_of h p = (class_member.Method h.1.1.2 h.0 h.1.1.1 p.0.0 p.1.0.0 p.1.0.1, max p.0.1 p.1.1)

abbrev pub MethodUpto : ℕ → Head → List Sym → Deep ClassMember → Type 0
MethodUpto n h xs r = (h.1.0 ≡ false) × Made (method_of h) (Then (SignatureUpto n) (BodyUpto n)) xs r

-- ---- members

-- a field or a method
abbrev pub PlainUpto : ℕ → List Sym → Deep ClassMember → Type 0
PlainUpto n xs r = IsClassMember true false xs r.0 r.1 × (r.1 ≤ n)

abbrev pub ConstructorUpto : ℕ → List Sym → Deep ClassMember → Type 0
ConstructorUpto n xs r = IsClassMember true true xs r.0 r.1 × (r.1 ≤ n)

-- members in braces, at most one of them a constructor
abbrev pub BracedMembersUpto : ℕ → List Sym → Deep (List ClassMember) → Type 0
BracedMembersUpto n xs r = (open_at : ℕ) × (close_at : ℕ) × (ys : List Sym) × (xs ≡ Mark m.OpenBrace open_at ∷ ys ++ Mark m.CloseBrace close_at ∷ []) × MembersUpto false n ys r
