-- What a reader has before it, and what it answers.
use Rattle.std.specs.Prelude.{ℕ, ◌≡◌, ◌≤◌, ◌<◌, ◌+◌, ◌^◌, List, [], ◌∷◌, drop, length, slice_get, Option, Some, None}
use Rattle.tb_scan.specs.declared.token.Token.{Token}
use Rattle.tb_tree.specs.Sym.{Sym}
use Rattle.tb_tree.specs.Longest.{Found, Lacks}
use Rattle.tb_parse_type.specs.declared.symbols.Symbol.{Symbol}
use Rattle.tb_parse_type.specs.declared.reader.Reader.{Reader}
use Rattle.tb_parse_type.specs.declared.reader.Read.{Read}
use Rattle.tb_parse_type.specs.declared.parts.MemberHead.{MemberHead}
use Rattle.tb_parse_type.specs.Rules.{Counted, Head, HeadRule, InHead}
use Rattle.tb_parse_type.specs.Symbols.{spelled, placed, symbols}

-- the symbols from a place on
abbrev pub rest : Reader → ℕ → List Sym
rest r at = symbols r.text.now (drop at r.tokens.now)

abbrev pub text_by : List ℕ → Option Token → List ℕ
text_by text (Some t) = spelled text t
text_by text None = []

abbrev pub start_by : Option Token → ℕ
start_by (Some t) = t.start
start_by None = 0

-- the spelling and the offset of the token at a place
abbrev pub text_at : Reader → ℕ → List ℕ
text_at r at = text_by r.text.now (slice_get r.tokens.now at)

abbrev pub start_at : Reader → ℕ → ℕ
start_at r at = start_by (slice_get r.tokens.now at)

abbrev pub symbol_at : Reader → ℕ → Symbol → Sym
symbol_at r at s = placed s (text_at r at) (start_at r at)

-- this symbol stands at a place, and what follows it there
abbrev pub Stands : Reader → ℕ → Sym → Type 0
Stands r at s = (at < length r.tokens.now) × (at + 1 < 2 ^ 64) × (rest r at ≡ s ∷ rest r (at + 1))

-- no such symbol stands there
abbrev pub LacksSym : Reader → ℕ → Sym → Type 0
LacksSym r at s = (zs : List Sym) → rest r at ≡ s ∷ zs → ⊥

-- the longest front at a place, and the place behind it
abbrev pub FoundAt : {X : Type 0} → (List Sym → X → Type 0) → (Sym → Type 0) → Reader → ℕ → X → ℕ → Type 0
FoundAt D C r at x next = (next ≤ length r.tokens.now) × Found D C (rest r at) x (rest r next)

-- what was read at a place: the longest front that derives anything, or nothing where none does
abbrev pub Reads : {X : Type 0} → (List Sym → Counted X → Type 0) → (Sym → Type 0) → Reader → ℕ → Option (Read X) → Type 0
Reads D C r at None = Lacks D (rest r at)
Reads D C r at (Some x) = FoundAt D C r at (x.tree, x.own, x.depth) x.next

abbrev pub head_of : MemberHead → Head
head_of h = (h.read_only, h.at, h.key)

-- what a member begins with
abbrev pub ReadsHead : Reader → ℕ → Option MemberHead → Type 0
ReadsHead r at None = Lacks HeadRule (rest r at)
ReadsHead r at (Some h) = FoundAt HeadRule InHead r at (head_of h) h.next
