-- Parameters that have `?` or `=`.
use Rattle.std.specs.Prelude.{ℕ, ⊤, ◌≤◌, ◌≡◌, Bool, true, false, List, Option, Some, None}
use Rattle.tb_tree.specs.declared.exprs.Param.{Param}
use Rattle.tb_tree.specs.Sym.{Sym}
use Rattle.tb_tree.specs.Longest.{Lacks}
use Rattle.tb_tree.specs.Exprs.{may_follow, IsParam}
use Rattle.tb_parse_type.specs.declared.reader.Reader.{Reader}
use Rattle.tb_parse_type.specs.Reading.{rest}
use Rattle.tb_parse_body.specs.declared.fronts.Front.{Front}
use Rattle.tb_parse_body.specs.Rules.{Deep}

-- a parameter with `?` or `=`
abbrev pub GivenUpto : ℕ → List Sym → Deep Param → Type 0
GivenUpto n xs r = IsParam true true xs r.0 r.1 × (r.1 ≤ n)

-- a parameter that may follow others, of which one has `?` or `=` or none
abbrev pub FollowingUpto : Bool → ℕ → List Sym → Deep (Param × Bool) → Type 0
FollowingUpto after n xs r = IsParam true r.0.1 xs r.0.0 r.1 × (may_follow true after r.0.1 ≡ true) × (r.1 ≤ n)

-- where the longest parameter has none, no shorter one has
abbrev pub GivesAll : ℕ → Reader → ℕ → Option (Front (Param × Bool)) → Type 0
GivesAll n r at None = ⊤
GivesAll n r at (Some x) = x.tree.1 ≡ false → Lacks (GivenUpto n) (rest r at)
