use Rattle.std.proofs.Common.{◌≡◌, ◌≤◌, ◌<◌, ◌+◌, suc, true, length, IfOk, ℕ, ◌-◌, ◌*◌}
use Rattle.tb_tree.specs.declared.exprs.Expr.TheVariants as expr
use Rattle.tb_tree.specs.Sym as sym
use Rattle.tb_tree.specs.Longest.{Lacks}
use Rattle.tb_parse_type.specs.Rules.{InType}
use Rattle.tb_parse_type.specs.Reading.{rest, start_at, Stands}
use Rattle.tb_parse_body.specs.Nests.{NestsExpr}
use Rattle.tb_parse_body.specs.Reading.{Reads, ReadsOne}
use Rattle.tb_parse_body.specs.Rules as rules
use Rattle.tb_parse_body.specs.Joins as joins
use Rattle.tb_parse_body.proofs.nests.Grammar.+prefixed_at.Given as goal

-- proposed from what the function passes where it calls itself
abbrev pub decreases-prefixed_at : goal.decreases-prefixed_at
decreases-prefixed_at g l = l.limit
