-- What is found out where an expression may begin with an arrow.
use Rattle.std.specs.Prelude.{ℕ, Bool}
use Rattle.tb_tree.specs.Longest.{Lacks, Never}
use Rattle.tb_parse_type.specs.declared.reader.Reader.{Reader}
use Rattle.tb_parse_type.specs.Reading.{rest}
use Rattle.tb_parse_body.specs.declared.fronts.Start.{Start}
use Rattle.tb_parse_body.specs.declared.fronts.Start.TheVariants as s
use Rattle.tb_parse_body.specs.Rules.{ExprUpto, PrimaryUpto, ArrowUpto, InExpr}
use Rattle.tb_parse_body.specs.Reading.{ReadsOne}

abbrev pub ReadsStart : Bool → ℕ → Reader → ℕ → Start → Type 0
ReadsStart typed n r at (s.Arrow x) = ReadsOne (ExprUpto typed n) (InExpr typed) r at x
ReadsStart typed n r at (s.Primary x) = ReadsOne (PrimaryUpto n) Never r at x × Lacks (ArrowUpto typed n) (rest r at)
ReadsStart typed n r at s.Neither = Lacks (ExprUpto typed n) (rest r at)
ReadsStart typed n r at s.Open = Lacks (ArrowUpto typed n) (rest r at)
