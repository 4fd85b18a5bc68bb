use Rattle.std.proofs.Common.{◌-◌, List, [], ◌++◌, length}
use Rattle.std.specs.Prelude.{IsCharBoundary}
use Rattle.tb_scan.specs.declared.token.Token.{Token}
use Rattle.tb_scan.specs.Tokens.{AreCut, Scans}
use Rattle.tb_scan.proofs.scanner.scan.Given as goal

-- whatever are the tokens from here on, they go on those so far
abbrev pub invariant-loop-braces : goal.invariant-loop-braces
invariant-loop-braces l = record {
  cut : IsCharBoundary l.text l.at;
  cuts : AreCut l.text l.tokens;
  so_far : (rest : List Token) → Scans l.text l.at l.braces rest → Scans l.text 0 [] (l.tokens ++ rest);
}

abbrev pub decreases-loop-braces : goal.decreases-loop-braces
decreases-loop-braces l = length l.text - l.at
