-- What is found of the longest chain that is a target, where the chain was read as far as it goes.
use Rattle.std.specs.Prelude.{ℕ, ◌≡◌, ◌≤◌, true, false, length}
use Rattle.tb_tree.specs.Longest.{Found, Lacks}
use Rattle.tb_tree.specs.Exprs.{is_target}
use Rattle.tb_parse_type.specs.declared.reader.Reader.{Reader}
use Rattle.tb_parse_type.specs.Reading.{rest}
use Rattle.tb_parse_body.specs.declared.fronts.Stem.{Stem}
use Rattle.tb_parse_body.specs.Links.{strip}
use Rattle.tb_parse_body.specs.Rules.{TargetUpto, InChain}

-- without the calls at its end it is that chain, or there is none
pub record ReadsStem (n : ℕ) (r : Reader) (at : ℕ) (s : Stem) : Type 0 where
  pub within : s.next ≤ length r.tokens.now
  pub found : is_target (strip s.calls s.chain) ≡ true → Found (TargetUpto n) InChain (rest r at) (strip s.calls s.chain, s.depth) (rest r s.next)
  pub none : is_target (strip s.calls s.chain) ≡ false → Lacks (TargetUpto n) (rest r at)
