use Rattle.std.proofs.Common.{◌≡◌, ◌-◌}
use Rattle.tb_parse_body.specs.Links.{strip}
use Rattle.tb_parse_body.proofs.chains.without_calls.Given as goal

abbrev pub invariant-loop : goal.invariant-loop
invariant-loop l = strip (l.calls - l.counter) l.tree ≡ strip l.calls l.fn.of
