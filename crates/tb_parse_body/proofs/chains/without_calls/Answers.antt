use Rattle.std.proofs.Common.{arith}
use Rattle.tb_parse_body.proofs.Targets.{stripped_on, stripped_end}
use Rattle.tb_parse_body.proofs.chains.without_calls.Goals as goal

pub loop-preserved : goal.loop-preserved
loop-preserved c = stripped_on c.args.calls c.loop.counter c.loop.tree c.args.of c.callee_of-tree.result (omega (arith, c.loop-test.true)) c.callee_of-tree.ensures c.loop.invariant

pub returns : goal.returns
returns c = stripped_end c.args.calls c.loop.counter c.loop.tree c.args.of (omega (arith, c.loop-test.false)) c.loop.invariant
