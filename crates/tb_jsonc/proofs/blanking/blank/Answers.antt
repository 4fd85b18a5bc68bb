use Rattle.std.proofs.Common.{sym, ◌∙◌}
use Rattle.tb_jsonc.specs.Commas.{finished}
use Rattle.tb_jsonc.proofs.Steps.{one_piece}
use Rattle.tb_jsonc.proofs.blanking.blank.Goals as goal

pub loop-rest-preserved : goal.loop-rest-preserved
loop-rest-preserved c =
    one_piece (finished c.loop-rest.commas) (finished c.put_piece.new.self) c.loop-rest.rest.now c.split_at.result.0.now c.split_at.result.1.now c.in-Some.piece (sym c.in-Some.ensures.piece) c.in-Some.ensures.some c.split_at.ensures.front c.split_at.ensures.back c.in_ok-put_piece.ensures
    ∙ c.loop-rest.invariant
