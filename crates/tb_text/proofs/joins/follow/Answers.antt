use Rattle.std.proofs.Common.{[], arith, ◌∙◌, sym, ap, Bool}
use Rattle.tb_text.specs.Walks.{reached, texts}
use Rattle.tb_text.proofs.Walks.{stopped}
use Rattle.tb_text.proofs.joins.follow.Goals as goal

pub returns-then-not-branch : goal.returns-then-not-branch
returns-then-not-branch c =
    stopped (texts c.loop-part.at.items) (texts c.args.at.now.items) c.args.way.now c.loop-part.part-index (record { ref_ptr = (0, 0); now = [] }) c.loop-part.invariant (omega arith)
    (ap (λ (b : Bool). reached b (texts c.step.new.at.items)) (sym c.if-not-branch.true) ∙ c.in_ok-step.ensures)
