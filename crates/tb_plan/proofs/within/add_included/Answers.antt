use Rattle.std.proofs.Common.{◌≡◌, ◌++◌, List, ℕ, take, subst, ◌∙◌, arith}
use Rattle.std.specs.List.{filter, flat_map}
use Rattle.std.proofs.lemmas.List.{take_all}
use Rattle.tb_plan.specs.Members.{HasSame}
use Rattle.tb_plan.specs.Within.{is_taken}
use Rattle.tb_plan.proofs.Ranges.{last_piece, piece_step, taken_by_all}
use Rattle.tb_plan.proofs.within.add_included.Goals as goal

pub loop-pattern-preserved : goal.loop-pattern-preserved
loop-pattern-preserved c =
    piece_step (λ p. filter (is_taken c.args.setting.now p) c.args.files.now) c.as_slice-pattern-items.result.now c.loop-pattern.pattern-index c.pattern-item.result c.args.inputs.now.items _ _ (omega arith) c.pattern-item.is c.loop-pattern.invariant c.in_ok-add_found.ensures

pub returns : goal.returns
returns c =
    let whole : take c.loop-pattern.pattern-index c.as_slice-pattern-items.result.now ≡ c.args.setting.now.include = take_all c.loop-pattern.pattern-index _ (omega arith) ∙ c.as_slice-pattern-items.ensures in
    last_piece c.args.inputs.now.items c.loop-pattern.inputs.items _ _
    (subst (λ (ps : List (List ℕ × List ℕ)). HasSame c.loop-pattern.inputs.items (c.args.inputs.now.items ++ flat_map (λ p. filter (is_taken c.args.setting.now p) c.args.files.now) ps)) whole c.loop-pattern.invariant)
    (taken_by_all c.args.setting.now c.args.files.now)
