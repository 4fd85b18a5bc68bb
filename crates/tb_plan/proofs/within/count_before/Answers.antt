use Rattle.std.proofs.Common.{rules}
use Rattle.std.proofs.lemmas.List.Sorted.{IsPartitionPoint-from_clause}
use Rattle.tb_plan.specs.Within.{is_before}
use Rattle.tb_plan.proofs.Ranges.{before_first}
use Rattle.tb_plan.proofs.within.count_before.Goals as goal

pub returns-clause-point : goal.returns-clause-point
returns-clause-point c =
    let parted = before_first c.args.text.now c.args.files.now c.requires in
    IsPartitionPoint-from_clause (is_before c.args.text.now) _ _ c.partition_point.ensures.partitioned parted (λ a r q k. search rules)
