use Rattle.std.proofs.Common.{◌≡◌, drop}
use Rattle.std.specs.List.{list_all}
use Rattle.tb_text.specs.Paths.{is_segment}
use Rattle.tb_text.specs.Walks.{texts}
use Rattle.tb_text.proofs.joins.are_whole.Given as goal

abbrev pub invariant-loop-part : goal.invariant-loop-part
invariant-loop-part l = list_all is_segment (texts (drop l.part-index l.parts)) ≡ list_all is_segment (texts l.parts)
