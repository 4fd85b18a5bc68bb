use Rattle.std.proofs.Common.{ap, sym, ◌∙◌}
use Rattle.std.specs.FinMap as map
use Rattle.std.specs.FinMap.{get-empty}
use Rattle.tb_text.specs.Bytes.{bytes_cmp}
use Rattle.tb_memory.specs.Crashes.{read_of}
use Rattle.tb_memory.proofs.disks.MemDisk.new.Goals as goal

pub invariant_of-result : goal.invariant_of-result
invariant_of-result c = (λ q. ap (λ m. map.get m q) c.new.ensures ∙ get-empty bytes_cmp q ∙ sym (ap (λ l. read_of l q) c.new-2.ensures.items), λ cut. absurd (cc cut))
