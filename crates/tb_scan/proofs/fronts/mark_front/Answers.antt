use Rattle.std.proofs.Common.{subst}
use Rattle.tb_scan.specs.Tokens.{IsLongestMark}
use Rattle.tb_scan.proofs.Templates as t
use Rattle.tb_scan.proofs.fronts.mark_front.Goals as goal

pub returns-in-Some : goal.returns-in-Some
returns-in-Some c = λ opened other.
    t.mark_reads opened c.args.text.now c.args.first c.in-Some.length c.utf8.text c.requires.whole other
    (subst (λ x. IsLongestMark x c.in-Some.length) c.as_bytes.ensures.value c.in-Some.ensures.found)
