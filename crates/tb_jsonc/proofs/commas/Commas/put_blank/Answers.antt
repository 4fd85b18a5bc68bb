use Rattle.std.proofs.Common.{arith}
use Rattle.tb_jsonc.proofs.Steps.{put_blank}
use Rattle.tb_jsonc.proofs.commas.Commas.put_blank.Goals as goal

pub returns : goal.returns
returns c = λ later.
    let s = c.args.self.now in
    rw c.in_ok-push.ensures.items (put_blank s.out.items s.comma s.fresh c.args.b later c.requires (λ i e. omega (arith, s.within i e, s.out.ok.0)))
