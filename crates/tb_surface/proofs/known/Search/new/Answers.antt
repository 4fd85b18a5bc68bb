use Rattle.tb_surface.proofs.Searching.{search_begun}
use Rattle.std.proofs.Common.{refl}
use Rattle.tb_surface.proofs.known.Search.new.Goals as goal

pub returns : goal.returns
returns c =
    search_begun _ _ _ _ refl c.new.ensures.empty c.new-2.ensures.items
