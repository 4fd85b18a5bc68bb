use Rattle.std.proofs.Common.{ap, ◌||◌, ◌∙◌}
use Rattle.std.specs.BTreeSet.{contains}
use Rattle.std.specs.Vec.Iter.{into_iter_items}
use Rattle.tb_text.specs.Bytes.{bytes_cmp}
use Rattle.tb_config.specs.Walks.{is_in}
use Rattle.tb_config.proofs.Sets.{inserts_next}
use Rattle.tb_config.proofs.chains.insert_all.Goals as goal

pub loop-path-preserved : goal.loop-path-preserved
loop-path-preserved c = λ p.
    c.loop-path.invariant p
    ∙ ap (λ items. contains bytes_cmp c.loop-path.all p || is_in items p) c.in-Some.ensures.steps.0
    ∙ inserts_next c.loop-path.all c.insert.new.self c.in-Some.path (into_iter_items c.next.new.self) c.in_ok-insert.ensures.updates p
