use Rattle.tb_plan.proofs.Ordered.{named_all, as_nodes, as_many, all_nodes, all_read, leads, same_configs, arranged_so}
use Rattle.tb_plan.proofs.visit.visit.Goals as goal

pub arranged-requires-clause-starts : goal.arranged-requires-clause-starts
arranged-requires-clause-starts c =
    let a = c.in_ok-reach.ensures in
    rw (c.as_slice.ensures, c.as_slice-2.ensures.value) (as_nodes c.in_ok-reach.reach.configs.paths.items _ _ (as_many c.args.tree.now _ _ _ a.search a.whole) a.starts.within)

pub arranged-requires-clause-references : goal.arranged-requires-clause-references
arranged-requires-clause-references c =
    let a = c.in_ok-reach.ensures in
    rw c.as_slice-2.ensures.value (all_nodes c.args.tree.now _ _ _ a.search a.whole)

pub returns-clause-is : goal.returns-clause-is
returns-clause-is c =
    let a = c.in_ok-reach.ensures in
    let b = rw (c.as_slice.ensures, c.as_slice-2.ensures.value) at c.in_ok-arrangement.ensures in
    record {
      read = record {
        numbered = a.numbered;
        are = all_read c.args.tree.now _ _ a.whole a.search.are;
        lead = leads c.args.tree.now _ _ _ a.search a.whole;
        whole = as_many c.args.tree.now _ _ _ a.search a.whole;
      };
      same = same_configs c.args.tree.now c.args.roots.now _ _ _ _ _ a.numbered a.search a.whole a.reached a.starts;
      arranged = arranged_so c.args.tree.now c.args.roots.now _ _ _ _ _ a.numbered a.search a.whole a.reached a.starts _ b;
      round = b.round;
    }

pub returns-clause-roots : goal.returns-clause-roots
returns-clause-roots c = named_all c.in_ok-reach.reach.configs.paths.items _ c.args.roots.now c.in_ok-reach.ensures.starts
