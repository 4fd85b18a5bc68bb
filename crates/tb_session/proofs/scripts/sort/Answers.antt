use Rattle.std.proofs.Common.{rules}
use Rattle.std.specs.Cmp.Lexicographic.{nat_list_cmp_total}
use Rattle.std.specs.Ordering.{is_lt}
use Rattle.std.proofs.lemmas.List.Sorted.{answers_always, ranks_by}
use Rattle.tb_text.specs.Bytes.{bytes_cmp}
use Rattle.tb_session.proofs.scripts.sort.Goals as goal

pub returns-clause-ascending : goal.returns-clause-ascending
returns-clause-ascending c =
    c.sort_unstable_by.ensures.sorted (λ a b. is_lt (bytes_cmp a.stem b.stem)) (ranks_by nat_list_cmp_total (λ own. own.stem))
    (answers_always _ _ _ (λ f a r g h. search rules))
