use Rattle.std.proofs.Common.{◌≡◌, sym, ap, ◌∙◌}
use Rattle.std.specs.BTreeMap as tree
use Rattle.std.specs.FinMap as map
use Rattle.std.specs.List.Sorted.{IsStrictlySortedBy}
use Rattle.tb_text.specs.Bytes.{bytes_cmp}
use Rattle.tb_text.proofs.Finite.{keys_of, if_both}
use Rattle.tb_text.proofs.maps.Texts.paths.Goals as goal

pub returns-clause-paths : goal.returns-clause-paths
returns-clause-paths c =
    let texts = c.self.inside.texts in
    if_both c.copy_keys.result (λ paths. paths ≡ tree.keys texts) (λ paths. IsStrictlySortedBy bytes_cmp (tree.keys texts)) (λ paths. paths ≡ map.keys c.args.self.now)
    (λ paths all sorted. all ∙ sym (keys_of texts.entries sorted) ∙ ap (λ m. map.keys m) c.self.view_is)
    c.copy_keys.ensures.paths c.copy_keys.ensures.ascending
