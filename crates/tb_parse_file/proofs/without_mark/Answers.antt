use Rattle.std.proofs.Common.{◌≡◌, List, ℕ, ◌∙◌, sym}
use Rattle.std.specs.Prelude.{nat_eq}
use Rattle.std.specs.List.{starts_with}
use Rattle.tb_tree.proofs.Ends.{ap_both}
use Rattle.tb_parse_file.proofs.Marks.{after_mark}
use Rattle.tb_parse_file.proofs.without_mark.Goals as goal

pub range_from-requires : goal.range_from-requires
range_from-requires c _ =
    let e : c.starts_with.result ≡ starts_with nat_eq c.as_bytes.result.now c.as_slice.result.now = c.starts_with.ensures.value in
    after_mark c.args.text.now c.utf8.text
    (ap_both (λ (a b : List ℕ). starts_with nat_eq a b) (sym c.as_bytes.ensures.value) (sym c.as_slice.ensures) ∙ sym e ∙ c.if-starts_with.true)
