use Rattle.std.proofs.Common.{◌≡◌, ◌+◌, ◌∷◌, drop, get_or, sym, ap, subst, ◌∙◌, arith}
use Rattle.std.specs.List.{prefix_len}
use Rattle.tb_scan.specs.Characters.{is_digit}
use Rattle.tb_scan.specs.Numbers.{IsLongestFront, IsBased}
use Rattle.tb_scan.proofs.TestLemmas.{rest_is, two_first}
use Rattle.tb_scan.proofs.NumberLemmas as n
use Rattle.tb_scan.proofs.numbers.based_len.Goals as goal

pub returns-then-count-eq0-clause-none : goal.returns-then-count-eq0-clause-none
returns-then-count-eq0-clause-none c =
    let text = c.args.text.now in
    let letter = get_or text 1 0 in
    let count : c.digits_len-count.result ≡ prefix_len (is_digit c.in-Some.base) (drop 2 text) = c.digits_len-count.ensures.value ∙ ap (λ x. prefix_len (is_digit c.in-Some.base) x) (rest_is 2 text) in
    n.based_lacks text letter c.in-Some.base (two_first text c.if-text-lt2.false ∙ ap (λ b. b ∷ letter ∷ drop 2 text) c.if-text-ne48.false) (sym c.in-Some.ensures.value)
    (sym count ∙ c.if-count-eq0.true)

pub returns-else-count-eq0-clause-found : goal.returns-else-count-eq0-clause-found
returns-else-count-eq0-clause-found c =
    let text = c.args.text.now in
    let letter = get_or text 1 0 in
    let base = c.in-Some.base in
    let count : c.digits_len-count.result ≡ prefix_len (is_digit base) (drop 2 text) = c.digits_len-count.ensures.value ∙ ap (λ x. prefix_len (is_digit base) x) (rest_is 2 text) in
    subst (λ m. IsLongestFront IsBased text m) (ap (λ m. m + 2) (sym count))
    (n.based_longest text letter base (two_first text c.if-text-lt2.false ∙ ap (λ b. b ∷ letter ∷ drop 2 text) c.if-text-ne48.false) (sym c.in-Some.ensures.value)
    (omega (arith, count, c.if-count-eq0.false)))
