-- How texts begin and end, as a search for a start or an ending tells it.
use Rattle.std.proofs.Common.{◌≡◌, ◌==◌, ◌≢◌, ◌++◌, ◌-◌, ℕ, true, false, List, Option, Some, None, option_map, Bor, length, drop, take, refl, ap, ◌∙◌}
use Rattle.std.specs.List.{starts_with, ends_with}
use Rattle.std.specs.Option.{MatchOption}
use Rattle.std.specs.Str.Pattern.{FindsTextPrefix, FindsTextSuffix, StripsPrefix, StripsSuffix}
use Rattle.std.proofs.lemmas.Bool.{cases_Bool}
use Rattle.std.proofs.lemmas.Bool.Decides.{Decides-eqb}
use Rattle.std.proofs.lemmas.Slice.Eq.{starts_is, ends_is}
use mathlib.Core.Logic.{⊎_elim}
use Rattle.tb_face.specs.Outputs.{after_start, before_ending}

starts_not : (start text : List ℕ) → ((rest : List ℕ) → text ≢ start ++ rest) → starts_with (λ a b. a == b) text start ≡ false
starts_not start text h = ⊎_elim (λ e. absurd (h _ ((starts_is Decides-eqb text start _ refl).0 e))) (λ e. e) (cases_Bool (starts_with (λ a b. a == b) text start))

pub after_start_is : (start text : List ℕ) (r : Option (Bor (List ℕ))) → MatchOption r (FindsTextPrefix start text None) (λ x. StripsPrefix (FindsTextPrefix start) text x.now)
    → option_map (λ s. s.now) r ≡ after_start start text
after_start_is start text None h = rw (starts_not start text h)
after_start_is start text (Some x) h =
    let begins : starts_with (λ a b. a == b) text start ≡ true = (starts_is Decides-eqb text start _ refl).1 _ h.1.1 in
    rw begins (ap Some (h.2 ∙ ap (λ n. drop n text) h.1.0))

ends_not : (ending text : List ℕ) → ((front : List ℕ) → text ≢ front ++ ending) → ends_with (λ a b. a == b) text ending ≡ false
ends_not ending text h = ⊎_elim (λ e. absurd (h _ ((ends_is Decides-eqb text ending _ refl).0 e))) (λ e. e) (cases_Bool (ends_with (λ a b. a == b) text ending))

pub before_ending_is : (ending text : List ℕ) (r : Option (Bor (List ℕ))) → MatchOption r (FindsTextSuffix ending text None) (λ x. StripsSuffix (FindsTextSuffix ending) text x.now)
    → option_map (λ s. s.now) r ≡ before_ending ending text
before_ending_is ending text None h = rw (ends_not ending text h)
before_ending_is ending text (Some x) h =
    let ends : ends_with (λ a b. a == b) text ending ≡ true = (ends_is Decides-eqb text ending _ refl).1 _ h.1.1 in
    rw ends (ap Some (h.2 ∙ ap (λ n. take (length text - n) text) h.1.0))
