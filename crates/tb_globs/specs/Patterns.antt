-- Equality of patterns: the folder and the text are the same. This project's own.
use Rattle.std.specs.Prelude.{ℕ, Bool, ◌&&◌, List}
use Rattle.std.specs.Cmp.{IsEquivalence, IsPartialEquivalence, on_equiv, and_equiv, partial_equiv_from_equiv}
use Rattle.std.specs.Cmp.Lexicographic.{nat_list_eq_equiv}
use Rattle.std.specs.Str.{bytes_eq}

abbrev pub pattern_eq : List ℕ × List ℕ → List ℕ × List ℕ → Bool
pattern_eq a b = bytes_eq a.0 b.0 && bytes_eq a.1 b.1

pub pattern_equiv : IsEquivalence pattern_eq
pattern_equiv = and_equiv (on_equiv (λ (a : List ℕ × List ℕ). a.0) nat_list_eq_equiv) (on_equiv (λ (a : List ℕ × List ℕ). a.1) nat_list_eq_equiv)

pub pattern_partial : IsPartialEquivalence pattern_eq
pattern_partial = partial_equiv_from_equiv pattern_equiv
