-- Bytes in UTF-8, and others.
use Rattle.std.proofs.Common.{◌≡◌, ℕ, Bool, true, false, List, refl}
use Rattle.std.specs.Prelude.{Option, None, if◌then◌else◌}
use Rattle.std.specs.Str.{IsUtf8, is_utf8}
use Rattle.std.proofs.lemmas.Bool.{cond-true, cond-false, false_from_ne_true}
use Rattle.std.proofs.lemmas.Str.{IsUtf8-from_is_utf8, is_utf8-from_IsUtf8}

pub chosen : {A : Type 0} (text : List ℕ) (x y : A) → IsUtf8 text → (if is_utf8 text then x else y) ≡ x
chosen text x y u = cond-true (is_utf8 text) x y (is_utf8-from_IsUtf8 text u)

pub refused : {A : Type 0} (text : List ℕ) (x y : A) → ¬ IsUtf8 text → (if is_utf8 text then x else y) ≡ y
refused text x y other = cond-false (is_utf8 text) x y (false_from_ne_true (is_utf8 text) (λ e. other (IsUtf8-from_is_utf8 text e)))

by_test : {A : Type 0} (b : Bool) (x : Option A) → (b ≡ true → x ≡ None) → (if b then x else None) ≡ None
by_test true x h = h refl
by_test false x h = refl

-- a text is refused where its reading is none, if it is UTF-8
pub none_either_way : {A : Type 0} (text : List ℕ) (x : Option A) → (IsUtf8 text → x ≡ None) → (if is_utf8 text then x else None) ≡ None
none_either_way text x h = by_test (is_utf8 text) x (λ e. h (IsUtf8-from_is_utf8 text e))
