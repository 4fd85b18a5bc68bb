-- How a token is spelled.
use Rattle.std.proofs.Common.{◌≡◌, ℕ, Bool, true, false, List, [], refl, ap}
use Rattle.std.specs.Prelude.{if◌then◌else◌}
use Rattle.std.specs.Str.{IsUtf8, is_utf8}
use Rattle.std.proofs.lemmas.Str.{IsUtf8-from_is_utf8, is_utf8-from_IsUtf8}
use Rattle.tb_parse_type.specs.Symbols.{as_text}

pub as_text_of : (bs : List ℕ) → IsUtf8 bs → as_text bs ≡ bs
as_text_of bs u = ap (λ (b : Bool). if b then bs else []) (is_utf8-from_IsUtf8 bs u)

pub as_text_not : (bs : List ℕ) → (IsUtf8 bs → ⊥) → [] ≡ as_text bs
as_text_not bs n = go (is_utf8 bs) refl
  where
    go : (b : Bool) → is_utf8 bs ≡ b → [] ≡ (if b then bs else [])
    go true e = absurd (n (IsUtf8-from_is_utf8 bs e))
    go false e = refl
