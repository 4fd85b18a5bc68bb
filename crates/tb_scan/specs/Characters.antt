-- The characters that tokens are made of. This project's own, but for the words: Unicode Standard Annex 31.
use Rattle.std.specs.Prelude.{◌==◌, ◌||◌, ◌&&◌, ℕ, Bool, false, nat_le, nat_lt, List, [], ◌∷◌}
use Rattle.std.specs.Char.{digit_value}
use Rattle.unicode_ident.specs.Ident.{is_xid_start, is_xid_continue}

-- U+0009 to U+000D, the space, U+00A0 and U+FEFF
abbrev pub is_blank : ℕ → Bool
is_blank c = (nat_le 9 c && nat_le c 13) || (c == 32) || (c == 160) || (c == 65279)

-- `$`, `_` or an XID start character
abbrev pub is_word_start : ℕ → Bool
is_word_start c = (c == 36) || (c == 95) || is_xid_start c

-- `$` or an XID continue character, to which `_` and the digits belong
abbrev pub is_word_part : ℕ → Bool
is_word_part c = (c == 36) || is_xid_continue c

-- a digit of this base, which is at most 36; letters of both cases count from ten on
abbrev pub is_digit : ℕ → ℕ → Bool
is_digit base c = nat_lt (digit_value c) base

-- the two quotes of strings
abbrev pub is_quote : ℕ → Bool
is_quote c = (c == 34) || (c == 39)

-- the text begins with a byte that passes the test
abbrev pub begins_where : (ℕ → Bool) → List ℕ → Bool
begins_where test [] = false
begins_where test (b ∷ bs) = test b

-- the text begins with this byte
abbrev pub begins : ℕ → List ℕ → Bool
begins c = begins_where (λ b. b == c)

-- the text begins with these two bytes
abbrev pub begins_pair : ℕ → ℕ → List ℕ → Bool
begins_pair a b [] = false
begins_pair a b (x ∷ xs) = (x == a) && begins b xs
