-- How a string is read and written, one character at a time.
use Rattle.std.specs.Prelude.{ℕ, ◌==◌, ◌||◌, nat_lt, if◌then◌else◌, List, [], ◌∷◌, Option, Some, None, flat_map, encode_utf8_all}
use Rattle.tb_layout.specs.Quoted as spec
use Rattle.tb_show.specs.declared.strings.Standing.{Standing}
use Rattle.tb_show.specs.declared.strings.Standing.TheVariants as standing

-- where a character stands, as the definition of a string's value says it
abbrev pub seen : Standing → spec.Standing
seen standing.Alone = spec.Alone
seen standing.Escaped = spec.Escaped
seen standing.Unit = spec.Unit
seen (standing.InDigits more number) = spec.InDigits more number
seen (standing.InBraces number) = spec.InBraces number

abbrev pub at_most_one : Option ℕ → List ℕ
at_most_one None = []
at_most_one (Some c) = c ∷ []

-- what is written between the quotes for characters of a value
abbrev pub written : List ℕ → List ℕ
written value = encode_utf8_all (flat_map spec.quoted_character value)

-- how a character is spelled that has no spelling of its own
abbrev pub other : ℕ → List ℕ
other c = if nat_lt c 32 || (c == 127) then spec.hex_escape c else (c ∷ [])
