-- Lines and columns of a place in a text. This project's own: lines are ended by LF alone, and columns count characters.
use Rattle.std.specs.Prelude.{ℕ, ◌+◌, ◌==◌, Bool, not, ◌&&◌, nat_le, nat_lt, List, count_by, reverse, take, take_while}

-- a character begins at each byte that is not 80 to BF in hex
abbrev pub begins_character : ℕ → Bool
begins_character b = not (nat_le 128 b && nat_lt b 192)

-- the line in which a text ends, from 1: its LF are counted
abbrev pub line_of_end : List ℕ → ℕ
line_of_end front = count_by (λ b. b == 10) front + 1

-- the column at which a text ends, from 1: the characters are counted that begin behind its last LF
abbrev pub column_of_end : List ℕ → ℕ
column_of_end front = count_by begins_character (take_while (λ b. not (b == 10)) (reverse front)) + 1

-- the line of a place
abbrev pub line_at : List ℕ → ℕ → ℕ
line_at text offset = line_of_end (take offset text)

-- the column of a place
abbrev pub column_at : List ℕ → ℕ → ℕ
column_at text offset = column_of_end (take offset text)
