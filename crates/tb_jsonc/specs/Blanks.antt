-- What becomes a space in a config: each byte of a comment, and then each trailing comma. Which texts these are is as in the
-- TypeScript compiler's configs; that they become spaces is this project's own.
use Rattle.std.specs.Prelude.{ℕ, zero, suc, ◌-◌, Bool, false, not, ◌&&◌, ◌||◌, ◌==◌, if◌then◌else◌, List, [], ◌∷◌, Option, Some, None, option_map, option_and_then}
use Rattle.std.specs.Str.{is_utf8}
use Rattle.serde_json.specs.Data.{Data}
use Rattle.serde_json.specs.Read.{read}
use Rattle.tb_jsonc.specs.Pieces.{first_piece}
use Rattle.tb_jsonc.specs.declared.pieces.Cell.{Cell}
use Rattle.tb_jsonc.specs.declared.pieces.Cell.TheVariants.{Quoted, Free}
use Rattle.tb_jsonc.specs.declared.pieces.Kind.{Kind}
use Rattle.tb_jsonc.specs.declared.pieces.Kind.TheVariants as kind

-- ---- comments

-- a byte of a piece: that of a comment becomes a space
abbrev pub cell : Kind → ℕ → Cell
cell kind.Quoted b = Quoted b
cell kind.Comment b = Free 32
cell kind.Plain b = Free b

-- a text without its comments, where this many bytes of a piece are still to come; none at a comment without an end
abbrev pub uncommented : ℕ → Kind → List ℕ → Option (List Cell)
uncommented left kind [] = Some []
uncommented (suc left) kind (b ∷ rest) = option_map (λ cells. cell kind b ∷ cells) (uncommented left kind rest)
uncommented zero kind (b ∷ rest) = option_and_then (λ p. option_map (λ cells. cell p.kind b ∷ cells) (uncommented (p.len - 1) p.kind rest)) (first_piece (b ∷ rest))

-- ---- trailing commas

-- space, tab, LF, CR
abbrev pub is_blank : ℕ → Bool
is_blank b = b == 32 || b == 9 || b == 10 || b == 13

-- `,`, `[`, `{`
abbrev pub is_opening : ℕ → Bool
is_opening b = b == 44 || b == 91 || b == 123

-- `]`, `}`
abbrev pub is_closing : ℕ → Bool
is_closing b = b == 93 || b == 125

-- the next character that is no blank closes a list or an object
abbrev pub closes : List Cell → Bool
closes [] = false
closes (Quoted b ∷ rest) = false
closes (Free b ∷ rest) = if is_blank b then closes rest else is_closing b

-- the bytes with a space for each trailing comma, where the last character before them that is no blank is `,`, `[` or `{` (fresh), or not
abbrev pub uncommaed : Bool → List Cell → List ℕ
uncommaed fresh [] = []
uncommaed fresh (Quoted b ∷ rest) = b ∷ uncommaed false rest
uncommaed fresh (Free b ∷ rest) = (if b == 44 && not fresh && closes rest then 32 else b) ∷ uncommaed (if is_blank b then fresh else is_opening b) rest

-- ---- the whole text

-- a text without the byte order mark at its front
abbrev pub unmarked : List ℕ → List ℕ
unmarked (a ∷ b ∷ c ∷ rest) = if a == 239 && b == 187 && c == 191 then rest else a ∷ b ∷ c ∷ rest
unmarked text = text

-- the text that is read as JSON: none where the bytes are not UTF-8 or a comment has no end
abbrev pub blanked : List ℕ → Option (List ℕ)
blanked text = if is_utf8 text then option_map (uncommaed false) (uncommented 0 kind.Plain (unmarked text)) else None

-- what bytes are as JSON, by the definition of `serde_json`: UTF-8 that has a reading
abbrev pub reading : List ℕ → Option Data
reading text = if is_utf8 text then read text else None

-- the JSON of a config
abbrev pub json_of : List ℕ → Option Data
json_of text = option_and_then reading (blanked text)
