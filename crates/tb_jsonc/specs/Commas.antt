-- What is kept between two bytes while trailing commas become spaces. This project's own.
use Rattle.std.specs.Prelude.{ℕ, Bool, if◌then◌else◌, List, ◌++◌, Option, Some, None, slice_set}
use Rattle.tb_jsonc.specs.Blanks.{closes, uncommaed}
use Rattle.tb_jsonc.specs.declared.commas.Commas.{Commas}
use Rattle.tb_jsonc.specs.declared.pieces.Cell.{Cell}

-- the bytes, the remembered comma being a trailing one or not
abbrev pub settled : List ℕ → Option ℕ → Bool → List ℕ
settled out None trailing = out
settled out (Some at) trailing = if trailing then slice_set out at 32 else out

-- the whole text, where these bytes come next
abbrev pub finished : Commas → List Cell → List ℕ
finished commas later = settled commas.out.items commas.comma (closes later) ++ uncommaed commas.fresh later
