-- The configs of a tree, as they are read. That a config is a JSON object is the TSConfig Reference; the rest is this
-- project's own.
use Rattle.std.specs.Prelude.{ℕ, if◌then◌else◌, List, [], Option, Some, None, is_some, unwrap_or, option_and_then, codes}
use Rattle.std.specs.FinMap as map
use Rattle.serde_json.specs.Data.{Data}
use Rattle.serde_json.specs.Find.{get, as_object}
use Rattle.tb_text.specs.Bytes.{bytes_cmp}
use Rattle.tb_text.specs.Paths.{parent_of}
use Rattle.tb_jsonc.specs.Blanks.{json_of}

-- the bytes at each path of a tree
abbrev pub Tree : Type 0
Tree = map.FinMap bytes_cmp (List ℕ)

-- what is read where a config is looked for
pub data Content : Type 0 where
  -- there is no file
  Missing : Content
  -- the file is no JSON, or its JSON is no object
  Unreadable : Content
  -- the object of the file
  Object : Data → Content

-- the content of a file with this JSON, if it has any
abbrev pub content_of : Option Data → Content
content_of None = Unreadable
content_of (Some d) = if is_some (as_object d) then Object d else Unreadable

abbrev pub content_in : Option (List ℕ) → Content
content_in None = Missing
content_in (Some bytes) = content_of (json_of bytes)

-- a path, and what is read there
pub record Config : Type 0 where
  pub path : List ℕ
  pub content : Content

abbrev pub config_at : Tree → List ℕ → Config
config_at tree path = record { path = path; content = content_in (map.get tree path) }

-- the folder that a config stands in, from which its texts count
abbrev pub folder_of : List ℕ → List ℕ
folder_of path = unwrap_or (parent_of path) []

abbrev pub object_of : Content → Option Data
object_of Missing = None
object_of Unreadable = None
object_of (Object d) = Some d

-- a member of a config, if it has one of this name
abbrev pub member_of : List ℕ → Config → Option Data
member_of name config = option_and_then (get name) (object_of config.content)

-- an option of a config
abbrev pub option_of : List ℕ → Config → Option Data
option_of name config = option_and_then (get name) (member_of (codes "compilerOptions") config)
