-- The text whose digest an info keeps of its project's options. This project's own.
use Rattle.std.specs.Prelude.{ℕ, List, [], ◌∷◌, IsUtf8, codes}
use Rattle.std.specs.List.{AllByRecursion}
use Rattle.serde_json.specs.Data.{Data, string, array, object, member, no_members}
use Rattle.serde_json.specs.View.{items_of}
use Rattle.serde_json.specs.Written.{compact_text}
use Rattle.tb_face.specs.Infos.{rows_data}
use Rattle.tb_face.specs.declared.options.PathEntry.{PathEntry}
use Rattle.tb_face.specs.declared.options.Options.{Options}

-- `[key,[targets]]`
unfoldable pub path_entry_data : PathEntry → Data
path_entry_data e = array (items_of (string e.key ∷ rows_data string e.targets ∷ []))

unfoldable pub options_data : Options → Data
options_data o = object
    (member (codes "outDir") (string o.out_dir)
    (member (codes "paths") (rows_data path_entry_data o.paths)
    (member (codes "project") (string o.project)
    (member (codes "rootDir") (string o.root_dir)
    no_members))))

-- compact JSON as serde_json writes it
unfoldable pub options_text : Options → List ℕ
options_text o = compact_text (options_data o)

-- ---- options are UTF-8, as the types of the program keep them

pub record IsPathEntry (e : PathEntry) : Type 0 where
  pub key : IsUtf8 e.key
  pub targets : AllByRecursion IsUtf8 e.targets

pub record AreOptions (o : Options) : Type 0 where
  pub out_dir : IsUtf8 o.out_dir
  pub paths : AllByRecursion IsPathEntry o.paths
  pub project : IsUtf8 o.project
  pub root_dir : IsUtf8 o.root_dir
