-- The configs that are kept, after one more was read.
use Rattle.std.proofs.Common.{ℕ, ◌≡◌, Bool, true, false, cond, List, Option, Some, sym, ap, subst, ◌∙◌, refl}
use Rattle.std.specs.BTreeMap.{BTreeMap, get, UpdatesBy}
use Rattle.std.specs.Ordering.{is_eq}
use Rattle.tb_text.specs.Bytes.{bytes_cmp}
use Rattle.tb_config.specs.Configs.{Tree, config_at}
use Rattle.tb_config.specs.Seen.{seen, AreRead}
use Rattle.tb_config.specs.declared.configs.Config.{Config}
use Rattle.tb_config.proofs.Paths.{same_path, is_eq-path}

-- what a look-up finds is the new config at its path, or what it found before
found_at : (tree : Tree) (new config : Config) (at path : List ℕ) (before : Option Config) (b : Bool) → is_eq (bytes_cmp at path) ≡ b
    → seen new ≡ config_at tree at → (before ≡ Some config → seen config ≡ config_at tree path) → cond b (Some new) before ≡ Some config → seen config ≡ config_at tree path
found_at tree new config at path before true e same read is =
    let there : at ≡ path = same_path at path (sym (is_eq-path at path) ∙ e) in
    let one : new ≡ config = cc in
    subst (λ c. seen c ≡ config_at tree path) one (same ∙ ap (config_at tree) there)
found_at tree new config at path before false e same read is = read is

pub read_one_more : (tree : Tree) (old new : BTreeMap (List ℕ) Config) (at : List ℕ) (config : Config) → UpdatesBy bytes_cmp (bytes_cmp at) old new (Some config)
    → AreRead tree old → seen config ≡ config_at tree at → AreRead tree new
read_one_more tree old new at config updates read same path other is =
    found_at tree config other at path (get bytes_cmp old path) (is_eq (bytes_cmp at path)) refl same (read path other) (sym (updates.0 path) ∙ is)
