-- A setting is made of what the walks found.
use Rattle.std.proofs.Common.{ℕ, ◌≡◌, List, [], ◌∷◌, ◌++◌, Some, None, length, map, reverse, Bor, sym, ap, subst, ◌∙◌, ◌<◌, arith, append_assoc}
use Rattle.std.proofs.lemmas.List.{map-append}
use Rattle.std.specs.FinMap as tree_map
use Rattle.tb_config.specs.Bases.{bases_at}
use Rattle.tb_config.specs.Configs as spec
use Rattle.tb_config.specs.Configs.{Tree, config_at}
use Rattle.tb_config.specs.Givens.{first, seen_all}
use Rattle.tb_config.specs.Seen.{seen}
use Rattle.tb_config.specs.Settings.{chain_of, circles_of, configs_of, overriding, setting_from, setting_of}
use Rattle.tb_config.specs.Walks.{longest}
use Rattle.tb_config.specs.declared.configs.Config.{Config}
use Rattle.tb_config.proofs.Heads.{first_entered}

-- what the first config stands for
first_seen : (configs : List (Bor Config)) (own : Bor Config) (x : spec.Config) (xs : List spec.Config) → first configs ≡ Some own → seen_all configs ≡ x ∷ xs → seen own.now ≡ x
first_seen [] own x xs is all = let never : None ≡ Some own = is in cc
first_seen (config ∷ rest) own x xs is all =
    let same : config ≡ own = let e : Some config ≡ Some own = is in cc in
    let head : seen config.now ≡ x = let e : seen config.now ∷ seen_all rest ≡ x ∷ xs = all in cc in
    subst (λ (c : Bor Config). seen c.now ≡ x) same head

some_seen : (configs : List (Bor Config)) (x : spec.Config) (xs : List spec.Config) → seen_all configs ≡ x ∷ xs → 0 < length configs
some_seen [] x xs all = let never : [] ≡ x ∷ xs = all in cc
some_seen (config ∷ rest) x xs all = omega arith

-- the configs that were found, the config itself first
pub record Finds (tree : Tree) (path : List ℕ) (order circles : List (List ℕ)) (chain : ℕ) (configs : List (Bor Config)) : Type 0 where
  pub order_is : order ≡ overriding tree path
  pub circles_is : circles ≡ circles_of tree path
  pub chain_is : chain ≡ longest (bases_at tree) (length order) (path ∷ [])
  pub configs_is : seen_all configs ≡ map (config_at tree) order

module _ (tree : Tree) (path : List ℕ) (order circles : List (List ℕ)) (chain : ℕ) (configs : List (Bor Config)) (finds : Finds tree path order circles chain configs) where
  all_seen : seen_all configs ≡ configs_of tree path
  all_seen = finds.configs_is ∙ ap (λ paths. map (config_at tree) paths) finds.order_is

  head_seen : seen_all configs ≡ config_at tree path ∷ map (config_at tree) ((first_entered (λ p. reverse (bases_at tree p)) (tree_map.keys tree) path).rest)
  head_seen = all_seen ∙ ap (λ paths. map (config_at tree) paths) (first_entered (λ p. reverse (bases_at tree p)) (tree_map.keys tree) path).is

  pub some_found : 0 < length configs
  some_found = some_seen configs (config_at tree path) _ head_seen

  pub found_setting : (own : Bor Config) → first configs ≡ Some own → setting_from chain (seen own.now) (seen_all configs) circles ≡ setting_of tree path
  found_setting own is =
      let one = first_seen configs own (config_at tree path) _ is head_seen in
      let chains : chain ≡ chain_of tree path = finds.chain_is ∙ ap (λ paths. longest (bases_at tree) (length paths) (path ∷ [])) finds.order_is in
      ap (λ n. setting_from n (seen own.now) (seen_all configs) circles) chains
      ∙ ap (λ c. setting_from (chain_of tree path) c (seen_all configs) circles) one
      ∙ ap (λ cs. setting_from (chain_of tree path) (config_at tree path) cs circles) all_seen
      ∙ ap (λ cs. setting_from (chain_of tree path) (config_at tree path) (configs_of tree path) cs) finds.circles_is

-- one config more is found
pub configs_more : (tree : Tree) (found new : List (Bor Config)) (config : Bor Config) (path : List ℕ) (rest : List (List ℕ)) → new ≡ found ++ config ∷ [] → seen config.now ≡ config_at tree path
    → seen_all found ++ map (config_at tree) (path ∷ rest) ≡ seen_all new ++ map (config_at tree) rest
configs_more tree found new config path rest pushed here =
    ap (λ c. seen_all found ++ (c ∷ map (config_at tree) rest)) (sym here)
    ∙ sym (append_assoc (seen_all found) (seen config.now ∷ []) (map (config_at tree) rest))
    ∙ ap (λ cs. cs ++ map (config_at tree) rest) (sym (map-append (λ (c : Bor Config). seen c.now) found (config ∷ [])))
    ∙ ap (λ cs. seen_all cs ++ map (config_at tree) rest) (sym pushed)
