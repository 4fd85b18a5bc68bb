use Rattle.std.proofs.Common.{◌≡◌, [], ◌∷◌, All, IfOk, IfErr, length, map, sym, ap, subst, ◌∙◌}
use Rattle.std.proofs.lemmas.List.Elements.{All-weaker}
use Rattle.tb_config.specs.Seen.{IsKept}
use Rattle.tb_config.specs.Settings.{Good, IfFaulty, Reads}
use Rattle.tb_config.specs.Bases.{bases_at}
use Rattle.tb_config.specs.Configs.{config_at}
use Rattle.tb_config.specs.Givens.{seen_all}
use Rattle.tb_config.specs.Walks.{Walk, longest}
use Rattle.tb_config.proofs.Finding.{Finds, found_setting, some_found}
use Rattle.tb_config.proofs.reading.read_setting.Goals as goal

pub configs_at-requires : goal.configs_at-requires
configs_at-requires c =
    let order = c.in_ok-order.field-0.entered.items in
    let kept : All (IsKept c.longest.new.configs) order = All-weaker (IsKept c.walk_from-2.new.configs) (IsKept c.longest.new.configs) c.in_ok-chain.ensures.kept order c.in_ok-order.ensures.kept in
    subst (λ paths. All (IsKept c.longest.new.configs) paths) (sym c.as_slice.ensures.value) kept

pub first-own-requires : goal.first-own-requires
first-own-requires c =
    let tree = c.args.tree.now in
    let path = c.args.path.now in
    let walk = c.in_ok-order.field-0 in
    let order = walk.entered.items in
    let circles = c.in_ok-circles.field-0.circles.items in
    let found = c.as_slice-found.result.now in
    let whole : found ≡ c.in_ok-overriding.overriding.items = c.as_slice-found.ensures.value in
    let paths : c.as_slice.result.now ≡ order = c.as_slice.ensures.value in
    let finds : Finds tree path order circles c.in_ok-chain.chain found = record {
      order_is = ap (λ (w : Walk). w.entered) c.in_ok-order.ensures.found;
      circles_is = ap (λ (w : Walk). w.circles) c.in_ok-circles.ensures.found;
      chain_is = c.in_ok-chain.ensures.longest ∙ ap (λ n. longest (bases_at tree) n (path ∷ [])) (c.len.ensures ∙ sym c.as_slice.ensures.len ∙ ap length paths);
      configs_is = ap seen_all whole ∙ c.in_ok-overriding.ensures tree c.in_ok-chain.ensures.read ∙ ap (λ ps. map (config_at tree) ps) paths;
    } in
    some_found tree path order circles c.in_ok-chain.chain found finds

pub returns-clause-ok : goal.returns-clause-ok
returns-clause-ok c =
    let tree = c.args.tree.now in
    let path = c.args.path.now in
    let walk = c.in_ok-order.field-0 in
    let order = walk.entered.items in
    let circles = c.as_slice-2.result.now in
    let found = c.as_slice-found.result.now in
    let whole : found ≡ c.in_ok-overriding.overriding.items = c.as_slice-found.ensures.value in
    let paths : c.as_slice.result.now ≡ order = c.as_slice.ensures.value in
    let finds : Finds tree path order circles c.in_ok-chain.chain found = record {
      order_is = ap (λ (w : Walk). w.entered) c.in_ok-order.ensures.found;
      circles_is = c.as_slice-2.ensures.value ∙ ap (λ (w : Walk). w.circles) c.in_ok-circles.ensures.found;
      chain_is = c.in_ok-chain.ensures.longest ∙ ap (λ n. longest (bases_at tree) n (path ∷ [])) (c.len.ensures ∙ sym c.as_slice.ensures.len ∙ ap length paths);
      configs_is = ap seen_all whole ∙ c.in_ok-overriding.ensures tree c.in_ok-chain.ensures.read ∙ ap (λ ps. map (config_at tree) ps) paths;
    } in
    let same = found_setting tree path order circles c.in_ok-chain.chain found finds c.first-own.result c.first-own.ensures in
    subst (λ (r : Reads). IfOk c.setting_from.result (λ s. r ≡ Good s)) same c.setting_from.ensures.ok

pub returns-clause-faults : goal.returns-clause-faults
returns-clause-faults c =
    let tree = c.args.tree.now in
    let path = c.args.path.now in
    let walk = c.in_ok-order.field-0 in
    let order = walk.entered.items in
    let circles = c.as_slice-2.result.now in
    let found = c.as_slice-found.result.now in
    let whole : found ≡ c.in_ok-overriding.overriding.items = c.as_slice-found.ensures.value in
    let paths : c.as_slice.result.now ≡ order = c.as_slice.ensures.value in
    let finds : Finds tree path order circles c.in_ok-chain.chain found = record {
      order_is = ap (λ (w : Walk). w.entered) c.in_ok-order.ensures.found;
      circles_is = c.as_slice-2.ensures.value ∙ ap (λ (w : Walk). w.circles) c.in_ok-circles.ensures.found;
      chain_is = c.in_ok-chain.ensures.longest ∙ ap (λ n. longest (bases_at tree) n (path ∷ [])) (c.len.ensures ∙ sym c.as_slice.ensures.len ∙ ap length paths);
      configs_is = ap seen_all whole ∙ c.in_ok-overriding.ensures tree c.in_ok-chain.ensures.read ∙ ap (λ ps. map (config_at tree) ps) paths;
    } in
    let same = found_setting tree path order circles c.in_ok-chain.chain found finds c.first-own.result c.first-own.ensures in
    subst (λ (r : Reads). IfErr c.setting_from.result (IfFaulty r)) same c.setting_from.ensures.faults
