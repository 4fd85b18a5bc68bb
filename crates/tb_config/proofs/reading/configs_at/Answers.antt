use Rattle.std.proofs.Common.{◌≡◌, suc, ◌<◌, ◌+◌, ◌++◌, ◌∷◌, length, drop, map, sym, ap, subst, ◌∙◌, arith, add-one, drop-cons}
use Rattle.tb_config.specs.Configs.{config_at}
use Rattle.tb_config.specs.Givens.{seen_all}
use Rattle.tb_config.specs.Seen.{IsKept}
use Rattle.tb_config.proofs.Finding.{configs_more}
use Rattle.tb_config.proofs.reading.configs_at.Goals as goal

pub kept_at-requires : goal.kept_at-requires
kept_at-requires c =
    let within : c.loop-path.path-index < length c.args.paths.now = omega arith in
    subst (λ path. IsKept c.args.configs.now path) (sym c.path-item.is) (c.requires c.loop-path.path-index c.path-item.result within)

pub loop-path-preserved : goal.loop-path-preserved
loop-path-preserved c = λ tree read.
    let paths = c.args.paths.now in
    let i = c.loop-path.path-index in
    let within : i < length paths = omega arith in
    let front : drop i paths ≡ c.path-item.result ∷ drop (i + 1) paths =
    rw (add-one i) (drop-cons paths i c.path-item.result within ∙ ap (λ path. path ∷ drop (suc i) paths) (sym c.path-item.is)) in
    c.loop-path.invariant tree read
    ∙ ap (λ ps. seen_all c.loop-path.found.items ++ map (config_at tree) ps) front
    ∙ configs_more tree c.loop-path.found.items c.push.new.self.items c.kept_at.result c.path-item.result (drop (i + 1) paths) c.in_ok-push.ensures.items (read c.path-item.result c.kept_at.result.now c.kept_at.ensures)
