use Rattle.std.proofs.Common.{◌≡◌, drop, map}
use Rattle.std.specs.List.{list_any}
use Rattle.std.specs.Str.{bytes_eq}
use Rattle.tb_options.proofs.options.lists.Given as goal

abbrev pub invariant-loop-option : goal.invariant-loop-option
invariant-loop-option l = list_any (bytes_eq l.name) (map (λ option. option.now) l.options) ≡ list_any (bytes_eq l.name) (map (λ option. option.now) (drop l.option-index l.options))
