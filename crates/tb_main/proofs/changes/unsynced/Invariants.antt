use Rattle.std.proofs.Common.{◌≡◌, ◌++◌, map}
use Rattle.std.specs.String.{string_bytes}
use Rattle.tb_main.proofs.changes.unsynced.Given as goal

abbrev pub invariant-loop-path : goal.invariant-loop-path
invariant-loop-path l = map (λ place. place.path.now) l.places.items ++ map string_bytes l.path-iterator ≡ map string_bytes l.paths.keys
