use Rattle.std.proofs.Common.{◌≡◌, ℕ, ◌<◌, take, slice_index}
use Rattle.std.specs.Prelude.{codes}
use Rattle.tb_main.specs.Noted.{IsNoted, KeepsPlaces}
use Rattle.tb_main.proofs.changes.Changes.note.Given as goal

abbrev pub invariant-loop-end : goal.invariant-loop-end
invariant-loop-end l = record {
  file : IsNoted l.self.places l.path;
  root : IsNoted l.self.places (codes ".");
  folders : (e : ℕ) → 0 < e → e < l.end → slice_index l.path e ≡ 47 → IsNoted l.self.places (take e l.path);
  kept : KeepsPlaces l.fn.self.places l.self.places;
}
