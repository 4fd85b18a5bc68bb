use Rattle.std.proofs.Common.{◌≡◌, ◌∙◌, Bool, true, false, cond, refl}
use Rattle.std.specs.String.{string_bytes}
use Rattle.std.proofs.lemmas.Map.Text.{btree_set_updates_text}
use Rattle.tb_main.proofs.changes.Changes.note_place.Goals as goal

still_true : (b kept : Bool) → kept ≡ true → cond b true kept ≡ true
still_true true kept e = refl
still_true false kept e = e

pub returns-in_ok-insert-clause-kept : goal.returns-in_ok-insert-clause-kept
returns-in_ok-insert-clause-kept c = λ place was.
    btree_set_updates_text (string_bytes c.in_ok-from_str.field-0) c.args.self.now.places c.insert.new.self true c.in_ok-insert.ensures.updates place ∙ still_true _ _ was
