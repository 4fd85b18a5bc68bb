-- Lists with members.
use Rattle.std.proofs.Common.{◌≡◌, ◌≤◌, false, true, List, [], ◌∷◌, length, Some, refl, arith}
use Rattle.serde_json.specs.View.{items_view}
use Rattle.serde_json.specs.declared.value.Value.{Value}
use Rattle.tb_config.specs.Settings.{is_empty, is_nonempty}

pub is_empty-false : (vs : List Value) → 1 ≤ length vs → is_empty (Some (items_view vs)) ≡ false
is_empty-false [] h = absurd (omega arith)
is_empty-false (v ∷ vs) h = refl

pub is_nonempty-true : (vs : List Value) → 1 ≤ length vs → is_nonempty (Some (items_view vs)) ≡ true
is_nonempty-true [] h = absurd (omega arith)
is_nonempty-true (v ∷ vs) h = refl
