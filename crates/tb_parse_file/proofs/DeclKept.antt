-- Whether an export list is kept.
use Rattle.std.proofs.Common.{◌≡◌, ◌≤◌, Bool, true, false, List, [], ◌∷◌, length, refl, ap, arith}
use Rattle.std.specs.Prelude.{◌||◌}
use Rattle.tb_tree.specs.declared.items.Spec.{Spec}
use Rattle.tb_tree.specs.declared.items.ExportList.{ExportList}
use Rattle.tb_tree.specs.Surfaces.{is_spec, is_origin}

no_spec : (specs : List Spec) → length specs ≤ 0 → is_spec specs ≡ false
no_spec [] h = refl
no_spec (of ∷ rest) h = absurd (omega (arith, h))

some_spec : (specs : List Spec) → 1 ≤ length specs → is_spec specs ≡ true
some_spec [] h = absurd (omega (arith, h))
some_spec (of ∷ rest) h = refl

pub kept_by_origin : (of : ExportList) → length of.specs ≤ 0 → (is_spec of.specs || is_origin of.from) ≡ is_origin of.from
kept_by_origin of h = ap (λ (b : Bool). b || is_origin of.from) (no_spec of.specs h)

pub kept_by_specs : (of : ExportList) → 1 ≤ length of.specs → (is_spec of.specs || is_origin of.from) ≡ true
kept_by_specs of h = ap (λ (b : Bool). b || is_origin of.from) (some_spec of.specs h)
