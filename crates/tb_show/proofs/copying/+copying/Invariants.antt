use Rattle.std.proofs.Common.{◌≡◌, ◌++◌, map, drop}
use Rattle.tb_layout.specs.Quoted as spec
use Rattle.tb_show.proofs.copying.+copying.Given as goal

abbrev pub invariant-quoted_types-loop-shape : goal.invariant-quoted_types-loop-shape
invariant-quoted_types-loop-shape l = l.shapes ++ map spec.quoted_type (drop l.shape-index l.all) ≡ map spec.quoted_type l.all

abbrev pub invariant-quoted_members-loop-member : goal.invariant-quoted_members-loop-member
invariant-quoted_members-loop-member l = l.members ++ map spec.quoted_member (drop l.member-index l.all) ≡ map spec.quoted_member l.all

abbrev pub invariant-quoted_type_params-loop-param : goal.invariant-quoted_type_params-loop-param
invariant-quoted_type_params-loop-param l = l.params ++ map spec.quoted_type_param (drop l.param-index l.all) ≡ map spec.quoted_type_param l.all
