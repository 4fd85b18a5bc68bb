-- From the answers of the rules inside to the answer of a rule.
use Rattle.std.proofs.Common.{◌≡◌, ℕ, Bool, subst}
use Rattle.std.specs.Prelude.{Option, Some, None}
use Rattle.tb_tree.specs.declared.types.TypeExpr.{TypeExpr}
use Rattle.tb_tree.specs.declared.exprs.Expr.{Expr}
use Rattle.tb_tree.specs.Longest.{Lacks}
use Rattle.tb_parse_type.specs.declared.reader.Limits.{Limits}
use Rattle.tb_parse_type.specs.declared.reader.Reader.{Reader}
use Rattle.tb_parse_type.specs.declared.reader.Read.{Read}
use Rattle.tb_parse_type.specs.Rules.{TypeUpto, InType}
use Rattle.tb_parse_type.specs.Reading.{rest, FoundAt, Reads as ReadsType}
use Rattle.tb_parse_body.specs.declared.fronts.Front.{Front}
use Rattle.tb_parse_body.specs.declared.levels.Join.{Join}
use Rattle.tb_parse_body.specs.Rules.{ArrowUpto, UnaryUpto, LevelUpto, InUnary, InLevel}
use Rattle.tb_parse_body.specs.Reading.{Reads}
use Rattle.tb_parse_body.specs.declared.fronts.Start.{Start}
use Rattle.tb_parse_body.specs.declared.fronts.Start.TheVariants as s
use Rattle.tb_parse_body.specs.Starts.{ReadsStart}
use Rattle.tb_parse_body.specs.Joins.{JoinUpto, InJoin, ReadsJoin}
use Rattle.tb_parse_body.proofs.Joining.{unary_level_found, unary_level_lacks}

pub unary_reads : (l n : ℕ) (r : Reader) (at : ℕ) (o : Option (Front Expr)) → l ≡ 7 → Reads (UnaryUpto n) InUnary r at o → Reads (LevelUpto l n) (InLevel l) r at o
unary_reads l n r at None is h = unary_level_lacks l n is h
unary_reads l n r at (Some x) is h = (h.0, unary_level_found l n is h.1)

pub join_lacking : (l n : ℕ) (r : Reader) (at : ℕ) (o : Option (Front Join)) → o ≡ None → ReadsJoin l n r at o → Lacks (JoinUpto l n) (rest r at)
join_lacking l n r at o e h = subst (λ v. ReadsJoin l n r at v) e h

pub join_reading : (l n : ℕ) (r : Reader) (at : ℕ) (o : Option (Front Join)) (x : Front Join) → o ≡ Some x → ReadsJoin l n r at o
    → FoundAt (JoinUpto l n) (InJoin l x.tree) r at (x.tree, x.depth) x.next
join_reading l n r at o x e h = subst (λ v. ReadsJoin l n r at v) e h

pub type_lacking : (k : Limits) (r : Reader) (at : ℕ) (o : Option (Read TypeExpr)) → o ≡ None → ReadsType (TypeUpto k) InType r at o → Lacks (TypeUpto k) (rest r at)
type_lacking k r at o e h = subst (λ v. ReadsType (TypeUpto k) InType r at v) e h

pub type_reading : (k : Limits) (r : Reader) (at : ℕ) (o : Option (Read TypeExpr)) (x : Read TypeExpr) → o ≡ Some x → ReadsType (TypeUpto k) InType r at o
    → FoundAt (TypeUpto k) InType r at (x.tree, x.own, x.depth) x.next
type_reading k r at o x e h = subst (λ v. ReadsType (TypeUpto k) InType r at v) e h

-- where an expression may begin with an arrow, and was found to begin with none
pub open_start : (typed : Bool) (n : ℕ) (r : Reader) (at : ℕ) (x : Start) → x ≡ s.Open → ReadsStart typed n r at x → Lacks (ArrowUpto typed n) (rest r at)
open_start typed n r at x e h = subst (λ v. ReadsStart typed n r at v) e h
