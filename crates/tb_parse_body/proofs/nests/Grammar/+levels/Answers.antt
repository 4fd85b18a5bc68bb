use Rattle.std.proofs.Common.{◌≡◌, ◌+◌, ◌-◌, ◌∙◌, ℕ, suc, refl, ap, sym, arith}
use Rattle.tb_tree.specs.declared.exprs.Expr.{Expr}
use Rattle.tb_tree.proofs.Ends.{found_as, found_from, lacks_from, both, under_both}
use Rattle.tb_parse_type.specs.Rules.{InType}
use Rattle.tb_parse_type.specs.Reading.{rest}
use Rattle.tb_parse_body.specs.Rules.{LevelUpto, InLevel}
use Rattle.tb_parse_body.specs.Joins.{IsJoin, CastUpto, OperationUpto}
use Rattle.tb_parse_body.proofs.Places.{lacking, reading, start_is}
use Rattle.tb_parse_body.proofs.Answered.{unary_reads, join_lacking, join_reading}
use Rattle.tb_parse_body.proofs.Rests.{RestSoFar, rest_turn, rest_end}
use Rattle.tb_parse_body.proofs.Joining.{level_lacks, level_start, up_found, up_lacks, operation_found, operation_lacks_operand, join_cast, join_operation, join_lacks, join_begins, join_wide, join_falls, join_parted}
use Rattle.tb_parse_body.proofs.nests.Grammar.+levels.Goals as goal

pub level_at-returns-then-level-eq-UNARY : goal.level_at-returns-then-level-eq-UNARY
level_at-returns-then-level-eq-UNARY g t c = unary_reads c.args.level c.args.limit c.args.self.now.reader c.args.at c.in_ok-unary.unary c.if-level-eq-UNARY.true c.in_ok-unary.ensures

pub level_at-returns-in_default : goal.level_at-returns-in_default
level_at-returns-in_default g t c =
    let n = lacking (LevelUpto (c.args.level + 1) c.args.limit) (InLevel (c.args.level + 1)) c.args.self.now.reader c.args.at _ c.in_default.is c.in_ok-first.ensures in
    level_lacks c.args.limit c.if-level-eq-UNARY.false (up_lacks c.args.level c.args.limit n)

pub operation_at-returns-in_default-2 : goal.operation_at-returns-in_default-2
operation_at-returns-in_default-2 g t c =
    let s = c.in-Some.ensures in
    let n = lacking (LevelUpto (c.args.level + 1) c.args.limit) (InLevel (c.args.level + 1)) c.args.self.now.reader (c.args.at + 1) _ c.in_default-2.is c.in_ok-right.ensures in
    lacks_from s.1.2 (operation_lacks_operand c.args.level c.args.limit s.0 (up_lacks c.args.level c.args.limit n))

pub operation_at-returns : goal.operation_at-returns
operation_at-returns g t c =
    let s = c.in-Some.ensures in
    let x = c.in-Some-2.right in
    let f = reading (LevelUpto (c.args.level + 1) c.args.limit) (InLevel (c.args.level + 1)) c.args.self.now.reader (c.args.at + 1) _ x c.in-Some-2.is c.in_ok-right.ensures in
    (f.0, found_from s.1.2 (found_as (both (both refl c.in_ok-operand.ensures) refl) (operation_found c.args.level c.args.limit s.0 s.2 s.3 (up_found c.args.level c.args.limit f.1))))

pub join_at-returns-in-Some : goal.join_at-returns-in-Some
join_at-returns-in-Some g t c =
    let f = reading (CastUpto c.args.level c.args.limit) InType c.args.self.now.reader c.args.at _ c.in-Some.cast c.in-Some.is c.in_ok-cast.ensures in
    (f.0, join_cast c.args.level c.args.limit f.1)

pub join_at-returns-in_default-2 : goal.join_at-returns-in_default-2
join_at-returns-in_default-2 g t c =
    let m = lacking (CastUpto c.args.level c.args.limit) InType c.args.self.now.reader c.args.at _ c.in_default.is c.in_ok-cast.ensures in
    let n = lacking (OperationUpto c.args.level c.args.limit) (InLevel (suc c.args.level)) c.args.self.now.reader c.args.at _ c.in_default-2.is c.in_ok-operation.ensures in
    join_lacks c.args.level c.args.limit m n

pub join_at-returns : goal.join_at-returns
join_at-returns g t c =
    let f = reading (OperationUpto c.args.level c.args.limit) (InLevel (suc c.args.level)) c.args.self.now.reader c.args.at _ c.in-Some-2.operation c.in-Some-2.is c.in_ok-operation.ensures in
    (f.0, join_operation c.args.level c.args.limit f.1)

pub level_from-loop-left-init : goal.level_from-loop-left-init
level_from-loop-left-init g t c =
    let f = c.requires.first in
    record {
      within = f.0;
      shallow = f.1.derives.1;
      all = level_start c.args.limit (λ e. omega (arith, e, c.requires.level.1)) (c.start_at-start.ensures ∙ start_is c.args.self.now.reader c.args.at) f.1;
    }

pub level_from-loop-left-preserved : goal.level_from-loop-left-preserved
level_from-loop-left-preserved g t c =
    let v = c.loop-left.invariant in
    let r = c.args.self.now.reader in
    let x = c.in-Some.join in
    let left = c.loop-left.left in
    let f = join_reading c.args.level (c.args.limit - 1) r left.next _ x c.in-Some.is c.in_ok-join.ensures in
    record {
      within = f.0;
      shallow = omega (arith, c.larger.ensures, f.1.derives.1, c.loop-left-test.true);
      all = under_both (λ (y : Expr) (d : ℕ). RestSoFar (IsJoin c.args.level) (InLevel c.args.level) (LevelUpto c.args.level c.args.limit) c.start_at-start.result c.args.limit (rest r c.args.at) y d (rest r x.next))
          c.in_ok-joined.ensures (ap (λ d. d + 1) c.larger.ensures)
          (rest_turn {J = IsJoin c.args.level} (c.args.limit - 1) c.args.limit (rest r c.args.at) left.tree left.depth (omega (arith, c.loop-left-test.true)) v.all f.1 (join_begins f.1)
          (join_wide c.args.level f.1.front x.depth x.tree f.1.derives.0) (join_parted f.1) (join_falls f.1));
    }

pub level_from-returns-in_default : goal.level_from-returns-in_default
level_from-returns-in_default g t c =
    let v = c.loop-left.invariant in
    let left = c.loop-left.left in
    let n = join_lacking c.args.level (c.args.limit - 1) c.args.self.now.reader left.next _ c.in_default.is c.in_ok-join.ensures in
    (v.within, rest_end {J = IsJoin c.args.level} (c.args.limit - 1) c.args.limit (rest c.args.self.now.reader c.args.at) left.tree left.depth v.all v.shallow (λ h. omega (arith, h)) (λ h. n))

pub level_from-returns : goal.level_from-returns
level_from-returns g t c =
    let v = c.loop-left.invariant in
    let left = c.loop-left.left in (
      v.within,
      rest_end {J = IsJoin c.args.level} (c.args.limit - 1) c.args.limit (rest c.args.self.now.reader c.args.at) left.tree left.depth v.all v.shallow (λ h. omega (arith, h))
          (λ h. absurd (omega (arith, h, c.loop-left-test.false))),
    )
