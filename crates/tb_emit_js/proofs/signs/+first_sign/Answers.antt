use Rattle.std.proofs.Common.{sym}
use Rattle.tb_emit_js.proofs.Firsts.{down, named, member_sign, index_sign, call_sign, update_sign, binary_sign, as_sign, conditional_sign, assign_sign}
use Rattle.tb_emit_js.proofs.signs.+first_sign.Goals as goal

pub returns-in-Member : goal.returns-in-Member
returns-in-Member t c = down c.in-Member.is (member_sign _ _ _ _ (down (sym c.get.ensures) c.first_sign.ensures))

pub returns-in-Index : goal.returns-in-Index
returns-in-Index t c = down c.in-Index.is (index_sign _ _ _ _ (down (sym c.get-in-Index.ensures) c.first_sign-in-Index.ensures))

pub returns-in-Call : goal.returns-in-Call
returns-in-Call t c = down c.in-Call.is (call_sign _ _ _ _ _ (down (sym c.get-in-Call.ensures) c.first_sign-in-Call.ensures))

pub returns-in-Binary : goal.returns-in-Binary
returns-in-Binary t c = down c.in-Binary.is (binary_sign _ _ _ _ _ (down (sym c.get-in-Binary.ensures) c.first_sign-in-Binary.ensures))

pub returns-in-As : goal.returns-in-As
returns-in-As t c = down c.in-As.is (as_sign _ _ _ _ (down (sym c.get-in-As.ensures) c.first_sign-in-As.ensures))

pub returns-in-Conditional : goal.returns-in-Conditional
returns-in-Conditional t c =
    down c.in-Conditional.is (conditional_sign _ _ _ _ _ (down (sym c.get-in-Conditional.ensures) c.first_sign-in-Conditional.ensures))

pub returns-in-Assign : goal.returns-in-Assign
returns-in-Assign t c = down c.in-Assign.is (assign_sign _ _ _ _ _ (down (sym c.get-in-Assign.ensures) c.first_sign-in-Assign.ensures))

pub returns-in-Update : goal.returns-in-Update
returns-in-Update t c =
    down c.in-Update.is (named _ c.sign_of_update.ensures (update_sign _ _ _ _ _ (down (sym c.get-in-Update.ensures) c.first_sign-in-Update.ensures)))
