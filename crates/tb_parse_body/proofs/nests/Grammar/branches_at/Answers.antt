use Rattle.std.proofs.Common.{◌+◌, refl, false}
use Rattle.tb_tree.proofs.Ends.{found_as, found_from, found_left, lacks_from, both}
use Rattle.tb_parse_body.specs.Rules.{ExprUpto, InExpr}
use Rattle.tb_parse_body.proofs.Places.{lacking, reading}
use Rattle.tb_parse_body.proofs.Conds.{branches_found, branches_lack_then, branches_lack_colon, branches_lack_else}
use Rattle.tb_parse_body.proofs.nests.Grammar.branches_at.Goals as goal

pub returns-in_default : goal.returns-in_default
returns-in_default g c =
    let s = c.if-not-is_mark.ensures in
    let n = lacking (ExprUpto false c.args.limit) (InExpr false) c.args.self.now.reader (c.args.at + 1) _ c.in_default.is c.in_ok-then.ensures in
    lacks_from s.2 (branches_lack_then c.args.typed c.args.limit _ n)

pub returns-then-not-is_mark-2 : goal.returns-then-not-is_mark-2
returns-then-not-is_mark-2 g c =
    let s = c.if-not-is_mark.ensures in
    let f = reading (ExprUpto false c.args.limit) (InExpr false) c.args.self.now.reader (c.args.at + 1) _ c.in-Some.then c.in-Some.is c.in_ok-then.ensures in
    lacks_from s.2 (branches_lack_colon c.args.typed c.args.limit _ f.1 c.if-not-is_mark-2.ensures)

pub returns-in_default-2 : goal.returns-in_default-2
returns-in_default-2 g c =
    let s = c.if-not-is_mark.ensures in
    let f = reading (ExprUpto false c.args.limit) (InExpr false) c.args.self.now.reader (c.args.at + 1) _ c.in-Some.then c.in-Some.is c.in_ok-then.ensures in
    let n = lacking (ExprUpto c.args.typed c.args.limit) (InExpr c.args.typed) c.args.self.now.reader (c.in-Some.then.next + 1) _ c.in_default-2.is c.in_ok-otherwise.ensures in
    lacks_from s.2 (branches_lack_else c.args.typed c.args.limit _ _ (found_left c.if-not-is_mark-2.ensures.2 f.1) n)

pub returns : goal.returns
returns g c =
    let s = c.if-not-is_mark.ensures in
    let f = reading (ExprUpto false c.args.limit) (InExpr false) c.args.self.now.reader (c.args.at + 1) _ c.in-Some.then c.in-Some.is c.in_ok-then.ensures in
    let h = reading (ExprUpto c.args.typed c.args.limit) (InExpr c.args.typed) c.args.self.now.reader (c.in-Some.then.next + 1) _ c.in-Some-2.otherwise c.in-Some-2.is c.in_ok-otherwise.ensures in
    (h.0, found_from s.2 (found_as (both refl c.larger.ensures) (branches_found c.args.typed c.args.limit _ _ (found_left c.if-not-is_mark-2.ensures.2 f.1) h.1)))
