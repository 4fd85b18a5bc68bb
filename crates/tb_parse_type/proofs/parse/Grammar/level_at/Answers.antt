use Rattle.tb_parse_type.specs.Rules.{FunctionUpto, InType}
use Rattle.tb_parse_type.proofs.Types.{type_function}
use Rattle.tb_parse_type.proofs.Rulings.{lead_reads, bare_reads}
use Rattle.tb_parse_type.proofs.Readings.{lacking, reading}
use Rattle.tb_parse_type.proofs.parse.Grammar.level_at.Goals as goal

pub returns-then-is_mark : goal.returns-then-is_mark
returns-then-is_mark g c = lead_reads c.args.limits c.args.self.now.reader c.args.at _ _ c.if-is_mark.ensures c.in_ok-lead.ensures

pub returns-in-Some : goal.returns-in-Some
returns-in-Some g c =
    let f = reading (FunctionUpto c.args.limits) InType c.args.self.now.reader c.args.at _ c.in-Some.function c.in-Some.is c.in_ok-function.ensures in
    (f.0, type_function c.args.limits f.1)

pub returns : goal.returns
returns g c =
    let n = lacking (FunctionUpto c.args.limits) InType c.args.self.now.reader c.args.at _ c.in_default.is c.in_ok-function.ensures in
    bare_reads c.args.limits c.args.self.now.reader c.args.at _ n c.if-is_mark.ensures c.in_ok-bare.ensures
