use Rattle.tb_parse_type.specs.Reading.{head_of}
use Rattle.tb_parse_type.proofs.Rulings.{method_reads, property_reads}
use Rattle.tb_parse_type.proofs.parse.Grammar.member_rest_at.Goals as goal

pub returns-then-has_method : goal.returns-then-has_method
returns-then-has_method g c =
    let h = c.if-has_method.ensures in
    method_reads c.args.limits (head_of c.args.head) c.args.optional c.args.self.now.reader c.args.at _ _ h.0 h.1 c.in_ok-method.ensures

pub returns : goal.returns
returns g c = property_reads c.args.limits (head_of c.args.head) c.args.optional c.args.self.now.reader c.args.at _ c.if-has_method.ensures c.in_ok-property.ensures
