use Rattle.tb_parse_body.proofs.Declarators.{next_reads, next_lacks_comma}
use Rattle.tb_parse_body.proofs.nests.Grammar.next_declarator_at.Goals as goal

pub returns-then-not-is_mark : goal.returns-then-not-is_mark
returns-then-not-is_mark g c = next_lacks_comma c.args.kind c.args.limit _ c.if-not-is_mark.ensures

pub returns : goal.returns
returns g c = next_reads c.args.kind c.args.limit c.args.self.now.reader c.args.at _ _ c.if-not-is_mark.ensures c.in_ok-next.ensures
