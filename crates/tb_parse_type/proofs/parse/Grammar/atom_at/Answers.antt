use Rattle.tb_tree.proofs.Ends.{lacks_from}
use Rattle.tb_parse_type.proofs.Atoms.{atom_lacks_room, atom_lacks_end}
use Rattle.tb_parse_type.proofs.parse.Grammar.atom_at.Goals as goal

pub returns-then-not-has_room : goal.returns-then-not-has_room
returns-then-not-has_room g c = atom_lacks_room c.args.limits _ c.if-not-has_room.ensures

pub returns-in-None : goal.returns-in-None
returns-in-None g c = lacks_from c.in-None.ensures (atom_lacks_end c.args.limits)
