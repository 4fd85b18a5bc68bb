use Rattle.std.proofs.Common.{arith, sym, ◌∙◌}
use Rattle.tb_tree.proofs.Ends.{found_from, lacks_from}
use Rattle.tb_parse_type.proofs.Atoms.{atom_single, atom_lacks_class}
use Rattle.tb_parse_type.proofs.reader.Reader.single_at.Goals as goal

pub returns-in_default : goal.returns-in_default
returns-in_default c = lacks_from c.requires.stands.2 (atom_lacks_class c.args.class _ _ c.args.limits _ (sym c.in_ok-tree.ensures ∙ c.in_default.is))

pub returns : goal.returns
returns c = (omega (arith, c.requires.stands.0), found_from c.requires.stands.2 (atom_single c.args.limits _ c.requires.own c.requires.depth (sym c.in_ok-tree.ensures ∙ c.in-Some.is)))
