use Rattle.std.proofs.Common.{arith, sym, subst, ◌∙◌}
use Rattle.tb_tree.specs.declared.words.Class.{Class}
use Rattle.tb_tree.specs.Sym.{Lex}
use Rattle.tb_tree.proofs.Ends.{found_from, lacks_from}
use Rattle.tb_parse_type.specs.Reading.{Stands, text_at, start_at}
use Rattle.tb_parse_body.proofs.PrimaryFronts.{primary_single, primary_lacks_class}
use Rattle.tb_parse_body.proofs.nests.Grammar.class_primary_at.Goals as goal

pub template_at-requires-clause-stands : goal.template_at-requires-clause-stands
template_at-requires-clause-stands g c =
    let r = c.args.self.now.reader in
    subst (λ (k : Class). Stands r c.args.at (Lex k (text_at r c.args.at) (start_at r c.args.at))) c.if-is_head.ensures c.requires.stands

pub new_at-requires-clause-stands : goal.new_at-requires-clause-stands
new_at-requires-clause-stands g c =
    let r = c.args.self.now.reader in
    subst (λ (k : Class). Stands r c.args.at (Lex k (text_at r c.args.at) (start_at r c.args.at))) c.if-is_new.ensures c.requires.stands

pub returns-in_default : goal.returns-in_default
returns-in_default g c = lacks_from c.requires.stands.2 (primary_lacks_class c.args.class _ _ c.args.limit _ (sym c.in_ok-tree.ensures ∙ c.in_default.is) c.if-is_head.ensures c.if-is_new.ensures)

pub returns : goal.returns
returns g c = (omega (arith, c.requires.stands.0), found_from c.requires.stands.2 (primary_single c.args.limit _ c.requires.some (sym c.in_ok-tree.ensures ∙ c.in-Some.is)))
