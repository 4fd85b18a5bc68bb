use Rattle.std.proofs.Common.{◌+◌, ◌∙◌, ap, List, ℕ, refl, arith}
use Rattle.tb_tree.specs.declared.words.Word.{Word}
use Rattle.tb_tree.proofs.Ends.{found_from, found_as}
use Rattle.tb_parse_body.specs.declared.fronts.Link.TheVariants as l
use Rattle.tb_parse_body.proofs.Sequences.{deep_as}
use Rattle.tb_parse_body.proofs.Linking.{member_found, member_lacks}
use Rattle.tb_parse_body.proofs.Twos.{two_at}
use Rattle.tb_parse_body.proofs.nests.Grammar.member_at.Goals as goal

pub returns : goal.returns
returns g c =
    let dot = c.if-not-is_mark.ensures in
    let named = c.in-Some.ensures in
    (omega (arith, named.0), found_from (two_at c.args.self.now.reader c.args.at dot.2 named.2) (found_as (deep_as (ap (λ (v : List ℕ). l.Member v) c.in_ok-name.ensures) refl) (member_found _ _ _ _ _)))
