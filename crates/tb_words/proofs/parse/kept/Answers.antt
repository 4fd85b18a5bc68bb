use Rattle.tb_words.proofs.Matches.{same_given}
use Rattle.tb_words.proofs.parse.kept.Goals as goal

pub returns : goal.returns
returns c =
    same_given c.is_given.ensures c.is_given-2.ensures c.is_given-3.ensures c.is_given-4.ensures c.is_given-5.ensures c.given_text.ensures c.given_text-2.ensures c.given_text-3.ensures c.in_ok-roots.ensures
