use Rattle.std.proofs.Common.{◌≡◌, ◌∙◌, sym, ℕ}
use Rattle.tb_tree.proofs.Ends.{found_from, found_as, lacks_from}
use Rattle.tb_parse_type.specs.Reading.{text_at, start_at}
use Rattle.tb_parse_body.proofs.Parameters.{param_found, param_lacks_name, given_alone, same_param}
use Rattle.tb_parse_body.proofs.nests.Grammar.param_at.Goals as goal

pub returns-clause-longest : goal.returns-clause-longest
returns-clause-longest g c =
    let r = c.args.self.now.reader in
    let s = c.in-Some.ensures in
    let stands = s.1 in
    let q = c.question_at-optional.ensures in
    let a = c.in_ok-annotation.ensures in
    let v = c.in_ok-value.ensures in
    let same = same_param c.question_at-optional.result.0 c.in_ok-annotation.annotation.tree c.in_ok-value.value.tree c.start_at.ensures c.in_ok-name.ensures c.is_given-given.ensures c.larger.ensures in
    (v.0, found_as same (found_from stands.2 (param_found c.args.limit c.in-Some._word (text_at r c.args.at) (start_at r c.args.at) s.0 q.1 a.1 v.1)))

pub returns-clause-given : goal.returns-clause-given
returns-clause-given g c = λ none.
    let r = c.args.self.now.reader in
    let s = c.in-Some.ensures in
    let stands = s.1 in
    let q = c.question_at-optional.ensures in
    let a = c.in_ok-annotation.ensures in
    let v = c.in_ok-value.ensures in
    lacks_from stands.2 (given_alone c.args.limit c.in-Some._word (text_at r c.args.at) (start_at r c.args.at) (sym c.is_given-given.ensures ∙ none) q.1 a.1 v.1)
