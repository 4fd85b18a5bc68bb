use Rattle.std.proofs.Common.{◌≡◌, ◌∙◌, sym}
use Rattle.tb_tree.proofs.Ends.{found_from, found_as, lacks_from}
use Rattle.tb_parse_type.specs.Reading.{text_at, start_at}
use Rattle.tb_parse_body.proofs.Declarators.{declarator_found, declarator_lacks_value, same_declarator}
use Rattle.tb_parse_body.proofs.nests.Grammar.declarator_at.Goals as goal

pub returns-then-not-is_valued : goal.returns-then-not-is_valued
returns-then-not-is_valued g c =
    let r = c.args.self.now.reader in
    let s = c.in-Some.ensures in
    let stands = s.1 in
    let a = c.in_ok-annotation.ensures in
    let v = c.in_ok-value.ensures in
    lacks_from stands.2 (declarator_lacks_value c.args.kind c.args.limit c.in-Some._word (text_at r c.args.at) (start_at r c.args.at) (sym c.is_valued.ensures ∙ c.if-not-is_valued.true) a.1 v.1)

pub returns : goal.returns
returns g c =
    let r = c.args.self.now.reader in
    let s = c.in-Some.ensures in
    let stands = s.1 in
    let a = c.in_ok-annotation.ensures in
    let v = c.in_ok-value.ensures in
    let same = same_declarator c.in_ok-annotation.annotation.tree c.in_ok-value.value.tree c.start_at.ensures c.in_ok-name.ensures c.larger.ensures in
    (v.0, found_as same (found_from stands.2 (declarator_found c.args.kind c.args.limit c.in-Some._word (text_at r c.args.at) (start_at r c.args.at) s.0 (sym c.is_valued.ensures ∙ c.if-not-is_valued.false) a.1 v.1)))
