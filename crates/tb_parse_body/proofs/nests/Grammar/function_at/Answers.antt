use Rattle.std.proofs.Common.{◌+◌}
use Rattle.tb_tree.proofs.Ends.{found_from, found_as, lacks_from}
use Rattle.tb_parse_type.specs.Reading.{text_at, start_at}
use Rattle.tb_parse_body.proofs.FunctionReadings.{function_lacks_signature, function_lacks_body, function_found, same_function, two_stand}
use Rattle.tb_parse_body.proofs.nests.Grammar.function_at.Goals as goal

pub returns-in_default-2 : goal.returns-in_default-2
returns-in_default-2 g c =
    let r = c.args.self.now.reader in
    let w = c.if-not-is_word.ensures in
    let s = c.in-Some.ensures in
    let f = c.in_ok-params.ensures in
    lacks_from (two_stand r c.args.at w.2 s.1.2) (function_lacks_signature c.args.limit _ _ _ _ _ (rw c.in_default-2.is at f))

pub returns-in_default-3 : goal.returns-in_default-3
returns-in_default-3 g c =
    let r = c.args.self.now.reader in
    let w = c.if-not-is_word.ensures in
    let s = c.in-Some.ensures in
    let f = c.in_ok-params.ensures in
    let p = rw c.in-Some-2.is at f in
    let b = c.in_ok-body.ensures in
    lacks_from (two_stand r c.args.at w.2 s.1.2) (function_lacks_body c.args.limit _ _ _ _ _ p.1 (rw c.in_default-3.is at b))

pub returns : goal.returns
returns g c =
    let r = c.args.self.now.reader in
    let w = c.if-not-is_word.ensures in
    let s = c.in-Some.ensures in
    let f = c.in_ok-params.ensures in
    let p = rw c.in-Some-2.is at f in
    let b = c.in_ok-body.ensures in
    let q = rw c.in-Some-3.is at b in
    let same = same_function (c.in-Some-2.params.tree, c.in-Some-2.params.depth) (c.in-Some-3.body.tree, c.in-Some-3.body.depth) c.start_at.ensures c.in_ok-name.ensures c.new.ensures c.in_ok-new.ensures c.larger.ensures in
    (q.0, found_as same (found_from (two_stand r c.args.at w.2 s.1.2) (function_found c.args.limit _ _ c.in-Some._word (text_at r (c.args.at + 1)) (start_at r (c.args.at + 1)) s.0 p.1 q.1)))
