use Rattle.std.specs.Prelude.{◌-◌}
use Rattle.tb_tree.proofs.Ends.{shorter}
use Rattle.tb_parse_type.specs.Reading.{rest}
use Rattle.tb_parse_body.proofs.ShorterBodies.{between_length, only_shorter, body_longest}
use Rattle.tb_parse_body.proofs.nests.Grammar.body_at.Goals as goal

pub returns-in-Some : goal.returns-in-Some
returns-in-Some g c =
    let f = c.in_ok-annotation.ensures in
    let b = c.in_ok-block.ensures in
    let h = rw c.in-Some.is at b in
    (h.0, rw c.larger.ensures (body_longest (rest c.args.self.now.reader c.args.at) c.args.limit f.1 h.1))

pub earlier_body_at-requires-clause-only : goal.earlier_body_at-requires-clause-only
earlier_body_at-requires-clause-only g c =
    let r = c.args.self.now.reader in
    let f = c.in_ok-annotation.ensures in
    let b = c.in_ok-block.ensures in
    let n = between_length r.text.now r.tokens.now c.args.at c.in_ok-annotation.annotation.next c.requires.within f.0 (shorter f.1) in
    only_shorter (rest r c.args.at) (c.in_ok-annotation.annotation.next - c.args.at) c.args.limit f.1 (rw c.in_default.is at b) n
