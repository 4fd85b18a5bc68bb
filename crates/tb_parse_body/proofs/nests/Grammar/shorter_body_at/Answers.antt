use Rattle.std.proofs.Common.{◌≡◌, ◌≤◌, length, arith}
use Rattle.std.specs.Prelude.{◌-◌, ◌+◌}
use Rattle.tb_parse_type.specs.Reading.{rest, text_at, start_at}
use Rattle.tb_parse_body.proofs.ShorterBodies.{cut_at, cut_length, shorter_lacks_brace, shorter_lacks_word, shorter_lacks_shape, shorter_lacks_block, shorter_found, counted_at}
use Rattle.tb_parse_body.proofs.nests.Grammar.shorter_body_at.Goals as goal

pub returns-then-not-is_mark : goal.returns-then-not-is_mark
returns-then-not-is_mark g c =
    let r = c.args.self.now.reader in
    let h : c.args.at ≤ c.args.end = omega (arith, c.requires.ordered) in
    shorter_lacks_brace (rest r c.args.at) _ (rest r c.args.end) _ _
    (cut_at r.text.now r.tokens.now c.args.at c.args.end h c.requires.within) (cut_length r.text.now r.tokens.now c.args.at c.args.end c.requires.within) c.if-not-is_mark.ensures

pub returns-then-not-is_word : goal.returns-then-not-is_word
returns-then-not-is_word g c =
    let r = c.args.self.now.reader in
    let h : c.args.at ≤ c.args.end - 1 = omega (arith, c.requires.ordered) in
    let k : c.args.end - 1 ≤ length r.tokens.now = omega (arith, c.requires.within) in
    let n = cut_length r.text.now r.tokens.now c.args.at (c.args.end - 1) k in
    shorter_lacks_word (rest r c.args.at) _ (rest r (c.args.end - 1)) _ _
    (cut_at r.text.now r.tokens.now c.args.at (c.args.end - 1) h k) (omega (arith, n, c.requires.ordered)) c.if-not-is_word.ensures

pub returns-in_default : goal.returns-in_default
returns-in_default g c =
    let r = c.args.self.now.reader in
    let b = c.in_ok-block.ensures in
    let h : c.args.at ≤ c.args.end = omega (arith, c.requires.ordered) in
    shorter_lacks_block (rest r c.args.at) _ (rest r c.args.end) _ _
    (cut_at r.text.now r.tokens.now c.args.at c.args.end h c.requires.within) (cut_length r.text.now r.tokens.now c.args.at c.args.end c.requires.within) (rw c.in_default.is at b)

pub returns-in_default-2 : goal.returns-in_default-2
returns-in_default-2 g c =
    let f = c.in_ok-shape.ensures in
    shorter_lacks_shape (rest c.args.self.now.reader c.args.at) _ _ (rw c.in_default-2.is at f)

pub returns : goal.returns
returns g c =
    let r = c.args.self.now.reader in
    let f = c.in_ok-shape.ensures in
    let b = c.in_ok-block.ensures in
    let h = rw c.in-Some.is at b in
    let q = rw c.in-Some-2.is at f in
    let o : c.args.at ≤ c.args.end = omega (arith, c.requires.ordered) in
    let e = cut_at r.text.now r.tokens.now c.args.at c.args.end o c.requires.within in
    let n = cut_length r.text.now r.tokens.now c.args.at c.args.end c.requires.within in
    let k : c.args.end - 1 ≤ length r.tokens.now = omega (arith, c.requires.within) in
    let l : c.args.at ≤ c.args.end - 1 = omega (arith, c.requires.ordered) in
    let w = cut_at r.text.now r.tokens.now c.args.at (c.args.end - 1) l k in
    let next : c.args.end - 1 + 1 ≡ c.args.end = omega (arith, c.requires.ordered) in
    let s = c.if-not-is_word.ensures in
    let i = rw next at s.2 in
    (h.0, rw c.larger.ensures (shorter_found (rest r c.args.at) _ (rest r (c.args.end - 1)) (text_at r (c.args.end - 1)) (start_at r (c.args.end - 1)) _ _ (counted_at (rest r c.args.at) _ (rest r c.args.end) _ _ e n q.1) w i h.1))
