use Rattle.std.proofs.Common.{◌≡◌, arith}
use Rattle.std.specs.Prelude.{◌-◌}
use Rattle.tb_parse_type.specs.Reading.{rest}
use Rattle.tb_parse_body.proofs.ShorterBodies.{cut_at, cut_length, cut_more, counted_lacks, counted_lacks_end, counted_found}
use Rattle.tb_parse_body.proofs.bodies.shape_before.Goals as goal

pub returns-in_default : goal.returns-in_default
returns-in_default c =
    let r = c.args.reader in
    let e = cut_at r.text.now r.tokens.now c.args.at c.args.end c.requires.ordered c.requires.within in
    let h = cut_length r.text.now r.tokens.now c.args.at c.args.end c.requires.within in
    let f = c.in_ok-shape.ensures in
    counted_lacks (rest r c.args.at) (rest r c.args.end) _ _ e h (rw c.in_default.is at f)

pub returns-then-shape-end : goal.returns-then-shape-end
returns-then-shape-end c =
    let r = c.args.reader in
    let e = cut_at r.text.now r.tokens.now c.args.at c.args.end c.requires.ordered c.requires.within in
    let h = cut_length r.text.now r.tokens.now c.args.at c.args.end c.requires.within in
    let f = c.in_ok-shape.ensures in
    let g = rw c.in-Some.is at f in
    counted_lacks_end (rest r c.args.at) (rest r c.args.end) _ _ e h g.1 (cut_more r.text.now r.tokens.now c.in-Some.shape.next c.args.end c.requires.within g.0 c.if-shape-end.true)

pub returns : goal.returns
returns c =
    let r = c.args.reader in
    let e = cut_at r.text.now r.tokens.now c.args.at c.args.end c.requires.ordered c.requires.within in
    let h = cut_length r.text.now r.tokens.now c.args.at c.args.end c.requires.within in
    let f = c.in_ok-shape.ensures in
    let g = rw c.in-Some.is at f in
    let n = cut_length r.text.now r.tokens.now c.in-Some.shape.next c.args.end c.requires.within in
    let i : c.in-Some.shape.next ≡ c.args.end = omega arith in
    let q = counted_found (rest r c.args.at) (rest r c.args.end) _ _ _ e h g.1 (omega (arith, n, i)) in
    (omega (arith, c.requires.within, i), rw i q)
