use Rattle.std.proofs.Common.{◌≡◌, length, get_or, ap, ◌∙◌, arith}
use Rattle.tb_plan.proofs.Numbered.{are_grown}
use Rattle.tb_plan.proofs.Searched.{search_next, reached_next, left_next}
use Rattle.tb_plan.proofs.reach.Reach.read_next.Goals as goal

pub returns-clause-search : goal.returns-clause-search
returns-clause-search c =
    let n : c.len.result ≡ length c.args.self.now.readings.items = omega (arith, c.args.self.now.readings.ok.0) in
    let at : c.index.result.now ≡ get_or c.args.self.now.configs.paths.items (length c.args.self.now.readings.items) c.index.result.now = c.index.ensures ∙ ap (λ m. get_or c.args.self.now.configs.paths.items m c.index.result.now) n in
    let g = rw c.references_in.ensures at c.in_ok-references.ensures.grew in
    let a = rw c.references_in.ensures at c.in_ok-references.ensures.are in
    rw (c.in_ok-push.ensures.items, c.in_ok-push-2.ensures.items) (search_next _ _ _ _ _ c.in_ok-reading.reading _ c.index.result.now c.requires.search c.requires.more at c.in_ok-reading.ensures g a)

pub returns-clause-reached : goal.returns-clause-reached
returns-clause-reached c =
    let n : c.len.result ≡ length c.args.self.now.readings.items = omega (arith, c.args.self.now.readings.ok.0) in
    let at : c.index.result.now ≡ get_or c.args.self.now.configs.paths.items (length c.args.self.now.readings.items) c.index.result.now = c.index.ensures ∙ ap (λ m. get_or c.args.self.now.configs.paths.items m c.index.result.now) n in
    reached_next _ _ _ c.args.self.now.readings.items c.in_ok-reading.reading c.index.result.now c.requires.more at c.in_ok-reading.ensures (rw c.references_in.ensures at c.in_ok-references.ensures.grew)

pub returns-clause-keeps : goal.returns-clause-keeps
returns-clause-keeps c = λ numbers named h. are_grown _ _ _ numbers named c.in_ok-references.ensures.grew h

pub returns-clause-less : goal.returns-clause-less
returns-clause-less c =
    let n : c.len.result ≡ length c.args.self.now.readings.items = omega (arith, c.args.self.now.readings.ok.0) in
    let at : c.index.result.now ≡ get_or c.args.self.now.configs.paths.items (length c.args.self.now.readings.items) c.index.result.now = c.index.ensures ∙ ap (λ m. get_or c.args.self.now.configs.paths.items m c.index.result.now) n in
    rw c.in_ok-push.ensures.items (left_next _ _ _ c.args.self.now.configs.numbers c.args.self.now.readings.items c.in_ok-reading.reading c.index.result.now c.requires.numbered c.requires.more at c.in_ok-reading.ensures (rw c.references_in.ensures at c.in_ok-references.ensures.grew))
