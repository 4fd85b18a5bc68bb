use Rattle.std.proofs.Common.{◌+◌, ◌<◌, ◌≤◌, ◌≡◌, length, get_or, set, sym, ap, subst, ◌∙◌, arith, refl}
use Rattle.std.proofs.lemmas.List.{get_or_default}
use Rattle.std.proofs.lemmas.Result.{on_ok_weaker, IfErr-weaker}
use Rattle.tb_graph.specs.Visits.{Cyclic}
use Rattle.tb_graph.specs.Stacks.{Goes, GoesBy, IsSound, work}
use Rattle.tb_graph.specs.declared.visits.Frame.{Frame}
use Rattle.tb_graph.specs.declared.visits.Mark.TheVariants.{Finished}
use Rattle.tb_graph.proofs.Steps.{goes_on, goes_out, sound_on, sound_out, less_on, less_out, top_node, left_of, none_left, size_of, left_node, of_cycle_weaker}
use Rattle.tb_graph.proofs.visits.Visit.step.Goals as goal

pub meet-requires-clause-sound : goal.meet-requires-clause-sound
meet-requires-clause-sound c =
    let s = c.args.self.now in
    let g : Frame = record { node = c.args.frame.node; next = c.args.frame.next + 1 } in
    subst (λ frames. IsSound c.args.refs.now s.marks.items frames s.finished.items) (sym c.in_ok-push.ensures.items)
    (sound_on c.args.refs.now s.marks.items s.frames.items s.finished.items c.args.frame g refl c.requires.sound)

pub meet-requires-clause-node : goal.meet-requires-clause-node
meet-requires-clause-node c =
    let s = c.args.self.now in
    let of = c.index-refs-node.result in
    let top = top_node c.args.refs.now s.marks.items s.frames.items s.finished.items c.args.frame c.requires.sound in
    let value = c.as_slice-references.ensures in
    let n = get_or c.as_slice-references.result.now c.args.frame.next 0 in
    let within : c.args.frame.next < length of = subst (λ xs. c.args.frame.next < length xs) value c.if-next-references.true in
    let is : n ≡ get_or of c.args.frame.next n = ap (λ xs. get_or xs c.args.frame.next 0) value ∙ get_or_default of c.args.frame.next 0 n within in
    left_node c.args.refs.now of c.args.frame.node c.args.frame.next n top c.index-refs-node.is within is c.requires.refs

pub returns-in_ok-push-clause-less : goal.returns-in_ok-push-clause-less
returns-in_ok-push-clause-less c =
    let s = c.args.self.now in
    let of = c.index-refs-node.result in
    let g : Frame = record { node = c.args.frame.node; next = c.args.frame.next + 1 } in
    let top = top_node c.args.refs.now s.marks.items s.frames.items s.finished.items c.args.frame c.requires.sound in
    let within : c.args.frame.next < length of = subst (λ xs. c.args.frame.next < length xs) c.as_slice-references.ensures c.if-next-references.true in
    let size = size_of c.args.refs.now of c.args.frame.node top c.index-refs-node.is in
    let less = less_on c.args.refs.now s.marks.items s.frames.items c.args.frame g refl refl (subst (λ k. c.args.frame.next < k) size within) in
    let same = ap (λ frames. work c.args.refs.now s.marks.items frames) c.in_ok-push.ensures.items in
    on_ok_weaker c.meet.result (λ h. omega (arith, less, same, h)) c.meet.ensures.less

pub returns-in_ok-push-clause-goes : goal.returns-in_ok-push-clause-goes
returns-in_ok-push-clause-goes c =
    let s = c.args.self.now in
    let of = c.index-refs-node.result in
    let g : Frame = record { node = c.args.frame.node; next = c.args.frame.next + 1 } in
    let top = top_node c.args.refs.now s.marks.items s.frames.items s.finished.items c.args.frame c.requires.sound in
    let value = c.as_slice-references.ensures in
    let n = get_or c.as_slice-references.result.now c.args.frame.next 0 in
    let within : c.args.frame.next < length of = subst (λ xs. c.args.frame.next < length xs) value c.if-next-references.true in
    let is : n ≡ get_or of c.args.frame.next n = ap (λ xs. get_or xs c.args.frame.next 0) value ∙ get_or_default of c.args.frame.next 0 n within in
    let left = left_of c.args.refs.now of c.args.frame n top c.index-refs-node.is within is in
    on_ok_weaker c.meet.result
    (λ h rest o r. goes_on c.args.refs.now rest s.finished.items o s.frames.items c.args.frame g n refl left
    (subst (λ frames. GoesBy c.args.refs.now rest n frames s.finished.items o) c.in_ok-push.ensures.items (h rest o r)))
    c.meet.ensures.goes

pub returns-in_ok-push-clause-cycle : goal.returns-in_ok-push-clause-cycle
returns-in_ok-push-clause-cycle c =
    let s = c.args.self.now in
    let of = c.index-refs-node.result in
    let g : Frame = record { node = c.args.frame.node; next = c.args.frame.next + 1 } in
    let top = top_node c.args.refs.now s.marks.items s.frames.items s.finished.items c.args.frame c.requires.sound in
    let value = c.as_slice-references.ensures in
    let n = get_or c.as_slice-references.result.now c.args.frame.next 0 in
    let within : c.args.frame.next < length of = subst (λ xs. c.args.frame.next < length xs) value c.if-next-references.true in
    let is : n ≡ get_or of c.args.frame.next n = ap (λ xs. get_or xs c.args.frame.next 0) value ∙ get_or_default of c.args.frame.next 0 n within in
    let left = left_of c.args.refs.now of c.args.frame n top c.index-refs-node.is within is in
    IfErr-weaker c.meet.result _ _
    (of_cycle_weaker (λ cycle h rest. goes_on c.args.refs.now rest s.finished.items (Cyclic cycle) s.frames.items c.args.frame g n refl left
    (subst (λ frames. GoesBy c.args.refs.now rest n frames s.finished.items (Cyclic cycle)) c.in_ok-push.ensures.items (h rest))))
    c.meet.ensures.cycle

pub returns-in_ok-push-2-clause-sound : goal.returns-in_ok-push-2-clause-sound
returns-in_ok-push-2-clause-sound c =
    let s = c.args.self.now in
    subst (λ done. IsSound c.args.refs.now (set s.marks.items c.args.frame.node Finished) s.frames.items done) (sym c.in_ok-push-2.ensures.items)
    (sound_out c.args.refs.now s.marks.items s.frames.items s.finished.items c.args.frame c.requires.sound)

pub returns-in_ok-push-2-clause-less : goal.returns-in_ok-push-2-clause-less
returns-in_ok-push-2-clause-less c = less_out c.args.refs.now c.args.self.now.marks.items c.args.self.now.frames.items c.args.frame

pub returns-in_ok-push-2-clause-goes : goal.returns-in_ok-push-2-clause-goes
returns-in_ok-push-2-clause-goes c = λ rest o r.
    let s = c.args.self.now in
    let of = c.index-refs-node.result in
    let top = top_node c.args.refs.now s.marks.items s.frames.items s.finished.items c.args.frame c.requires.sound in
    let out : length of ≤ c.args.frame.next = subst (λ xs. length xs ≤ c.args.frame.next) c.as_slice-references.ensures c.if-next-references.false in
    goes_out c.args.refs.now rest s.finished.items o s.frames.items c.args.frame (none_left c.args.refs.now of c.args.frame top c.index-refs-node.is out)
    (subst (λ done. Goes c.args.refs.now rest s.frames.items done o) c.in_ok-push-2.ensures.items r)
