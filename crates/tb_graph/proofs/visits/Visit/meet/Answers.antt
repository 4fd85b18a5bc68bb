use Rattle.std.proofs.Common.{◌≤◌, ◌≡◌, get_or, set, sym, ap, subst, ◌∙◌, refl}
use Rattle.tb_graph.specs.Visits.{Cyclic}
use Rattle.tb_graph.specs.Stacks.{Goes, GoesBy, IsSound, work}
use Rattle.tb_graph.specs.declared.visits.Mark.{Mark}
use Rattle.tb_graph.specs.declared.visits.Mark.TheVariants.{Unseen, Visiting, Finished}
use Rattle.tb_graph.specs.declared.visits.Frame.{Frame}
use Rattle.tb_graph.proofs.Steps.{mark_of, goes_past, goes_round, goes_in, sound_in, less_in, path_from-frames, cycle_of}
use Rattle.tb_graph.proofs.visits.Visit.meet.Goals as goal

pub returns-in-Finished-clause-goes : goal.returns-in-Finished-clause-goes
returns-in-Finished-clause-goes c = λ rest o g.
    let s = c.args.self.now in
    let e = subst (λ (m : Mark). m ≡ get_or s.marks.items c.args.node m) c.in-Finished.is c.index.ensures in
    goes_past _ rest s.finished.items o c.args.node s.frames.items (mark_of _ _ _ _ c.args.node Finished c.requires.sound c.requires.node e) g

pub returns-in_ok-cycle_at-in-Visiting-clause-cycle : goal.returns-in_ok-cycle_at-in-Visiting-clause-cycle
returns-in_ok-cycle_at-in-Visiting-clause-cycle c = λ rest.
    let s = c.args.self.now in
    let e = subst (λ (m : Mark). m ≡ get_or s.marks.items c.args.node m) c.in-Visiting.is c.index.ensures in
    let on = mark_of _ _ _ _ c.args.node Visiting c.requires.sound c.requires.node e in
    let is = c.in_ok-cycle_at-in-Visiting.ensures.cycle in
    subst (λ cycle. GoesBy c.args.refs.now rest c.args.node s.frames.items s.finished.items (Cyclic cycle))
    (path_from-frames c.args.node s.frames.items ∙ sym (is ∙ ap (cycle_of c.args.node) c.deref.ensures.value)) (goes_round _ rest s.finished.items c.args.node s.frames.items on.0 on.1)

pub returns-in_ok-push-in-Unseen-clause-sound : goal.returns-in_ok-push-in-Unseen-clause-sound
returns-in_ok-push-in-Unseen-clause-sound c =
    let s = c.args.self.now in
    let e = subst (λ (m : Mark). m ≡ get_or s.marks.items c.args.node m) c.in-Unseen.is c.index.ensures in
    let f : Frame = record { node = c.args.node; next = 0 } in
    subst (λ frames. IsSound c.args.refs.now (set s.marks.items c.args.node Visiting) frames s.finished.items) (sym c.in_ok-push-in-Unseen.ensures.items)
    (sound_in c.args.refs.now s.marks.items s.frames.items s.finished.items f c.requires.node (sym e) c.requires.sound)

pub returns-in_ok-push-in-Unseen-clause-less : goal.returns-in_ok-push-in-Unseen-clause-less
returns-in_ok-push-in-Unseen-clause-less c =
    let s = c.args.self.now in
    let e = subst (λ (m : Mark). m ≡ get_or s.marks.items c.args.node m) c.in-Unseen.is c.index.ensures in
    let f : Frame = record { node = c.args.node; next = 0 } in
    subst (λ frames. work c.args.refs.now (set s.marks.items c.args.node Visiting) frames ≤ work c.args.refs.now s.marks.items s.frames.items) (sym c.in_ok-push-in-Unseen.ensures.items)
    (less_in c.args.refs.now s.marks.items s.frames.items f c.requires.node c.requires.sound.marked (sym e))

pub returns-in_ok-push-in-Unseen-clause-goes : goal.returns-in_ok-push-in-Unseen-clause-goes
returns-in_ok-push-in-Unseen-clause-goes c = λ rest o g.
    let s = c.args.self.now in
    let e = subst (λ (m : Mark). m ≡ get_or s.marks.items c.args.node m) c.in-Unseen.is c.index.ensures in
    let new = mark_of _ _ _ _ c.args.node Unseen c.requires.sound c.requires.node e in
    let f : Frame = record { node = c.args.node; next = 0 } in
    goes_in c.args.refs.now rest s.finished.items o s.frames.items f refl new.0 new.1
    (subst (λ frames. Goes c.args.refs.now rest frames s.finished.items o) c.in_ok-push-in-Unseen.ensures.items g)
