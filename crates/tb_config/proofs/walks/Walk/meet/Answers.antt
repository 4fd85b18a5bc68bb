use Rattle.std.proofs.Common.{◌≡◌, false, sym, ◌∙◌, refl}
use Rattle.tb_config.specs.Stacks.{chain_of}
use Rattle.tb_config.specs.Walks.{is_in}
use Rattle.tb_config.specs.declared.walks.Frame.{Frame}
use Rattle.tb_config.proofs.Entering.{goes_entered, less_entered, kept_entered}
use Rattle.tb_config.proofs.Frames.{sound_in}
use Rattle.tb_config.proofs.walks.Walk.meet.Goals as goal

pub returns-clause-goes : goal.returns-clause-goes
returns-clause-goes c = λ end goes.
    let s = c.args.self.now in
    let frame : Frame = record { path = c.args.path; left = c.in_ok-left.left } in
    let below : is_in (chain_of s.frames.items) c.args.path ≡ false = sym (c.requires.sound.opens c.args.path) ∙ sym c.contains.ensures ∙ c.if-contains.false in
    let new : is_in s.entered.items c.args.path ≡ false = sym (c.requires.sound.knows c.args.path) ∙ sym c.contains-2.ensures ∙ c.if-contains-2.false in
    let e = c.in_ok-enter.ensures in
    goes_entered c.args.order c.args.tree.now s.entered.items c.enter.new.self.entered.items s.frames.items c.enter.new.self.frames.items frame
    (record { left = c.in_ok-left.ensures.left; below = below; new = new; one_more = e.entered; deeper = e.frames })
    s.circles.items c.enter.new.self.circles.items end e.circles goes

pub returns-clause-less : goal.returns-clause-less
returns-clause-less c =
    let s = c.args.self.now in
    let frame : Frame = record { path = c.args.path; left = c.in_ok-left.left } in
    let below : is_in (chain_of s.frames.items) c.args.path ≡ false = sym (c.requires.sound.opens c.args.path) ∙ sym c.contains.ensures ∙ c.if-contains.false in
    let new : is_in s.entered.items c.args.path ≡ false = sym (c.requires.sound.knows c.args.path) ∙ sym c.contains-2.ensures ∙ c.if-contains-2.false in
    let e = c.in_ok-enter.ensures in
    less_entered c.args.order c.args.tree.now s.entered.items c.enter.new.self.entered.items s.frames.items c.enter.new.self.frames.items frame
    (record { left = c.in_ok-left.ensures.left; below = below; new = new; one_more = e.entered; deeper = e.frames })

pub returns-clause-sound : goal.returns-clause-sound
returns-clause-sound c =
    let s = c.args.self.now in
    let frame : Frame = record { path = c.args.path; left = c.in_ok-left.left } in
    let below : is_in (chain_of s.frames.items) c.args.path ≡ false = sym (c.requires.sound.opens c.args.path) ∙ sym c.contains.ensures ∙ c.if-contains.false in
    let e = c.in_ok-enter.ensures in
    rw (e.entered, e.frames) (sound_in s.known s.opened c.enter.new.self.known c.enter.new.self.opened s.entered.items s.frames.items frame c.args.path refl below e.known e.opened c.requires.sound)

pub returns-clause-kept : goal.returns-clause-kept
returns-clause-kept c = kept_entered c.args.configs.now c.left_first.new.configs c.args.self.now.entered.items c.enter.new.self.entered.items c.args.path c.in_ok-enter.ensures.entered c.in_ok-left.ensures.kept c.in_ok-left.ensures.here c.requires.kept
