-- A walk after a config was entered.
use Rattle.std.proofs.Common.{ℕ, ◌≡◌, ◌<◌, ◌+◌, false, List, [], ◌∷◌, ◌++◌, All, length, reverse, length-append, ap, ◌∙◌, refl, arith}
use Rattle.std.proofs.lemmas.List.Elements.{All-push, All-weaker}
use Rattle.std.specs.BTreeMap.{BTreeMap}
use Rattle.std.specs.FinMap as map
use Rattle.tb_config.specs.Configs.{Tree}
use Rattle.tb_config.specs.Seen.{IsKept}
use Rattle.tb_config.specs.Stacks.{GoesOn, effort, chain_of, steps_of, steps_to, taken}
use Rattle.tb_config.specs.Walks.{Walk, is_in, steps_from}
use Rattle.tb_config.specs.declared.configs.Config.{Config}
use Rattle.tb_config.specs.declared.walks.Frame.{Frame}
use Rattle.tb_config.specs.declared.walks.Order.{Order}
use Rattle.tb_config.proofs.Frames.{steps_into}
use Rattle.tb_config.proofs.Keys.{keys_or_none}
use Rattle.tb_config.proofs.Stepping.{goes_in, work_in}

-- the frames and the entered configs after a config was entered
pub record Enters (order : Order) (tree : Tree) (entered entered' : List (List ℕ)) (frames frames' : List Frame) (frame : Frame) : Type 0 where
  pub left : reverse frame.left.items ≡ taken order tree frame.path
  pub below : is_in (chain_of frames) frame.path ≡ false
  pub new : is_in entered frame.path ≡ false
  pub one_more : entered' ≡ entered ++ frame.path ∷ []
  pub deeper : frames' ≡ frames ++ frame ∷ []

module _ (order : Order) (tree : Tree) (entered entered' : List (List ℕ)) (frames frames' : List Frame) (frame : Frame) (enters : Enters order tree entered entered' frames frames' frame) where
  into : steps_of frames' ≡ steps_from (taken order tree) (chain_of frames, frame.path) ++ steps_of frames
  into = ap steps_of enters.deeper ∙ steps_into frames frame frame.path (taken order tree frame.path) refl enters.left

  pub goes_entered : (circles circles' : List (List ℕ)) (end : Walk) → circles' ≡ circles
      → GoesOn order tree (record { entered = entered; circles = circles }) (steps_to frame.path frames) end → GoesOn order tree (record { entered = entered'; circles = circles' }) (steps_of frames') end
  goes_entered circles circles' end same goes =
      let bases = taken order tree in
      let old : Walk = record { entered = entered; circles = circles } in
      let gone = goes_in bases (map.keys tree) end old (chain_of frames, frame.path) (steps_of frames) enters.below enters.new (keys_or_none order tree frame.path) goes in
      rw (into, enters.one_more, same) gone

  pub less_entered : effort order tree entered' (steps_of frames') frames' < effort order tree entered (steps_to frame.path frames) frames
  less_entered =
      let fewer = work_in (taken order tree) (map.keys tree) entered (chain_of frames, frame.path) (steps_of frames) enters.new (keys_or_none order tree frame.path) in
      let deeper : length frames' ≡ length frames + 1 = ap length enters.deeper ∙ length-append frames (frame ∷ []) in
      rw (into, enters.one_more) (omega (arith, fewer, deeper))

pub kept_entered : (configs configs' : BTreeMap (List ℕ) Config) (entered entered' : List (List ℕ)) (path : List ℕ) → entered' ≡ entered ++ path ∷ []
    → ((p : List ℕ) → IsKept configs p → IsKept configs' p) → IsKept configs' path → All (IsKept configs) entered → All (IsKept configs') entered'
kept_entered configs configs' entered entered' path more keeps here kept =
    rw more (All-push (IsKept configs') entered path (All-weaker (IsKept configs) (IsKept configs') keeps entered kept) here)
