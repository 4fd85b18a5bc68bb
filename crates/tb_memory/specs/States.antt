-- What the tree, the feed and the sink in memory are. This project's own.
use Rattle.std.specs.Prelude.{ℕ, List, Option, refl}
use Rattle.std.specs.Coded.{Coded, code_by, coded×, coded_ℕ, coded_list, coded_option}
use Rattle.std.specs.FinMap as map
use Rattle.tb_text.specs.Bytes.{bytes_cmp}
use Rattle.tb_outside.specs.declared.feeds.Turn.{Turn}
use Rattle.tb_memory.specs.Plans.{Plan}

-- a tree: its files
pub record TreeState : Type 0 where
  pub texts : map.FinMap bytes_cmp (List ℕ)
  pub plan : Plan

-- a feed: the turns that are left
pub record FeedState : Type 0 where
  pub turns : List Turn
  pub plan : Plan

-- a sink: the bytes that it took, and how often it wanted for memory
pub record SinkState : Type 0 where
  pub taken : List ℕ
  pub refused : ℕ
  pub plan : Plan

abbrev pub coded_plan : Coded Plan
coded_plan =
    code_by (List ℕ × (Option ℕ × (ℕ × ℕ))) (coded× (coded_list coded_ℕ) (coded× (coded_option coded_ℕ) (coded× coded_ℕ coded_ℕ)))
    (λ p. (p.failing, (p.stop, (p.calls, p.faults)))) (λ p. record { failing = p.0; stop = p.1.0; calls = p.1.1.0; faults = p.1.1.1 }) (λ _. refl)

abbrev pub coded_tree : Coded TreeState
coded_tree =
    code_by (map.FinMap bytes_cmp (List ℕ) × Plan) (coded× (map.code (coded_list coded_ℕ) (coded_list coded_ℕ)) coded_plan)
    (λ t. (t.texts, t.plan)) (λ p. record { texts = p.0; plan = p.1 }) (λ _. refl)
