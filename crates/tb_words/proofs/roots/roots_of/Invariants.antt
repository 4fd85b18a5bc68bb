use Rattle.std.proofs.Common.{◌≡◌, map, drop}
use Rattle.tb_words.specs.Roots.{roots_of}
use Rattle.tb_words.proofs.Chains.{behind}
use Rattle.tb_words.proofs.roots.roots_of.Given as goal

abbrev pub invariant-loop-word : goal.invariant-loop-word
invariant-loop-word l = roots_of (map (λ word. word.now) l.words) ≡ behind l.paths.items (roots_of (map (λ word. word.now) (drop l.word-index l.words)))
