use Rattle.std.proofs.Common.{◌+◌, ◌≡◌, List, ◌∷◌, arith, refl, sym, ◌∙◌, subst}
use Rattle.tb_tree.specs.Sym.{Sym}
use Rattle.tb_tree.specs.Longest.{Starts}
use Rattle.tb_parse_file.specs.Classes.{InHead}
use Rattle.tb_parse_file.proofs.MemberHeads.{no_word}
use Rattle.tb_parse_file.proofs.classes.modifier_at.Goals as goal

behind : {a b : Sym} {xs ys zs : List Sym} → xs ≡ a ∷ ys → xs ≡ b ∷ zs → ys ≡ zs
behind e i = cc

pub returns-then-not-is_word-clause-modified : goal.returns-then-not-is_word-clause-modified
returns-then-not-is_word-clause-modified c = (refl, λ s o zs e h. c.if-not-is_word.ensures s o zs e)

pub returns-in-Some-clause-modified : goal.returns-in-Some-clause-modified
returns-in-Some-clause-modified c =
    let s = c.if-not-is_word.ensures in
    let t = c.in-Some.ensures in
    (_, _, s.2, subst (λ v. Starts InHead v) (sym t.2) refl)

pub returns-in-None-clause-modified : goal.returns-in-None-clause-modified
returns-in-None-clause-modified c =
    let s = c.if-not-is_word.ensures in
    (refl, λ t o zs e h. no_word zs (λ k u p vs i. c.in-None.ensures k u p vs (behind s.2 e ∙ i)) h)
