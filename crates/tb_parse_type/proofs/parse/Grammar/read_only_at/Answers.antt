use Rattle.std.proofs.Common.{arith, ap, subst, true, ◌∙◌, ◌-◌, ◌+◌, min, ℕ}
use Rattle.tb_tree.specs.declared.types.TypeExpr.{TypeExpr}
use Rattle.tb_tree.specs.declared.types.TypeExpr.TheVariants as t
use Rattle.tb_tree.specs.Types.{arrays}
use Rattle.tb_tree.specs.Longest.{Found, Never}
use Rattle.tb_tree.proofs.Ends.{found_from, found_as, lacks_from}
use Rattle.tb_parse_type.specs.Reading.{rest}
use Rattle.tb_parse_type.specs.Rules.{Counted, AtomUpto, BracketsUpto, InElement}
use Rattle.tb_parse_type.proofs.Elements.{read_only_lacks_word, read_only_lacks_atom, read_only_lacks_brackets, read_only_found}
use Rattle.tb_parse_type.proofs.Readings.{lacking, reading, start_is}
use Rattle.tb_parse_type.proofs.parse.Grammar.read_only_at.Goals as goal

pub returns-then-not-is_word : goal.returns-then-not-is_word
returns-then-not-is_word g c = read_only_lacks_word c.args.limits _ c.if-not-is_word.ensures

pub returns-in_default : goal.returns-in_default
returns-in_default g c =
    let n = lacking (AtomUpto c.args.limits) Never c.args.self.now.reader (c.args.at + 1) _ c.in_default.is c.in_ok-atom.ensures in
    lacks_from c.if-not-is_word.ensures.2 (read_only_lacks_atom c.args.limits _ _ n)

pub returns-then-count-eq0 : goal.returns-then-count-eq0
returns-then-count-eq0 g c =
    let r = c.args.self.now.reader in
    let f = reading (AtomUpto c.args.limits) Never r (c.args.at + 1) _ c.in-Some.atom c.in-Some.is c.in_ok-atom.ensures in
    let b = subst (λ (n : ℕ). Found (BracketsUpto n) InElement (rest r c.in-Some.atom.next) c.brackets-count.result.0 (rest r c.brackets-count.result.1)) c.room-room.ensures c.brackets-count.ensures.1 in
    let none = subst (λ (n : ℕ). Found (BracketsUpto (min (c.args.limits.own - c.in-Some.atom.own) (c.args.limits.depth - c.in-Some.atom.depth))) InElement (rest r c.in-Some.atom.next) n (rest r c.brackets-count.result.1)) c.if-count-eq0.true b in
    lacks_from c.if-not-is_word.ensures.2 (read_only_lacks_brackets c.args.limits _ _ f.1 none)

pub returns : goal.returns
returns g c =
    let r = c.args.self.now.reader in
    let atom = c.in-Some.atom in
    let k = c.brackets-count.result.0 in
    let f = reading (AtomUpto c.args.limits) Never r (c.args.at + 1) _ atom c.in-Some.is c.in_ok-atom.ensures in
    let b = subst (λ (n : ℕ). Found (BracketsUpto n) InElement (rest r atom.next) k (rest r c.brackets-count.result.1)) c.room-room.ensures c.brackets-count.ensures.1 in
    let place = c.start_at-start.ensures ∙ start_is r (c.args.at + 1) in
    let inner = c.in_ok-new.ensures ∙ c.in_ok-inner.ensures ∙ ap (λ (o : ℕ). arrays o (k - 1) atom.tree) place in (
      c.brackets-count.ensures.0,
      found_from c.if-not-is_word.ensures.2
          (found_as (ap (λ (o : ℕ). let x : Counted TypeExpr = (t.Array o true c.in_ok-new.field-0, atom.own + k, atom.depth + k) in x) c.start_at.ensures)
          (read_only_found c.args.limits _ _ k (omega arith) f.1 b inner)),
    )
