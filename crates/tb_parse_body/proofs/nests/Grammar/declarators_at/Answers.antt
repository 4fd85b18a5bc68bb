use Rattle.std.proofs.Common.{List, ℕ, ◌++◌, ◌∷◌, [], ap, sym, subst, ◌∙◌, true}
use Rattle.tb_tree.specs.declared.exprs.Declarator.{Declarator}
use Rattle.tb_tree.proofs.Ends.{under_both}
use Rattle.tb_parse_type.specs.Reading.{rest}
use Rattle.tb_parse_body.specs.Rules.{DeclaratorUpto, NextDeclaratorUpto, InExpr}
use Rattle.tb_parse_body.proofs.Declarators.{DeclaratorsSoFar, declarators_start, declarators_on, declarators_end, declarators_lack, next_falls}
use Rattle.tb_parse_body.proofs.Sequences.{lacking, reading}
use Rattle.tb_parse_body.proofs.nests.Grammar.declarators_at.Goals as goal

pub returns-in_default : goal.returns-in_default
returns-in_default g c = declarators_lack c.args.kind c.args.limit (lacking (DeclaratorUpto c.args.kind c.args.limit) (InExpr true) c.args.self.now.reader c.args.at _ c.in_default.is c.in_ok-first.ensures)

pub loop-declarators-init : goal.loop-declarators-init
loop-declarators-init g c =
    let r = c.args.self.now.reader in
    let first = c.in-Some.first in
    let f = reading (DeclaratorUpto c.args.kind c.args.limit) (InExpr true) r c.args.at _ first c.in-Some.is c.in_ok-first.ensures in
    record { within = f.0; all = subst (λ (acc : List Declarator). DeclaratorsSoFar c.args.kind c.args.limit acc first.depth (rest r c.args.at) (rest r first.next)) (sym (c.in_ok-push.ensures.ok ∙ ap (λ (v : List Declarator). v ++ first.tree ∷ []) c.new-declarators.ensures)) (declarators_start c.args.kind c.args.limit f.1) }

pub loop-declarators-smaller : goal.loop-declarators-smaller
loop-declarators-smaller g c =
    let f = reading (NextDeclaratorUpto c.args.kind c.args.limit) (InExpr true) c.args.self.now.reader c.loop-declarators.next _ c.in-Some-2.declarator c.in-Some-2.is c.in_ok-declarator.ensures in
    next_falls c.args.kind c.args.limit f.1

pub loop-declarators-preserved : goal.loop-declarators-preserved
loop-declarators-preserved g c =
    let s = c.loop-declarators in
    let r = c.args.self.now.reader in
    let x = c.in-Some-2.declarator in
    let f = reading (NextDeclaratorUpto c.args.kind c.args.limit) (InExpr true) r s.next _ x c.in-Some-2.is c.in_ok-declarator.ensures in
    record {
      within = f.0;
      all = under_both (λ (acc : List Declarator) (depth : ℕ). DeclaratorsSoFar c.args.kind c.args.limit acc depth (rest r c.args.at) (rest r x.next)) c.in_ok-push-2.ensures.ok c.larger-depth.ensures
          (declarators_on c.args.kind c.args.limit s.declarators s.depth _ _ s.invariant.all f.1);
    }

pub returns : goal.returns
returns g c =
    let s = c.loop-declarators in
    let n = lacking (NextDeclaratorUpto c.args.kind c.args.limit) (InExpr true) c.args.self.now.reader s.next _ c.in_default-2.is c.in_ok-declarator.ensures in
    (s.invariant.within, declarators_end c.args.kind c.args.limit s.declarators s.depth _ _ s.invariant.all n)
