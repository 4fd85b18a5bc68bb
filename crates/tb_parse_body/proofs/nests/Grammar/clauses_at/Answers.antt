use Rattle.std.proofs.Common.{arith, refl, ap, sym, subst, ◌∙◌, ◌+◌, ◌≡◌, List, ℕ, Bool, true, false}
use Rattle.std.specs.Prelude.{◌||◌, Some, None}
use Rattle.tb_tree.specs.declared.exprs.Clause.{Clause}
use Rattle.tb_parse_type.specs.Reading.{rest}
use Rattle.tb_parse_body.specs.Rules.{around_of, ClauseUpto, InItems}
use Rattle.tb_parse_body.proofs.FirstSymbols.{lacking, reading}
use Rattle.tb_parse_body.proofs.Clauses.{ClausesSoFar, clauses_start, clauses_on, clauses_end, clause_falls, so_far_as}
use Rattle.tb_parse_body.proofs.nests.Grammar.clauses_at.Goals as goal

pub loop-clauses-init : goal.loop-clauses-init
loop-clauses-init g c = record {
  within = c.requires.within;
  all = so_far_as (around_of c.args.around) c.args.limit false refl c.new-clauses.ensures refl _ _ (clauses_start (around_of c.args.around) c.args.limit _);
}

pub loop-clauses-smaller : goal.loop-clauses-smaller
loop-clauses-smaller g c =
    let s = c.loop-clauses in
    let f = reading (ClauseUpto s.defaulted (around_of c.args.around) c.args.limit) InItems c.args.self.now.reader s.next _ c.in-Some.clause c.in-Some.is c.in_ok-clause.ensures in
    clause_falls (around_of c.args.around) c.args.limit s.defaulted f.1

pub loop-clauses-preserved : goal.loop-clauses-preserved
loop-clauses-preserved g c =
    let s = c.loop-clauses in
    let f = reading (ClauseUpto s.defaulted (around_of c.args.around) c.args.limit) InItems c.args.self.now.reader s.next _ c.in-Some.clause c.in-Some.is c.in_ok-clause.ensures in
    record {
      within = f.0;
      all = so_far_as (around_of c.args.around) c.args.limit _ c.either-defaulted.ensures c.in_ok-push.ensures.ok c.larger-depth.ensures _ _
          (clauses_on (around_of c.args.around) c.args.limit s.defaulted _ s.clauses s.depth _ _ _ s.invariant.all f.1);
    }

pub returns : goal.returns
returns g c =
    let s = c.loop-clauses in
    let n = lacking (ClauseUpto s.defaulted (around_of c.args.around) c.args.limit) InItems c.args.self.now.reader s.next _ c.in_default.is c.in_ok-clause.ensures in
    (s.invariant.within, clauses_end (around_of c.args.around) c.args.limit s.defaulted s.clauses s.depth _ _ s.invariant.all n)
