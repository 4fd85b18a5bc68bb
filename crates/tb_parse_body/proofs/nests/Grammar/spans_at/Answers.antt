use Rattle.std.proofs.Common.{arith, refl, ap, ◌∙◌, ◌++◌, ◌∷◌, [], ◌+◌, List, ℕ, true}
use Rattle.tb_tree.specs.declared.exprs.Expr.{Expr}
use Rattle.tb_tree.specs.declared.exprs.TemplateSpan.{TemplateSpan}
use Rattle.tb_tree.proofs.Ends.{found_as, both, under_both, ap_both}
use Rattle.tb_parse_type.specs.Reading.{rest}
use Rattle.tb_parse_body.specs.Rules.{ExprUpto, InExpr}
use Rattle.tb_parse_body.proofs.Exprlists.{SpansSoFar, span, spans_start, spans_on, spans_end, spans_lacks, spans_lacks_end, span_falls}
use Rattle.tb_parse_body.proofs.Sequences.{lacking, reading}
use Rattle.tb_parse_body.proofs.nests.Grammar.spans_at.Goals as goal

pub loop-spans-init : goal.loop-spans-init
loop-spans-init g c = record {
  within = c.requires.within;
  all = under_both (λ (acc : List TemplateSpan) (depth : ℕ). SpansSoFar c.args.limit acc depth (rest c.args.self.now.reader c.args.at) (rest c.args.self.now.reader c.args.at))
      c.new-spans.ensures refl (spans_start c.args.limit _);
}

pub returns-then-is_template : goal.returns-then-is_template
returns-then-is_template g c =
    let n = c.args.limit in
    let s = c.loop-spans in
    let f = reading (ExprUpto true n) (InExpr true) c.args.self.now.reader s.next _ c.in-Some.value c.in-Some.is c.in_ok-value.ensures in
    let item = c.in_ok-push.ensures.ok ∙ ap (λ (x : TemplateSpan). s.spans ++ x ∷ []) (ap_both (λ (v : Expr) (t : List ℕ). span v t) c.in_ok-new.ensures c.in_ok-text.ensures) in (
      omega (arith, c.if-is_template.ensures.0),
      found_as (both item c.larger-depth.ensures) (spans_end n s.spans s.depth _ _ _ _ _ _ s.invariant.all f.1 c.if-is_template.ensures.2),
    )

pub returns-then-not-is_template : goal.returns-then-not-is_template
returns-then-not-is_template g c =
    let n = c.args.limit in
    let s = c.loop-spans in
    let f = reading (ExprUpto true n) (InExpr true) c.args.self.now.reader s.next _ c.in-Some.value c.in-Some.is c.in_ok-value.ensures in
    s.invariant.all.lacks (spans_lacks_end n f.1 c.if-is_template.ensures (λ t o zs e. absurd (c.if-not-is_template.ensures t o zs e)))

pub loop-spans-smaller : goal.loop-spans-smaller
loop-spans-smaller g c =
    let f = reading (ExprUpto true c.args.limit) (InExpr true) c.args.self.now.reader c.loop-spans.next _ c.in-Some.value c.in-Some.is c.in_ok-value.ensures in
    span_falls c.args.limit _ _ f.1 c.if-not-is_template.ensures.2

pub loop-spans-preserved : goal.loop-spans-preserved
loop-spans-preserved g c =
    let n = c.args.limit in
    let s = c.loop-spans in
    let r = c.args.self.now.reader in
    let f = reading (ExprUpto true n) (InExpr true) r s.next _ c.in-Some.value c.in-Some.is c.in_ok-value.ensures in
    let item = c.in_ok-push.ensures.ok ∙ ap (λ (x : TemplateSpan). s.spans ++ x ∷ []) (ap_both (λ (v : Expr) (t : List ℕ). span v t) c.in_ok-new.ensures c.in_ok-text.ensures) in
    record {
      within = omega (arith, c.if-not-is_template.ensures.0);
      all = under_both (λ (acc : List TemplateSpan) (depth : ℕ). SpansSoFar n acc depth (rest r c.args.at) (rest r (c.in-Some.value.next + 1))) item c.larger-depth.ensures
          (spans_on n s.spans s.depth _ _ _ _ _ s.invariant.all f.1 c.if-not-is_template.ensures.2);
    }

pub returns : goal.returns
returns g c =
    let none = lacking (ExprUpto true c.args.limit) (InExpr true) c.args.self.now.reader c.loop-spans.next _ c.in_default.is c.in_ok-value.ensures in
    c.loop-spans.invariant.all.lacks (spans_lacks c.args.limit none)
