use Rattle.std.proofs.Common.{◌<◌, ◌≤◌, subst, arith}
use Rattle.std.specs.Prelude.{IfSome, IfNone, IsCharBoundary}
use Rattle.std.proofs.lemmas.Str.{IsCharBoundary-start}
use Rattle.tb_scan.specs.Tokens.{NextToken, IsAtEnd}
use Rattle.tb_scan.proofs.Scanning.{scan_start, scan_more, scan_end, cut_none, cut_more}
use Rattle.tb_scan.proofs.scanner.scan.Goals as goal

pub loop-braces-init : goal.loop-braces-init
loop-braces-init c = record {
  cut = IsCharBoundary-start c.args.text.now c.utf8.text;
  cuts = cut_none c.args.text.now c.new-tokens.result c.new-tokens.ensures;
  so_far = scan_start c.args.text.now c.new-tokens.result c.new-braces.result c.new-tokens.ensures c.new-braces.ensures;
}

pub next_token-requires : goal.next_token-requires
next_token-requires c = c.loop-braces.invariant.cut

pub loop-braces-smaller : goal.loop-braces-smaller
loop-braces-smaller c =
    let at = c.loop-braces.at in
    let behind : at ≤ c.in-Some.token.start = subst (λ o. IfSome o (λ t. at ≤ t.start)) c.in-Some.is c.in_ok-token.ensures.behind in
    let filled : c.in-Some.token.start < c.in-Some.token.end = subst (λ o. IfSome o (λ t. t.start < t.end)) c.in-Some.is c.in_ok-token.ensures.filled in
    let cut : IsCharBoundary c.args.text.now c.in-Some.token.end = subst (λ o. IfSome o (λ t. IsCharBoundary c.args.text.now t.end)) c.in-Some.is c.in_ok-token.ensures.end in
    omega (arith, behind, filled, cut.0)

pub loop-braces-preserved : goal.loop-braces-preserved
loop-braces-preserved c =
    let text = c.args.text.now in
    let at = c.loop-braces.at in
    let next : NextToken text at c.loop-braces.braces c.in-Some.token c.next_token.new.braces =
    subst (λ o. IfSome o (λ t. NextToken text at c.loop-braces.braces t c.next_token.new.braces)) c.in-Some.is c.in_ok-token.ensures.found in
    record {
      cut = subst (λ o. IfSome o (λ t. IsCharBoundary text t.end)) c.in-Some.is c.in_ok-token.ensures.end;
      cuts = cut_more text c.loop-braces.tokens c.push.new.self c.in-Some.token c.loop-braces.invariant.cuts
          (subst (λ o. IfSome o (λ t. IsCharBoundary text t.start)) c.in-Some.is c.in_ok-token.ensures.start)
          (subst (λ o. IfSome o (λ t. IsCharBoundary text t.end)) c.in-Some.is c.in_ok-token.ensures.end) c.in_ok-push.ensures.ok;
      so_far = scan_more text at c.loop-braces.braces c.next_token.new.braces c.in-Some.token c.loop-braces.tokens c.push.new.self c.loop-braces.invariant.so_far next c.in_ok-push.ensures.ok;
    }

pub returns-clause-cut : goal.returns-clause-cut
returns-clause-cut c = c.loop-braces.invariant.cuts

pub returns-clause-all : goal.returns-clause-all
returns-clause-all c =
    let text = c.args.text.now in
    let done : IsAtEnd text c.loop-braces.at = subst (λ o. IfNone o (IsAtEnd text c.loop-braces.at)) c.in_default.is c.in_ok-token.ensures.none in
    scan_end text c.loop-braces.at c.loop-braces.braces c.loop-braces.tokens c.loop-braces.invariant.so_far done
