use Rattle.std.proofs.Common.{drop, subst}
use Rattle.std.proofs.lemmas.Str.{IsCharBoundary-start, IsCharBoundary-from_rest}
use Rattle.tb_scan.specs.Pieces.{Run, IsPiece, IsFront}
use Rattle.tb_scan.proofs.Runs.{run_on}
use Rattle.tb_scan.proofs.pieces.run_len.Goals as goal

pub loop-length-init : goal.loop-length-init
loop-length-init c = record { cut = IsCharBoundary-start c.args.text.now c.utf8.text; run = Run.none c.args.text.now }

pub loop-length-preserved : goal.loop-length-preserved
loop-length-preserved c =
    let text = c.args.text.now in
    let front : IsFront (IsPiece c.args.inside) (drop c.loop-length.at text) c.in-Some.length =
    subst (λ x. IsFront (IsPiece c.args.inside) x c.in-Some.length) c.range_from.ensures.value c.in-Some.ensures.found in
    record {
      cut = IsCharBoundary-from_rest text c.loop-length.at c.in-Some.length c.loop-length.invariant.cut.0 front.boundary;
      run = run_on (IsPiece c.args.inside) text c.loop-length.at c.in-Some.length c.loop-length.invariant.run front;
    }
