-- The next token, and all of them.
use Rattle.std.proofs.Common.{◌≡◌, ℕ, ◌+◌, List, [], ◌∷◌, ◌++◌, length, take, drop, sym, ap, subst, ◌∙◌, arith, append_assoc}
use Rattle.std.specs.Prelude.{IsCharBoundary}
use Rattle.std.proofs.lemmas.List.{take-append-drop, length-take, append-nil, drop-drop, nil_from_length}
use Rattle.std.proofs.lemmas.Str.{IsCharBoundary-from_rest}
use Rattle.tb_scan.specs.declared.token.Token.{Token}
use Rattle.tb_scan.specs.declared.braces.Bracket.{Bracket}
use Rattle.tb_scan.specs.Pieces.{Run, Stops, RunsFor, IsFront, IsSpacing}
use Rattle.tb_scan.specs.Tokens.{IsToken, NextToken, IsAtEnd, Scans, AreCut, after}

pub next_found : (text : List ℕ) (at n m : ℕ) (opened left : List Bracket) (token : Token) → RunsFor IsSpacing (drop at text) n → IsFront (IsToken opened token.kind) (drop (at + n) text) m
    → token.start ≡ at + n → token.end ≡ at + n + m → left ≡ after token.kind (take m (drop (at + n) text)) opened → NextToken text at opened token left
next_found text at n m opened left token run front starts ends leaves =
    let here = drop at text in
    let rest = drop (at + n) text in
    let past : drop n here ≡ take m rest ++ drop m rest = drop-drop n at text ∙ sym (take-append-drop m rest) in
    record {
      spacing = take n here;
      spelled = take m rest;
      rest = drop m rest;
      whole = sym (take-append-drop n here) ∙ ap (λ x. take n here ++ x) past;
      spaced = subst (λ x. Run IsSpacing (take n here) x) past run.run;
      begun = subst (λ x. Stops IsSpacing x) past run.stops;
      reads = front.piece;
      starts = omega (arith, starts, length-take n here, run.within);
      ends = omega (arith, starts, ends, length-take m rest, front.within);
      leaves = leaves;
    }

pub end_found : (text : List ℕ) (at n : ℕ) → RunsFor IsSpacing (drop at text) n → length (drop (at + n) text) ≡ 0 → IsAtEnd text at
end_found text at n run e =
    let here = drop at text in
    let none : drop n here ≡ [] = nil_from_length (drop n here) (ap (λ x. length x) (drop-drop n at text) ∙ e) in
    let whole : take n here ≡ here = sym (append-nil (take n here)) ∙ ap (λ x. take n here ++ x) (sym none) ∙ take-append-drop n here in
    record { spaced = subst (λ x. Run IsSpacing x []) whole (subst (λ x. Run IsSpacing (take n here) x) none run.run) }

pub start_cut : (text : List ℕ) (at n : ℕ) → IsCharBoundary text at → RunsFor IsSpacing (drop at text) n → IsCharBoundary text (at + n)
start_cut text at n cut run = IsCharBoundary-from_rest text at n cut.0 run.boundary

pub end_cut : (text : List ℕ) (at n m : ℕ) (P : List ℕ → List ℕ → Type 0) → IsCharBoundary text at → RunsFor IsSpacing (drop at text) n → IsFront P (drop (at + n) text) m → IsCharBoundary text (at + n + m)
end_cut text at n m P cut run front = IsCharBoundary-from_rest text (at + n) m (start_cut text at n cut run).0 front.boundary

pub scan_start : (text : List ℕ) (tokens : List Token) (opened : List Bracket) → tokens ≡ [] → opened ≡ [] → (rest : List Token) → Scans text 0 opened rest → Scans text 0 [] (tokens ++ rest)
scan_start text tokens opened e w rest h = subst (λ x. Scans text 0 [] (x ++ rest)) (sym e) (subst (λ x. Scans text 0 x rest) w h)

pub scan_more : (text : List ℕ) (at : ℕ) (opened left : List Bracket) (token : Token) (tokens more : List Token)
    → ((rest : List Token) → Scans text at opened rest → Scans text 0 [] (tokens ++ rest)) → NextToken text at opened token left → more ≡ tokens ++ token ∷ []
    → (rest : List Token) → Scans text token.end left rest → Scans text 0 [] (more ++ rest)
scan_more text at opened left token tokens more so_far next e rest h =
    subst (λ x. Scans text 0 [] x) (sym (ap (λ x. x ++ rest) e ∙ append_assoc tokens (token ∷ []) rest)) (so_far (token ∷ rest) (Scans.more at opened left token rest next h))

pub scan_end : (text : List ℕ) (at : ℕ) (opened : List Bracket) (tokens : List Token) → ((rest : List Token) → Scans text at opened rest → Scans text 0 [] (tokens ++ rest)) → IsAtEnd text at
    → Scans text 0 [] tokens
scan_end text at opened tokens so_far done = subst (λ x. Scans text 0 [] x) (append-nil tokens) (so_far [] (Scans.done at opened done))

pub cut_none : (text : List ℕ) (tokens : List Token) → tokens ≡ [] → AreCut text tokens
cut_none text tokens e = subst (λ x. AreCut text x) (sym e) tt

cut_snoc : (text : List ℕ) (tokens : List Token) (token : Token) → AreCut text tokens → IsCharBoundary text token.start → IsCharBoundary text token.end → AreCut text (tokens ++ token ∷ [])
cut_snoc text [] token h a b = (a, b, tt)
cut_snoc text (x ∷ tokens) token h a b = (h.0, h.1, cut_snoc text tokens token h.2 a b)

pub cut_more : (text : List ℕ) (tokens more : List Token) (token : Token) → AreCut text tokens → IsCharBoundary text token.start → IsCharBoundary text token.end → more ≡ tokens ++ token ∷ []
    → AreCut text more
cut_more text tokens more token h a b e = subst (λ x. AreCut text x) (sym e) (cut_snoc text tokens token h a b)
