-- Texts as tokens, one after the other, and what scanning them gives.
use Rattle.std.proofs.Common.{◌≡◌, ℕ, ◌+◌, ◌-◌, ◌≤◌, List, [], ◌∷◌, ◌++◌, length, drop, take, sym, ap, subst, ◌∙◌, refl, arith, length-append}
use Rattle.std.specs.Prelude.{slice_range}
use Rattle.std.proofs.Math.Seq.{drop-append_seam, take-append_seam}
use Rattle.std.proofs.lemmas.List.{drop-drop, length-drop}
use Rattle.tb_scan.specs.declared.braces.Bracket.{Bracket}
use Rattle.tb_scan.specs.declared.token.Kind.{Kind}
use Rattle.tb_scan.specs.declared.token.Token.{Token}
use Rattle.tb_scan.specs.Pieces.{Run, Stops, IsSpacing}
use Rattle.tb_scan.specs.Tokens.{IsToken, Scans, after}

-- the tokens of a text, each by its kind and its spelling
pub data Told : List Bracket → List ℕ → List (Kind × List ℕ) → Type 0 where
  end : (opened : List Bracket) (xs : List ℕ) → Run IsSpacing xs [] → Told opened xs []
  next : (opened : List Bracket) (spacing t ys : List ℕ) (kind : Kind) (rest : List (Kind × List ℕ)) → Run IsSpacing spacing (t ++ ys) → Stops IsSpacing (t ++ ys)
      → IsToken opened kind t ys → Told (after kind t opened) ys rest → Told opened (spacing ++ (t ++ ys)) ((kind, t) ∷ rest)

-- tokens at places of a text, by their kinds and spellings
pub data Fits (text : List ℕ) : List Token → List (Kind × List ℕ) → Type 0 where
  none : Fits text [] []
  more : (token : Token) (t : List ℕ) (tokens : List Token) (rest : List (Kind × List ℕ)) → token.start ≤ token.end → token.end ≤ length text
      → slice_range text token.start token.end ≡ t → Fits text tokens rest → Fits text (token ∷ tokens) ((token.kind, t) ∷ rest)

-- the scan that tokens are of
pub record Scanned (text : List ℕ) (at : ℕ) (opened : List Bracket) (words : List (Kind × List ℕ)) : Type 0 where
  pub tokens : List Token
  pub scans : Scans text at opened tokens
  pub fits : Fits text tokens words

module _ (text spacing t ys : List ℕ) (at : ℕ) (whole : drop at text ≡ spacing ++ (t ++ ys)) where
  behind_spacing : drop (at + length spacing) text ≡ t ++ ys
  behind_spacing = sym (drop-drop (length spacing) at text) ∙ ap (λ x. drop (length spacing) x) whole ∙ drop-append_seam spacing (t ++ ys)

  pub behind_token : drop (at + length spacing + length t) text ≡ ys
  behind_token = sym (drop-drop (length t) (at + length spacing) text) ∙ ap (λ x. drop (length t) x) behind_spacing ∙ drop-append_seam t ys

  pub within : at ≤ length text → at + length spacing + length t ≤ length text
  within h = omega (arith, h, ap (λ x. length x) whole, length-drop at text, length-append spacing (t ++ ys), length-append t ys)

  pub slice_is : slice_range text (at + length spacing) (at + length spacing + length t) ≡ t
  slice_is =
      let n : (at + length spacing + length t) - (at + length spacing) ≡ length t = omega arith in
      ap (λ m. take m (drop (at + length spacing) text)) n ∙ ap (λ x. take (length t) x) behind_spacing ∙ take-append_seam t ys

pub told_scans : (text : List ℕ) {opened : List Bracket} {xs : List ℕ} {words : List (Kind × List ℕ)} (at : ℕ) → drop at text ≡ xs → at ≤ length text → Told opened xs words → Scanned text at opened words
told_scans text at whole h (Told.end opened xs run) = record {
  tokens = [];
  scans = Scans.done at opened (record { spaced = subst (λ x. Run IsSpacing x []) (sym whole) run });
  fits = none;
}
told_scans text at whole h (Told.next opened spacing t ys kind rest run stops reads told) =
    let start = at + length spacing in
    let token : Token = record { kind = kind; start = start; end = start + length t } in
    let r = told_scans text (start + length t) (behind_token text spacing t ys at whole) (within text spacing t ys at whole h) told in
    record {
      tokens = token ∷ r.tokens;
      scans = Scans.more at opened (after kind t opened) token r.tokens
          (record { spacing = spacing; spelled = t; rest = ys; whole = whole; spaced = run; begun = stops; reads = reads; starts = refl; ends = refl; leaves = refl })
          r.scans;
      fits = more token t r.tokens rest (omega arith) (within text spacing t ys at whole h) (slice_is text spacing t ys at whole) r.fits;
    }
