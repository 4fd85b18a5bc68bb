-- From the longest front of a list of symbols to the tokens between two places.
use Rattle.std.proofs.Common.{◌≡◌, ℕ, ◌-◌, ◌≤◌, ◌<◌, List, ◌++◌, length, drop, sym, ◌∙◌, ap, subst, inl, inr, arith, length-drop}
use Rattle.std.specs.Prelude.{slice_range}
use Rattle.std.proofs.lemmas.List.{append_cancel_right, map-append, length-map}
use Rattle.std.proofs.lemmas.List.Folds.{drop_split}
use Rattle.tb_tree.specs.Sym.{Sym}
use Rattle.tb_tree.specs.Longest.{Found, Lacks}
use Rattle.tb_tree.proofs.Ends.{shorter}
use Rattle.tb_scan.specs.declared.token.Token.{Token}
use Rattle.tb_parse_type.specs.Symbols.{seen, symbols}
use Rattle.tb_parse_type.specs.Fronts.{between}
use Rattle.tb_parse_body.specs.Fronts.{IsReading, HasNoReading}
use Rattle.tb_parse_body.specs.Rules.{Deep}

-- what is between two places, and what follows
split_at : (tokens : List Token) (text : List ℕ) (at end : ℕ) → at ≤ end → symbols text (drop at tokens) ≡ between tokens text at end ++ symbols text (drop end tokens)
split_at tokens text at end h = ap (symbols text) (drop_split tokens at end h) ∙ map-append (seen text) (slice_range tokens at end) (drop end tokens)

left_from : (tokens : List Token) (text : List ℕ) (at : ℕ) → length (symbols text (drop at tokens)) ≡ length tokens - at
left_from tokens text at = length-map (drop at tokens) (seen text) ∙ length-drop at tokens

-- what U derives with a depth, D derives, and the other way round
abbrev pub Within : {X : Type 0} → (List Sym → Deep X → Type 0) → (List Sym → X → Type 0) → Type 0
Within {X = X} U D = (a : List Sym) (x : X) → D a x → (depth : ℕ) × U a (x, depth)

abbrev pub Without : {X : Type 0} → (List Sym → Deep X → Type 0) → (List Sym → X → Type 0) → Type 0
Without {X = X} U D = (a : List Sym) (x : X) (depth : ℕ) → U a (x, depth) → D a x

pub is_reading : {X : Type 0} {U : List Sym → Deep X → Type 0} {D : List Sym → X → Type 0} {C : Sym → Type 0} {of : X} {depth : ℕ} → Within U D → Without U D
    → (tokens : List Token) (text : List ℕ) (at end : ℕ) → at ≤ length tokens → end ≤ length tokens
    → Found U C (symbols text (drop at tokens)) (of, depth) (symbols text (drop end tokens)) → IsReading D tokens text at of end
is_reading {X = X} {U = U} {D = D} {of = of} {depth = depth} back forth tokens text at end h within f = record {
  ordered = ordered;
  within = within;
  derives = subst (λ v. D v of) front (forth f.front of depth f.derives);
  only = λ other q. only other q;
  longest = λ further other p w q. longest further other p w q;
}
  where
    ordered : at ≤ end
    ordered = omega (arith, shorter f, left_from tokens text at, left_from tokens text end, h, within)

    front : f.front ≡ between tokens text at end
    front = append_cancel_right f.front (between tokens text at end) (symbols text (drop end tokens)) (sym f.whole ∙ split_at tokens text at end ordered)

    only : (other : X) → D (between tokens text at end) other → other ≡ of
    only other q =
        let u = back (between tokens text at end) other q in
        elim (f.longest (between tokens text at end) (other, u.0) (symbols text (drop end tokens)) u.1 (split_at tokens text at end ordered)) [
          | inl o ↦ sym (ap (λ (r : Deep X). r.0) o.0)
          | inr o ↦ absurd (omega (arith, o.0))
        ]

    longest : (further : ℕ) (other : X) → end < further → further ≤ length tokens → D (between tokens text at further) other → ⊥
    longest further other p w q =
        let u = back (between tokens text at further) other q in
        let before : at ≤ further = omega (arith, ordered, p) in
        elim (f.longest (between tokens text at further) (other, u.0) (symbols text (drop further tokens)) u.1 (split_at tokens text at further before)) [
          | inl o ↦ omega (arith, ap length o.1, left_from tokens text end, left_from tokens text further, p, w)
          | inr o ↦ omega (arith, o.0, left_from tokens text end, left_from tokens text further, p, w)
        ]

pub has_no_reading : {X : Type 0} {U : List Sym → Deep X → Type 0} {D : List Sym → X → Type 0} → Within U D
    → (tokens : List Token) (text : List ℕ) (at : ℕ) → Lacks U (symbols text (drop at tokens)) → HasNoReading D tokens text at
has_no_reading back tokens text at f = record {
  none = λ end other h w q.
      let u = back (between tokens text at end) other q in
      f.none (between tokens text at end) (other, u.0) (symbols text (drop end tokens)) u.1 (split_at tokens text at end h);
}
