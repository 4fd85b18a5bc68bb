-- From the longest front of a list of symbols to the tokens between two places.
use Rattle.std.proofs.Common.{◌≡◌, ℕ, ◌-◌, ◌≤◌, ◌<◌, List, ◌++◌, length, drop, sym, ◌∙◌, ap, subst, inl, inr, arith, length-drop}
use Rattle.std.specs.Prelude.{slice_range}
use Rattle.std.proofs.lemmas.List.{append_cancel_right, map-append, length-map}
use Rattle.std.proofs.lemmas.List.Folds.{drop_split}
use Rattle.tb_tree.specs.declared.types.TypeExpr.{TypeExpr}
use Rattle.tb_tree.specs.Sym.{Sym}
use Rattle.tb_tree.specs.Longest.{Found, Lacks}
use Rattle.tb_tree.specs.Shapes.{max_depth}
use Rattle.tb_tree.specs.Types.{IsType, DerivesType}
use Rattle.tb_tree.proofs.Ends.{shorter}
use Rattle.tb_scan.specs.declared.token.Token.{Token}
use Rattle.tb_parse_type.specs.Symbols.{seen, symbols}
use Rattle.tb_parse_type.specs.Fronts.{between, IsReading, HasNoReading}
use Rattle.tb_parse_type.specs.Rules.{Counted, limits, TypeUpto, InType}
use Rattle.tb_parse_type.proofs.Depths.{type_shallow}

-- what is between two places, and what follows
split_at : (tokens : List Token) (text : List ℕ) (at end : ℕ) → at ≤ end → symbols text (drop at tokens) ≡ between tokens text at end ++ symbols text (drop end tokens)
split_at tokens text at end h = ap (symbols text) (drop_split tokens at end h) ∙ map-append (seen text) (slice_range tokens at end) (drop end tokens)

left_from : (tokens : List Token) (text : List ℕ) (at : ℕ) → length (symbols text (drop at tokens)) ≡ length tokens - at
left_from tokens text at = length-map (drop at tokens) (seen text) ∙ length-drop at tokens

-- a type within its own count is within the other one too
upto : {a : List Sym} {of : TypeExpr} (d : DerivesType a of) → TypeUpto (limits max_depth max_depth) a (of, d.0, d.1)
upto d = (d.2, (d.3, omega (arith, type_shallow d.2, d.3)))

pub is_reading : {of : TypeExpr} {own depth : ℕ} (tokens : List Token) (text : List ℕ) (at end : ℕ) → at ≤ length tokens → end ≤ length tokens
    → Found (TypeUpto (limits max_depth max_depth)) InType (symbols text (drop at tokens)) (of, own, depth) (symbols text (drop end tokens)) → IsReading tokens text at of end
is_reading {of = of} {own = own} {depth = depth} tokens text at end h within f = record {
  ordered = ordered;
  within = within;
  derives = (own, depth, subst (λ v. IsType v of own depth) front f.derives.0, f.derives.1.0);
  only = λ other q. only other q;
  longest = λ further other p w q. longest further other p w q;
}
  where
    ordered : at ≤ end
    ordered = omega (arith, shorter f, left_from tokens text at, left_from tokens text end, h, within)

    front : f.front ≡ between tokens text at end
    front = append_cancel_right f.front (between tokens text at end) (symbols text (drop end tokens)) (sym f.whole ∙ split_at tokens text at end ordered)

    only : (other : TypeExpr) → DerivesType (between tokens text at end) other → other ≡ of
    only other q = elim (f.longest (between tokens text at end) (other, q.0, q.1) (symbols text (drop end tokens)) (upto q) (split_at tokens text at end ordered)) [
      | inl o ↦ sym (ap (λ (r : Counted TypeExpr). r.0) o.0)
      | inr o ↦ absurd (omega (arith, o.0))
    ]

    longest : (further : ℕ) (other : TypeExpr) → end < further → further ≤ length tokens → DerivesType (between tokens text at further) other → ⊥
    longest further other p w q =
        let before : at ≤ further = omega (arith, ordered, p) in
        elim (f.longest (between tokens text at further) (other, q.0, q.1) (symbols text (drop further tokens)) (upto q) (split_at tokens text at further before)) [
          | inl o ↦ omega (arith, ap length o.1, left_from tokens text end, left_from tokens text further, p, w)
          | inr o ↦ omega (arith, o.0, left_from tokens text end, left_from tokens text further, p, w)
        ]

pub has_no_reading : (tokens : List Token) (text : List ℕ) (at : ℕ) → Lacks (TypeUpto (limits max_depth max_depth)) (symbols text (drop at tokens)) → HasNoReading tokens text at
has_no_reading tokens text at f = record {
  none = λ end other h w q. f.none (between tokens text at end) (other, q.0, q.1) (symbols text (drop end tokens)) (upto q) (split_at tokens text at end h);
}
