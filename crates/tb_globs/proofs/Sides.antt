-- Rows that are brought up to date from one side.
use Rattle.std.proofs.Common.{◌≡◌, ℕ, zero, suc, ◌+◌, ◌<◌, ◌≤◌, ◌≢◌, Bool, false, List, [], ◌∷◌, length, drop, get_or, set, refl, sym, ap, ◌∙◌, subst, inl, inr, arith, get_or-set_other, get_or-set_same}
use Rattle.std.specs.Prelude.{◌&&◌, ◌||◌}
use Rattle.std.proofs.lemmas.Bool.{cases_eq}
use Rattle.std.proofs.lemmas.List.{length-map}
use denote.Ref.{Bor}
use Rattle.tb_text.specs.Walks.{texts}
use Rattle.tb_globs.specs.Globs.{through, fits_then, fits, may_pass}
use Rattle.tb_globs.specs.declared.parts.Part.{Part}
use Rattle.tb_globs.specs.declared.parts.UseOf.{UseOf}

-- below n the row has the answers of one question, from n on those of another
pub record Between (row : List Bool) (n : ℕ) (below above : List (List ℕ) → Bool) (ss : List (List ℕ)) : Type 0 where
  pub lower : (k : ℕ) → k < n → k ≤ length ss → get_or row k false ≡ below (drop k ss)
  pub upper : (k : ℕ) → n ≤ k → k ≤ length ss → get_or row k false ≡ above (drop k ss)

-- the rest of the segments at one of them
pub texts_at : (ss : List (Bor (List ℕ))) (k : ℕ) (d : Bor (List ℕ)) → k < length ss → drop k (texts ss) ≡ (get_or ss k d).now ∷ drop (k + 1) (texts ss)
texts_at [] k d l = absurd (omega (arith, l))
texts_at (s ∷ ss) zero d l = refl
texts_at (s ∷ ss) (suc k) d l = texts_at ss k d (omega (arith, l)) ∙ ap (λ (n : ℕ). (get_or ss k d).now ∷ drop n (s.now ∷ texts ss)) next
  where
    next : suc (k + 1) ≡ suc k + 1
    next = omega arith

pub texts_len : (ss : List (Bor (List ℕ))) → length (texts ss) ≡ length ss
texts_len ss = length-map ss (λ s. s.now)

-- one answer more from the back
pub pass_step : (usage : UseOf) (f : List (List ℕ) → Bool) (ss : List (List ℕ)) (row : List Bool) (n m : ℕ) (s : List ℕ) (v passes : Bool) → n ≡ m + 1 → m < length row → drop m ss ≡ s ∷ drop (m + 1) ss → m < length ss → passes ≡ may_pass usage s → v ≡ (get_or row m false || passes && get_or row (m + 1) false) → Between row n f (through usage f) ss → Between (set row m v) m f (through usage f) ss
pass_step usage f ss row n m s v passes e room cut within p h between = record {
  lower = λ k l w. let other : k ≢ m = omega arith in rw get_or-set_other (between.lower k (omega arith) w);
  upper = λ k l w. elim (cases_eq k m) [
    | inl same ↦ subst (λ (j : ℕ). get_or (set row m v) j false ≡ through usage f (drop j ss)) (sym same)
        (get_or-set_same row m v false room ∙ h ∙ ap (λ (a : Bool). a || passes && get_or row (m + 1) false) (between.lower m (omega arith) (omega arith))
        ∙ ap (λ (a : Bool). f (drop m ss) || passes && a) (between.upper (m + 1) (omega arith) (omega arith))
        ∙ ap (λ (a : Bool). f (drop m ss) || a && through usage f (drop (m + 1) ss)) p
        ∙ ap (λ (a : List (List ℕ)). f a || may_pass usage s && through usage f (drop (m + 1) ss)) cut ∙ sym (ap (through usage f) cut))
    | inr differs ↦ let other : k ≢ m = differs in rw get_or-set_other (between.upper k (omega (arith, differs)) w)
  ];
}

-- one answer more from the front
pub take_step : (usage : UseOf) (part : Part) (f : List (List ℕ) → Bool) (ss : List (List ℕ)) (row : List Bool) (m : ℕ) (s : List ℕ) (v here : Bool) → m < length row → drop m ss ≡ s ∷ drop (m + 1) ss → m < length ss → here ≡ fits usage part s → v ≡ (here && get_or row (m + 1) false) → Between row m (fits_then usage part f) f ss → Between (set row m v) (m + 1) (fits_then usage part f) f ss
take_step usage part f ss row m s v here room cut within p h between = record {
  lower = λ k l w. elim (cases_eq k m) [
    | inl same ↦ subst (λ (j : ℕ). get_or (set row m v) j false ≡ fits_then usage part f (drop j ss)) (sym same)
        (get_or-set_same row m v false room ∙ h ∙ ap (λ (a : Bool). here && a) (between.upper (m + 1) (omega arith) (omega arith))
        ∙ ap (λ (a : Bool). a && f (drop (m + 1) ss)) p ∙ sym (ap (fits_then usage part f) cut))
    | inr differs ↦ let other : k ≢ m = differs in rw get_or-set_other (between.lower k (omega (arith, differs)) w)
  ];
  upper = λ k l w. let other : k ≢ m = omega arith in rw get_or-set_other (between.upper k (omega arith) w);
}
