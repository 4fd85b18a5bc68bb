-- Pieces, one after the other.
use Rattle.std.proofs.Common.{◌≡◌, ℕ, ◌+◌, List, [], ◌++◌, take, drop, sym, ap, subst, ◌∙◌, refl, append_assoc}
use Rattle.std.proofs.lemmas.List.{append-nil, take-append-drop, drop-drop, append_cancel_left}
use Rattle.std.proofs.Math.Seq.{take-add}
use Rattle.tb_scan.specs.Pieces.{Run, Stops, IsFront}

-- one piece more at the end
pub run_snoc : (P : List ℕ → List ℕ → Type 0) (t zs p ys : List ℕ) → Run P t zs → zs ≡ p ++ ys → P p ys → Run P (t ++ p) ys
run_snoc P _ zs p ys (Run.none _) e h = subst (λ x. Run P x ys) (append-nil p) (Run.more p [] ys h (Run.none ys))
run_snoc P _ zs p ys (Run.more q t _ first rest) e h =
    subst (λ x. Run P x ys) (sym (append_assoc q t p))
    (Run.more q (t ++ p) ys (subst (λ x. P q x) (ap (λ x. t ++ x) e ∙ sym (append_assoc t p ys)) first) (run_snoc P t zs p ys rest e h))

-- a run of i bytes, and a piece behind it
pub run_on : (P : List ℕ → List ℕ → Type 0) (xs : List ℕ) (i n : ℕ) → Run P (take i xs) (drop i xs) → IsFront P (drop i xs) n → Run P (take (i + n) xs) (drop (i + n) xs)
run_on P xs i n r f =
    let piece : P (take n (drop i xs)) (drop (i + n) xs) = subst (λ x. P (take n (drop i xs)) x) (drop-drop n i xs) f.piece in
    subst (λ x. Run P x (drop (i + n) xs)) (sym (take-add i n xs))
    (run_snoc P (take i xs) (drop i xs) (take n (drop i xs)) (drop (i + n) xs) r
    (sym (take-append-drop n (drop i xs)) ∙ ap (λ x. take n (drop i xs) ++ x) (drop-drop n i xs)) piece)

-- where a piece begins, one piece begins
pub record IsExact (P : List ℕ → List ℕ → Type 0) : Type 0 where
  pub same : (p ys q zs : List ℕ) → P p ys → P q zs → p ++ ys ≡ q ++ zs → p ≡ q

-- the run (t, ys) goes on from (u, zs) by m
pub record GoesOn (P : List ℕ → List ℕ → Type 0) (t ys u zs : List ℕ) : Type 0 where
  pub by : List ℕ
  pub longer : t ≡ u ++ by
  pub left : zs ≡ by ++ ys
  pub run : Run P by ys

-- a run that stops where no piece begins is the longest
pub run_longest : (P : List ℕ → List ℕ → Type 0) → IsExact P → (t ys u zs : List ℕ) → Run P t ys → Stops P ys → Run P u zs → t ++ ys ≡ u ++ zs → GoesOn P t ys u zs
run_longest P exact t ys _ zs r stops (Run.none _) e = record { by = t; longer = refl; left = sym e; run = r }
run_longest P exact _ ys _ zs (Run.none _) stops (Run.more q u _ h s) e = absurd (stops.never q (u ++ zs) (e ∙ append_assoc q u zs) h)
run_longest P exact _ ys _ zs (Run.more p t _ g r) stops (Run.more q u _ h s) e =
    let whole : p ++ (t ++ ys) ≡ q ++ (u ++ zs) = sym (append_assoc p t ys) ∙ e ∙ append_assoc q u zs in
    let same : p ≡ q = exact.same p (t ++ ys) q (u ++ zs) g h whole in
    let rest : t ++ ys ≡ u ++ zs = append_cancel_left q (t ++ ys) (u ++ zs) (subst (λ x. x ++ (t ++ ys) ≡ q ++ (u ++ zs)) same whole) in
    let on = run_longest P exact t ys u zs r stops s rest in
    record {
      by = on.by;
      longer = ap (λ x. x ++ t) same ∙ ap (λ x. q ++ x) on.longer ∙ sym (append_assoc q u on.by);
      left = on.left;
      run = on.run;
    }

run_nothing : (P : List ℕ → List ℕ → Type 0) (t ys zs : List ℕ) → Run P t ys → zs ≡ t ++ ys → Stops P zs → ys ≡ zs
run_nothing P _ ys zs (Run.none _) e stops = sym e
run_nothing P _ ys zs (Run.more p t _ h r) e stops = absurd (stops.never p (t ++ ys) (e ∙ append_assoc p t ys) h)

-- two runs that stop are one
pub run_same : (P : List ℕ → List ℕ → Type 0) → IsExact P → (t ys u zs : List ℕ) → Run P t ys → Stops P ys → Run P u zs → Stops P zs → t ++ ys ≡ u ++ zs → ys ≡ zs
run_same P exact t ys u zs r stops s ends e =
    let on = run_longest P exact t ys u zs r stops s e in
    run_nothing P on.by ys zs on.run on.left ends
