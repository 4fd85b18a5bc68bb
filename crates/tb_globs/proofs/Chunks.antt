-- Chunks of single characters between the stars of a pattern: the first place where a chunk matches serves.
use Rattle.std.proofs.Common.{◌≡◌, ℕ, zero, suc, ◌<◌, ◌≤◌, Bool, true, false, List, [], ◌∷◌, ◌++◌, length, drop, append_assoc, length-append, refl, sym, ap, ◌∙◌, inl, inr, subst, arith}
use Rattle.std.specs.Prelude.{◌==◌, ◌&&◌, ◌||◌}
use Rattle.std.proofs.lemmas.Bool.{false≢true, and_parts, eqb-true, or_left, or_right, or_cases}
use Rattle.std.specs.Str.{chars}
use Rattle.tb_globs.specs.Covers.{covers, some_rest}
use Rattle.tb_globs.specs.Chunks.{AllSingle, Advance, Begins, Found}

AllSingle_push : (front : List ℕ) (w : ℕ) → AllSingle front → (w == 42) ≡ false → AllSingle (front ++ w ∷ [])
AllSingle_push [] w all e = (e, tt)
AllSingle_push (c ∷ cs) w all e = (all.0, AllSingle_push cs w all.1 e)

-- a character that stands for one
single_step : (w : ℕ) (after : List ℕ) (c : ℕ) (left : List ℕ) → (w == 42) ≡ false → (w == 63 || w == c) ≡ true → covers (w ∷ after) (c ∷ left) ≡ covers after left
single_step w after c left single matches = rw (single, matches) refl

drop_one_more : (n : ℕ) (t : List ℕ) (c : ℕ) (left : List ℕ) → c ∷ left ≡ drop n t → left ≡ drop (suc n) t
drop_one_more zero [] c left e = absurd (cc)
drop_one_more zero (x ∷ t) c left e = cc
drop_one_more (suc n) [] c left e = absurd (cc)
drop_one_more (suc n) (x ∷ t) c left e = drop_one_more n t c left e

length_push_one : (xs : List ℕ) (x : ℕ) → length (xs ++ x ∷ []) ≡ suc (length xs)
length_push_one [] x = refl
length_push_one (y ∷ ys) x = ap suc (length_push_one ys x)

pub one_more : (p t : List ℕ) (w : ℕ) (after left : List ℕ) (c : ℕ) (next : List ℕ) → Advance p t (w ∷ after) left → (w == 42) ≡ false → left ≡ c ∷ next → (w == 63 || w == c) ≡ true → Advance p t after next
one_more p t w after left c next a single e matches = record {
  front = a.front ++ w ∷ [];
  single = AllSingle_push a.front w a.single single;
  whole = a.whole ∙ sym (append_assoc a.front (w ∷ []) after);
  shorter = drop_one_more (length a.front) t c next (sym e ∙ a.shorter) ∙ ap (λ (n : ℕ). drop n t) (sym (length_push_one a.front w));
  same = a.same ∙ ap (covers (w ∷ after)) e ∙ single_step w after c next single matches;
}

-- ---- the first place serves

-- single characters and then a star: where that matches, the star's rest matches behind them
past_single : (u r x : List ℕ) → AllSingle u → covers (u ++ r) x ≡ true → covers r (drop (length u) x) ≡ true
past_single [] r x all e = e
past_single (w ∷ u) r [] all e = absurd (false≢true (rw all.0 at e))
past_single (w ∷ u) r (c ∷ x) all e =
    let h : ((w == 63 || w == c) && covers (u ++ r) x) ≡ true = rw all.0 at e in
    past_single u r x all.1 (and_parts (w == 63 || w == c) (covers (u ++ r) x) h).1

-- a rest of a rest is a rest
rest_of_rest : (f : List ℕ → Bool) (n : ℕ) (x : List ℕ) → some_rest f (drop (suc n) x) ≡ true → some_rest f (drop n x) ≡ true
rest_of_rest f zero [] e = e
rest_of_rest f zero (c ∷ x) e = or_right (f (c ∷ x)) (some_rest f x) e
rest_of_rest f (suc n) [] e = e
rest_of_rest f (suc n) (c ∷ x) e = rest_of_rest f n x e

tail_serves : (u ps t : List ℕ) → AllSingle u → some_rest (covers (u ++ 42 ∷ ps)) t ≡ true → some_rest (covers ps) (drop (length u) t) ≡ true
tail_serves u ps [] all e = past_single u (42 ∷ ps) [] all e
tail_serves u ps (c ∷ cs) all e = elim (or_cases (covers (u ++ 42 ∷ ps) (c ∷ cs)) (some_rest (covers (u ++ 42 ∷ ps)) cs) e) [
  | inl here ↦ past_single u (42 ∷ ps) (c ∷ cs) all here
  | inr later ↦ rest_of_rest (covers ps) (length u) (c ∷ cs) (tail_serves u ps cs all later)
]

some_here : (f : List ℕ → Bool) (t : List ℕ) → f t ≡ true → some_rest f t ≡ true
some_here f [] e = e
some_here f (c ∷ cs) e = or_left (f (c ∷ cs)) (some_rest f cs) e

same_bool : (a b : Bool) → (a ≡ true → b ≡ true) → (b ≡ true → a ≡ true) → a ≡ b
same_bool true b f g = sym (f refl)
same_bool false true f g = g refl
same_bool false false f g = refl

length_rest : (p front rest : List ℕ) → p ≡ front ++ rest → length rest ≤ length p
length_rest p front rest e = omega (arith, ap length e, length-append front rest)

-- the rest begins with a star
found_star : (p t : List ℕ) (w : ℕ) (ps left : List ℕ) → Begins p t (w ∷ ps) left → Found p t (w ∷ ps) left
found_star p t w ps left b =
    let a = b.so_far in
    let is_star : w ≡ 42 = eqb-true w 42 b.star in
    record {
      same = same_bool (some_rest (covers p) t) (covers (w ∷ ps) (chars left))
          (λ e. let h : some_rest (covers (a.front ++ 42 ∷ ps)) t ≡ true = sym (ap (λ (q : List ℕ). some_rest (covers q) t) (a.whole ∙ ap (λ (v : ℕ). a.front ++ v ∷ ps) is_star)) ∙ e in
          ap (λ (v : ℕ). covers (v ∷ ps) (chars left)) is_star ∙ ap (some_rest (covers ps)) a.shorter ∙ tail_serves a.front ps t a.single h)
          (λ e. some_here (covers p) t (a.same ∙ e));
      star = b.star;
      utf8 = b.utf8;
      within = length_rest p a.front (w ∷ ps) a.whole;
    }

pub found_more : (p t rest left : List ℕ) → Begins p t rest left → 0 < length rest → Found p t rest left
found_more p t [] left b more = absurd (omega (arith, more))
found_more p t (w ∷ ps) left b more = found_star p t w ps left b

-- ---- the next character

pub chunk_more : (p t rest left : List ℕ) (w : ℕ) (after : List ℕ) (c : ℕ) (next : List ℕ) → Advance p t rest left → rest ≡ w ∷ after → (w == 42) ≡ false → left ≡ c ∷ next → (w == 63 || w == c) ≡ true → Advance p t after next
chunk_more p t rest left w after c next a r single e matches = one_more p t w after left c next (subst (λ (q : List ℕ). Advance p t q left) r a) single e matches
