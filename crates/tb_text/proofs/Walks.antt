-- Where the parts of a text lead, over lists of borrowed texts.
use Rattle.std.proofs.Common.{◌≡◌, subst, suc, drop, drop-cons, get_or, ℕ, ◌<◌, ◌≤◌, Bool, true, false, List, [], ◌∷◌, ◌++◌, length, refl, sym, ap, ◌∙◌, arith}
use Rattle.std.specs.Prelude.{Option, Some, None, fold, is_some, option_to_list, nat_le, ◌&&◌, if◌then◌else◌}
use Rattle.std.proofs.lemmas.List.{append-nil, map-append}
use Rattle.std.proofs.lemmas.List.Folds.{fold_stays}
use Rattle.std.specs.List.{join_by, list_all}
use Rattle.std.specs.Str.{bytes_eq}
use Rattle.std.proofs.lemmas.Bool.{le-leb, lt-leb}
use Rattle.tb_text.specs.Paths.{gone_up, is_segment, path_of, path_text, step_by, without_last}
use Rattle.tb_text.specs.Walks.{AllBare, Bare, reached, texts}
use Rattle.tb_text.proofs.Segments.{bare_append, bare_without_last, without_last_append}
use denote.Ref.{Bor}

up_from : (xs : List (List ℕ)) (y : List ℕ) → gone_up (xs ++ y ∷ []) ≡ Some (without_last (xs ++ y ∷ []))
up_from [] y = refl
up_from (x ∷ xs) y = refl

-- a place whose last part was taken off
pub popped : (old new : List (Bor (List ℕ))) (r : Option (Bor (List ℕ))) → old ≡ new ++ option_to_list r → (0 < length old → is_some r ≡ true) → reached (is_some r) (texts new) ≡ gone_up (texts old)
popped [] new None e some = refl
popped (x ∷ old) new None e some = absurd (cc (some (omega arith)))
popped old new (Some y) e some =
    sym (ap (λ (l : List (Bor (List ℕ))). gone_up (texts l)) e
    ∙ ap gone_up (map-append (λ (s : Bor (List ℕ)). s.now) new (y ∷ []))
    ∙ up_from (texts new) y.now
    ∙ ap Some (without_last_append (texts new) y.now))

pub none_stays : (way : List (List ℕ)) → fold step_by None way ≡ None
none_stays way = fold_stays step_by None (λ x. refl) way

pub goes_up : (old new : List (Bor (List ℕ))) (r : Option (Bor (List ℕ))) (stays : Bool) (part : List ℕ) → old ≡ new ++ option_to_list r → (0 < length old → is_some r ≡ true) → stays ≡ is_some r → bytes_eq part (46 ∷ []) ≡ false → bytes_eq part (46 ∷ 46 ∷ []) ≡ true → reached stays (texts new) ≡ step_by (Some (texts old)) part
goes_up old new r stays part e some s other up =
    ap (λ (b : Bool). reached b (texts new)) s ∙ popped old new r e some
    ∙ sym (ap (λ (b : Bool). if b then Some (texts old) else if bytes_eq part (46 ∷ 46 ∷ []) then gone_up (texts old) else Some (texts old ++ part ∷ [])) other
    ∙ ap (λ (b : Bool). if b then gone_up (texts old) else Some (texts old ++ part ∷ [])) up)

-- a way that has left the root
pub stopped : (at start : List (List ℕ)) (way : List (Bor (List ℕ))) (i : ℕ) (d : Bor (List ℕ)) → fold step_by (Some at) (texts (drop i way)) ≡ fold step_by (Some start) (texts way) → i < length way → None ≡ step_by (Some at) (get_or way i d).now → None ≡ fold step_by (Some start) (texts way)
stopped at start way i d kept l left =
    sym (none_stays (texts (drop (suc i) way)))
    ∙ ap (λ (o : Option (List (List ℕ))). fold step_by o (texts (drop (suc i) way))) left
    ∙ ap (λ (l : List (Bor (List ℕ))). fold step_by (Some at) (texts l)) (sym (drop-cons way i d l))
    ∙ kept

-- ---- what is led to has no "/" in its parts

BareAt : Option (List (List ℕ)) → Type 0
BareAt None = Unit {0}
BareAt (Some at) = AllBare at

bare_up : (at : List (List ℕ)) → AllBare at → BareAt (gone_up at)
unfolding BareAt
bare_up [] all = tt
bare_up (s ∷ rest) all = bare_without_last (s ∷ rest) all

bare_choice : (stay up : Bool) (at : List (List ℕ)) (part : List ℕ) → Bare part → AllBare at → BareAt (if stay then Some at else if up then gone_up at else Some (at ++ part ∷ []))
unfolding BareAt
bare_choice true up at part bare all = all
bare_choice false true at part bare all = bare_up at all
bare_choice false false at part bare all = bare_append at (part ∷ []) all (bare, tt)

bare_step : (o : Option (List (List ℕ))) (part : List ℕ) → Bare part → BareAt o → BareAt (step_by o part)
unfolding BareAt
bare_step None part bare all = tt
bare_step (Some at) part bare all = bare_choice (bytes_eq part (46 ∷ [])) (bytes_eq part (46 ∷ 46 ∷ [])) at part bare all

bare_led : (o : Option (List (List ℕ))) (way : List (List ℕ)) → AllBare way → BareAt o → BareAt (fold step_by o way)
bare_led o [] ways all = all
bare_led o (part ∷ way) ways all = bare_led (step_by o part) way ways.1 (bare_step o part ways.0 all)

pub bare_end : (stays : Bool) (end start way : List (List ℕ)) → stays ≡ true → reached stays end ≡ fold step_by (Some start) way → AllBare start → AllBare way → AllBare end
unfolding BareAt
bare_end stays end start way root e all ways =
    subst BareAt (sym e ∙ ap (λ (b : Bool). reached b end) root) (bare_led (Some start) way ways all)

-- ---- parts put together

joined_text : (x : Bor (List ℕ)) (xs : List (Bor (List ℕ))) → join_by (λ (s : Bor (List ℕ)). s.now) (47 ∷ []) (x ∷ xs) ≡ path_text (texts (x ∷ xs))
joined_text x [] = append-nil x.now
joined_text x (y ∷ ys) = ap (λ (t : List ℕ). x.now ++ 47 ∷ t) (joined_text y ys)

pub joined_texts : (xs : List (Bor (List ℕ))) → join_by (λ (s : Bor (List ℕ)). s.now) (47 ∷ []) xs ≡ path_text (texts xs)
joined_texts [] = refl
joined_texts (x ∷ xs) = joined_text x xs

and_false : (a : Bool) → (a && false) ≡ false
and_false true = refl
and_false false = refl

some_path : List (List ℕ) → Bool → Option (List ℕ)
some_path parts b = if b then Some (path_text parts) else None

pub path_of_bad : (parts : List (List ℕ)) → list_all is_segment parts ≡ false → path_of parts ≡ None
unfolding some_path
path_of_bad parts e = ap (some_path parts) (ap (λ (b : Bool). nat_le (length (path_text parts)) 1024 && b) e ∙ and_false (nat_le (length (path_text parts)) 1024))

pub path_of_long : (parts : List (List ℕ)) → 1024 < length (path_text parts) → path_of parts ≡ None
unfolding some_path
path_of_long parts l = ap (λ (b : Bool). some_path parts (b && list_all is_segment parts)) (lt-leb (length (path_text parts)) 1024 l)

pub path_of_whole : (parts : List (List ℕ)) → length (path_text parts) ≤ 1024 → list_all is_segment parts ≡ true → path_of parts ≡ Some (path_text parts)
unfolding some_path
path_of_whole parts l e = ap (λ (b : Bool). some_path parts (b && list_all is_segment parts)) (le-leb (length (path_text parts)) 1024 l) ∙ ap (some_path parts) e
