-- What is kept of the matches.
use Rattle.std.proofs.Common.{◌≡◌, ℕ, Bool, true, List, [], ◌∷◌, refl, sym, ap, subst, ◌∙◌, inl, inr}
use Rattle.std.specs.Prelude.{Option, Some, None, Err, ◌⊎◌}
use Rattle.clap.specs.Walk.{Row, Text}
use Rattle.clap.specs.Simple.{App, is_simple, matches_of}
use Rattle.clap.specs.Kinds.{Kinds, IsAmong}
use Rattle.clap.specs.Faults.{fault_of, is_simple_and_free}
use Rattle.clap.specs.declared.error.kind.ErrorKind.{ErrorKind}
use Rattle.clap.specs.declared.error.kind.ErrorKind.TheVariants.{OutOfMemory}
use Rattle.tb_words.specs.Readings.{Given, given_by, reading_of, tsb_app, without_fault}
use Rattle.tb_words.specs.Answers.{GivesReading, refusal_of}

pub same_given : {f f2 c c2 d d2 w w2 v v2 : Bool} {a a2 b b2 g g2 : Option (List ℕ)} {r r2 : List (List ℕ)} → f ≡ f2 → c ≡ c2 → d ≡ d2 → w ≡ w2 → v ≡ v2 → a ≡ a2 → b ≡ b2 → g ≡ g2 → r ≡ r2
    → let x : Given = record { force = f; clean = c; dry = d; watch = w; verbose = v; workers = a; turns = b; gen_number = g; roots = r } in
    let y : Given = record { force = f2; clean = c2; dry = d2; watch = w2; verbose = v2; workers = a2; turns = b2; gen_number = g2; roots = r2 } in x ≡ y
same_given e1 e2 e3 e4 e5 e6 e7 e8 e9 = rw (e1, e2, e3, e4, e5, e6, e7, e8, e9) refl

-- ---- the command is one of which `clap` says all

tsb_is_free : is_simple_and_free tsb_app ≡ true
tsb_is_free = refl

tsb_is_simple : is_simple tsb_app ≡ true
tsb_is_simple = refl

none_read : (kinds : Kinds) (given : Given) (k : ErrorKind) → IsAmong k kinds → without_fault kinds given ≡ None
none_read [] given k h = absurd h
none_read (x ∷ xs) given k h = refl

unread : (words : List Text) (k : ErrorKind) → IsAmong k (fault_of tsb_app words) → reading_of words ≡ None
unfolding reading_of
unread words k among = none_read (fault_of tsb_app words) (given_by (matches_of tsb_app words)) k among

pub reads : (app : App) (words : List Text) (rows : List Row) (given : Given) (rest : Type 0) → app ≡ tsb_app → (is_simple_and_free app ≡ true → fault_of app words ≡ [])
    → (is_simple app ≡ true → (rows ≡ matches_of app words) × rest) → given ≡ given_by rows → reading_of words ≡ Some given
unfolding reading_of
reads app words rows given rest is kinds matches e =
    let none : fault_of tsb_app words ≡ [] = subst (λ (a : App). is_simple_and_free a ≡ true → fault_of a words ≡ []) is kinds tsb_is_free in
    let all = subst (λ (a : App). is_simple a ≡ true → (rows ≡ matches_of a words) × rest) is matches tsb_is_simple in
    ap (λ (ks : Kinds). without_fault ks (given_by (matches_of tsb_app words))) none ∙ ap Some (sym (e ∙ ap given_by all.0))

refused : (words : List Text) (k : ErrorKind) → reading_of words ≡ None → GivesReading (reading_of words) (Err (refusal_of k))
refused words k h = elim k as (λ (x : ErrorKind). GivesReading (reading_of words) (Err (refusal_of x))) [ OutOfMemory ↦ tt | _ ↦ (h, refl) ]

pub refuses : (app : App) (words : List Text) (k : ErrorKind) → app ≡ tsb_app → (is_simple_and_free app ≡ true → (k ≡ OutOfMemory) ⊎ IsAmong k (fault_of app words)) → GivesReading (reading_of words) (Err (refusal_of k))
refuses app words k is kinds =
    elim (subst (λ (a : App). is_simple_and_free a ≡ true → (k ≡ OutOfMemory) ⊎ IsAmong k (fault_of a words)) is kinds tsb_is_free) [
      | inl e ↦ subst (λ (x : ErrorKind). GivesReading (reading_of words) (Err (refusal_of x))) (sym e) tt
      | inr h ↦ refused words k (unread words k h)
    ]
