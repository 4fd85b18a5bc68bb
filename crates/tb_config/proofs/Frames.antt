-- The frames of a walk, and the sets beside them.
use Rattle.std.proofs.Common.{ℕ, ◌≡◌, Bool, true, false, cond, List, [], ◌∷◌, ◌++◌, ◌||◌, map, reverse, sym, ap, subst, ◌∙◌, refl}
use Rattle.std.proofs.lemmas.List.{reverse-append}
use Rattle.std.specs.BTreeSet.{BTreeSet, contains, UpdatesBy}
use Rattle.std.specs.Ordering.{is_eq}
use Rattle.std.specs.Str.{bytes_eq}
use Rattle.tb_text.specs.Bytes.{bytes_cmp}
use Rattle.tb_config.specs.Walks.{Step, is_in}
use Rattle.tb_config.specs.Stacks.{chain_in, steps_in, chain_of, steps_of, steps_to, AreApart, IsSound}
use Rattle.tb_config.specs.declared.walks.Frame.{Frame}
use Rattle.tb_config.proofs.Paths.{same_path, bytes_eq-symm, is_eq-path, is_in-append}

-- ---- one frame more

pub reverse_push : {X : Type 0} (xs : List X) (x : X) → reverse (xs ++ x ∷ []) ≡ x ∷ reverse xs
reverse_push xs x = reverse-append xs (x ∷ [])

pub chain_push : (frames : List Frame) (frame : Frame) → chain_of (frames ++ frame ∷ []) ≡ frame.path ∷ chain_of frames
chain_push frames frame = ap chain_in (reverse_push frames frame)

pub steps_push : (frames : List Frame) (frame : Frame)
    → steps_of (frames ++ frame ∷ []) ≡ map (λ base. (frame.path ∷ chain_of frames, base)) (reverse frame.left.items) ++ steps_of frames
steps_push frames frame = ap steps_in (reverse_push frames frame)

-- nothing is left to meet at the innermost frame
pub steps_out : (frames : List Frame) (frame : Frame) → frame.left.items ≡ [] → steps_of (frames ++ frame ∷ []) ≡ steps_of frames
steps_out frames frame none = steps_push frames frame ∙ ap (λ left. map (λ base. (frame.path ∷ chain_of frames, base)) (reverse left) ++ steps_of frames) none

-- the next base of the innermost frame is taken off
pub steps_on : (frames : List Frame) (old new : Frame) (base : List ℕ) → new.path ≡ old.path → old.left.items ≡ new.left.items ++ base ∷ []
    → steps_of (frames ++ old ∷ []) ≡ steps_to base (frames ++ new ∷ [])
steps_on frames old new base same left =
    let tagged : List ℕ → List (List ℕ) → List Step = λ path bases. map (λ b. (path ∷ chain_of frames, b)) bases in
    let taken : reverse old.left.items ≡ base ∷ reverse new.left.items = ap reverse left ∙ reverse_push new.left.items base in
    let to : steps_to base (frames ++ new ∷ []) ≡ (new.path ∷ chain_of frames, base) ∷ (tagged new.path (reverse new.left.items) ++ steps_of frames) =
    ap (λ chain. (chain, base) ∷ steps_of (frames ++ new ∷ [])) (chain_push frames new) ∙ ap (λ steps. (new.path ∷ chain_of frames, base) ∷ steps) (steps_push frames new) in
    steps_push frames old
    ∙ ap (λ bases. tagged old.path bases ++ steps_of frames) taken
    ∙ ap (λ path. (path ∷ chain_of frames, base) ∷ (tagged path (reverse new.left.items) ++ steps_of frames)) (sym same)
    ∙ sym to

-- the bases of a config that is entered are the steps from there
pub steps_into : (frames : List Frame) (frame : Frame) (path : List ℕ) (bases : List (List ℕ)) → frame.path ≡ path → reverse frame.left.items ≡ bases
    → steps_of (frames ++ frame ∷ []) ≡ map (λ base. (path ∷ chain_of frames, base)) bases ++ steps_of frames
steps_into frames frame path bases same left =
    steps_push frames frame
    ∙ ap (λ p. map (λ base. (p ∷ chain_of frames, base)) (reverse frame.left.items) ++ steps_of frames) same
    ∙ ap (λ bs. map (λ base. (path ∷ chain_of frames, base)) bs ++ steps_of frames) left

-- ---- the sets

in_test : (b x : Bool) → cond b true x ≡ (x || (b || false))
in_test true true = refl
in_test true false = refl
in_test false true = refl
in_test false false = refl

front_test : (b x : Bool) → cond b true x ≡ (b || x)
front_test true x = refl
front_test false x = refl

out_test : (b x : Bool) → (b ≡ true → x ≡ false) → cond b false (b || x) ≡ x
out_test true x none = sym (none refl)
out_test false x none = refl

pub at_path : (path q : List ℕ) → is_eq (bytes_cmp path q) ≡ bytes_eq q path
at_path path q = is_eq-path path q ∙ bytes_eq-symm path q

pub sound_in : (known opened known' opened' : BTreeSet (List ℕ)) (entered : List (List ℕ)) (frames : List Frame) (frame : Frame) (path : List ℕ) → frame.path ≡ path
    → is_in (chain_of frames) path ≡ false → UpdatesBy bytes_cmp (bytes_cmp path) known known' true → UpdatesBy bytes_cmp (bytes_cmp path) opened opened' true
    → IsSound known opened entered frames → IsSound known' opened' (entered ++ path ∷ []) (frames ++ frame ∷ [])
sound_in known opened known' opened' entered frames frame path same new knows opens sound =
    let chain : chain_of (frames ++ frame ∷ []) ≡ path ∷ chain_of frames = chain_push frames frame ∙ ap (λ p. p ∷ chain_of frames) same in
    record {
      knows = λ q. knows.0 q ∙ ap (λ b. cond b true (contains bytes_cmp known q)) (at_path path q) ∙ ap (λ x. cond (bytes_eq q path) true x) (sound.knows q)
          ∙ in_test (bytes_eq q path) (is_in entered q) ∙ sym (is_in-append entered (path ∷ []) q);
      opens = λ q. opens.0 q ∙ ap (λ b. cond b true (contains bytes_cmp opened q)) (at_path path q) ∙ ap (λ x. cond (bytes_eq q path) true x) (sound.opens q)
          ∙ front_test (bytes_eq q path) (is_in (chain_of frames) q) ∙ ap (λ ps. is_in ps q) (sym chain);
      apart = subst AreApart (sym chain) (new, sound.apart);
    }

pub sound_out : (known opened opened' : BTreeSet (List ℕ)) (entered : List (List ℕ)) (frames : List Frame) (frame : Frame)
    → UpdatesBy bytes_cmp (bytes_cmp frame.path) opened opened' false → IsSound known opened entered (frames ++ frame ∷ []) → IsSound known opened' entered frames
sound_out known opened opened' entered frames frame closes sound =
    let chain = chain_push frames frame in
    let apart : AreApart (frame.path ∷ chain_of frames) = subst AreApart chain sound.apart in
    record {
      knows = sound.knows;
      opens = λ q. closes.0 q ∙ ap (λ b. cond b false (contains bytes_cmp opened q)) (at_path frame.path q)
          ∙ ap (λ x. cond (bytes_eq q frame.path) false x) (sound.opens q ∙ ap (λ ps. is_in ps q) chain)
          ∙ out_test (bytes_eq q frame.path) (is_in (chain_of frames) q) (λ e. ap (is_in (chain_of frames)) (same_path q frame.path e) ∙ apart.0);
      apart = apart.1;
    }

pub sound_on : (known opened : BTreeSet (List ℕ)) (entered : List (List ℕ)) (frames : List Frame) (old new : Frame) → new.path ≡ old.path
    → IsSound known opened entered (frames ++ old ∷ []) → IsSound known opened entered (frames ++ new ∷ [])
sound_on known opened entered frames old new same sound =
    let chain : chain_of (frames ++ old ∷ []) ≡ chain_of (frames ++ new ∷ []) = chain_push frames old ∙ ap (λ p. p ∷ chain_of frames) (sym same) ∙ sym (chain_push frames new) in
    record {
      knows = sound.knows;
      opens = λ q. sound.opens q ∙ ap (λ ps. is_in ps q) chain;
      apart = subst AreApart chain sound.apart;
    }
