-- Scripts that are played one after the other.
use Rattle.std.proofs.Common.{◌≡◌, ◌<◌, ℕ, zero, suc, Bool, false, List, [], ◌∷◌, ◌++◌, length, get_or, take, take_all, drop, append_assoc, refl, sym, ap, subst, ◌∙◌, arith, IsTrue}
use Rattle.std.specs.Prelude.{All, Option, Some, None, Result, Ok, Err, OnOk, OnErr, true, is_err}
use Rattle.std.specs.List.{AllByRecursion}
use Rattle.std.proofs.lemmas.List.{append-nil}
use Rattle.std.proofs.lemmas.List.Elements.{recursion_from_All}
use Rattle.tb_outside.specs.Causes.{has_failed}
use Rattle.tb_outside.specs.Disk.{Files, Same, read_after, read_after_all}
use Rattle.tb_outside.specs.Laws.{one_files, put_other, moved_other, read_append}
use Rattle.tb_outside.specs.Playing.{IsElsewhere, StopsAt}
use Rattle.tb_outside.specs.declared.disks.DiskStep.{DiskStep}
use Rattle.tb_outside.specs.declared.disks.DiskStep.TheVariants.{Write, Rename, Remove, Sync}
use Rattle.tb_outside.specs.declared.errors.Failed.{Failed}
use Rattle.tb_session.specs.Publishes.{FailsAt, steps_of}
use Rattle.tb_session.specs.declared.publishes.Script.{Script}

-- a path that no step names reads as before
one_elsewhere : (q : List ℕ) (step : DiskStep) (files : Files) → IsElsewhere q step → read_after step files q ≡ files q
one_elsewhere q (Write path text) files h = put_other path (Some text) files q h
one_elsewhere q (Rename from to) files h = moved_other from to files q h.0 h.1
one_elsewhere q (Remove path) files h = put_other path None files q h
one_elsewhere q Sync files h = refl

read_elsewhere : (q : List ℕ) (steps : List DiskStep) (files : Files) → AllByRecursion (IsElsewhere q) steps → read_after_all steps files q ≡ files q
read_elsewhere q [] files h = refl
read_elsewhere q (step ∷ steps) files h = read_elsewhere q steps (read_after step files) h.1 ∙ one_elsewhere q step files h.0

steps_push : (scripts : List Script) (script : Script) → steps_of (scripts ++ script ∷ []) ≡ steps_of scripts ++ script.steps
steps_push [] script = append-nil script.steps
steps_push (s ∷ scripts) script = ap (λ rest. s.steps ++ rest) (steps_push scripts script) ∙ sym (append_assoc s.steps (steps_of scripts) script.steps)

-- the last of the scripts has this config
abbrev pub EndsWith : List Script → Option (List ℕ) → Type 0
EndsWith scripts None = scripts ≡ []
EndsWith scripts (Some config) = (before : List Script) × (script : Script) × (scripts ≡ before ++ script ∷ []) × (config ≡ script.config)

pub one_played : (scripts : List Script) (script : Script) (start then now : Files) → Same (read_after_all (steps_of scripts) start) then → Same (read_after_all script.steps then) now
    → Same (read_after_all (steps_of (scripts ++ script ∷ [])) start) now
one_played scripts script start then now before more path =
    more path ∙ ap (λ (files : Files). read_after_all script.steps files path) (sym (one_files (read_after_all (steps_of scripts) start) then before))
    ∙ sym (ap (λ (ss : List DiskStep). read_after_all ss start path) (steps_push scripts script) ∙ ap (λ (files : Files). files path) (read_append (steps_of scripts) script.steps start))

cut_at : {X : Type 0} (xs : List X) (n : ℕ) (x : X) → n < length xs → x ≡ get_or xs n x → xs ≡ take n xs ++ x ∷ drop (suc n) xs
cut_at [] n x lt e = absurd (omega (arith, lt))
cut_at (y ∷ xs) zero x lt e = ap (λ z. z ∷ xs) (sym e)
cut_at (y ∷ xs) (suc n) x lt e = ap (λ zs. y ∷ zs) (cut_at xs n x (omega (arith, lt)) e)

-- a script failed: those before it were done
pub fails_in : (disk_tells : Bool) (scripts yielded : List Script) (script : Script) (config : List ℕ) (start then now : Files) → length yielded < length scripts → script ≡ get_or scripts (length yielded) script
    → yielded ≡ take (length yielded) scripts → config ≡ script.config → (IsTrue disk_tells → Same (read_after_all (steps_of yielded) start) then)
    → (IsTrue disk_tells → (path : List ℕ) → All (IsElsewhere path) script.steps → now path ≡ then path) → (IsTrue disk_tells → StopsAt script.steps then now) → FailsAt disk_tells scripts config start now
fails_in disk_tells scripts yielded script config start then now lt at so_far named done others stopped = record {
  before = yielded;
  script = script;
  after = drop (suc (length yielded)) scripts;
  whole = cut_at scripts (length yielded) script lt at ∙ ap (λ (front : List Script). front ++ script ∷ drop (suc (length yielded)) scripts) (sym so_far);
  named = named;
  reads = λ told path apart. others told path apart ∙ done told path;
  stops = λ told.
      let at_one = stopped told in
      let n : ℕ = at_one.0 in
      (n, λ path apart. at_one.2 path apart ∙ ap (λ (files : Files). read_after_all (take n script.steps) files path) (sym (one_files (read_after_all (steps_of yielded) start) then (done told))));
}

-- the last call failed, which has all stay
pub fails_last : (disk_tells : Bool) (scripts yielded : List Script) (last : Option (List ℕ)) (config : List ℕ) (start then now : Files) → yielded ≡ scripts → last ≡ Some config → EndsWith yielded last
    → (IsTrue disk_tells → Same (read_after_all (steps_of yielded) start) then) → (IsTrue disk_tells → Same then now) → FailsAt disk_tells scripts config start now
fails_last disk_tells scripts yielded last config start then now all e ends done same =
    let at = subst (EndsWith yielded) e ends in
    let whole : IsTrue disk_tells → (path : List ℕ) → now path ≡ read_after_all at.1.steps (read_after_all (steps_of at.0) start) path = λ told path.
    same told path ∙ done told path ∙ ap (λ (ss : List DiskStep). read_after_all ss start path) (ap steps_of at.2 ∙ steps_push at.0 at.1)
    ∙ ap (λ (files : Files). files path) (read_append (steps_of at.0) at.1.steps start) in
    record {
      before = at.0;
      script = at.1;
      after = [];
      whole = sym all ∙ at.2;
      named = at.3;
      reads = λ told path apart.
          whole told path ∙ read_elsewhere path at.1.steps (read_after_all (steps_of at.0) start) (recursion_from_All (IsElsewhere path) at.1.steps apart);
      stops = λ told. (
        length at.1.steps,
        λ path apart.
            whole told path ∙ ap (λ (ss : List DiskStep). read_after_all ss (read_after_all (steps_of at.0) start) path) (sym (take_all (length at.1.steps) at.1.steps (omega arith))),
      );
    }

-- ---- an answer without a failure

pub from_ok : {X Y : Type 0} (r : Result X Y) (P : Type 0) → is_err r ≡ false → OnOk r P → P
from_ok (Ok x) P e h = h
from_ok (Err y) P e h = absurd (cc)

pub from_err : {X Y : Type 0} (r : Result X Y) (P : Type 0) → is_err r ≡ true → OnErr r P → P
from_err (Ok x) P e h = absurd (cc)
from_err (Err y) P e h = h

pub no_failure : {X : Type 0} (r : Result X Failed) → is_err r ≡ false → has_failed r ≡ false
no_failure (Ok x) e = refl
no_failure (Err y) e = absurd (cc)
