-- The checks, one after the other.
use Rattle.std.proofs.Common.{◌≡◌, ℕ, List, refl, sym, ap, subst, ◌∙◌, codes}
use Rattle.std.specs.Prelude.{Option, Some, Result, Ok, Err, unwrap_or}
use Rattle.tb_text.specs.declared.statuses.UsageFault.{UsageFault}
use Rattle.tb_words.specs.declared.commands.Command.{Command}
use Rattle.tb_words.specs.declared.commands.WordsFault.{WordsFault}
use Rattle.tb_words.specs.declared.commands.WordsFault.TheVariants as fault
use Rattle.tb_words.specs.Answers.{Gives, GivesReading}
use Rattle.tb_words.specs.Commands.{bad_pair, pair_fault, roots_by, checked, checked_reading, command_of}
use Rattle.tb_words.specs.Numbers.{optional_number}
use Rattle.tb_words.specs.Readings.{Given, reading_of}

abbrev workers_of : Given → Result (Option ℕ) UsageFault
workers_of g = optional_number (codes "--workers") 1 64 g.workers

abbrev turns_of : Given → Result (Option ℕ) UsageFault
turns_of g = optional_number (codes "--turns") 1 4294967295 g.turns

abbrev generator_of : Given → Result (Option ℕ) UsageFault
generator_of g = optional_number (codes "--gen") 1 500 g.gen_number

pub bad_workers : (g : Given) (e : WordsFault) → Gives (workers_of g) (Err e) → Gives (checked g) (Err e)
bad_workers g (fault.Usage u) h = rw h refl
bad_workers g fault.NoMemory h = tt

pub bad_turns : (g : Given) (w : Option ℕ) (e : WordsFault) → workers_of g ≡ Ok w → Gives (turns_of g) (Err e) → Gives (checked g) (Err e)
bad_turns g w (fault.Usage u) ew h = rw (ew, h) refl
bad_turns g w fault.NoMemory ew h = tt

pub bad_generator : (g : Given) (w t : Option ℕ) (e : WordsFault) → workers_of g ≡ Ok w → turns_of g ≡ Ok t → Gives (generator_of g) (Err e) → Gives (checked g) (Err e)
bad_generator g w t (fault.Usage u) ew et h = rw (ew, et, h) refl
bad_generator g w t fault.NoMemory ew et h = tt

pub bad_pairs : (g : Given) (w t n : Option ℕ) (e : WordsFault) → workers_of g ≡ Ok w → turns_of g ≡ Ok t → generator_of g ≡ Ok n → Gives (pair_fault (bad_pair g)) (Err e) → Gives (checked g) (Err e)
bad_pairs g w t n (fault.Usage u) ew et en h = rw (ew, et, en, h) refl
bad_pairs g w t n fault.NoMemory ew et en h = tt

pub bad_roots : (g : Given) (w t n : Option ℕ) (e : WordsFault) → workers_of g ≡ Ok w → turns_of g ≡ Ok t → generator_of g ≡ Ok n → pair_fault (bad_pair g) ≡ Ok tt → Gives (roots_by n g.roots) (Err e) → Gives (checked g) (Err e)
bad_roots g w t n (fault.Usage u) ew et en ep h = rw (ew, et, en, ep, h) refl
bad_roots g w t n fault.NoMemory ew et en ep h = tt

pub all_checked : (g : Given) (w t n : Option ℕ) (roots : List (List ℕ)) → workers_of g ≡ Ok w → turns_of g ≡ Ok t → generator_of g ≡ Ok n → pair_fault (bad_pair g) ≡ Ok tt → roots_by n g.roots ≡ Ok roots
    → let command : Command = record { force = g.force; clean = g.clean; dry = g.dry; watch = g.watch; verbose = g.verbose; workers = unwrap_or w 4; turns = unwrap_or t 4294967295; gen_number = n; roots = roots } in
    checked g ≡ Ok command
all_checked g w t n roots ew et en ep er = rw (ew, et, en, ep, er) refl

pub not_read : (words : List (List ℕ)) (e : WordsFault) → GivesReading (reading_of words) (Err e) → Gives (command_of words) (Err e)
unfolding command_of
not_read words (fault.Usage u) h = ap checked_reading h.0 ∙ ap Err (sym h.1)
not_read words fault.NoMemory h = tt

pub was_read : (words : List (List ℕ)) (g : Given) (r : Result Command WordsFault) → reading_of words ≡ Some g → Gives (checked g) r → Gives (command_of words) r
unfolding command_of
was_read words g r is h = subst (λ (x : Result Command UsageFault). Gives x r) (sym (ap checked_reading is)) h
