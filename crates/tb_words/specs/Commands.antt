-- The command that words are, or their first fault. This project's own.
use Rattle.std.specs.Prelude.{ℕ, Bool, true, false, ◌&&◌, List, [], ◌∷◌, Option, Some, None, Result, Ok, Err, if◌then◌else◌, codes, is_some, unwrap_or}
use Rattle.tb_text.specs.declared.statuses.UsageFault.{UsageFault}
use Rattle.tb_text.specs.declared.statuses.UsageFault.TheVariants.{Unread, BadPair}
use Rattle.tb_words.specs.declared.commands.Command.{Command}
use Rattle.tb_words.specs.Answers.{and_then}
use Rattle.tb_words.specs.Numbers.{optional_number}
use Rattle.tb_words.specs.Roots.{roots_of}
use Rattle.tb_words.specs.Readings.{Given, reading_of}

abbrev pub has_roots : List (List ℕ) → Bool
has_roots [] = false
has_roots (word ∷ words) = true

-- the first two that do not go together
abbrev pub bad_pair : Given → Option (List ℕ × List ℕ)
bad_pair g =
    let gen = is_some g.gen_number in
    if g.clean && g.force then Some (codes "--clean", codes "--force")
    else if g.clean && g.verbose then Some (codes "--clean", codes "--verbose")
    else if g.clean && g.watch then Some (codes "--clean", codes "--watch")
    else if g.clean && g.dry then Some (codes "--clean", codes "--dry")
    else if g.dry && g.watch then Some (codes "--dry", codes "--watch")
    else if gen && g.watch then Some (codes "--gen", codes "--watch")
    else if gen && g.clean then Some (codes "--gen", codes "--clean")
    else if gen && g.dry then Some (codes "--gen", codes "--dry")
    else if gen && has_roots g.roots then Some (codes "--gen", codes "root")
    else None

abbrev pub pair_fault : Option (List ℕ × List ℕ) → Result (Unit {0}) UsageFault
pair_fault None = Ok tt
pair_fault (Some pair) = Err (BadPair pair.0 pair.1)

-- the roots of the words; without one it is `tsconfig.json`, and with a generator its own
abbrev pub roots_by : Option ℕ → List (List ℕ) → Result (List (List ℕ)) UsageFault
roots_by (Some gen_number) words = Ok (codes "gen/tsconfig.json" ∷ [])
roots_by None [] = Ok (codes "tsconfig.json" ∷ [])
roots_by None (word ∷ words) = roots_of (word ∷ words)

-- what is checked, in this order: numbers, pairs, roots
abbrev pub checked : Given → Result Command UsageFault
checked g =
    and_then (optional_number (codes "--workers") 1 64 g.workers) (λ workers.
    and_then (optional_number (codes "--turns") 1 4294967295 g.turns) (λ turns.
    and_then (optional_number (codes "--gen") 1 500 g.gen_number) (λ gen_number.
    and_then (pair_fault (bad_pair g)) (λ fine.
    and_then (roots_by gen_number g.roots) (λ roots. Ok (record {
      force = g.force;
      clean = g.clean;
      dry = g.dry;
      watch = g.watch;
      verbose = g.verbose;
      workers = unwrap_or workers 4;
      turns = unwrap_or turns 4294967295;
      gen_number = gen_number;
      roots = roots;
    }))))))

abbrev pub checked_reading : Option Given → Result Command UsageFault
checked_reading None = Err Unread
checked_reading (Some given) = checked given

-- the command of the words after the program's name
unfoldable pub command_of : List (List ℕ) → Result Command UsageFault
command_of words = checked_reading (reading_of words)
